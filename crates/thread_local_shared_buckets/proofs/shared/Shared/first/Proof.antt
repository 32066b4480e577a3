-- `first` does what `new` does with buckets whose slots have no value: each slot gets the table's right
-- to tell what it is published with.
use Rattle.std.proofs.Common.{Bool, Option, Some, None, ◌≡◌, ℕ, ◌^◌, ◌<◌, List, [], ◌∷◌, ◌++◌, refl, sym, subst, w64}
use mir.Syntax.{a_type}
use mir.Val.{Val, vint, has_ty}
use mir.MapTy.{inst_fn}
use base.Logic.{SProp, ent, id⊢, via}
use types.Owned.{basic}
use prog.Wp.{WpFn}
use types.Kit.{later, await, ‵, raw, ◌⊛◌, ◌$◌, ◌∵◌, !, qed, by, move, keep, use0, use1}
use types.Kit.{use3, split, join, fsplit, fjoin, rewrite, suffices}
use types.Run.{of_opd, no_more, and_then, returns, enter}
use types.ByLocal.{alloc_all, pass_all, free_all, look_at, get, sets}
use types.Part.{agg}
use contract.Running.{tables}
use contract.Monad.{fact}
use denote.Exit.{yes, no}
use denote.RattleType.{RattleType, owns}
use denote.Signature.{types_at, plain}
use denote.Builtin.{usize}
use denote.Param.{param, layout, layouts}
use denote.Param.Laws.{Laws, param_laws}
use denote.Laws.{Typed}
use denote.Steps.{nothing, heard}
use denote.Triple.Entry.{alive}
use denote.Triple.Walked.{Stays, stay_dropped, walk_of, Goes-dropped}
use Rattle.std.proofs.raw_atomic.Walks.{proved_at, leaves}
use Rattle.std.proofs.cell.Inside.{one, Good}
use Rattle.std.proofs.ResultValues.{and_tt}
use Rattle.thread_local_base.specs.Owned.{IsOwned}
use Rattle.thread_local_ids.specs.Told.{rows_telling}
use Rattle.thread_local_ids.specs.Sharings.{first_of}
use Rattle.thread_local_ids.specs.contracts.rights.right.SlotRights as SlotRights
use Rattle.thread_local_ids.proofs.BlankLaws.{blank_contents}
use Rattle.thread_local_ids.proofs.Markers.{token}
use Rattle.thread_local_ids.proofs.Markers.{told as token_told}
use Rattle.thread_local_base.specs.Buckets.{values}
use Rattle.thread_local_ids.proofs.Rows.{table_whole, rows_first}
use Rattle.thread_local_base.specs.Judged.{Judged}
use Rattle.thread_local_buckets.specs.contracts.bucket_pointers.BucketPointers as all_pointers
use Rattle.thread_local_buckets.proofs.bucket_pointers.BucketPointers.TheLaws as pointers'
use Rattle.thread_local_shared_buckets.specs.TableView.{TableView}
use Rattle.thread_local_shared_buckets.proofs.AnnouncingLaws.{new_rights, rights_new}
use Rattle.thread_local_shared_buckets.specs.Grown.{only_reserved}
use Rattle.thread_local_shared_buckets.specs.contracts.shared.Shared as shared
use Rattle.thread_local_shared_buckets.specs.contracts.shared.Shared.first.{ended, clauses, Key.name as #self}
use Rattle.thread_local_shared_buckets.proofs.Turned.{pair_val, makes_shared}
use Rattle.thread_local_shared_buckets.proofs.shared.Shared.first.Statement.{statement}
use Rattle.thread_local_shared_buckets.proofs.shared.Shared.first.Code as code
use Rattle.thread_local_base.proofs.Walking.{knows}

pub first_spec : {M : Type 1} → statement M
first_spec 𝓤 𝓛 𝓜 𝓡 wired T L =
    let 𝓣 = tables 𝓤 𝓛.H 𝓜 𝓡 𝓡.env in let R : RattleType = param 0 T in let LR : Laws R = param_laws 0 T L in
    let Sh : RattleType = shared.the_row R in
    let Ws : RattleType = all_pointers.the_row R in
    let En = ended T in let c = clauses T 𝓛 𝓜.mem 𝓡.returns in let inst = layouts (a_type ∷ []) (T, tt) in
    let fn = inst_fn inst code.function in let self = plain (λ _. Ws) in let number = plain (λ _. usize) in
    let rights = plain (λ _. SlotRights.the_row) in
    let hs : Stays En.signature.params En.kept =
    (stay_dropped self no, (stay_dropped number yes, (stay_dropped rights yes, tt))) in
    proved_at 𝓛 En hs c 𝓜 𝓡 (
      Goes-dropped 𝓛 1 self no (λ κs x f. refl),
      (Goes-dropped 𝓛 1 number yes (λ κs x f. refl), (Goes-dropped 𝓛 1 rights yes (λ κs x f. refl), tt)),
    )
    (#self inst) fn (code.unfolded 𝓤 𝓛.H 𝓜 𝓡 wired (T, tt)) (λ z are.
    let w : Ws.Denot = z.0.3.0 in let n : ℕ = z.0.3.1.0 in let given_rights = z.0.3.1.1.0 in let table : ℕ = given_rights.table in
    let got = one (layout Ws) z.0.4.0 (((pointers'.the_row_laws R LR).lawful 𝓛).typed w z.0.4.0 are.0) in
    let v : Val = got.0 in
    let fine : Good (layout Ws) v = got.2 in
    let Post : Val → SProp 𝓤 = (walk_of 𝓛 En hs c).post z in
    let Run : List Val → SProp 𝓤 = λ ws. WpFn 𝓤 𝓛.H 𝓣.C 𝓣.Λ fn ws Post in
    let us : List Val = v ∷ vint w64 n ∷ token ∷ [] in
    let see = token_told (SlotRights.the_type).name z.0.4.1.1.0 are.1.1.0.0 in
    let fits : n < 2 ^ 64 = are.1.0.1 in
    let typed : Typed Sh.mir (pair_val v n ∷ []) =
    ((and_tt (has_ty (layout Ws) v) fine.0, (fine.1, (record { fits = fits }, tt))), tt) in
    let Owned : Type 0 = IsOwned (record { contents = w; reserved = n }) in
    let Blank : Type 0 = (id : ℕ) → ◌≡◌ {A = Option T.Denot} (values w id) None in
    let only : Bool = only_reserved (record { contents = w; reserved = n }) in
    qed 𝓛 ((raw (alive 𝓛 En.signature z.0.0 z.0.1)
    ⊛ ‵ (owns (types_at En.signature.params z.0.0) z.0.3 z.0.4))
    ∷ raw (fact 𝓤 _) ∷ raw (fact 𝓤 _) ∷ raw (fact 𝓤 _) ∷ raw (fact 𝓤 (Judged R))
    ∷ raw (fact 𝓤 Owned) ∷ raw (fact 𝓤 Blank) ∷ []) ∵
    keep ! (4 ∷ 5 ∷ 6 ∷ 0 ∷ []) $ heard ! (Judged R) (λ j. heard ! Owned (λ owned. heard ! Blank (λ blank.
    split ! $
    move ! (1 ∷ []) $ fsplit ! $ move ! (1 ∷ []) $ fsplit ! $ move ! (1 ∷ []) $ fsplit ! $ fsplit ! $ keep ! (4 ∷ 5 ∷ 1 ∷ []) $
    -- [the pointers; the tokens; the rights to the slots]
    rewrite ! 0 (λ (ws : List Val). ‵ (Ws.own_val w ws)) got.1 refl $
    suffices ! (Run us) (subst (λ (ws : List Val). ent 𝓤 (Run us) (Run ws))
    (sym (λ i. got.1 i ++ (are.1.0.0 i ++ (see i ++ [])))) (id⊢ 𝓤 (Run us))) $
    enter ! 𝓣.C 𝓣.Λ fn us Post $ alloc_all ! (λ l. pass_all ! refl (fine, ((tt, record { fits = fits }), ((tt, (tt, tt)), tt))) $
    let s : TableView = record { table = table; sharing = Some (first_of table); reserved = n; grown_by_ids = only } in
    move ! (2 ∷ []) $
    use1 𝓛 (‵ (rows_telling R (Some (first_of table)) 0 w.rows))
    (rows_first 𝓛 R table 0 w.rows (table_whole w owned.table) (blank_contents w owned.table blank)) $
    use0 𝓛 (later (‵ new_rights)) (via 𝓤 _ (rights_new 𝓛) (basic 𝓛 _)) $ await ! tt $ move ! (2 ∷ 1 ∷ 0 ∷ []) $
    use3 𝓛 (‵ (Sh.own_val s (pair_val v n ∷ []))) (makes_shared 𝓛 R LR j s w v fits owned typed (λ e. e)) $
    sets ! (of_opd ! (get ! refl)) refl fine $ sets ! (agg ! (and_then ! (get ! refl) (and_then ! (get ! refl) (no_more !)))) refl typed.0 $
    let Named : Type 0 = ◌≡◌ {A = Option ℕ} s.sharing s.sharing in
    knows ! (only ≡ only) refl $
    knows ! (n ≡ n) refl $ join ! $
    knows ! Named refl $ join ! $
    knows ! (table ≡ table) refl $ join ! $
    nothing ! $ nothing ! $ fjoin ! $ nothing ! $ fjoin ! $ nothing ! $ fjoin ! $
    -- [nothing; the facts; what is shared; the tokens]
    returns ! (look_at ! 0 refl) $ free_all ! refl $ keep ! (3 ∷ 0 ∷ 2 ∷ 1 ∷ []) $
    by ! (leaves 𝓛 En hs c z (pair_val v n) s (tt, (tt, (tt, tt))) (tt, (tt, (tt, tt)))))))))
