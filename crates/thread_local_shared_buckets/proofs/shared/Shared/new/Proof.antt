-- `new` puts an owner's pointers beside the number, and begins a sharing: they are shared buckets at
-- rest.
use Rattle.std.proofs.Common.{Bool, Some, None, IsSome, ◌≢◌, ◌≡◌, ℕ, ◌^◌, ◌<◌, List, [], ◌∷◌, ◌++◌, refl, sym, subst, w64}
use mir.Syntax.{a_type, named}
use mir.Val.{Val, vint, vptr, has_ty}
use mir.MapTy.{inst_fn}
use base.Logic.{SProp, ent, id⊢, via}
use base.Fml.{GName}
use types.Owned.{basic}
use prog.Wp.{WpFn}
use types.Kit.{some, given, later, await, pick, learn, ‵, raw, ◌⊛◌, ◌$◌, ◌∵◌, !, qed, by, move, keep, use0, use1}
use types.Kit.{use3, split, join, fsplit, fjoin, rewrite, suffices}
use types.Run.{of_opd, no_more, and_then, returns, enter}
use types.ByLocal.{alloc_all, pass_all, free_all, look_at, get, sets}
use types.Part.{agg}
use contract.Running.{tables}
use contract.Monad.{fact}
use denote.Exit.{yes, no}
use denote.RattleType.{RattleType, owns}
use denote.Signature.{types_at, plain}
use denote.Builtin.{RefOf, usize}
use denote.Param.{param, layout, layouts}
use denote.Param.Laws.{Laws, param_laws}
use denote.Ref.{shr_Tells}
use denote.Laws.{Typed}
use denote.Steps.{nothing, heard}
use denote.Triple.Entry.{alive}
use denote.Triple.Walked.{Stays, stay_dropped, walk_of, Goes-dropped}
use Rattle.std.proofs.raw_atomic.Walks.{proved_at, leaves}
use Rattle.std.proofs.cell.Inside.{one, Good}
use Rattle.std.proofs.ResultValues.{and_tt}
use Rattle.thread_local_base.specs.Owned.{IsOwned}
use Rattle.thread_local_ids.specs.Told.{rows_telling}
use Rattle.thread_local_ids.specs.Sharings.{Belongs, later_of}
use Rattle.thread_local_ids.proofs.ToldElements.{source, source_new, later_belongs}
use Rattle.thread_local_ids.proofs.Rows.{table_whole, rows_drawn}
use Rattle.thread_local_base.specs.Judged.{Judged}
use Rattle.thread_local_ids.specs.contracts.rights.page.Page as page
use Rattle.thread_local_buckets.specs.contracts.bucket_pointers.BucketPointers as all_pointers
use Rattle.thread_local_buckets.proofs.bucket_pointers.BucketPointers.TheLaws as pointers'
use Rattle.thread_local_shared_buckets.specs.TableView.{TableView}
use Rattle.thread_local_shared_buckets.proofs.AnnouncingLaws.{new_rights, rights_new}
use Rattle.thread_local_shared_buckets.specs.Grown.{only_reserved}
use Rattle.thread_local_shared_buckets.specs.contracts.shared.Shared as shared
use Rattle.thread_local_shared_buckets.specs.contracts.shared.Shared.new.{ended, clauses, Key.name as #self}
use Rattle.thread_local_shared_buckets.proofs.Turned.{pair_val, makes_shared}
use Rattle.thread_local_shared_buckets.proofs.shared.Shared.new.Statement.{statement}
use Rattle.thread_local_shared_buckets.proofs.shared.Shared.new.Code as code
use Rattle.thread_local_base.proofs.Walking.{knows}

pub new_spec : {M : Type 1} → statement M
new_spec 𝓤 𝓛 𝓜 𝓡 wired T L =
    let 𝓣 = tables 𝓤 𝓛.H 𝓜 𝓡 𝓡.env in let R : RattleType = param 0 T in let LR : Laws R = param_laws 0 T L in
    let Sh : RattleType = shared.the_row R in
    let Ws : RattleType = all_pointers.the_row R in
    let En = ended T in let c = clauses T 𝓛 𝓜.mem 𝓡.returns in let inst = layouts (a_type ∷ []) (T, tt) in
    let fn = inst_fn inst code.function in let self = plain (λ _. Ws) in let number = plain (λ _. usize) in
    let ref = RefOf (0 ∷ []) tt (plain (λ _. page.the_row)) (λ _. tt) in
    let hs : Stays En.signature.params En.kept =
    (stay_dropped self no, (stay_dropped number yes, (stay_dropped ref yes, tt))) in
    proved_at 𝓛 En hs c 𝓜 𝓡 (
      Goes-dropped 𝓛 2 self no (λ κs x f. refl),
      (Goes-dropped 𝓛 2 number yes (λ κs x f. refl), (Goes-dropped 𝓛 2 ref yes (λ κs x f. refl), tt)),
    )
    (#self inst) fn (code.unfolded 𝓤 𝓛.H 𝓜 𝓡 wired (T, tt)) (λ z are.
    let w : Ws.Denot = z.0.3.0 in let n : ℕ = z.0.3.1.0 in let table : ℕ = z.0.3.1.1.0.now.table in
    let got = one (layout Ws) z.0.4.0 (((pointers'.the_row_laws R LR).lawful 𝓛).typed w z.0.4.0 are.0) in
    let v : Val = got.0 in
    let fine : Good (layout Ws) v = got.2 in
    let ref_is = shr_Tells (named 0) z.0.0.0 page.the_row z.0.3.1.1.0 z.0.4.1.1.0 are.1.1.0 in
    let Post : Val → SProp 𝓤 = (walk_of 𝓛 En hs c).post z in
    let Run : List Val → SProp 𝓤 = λ ws. WpFn 𝓤 𝓛.H 𝓣.C 𝓣.Λ fn ws Post in
    let p : Val = vptr z.0.3.1.1.0.ref_ptr.0 z.0.3.1.1.0.ref_ptr.1 in let us : List Val = v ∷ vint w64 n ∷ p ∷ [] in
    let fits : n < 2 ^ 64 = are.1.0.1 in
    let typed : Typed Sh.mir (pair_val v n ∷ []) =
    ((and_tt (has_ty (layout Ws) v) fine.0, (fine.1, (record { fits = fits }, tt))), tt) in
    let Owned : Type 0 = IsOwned (record { contents = w; reserved = n }) in
    let only : Bool = only_reserved (record { contents = w; reserved = n }) in
    qed 𝓛 ((raw (alive 𝓛 En.signature z.0.0 z.0.1)
    ⊛ ‵ (owns (types_at En.signature.params z.0.0) z.0.3 z.0.4))
    ∷ raw (fact 𝓤 _) ∷ raw (fact 𝓤 _) ∷ raw (fact 𝓤 _) ∷ raw (fact 𝓤 (Judged R))
    ∷ raw (fact 𝓤 Owned) ∷ []) ∵
    keep ! (4 ∷ 5 ∷ 0 ∷ []) $ heard ! (Judged R) (λ j. heard ! Owned (λ owned. split ! $
    move ! (1 ∷ []) $ fsplit ! $ keep ! (0 ∷ 2 ∷ []) $
    -- [the pointers; the tokens]
    rewrite ! 0 (λ (ws : List Val). ‵ (Ws.own_val w ws)) got.1 refl $
    suffices ! (Run us) (subst (λ (ws : List Val). ent 𝓤 (Run us) (Run ws))
    (sym (λ i. got.1 i ++ (are.1.0.0 i ++ (ref_is i ++ [])))) (id⊢ 𝓤 (Run us))) $
    enter ! 𝓣.C 𝓣.Λ fn us Post $ alloc_all ! (λ l. pass_all ! refl (fine, ((tt, record { fits = fits }), ((tt, tt), tt))) $
    use0 𝓛 (later (some (λ (γ : GName). given (Some (later_of γ) ≢ None) (‵ (source 𝓛 γ 0)))))
    (via 𝓤 _ (source_new 𝓛 None) (basic 𝓛 _)) $
    await ! tt $ pick ! (λ γ. learn ! (λ new.
    let s : TableView = record { table = table; sharing = Some (later_of γ); reserved = n; grown_by_ids = only } in
    use1 𝓛 (later (‵ (rows_telling R (Some (later_of γ)) 0 w.rows)))
    (via 𝓤 _ (rows_drawn 𝓛 R γ 0 w.rows (table_whole w owned.table)) (basic 𝓛 _)) $
    await ! tt $ use0 𝓛 (later (‵ new_rights)) (via 𝓤 _ (rights_new 𝓛) (basic 𝓛 _)) $ await ! tt $ move ! (2 ∷ 1 ∷ 0 ∷ []) $
    use3 𝓛 (‵ (Sh.own_val s (pair_val v n ∷ []))) (makes_shared 𝓛 R LR j s w v fits owned typed (λ e. e)) $
    sets ! (of_opd ! (get ! refl)) refl fine $ sets ! (agg ! (and_then ! (get ! refl) (and_then ! (get ! refl) (no_more !)))) refl typed.0 $
    let Named : Type 0 = IsSome s.sharing × Belongs s.sharing table in
    knows ! (only ≡ only) refl $
    knows ! (n ≡ n) refl $ join ! $
    knows ! Named (refl, later_belongs γ table) $ join ! $
    knows ! (table ≡ table) refl $ join ! $
    nothing ! $ nothing ! $ fjoin ! $ nothing ! $ fjoin ! $ nothing ! $ fjoin ! $
    -- [nothing; the facts; what is shared; the tokens]
    returns ! (look_at ! 0 refl) $ free_all ! refl $ keep ! (3 ∷ 0 ∷ 2 ∷ 1 ∷ []) $
    by ! (leaves 𝓛 En hs c z (pair_val v n) s (tt, (tt, (tt, tt))) (tt, (tt, (tt, tt))))))))))
