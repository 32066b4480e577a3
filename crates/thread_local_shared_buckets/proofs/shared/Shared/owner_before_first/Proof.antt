-- `owner_before_first` does what `owner` does, and the rights to the slots wait for the loan's end.
use Rattle.std.proofs.Common.{◌≡◌, ℕ, [], ◌∷◌, refl}
use mir.Syntax.{a_type, named}
use mir.Val.{Val, vptr}
use mir.MapTy.{inst_fn}
use base.Fraction.{full_share}
use base.Logic.{SProp, id⊢}
use base.Fml.{Lft, Share, GName, Fml, ftrue, fsep, flft}
use types.Logic.{sem}
use types.Mut.{open_ref}
use types.Kit.{‵, raw, ◌⊛◌, some, given, later, at_ret, ◌$◌, ◌∵◌, !, qed, by, move, keep, use1, drop, split, split3}
use types.Kit.{join, group, fsplit, fsplit3, fjoin, pick, learn, await}
use types.Run.{stop, addr, of_opd, first, blocks, exec, returns, enter}
use types.ByLocal.{alloc_all, pass_all, free_all, look_at, get, through, sets, sets_last, env}
use contract.Running.{tables}
use denote.Exit.{no, yes}
use denote.RattleType.{RattleType, owns}
use denote.Signature.{types_at, plain}
use denote.Builtin.{RefMutOf}
use denote.Follow.{follows, Part, lends_Part}
use denote.Memory.{mem, part_at}
use denote.Param.{param, layouts}
use denote.Param.Laws.{Laws, param_laws}
use denote.Ref.{MutBor, MutRef, mut_vals, mut_Tells}
use denote.Steps.{nothing}
use denote.Triple.Walked.{Stays, stay_dropped, walk_of, Goes-dropped, Goes-spent_ref}
use Rattle.std.proofs.raw_atomic.Walks.{proved, leaves}
use Rattle.std.proofs.alloc.Shapes.{after}
use Rattle.thread_local_buckets.specs.contracts.buckets.Buckets as buckets
use Rattle.thread_local_shared_buckets.specs.TableView.{TableView}
use Rattle.thread_local_shared_buckets.specs.AfterLoan.{view_begun}
use Rattle.thread_local_shared_buckets.specs.contracts.shared.Shared as shared
use Rattle.thread_local_shared_buckets.specs.contracts.shared.Shared.owner_before_first.{ended, clauses, Key.name as #self}
use Rattle.thread_local_shared_buckets.proofs.Turned.{IsLent, AllGrown, lies_told, lies_first}
use Rattle.thread_local_shared_buckets.proofs.shared.Shared.owner_before_first.Statement.{statement}
use Rattle.thread_local_shared_buckets.proofs.shared.Shared.owner_before_first.Code as code
use Rattle.thread_local_ids.specs.Rights.{slots_own}
use Rattle.thread_local_ids.specs.Told.{book_owns}
use Rattle.thread_local_ids.specs.contracts.rights.right.SlotRights as SlotRights
use Rattle.thread_local_ids.proofs.Markers.{token}
use Rattle.thread_local_ids.proofs.Markers.{told as token_told}
use Rattle.thread_local_shared_buckets.proofs.AnnouncingLaws.{new_rights}
use Rattle.thread_local_base.proofs.Walking.{knows}

pub owner_before_first_spec : {M : Type 1} → statement M
owner_before_first_spec 𝓤 𝓛 𝓜 𝓡 wired T L =
    let 𝓣 = tables 𝓤 𝓛.H 𝓜 𝓡 𝓡.env in let R : RattleType = param 0 T in let LR : Laws R = param_laws 0 T L in
    let Sh : RattleType = shared.the_row R in
    let Ow : RattleType = buckets.the_row R in
    let En = ended T in let c = clauses T 𝓛 𝓜.mem 𝓡.returns in let inst = layouts (a_type ∷ []) (T, tt) in
    let fn = inst_fn inst code.function in let row = plain (λ _. Sh) in let self = RefMutOf (0 ∷ []) tt row (λ _. tt) in
    let rights = plain (λ _. SlotRights.the_row) in
    let hs : Stays En.signature.params En.kept = (stay_dropped self no, (stay_dropped rights yes, tt)) in
    proved 𝓛 En hs c 𝓜 𝓡 (Goes-spent_ref 𝓛 2 (0 ∷ []) tt row, (Goes-dropped 𝓛 2 rights yes (λ κs x f. refl), tt))
    (#self inst) fn (code.unfolded 𝓤 𝓛.H 𝓜 𝓡 wired (T, tt)) (λ κs. (mut_vals, ((λ x. token ∷ []), tt)))
    (λ κs. (mut_Tells (named 0) κs.0 Sh, ((λ x vs is. token_told (SlotRights.the_type).name vs is.0), tt)))
    (λ κs qs bounds a gh are.
    let b : ℕ = a.0.ref_ptr.0 in let o : ℕ = a.0.ref_ptr.1 in let d : TableView = a.0.now in let κ : Lft = κs.0 in
    let q : Share = qs.0 in let γ : GName = a.0.ghost_name in let others : Fml = fsep (flft κs.1.0 qs.1.0) ftrue in
    let table : ℕ = a.1.0.table in
    let y : (walk_of 𝓛 En hs c).Ghost = ((κs, qs, bounds, a, (vptr b o ∷ [], (token ∷ [], tt))), gh) in
    let Post : Val → SProp 𝓤 = (walk_of 𝓛 En hs c).post y in
    qed 𝓛 (((‵ (flft κ q) ⊛ ‵ others) ⊛ ‵ (owns (types_at En.signature.params κs) a y.0.4))
    ∷ raw ((c κs a).requires gh) ∷ []) ∵
    keep ! (0 ∷ []) $ split ! $ split ! $ move ! (2 ∷ []) $ fsplit ! $ move ! (1 ∷ []) $ fsplit ! $ fsplit ! $ move ! (1 ∷ []) $
    -- [the rights to the slots; theirs; ..; the reference; the tokens]
    move ! (3 ∷ []) $ fsplit3 ! $ keep ! (1 ∷ 2 ∷ 6 ∷ 7 ∷ 3 ∷ []) $
    enter ! _ _ _ _ _ $ alloc_all ! (λ l. pass_all ! refl ((tt, tt), ((tt, (tt, tt)), tt)) $
    let Ev = env fn.locals l in
    open_ref ! tt (mem Sh) $
    use1 𝓛 (later (some (λ (w : Ow.Denot).
    given (IsLent 𝓛 R LR d w) (‵ (part_at Ow full_share w b o) ⊛ ‵ (AllGrown 𝓛 R LR d w) ⊛ ‵ (book_owns R d.sharing w.contents)))))
    (lies_told 𝓛 R LR d b o) $
    await ! tt $ pick ! (λ w. learn ! (λ so. split3 ! $ move ! (1 ∷ []) $ fsplit ! $ drop ! $
    -- [new rights; the buckets; the book; the open borrow, and its name; the other tokens; the rights to the slots]
    move ! (7 ∷ 0 ∷ []) $ fjoin ! $ move ! (2 ∷ []) $ drop ! $ move ! (1 ∷ 0 ∷ []) $
    let F : Ow.Denot → TableView = view_begun table in
    let Shown : Fml = fsep (slots_own table 0) new_rights in
    -- [an owner's buckets; what they show; the open borrow, and its name; the other tokens]
    first ! $ blocks ! $ sets ! (addr ! (through ! refl (stop !))) refl (tt, tt) $
    sets ! (of_opd ! (get ! refl)) refl (tt, tt) $
    sets_last ! (addr ! (through ! refl (stop !))) refl (tt, tt) $
    exec ! 𝓣.C 𝓣.Λ Ev (after 1 fn.body) (at_ret Ev Post) $ sets ! (of_opd ! (get ! refl)) refl (tt, tt) $
    let Rest : SProp 𝓤 = sem 𝓛 Shown in
    let back = λ (u : Ow.Denot). lies_first 𝓛 R LR so.0 table b o u in
    move ! (2 ∷ 3 ∷ 4 ∷ 0 ∷ 1 ∷ []) $ group ! 5 $
    use1 𝓛
    (later (some (λ (δ : GName). raw (Part 𝓛 Sh Ow F (named 0) κ q b o b o γ Rest back w δ))))
    (lends_Part 𝓛 Sh Ow F (named 0) κ q b o b o γ Rest back (Sh.coded.code d)
    (Sh.coded.code d) w) $
    await ! tt $ pick ! (λ δ.
    let r : MutBor Ow.Denot = record { ref_ptr = (b, o); ghost_name = δ; now = w } in
    use1 𝓛 (‵ ((MutRef (named 0) κ Ow).own_val r (vptr b o ∷ [])) ⊛ ‵ (flft κ q)
    ⊛ ‵ (follows Sh Ow γ δ F))
    (id⊢ 𝓤 _) $
    split3 ! $
    move ! (1 ∷ 3 ∷ []) $ join ! $
    knows ! (w.reserved ≡ d.reserved) so.1 $
    move ! (3 ∷ 0 ∷ []) $ join ! $ nothing ! $ nothing ! $ fjoin ! $ nothing ! $ fjoin ! $
    returns ! (look_at ! 0 refl) $ free_all ! refl $ keep ! (2 ∷ 0 ∷ 3 ∷ 1 ∷ []) $
    by ! (leaves 𝓛 En hs c y (vptr b o) r (tt, (tt, tt)) (tt, (tt, tt))))))))
