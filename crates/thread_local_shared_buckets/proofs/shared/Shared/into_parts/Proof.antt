-- `into_parts` takes back what is due from the sharing, and takes the pointers and the number out.
use Rattle.std.proofs.Common.{◌≡◌, ℕ, ◌<◌, ◌^◌, List, [], ◌∷◌, ◌++◌, refl, sym, ap, ◌∙◌, subst, w64, false}
use mir.Syntax.{a_type}
use mir.Val.{Val, vint, vstruct, vcons, vnil, of_list, has_ty}
use mir.MapTy.{inst_fn}
use base.Logic.{SProp, ent, id⊢}
use base.Fml.{ftrue, fsep}
use prog.Wp.{WpFn}
use types.Kit.{‵, raw, ◌⊛◌, some, given, later, ◌$◌, ◌∵◌, !, qed, by, move, keep, use1, split, join, fsplit}
use types.Kit.{fjoin, fjoin3, fpack, feq_i, flt_i, pick, learn, await, rewrite, suffices}
use types.Run.{stop, fld, of_opd, no_more, and_then, returns, enter}
use types.ByLocal.{alloc_all, pass_all, free_all, look_at, get, get_in, sets}
use types.Part.{agg, sub, whole}
use contract.Running.{tables}
use denote.Exit.{no}
use denote.RattleType.{RattleType, Valss}
use denote.Builtin.{usize}
use denote.Struct.Struct.{within}
use denote.Signature.{plain}
use denote.Param.{param, layout, layouts}
use denote.Param.Laws.{Laws, param_laws}
use denote.Laws.{Typed, Is, shows}
use denote.Steps.{nothing, peeks}
use denote.Triple.Entry.{alive}
use denote.Triple.Walked.{Stays, stay_dropped, walk_of, Goes-dropped}
use Rattle.std.proofs.raw_atomic.Walks.{proved_at, leaves}
use Rattle.std.proofs.cell.Inside.{Good}
use Rattle.thread_local_base.specs.Owned.{IsOwned}
use Rattle.thread_local_buckets.specs.contracts.bucket_pointers.BucketPointers as all_pointers
use Rattle.thread_local_ids.specs.Told.{book_owns}
use Rattle.thread_local_ids.specs.contracts.tokens.book.Book as Book
use Rattle.thread_local_ids.proofs.Made.{token_val, book_made}
use Rattle.std.proofs.ResultValues.{and_tt}
use denote.Struct.Tuple.{Tuple}
use Rattle.thread_local_buckets.proofs.bucket_pointers.BucketPointers.TheLaws as pointers'
use Rattle.thread_local_shared_buckets.specs.TableView.{TableView}
use Rattle.thread_local_shared_buckets.specs.contracts.shared.Shared as shared
use Rattle.thread_local_shared_buckets.specs.contracts.shared.Shared.into_parts.{ended, clauses, Key.name as #self}
use Rattle.thread_local_shared_buckets.proofs.Turned.{takes_pointers}
use Rattle.thread_local_shared_buckets.proofs.shared.Shared.into_parts.Statement.{statement}
use Rattle.thread_local_shared_buckets.proofs.shared.Shared.into_parts.Code as code
use Rattle.thread_local_base.proofs.Walking.{knows}

pub into_parts_spec : {M : Type 1} → statement M
into_parts_spec 𝓤 𝓛 𝓜 𝓡 wired T L =
    let 𝓣 = tables 𝓤 𝓛.H 𝓜 𝓡 𝓡.env in let R : RattleType = param 0 T in let LR : Laws R = param_laws 0 T L in
    let Sh : RattleType = shared.the_row R in
    let Ws : RattleType = all_pointers.the_row R in
    let Bk : RattleType = Book.the_row R in
    let Triple : RattleType = Tuple (Ws ∷ usize ∷ Bk ∷ []) in
    let En = ended T in let c = clauses T 𝓛 𝓜.mem 𝓡.returns in let inst = layouts (a_type ∷ []) (T, tt) in
    let fn = inst_fn inst code.function in let self = plain (λ _. Sh) in
    let hs : Stays En.signature.params En.kept = (stay_dropped self no, tt) in
    proved_at 𝓛 En hs c 𝓜 𝓡 (Goes-dropped 𝓛 1 self no (λ κs x f. refl), tt) (#self inst) fn
    (code.unfolded 𝓤 𝓛.H 𝓜 𝓡 wired (T, tt)) (λ z are.
    let s : TableView = z.0.3.0 in
    let vs : List Val = z.0.4.0 in
    let known = are.0.1 in
    let fields = known.1.0 in
    let there = fields.1.1.0 in
    let v : Val = vstruct (of_list (there.0.0 ++ (there.0.1.0 ++ (there.0.1.1.0 ++ (there.0.1.1.1.0 ++ []))))) in let u : Val = vint w64 known.0.0.reserved in
    let V : Val = vstruct (vcons v (vcons u vnil)) in
    let whole_is : vs ≡ V ∷ [] = fields.1.0 ∙ (λ i. vstruct (of_list (there.1.0 i ++ (fields.1.1.1.0.0 i ++ []))) ∷ []) in
    let typed : Typed Sh.mir (V ∷ []) = subst (Typed Sh.mir) whole_is are.0.0.0 in
    let Post : Val → SProp 𝓤 = (walk_of 𝓛 En hs c).post z in
    let Run : List Val → SProp 𝓤 = λ ws. WpFn 𝓤 𝓛.H 𝓣.C 𝓣.Λ fn ws Post in
    let Owned : Ws.Denot → Type 0 = λ w. IsOwned (record { contents = w; reserved = s.reserved }) in
    qed 𝓛 ((raw (alive 𝓛 En.signature z.0.0 z.0.1) ⊛ ‵ (fsep (Sh.own_val s vs) ftrue))
    ∷ raw ((c z.0.0 z.0.3).requires z.1) ∷ []) ∵
    keep ! (0 ∷ []) $ split ! $ move ! (1 ∷ []) $ fsplit ! $ keep ! (0 ∷ 2 ∷ []) $
    rewrite ! 0 (λ (ws : List Val). ‵ (Sh.own_val s ws)) whole_is refl $
    suffices ! (Run (V ∷ [])) (subst (λ (ws : List Val). ent 𝓤 (Run (V ∷ [])) (Run ws))
    (sym (λ i. whole_is i ++ [])) (id⊢ 𝓤 (Run (V ∷ [])))) $
    enter ! _ _ _ _ _ $ alloc_all ! (λ l. pass_all ! refl (typed.0, tt) $
    use1 𝓛 (later (some (λ (w : Ws.Denot).
    given (Owned w × (u ≡ vint w64 s.reserved)) (‵ (Ws.own_val w (v ∷ [])) ⊛ ‵ (book_owns R s.sharing w)))))
    (takes_pointers 𝓛 R LR s v u) $
    await ! tt $ pick ! (λ w. learn ! (λ learnt. split ! $
    peeks ! Ws (Is Ws) (shows 𝓛 Ws) w (v ∷ []) (λ it.
    let fine : Good (layout Ws) v = (((pointers'.the_row_laws R LR).lawful 𝓛).typed w (v ∷ []) it).0 in
    let number : Good (layout usize) u = (tt, typed.0.1.1.0) in
    let same : known.0.0.reserved ≡ s.reserved = (let e = learnt.1 in cc) in
    let fits : s.reserved < 2 ^ 64 = subst (λ (n : ℕ). n < 2 ^ 64) same typed.0.1.1.0.fits in
    let r : Bk.Denot = record { marker = record {}; sharing = s.sharing; contents = w; table = 0; moves = []; whole = false } in
    let three : Val = vstruct (vcons v (vcons u (vcons token_val vnil))) in
    let three_fine : Good (layout Triple) three =
    (and_tt (has_ty (layout Ws) v) fine.0, (fine.1, (typed.0.1.1.0, ((tt, tt), tt)))) in
    -- [the pointers; what is told; the tokens]
    move ! (1 ∷ []) $ nothing ! $ move ! (1 ∷ 0 ∷ []) $ fjoin ! $
    use1 𝓛 (‵ (Bk.own_val r (token_val ∷ []))) (book_made 𝓛 R r) $
    sets ! (of_opd ! (get_in ! (fld ! refl (stop !)) (sub ! 0 refl (whole !)))) refl fine $
    sets ! (of_opd ! (get_in ! (fld ! refl (stop !)) (sub ! 1 refl (whole !)))) refl number $
    sets ! (agg ! (no_more !)) refl (tt, tt) $
    sets ! (agg ! (and_then ! (get ! refl) (no_more !))) refl (tt, (tt, tt)) $
    sets ! (of_opd ! (get ! refl)) refl fine $ sets ! (of_opd ! (get ! refl)) refl (tt, (tt, tt)) $
    sets ! (agg ! (and_then ! (get ! refl) (and_then ! (get ! refl) (and_then ! (get ! refl) (no_more !))))) refl three_fine $
    -- [the book; the pointers; the tokens]
    nothing ! $ move ! (1 ∷ 0 ∷ []) $ fjoin ! $ flt_i ! s.reserved (2 ^ 64) fits $
    feq_i ! (List Val) (u ∷ []) (vint w64 s.reserved ∷ []) (ap (λ (x : Val). x ∷ []) learnt.1) $ fjoin ! $ fjoin ! $
    move ! (1 ∷ 0 ∷ []) $ feq_i ! (List Val) (three ∷ []) (three ∷ []) refl $ fjoin3 ! $
    fpack ! (Valss (Ws ∷ usize ∷ Bk ∷ []))
    (within (record { name = []; args = []; types = []; fields = Ws ∷ usize ∷ Bk ∷ [] }) (w, (s.reserved, (r, tt))) (three ∷ []))
    (v ∷ [], (u ∷ [], (token_val ∷ [], tt))) $
    let Alike : Type 0 = (r.sharing ≡ s.sharing) × (r.contents ≡ w) in
    knows ! Alike (refl, refl) $
    knows ! (Owned w) learnt.0 $ join ! $
    knows ! (s.reserved ≡ s.reserved) refl $ join ! $
    nothing ! $ nothing ! $ fjoin ! $
    -- [nothing; the facts; what comes out; the tokens]
    returns ! (look_at ! 0 refl) $ free_all ! refl $ keep ! (3 ∷ 0 ∷ 2 ∷ 1 ∷ []) $
    by ! (leaves 𝓛 En hs c z three (w, s.reserved, r) (tt, tt) (tt, tt)))))))
