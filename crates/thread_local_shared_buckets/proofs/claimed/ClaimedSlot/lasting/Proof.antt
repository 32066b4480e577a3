-- `lasting` lends the value that the slot holds for as long as the bucket is borrowed, since a `&`
-- to it names no thread.
use Rattle.thread_local_base.proofs.Names.{◌≡◌, ℕ, List, [], ◌∷◌, sym, refl, ap, ◌∙◌, true, dnil, a_type, named, Val}
use Rattle.thread_local_base.proofs.Names.{vptr, inst_fn, SProp, Lft, Fml, ftrue, fsep, flft, ‵, raw, ◌⊛◌}
use Rattle.thread_local_base.proofs.Names.{at_ret, ◌$◌, ◌∵◌, !, qed, by, move, keep, drop, split, join, fsplit, fjoin}
use Rattle.thread_local_base.proofs.Names.{fpick, use1, rewrite, feq_i, stop, fld, addr, of_opd, first, blocks}
use Rattle.thread_local_base.proofs.Names.{exec, returns, enter, alloc_all, pass_all, free_all, look_at, get, through}
use Rattle.thread_local_base.proofs.Names.{sets, sets_last, env, sub, whole, look_in, tables, fact, yes}
use Rattle.thread_local_base.proofs.Names.{RattleType, owns, types_at, named_lft, Ptr, block_ptr, block_of, count_of}
use Rattle.thread_local_base.proofs.Names.{at_block, nothing, heard, peeks, Is, shows, cell_at, param, bounded}
use Rattle.thread_local_base.proofs.Names.{shr_vals, shr_Tells, Stays, stay_dropped, walk_of, Goes-dropped, proved}
use Rattle.thread_local_base.proofs.Names.{leaves, is_some, Ura, ent, id⊢, Logic, sem, load}
use mathlib.Core.Logic.{inl, inr}
use denote.Steps.{looks, shuts}
use denote.Memory.{hidden_shr, shared_of}
use denote.Param.Send.{IsSync}
use Rattle.thread_local_base.specs.Judged.{Shareable, Judged}
use Rattle.thread_local_base.proofs.Bodies.{tail}
use Rattle.thread_local_base.specs.Learnt.{Learnt, Holding}
use Rattle.thread_local_shared_buckets.specs.Known.{value_held}
use Rattle.thread_local_shared_buckets.proofs.Learning.{holding}
use Rattle.thread_local_shared_buckets.specs.Claims.{claim_fields, lasts, shows_value}
use Rattle.thread_local_shared_buckets.specs.contracts.claimed.ClaimedSlot.lasting.{ended, clauses, Key.name as #self}
use Rattle.thread_local_shared_buckets.proofs.ClaimedFields.{kept_of, claim_at, claim_ref, splits_ref, moved_to, value_of, FieldsType}
use Rattle.thread_local_shared_buckets.proofs.ClaimedFields.{fields_of, told, opened}
use Rattle.thread_local_shared_buckets.proofs.claimed.ClaimedSlot.lasting.Statement.{statement}
use Rattle.thread_local_shared_buckets.proofs.claimed.ClaimedSlot.lasting.Code as code
use Rattle.thread_local_base.proofs.Walking.{knows}

lasts_of : {M : Type 1} {𝓤 : Ura M} (𝓛 : Logic 𝓤) (R : RattleType) → Shareable R
    → (β : Lft) (b e : ℕ) (x : R.Denot) (κ : Lft) (j : Judged R)
    → ent 𝓤 (sem 𝓛 (lasts R β b e x j κ)) (sem 𝓛 (shared_of R x b e β))
lasts_of {𝓤 = 𝓤} 𝓛 R shareable β b e x κ (inl j) = id⊢ 𝓤 _
lasts_of 𝓛 R shareable β b e x κ (inr refuted) = absurd (refuted shareable)

pub lasting_spec : {M : Type 1} → statement M
lasting_spec 𝓤 𝓛 𝓜 𝓡 wired X L =
    let 𝓣 = tables 𝓤 𝓛.H 𝓜 𝓡 𝓡.env in let R : RattleType = param 0 X in let En = ended X in
    let c = clauses X 𝓛 𝓜.mem 𝓡.returns in let inst = bounded (a_type ∷ []) (X, tt) dnil in
    let fn = inst_fn inst code.function in let closed = code.unfolded 𝓤 𝓛.H 𝓜 𝓡 wired (X, tt) in
    let self = claim_ref R in let hs : Stays En.signature.params En.kept = (stay_dropped self yes, tt) in
    proved 𝓛 En hs c 𝓜 𝓡 (Goes-dropped 𝓛 3 self yes (λ κs x f. refl), tt) (#self inst) fn closed
    (λ κs. (shr_vals, tt)) (λ κs. (shr_Tells (named 0) κs.0 ((claim_at R).row κs), tt)) (λ κs qs bounds a gh are.
    let ℓ = named_lft 3 1 tt κs in let D : RattleType = FieldsType ℓ R in let b : ℕ = a.0.ref_ptr.0 in
    let o : ℕ = a.0.ref_ptr.1 in let κ : Lft = κs.0 in let β : Lft = κs.1.0 in let h = a.0.now in let p : Ptr = h.at in
    let l₀ : Learnt X.Denot = h.learnt in let others : Fml = fsep (flft β qs.1.0) (fsep (flft κs.1.1.0 qs.1.1.0) ftrue) in
    let pb : ℕ = block_of p in let po : ℕ = count_of p in let e : ℕ = po in
    let y : (walk_of 𝓛 En hs c).Ghost = ((κs, qs, bounds, a, (vptr b o ∷ [], tt)), gh) in
    let Post : Val → SProp 𝓤 = (walk_of 𝓛 En hs c).post y in
    qed 𝓛 (((‵ (flft κ qs.0) ⊛ ‵ others) ⊛ ‵ (owns (types_at En.signature.params κs) a y.0.4))
    ∷ raw (fact 𝓤 _) ∷ raw (fact 𝓤 (IsSync R))
    ∷ raw (fact 𝓤 (is_some (value_held l₀) ≡ true)) ∷ []) ∵
    keep ! (2 ∷ 3 ∷ 0 ∷ []) $ heard ! (IsSync R) (λ sync.
    heard ! (is_some (value_held l₀) ≡ true) (λ asked.
    let held = holding l₀ asked in let x : X.Denot = held.0 in
    split ! $ split ! $ move ! (2 ∷ []) $ fsplit ! $ fsplit ! $ keep ! (1 ∷ 3 ∷ 4 ∷ []) $
    enter ! _ _ _ _ _ $ alloc_all ! (λ l. pass_all ! refl ((tt, tt), tt) $ let Ev = env fn.locals l in
    splits_ref ! ℓ R κ h b o $ drop ! $
    rewrite ! 0 (λ (u : Learnt X.Denot).
    ‵ (shows_value R β (claim_fields h.id h.index h.bucket p h.sharing h.word h.reserved)
    (value_held u) κ))
    held.1 refl $
    fsplit ! $ fpick ! (λ inb. drop ! $ fsplit ! $ drop ! $ fsplit ! $ move ! (1 ∷ []) $ drop ! $
    fpick ! (λ j.
    let at : p ≡ block_ptr pb po = at_block p inb in
    use1 𝓛 (‵ (hidden_shr R β x pb e)) (lasts_of 𝓛 R sync.shared β pb e x κ j) $ move ! (1 ∷ 2 ∷ []) $
    looks ! tt D (opened ℓ R 𝓛) (fields_of ℓ R (kept_of h)) b o (λ q vs. move ! (1 ∷ []) $
    peeks ! D (Is D) (shows 𝓛 D) (fields_of ℓ R (kept_of h)) vs (λ is_so.
    let ev : vs ≡ value_of (moved_to (kept_of h) (block_ptr pb po)) ∷ [] =
    told ℓ R (kept_of h) vs is_so ∙ ap (λ (r : Ptr). value_of (moved_to (kept_of h) r) ∷ []) at in
    rewrite ! 1 (λ (ws : List Val). ‵ (cell_at q D.mir ws b o)) ev refl $ first ! $ blocks ! $
    sets ! (of_opd ! (load ! (through ! refl (fld ! refl (stop !))) (look_in ! 1 (sub ! 0 refl (whole !))))) refl (tt, tt) $
    sets ! (of_opd ! (get ! refl)) refl (tt, tt) $
    sets_last ! (addr ! (through ! refl (stop !))) refl (tt, tt) $ exec ! 𝓣.C 𝓣.Λ Ev (tail fn.body) (at_ret Ev Post) $
    sets ! (of_opd ! (get ! refl)) refl (tt, tt) $
    rewrite ! 1 (λ (ws : List Val). ‵ (cell_at q D.mir ws b o)) (sym ev) refl $
    move ! (1 ∷ 0 ∷ 2 ∷ []) $ shuts ! tt D q (fields_of ℓ R (kept_of h)) vs b o $
    move ! (0 ∷ 3 ∷ []) $ join ! $ move ! (2 ∷ []) $ feq_i ! _ (vptr pb e ∷ []) _ refl $ fjoin ! $
    knows ! (l₀ ≡ Holding x) held.1 $ nothing ! $
    nothing ! $ fjoin ! $
    returns ! (look_at ! 0 refl) $ free_all ! refl $ keep ! (3 ∷ 0 ∷ 2 ∷ 1 ∷ []) $
    by ! (leaves 𝓛 En hs c y (vptr pb e) (record { ref_ptr = (pb, e); now = x }) (tt, tt)
    (tt, tt))))))))))
