-- `state` reads a field.
use Rattle.thread_local_base.proofs.Names.{◌≡◌, ℕ, List, [], ◌∷◌, sym, refl, dnil, a_type, named, Val, vptr, vint}
use Rattle.thread_local_base.proofs.Names.{w64, ◌^◌, inst_fn, Lft, Fml, ftrue, fsep, flft, ‵, raw, ◌⊛◌}
use Rattle.thread_local_base.proofs.Names.{◌$◌, ◌∵◌, !, qed, by, move, keep, drop, split, join, fsplit, fjoin, fpick}
use Rattle.thread_local_base.proofs.Names.{rewrite, feq_i, stop, fld, of_opd, returns, enter, alloc_all}
use Rattle.thread_local_base.proofs.Names.{pass_all, free_all, look_at, through, sets, env, sub, whole, look_in}
use Rattle.thread_local_base.proofs.Names.{yes, RattleType, owns, types_at, named_lft, nothing}
use Rattle.thread_local_base.proofs.Names.{peeks, Is, shows, cell_at, param, bounded, shr_vals, shr_Tells, Stays}
use Rattle.thread_local_base.proofs.Names.{stay_dropped, walk_of, Goes-dropped, proved, leaves, load}
use types.Kit.{flt_i}
use denote.Steps.{looks, shuts}
use Rattle.thread_local_base.specs.Learnt.{Learnt}
use Rattle.thread_local_shared_buckets.specs.Known.{state_of}
use Rattle.thread_local_shared_buckets.specs.contracts.claimed.ClaimedSlot.state.{ended, clauses, Key.name as #self}
use Rattle.thread_local_shared_buckets.proofs.ClaimedFields.{kept_of, claim_at, claim_ref, splits_ref, value_of, FieldsType, fields_of}
use Rattle.thread_local_shared_buckets.proofs.ClaimedFields.{told, in_word, opened}
use Rattle.thread_local_shared_buckets.proofs.claimed.ClaimedSlot.state.Statement.{statement}
use Rattle.thread_local_shared_buckets.proofs.claimed.ClaimedSlot.state.Code as code
use Rattle.thread_local_base.proofs.Walking.{knows}

pub state_spec : {M : Type 1} → statement M
state_spec 𝓤 𝓛 𝓜 𝓡 wired X L =
    let R : RattleType = param 0 X in let En = ended X in let c = clauses X 𝓛 𝓜.mem 𝓡.returns in
    let inst = bounded (a_type ∷ []) (X, tt) dnil in let fn = inst_fn inst code.function in
    let closed = code.unfolded 𝓤 𝓛.H 𝓜 𝓡 wired (X, tt) in
    let self = claim_ref R in let hs : Stays En.signature.params En.kept = (stay_dropped self yes, tt) in
    proved 𝓛 En hs c 𝓜 𝓡 (Goes-dropped 𝓛 3 self yes (λ κs x f. refl), tt) (#self inst) fn closed
    (λ κs. (shr_vals, tt)) (λ κs. (shr_Tells (named 0) κs.0 ((claim_at R).row κs), tt)) (λ κs qs bounds a gh are.
    let ℓ = named_lft 3 1 tt κs in let D : RattleType = FieldsType ℓ R in let b : ℕ = a.0.ref_ptr.0 in
    let o : ℕ = a.0.ref_ptr.1 in let κ : Lft = κs.0 in let β : Lft = κs.1.0 in let h = a.0.now in
    let l₀ : Learnt X.Denot = h.learnt in let others : Fml = fsep (flft β qs.1.0) (fsep (flft κs.1.1.0 qs.1.1.0) ftrue) in
    let F₁ : ℕ → Type 0 = λ u. u ≡ state_of l₀ in
    let y : (walk_of 𝓛 En hs c).Ghost = ((κs, qs, bounds, a, (vptr b o ∷ [], tt)), gh) in
    qed 𝓛 (((‵ (flft κ qs.0) ⊛ ‵ others) ⊛ ‵ (owns (types_at En.signature.params κs) a y.0.4))
    ∷ raw ((c κs a).requires gh) ∷ []) ∵
    split ! $ split ! $ move ! (2 ∷ []) $ fsplit ! $ fsplit ! $ keep ! (1 ∷ 3 ∷ 4 ∷ []) $
    enter ! _ _ _ _ _ $ alloc_all ! (λ l. pass_all ! refl ((tt, tt), tt) $ let Ev = env fn.locals l in
    splits_ref ! ℓ R κ h b o $ fpick ! (λ so. drop ! $ move ! (1 ∷ 2 ∷ []) $
    looks ! tt D (opened ℓ R 𝓛) (fields_of ℓ R (kept_of h)) b o (λ q vs. move ! (1 ∷ []) $
    peeks ! D (Is D) (shows 𝓛 D) (fields_of ℓ R (kept_of h)) vs (λ is_so.
    let ev : vs ≡ value_of (kept_of h) ∷ [] = told ℓ R (kept_of h) vs is_so in
    rewrite ! 1 (λ (ws : List Val). ‵ (cell_at q D.mir ws b o)) ev refl $
    sets ! (of_opd ! (load ! (through ! refl (fld ! refl (stop !))) (look_in ! 1 (sub ! 1 refl (whole !)))))
    refl (tt, record { fits = in_word ℓ R (kept_of h) vs is_so }) $
    rewrite ! 1 (λ (ws : List Val). ‵ (cell_at q D.mir ws b o)) (sym ev) refl $
    move ! (1 ∷ 0 ∷ 2 ∷ []) $ shuts ! tt D q (fields_of ℓ R (kept_of h)) vs b o $
    -- [the token of the reference; what is shown of the claim; the other tokens]
    move ! (0 ∷ 3 ∷ []) $ join ! $ move ! (2 ∷ []) $ drop ! $
    flt_i ! h.state (2 ^ 64) (in_word ℓ R (kept_of h) vs is_so) $
    feq_i ! _ (vint w64 h.state ∷ []) _ refl $ fjoin ! $
    knows ! (F₁ h.state) so $ nothing ! $ nothing ! $ fjoin ! $
    returns ! (look_at ! 0 refl) $ free_all ! refl $ keep ! (3 ∷ 0 ∷ 2 ∷ 1 ∷ []) $
    by ! (leaves 𝓛 En hs c y (vint w64 h.state) h.state (tt, tt) (tt, tt)))))))
