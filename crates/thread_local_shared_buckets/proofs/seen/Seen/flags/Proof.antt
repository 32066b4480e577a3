-- `flags` reads a field.
use Rattle.thread_local_base.proofs.Names.{◌≡◌, ℕ, List, [], ◌∷◌, sym, refl, dnil, a_type, named, Val, vptr, vint}
use Rattle.thread_local_base.proofs.Names.{w64, ◌^◌, inst_fn, Lft, Fml, ftrue, fsep, flft, ‵, raw, ◌⊛◌}
use Rattle.thread_local_base.proofs.Names.{◌$◌, ◌∵◌, !, qed, by, move, keep, drop, split, join, fsplit, fjoin}
use Rattle.thread_local_base.proofs.Names.{rewrite, feq_i, stop, fld, of_opd, returns, enter, alloc_all}
use Rattle.thread_local_base.proofs.Names.{pass_all, free_all, look_at, through, sets, env, sub, whole, look_in}
use Rattle.thread_local_base.proofs.Names.{yes, RattleType, owns, types_at, named_lft, nothing}
use Rattle.thread_local_base.proofs.Names.{peeks, Is, shows, cell_at, param, bounded, shr_vals, shr_Tells, Stays}
use Rattle.thread_local_base.proofs.Names.{stay_dropped, walk_of, Goes-dropped, proved, leaves, load}
use types.Kit.{flt_i}
use denote.Steps.{looks, shuts}
use denote.Ref.{ShrRef}
use denote.Memory.{hidden_shr}
use denote.Struct.Lending.{lent_out}
use base.Fml.{fhide}
use Rattle.std.specs.contracts.marker.PhantomData as marker
use Rattle.thread_local_base.proofs.Names.{plain, RefOf, use1}
use Rattle.thread_local_shared_buckets.specs.Shared.{seen_owns}
use Rattle.thread_local_shared_buckets.specs.contracts.seen.Seen as Seen
use Rattle.thread_local_shared_buckets.specs.contracts.seen.Seen.flags.{ended, clauses, Key.name as #self}
use Rattle.thread_local_shared_buckets.proofs.SeenFields.{seen_val, FieldsType, fields_of, told, in_word, opened}
use Rattle.thread_local_shared_buckets.proofs.seen.Seen.flags.Statement.{statement}
use Rattle.thread_local_shared_buckets.proofs.seen.Seen.flags.Code as code
use Rattle.thread_local_base.proofs.Walking.{knows}

pub flags_spec : {M : Type 1} → statement M
flags_spec 𝓤 𝓛 𝓜 𝓡 wired X L =
    let R : RattleType = param 0 X in let En = ended X in let c = clauses X 𝓛 𝓜.mem 𝓡.returns in
    let inst = bounded (a_type ∷ []) (X, tt) dnil in let fn = inst_fn inst code.function in
    let closed = code.unfolded 𝓤 𝓛.H 𝓜 𝓡 wired (X, tt) in let row = plain (λ κs. Seen.the_row (named_lft 3 1 tt κs) R) in
    let self = RefOf (0 ∷ []) tt row (λ _. tt) in let hs : Stays En.signature.params En.kept = (stay_dropped self yes, tt) in
    proved 𝓛 En hs c 𝓜 𝓡 (Goes-dropped 𝓛 3 self yes (λ κs x f. refl), tt) (#self inst) fn closed
    (λ κs. (shr_vals, tt)) (λ κs. (shr_Tells (named 0) κs.0 (Seen.the_row (named_lft 3 1 tt κs) R), tt)) (λ κs qs bounds a gh are.
    let ℓ = named_lft 3 1 tt κs in let D : RattleType = FieldsType ℓ R in let b : ℕ = a.0.ref_ptr.0 in
    let o : ℕ = a.0.ref_ptr.1 in let κ : Lft = κs.0 in let β : Lft = κs.1.0 in let h = a.0.now in
    let others : Fml = fsep (flft β qs.1.0) (fsep (flft κs.1.1.0 qs.1.1.0) ftrue) in
    let Is_so : ℕ → Type 0 = λ u. u ≡ h.flags in
    let y : (walk_of 𝓛 En hs c).Ghost = ((κs, qs, bounds, a, (vptr b o ∷ [], tt)), gh) in
    qed 𝓛 (((‵ (flft κ qs.0) ⊛ ‵ others) ⊛ ‵ (owns (types_at En.signature.params κs) a y.0.4))
    ∷ raw ((c κs a).requires gh) ∷ []) ∵
    split ! $ split ! $ move ! (2 ∷ []) $ fsplit ! $ fsplit ! $ keep ! (1 ∷ 3 ∷ 4 ∷ []) $
    enter ! _ _ _ _ _ $ alloc_all ! (λ l. pass_all ! refl ((tt, tt), tt) $ let Ev = env fn.locals l in
    let Owns : Fml = seen_owns R h.of h.at h.names h.chunk h.flags h.values β in
    use1 𝓛 (‵ (hidden_shr D κ (fields_of ℓ R h.values h.flags) b o) ⊛ ‵ (fhide Owns))
    (lent_out 𝓛 (Seen.struct ℓ R)
    (Seen.the_codes X.Denot R.coded (marker.the_row (ShrRef ℓ.mir ℓ.lft R)).coded)
    (Seen.the_heap β R) (Seen.the_lent β R) κ h b o) $
    split ! $ move ! (0 ∷ 2 ∷ []) $
    looks ! tt D (opened ℓ R 𝓛) (fields_of ℓ R h.values h.flags) b o (λ q vs. move ! (1 ∷ []) $
    peeks ! D (Is D) (shows 𝓛 D) (fields_of ℓ R h.values h.flags) vs (λ is_so.
    let ev : vs ≡ seen_val h.values h.flags ∷ [] = told ℓ R h.values h.flags vs is_so in
    rewrite ! 1 (λ (ws : List Val). ‵ (cell_at q D.mir ws b o)) ev refl $
    sets ! (of_opd ! (load ! (through ! refl (fld ! refl (stop !))) (look_in ! 1 (sub ! 1 refl (whole !)))))
    refl (tt, record { fits = in_word ℓ R h.values h.flags vs is_so }) $
    rewrite ! 1 (λ (ws : List Val). ‵ (cell_at q D.mir ws b o)) (sym ev) refl $
    move ! (1 ∷ 0 ∷ 2 ∷ []) $ shuts ! tt D q (fields_of ℓ R h.values h.flags) vs b o $
    -- [the token of the reference; the fields; what was seen; the other tokens]
    move ! (0 ∷ 3 ∷ []) $ join ! $ move ! (2 ∷ []) $ drop ! $
    flt_i ! h.flags (2 ^ 64) (in_word ℓ R h.values h.flags vs is_so) $
    feq_i ! _ (vint w64 h.flags ∷ []) _ refl $ fjoin ! $
    knows ! (Is_so h.flags) refl $ nothing ! $ nothing ! $ fjoin ! $
    returns ! (look_at ! 0 refl) $ free_all ! refl $ keep ! (3 ∷ 0 ∷ 2 ∷ 1 ∷ []) $
    by ! (leaves 𝓛 En hs c y (vint w64 h.flags) h.flags (tt, tt) (tt, tt))))))
