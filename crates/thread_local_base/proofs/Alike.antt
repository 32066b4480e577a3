-- Any two proofs of `Judged` are equal.
use Rattle.std.proofs.Common.{◌≡◌, inl, inr, ap, refl}
use base.Fml.{Fml, ftrue, ffalse, feq, flt, fsep, fand, for, fwand, fex, fall, fupd, fhide, fat, froom, fleft, fdies}
use base.Fml.{flft, fdead, fobs, fauth, fres, fown, fbor, fobor, flent, fshr_bor, finv, fnamed, ftok, fkid, fme, fsent}
use base.Shift.{Keyless}
use denote.RattleType.{RattleType}
use Rattle.thread_local_base.specs.Judged.{Shareable, Judged}

keyless_alike : (P : Fml) (k l : Keyless P) → k ≡ l
keyless_alike ftrue k l = refl
keyless_alike ffalse k l = refl
keyless_alike (feq d x y) k l = refl
keyless_alike (flt m n) k l = refl
keyless_alike (fat q τ b o v) k l = refl
keyless_alike (froom τ b o) k l = refl
keyless_alike (fleft q ω τs b o) k l = refl
keyless_alike (fdies τ b) k l = refl
keyless_alike (flft κ q) k l = refl
keyless_alike (fdead κ) k l = refl
keyless_alike (fobs γ x) k l = refl
keyless_alike (fauth γ x) k l = refl
keyless_alike (fres γ x) k l = refl
keyless_alike (fown R γ x) k l = refl
keyless_alike (fsep P Q) k l = λ i. (keyless_alike P k.0 l.0 i, keyless_alike Q k.1 l.1 i)
keyless_alike (fand P Q) k l = λ i. (keyless_alike P k.0 l.0 i, keyless_alike Q k.1 l.1 i)
keyless_alike (for P Q) k l = λ i. (keyless_alike P k.0 l.0 i, keyless_alike Q k.1 l.1 i)
keyless_alike (fwand P Q) k l = λ i. (keyless_alike P k.0 l.0 i, keyless_alike Q k.1 l.1 i)
keyless_alike (fupd P) k l = keyless_alike P k l
keyless_alike (fhide P) k l = keyless_alike P k l
keyless_alike (fbor κ P) k l = keyless_alike P k l
keyless_alike (fobor κ q P) k l = keyless_alike P k l
keyless_alike (flent κ P) k l = keyless_alike P k l
keyless_alike (finv P) k l = keyless_alike P k l
keyless_alike (fnamed nm P) k l = keyless_alike P k l
keyless_alike (fex X F) k l = λ i x. keyless_alike (F x) (k x) (l x) i
keyless_alike (fall X F) k l = λ i x. keyless_alike (F x) (k x) (l x) i
keyless_alike (fshr_bor κ Φ) k l = λ i q. keyless_alike (Φ q) (k q) (l q) i
keyless_alike (ftok E) k l = absurd k
keyless_alike (fkid h a) k l = absurd k
keyless_alike (fme h) k l = absurd k
keyless_alike (fsent E) k l = refl

shareable_alike : (R : RattleType) (h k : Shareable R) → h ≡ k
shareable_alike R h k = λ i x b o κ. keyless_alike (R.shr_at x b o κ) (h x b o κ) (k x b o κ) i

refuted_alike : (R : RattleType) (h k : Shareable R → ⊥) → h ≡ k
refuted_alike R h k = λ i s. let e : h s ≡ k s = absurd (h s) in e i

-- the two proofs decide alike, and either side has one proof at most
pub judged_alike : (R : RattleType) (a b : Judged R) → a ≡ b
judged_alike R (inl h) (inl k) = ap inl (shareable_alike R h k)
judged_alike R (inl h) (inr k) = absurd (k h)
judged_alike R (inr h) (inl k) = absurd (h k)
judged_alike R (inr h) (inr k) = ap inr (refuted_alike R h k)
