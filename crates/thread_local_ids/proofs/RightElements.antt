-- The elements that rights own: how they are made, split, joined and compared. Assumes `Logic`.
use Rattle.std.proofs.Common.{◌≡◌, ◌≢◌, ℕ, suc, ◌^◌, ◌<◌, ◌==◌, Bool, true, false, not, ◌&&◌, List, [], ◌∷◌, if◌then◌else◌}
use Rattle.std.proofs.Common.{refl, subst, sym, ap, ◌∙◌, arith, ⊎_elim}
use Rattle.std.specs.Prelude.{nat_lt, nat_le}
use Rattle.std.proofs.lemmas.Bool.{eqb-true, eq-eqb, ne_eqb, false≢true, lt-ltb, le-ltb, le-leb, lt-leb, cases_lt}
use mathlib.Core.Option.{Option, some}
use mathlib.Mathlib.Data.Part.{Part, ◌∈◌}
use seplogic.Ra.Pcs.{OpDef}
use seplogic.Ra.Ura.{Ura}
use seplogic.Ra.Constructions.Opt
use base.Fraction.{full_share}
use base.FractionLaws.{not-OpDef-full_share}
use seplogic.Ra.IProd.{mem-op_iff}
use base.Logic.{SProp, ex, guard, emp, upd, upd_i, via, guard_i}
use base.Fml.{GName, fown}
use base.Shift.{Keyless}
use types.Logic.{Logic}
use types.Keyed.{keyed}
use types.Kit.{‵, raw, ◌⊛◌, settle, suffices, ◌$◌, ◌∵◌, !, qed, pick, show, split, use0, use1, done}
use types.Kit as kit
use types.Owned.{own_new, own_sum, own_glued, own_join}
use Rattle.thread_local_ids.specs.Rights.{is_out, is_kept, less, telling, Element, element_if, slot_key, right_owns, rights_own, slots_own}
use Rattle.thread_local_base.proofs.Signs.{signs}

-- one test more, at the id itself and at another one
at_same : (ij xj r tail : Bool) → xj ≡ ij → r ≡ (if ij then false else tail) → r ≡ (if ij then false else (if xj then true else tail))
at_same true xj r tail same rest = rest
at_same false true r tail same rest = cc
at_same false false r tail same rest = rest

at_other : (ij xj r tail : Bool) → (xj ≡ true → ij ≡ false) → r ≡ (if ij then false else tail)
    → (if xj then true else r) ≡ (if ij then false else (if xj then true else tail))
at_other true true r tail apart rest = apart refl
at_other true false r tail apart rest = rest
at_other false true r tail apart rest = refl
at_other false false r tail apart rest = rest

less_more : (x id j : ℕ) (out left : List ℕ) (t : Bool) → (x == id) ≡ t → is_out left j ≡ (if id == j then false else is_out out j)
    → is_out (if t then left else x ∷ left) j ≡ (if id == j then false else is_out (x ∷ out) j)
less_more x id j out left true e rest =
    at_same (id == j) (x == j) (is_out left j) (is_out out j) (ap (λ (k : ℕ). k == j) (eqb-true x id e)) rest
less_more x id j out left false e rest =
    at_other (id == j) (x == j) (is_out left j) (is_out out j)
    (λ is. subst (λ (k : ℕ). (id == k) ≡ false) (eqb-true x j is)
    (ne_eqb id x (λ same. let no : false ≡ true = sym e ∙ eq-eqb x id (sym same) in cc)))
    rest

-- what is out once an id's right is put back
pub is_out-less : (out : List ℕ) (id j : ℕ) → is_out (less out id) j ≡ (if id == j then false else is_out out j)
is_out-less [] id j = elim (id == j) as (λ t. false ≡ (if t then false else false)) [ true ↦ refl | false ↦ refl ]
is_out-less (x ∷ out) id j = less_more x id j out (less out id) (x == id) refl (is_out-less out id j)

abbrev whole : Element
whole = (some full_share, [])

no_two : OpDef telling.op whole whole → ⊥
no_two d = not-OpDef-full_share full_share d.1.0.0

abbrev pub Row : Type 0
Row = ℕ → Option Element

abbrev pub at_key : Option Element → Option Element → Part {0, 0} (Option Element)
at_key = Opt.op telling.op

pub at_each_key : (f g h : Row) → ((j : ℕ) → h j ∈ at_key (f j) (g j)) → h ∈ (keyed telling).op f g
at_each_key f g h = (mem-op_iff {A = λ (_ : ℕ). Option Element} (λ _. at_key) {f = f} {g = g} {h = h}).1

abbrev one_at : ℕ → Row
one_at id j = element_if (id == j)

abbrev every : Row
every j = element_if true

abbrev all_but : List ℕ → Row
all_but out j = element_if (is_kept out j)

abbrev all_from : ℕ → Row
all_from k j = element_if (nat_le (slot_key k) j)

whole_at : (low from : Bool) → from ≡ not low → element_if true ∈ at_key (element_if (low && true)) (element_if from)
whole_at true true e = cc
whole_at true false e = Opt.mem-op-none telling.op (some whole)
whole_at false true e = Opt.mem-none-op telling.op (some whole)
whole_at false false e = cc

-- a key is below those of slots, or is one of these
from_first : (j : ℕ) → nat_le (slot_key 0) j ≡ not (nat_lt j (slot_key 0))
from_first j =
    ⊎_elim
    (λ (below : j < slot_key 0). lt-leb (slot_key 0) j below ∙ sym (ap not (lt-ltb j (slot_key 0) below)))
    (λ above. le-leb (slot_key 0) j above ∙ sym (ap not (le-ltb j (slot_key 0) above)))
    (cases_lt j (slot_key 0))

cut_at : (is low gone : Bool) → (is ≡ true → low ≡ true) → (is ≡ true → gone ≡ false)
    → element_if (low && not gone) ∈ at_key (element_if is) (element_if (low && not (if is then true else gone)))
cut_at true low true is_low none_gone = let no : true ≡ false = none_gone refl in cc
cut_at true true false is_low none_gone = Opt.mem-op-none telling.op (some whole)
cut_at true false false is_low none_gone = absurd (false≢true (is_low refl))
cut_at false low gone is_low none_gone = Opt.mem-none-op telling.op (element_if (low && not gone))

joined_at : (is low gone : Bool) → (is ≡ true → low ≡ true) → (is ≡ true → gone ≡ true)
    → element_if (low && not (if is then false else gone)) ∈ at_key (element_if is) (element_if (low && not gone))
joined_at true low false is_low all_gone = absurd (false≢true (all_gone refl))
joined_at true true true is_low all_gone = Opt.mem-op-none telling.op (some whole)
joined_at true false true is_low all_gone = absurd (false≢true (is_low refl))
joined_at false low gone is_low all_gone = Opt.mem-none-op telling.op (element_if (low && not gone))

clash : (is low gone : Bool) → is ≡ true → low ≡ true → gone ≡ false
    → OpDef at_key (element_if is) (element_if (low && not gone)) → ⊥
clash false low gone e l f d = cc
clash true low true e l f d = cc
clash true true false e l f d = no_two d
clash true false false e l f d = cc

-- the first of some slots is cut off
slot_at : (is from next : Bool) → (is ≡ true → (from ≡ true) × (next ≡ false)) → (is ≡ false → from ≡ next)
    → element_if from ∈ at_key (element_if is) (element_if next)
slot_at true from next first others =
    let both : (from ≡ true) × (next ≡ false) = first refl in
    rw both.0 (rw both.1 (Opt.mem-op-none telling.op (some whole)))
slot_at false from next first others = rw (others refl) (Opt.mem-none-op telling.op (element_if next))

slot_first : (k j : ℕ) → (slot_key k == j) ≡ true → (nat_le (slot_key k) j ≡ true) × (nat_le (slot_key (suc k)) j ≡ false)
slot_first k j is =
    let same : slot_key k ≡ j = eqb-true (slot_key k) j is in
    (le-leb (slot_key k) j (omega (arith, same)), lt-leb (slot_key (suc k)) j (omega (arith, same)))

slot_other : (k j : ℕ) → (slot_key k == j) ≡ false → nat_le (slot_key k) j ≡ nat_le (slot_key (suc k)) j
slot_other k j not_it =
    ⊎_elim
    (λ (below : j < slot_key k). lt-leb (slot_key k) j below ∙ sym (lt-leb (slot_key (suc k)) j (omega (arith, below))))
    (λ above.
    let apart : slot_key k ≢ j = λ same. absurd (false≢true (sym not_it ∙ eq-eqb (slot_key k) j same)) in
    le-leb (slot_key k) j above ∙ sym (le-leb (slot_key (suc k)) j (omega (arith, above, apart))))
    (cases_lt j (slot_key k))

is_low : (id j : ℕ) → id < 2 ^ 66 → (id == j) ≡ true → nat_lt j (slot_key 0) ≡ true
is_low id j low is = lt-ltb j (slot_key 0) (subst (λ (k : ℕ). k < 2 ^ 66) (eqb-true id j is) low)

twice : (is : Bool) → is ≡ true → OpDef at_key (element_if is) (element_if is) → ⊥
twice true e d = no_two d
twice false e d = cc

module _ {M : Type 1} {𝓤 : Ura M} (𝓛 : Logic 𝓤) where
  open signs 𝓛 use {⟦◌⟧, ◌⊢◌, ◌∗◌}

  infix 26 ◌⊢◌
  infixr 35 ◌∗◌
  -- all rights of a new table, under a fresh name, with those to its slots beside the others
  all_cut : (γ : GName) → ⟦ fown (keyed telling) γ every ⟧ ⊢ ⟦ rights_own γ [] ⟧ ∗ ⟦ slots_own γ 0 ⟧
  unfolding rights_own slots_own
  all_cut γ = 𝓛.algebras.own_cut (keyed telling) γ (all_but []) (all_from 0) every
      (at_each_key (all_but []) (all_from 0) every (λ j. whole_at (nat_lt j (slot_key 0)) (nat_le (slot_key 0) j) (from_first j)))

  pub rights_new : emp 𝓤 ⊢ upd 𝓤 (ex 𝓤 (λ (γ : GName). ⟦ rights_own γ [] ⟧ ∗ ⟦ slots_own γ 0 ⟧))
  rights_new =
      let All = λ (γ : GName). fown (keyed telling) γ every in
      let New = λ (γ : GName). ⟦ rights_own γ [] ⟧ ∗ ⟦ slots_own γ 0 ⟧ in
      let Z : SProp 𝓤 = ex 𝓤 New in
      qed 𝓛 [] ∵ use0 𝓛 (raw (upd 𝓤 (ex 𝓤 (λ (γ : GName). ⟦ All γ ⟧)))) (own_new 𝓛 (keyed telling) every) $
      settle 𝓛 Z (kit.some (λ (γ : GName). ‵ (All γ))) $ pick ! (λ γ. suffices ! _ (upd_i 𝓤 Z) $
      use1 𝓛 (‵ (rights_own γ []) ⊛ ‵ (slots_own γ 0)) (all_cut γ) $ split ! $ show ! New γ $ done !)

  -- the right to the first of some slots
  pub slots_cut : (γ : GName) (k : ℕ) → ⟦ slots_own γ k ⟧ ⊢ ⟦ right_owns γ (slot_key k) ⟧ ∗ ⟦ slots_own γ (suc k) ⟧
  unfolding right_owns slots_own
  slots_cut γ k = 𝓛.algebras.own_cut (keyed telling) γ (one_at (slot_key k)) (all_from (suc k)) (all_from k)
      (at_each_key (one_at (slot_key k)) (all_from (suc k)) (all_from k)
      (λ j. slot_at (slot_key k == j) (nat_le (slot_key k) j) (nat_le (slot_key (suc k)) j) (slot_first k j) (slot_other k j)))

  -- an id's right is taken out
  pub rights_cut : (γ : GName) (out : List ℕ) (id : ℕ) → id < 2 ^ 66 → is_out out id ≡ false
      → ⟦ rights_own γ out ⟧ ⊢ ⟦ right_owns γ id ⟧ ∗ ⟦ rights_own γ (id ∷ out) ⟧
  unfolding right_owns rights_own
  rights_cut γ out id low free = 𝓛.algebras.own_cut (keyed telling) γ (one_at id) (all_but (id ∷ out)) (all_but out)
      (at_each_key (one_at id) (all_but (id ∷ out)) (all_but out)
      (λ j. cut_at (id == j) (nat_lt j (slot_key 0)) (is_out out j) (is_low id j low) (λ is. rw (← eqb-true id j is) free)))

  abbrev Out : ℕ → List ℕ → ℕ → SProp 𝓤 → SProp 𝓤
  Out γ out id Z = guard 𝓤 (is_out out id ≡ true) Z

  seen : (γ : GName) (out : List ℕ) (id : ℕ) → id < 2 ^ 66 → (Z : SProp 𝓤)
      → (is_out out id ≡ true → ⟦ right_owns γ id ⟧ ∗ ⟦ rights_own γ out ⟧ ⊢ Z)
      → ⟦ right_owns γ id ⟧ ∗ ⟦ rights_own γ out ⟧ ⊢ Out γ out id Z
  unfolding right_owns rights_own
  seen γ out id low Z so = own_sum 𝓛 (keyed telling) γ (one_at id) (all_but out) (Out γ out id Z) (λ c m. tell (is_out out id) refl m.0)
    where
      tell : (t : Bool) → is_out out id ≡ t → OpDef (keyed telling).op (one_at id) (all_but out)
          → ⟦ right_owns γ id ⟧ ∗ ⟦ rights_own γ out ⟧ ⊢ Out γ out id Z
      tell true e d = via 𝓤 Z (so e) (guard_i 𝓤 (is_out out id ≡ true) Z e)
      tell false e d =
          absurd (clash (id == id) (nat_lt id (slot_key 0)) (is_out out id) (eq-eqb id id refl) (lt-ltb id (slot_key 0) low) e (d id))

  -- a right is put back
  pub rights_join : (γ : GName) (out : List ℕ) (id : ℕ) → id < 2 ^ 66
      → ⟦ right_owns γ id ⟧ ∗ ⟦ rights_own γ out ⟧ ⊢ Out γ out id ⟦ rights_own γ (less out id) ⟧
  unfolding right_owns rights_own
  rights_join γ out id low =
      seen γ out id low ⟦ rights_own γ (less out id) ⟧ (λ gone.
      own_join 𝓛 (keyed telling) γ (one_at id) (all_but out) (all_but (less out id))
      (at_each_key (one_at id) (all_but out) (all_but (less out id)) (λ j.
      rw is_out-less (joined_at (id == j) (nat_lt j (slot_key 0)) (is_out out j) (is_low id j low) (λ is. rw (← eqb-true id j is) gone)))))

  -- no two rights are to the same id
  pub right_once : (γ : GName) (id : ℕ) (Z : SProp 𝓤) → ⟦ right_owns γ id ⟧ ∗ ⟦ right_owns γ id ⟧ ⊢ Z
  unfolding right_owns
  right_once γ id Z =
      own_glued 𝓛 (keyed telling) γ (one_at id) (one_at id) Z
      (λ c m. absurd (twice (id == id) (eq-eqb id id refl) (m.0 id)))

pub right_keyless : (γ : GName) (id : ℕ) → Keyless (right_owns γ id)
unfolding right_owns
right_keyless γ id = tt

pub rights_keyless : (γ : GName) (out : List ℕ) → Keyless (rights_own γ out)
unfolding rights_own
rights_keyless γ out = tt

pub slots_keyless : (γ k : ℕ) → Keyless (slots_own γ k)
unfolding slots_own
slots_keyless γ k = tt
