-- A log at one key under a table's name: how it is appended to, and what parts of it show. Assumes
-- `Logic`.
use Rattle.std.proofs.Common.{◌≡◌, ℕ, ◌==◌, Bool, true, false, List, refl}
use Rattle.std.proofs.lemmas.Bool.{eq-eqb}
use mathlib.Core.List.{IsPrefix}
use mathlib.Core.Option.{Option, none, some}
use mathlib.Mathlib.Data.Part.{◌∈◌}
use seplogic.Ra.Pcs.{OpDef, FpUpd₁}
use seplogic.Ra.Ura.{Ura}
use seplogic.Ra.Constructions.Opt
use base.Fraction.{full_share, left}
use base.FractionLaws.{not-OpDef-full_share}
use base.Share
use base.Growing.{Order, Sum, prefixes, grows}
use base.Logic.{guard, upd, guard_i}
use base.Graph.{sum_in}
use base.Fml.{GName, Share}
use types.Logic.{Logic}
use types.Keyed.{keyed}
use types.Owned.{own_sum, own_step, own_join}
use Rattle.thread_local_base.specs.IdMoves.{IdMove, move_coded}
use Rattle.thread_local_ids.specs.Rights.{telling, Element, at_if, element_at}
use Rattle.thread_local_ids.proofs.RightElements.{Row, at_key, at_each_key}
use Rattle.thread_local_base.proofs.Signs.{signs}

sum_at : (t : Bool) (a b c : Element) → c ∈ telling.op a b → at_if t c ∈ at_key (at_if t a) (at_if t b)
sum_at true a b c m = (Opt.some-mem-op-some_iff telling.op {a = a} {b = b} {c = c}).1 m
sum_at false a b c m = Opt.mem-none-op telling.op none

fact_at : (t : Bool) (a b : Element) → t ≡ true → OpDef at_key (at_if t a) (at_if t b) → OpDef telling.op a b
fact_at true a b is d = d
fact_at false a b is d = cc

step_at : (t : Bool) (a b : Element) (o : Option Element) → FpUpd₁ telling.op a b → OpDef at_key (at_if t a) o → OpDef at_key (at_if t b) o
step_at true a b none h d = tt
step_at true a b (some c) h d = h c d
step_at false a b o h d = d

abbrev pub O : Order (List IdMove)
O = prefixes move_coded

under : (q : Share) (a b : List IdMove) → O.le b a → Sum O (some q, a) (none, b) (some q, a)
under q a b h = (Opt.mem-op-none Share.op (some q), ((O.same a, h, λ e x _. x), ((λ _. O.same a), λ x. absurd x)))

lower : (a b : List IdMove) → O.le b a → Sum O (none, b) (none, a) (none, a)
lower a b h = (Opt.mem-none-op Share.op none, ((h, O.same a, λ e _ x. x), ((λ x. absurd x), λ x. absurd x)))

raised : (a b : List IdMove) → O.le a b → (o : Option Share) (c : List IdMove) → OpDef telling.op (some full_share, a) (o, c)
    → OpDef telling.op (some full_share, b) (o, c)
raised a b h none c d = ((some full_share, b), under full_share b c (O.trans c a b (O.trans c d.0.1 a d.1.1.0.1 (d.1.1.1.0 tt)) h))
raised a b h (some q) c d = absurd (not-OpDef-full_share q d.1.0.0)

-- two halves of one log are the whole
abbrev pub half : List IdMove → Element
half a = (some (left full_share), a)

halves : (a : List IdMove) → Sum O (half a) (half a) (some full_share, a)
halves a =
    let q : Share = left full_share in (
      (Opt.some-mem-op-some_iff Share.op {a = q} {b = q} {c = full_share}).1 (Share.halves full_share),
      ((O.same a, O.same a, λ e x _. x), ((λ _. O.same a), λ _. O.same a)),
    )

module _ {M : Type 1} {𝓤 : Ura M} (𝓛 : Logic 𝓤) (key : ℕ) where
  open signs 𝓛 use {⟦◌⟧, ◌⊢◌, ◌∗◌}

  infix 26 ◌⊢◌
  infixr 35 ◌∗◌
  abbrev row : Element → Row
  row a j = at_if (key == j) a

  cut : (γ : GName) (a b c : Element) → c ∈ telling.op a b → ⟦ element_at key γ c ⟧ ⊢ ⟦ element_at key γ a ⟧ ∗ ⟦ element_at key γ b ⟧
  cut γ a b c m =
      𝓛.algebras.own_cut (keyed telling) γ (row a) (row b) (row c)
      (at_each_key (row a) (row b) (row c) (λ j. sum_at (key == j) a b c m))

  pub shows : (γ : GName) (a b : Element) (φ : Type 0) → (OpDef telling.op a b → φ)
      → ⟦ element_at key γ a ⟧ ∗ ⟦ element_at key γ b ⟧ ⊢ guard 𝓤 φ (⟦ element_at key γ a ⟧ ∗ ⟦ element_at key γ b ⟧)
  shows γ a b φ so =
      own_sum 𝓛 (keyed telling) γ (row a) (row b) (guard 𝓤 φ (⟦ element_at key γ a ⟧ ∗ ⟦ element_at key γ b ⟧)) (λ c m.
      guard_i 𝓤 φ (⟦ element_at key γ a ⟧ ∗ ⟦ element_at key γ b ⟧)
      (so (fact_at (key == key) a b (eq-eqb key key refl) (m.0 key))))

  pub part_off : (γ : GName) (all some_of : List IdMove) → IsPrefix some_of all
      → ⟦ element_at key γ (some full_share, all) ⟧ ⊢ ⟦ element_at key γ (none, some_of) ⟧ ∗ ⟦ element_at key γ (some full_share, all) ⟧
  part_off γ all some_of le =
      cut γ (none, some_of) (some full_share, all) (some full_share, all)
      (sum_in (grows O) (none, some_of) (some full_share, all) (some full_share, all)
      ((grows O).comm (some full_share, all) (none, some_of) (some full_share, all) (under full_share all some_of le)))

  pub part_twice : (γ : GName) (all : List IdMove)
      → ⟦ element_at key γ (none, all) ⟧ ⊢ ⟦ element_at key γ (none, all) ⟧ ∗ ⟦ element_at key γ (none, all) ⟧
  part_twice γ all =
      cut γ (none, all) (none, all) (none, all) (sum_in (grows O) (none, all) (none, all) (none, all) (lower all all (O.same all)))

  pub grown : (γ : GName) (moves more : List IdMove) → IsPrefix moves more
      → ⟦ element_at key γ (some full_share, moves) ⟧ ⊢ upd 𝓤 ⟦ element_at key γ (some full_share, more) ⟧
  grown γ moves more le =
      own_step 𝓛 (keyed telling) γ (row (some full_share, moves)) (row (some full_share, more)) (λ g d. λ j.
      step_at (key == j) (some full_share, moves) (some full_share, more) (g j)
      (λ f. raised moves more le f.0 f.1) (d j))

  pub halved : (γ : GName) (a : List IdMove)
      → ⟦ element_at key γ (some full_share, a) ⟧ ⊢ ⟦ element_at key γ (half a) ⟧ ∗ ⟦ element_at key γ (half a) ⟧
  halved γ a = cut γ (half a) (half a) (some full_share, a) (sum_in (grows O) (half a) (half a) (some full_share, a) (halves a))

  pub joined : (γ : GName) (a : List IdMove)
      → ⟦ element_at key γ (half a) ⟧ ∗ ⟦ element_at key γ (half a) ⟧ ⊢ ⟦ element_at key γ (some full_share, a) ⟧
  joined γ a =
      own_join 𝓛 (keyed telling) γ (row (half a)) (row (half a)) (row (some full_share, a))
      (at_each_key (row (half a)) (row (half a)) (row (some full_share, a))
      (λ j. sum_at (key == j) (half a) (half a) (some full_share, a) (sum_in (grows O) (half a) (half a) (some full_share, a) (halves a))))

  -- two halves agree
  pub agree : (γ : GName) (a b : List IdMove)
      → ⟦ element_at key γ (half a) ⟧ ∗ ⟦ element_at key γ (half b) ⟧
      ⊢ guard 𝓤 (a ≡ b) (⟦ element_at key γ (half a) ⟧ ∗ ⟦ element_at key γ (half b) ⟧)
  agree γ a b =
      shows γ (half a) (half b) (a ≡ b)
      (λ d. O.anti a b (O.trans a d.0.1 b d.1.1.0.0 (d.1.1.1.1 tt)) (O.trans b d.0.1 a d.1.1.0.1 (d.1.1.1.0 tt)))
