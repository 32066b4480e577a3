-- What is held where ids are taken one after another, and where one is given back and taken again.
use Rattle.std.proofs.Common.{◌≡◌, ◌≢◌, ℕ, ◌+◌, ◌<◌, ◌≤◌, true, false, refl, sym, ◌∙◌, arith, ⊎_elim}
use Rattle.std.proofs.lemmas.Bool.{eq-eqb, ne_eqb, cases_eq, cases_lt, both_ways}
use Rattle.thread_local_base.specs.Held.{Manager, is_held, least, HoldsAllBelow, Takes, Gives}
use Rattle.thread_local_base.proofs.HeldLaws.{least_free, least_lower, least_only}

-- where every id below a number is held, one more is once an id is taken
pub one_more : (old new : Manager) (n taken : ℕ) → HoldsAllBelow n old.held → Takes old new taken → HoldsAllBelow (n + 1) new.held
one_more old new n taken full takes id below =
    let first = takes.least in
    takes.at id ∙ ⊎_elim
    (λ (same : taken ≡ id). rw (eq-eqb taken id same) refl)
    (λ (apart : taken ≢ id). rw (ne_eqb taken id apart) (⊎_elim
    (λ (lower : id < least old.held). least_lower old.held id lower)
    (λ (from : least old.held ≤ id).
    absurd (both_ways (is_held old.held (least old.held)) (least_free old.held)
    (full (least old.held) (omega arith))))
    (cases_lt id (least old.held))))
    (cases_eq taken id)

-- an id that is given back is taken again, where every id below a higher number was held
pub taken_again : (old given new : Manager) (n id taken : ℕ) → HoldsAllBelow n old.held → id < n
    → Gives old given id → Takes given new taken
    → (taken ≡ id) × HoldsAllBelow n new.held
taken_again old given new n id taken full below gives takes =
    let others : (k : ℕ) → k < n → id ≢ k → is_held given.held k ≡ true =
    λ k inside apart. gives.at k ∙ rw (ne_eqb id k apart) (full k inside) in
    let free : is_held given.held id ≡ false = gives.at id ∙ rw (eq-eqb id id refl) refl in
    let first : id ≡ least given.held =
    least_only given.held id free
    (λ k lower. others k (omega arith) (λ same. omega (arith, same))) in
    let same : taken ≡ id = takes.least ∙ sym first in (
      same,
      λ k inside. takes.at k ∙ ⊎_elim
          (λ (here : taken ≡ k). rw (eq-eqb taken k here) refl)
          (λ (apart : taken ≢ k). rw (ne_eqb taken k apart) (others k inside (λ e. apart (same ∙ e))))
          (cases_eq taken k),
    )
