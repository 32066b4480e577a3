-- How the slots of the buckets that stand add up.
use Rattle.std.proofs.Common.{◌≡◌, ℕ, zero, suc, ◌+◌, ◌-◌, ◌*◌, ◌^◌, ◌<◌, ◌≤◌, Bool, true, false, cond, eqb, IsTrue}
use Rattle.std.proofs.Common.{refl, ap, sym, ◌∙◌, arith, ⊎_elim}
use Rattle.std.proofs.lemmas.Bool.{cases_lt, cases_eq, cond_both, cond-true, cond-false, eq-eqb, ne_eqb, lt-ltb, le-ltb}
use Rattle.std.specs.Prelude.{nat_lt}
use Rattle.std.proofs.Math.Nat.{two-pow-succ}
use Rattle.thread_local_base.specs.Buckets.{slots, slots_below}

pub slots_below-none : (n : ℕ) → slots_below (λ _. false) n ≡ 0
unfolding slots_below
slots_below-none zero = refl
slots_below-none (suc n) = omega (arith, slots_below-none n)

-- all buckets below n have fewer than 2 ^ n slots
pub slots_below-lt : (stands : ℕ → Bool) (n : ℕ) → slots_below stands n < 2 ^ n
unfolding slots_below
slots_below-lt stands zero = omega arith
slots_below-lt stands (suc n) =
    let ih = slots_below-lt stands n in
    let twice = two-pow-succ n in
    cond_both (stands n) (2 ^ n) 0 (λ more. slots_below stands n + more < 2 ^ suc n) (λ _. omega arith) (λ _. omega arith)

-- where the first n buckets stand, they have 2 ^ n - 1 slots
pub slots_of_first : (stands : ℕ → Bool) (n : ℕ) → ((b : ℕ) → b < n → stands b ≡ true)
    → slots_below stands n + 1 ≡ 2 ^ n
unfolding slots_below
slots_of_first stands zero all = omega arith
slots_of_first stands (suc n) all =
    let ih = slots_of_first stands n (λ b low. all b (omega arith)) in
    let here = cond-true (stands n) (2 ^ n) 0 (all n (omega arith)) in
    let twice = two-pow-succ n in
    omega arith

-- more buckets have no fewer slots
pub slots_grow : (stands : ℕ → Bool) (n m : ℕ) → n ≤ m → slots_below stands n ≤ slots_below stands m
unfolding slots_below
slots_grow stands n zero h = let same : n ≡ 0 = omega arith in omega (arith, ap (slots_below stands) same)
slots_grow stands n (suc m) h =
    ⊎_elim
    (λ (low : n < suc m). let ih = slots_grow stands n m (omega arith) in omega arith)
    (λ (high : suc m ≤ n). let same : n ≡ suc m = omega arith in omega (arith, ap (slots_below stands) same))
    (cases_lt n (suc m))

-- buckets that don't stand add no slots
pub slots_below-further : (stands : ℕ → Bool) (k n : ℕ) → k ≤ n
    → ((b : ℕ) → k ≤ b → b < n → stands b ≡ false)
    → slots_below stands n ≡ slots_below stands k
unfolding slots_below
slots_below-further stands k zero h none = let same : 0 ≡ k = omega arith in ap (slots_below stands) same
slots_below-further stands k (suc n) h none =
    ⊎_elim
    (λ below.
    let ih = slots_below-further stands k n (omega arith) (λ b low high. none b low (omega arith)) in
    let here = cond-false (stands n) (2 ^ n) 0 (none n (omega arith) (omega arith)) in
    omega arith)
    (λ above. let same : suc n ≡ k = omega arith in ap (slots_below stands) same)
    (cases_lt k (suc n))

-- a further bucket adds its slots
pub slots_below-more : (stands : ℕ → Bool) (bucket n : ℕ) → stands bucket ≡ false
    → slots_below (λ b. cond (eqb bucket b) true (stands b)) n ≡ slots_below stands n + cond (nat_lt bucket n) (2 ^ bucket) 0
unfolding slots_below
slots_below-more stands bucket zero h = rw (le-ltb bucket 0 (omega arith)) refl
slots_below-more stands bucket (suc n) h =
    let ih = slots_below-more stands bucket n h in
    ⊎_elim
    (λ here.
    let past : n ≤ bucket = omega arith in
    let within : bucket < suc n = omega arith in
    let before : slots_below (λ b. cond (eqb bucket b) true (stands b)) n ≡ slots_below stands n + 0 = rw (le-ltb bucket n past) at ih in
    let power : 2 ^ n ≡ 2 ^ bucket = ap (λ k. 2 ^ k) (sym here) in
    let none : stands n ≡ false = ap stands (sym here) ∙ h in
    rw (eq-eqb bucket n here, lt-ltb bucket (suc n) within, none) (omega arith))
    (λ apart. rw (ne_eqb bucket n apart)
    (⊎_elim
    (λ below. rw (lt-ltb bucket (suc n) (omega arith)) (let before = rw (lt-ltb bucket n below) at ih in omega arith))
    (λ above. rw (le-ltb bucket (suc n) (omega arith)) (let before = rw (le-ltb bucket n above) at ih in omega arith))
    (cases_lt bucket n)))
    (cases_eq bucket n)

-- where each bucket that stands has at most m slots, all have at most 2 * m - 1
pub slots_bounded : (stands : ℕ → Bool) (m n : ℕ) → ((b : ℕ) → IsTrue (stands b) → 2 ^ b ≤ m)
    → slots_below stands n ≤ 2 * m - 1
unfolding slots_below
slots_bounded stands m zero small = omega arith
slots_bounded stands m (suc n) small =
    let ih = slots_bounded stands m n small in
    let low = slots_below-lt stands n in
    cond_both (stands n) (2 ^ n) 0 (λ more. slots_below stands n + more ≤ 2 * m - 1)
    (λ t. let here = small n t in omega arith) (λ _. omega arith)

pub slots-none : slots (λ _. false) ≡ 0
unfolding slots
slots-none = slots_below-none 63

pub slots-more : (stands : ℕ → Bool) (bucket : ℕ) → bucket < 63 → stands bucket ≡ false
    → slots (λ b. cond (eqb bucket b) true (stands b)) ≡ slots stands + 2 ^ bucket
unfolding slots
slots-more stands bucket h none = rw (slots_below-more stands bucket 63 none, lt-ltb bucket 63 h) refl
