-- While an id is held, no page says that it was given back since.
use Rattle.std.proofs.Common.{◌≡◌, ℕ, suc, ◌+◌, ◌≤◌, ◌==◌, Bool, true, false, List, [], ◌∷◌, ◌++◌, if◌then◌else◌}
use Rattle.std.proofs.Common.{refl, sym, ap, ◌∙◌, subst, arith}
use Rattle.std.proofs.lemmas.Bool.{eqb-true, eq-eqb}
use mathlib.Core.List.{IsPrefix}
use mathlib.Core.Option.{Option, none, some}
use mathlib.Mathlib.Data.Part.{Part, ◌∈◌}
use seplogic.Ra.Pcs.{OpDef}
use seplogic.Ra.Ura.{Ura}
use seplogic.Ra.Constructions.Opt
use seplogic.Ra.IProd.{mem-op_iff}
use base.Fraction.{full_share}
use base.FractionLaws.{not-OpDef-full_share}
use base.Share
use base.Growing.{Sum, numbers, grows}
use base.Graph.{sum_in}
use base.Logic.{SProp, guard, upd, guard_i, via}
use base.Fml.{GName, Share, fown}
use types.Logic.{Logic, sem}
use types.Keyed.{keyed}
use types.Owned.{own_sum, own_step, own_join}
use Rattle.thread_local_base.specs.Held.{is_held, least, with_least, without}
use Rattle.thread_local_base.proofs.HeldLaws.{least_free, is_held-with_least, is_held-without}
use Rattle.thread_local_base.specs.IdMoves.{IdMove, Take, Give, Publish, held_from, held_after, noted}
use Rattle.thread_local_ids.specs.Returns.{gives, counting, Count, count_of, counts, pages, count_if, counts_own, counts_page, tenure_owns}
use Rattle.thread_local_base.proofs.IdMoveLaws.{held_apart, after_take, after_give}
use Rattle.thread_local_base.proofs.Signs.{signs}

-- ---- lists
pub gives_apart : (before later : List IdMove) (id : ℕ) → gives (before ++ later) id ≡ gives before id + gives later id
gives_apart [] later id = omega arith
gives_apart (Take ∷ before) later id = gives_apart before later id
gives_apart (Publish other value ∷ before) later id = gives_apart before later id
gives_apart (Give other ∷ before) later id = at (other == id) (gives_apart before later id)
  where
    at : (t : Bool) → gives (before ++ later) id ≡ gives before id + gives later id
        → (if t then suc (gives (before ++ later) id) else gives (before ++ later) id)
        ≡ (if t then suc (gives before id) else gives before id) + gives later id
    at true e = omega (arith, e)
    at false e = e

held_taken : (held : List Bool) (id : ℕ) → is_held held id ≡ true → is_held (with_least held) id ≡ true
held_taken held id is = is_held-with_least held id ∙ at (least held == id)
  where
    at : (t : Bool) → (if t then true else is_held held id) ≡ true
    at true = refl
    at false = is

held_given : (held : List Bool) (other id : ℕ) → (other == id) ≡ false → is_held held id ≡ true
    → is_held (without held other) id ≡ true
held_given held other id differs is = is_held-without held other id ∙ rw differs is

-- an id that is held stays held where it isn't given back
held_stays : (held : List Bool) (moves : List IdMove) (id : ℕ) → is_held held id ≡ true → gives moves id ≡ 0
    → is_held (held_from held moves) id ≡ true
held_stays held [] id is never = is
held_stays held (Take ∷ moves) id is never = held_stays (with_least held) moves id (held_taken held id is) never
held_stays held (Publish other value ∷ moves) id is never = held_stays held moves id is never
held_stays held (Give other ∷ moves) id is never =
    apart (other == id) refl never (λ differs n. held_stays (without held other) moves id (held_given held other id differs is) n)
  where
    apart : (t : Bool) → (other == id) ≡ t → (if t then suc (gives moves id) else gives moves id) ≡ 0
        → ((other == id) ≡ false → gives moves id ≡ 0 → is_held (held_from (without held other) moves) id ≡ true)
        → is_held (held_from (without held other) moves) id ≡ true
    apart true same n rest = absurd (omega (arith, n))
    apart false differs n rest = rest differs n

-- the id of a take is held after all later moves that don't give it back
pub still_held : (before later : List IdMove) (id : ℕ) → IsPrefix (noted before Take) later
    → id ≡ least (held_after before) → gives later id ≤ gives before id
    → is_held (held_after later) id ≡ true
still_held before later id early low few =
    let rest : List IdMove = early.0 in
    let taken : List IdMove = noted before Take in
    let whole : taken ++ rest ≡ later = early.1 in
    let start : is_held (held_after taken) id ≡ true =
    ap (λ (h : List Bool). is_held h id) (after_take before)
    ∙ is_held-with_least (held_after before) id
    ∙ rw (eq-eqb (least (held_after before)) id (sym low)) refl in
    let all : gives later id ≡ gives taken id + gives rest id =
    ap (λ (l : List IdMove). gives l id) (sym whole) ∙ gives_apart taken rest id in
    let same : gives taken id ≡ gives before id + 0 = gives_apart before (Take ∷ []) id in
    let none : gives rest id ≡ 0 = omega (arith, all, same, few) in
    subst (λ (l : List IdMove). is_held (held_after l) id ≡ true) whole
    (ap (λ (h : List Bool). is_held h id) (held_apart [] taken rest) ∙ held_stays (held_after taken) rest id start none)

gives_after_take : (moves : List IdMove) (j : ℕ) → gives (noted moves Take) j ≡ gives moves j
gives_after_take moves j = let e : gives (noted moves Take) j ≡ gives moves j + 0 = gives_apart moves (Take ∷ []) j in omega (arith, e)

gives_after_give : (moves : List IdMove) (id j : ℕ)
    → gives (noted moves (Give id)) j ≡ (if id == j then suc (gives moves j) else gives moves j)
gives_after_give moves id j = gives_apart moves (Give id ∷ []) j ∙ at (id == j)
  where
    at : (t : Bool) → gives moves j + (if t then 1 else 0) ≡ (if t then suc (gives moves j) else gives moves j)
    at true = omega arith
    at false = omega arith

held_after_take : (moves : List IdMove) (id j : ℕ) → id ≡ least (held_after moves)
    → is_held (held_after (noted moves Take)) j ≡ (if id == j then true else is_held (held_after moves) j)
held_after_take moves id j low =
    ap (λ (h : List Bool). is_held h j) (after_take moves)
    ∙ is_held-with_least (held_after moves) j
    ∙ ap (λ (k : ℕ). if k == j then true else is_held (held_after moves) j) (sym low)

held_after_give : (moves : List IdMove) (id j : ℕ)
    → is_held (held_after (noted moves (Give id))) j ≡ (if id == j then false else is_held (held_after moves) j)
held_after_give moves id j =
    ap (λ (h : List Bool). is_held h j) (after_give moves id) ∙ is_held-without (held_after moves) id j

-- ---- elements
abbrev Row : Type 0
Row = ℕ → Option Count

abbrev cell : Option Count → Option Count → Part {0, 0} (Option Count)
cell = Opt.op counting.op

at_each_key : (f g h : Row) → ((j : ℕ) → h j ∈ cell (f j) (g j)) → h ∈ (keyed counting).op f g
at_each_key f g h = (mem-op_iff {A = λ (_ : ℕ). Option Count} (λ _. cell) {f = f} {g = g} {h = h}).1

under : (q : Share) (a b : ℕ) → b ≤ a → Sum numbers (some q, a) (none, b) (some q, a)
under q a b h = (Opt.mem-op-none Share.op (some q), ((numbers.same a, h, λ e x _. x), ((λ _. numbers.same a), λ x. absurd x)))

lower : (a b : ℕ) → b ≤ a → Sum numbers (none, b) (none, a) (none, a)
lower a b h = (Opt.mem-none-op Share.op none, ((h, numbers.same a, λ e _ x. x), ((λ x. absurd x), λ x. absurd x)))

raised : (a b : ℕ) → a ≤ b → (o : Option Share) (c : ℕ) → OpDef counting.op (some full_share, a) (o, c)
    → OpDef counting.op (some full_share, b) (o, c)
raised a b h none c d =
    ((some full_share, b), under full_share b c (numbers.trans c a b (numbers.trans c d.0.1 a d.1.1.0.1 (d.1.1.1.0 tt)) h))
raised a b h (some q) c d = absurd (not-OpDef-full_share q d.1.0.0)

in_some : (a b c : Count) → Sum numbers a b c → ◌∈◌ {α = Option Count} (some c) (cell (some a) (some b))
in_some a b c m = (Opt.some-mem-op-some_iff counting.op {a = a} {b = b} {c = c}).1 (sum_in (grows numbers) a b c m)

whole_is : (m : ℕ) → Sum numbers (some full_share, m) (none, m) (some full_share, m)
whole_is m = under full_share m m (numbers.same m)

cut_at : (t here : Bool) (n m : ℕ) → (t ≡ true → here ≡ false) → (t ≡ true → n ≡ m)
    → ◌∈◌ {α = Option Count} (some (count_of here m)) (cell (count_if t n) (some (count_of (if t then true else here) m)))
cut_at true here n m free same =
    subst (λ (h : Bool). ◌∈◌ {α = Option Count} (some (count_of h m)) (cell (some (some full_share, n)) (some (none, m)))) (sym (free refl))
    (subst (λ (k : ℕ). ◌∈◌ {α = Option Count} (some (some full_share, m)) (cell (some (some full_share, k)) (some (none, m)))) (sym (same refl))
    (in_some (some full_share, m) (none, m) (some full_share, m) (whole_is m)))
cut_at false here n m free same = Opt.mem-none-op counting.op (some (count_of here m))

join_at : (t here : Bool) (n m : ℕ) → (t ≡ true → here ≡ true) → (t ≡ true → n ≡ m)
    → ◌∈◌ {α = Option Count} (some (count_of (if t then false else here) m)) (cell (count_if t n) (some (count_of here m)))
join_at true here n m held same =
    subst (λ (h : Bool). ◌∈◌ {α = Option Count} (some (some full_share, m)) (cell (some (some full_share, n)) (some (count_of h m)))) (sym (held refl))
    (subst (λ (k : ℕ). ◌∈◌ {α = Option Count} (some (some full_share, m)) (cell (some (some full_share, k)) (some (none, m)))) (sym (same refl))
    (in_some (some full_share, m) (none, m) (some full_share, m) (whole_is m)))
join_at false here n m held same = Opt.mem-none-op counting.op (some (count_of here m))

raised_at : (m : ℕ) (o : Option Count) → OpDef cell (some (some full_share, m)) o → OpDef cell (some (some full_share, suc m)) o
raised_at m none d = tt
raised_at m (some c) d = raised m (suc m) (omega arith) c.0 c.1 d

step_at : (t here : Bool) (m : ℕ) (o : Option Count) → OpDef cell (some (count_of (if t then false else here) m)) o
    → OpDef cell (some (count_of (if t then false else here) (if t then suc m else m))) o
step_at true here m o d = raised_at m o d
step_at false here m o d = d

page_at : (here : Bool) (m : ℕ)
    → ◌∈◌ {α = Option Count} (some (count_of here m)) (cell (some (none, m)) (some (count_of here m)))
page_at true m = in_some (none, m) (none, m) (none, m) (lower m m (numbers.same m))
page_at false m =
    in_some (none, m) (some full_share, m) (some full_share, m)
    ((grows numbers).comm (some full_share, m) (none, m) (some full_share, m) (whole_is m))

fact_at : (t : Bool) (n : ℕ) (a : Count) → t ≡ true → OpDef cell (count_if t n) (some a) → OpDef counting.op (some full_share, n) a
fact_at true n a is d = d
fact_at false n a is d = cc

two_wholes : (t : Bool) (n m : ℕ) → t ≡ true → OpDef cell (count_if t n) (count_if t m) → ⊥
two_wholes true n m is d = not-OpDef-full_share full_share d.1.0.0
two_wholes false n m is d = cc

bounds : (n m : ℕ) → OpDef counting.op (some full_share, n) (none, m) → m ≤ n
bounds n m d = numbers.trans m d.0.1 n d.1.1.0.1 (d.1.1.1.0 tt)

bounded_at : (n m : ℕ) (here : Bool) → here ≡ true → OpDef counting.op (some full_share, n) (count_of here m) → m ≤ n
bounded_at n m true is d = bounds n m d
bounded_at n m false is d = cc

module _ {M : Type 1} {𝓤 : Ura M} (𝓛 : Logic 𝓤) where
  open signs 𝓛 use {⟦◌⟧, ◌⊢◌, ◌∗◌}

  infix 26 ◌⊢◌
  infixr 35 ◌∗◌
  abbrev stays : ℕ → ℕ → Row
  stays id n j = count_if (id == j) n

  -- whoever takes an id gets its count
  pub taken : (δ : GName) (moves : List IdMove) (id : ℕ) → id ≡ least (held_after moves)
      → ⟦ counts_own δ moves ⟧ ⊢ ⟦ tenure_owns δ id (gives moves id) ⟧ ∗ ⟦ counts_own δ (noted moves Take) ⟧
  taken δ moves id low =
      𝓛.algebras.own_cut (keyed counting) δ (stays id (gives moves id)) (counts (noted moves Take)) (counts moves)
      (at_each_key (stays id (gives moves id)) (counts (noted moves Take)) (counts moves) (λ j.
      let same : counts (noted moves Take) j
      ≡ some (count_of (if id == j then true else is_held (held_after moves) j) (gives moves j)) =
      ap (λ (h : Bool). some (count_of h (gives (noted moves Take) j))) (held_after_take moves id j low)
      ∙ ap (λ (m : ℕ). some (count_of (if id == j then true else is_held (held_after moves) j) m)) (gives_after_take moves j) in
      subst (λ (x : Option Count). counts moves j ∈ cell (stays id (gives moves id) j) x) (sym same)
      (cut_at (id == j) (is_held (held_after moves) j) (gives moves id) (gives moves j)
      (λ is. ap (λ (k : ℕ). is_held (held_after moves) k) (sym (eqb-true id j is) ∙ low) ∙ least_free (held_after moves))
      (λ is. ap (λ (k : ℕ). gives moves k) (eqb-true id j is)))))

  pub page_off : (δ : GName) (moves : List IdMove) → ⟦ counts_own δ moves ⟧ ⊢ ⟦ counts_page δ moves ⟧ ∗ ⟦ counts_own δ moves ⟧
  page_off δ moves =
      𝓛.algebras.own_cut (keyed counting) δ (pages moves) (counts moves) (counts moves)
      (at_each_key (pages moves) (counts moves) (counts moves) (λ j. page_at (is_held (held_after moves) j) (gives moves j)))

  pub page_again : (δ : GName) (moves : List IdMove) → ⟦ counts_page δ moves ⟧ ⊢ ⟦ counts_page δ moves ⟧ ∗ ⟦ counts_page δ moves ⟧
  page_again δ moves =
      𝓛.algebras.own_cut (keyed counting) δ (pages moves) (pages moves) (pages moves)
      (at_each_key (pages moves) (pages moves) (pages moves) (λ j. page_at true (gives moves j)))

  -- while an id is held, no page says that it was given back since
  pub not_given : (δ : GName) (id n : ℕ) (later : List IdMove)
      → ⟦ tenure_owns δ id n ⟧ ∗ ⟦ counts_page δ later ⟧
      ⊢ guard 𝓤 (gives later id ≤ n) (⟦ tenure_owns δ id n ⟧ ∗ ⟦ counts_page δ later ⟧)
  not_given δ id n later =
      let Both : SProp 𝓤 = ⟦ tenure_owns δ id n ⟧ ∗ ⟦ counts_page δ later ⟧ in
      own_sum 𝓛 (keyed counting) δ (stays id n) (pages later) (guard 𝓤 (gives later id ≤ n) Both) (λ c m.
      guard_i 𝓤 (gives later id ≤ n) Both
      (bounds n (gives later id) (fact_at (id == id) n (none, gives later id) (eq-eqb id id refl) (m.0 id))))

  -- one count isn't with two
  pub count_once : (δ : GName) (id n m : ℕ) (Z : SProp 𝓤) → ⟦ tenure_owns δ id n ⟧ ∗ ⟦ tenure_owns δ id m ⟧ ⊢ Z
  count_once δ id n m Z =
      own_sum 𝓛 (keyed counting) δ (stays id n) (stays id m) Z (λ c two. absurd (two_wholes (id == id) n m (eq-eqb id id refl) (two.0 id)))

  -- an id is given back with its count
  pub given : (δ : GName) (moves : List IdMove) (id n : ℕ) → is_held (held_after moves) id ≡ true → n ≤ gives moves id
      → ⟦ tenure_owns δ id n ⟧ ∗ ⟦ counts_own δ moves ⟧ ⊢ upd 𝓤 ⟦ counts_own δ (noted moves (Give id)) ⟧
  given δ moves id n held few =
      let whole : Row = λ j. some (count_of (if id == j then false else is_held (held_after moves) j) (gives moves j)) in
      own_sum 𝓛 (keyed counting) δ (stays id n) (counts moves) (upd 𝓤 ⟦ counts_own δ (noted moves (Give id)) ⟧) (λ c m.
      let least_n : gives moves id ≤ n =
      bounded_at n (gives moves id) (is_held (held_after moves) id) held
      (fact_at (id == id) n (count_of (is_held (held_after moves) id) (gives moves id)) (eq-eqb id id refl) (m.0 id)) in
      let same : n ≡ gives moves id = omega (arith, least_n, few) in
      via 𝓤 (sem 𝓛 (fown (keyed counting) δ whole))
      (own_join 𝓛 (keyed counting) δ (stays id n) (counts moves) whole
      (at_each_key (stays id n) (counts moves) whole (λ j.
      join_at (id == j) (is_held (held_after moves) j) n (gives moves j)
      (λ is. ap (λ (k : ℕ). is_held (held_after moves) k) (sym (eqb-true id j is)) ∙ held)
      (λ is. same ∙ ap (λ (k : ℕ). gives moves k) (eqb-true id j is)))))
      (own_step 𝓛 (keyed counting) δ whole (counts (noted moves (Give id))) (λ g d. λ j.
      let now : counts (noted moves (Give id)) j
      ≡ some (count_of (if id == j then false else is_held (held_after moves) j) (if id == j then suc (gives moves j) else gives moves j)) =
      ap (λ (h : Bool). some (count_of h (gives (noted moves (Give id)) j))) (held_after_give moves id j)
      ∙ ap (λ (m : ℕ). some (count_of (if id == j then false else is_held (held_after moves) j) m)) (gives_after_give moves id j) in
      subst (λ (x : Option Count). OpDef cell x (g j)) (sym now)
      (step_at (id == j) (is_held (held_after moves) j) (gives moves j) (g j) (d j)))))
