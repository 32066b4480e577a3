use Rattle.std.proofs.Common.{◌≡◌, ◌/◌, ◌%◌, ◌*◌, ◌-◌, ◌^◌, ◌<◌, arith, inl, inr, ap, ◌∙◌, bit_xor, set, length, List, ℕ}
use Rattle.std.proofs.lemmas.List.{length-set}
use Rattle.thread_local_base.specs.Bits.{IsNextUnset}
use Rattle.thread_local_base.proofs.Words.{seen_least, needs_memory, HasBit, word_at, has_bit, are, IsSet, is_set, bit_turned}
use Rattle.thread_local_base.proofs.manager.IdBits.set_lowest.Goals as goal
use Rattle.thread_local_base.proofs.manager.IdBits.set_lowest.Goals.{then-id-len+in_ok-push, else-id-len, After-index_mut-arg-1}

pub returns-in_err-push-clause-memory : goal.returns-in_err-push-clause-memory
returns-in_err-push-clause-memory c = λ _.
    let m = c.self.inside in
    let below = rw (← c.self.view_is) at c.requires in
    rw (← c.self.view_is)
    (needs_memory m.words.items m.peak _ c.self.invariant (omega (arith, below, seen_least m.words.items m.peak _ c.self.invariant))
    (omega (arith, c.if-id-len.true, c.len.ensures, m.words.ok.0)))

-- what is known of the bit once there is a word for it
module _ (c : After-index_mut-arg-1) where
  range : c.self.inside.lowest < 2 ^ 63 - 1
  range =
      let m = c.self.inside in
      let below = rw (← c.self.view_is) at c.requires in
      omega (arith, below, seen_least m.words.items m.peak _ c.self.invariant)

  bit : HasBit c.self.inside.words.items c.self.inside.lowest c.if-id-len.self-inside.words.items
  bit =
      let m = c.self.inside in
      elim c.if-id-len.branch [
        | then-id-len+in_ok-push w ↦
            inr (
              ap (λ m. m.words.items) w.self-inside-is ∙ w.in_ok-push.ensures.items,
              omega (arith, w.if-id-len.true, c.len.ensures, m.words.ok.0),
            )
        | else-id-len w ↦
            inl (
              ap (λ m. m.words.items) w.self-inside-is,
              omega (
                arith,
                w.if-id-len.false,
                c.len.ensures,
                m.words.ok.0,
                word_at m.words.items m.peak _ c.self.invariant range,
              ),
            )
      ]

  within : c.self.inside.lowest / 64 < length c.if-id-len.self-inside.words.items
  within = has_bit c.self.inside.words.items c.self.inside.peak _ _ c.self.invariant range bit

pub index_mut-requires : goal.index_mut-requires
index_mut-requires c = omega (arith, within c, c.if-id-len.self-inside.words.ok.0)

pub next_unset-self-inside-requires : goal.next_unset-self-inside-requires
next_unset-self-inside-requires c =
    let m = c.self.inside in
    let found = (goal.at.next_unset-self-inside-requires c).After-index_mut-arg-1 in
    let long = length-set c.if-id-len.self-inside.words.items (m.lowest / 64) 0 in
    let now = are m.words.items m.peak _ _ c.self.invariant (range found) (bit found) in
    (omega (arith, within found, c.deref.ensures.len, long), omega (arith, now.few, c.deref.ensures.len, long))

-- the id's bit is set, in a word that may be new
set_once : (c : goal.After-self-3-1)
    → IsSet c.self.inside.words.items c.self.inside.peak c.self.inside.lowest
    (set c.if-id-len.self-inside.words.items (c.self.inside.lowest / 64)
    (bit_xor c.index_mut.result.now (1 * 2 ^ (c.self.inside.lowest % 64) % 2 ^ 64)))
    c.max-self-inside.result c.next_unset-self-inside.result
set_once c =
    let m = c.self.inside in
    let more = c.if-id-len.self-inside.words.items in
    let found = (goal.at.invariant_of-self-2 c).After-index_mut-arg-1 in
    let peak : c.if-id-len.self-inside.peak ≡ m.peak =
    elim c.if-id-len.branch [
      | then-id-len+in_ok-push w ↦ ap (λ m. m.peak) w.self-inside-is
      | else-id-len w ↦ ap (λ m. m.peak) w.self-inside-is
    ] in
    let turned = bit_turned more m.lowest c.index_mut.result.now (within found) c.index_mut.ensures.value in
    let now : List ℕ = set more (m.lowest / 64) (bit_xor c.index_mut.result.now (1 * 2 ^ (m.lowest % 64) % 2 ^ 64)) in
    let next : IsNextUnset now (m.lowest / 64 * 64) c.next_unset-self-inside.result =
    rw (← c.deref.ensures.value) c.next_unset-self-inside.ensures in
    rw (c.max-self-inside.ensures, peak)
    (is_set m.words.items _ _ _ c.self.invariant (range found) (bit found) now turned (length-set more _ _) _ next)

pub invariant_of-self-2 : goal.invariant_of-self-2
invariant_of-self-2 c = (set_once c).0

pub returns-clause-ok : goal.returns-clause-ok
returns-clause-ok c =
    let m = c.self.inside in
    rw (← c.self.view_is, ← seen_least m.words.items m.peak m.lowest c.self.invariant) (set_once c).1
