-- The id that was given back last, whose bit is still set: a take of it, and that it isn't held. A number past all ids stands for none.
use Rattle.std.proofs.Common.{◌≡◌, ℕ, zero, suc, ◌-◌, ◌^◌, ◌<◌, ◌≤◌, true, false, Bool, List, [], ◌∷◌, length, refl, ap, ◌∙◌, sym, arith}
use Rattle.thread_local_base.specs.Held.{Manager, least, with_least, without, given_to, Takes, IsExhausted}
use Rattle.thread_local_base.specs.Words.{HasReturned}
use Rattle.thread_local_base.proofs.HeldLaws.{least_lower, least_bounded, length-without, takes}

without_past : (held : List Bool) (id : ℕ) → length held ≤ id → without held id ≡ held
without_past [] id past = refl
without_past (h ∷ held) zero past = absurd (omega arith)
without_past (h ∷ held) (suc id) past = ap (λ l. h ∷ l) (without_past held id (omega arith))

-- where none was given back, the bits are the held ids
pub none_returned : (bits : Manager) (id : ℕ) → HasReturned bits id → given_to bits (2 ^ 63 - 1) ≡ bits
none_returned bits id is =
    ap (λ held. record bits { held = held })
    (without_past bits.held (2 ^ 63 - 1) (let fits = is.peak_in_room in let range = is.room_in_range in omega arith))

-- an id below the least free one is the least free one without it, and a take makes it held again
least-without : (held : List Bool) (id : ℕ) → id < least held → (least (without held id) ≡ id) × (held ≡ with_least (without held id))
least-without [] id below = absurd (omega arith)
least-without (false ∷ held) id below = absurd (omega arith)
least-without (true ∷ held) zero below = (refl, refl)
least-without (true ∷ held) (suc id) below =
    let rest = least-without held id (omega arith) in (ap suc rest.0, ap (λ l. true ∷ l) rest.1)

pub takes_returned : (bits : Manager) (id : ℕ) → HasReturned bits id → id < least bits.held
    → Takes (given_to bits id) (given_to bits (2 ^ 63 - 1)) id
takes_returned bits id is below =
    let again = least-without bits.held id below in
    let fits = is.peak_in_room in
    let range = is.room_in_range in
    takes _ _ id (sym again.0) (omega (arith, least_bounded bits.held))
    (ap (λ (m : Manager). m.held) (none_returned bits id is) ∙ again.1)
    (omega arith) (λ _. refl) (omega arith) (omega (arith, length-without bits.held (2 ^ 63 - 1))) range

-- where the bits have no unset one, every id is held
pub none_left : (bits : Manager) (id : ℕ) → HasReturned bits id → 2 ^ 63 - 1 ≤ least (without bits.held id)
    → IsExhausted (given_to bits id)
none_left bits id is top =
    let held = without bits.held id in
    let fits = is.peak_in_room in
    let range = is.room_in_range in
    let few = least_bounded held in record {
      full = λ k below. least_lower held k (omega (arith, top));
      peak = omega (arith, few, length-without bits.held id);
      room = omega (arith, few, length-without bits.held id);
    }
