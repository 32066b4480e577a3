-- The entries of a manager below the peak: all that contracts see, since every entry from the peak
-- on is free.
use Rattle.std.proofs.Common.{◌≡◌, ◌≢◌, ℕ, zero, suc, ◌*◌, ◌<◌, ◌≤◌, Bool, true, false, List, [], ◌∷◌, length}
use Rattle.std.proofs.Common.{take, set, ◌++◌, refl, ap, sym, ◌∙◌, arith}
use Rattle.std.proofs.lemmas.List.{get_or-set_other, take-append-le}
use Rattle.thread_local_base.specs.Bits.{bits_of}
use Rattle.thread_local_base.proofs.WordBits.{length-bits_of, get_or-bits_of, bits_of-append, is_set_in-push_zero}
use Rattle.thread_local_base.specs.Held.{is_held, least, with_least}

-- no entry from the peak on is held
abbrev pub IsFreeFrom : ℕ → List Bool → Type 0
IsFreeFrom peak entries = (id : ℕ) → peak ≤ id → is_held entries id ≡ false

-- the entries from the peak on don't count
pub is_held-take : (entries : List Bool) (peak id : ℕ) → IsFreeFrom peak entries
    → is_held (take peak entries) id ≡ is_held entries id
is_held-take [] zero id above = refl
is_held-take [] (suc peak) id above = refl
is_held-take (h ∷ entries) zero id above = sym (above id (omega arith))
is_held-take (h ∷ entries) (suc peak) zero above = refl
is_held-take (h ∷ entries) (suc peak) (suc id) above = is_held-take entries peak id (λ k p. above (suc k) (omega arith))

pub least-take : (entries : List Bool) (peak : ℕ) → peak ≤ length entries → IsFreeFrom peak entries
    → least (take peak entries) ≡ least entries
least-take [] zero within above = refl
least-take [] (suc peak) within above = refl
least-take (false ∷ entries) zero within above = refl
least-take (true ∷ entries) zero within above = let first : true ≡ false = above 0 (omega arith) in cc
least-take (false ∷ entries) (suc peak) within above = refl
least-take (true ∷ entries) (suc peak) within above = ap suc (least-take entries peak (omega arith) (λ k p. above (suc k) (omega arith)))

-- the least free id is the peak: the peak grows by one
pub taken_at_peak : (entries : List Bool) (peak : ℕ) → peak < length entries → IsFreeFrom peak entries → least entries ≡ peak
    → take (suc peak) (set entries peak true) ≡ with_least (take peak entries)
taken_at_peak [] peak within above at = absurd (omega arith)
taken_at_peak (false ∷ entries) zero within above at = refl
taken_at_peak (true ∷ entries) zero within above at = absurd (omega arith)
taken_at_peak (false ∷ entries) (suc peak) within above at = absurd (omega arith)
taken_at_peak (true ∷ entries) (suc peak) within above at =
    ap (λ l. true ∷ l) (taken_at_peak entries peak (omega arith) (λ k p. above (suc k) (omega arith)) (omega arith))

-- an id below the peak is free: the peak stays
pub taken_below_peak : (entries : List Bool) (peak : ℕ) → peak ≤ length entries → IsFreeFrom peak entries → least entries ≢ peak
    → take peak (set entries (least entries) true) ≡ with_least (take peak entries)
taken_below_peak [] zero within above apart = absurd (apart refl)
taken_below_peak [] (suc peak) within above apart = absurd (omega arith)
taken_below_peak (false ∷ entries) zero within above apart = absurd (apart refl)
taken_below_peak (true ∷ entries) zero within above apart = let first : true ≡ false = above 0 (omega arith) in cc
taken_below_peak (false ∷ entries) (suc peak) within above apart = refl
taken_below_peak (true ∷ entries) (suc peak) within above apart =
    ap (λ l. true ∷ l) (taken_below_peak entries peak (omega arith) (λ k p. above (suc k) (omega arith)) (λ same. apart (ap suc same)))

-- what is held is below the peak
pub below_peak : (entries : List Bool) (peak id : ℕ) → is_held (take peak entries) id ≡ true → id < peak
below_peak [] zero id h = cc
below_peak [] (suc peak) id h = cc
below_peak (e ∷ entries) zero id h = cc
below_peak (e ∷ entries) (suc peak) zero h = omega arith
below_peak (e ∷ entries) (suc peak) (suc id) h = let below = below_peak entries peak id h in omega arith

-- a write below the peak doesn't change the entries from the peak on
pub IsFreeFrom-set : (entries : List Bool) (peak id : ℕ) (value : Bool) → id < peak
    → IsFreeFrom peak entries
    → IsFreeFrom peak (set entries id value)
IsFreeFrom-set entries peak id value below above k h = let apart : k ≢ id = omega arith in rw get_or-set_other (above k h)

-- appending a word that is 0 changes neither what is held nor a prefix
pub is_held-push : (words : List ℕ) (id : ℕ) → is_held (bits_of (words ++ 0 ∷ [])) id ≡ is_held (bits_of words) id
is_held-push words id = get_or-bits_of (words ++ 0 ∷ []) id ∙ is_set_in-push_zero words id ∙ sym (get_or-bits_of words id)

pub take-push : (words : List ℕ) (peak : ℕ) → peak ≤ length words * 64
    → take peak (bits_of (words ++ 0 ∷ [])) ≡ take peak (bits_of words)
take-push words peak within =
    ap (take peak) (bits_of-append words (0 ∷ []))
    ∙ take-append-le peak (bits_of words) (bits_of (0 ∷ [])) (omega (arith, length-bits_of words))
