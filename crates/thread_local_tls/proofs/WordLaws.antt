-- A word that `parse` reads is the number that it spells, and moves are read one after another.
use Rattle.std.proofs.Common.{◌≡◌, ℕ, ◌^◌, ◌<◌, ◌++◌, true, false, List, [], ◌∷◌, length, nat_lt, refl, ap, sym, ◌∙◌}
use Rattle.std.proofs.Common.{arith, Result, Ok, Err, Option, Some, None, codes, bytes_eq, option_map, option_and_then}
use Rattle.std.proofs.Common.{⊎_elim, lt-ltb, le-ltb}
use Rattle.std.proofs.lemmas.Bool.{and_parts, and_from, and_right, cond-true, cond-false, cases_lt}
use Rattle.std.proofs.lemmas.Bool.Decides.{nat_tests}
use Rattle.std.proofs.lemmas.Str.Parse.{IsDigitsTest, numerals_by_value, parse_digits}
use Rattle.std.specs.Char.{is_ascii_digit}
use Rattle.std.specs.List.{list_all}
use Rattle.std.specs.Result.{OkIff, result_ok}
use Rattle.std.specs.Int.{IsInRange}
use Rattle.std.specs.Str.Parse.{ParsesUnsigned, digits_value}
use Rattle.thread_local_tls.specs.Words.{number_of, moves_of, move_then}
use Rattle.thread_local_tls.specs.declared.moves.Move.{Move}
use Rattle.thread_local_tls.specs.declared.moves.Move.TheVariants.{Take, Give}

abbrev AreDigits : List ℕ → Type 0
AreDigits word = list_all is_ascii_digit word ≡ true

digit_in_range : (c : ℕ) → is_ascii_digit c ≡ true → IsInRange 48 57 c
digit_in_range c h = grind (arith, nat_tests)

digit_from_range : (c : ℕ) → IsInRange 48 57 c → is_ascii_digit c ≡ true
digit_from_range c h = grind (arith, nat_tests)

tells_digits : IsDigitsTest AreDigits
tells_digits = record {
  empty = refl;
  parts = λ c cs h. let both = and_parts (is_ascii_digit c) (list_all is_ascii_digit cs) h in (digit_in_range c both.0, both.1);
  more = λ c cs h rest. and_from (is_ascii_digit c) (list_all is_ascii_digit cs) (digit_from_range c h) rest;
}

too_large : (value : ℕ) → (value < 2 ^ 64 → ⊥) → nat_lt value (2 ^ 64) ≡ false
too_large value h = ⊎_elim (λ small. absurd (h small)) (λ large. le-ltb value (2 ^ 64) large) (cases_lt value (2 ^ 64))

-- what `parse` answers where all bytes are digits
number_is : {E : Type 0} (word : List ℕ) (r : Result ℕ E) → 0 < length word → AreDigits word
    → OkIff r ((0 < length word) × (digits_value 10 word < 2 ^ 64)) (digits_value 10 word) → result_ok r ≡ number_of word
number_is word (Ok x) some digits p =
    ap Some p.1
    ∙ sym (cond-true _ _ _ (and_from _ _ (and_from _ _ (lt-ltb 0 (length word) some) digits)
    (lt-ltb (digits_value 10 word) (2 ^ 64) p.0.1)))
number_is word (Err e) some digits p =
    sym (cond-false _ _ _ (and_right _ (nat_lt (digits_value 10 word) (2 ^ 64))
    (too_large (digits_value 10 word) (λ small. p (some, small)))))

pub parsed_number : {E : Type 0} (word : List ℕ) (r : Result ℕ E) → ParsesUnsigned 64 10 word r
    → 0 < length word → AreDigits word
    → result_ok r ≡ number_of word
parsed_number word r parsed some digits =
    number_is word r some digits
    (parse_digits (numerals_by_value AreDigits tells_digits) 64 word r parsed digits)

-- these moves in front of others
abbrev pub moves_then : List Move → Option (List Move) → Option (List Move)
moves_then front moves = option_map (λ rest. front ++ rest) moves

pub moves_of-take : (word : List ℕ) (words : List (List ℕ)) → bytes_eq word (codes "take") ≡ true
    → moves_of (word ∷ words) ≡ move_then Take (moves_of words)
unfolding moves_of
moves_of-take word [] is = cond-true _ _ _ is
moves_of-take word (next ∷ words) is = cond-true _ _ _ is

pub moves_of-give : (word next : List ℕ) (words : List (List ℕ))
    → bytes_eq word (codes "take") ≡ false → bytes_eq word (codes "give") ≡ true
    → moves_of (word ∷ next ∷ words) ≡ option_and_then (λ id. move_then (Give id) (moves_of words)) (number_of next)
unfolding moves_of
moves_of-give word next words not_take is = cond-false _ _ _ not_take ∙ cond-true _ _ _ is

pub moves_of-alone : (word : List ℕ) → bytes_eq word (codes "take") ≡ false → moves_of (word ∷ []) ≡ None
unfolding moves_of
moves_of-alone word not_take = cond-false _ _ _ not_take

pub moves_of-other : (word : List ℕ) (words : List (List ℕ)) → bytes_eq word (codes "take") ≡ false
    → bytes_eq word (codes "give") ≡ false
    → moves_of (word ∷ words) ≡ None
unfolding moves_of
moves_of-other word [] not_take not_give = cond-false _ _ _ not_take
moves_of-other word (next ∷ words) not_take not_give = cond-false _ _ _ not_take ∙ cond-false _ _ _ not_give

pub moves_of-none : moves_of [] ≡ Some []
unfolding moves_of
moves_of-none = refl

pub moves_of-give_number : (word next : List ℕ) (words : List (List ℕ)) (id : ℕ)
    → bytes_eq word (codes "take") ≡ false → bytes_eq word (codes "give") ≡ true
    → number_of next ≡ Some id → moves_of (word ∷ next ∷ words) ≡ move_then (Give id) (moves_of words)
moves_of-give_number word next words id not_take is number =
    moves_of-give word next words not_take is ∙ ap (λ o. option_and_then (λ k. move_then (Give k) (moves_of words)) o) number

pub moves_of-give_other : (word next : List ℕ) (words : List (List ℕ))
    → bytes_eq word (codes "take") ≡ false → bytes_eq word (codes "give") ≡ true
    → number_of next ≡ None → moves_of (word ∷ next ∷ words) ≡ None
moves_of-give_other word next words not_take is number =
    moves_of-give word next words not_take is ∙ ap (λ o. option_and_then (λ k. move_then (Give k) (moves_of words)) o) number

-- a list of length 0 is empty
pub nothing_left : {X : Type 0} (xs : List X) → length xs ≡ 0 → xs ≡ []
nothing_left [] e = refl
nothing_left (x ∷ xs) e = absurd (omega arith)
