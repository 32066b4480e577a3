-- Tokens of different ids, as many as a map has values, are all of the map.
use Rattle.std.proofs.Common.{◌≡◌, ◌≢◌, ◌-◌, ◌^◌, ◌<◌, ℕ, List, map, length, None, Option, Some, ap, sym}
use Rattle.std.proofs.Common.{◌∙◌, subst, arith}
use Rattle.std.specs.Prelude.{Contains, IsPermutation, slice_index_or}
use Rattle.std.specs.List.{AllPairs, AllWithin}
use Rattle.std.proofs.lemmas.List.{length-map, get_or-map}
use Rattle.thread_local_base.specs.Walk.{walk}
use Rattle.thread_local_base.proofs.EntriesLaws.{are_all}
use Rattle.thread_local_ids.specs.TokenViews.{TokenView}
use Rattle.std.proofs.lemmas.Simd.{map-map}

-- the entry that a token is of
abbrev entry : {V : Type 0} → TokenView V → ℕ × V
entry token = (token.id, token.value)

-- what a map has at a token's id
abbrev pub IsIn : {V : Type 0} → (ℕ → Option V) → TokenView V → Type 0
IsIn values token = (token.id < 2 ^ 63 - 1) × (values token.id ≡ Some token.value)

-- each entry of tokens that are in a map is in the map
entries_in : {V : Type 0} (values : ℕ → Option V) (tokens : List (TokenView V))
    → AllWithin (IsIn values) tokens 0 (length tokens) → (id : ℕ) (v : V)
    → Contains (map entry tokens) (id, v)
    → (id < 2 ^ 63 - 1) × (values id ≡ Some v)
entries_in {V} values tokens all id v (k, l, is) =
    let some : TokenView V = record { sharing = None; id = id; value = v } in
    let near : k < length tokens = omega (arith, l, length-map tokens (entry {V = V})) in
    let it : entry (slice_index_or tokens k some) ≡ (id, v) = sym (get_or-map entry tokens k some (id, v) near) ∙ is in
    subst (λ (e : ℕ × V). (e.0 < 2 ^ 63 - 1) × (values e.0 ≡ Some e.1)) it (all k some (omega arith) near)

-- the entries of tokens whose ids differ
entries_differ : {V : Type 0} (tokens : List (TokenView V))
    → AllPairs (λ one other. one.id ≢ other.id) tokens
    → AllPairs (λ one other. one.0 ≢ other.0) (map entry tokens)
entries_differ {V} tokens different = λ i j d l m.
    let some : TokenView V = record { sharing = None; id = d.0; value = d.1 } in
    let near : j < length tokens = omega (arith, m, length-map tokens (entry {V = V})) in
    let first = get_or-map entry tokens i some d (omega (arith, l, near)) in let second = get_or-map entry tokens j some d near in
    λ same. different i j some l near (sym (ap (λ e. e.0) first) ∙ same ∙ ap (λ e. e.0) second)

pub tokens_are_all : {V : Type 0} (values : ℕ → Option V) (tokens : List (TokenView V))
    → AllWithin (IsIn values) tokens 0 (length tokens)
    → AllPairs (λ one other. one.id ≢ other.id) tokens
    → length tokens ≡ length (walk values) → IsPermutation (map (λ token. token.value) tokens) (walk values)
unfolding walk
tokens_are_all {V} values tokens all different as_many =
    let entries : List (ℕ × V) = map entry tokens in
    subst (λ (vs : List V). IsPermutation vs (walk values)) (map-map (λ (e : ℕ × V). e.1) entry tokens)
    (are_all entries values (2 ^ 63 - 1) (entries_differ tokens different)
    (entries_in values tokens all) (length-map tokens entry ∙ as_many))
