-- How proofs tell apart values of the model's types: contents, and an owner's buckets.
use Rattle.std.specs.Prelude.{List, Option, refl, ℕ}
use Rattle.std.specs.Coded.{Coded, coded_list, coded_option, coded_ℕ, coded×, code_by}
use Rattle.thread_local_base.specs.Buckets.{Contents}
use Rattle.thread_local_base.specs.Owned.{Owned}

-- contents: by their rows
abbrev pub contents_coded : {V : Type 0} → Coded V → Coded (Contents V)
contents_coded {V} c =
    code_by (List (List (Option V))) (coded_list (coded_list (coded_option c))) (λ s. s.rows)
    (λ rows. record { rows = rows }) (λ _. refl)

-- an owner's buckets: by contents and reserved slots
abbrev pub owned_coded : {V : Type 0} → Coded V → Coded (Owned V)
owned_coded {V} c =
    code_by (Contents V × ℕ) (coded× (contents_coded c) coded_ℕ) (λ o. (o.contents, o.reserved))
    (λ p. record { contents = p.0; reserved = p.1 }) (λ _. refl)
