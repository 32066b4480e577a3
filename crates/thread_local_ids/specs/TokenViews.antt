-- What a contract sees of a token.
use Rattle.std.specs.Prelude.{ℕ, Option, refl}
use Rattle.std.specs.Coded.{Coded, coded_option, coded_ℕ, coded×, code_by}

-- the sharing if that has a name, the id, and the value that the id's slot was published with
pub record TokenView (V : Type 0) : Type 0 where
  pub sharing : Option ℕ
  pub id : ℕ
  pub value : V

-- an injective code of such views, for ghost state
abbrev pub token_view_coded : {V : Type 0} → Coded V → Coded (TokenView V)
token_view_coded {V} c =
    code_by (Option ℕ × (ℕ × V)) (coded× (coded_option coded_ℕ) (coded× coded_ℕ c))
    (λ p. (p.sharing, (p.id, p.value))) (λ p. record { sharing = p.0; id = p.1.0; value = p.1.1 })
    (λ _. refl)
