-- What is said of the tokens of a list.
use Rattle.std.specs.Prelude.{◌≡◌, ◌≢◌, ℕ, ◌^◌, ◌<◌, List, [], ◌∷◌, Option, Some, IsSome, All}
use base.Fml.{Fml, ftrue, fsep}
use denote.RattleType.{RattleType}
use Rattle.thread_local_base.specs.Place.{id_at}
use Rattle.thread_local_ids.specs.Told.{tells}
use Rattle.thread_local_ids.specs.TokenViews.{TokenView}

-- this holds of each of these tokens that is of the sharing, if the sharing has a name
abbrev pub AllOf : {V : Type 0} → Option ℕ → (TokenView V → Type 0) → List (TokenView V) → Type 0
AllOf sharing P tokens = IsSome sharing → All (λ p. p.sharing ≡ sharing → P p) tokens

-- it is told of the id of each of these tokens that its slot was published with the token's value
abbrev pub tell_each : (R : RattleType) → List (TokenView R.Denot) → Fml
tell_each R [] = ftrue
tell_each R (p ∷ tokens) = fsep (tells R p.sharing p.id (Some p.value)) (tell_each R tokens)

-- none of these tokens of the sharing is of a slot of this bucket
abbrev pub NoneIn : {V : Type 0} → Option ℕ → ℕ → List (TokenView V) → Type 0
NoneIn sharing bucket tokens = AllOf sharing (λ p. (i : ℕ) → i < 2 ^ bucket → p.id ≢ id_at bucket i) tokens
