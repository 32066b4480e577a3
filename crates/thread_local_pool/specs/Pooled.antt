-- What a contract sees of a value that is borrowed from a pool.
use Rattle.std.specs.Prelude.{Bool, refl}
use Rattle.std.specs.Coded.{Coded, coded×, code_by}
use base.Stored.{coded_bool}

-- the value, and whether it was made for this holder
pub record PooledView (V : Type 0) : Type 0 where
  pub value : V
  pub is_new : Bool

-- an injective code of such views, for ghost state
abbrev pub pooled_view_coded : {V : Type 0} → Coded V → Coded (PooledView V)
pooled_view_coded {V} c =
    code_by (V × Bool) (coded× c coded_bool) (λ p. (p.value, p.is_new))
    (λ p. record { value = p.0; is_new = p.1 }) (λ _. refl)

-- the view with another value
abbrev pub with_pooled : {V : Type 0} → PooledView V → V → PooledView V
with_pooled pooled value = record pooled { value = value }
