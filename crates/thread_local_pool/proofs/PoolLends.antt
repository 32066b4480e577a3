-- What a pool lends: a value that was found in a cell, or one that was made.
use Rattle.std.proofs.lemmas.Option.{same_Some}
use Rattle.std.proofs.Common.{◌≡◌, ◌∙◌, Option, Some, is_none, false, sym, ap}
use Rattle.thread_local_pool.specs.Pooled.{PooledView}

-- it is called new where none was found
pub newness : {V : Type 0} {found cell : Option V} {value : V} {lent : PooledView V}
    → found ≡ cell → lent ≡ record { value = value; is_new = is_none cell }
    → lent.is_new ≡ is_none found
newness {V} is made =
    ap (λ (pooled : PooledView V). pooled.is_new) made ∙ sym (ap (λ (cell : Option V). is_none cell) is)

-- a value that was found is lent as it is
pub as_found : {V : Type 0} {found : Option V} {value : V} {lent : PooledView V}
    → found ≡ Some value → lent ≡ record { value = value; is_new = false }
    → (there : V) → found ≡ Some there
    → lent.value ≡ there
as_found {V} {found} {value} is made there told =
    ap (λ (pooled : PooledView V). pooled.value) made ∙ same_Some value there (sym is ∙ told)
