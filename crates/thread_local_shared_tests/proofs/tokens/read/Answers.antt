-- the token is of the id at the place that is looked at
use Rattle.std.proofs.Common.{◌≡◌, ℕ, ap, sym, ◌∙◌}
use Rattle.thread_local_base.specs.Place.{index_of, id_at}
use Rattle.thread_local_base.proofs.PlaceLaws.{id_at-place}
use Rattle.thread_local_shared_tests.proofs.tokens.read.Goals as goal

-- src/tokens.rt
pub value-requires-clause-id : goal.value-requires-clause-id
value-requires-clause-id g c κs within =
    let place = c.new-place in
    let there : place.result.bucket ≡ c.bucket.result.now.bucket = sym c.bucket.ensures.number in
    sym c.id.ensures.id ∙ sym (id_at-place c.id.result)
    ∙ ap (λ (b : ℕ). id_at b (index_of c.id.result)) (sym place.ensures.bucket ∙ there)
    ∙ ap (id_at c.bucket.result.now.bucket) (sym place.ensures.index)
