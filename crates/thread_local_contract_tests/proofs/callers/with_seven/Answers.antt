use Rattle.std.proofs.Common.{rules, ◌≡◌, refl}
use Rattle.thread_local_base.specs.Capacity.{reserved_slots, binary_digits}
use Rattle.thread_local_base.specs.Place.{bucket_of, next_place, place}
use Rattle.thread_local_contract_tests.proofs.callers.with_seven.Goals as goal

seven : reserved_slots 4 ≡ 7
unfolding reserved_slots binary_digits bucket_of place next_place
seven = refl

pub returns : goal.returns
returns c = search (rules, seven)
