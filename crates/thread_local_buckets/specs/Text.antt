-- What errors print.
use Rattle.std.specs.Prelude.{ℕ, List, codes}
use Rattle.thread_local_buckets.specs.declared.buckets.CapacityError.{CapacityError}
use Rattle.thread_local_buckets.specs.declared.buckets.CapacityError.TheVariants.{TooLarge, Memory}

abbrev pub capacity_error_text : CapacityError → List ℕ
capacity_error_text TooLarge = codes "capacity is 2^63 or more"
capacity_error_text (Memory refused) = codes "memory allocation failed"
