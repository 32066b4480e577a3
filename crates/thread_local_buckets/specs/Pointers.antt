-- A table's pointers, their contents, and the pointers once one of them changes.
use Rattle.std.specs.Prelude.{ℕ, List, Option, [], map, slice_set}
use denote.RawPtr.{null_ptr}
use Rattle.thread_local_base.specs.Buckets.{Contents}
use Rattle.thread_local_buckets.specs.declared.bucket_pointer.BucketPointer.{BucketPointer}
use Rattle.thread_local_buckets.specs.declared.pointer_array.PointerArray.{PointerArray}

-- a null pointer
abbrev pub null_pointer : {X : Type 0} → BucketPointer X
null_pointer = record { at = null_ptr; slots = [] }

-- the pointers with another pointer for a bucket
abbrev pub with_pointer : {X : Type 0} → PointerArray X → ℕ → BucketPointer X → PointerArray X
with_pointer pointers bucket pointer = record { pointers = slice_set pointers.pointers bucket pointer }

abbrev pub slots_of : {X : Type 0} → BucketPointer X → List (Option X)
slots_of pointer = pointer.slots

-- the contents of the blocks that the pointers point to
abbrev pub contents_of : {X : Type 0} → PointerArray X → Contents X
contents_of pointers = record { rows = map slots_of pointers.pointers }
