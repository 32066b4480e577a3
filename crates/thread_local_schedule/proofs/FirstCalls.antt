-- The five calls of a `Local` in a new table, computed.
use Rattle.std.proofs.Common.{◌≡◌, [], ◌∷◌, Some, None, false, IsSomeAnd, refl}
use Rattle.thread_local_base.specs.Place.{place, next_place, bucket_of, index_of}
use Rattle.thread_local_base.specs.Capacity.{binary_digits}
use Rattle.thread_local_base.specs.Answers.{Found, Answered, Refused, Failed}
use Rattle.thread_local_schedule.specs.Table.{slot_at, published, bucket_stands, with_fresh_bucket, with_table_slot, made_table}
use Rattle.thread_local_schedule.specs.Local.{fresh_local, local_step, local_steps, five_calls}

-- each call comes to its end
pub answers_come : (T F : Type 0) (v w : T) (e : F)
    → IsSomeAnd (local_steps (made_table 0) (fresh_local 0 (record { value = None; known = false }))
    (five_calls v w e))
    (λ after.
    (published after.0 0 ≡ Some v)
    × (after.1.answered ≡ Refused ∷ Failed e ∷ Answered v ∷ Found (Some v) ∷ Answered v ∷ []))
unfolding local_steps local_step slot_at published bucket_stands with_fresh_bucket with_table_slot
    made_table binary_digits bucket_of index_of place next_place
answers_come T F v w e = (refl, refl)
