-- The schedule of four `Local`s, computed step by step.
use Rattle.std.proofs.Common.{◌≡◌, true, ℕ, [], ◌∷◌, Some, IsTrue, IsSomeAnd, refl}
use Rattle.thread_local_base.specs.Place.{place, next_place, bucket_of, index_of}
use Rattle.thread_local_base.specs.Capacity.{binary_digits, reserved_slots}
use Rattle.thread_local_base.specs.Buckets.{slots, slots_below}
use Rattle.thread_local_schedule.specs.Table.{slot_at, published, bucket_stands, with_fresh_bucket, with_table_slot, made_table}
use Rattle.thread_local_schedule.specs.Local.{local_step}
use Rattle.thread_local_base.specs.Cursor.{is_complete}
use Rattle.thread_local_schedule.specs.SharedWalk.{walk_step}
use Rattle.thread_local_schedule.specs.OwnerWalk.{owner_walk, owner_walk_below}
use Rattle.thread_local_base.specs.Walk.{walk_below}
use Rattle.thread_local_base.specs.Answers.{Found, Answered}
use Rattle.thread_local_schedule.specs.Core.{peak, installed_slots}
use Rattle.thread_local_schedule.specs.Events.{Owner, RewriteTable, ClearTable, step, happens, run, is_enabled}
use Rattle.thread_local_schedule.specs.Story.{walk_on, whole_walk, four_publish, four_give_back, after_publishing}
use Rattle.thread_local_schedule.specs.Story.{after_walking, after_giving_back, after_next, after_all}

-- the definitions that are unfolded to compute the schedule
unfoldable pub by_steps : ℕ
unfolding walk_on whole_walk four_publish four_give_back after_publishing after_walking
    after_giving_back after_next after_all run happens step is_enabled local_step walk_step slot_at
    published bucket_stands with_fresh_bucket with_table_slot made_table binary_digits reserved_slots
    bucket_of index_of place next_place slots slots_below walk_below owner_walk owner_walk_below
by_steps = 0

module _ (T F : Type 0) (a b c d : T) where
  pub first_slots : installed_slots (after_publishing {V = T} {E = F} a b c d) ≡ 7
  unfolding by_steps
  first_slots = refl

  pub walk_gives : IsSomeAnd ((after_walking {V = T} {E = F} a b c d).walks 0) (λ walk.
      IsTrue (is_complete walk.cursor) × (walk.given ≡ (0, a) ∷ (1, b) ∷ (2, c) ∷ (3, d) ∷ []))
  unfolding by_steps
  walk_gives = (refl, refl)

  pub next_gets : IsSomeAnd ((after_next {V = T} {E = F} a b c d).locals 4) (λ local.
      (local.id ≡ 0) × (local.start.value ≡ Some a)
      × (local.answered ≡ Found (Some a) ∷ Answered a ∷ []))
  unfolding by_steps
  next_gets = (refl, refl, refl)

  pub owner_gets : (others : ℕ → T → T)
      → IsTrue (is_enabled (after_all {V = T} {E = F} a b c d) (Owner (RewriteTable others)))
      × (owner_walk (after_all {V = T} {E = F} a b c d).table ≡ a ∷ b ∷ c ∷ d ∷ [])
  unfolding by_steps
  owner_gets others = (refl, refl)

  pub four_held : peak (after_publishing {V = T} {E = F} a b c d) ≡ 4
  unfolding by_steps
  four_held = refl

  pub clears : is_enabled (after_all {V = T} {E = F} a b c d) (Owner ClearTable) ≡ true
  unfolding by_steps
  clears = refl
