-- The search for these takes half a second.
use Rattle.std.proofs.Common.{◌≡◌, ◌≤◌, ◌<◌, ◌+◌, ◌-◌, ◌^◌, ℕ, arith, pow_pos, ap, sym, ◌∙◌}
use Rattle.thread_local_base.specs.Cursor.{cursor_id}
use Rattle.thread_local_base.specs.Place.{id_at}
use Rattle.thread_local_base.proofs.CursorLaws.{bounded}
use Rattle.thread_local_shared_buckets.specs.Positions.{resting, next_id}
use Rattle.thread_local_shared_buckets.specs.Walks.{WalkView}
use Rattle.thread_local_shared_buckets.proofs.MoveLaws.{resting-id}
use Rattle.thread_local_shared_buckets.proofs.WalkLaws.{fits}
use Rattle.thread_local_shared_buckets.proofs.iter.Iter.last_id.Goals as goal

-- the id before the next one, by the place of the next one
last : (bucket index size next : ℕ) → size ≡ 2 ^ bucket → id_at bucket index ≡ next → 0 < next
    → (2 ≤ index + size) × (next ≡ index + size - 2 + 1)
last bucket index size next is at some = let one = pow_pos bucket in (omega arith, omega arith)

-- where the walk is, by its cursor
next_is : {V : Type 0} (view : WalkView V) (raw : _) → resting raw ≡ view.cursor → next_id raw ≡ cursor_id view.cursor
next_is view raw same = sym (resting-id raw) ∙ ap cursor_id same

pub overflow_add-result : goal.overflow_add-result
overflow_add-result g c =
    let raw = c.self.inside.walk.raw in
    let size = c.self.invariant.walk.size in
    let some = pow_pos raw.bucket in
    omega (arith, bounded (resting raw) (fits raw c.self.inside.walk.own c.self.invariant.walk), resting-id raw)

pub overflow_sub-result : goal.overflow_sub-result
overflow_sub-result g c =
    let raw = c.self.inside.walk.raw in
    let view = c.args.self.now in
    (last raw.bucket raw.index raw.bucket_size (cursor_id view.cursor) c.self.invariant.walk.size
    (next_is view raw (ap (λ (v : WalkView _). v.cursor) c.self.view_is)) c.requires).0

pub returns : goal.returns
returns g c =
    let raw = c.self.inside.walk.raw in
    let view = c.args.self.now in
    (last raw.bucket raw.index raw.bucket_size (cursor_id view.cursor) c.self.invariant.walk.size
    (next_is view raw (ap (λ (v : WalkView _). v.cursor) c.self.view_is)) c.requires).1
