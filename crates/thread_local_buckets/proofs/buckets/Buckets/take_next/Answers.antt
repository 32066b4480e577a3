use Rattle.std.proofs.Common.{◌≡◌, refl, ◌+◌, ◌-◌, ◌^◌, ◌<◌, ◌≤◌, ℕ, None, ◌∷◌, ap, sym, ◌∙◌, subst, length, arith, lit<}
use Rattle.std.specs.Prelude.{◌/◌, ◌%◌, min, IsSome, IsTrue, nat_lt}
use Rattle.thread_local_base.specs.Buckets.{Contents, IsTable, row, values}
use Rattle.thread_local_base.specs.Owned.{Owned, IsOwned}
use Rattle.thread_local_base.specs.Rows.{value_in, with_slot}
use Rattle.thread_local_base.specs.Owner.{emptied}
use Rattle.thread_local_base.specs.Walk.{walk, paired}
use Rattle.thread_local_buckets.specs.Cursor.{values_left, read_to, slot_at, AreFlagsAt, IsOwnerWalk, MayRead, HasRead}
use Rattle.thread_local_buckets.specs.declared.buckets.Buckets.TheInside.{Inside}
use Rattle.thread_local_buckets.specs.declared.cursor.OwnerCursor.{OwnerCursor}
use Rattle.thread_local_base.proofs.RowLaws.{IsTable-with_slot, length-row-with_slot, row_whole}
use Rattle.thread_local_base.proofs.EmptyingLaws.{emptied-with_slot, emptied-none}
use Rattle.thread_local_buckets.specs.Emptied.{owned_emptied}
use Rattle.thread_local_buckets.proofs.EntriesLaws.{IsNear, is_near}
use Rattle.thread_local_buckets.proofs.buckets.Buckets.take_next.Goals as goal
use Rattle.thread_local_buckets.proofs.buckets.Buckets.take_next.Goals.{Joined-cursor-eq0, then-cursor-eq0, else-cursor-eq0}
use Rattle.thread_local_buckets.proofs.buckets.Buckets.take_next.Goals.{After-pass-bit, After-take_and_store-value}

not_below : (n : ℕ) → 0 ≤ n
not_below n = omega arith

module _ {V : Type 0} where
  -- what contracts see of the buckets
  abbrev seen : Inside V → Owned V
  seen inside = record { contents = inside.pointers; reserved = inside.reserved }

  may_read : (inside : Inside V) (buckets : Owned V) (cursor : OwnerCursor) → seen inside ≡ buckets
      → IsOwnerWalk buckets.contents cursor → 0 < values_left cursor → MayRead inside.pointers 0 cursor
  may_read inside buckets cursor is walk some = record {
    walk = subst (λ (s : Owned V). IsOwnerWalk s.contents cursor) (sym is) walk;
    ahead = not_below (read_to cursor.raw);
    some = some;
  }

  -- flags are at hand, and the buckets are the same
  record IsAtHand (before after : Inside V) (cursor now : OwnerCursor) : Type 0 where
    same : seen after ≡ seen before
    owned : IsOwned (seen after)
    read : HasRead after.pointers 0 cursor now

  at_hand : (before after : Inside V) (cursor now read : OwnerCursor) → after ≡ before → IsOwned (seen before) → now ≡ read
      → HasRead before.pointers 0 cursor read → IsAtHand before after cursor now
  at_hand before after cursor now read same owned is has =
      let P : Inside V → Type 0 = λ i. IsAtHand before i cursor now in
      subst P (sym same) (record { same = refl; owned = owned; read = subst (HasRead before.pointers 0 cursor) (sym is) has })

it_is_at_hand : (g : _) (c : Joined-cursor-eq0 g)
    → IsAtHand c.self.inside c.if-cursor-eq0.self-inside c.args.cursor.now c.if-cursor-eq0.cursor
it_is_at_hand g c =
    let inside = c.self.inside in
    let cursor = c.args.cursor.now in
    elim c.if-cursor-eq0.branch [
      | then-cursor-eq0 w ↦
          let with : Contents g.row.T.Denot → Inside g.row.T.Denot = λ w. record { pointers = w; reserved = inside.reserved } in
          let same = w.self-inside-is ∙ ap with w.read_on.ensures.same in
          at_hand inside c.if-cursor-eq0.self-inside cursor c.if-cursor-eq0.cursor w.read_on.new.self same
          c.self.invariant w.cursor-is w.read_on.ensures.read
      | else-cursor-eq0 w ↦
          let may = may_read inside c.args.self.now cursor c.self.view_is c.requires.walk c.requires.some in
          let some : 0 < cursor.rest = omega (arith, w.if-cursor-eq0.false) in
          at_hand inside c.if-cursor-eq0.self-inside cursor c.if-cursor-eq0.cursor cursor w.self-inside-is
          c.self.invariant w.cursor-is (record { walk = may.walk; ahead = may.ahead; some = some; left = refl })
    ]

-- a value is taken from a table: it has the same buckets without their values, and is that where the
-- walk has none left
record Takes {V : Type 0} (before after : Contents V) (cursor : OwnerCursor) : Type 0 where
  leaves : emptied after ≡ emptied before
  ends : values_left cursor ≡ 0 → emptied after ≡ after

takes : {V : Type 0} (c d e : Contents V) (b i : ℕ) (cursor : OwnerCursor) → IsTable c → d ≡ c
    → e ≡ with_slot d b i None → IsOwnerWalk (with_slot c b i None) cursor
    → Takes c e cursor
takes c d e b i cursor t same after on =
    let taken : Contents _ = with_slot c b i None in
    let now : e ≡ taken = after ∙ ap (λ (w : Contents _). with_slot w b i None) same in
    let P : Contents _ → Type 0 = λ w. Takes c w cursor in
    subst P (sym now) (record {
      leaves = emptied-with_slot c b i None;
      ends = λ none. emptied-none taken (IsTable-with_slot c b i None t) (sym on.counted ∙ none);
    })

it_takes : (g : _) (c : After-take_and_store-value g) → IsTable c.if-cursor-eq0.self-inside.pointers
    → Takes c.if-cursor-eq0.self-inside.pointers c.take_and_store-value.new.self c.pass-bit.new.self
it_takes g c table =
    let cursor = c.pass-bit.new.self in
    takes c.if-cursor-eq0.self-inside.pointers c.pass-bit.new.source c.take_and_store-value.new.self cursor.raw.bucket
    (slot_at cursor.raw c.pass-bit.result) cursor table c.pass-bit.ensures.same
    c.take_and_store-value.ensures.after c.pass-bit.ensures.walk

-- the slot is one of its bucket's
slot_is_near : {V : Type 0} (c : Contents V) (b i size : ℕ) → IsTable c → i < length (row c b) → b < 63
    → size ≡ 2 ^ b → IsNear i size
slot_is_near c b i size t inside low all =
    is_near b i size low (subst (λ (n : ℕ). i < n) (row_whole c b i t inside) inside) all

it_is_near : (g : _) (c : After-pass-bit g) → IsTable c.if-cursor-eq0.self-inside.pointers
    → IsNear (slot_at c.pass-bit.new.self.raw c.pass-bit.result) c.pass-bit.new.self.raw.bucket_size
it_is_near g c table =
    let raw = c.pass-bit.new.self.raw in
    let passed = c.pass-bit.ensures in
    slot_is_near c.if-cursor-eq0.self-inside.pointers raw.bucket (slot_at raw c.pass-bit.result) raw.bucket_size
    table passed.in_bucket passed.walk.at.in_table passed.walk.at.size

-- the slots whose flags were read last are one chunk's
chunk_read : (chunk read bit from all : ℕ) → chunk ≡ (read - 64) / 64 → read % 64 ≡ 0 → 64 ≤ read
    → read - 64 + bit + from < min read all + from → chunk ≡ (read - 64 + bit) / 64
chunk_read chunk read bit from all is round some before = omega (arith, is, round, some, before)

owned_still : {V : Type 0} (c d e : Contents V) (reserved b i : ℕ) → IsOwned (record { contents = c; reserved = reserved })
    → d ≡ c → e ≡ with_slot d b i None → IsOwned (record { contents = e; reserved = reserved })
owned_still c d e reserved b i owned same after =
    let taken : Contents _ = with_slot c b i None in
    let now : e ≡ taken = after ∙ ap (λ (w : Contents _). with_slot w b i None) same in
    let P : Contents _ → Type 0 = λ w. IsOwned (record { contents = w; reserved = reserved }) in
    subst P (sym now) (record {
      table = IsTable-with_slot c b i None owned.table;
      first = owned.first;
      standing = λ bucket low below.
          subst IsTrue (sym (ap (nat_lt 0) (length-row-with_slot c b i bucket None)))
          (owned.standing bucket low below);
    })

-- The search for all that follows takes long, and leaves two of them open.
pub read_on-requires : goal.read_on-requires
read_on-requires g c =
    let may = may_read c.self.inside c.args.self.now c.args.cursor.now c.self.view_is c.requires.walk c.requires.some in
    record { may_read = may; passed = c.if-cursor-eq0.true }

pub pass-bit-requires : goal.pass-bit-requires
pass-bit-requires g c =
    let read = (it_is_at_hand g (goal.at.pass-bit-requires g c).Joined-cursor-eq0).read in
    record {
      walk = read.walk;
      given = λ id below. absurd (omega (arith, below));
      some = read.some;
    }

pub overflow_add-index : goal.overflow_add-index
overflow_add-index g c =
    let at = it_is_at_hand g (goal.at.overflow_add-index g c).Joined-cursor-eq0 in
    record { fits = (it_is_near g c at.owned.table).index }

pub take_and_store-value-requires : goal.take_and_store-value-requires
take_and_store-value-requires g c =
    let cursor = c.pass-bit.new.self in
    let b = cursor.raw.bucket in
    let i = slot_at cursor.raw c.pass-bit.result in
    let P : Contents g.row.T.Denot → Type 0 = λ w.
    (i < length (row w b)) × IsSome (value_in w b i) × AreFlagsAt (with_slot w b i None) b i cursor.rest in
    let passed = c.pass-bit.ensures in
    let there = subst P (sym passed.same) (passed.in_bucket, passed.published, passed.flags) in
    let walk = passed.walk in
    let chunk = chunk_read cursor.chunk cursor.raw.index c.pass-bit.result (2 ^ b - 1) cursor.raw.bucket_size walk.chunk
    walk.at.round passed.read passed.before in
    (lit< tt, (passed.walk.at.in_table, (passed.walk.at.size, (chunk, (there.0, (there.1, there.2))))))

pub overflow_sub-result : goal.overflow_sub-result
overflow_sub-result g c =
    let at = it_is_at_hand g (goal.at.overflow_sub-result g c).Joined-cursor-eq0 in
    (it_is_near g (goal.at.overflow_sub-result g c).After-pass-bit at.owned.table).some

pub overflow_add-result : goal.overflow_add-result
overflow_add-result g c =
    let at = it_is_at_hand g (goal.at.overflow_add-result g c).Joined-cursor-eq0 in
    record { fits = (it_is_near g (goal.at.overflow_add-result g c).After-pass-bit at.owned.table).id }

pub invariant_of-self : goal.invariant_of-self
invariant_of-self g c =
    let at = it_is_at_hand g (goal.at.invariant_of-self g c).Joined-cursor-eq0 in
    let inside = c.if-cursor-eq0.self-inside in
    let cursor = c.pass-bit.new.self in
    owned_still inside.pointers c.pass-bit.new.source c.take_and_store-value.new.self inside.reserved cursor.raw.bucket
    (slot_at cursor.raw c.pass-bit.result) at.owned c.pass-bit.ensures.same c.take_and_store-value.ensures.after

pub returns : goal.returns
returns g c =
    let at = it_is_at_hand g (goal.at.returns g c).Joined-cursor-eq0 in
    let cursor = c.pass-bit.new.self in
    let b = cursor.raw.bucket in
    let i = slot_at cursor.raw c.pass-bit.result in
    let passed = c.pass-bit.ensures in
    let taken = c.take_and_store-value in
    let now = taken.ensures.after ∙ ap (λ (w : Contents _). with_slot w b i None) passed.same in
    let there = ap (λ (w : Contents _). value_in w b i) (sym passed.same) ∙ taken.ensures.value in
    let size = sym passed.walk.at.size in
    let left = sym now in
    let takes = it_takes g c at.owned.table in
    record {
      walk = subst (λ (w : Contents _). IsOwnerWalk w cursor) left passed.walk;
      first = sym (ap (λ (s : Owned _). walk (paired (values s.contents))) (at.same ∙ c.self.view_is))
          ∙ passed.first taken.result there
          ∙ (λ j. (i + (size j - 1), taken.result) ∷ walk (paired (values (left j))));
      left = passed.left ∙ at.read.left;
      ends = takes.ends;
      leaves = ap (λ (w : Contents _). let s : Owned _ = record { contents = w; reserved = c.if-cursor-eq0.self-inside.reserved } in s) takes.leaves
          ∙ ap (λ (s : Owned _). owned_emptied s) (at.same ∙ c.self.view_is);
    }
