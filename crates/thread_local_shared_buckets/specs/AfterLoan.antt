-- What a contract sees of shared buckets once an owner's loan of them ends.
use Rattle.std.specs.Prelude.{ℕ, zero, suc, Bool, true, false, List, [], ◌∷◌, Option, None, Some, ◌==◌, if◌then◌else◌}
use Rattle.thread_local_ids.specs.Sharings.{first_of}
use Rattle.thread_local_base.specs.Buckets.{Contents, stands, row}
use Rattle.thread_local_base.specs.Owned.{Owned}
use Rattle.thread_local_shared_buckets.specs.Grown.{stand_among, only_reserved}
use Rattle.thread_local_shared_buckets.specs.TableView.{TableView}

-- whether no bucket stands that didn't stand when the buckets were lent, and as many slots are
-- reserved
abbrev pub adds_no_bucket : {V : Type 0} → Owned V → Owned V → Bool
adds_no_bucket lent left = if left.reserved == lent.reserved then stand_among (stands lent.contents) (stands left.contents) else false

-- whether each bucket that an owner leaves and that isn't reserved was made for an id, as no other is
-- left or each was before
abbrev pub grown_by_loan : {V : Type 0} → Bool → Owned V → Owned V → Bool
grown_by_loan grown lent left = if only_reserved left then true else if grown then adds_no_bucket lent left else false

-- the same table, with as many reserved slots as the owner's buckets have; what is shared from then
-- on has no name. A bucket that was added wasn't made for an id
abbrev pub view_with : {V : Type 0} → TableView → Owned V → Owned V → TableView
view_with s lent left = record {
  table = s.table;
  sharing = None;
  reserved = left.reserved;
  grown_by_ids = grown_by_loan s.grown_by_ids lent left;
}

-- whether none of these slots has a value
abbrev pub is_blank : {V : Type 0} → List (Option V) → Bool
is_blank [] = true
is_blank (None ∷ slots) = is_blank slots
is_blank (Some x ∷ slots) = false

-- whether no slot of the buckets below n has a value
unfoldable pub blank_below : {V : Type 0} → Contents V → ℕ → Bool
blank_below contents zero = true
blank_below contents (suc b) = if is_blank (row contents b) then blank_below contents b else false

-- whether no slot has a value
abbrev pub has_no_value : {V : Type 0} → Contents V → Bool
has_no_value contents = blank_below contents 63

-- the first sharing of a table where no slot has a value, and else none
abbrev pub begun_in : ℕ → Bool → Option ℕ
begun_in table true = Some (first_of table)
begun_in table false = None

-- the buckets that an owner leaves, as those of the table of this name
abbrev pub view_begun : {V : Type 0} → ℕ → Owned V → TableView
view_begun table left = record {
  table = table;
  sharing = begun_in table (has_no_value left.contents);
  reserved = left.reserved;
  grown_by_ids = only_reserved left;
}
