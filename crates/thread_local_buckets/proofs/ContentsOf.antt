-- The contents of a table's pointers, and how they change with one pointer.
use Rattle.std.proofs.Common.{◌≡◌, ℕ, zero, suc, ◌^◌, ◌<◌, subst, List, [], ◌∷◌, map, length, replicate, set, refl, sym}
use Rattle.std.proofs.Common.{ap, ◌∙◌, arith, Option}
use Rattle.std.specs.Prelude.{slice_index_or}
use Rattle.std.proofs.lemmas.List.{map-set}
use Rattle.std.proofs.Math.Seq.{map-set_same}
use Rattle.thread_local_base.specs.Buckets.{Contents, row, no_contents, IsTable}
use Rattle.thread_local_base.proofs.RowLaws.{row_whole}
use Rattle.thread_local_base.specs.Rows.{with_row, with_slot}
use Rattle.thread_local_buckets.specs.declared.bucket_pointer.BucketPointer.{BucketPointer}
use Rattle.thread_local_buckets.specs.declared.pointer_array.PointerArray.{PointerArray}
use Rattle.thread_local_buckets.specs.Pointers.{null_pointer, with_pointer, slots_of, contents_of}

module _ {X : Type 0} where
  abbrev as_contents : List (List (Option X)) → Contents X
  as_contents rows = record { rows = rows }

  slots_at : (ws : List (BucketPointer X)) (b : ℕ)
      → slice_index_or (map slots_of ws) b [] ≡ slots_of (slice_index_or ws b null_pointer)
  slots_at [] b = refl
  slots_at (w ∷ ws) zero = refl
  slots_at (w ∷ ws) (suc b) = slots_at ws b

  -- a bucket's row is the slots of its pointer
  pub row_of_pointer : (s : PointerArray X) (b : ℕ) → row (contents_of s) b ≡ slots_of (slice_index_or s.pointers b null_pointer)
  row_of_pointer s b = slots_at s.pointers b

  -- a bucket's row, as a contract sees it, is the slots of its pointer
  pub row_seen : (s : PointerArray X) (v : Contents X) (b : ℕ) (w : BucketPointer X) → contents_of s ≡ v
      → w ≡ slice_index_or s.pointers b null_pointer
      → row v b ≡ w.slots
  row_seen s v b w seen is = ap (λ (z : Contents X). row z b) (sym seen) ∙ row_of_pointer s b ∙ sym (ap slots_of is)

  -- where a bucket has a slot, its pointer points to a block of the bucket's size
  pub size_of_pointer : (s : PointerArray X) (v : Contents X) (b i size : ℕ) (w : BucketPointer X)
      → contents_of s ≡ v → IsTable (contents_of s) → w ≡ slice_index_or s.pointers b null_pointer
      → i < length (row v b) → size ≡ 2 ^ b
      → size ≡ length w.slots
  size_of_pointer s v b i size w seen t is near all =
      all
      ∙ sym (row_whole (contents_of s) b i t
      (subst (λ (z : Contents X). i < length (row z b)) (sym seen) near))
      ∙ ap length (row_of_pointer s b)
      ∙ sym (ap (λ (u : BucketPointer X). length u.slots) is)

  pub row_changes : (s : PointerArray X) (b : ℕ) (w : BucketPointer X) (cs : List (Option X))
      → w.slots ≡ cs
      → contents_of (with_pointer s b w) ≡ with_row (contents_of s) b cs
  row_changes s b w cs e =
      ap as_contents (map-set slots_of s.pointers b w
      ∙ ap (λ (ds : List (Option X)). set (map slots_of s.pointers) b ds) e)

  pub slot_changes : (s : PointerArray X) (b : ℕ) (old w : BucketPointer X) (i : ℕ) (h : Option X)
      → old ≡ slice_index_or s.pointers b null_pointer → w.slots ≡ set old.slots i h
      → contents_of (with_pointer s b w) ≡ with_slot (contents_of s) b i h
  slot_changes s b old w i h was is =
      row_changes s b w (set (row (contents_of s) b) i h)
      (is
      ∙ ap (λ (cs : List (Option X)). set cs i h) (ap slots_of was ∙ sym (row_of_pointer s b)))

  -- a pointer that stays as it was leaves the contents as they were
  pub contents_stay : (s : PointerArray X) (b : ℕ) (w : BucketPointer X) → w ≡ slice_index_or s.pointers b null_pointer
      → contents_of (with_pointer s b w) ≡ contents_of s
  contents_stay s b w is = ap as_contents (map-set_same slots_of s.pointers b w null_pointer (ap slots_of is))

  nulls : (ws : List (BucketPointer X)) (n : ℕ) → length ws ≡ n
      → ((i : ℕ) (d : BucketPointer X) → i < n → (slice_index_or ws i d).slots ≡ [])
      → map slots_of ws ≡ replicate n []
  nulls [] zero e each = refl
  nulls [] (suc n) e each = absurd (omega arith)
  nulls (w ∷ ws) zero e each = absurd (omega arith)
  nulls (w ∷ ws) (suc n) e each = ap (λ (cs : List (Option X)). cs ∷ map slots_of ws) (each 0 w (omega arith)) ∙
      ap (λ (rows : List (List (Option X))). [] ∷ rows)
      (nulls ws n (let r : length ws ≡ n = omega arith in r)
      (λ i d near. each (suc i) d (omega arith)))

  -- pointers that are all null have no contents
  pub no_contents_of : (s : PointerArray X) → length s.pointers ≡ 63
      → ((i : ℕ) (d : BucketPointer X) → i < 63 → (slice_index_or s.pointers i d).slots ≡ [])
      → contents_of s ≡ no_contents
  no_contents_of s long each = ap as_contents (nulls s.pointers 63 long each)
