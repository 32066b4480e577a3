-- A bucket's pointer while one of its values is lent. Assumes `Logic`.
use Rattle.thread_local_base.proofs.Names.{◌≡◌, ℕ, ◌^◌, ◌<◌, true, List, [], ◌∷◌, length, set, Some, Ura, Val}
use Rattle.thread_local_base.proofs.Names.{full_share, SProp, ent, sep, fsep, Logic, sem, ‵, raw, ◌⊛◌, ◌$◌, ◌∵◌, ! }
use Rattle.thread_local_base.proofs.Names.{qed, move, split, fjoin, fpack, use3, done, RattleType, Ptr, block_of}
use Rattle.thread_local_base.proofs.Names.{count_of, part_at, cell_at}
use Rattle.std.specs.Prelude.{◌/◌, ◌%◌}
use denote.Memory.{part_of}
use Rattle.thread_local_base.specs.Bits.{is_set}
use Rattle.thread_local_base.proofs.Word.{same_bit}
use Rattle.thread_local_buckets.specs.LentValue.{with_slot_value}
use Rattle.thread_local_buckets.specs.Slots.{value_offset, heap_token}
use Rattle.thread_local_buckets.proofs.Slots.{Change, flags_of}
use Rattle.thread_local_buckets.specs.PointerOwns.{pointer_owns}
use Rattle.thread_local_buckets.specs.contracts.bucket_pointer.BucketPointer as one_pointer
use Rattle.thread_local_buckets.proofs.PointerSteps.{FieldsType, Again, pointer_again}

module _ (R : RattleType) {M : Type 1} {𝓤 : Ura M} (𝓛 : Logic 𝓤) (h : (one_pointer.the_row R).Denot)
    (j n b' o' : ℕ) (us : List Val) (near : j < length h.slots) (fits : n < 2 ^ 64)
    (published : is_set n (j % 64) ≡ true) where
  abbrev p : Ptr
  p = h.at

  abbrev at : ℕ
  at = value_offset R (count_of p) j

  abbrev PointerRow : RattleType
  PointerRow = one_pointer.the_row R

  -- all but the value, whose flag stays set
  abbrev pub Rest : SProp 𝓤
  Rest =
      sep 𝓤 (sem 𝓛 (flags_of R (length h.slots) p n (j / 64)))
      (sep 𝓤 (Again R 𝓛 p h.slots j n)
      (sep 𝓤 (sem 𝓛 ((FieldsType R).own_val (p, tt) us))
      (sem 𝓛 (cell_at full_share PointerRow.mir us b' o'))))

  pub back : (w : R.Denot)
      → ent 𝓤 (sep 𝓤 (sem 𝓛 (part_at R full_share w (block_of p) at)) Rest)
      (sem 𝓛 (part_at PointerRow full_share (with_slot_value h j w) b' o'))
  unfolding part_of
  back w = let x : Change R.Denot j n = record { new = n; value = Some w; fits = fits; but = same_bit n (j % 64) true published } in
      qed 𝓛 (‵ (part_at R full_share w (block_of p) at)
      ∷ (‵ (flags_of R (length h.slots) p n (j / 64)) ⊛ raw (Again R 𝓛 p h.slots j n)
      ⊛ ‵ ((FieldsType R).own_val (p, tt) us)
      ⊛ ‵ (cell_at full_share PointerRow.mir us b' o'))
      ∷ []) ∵
      move ! (1 ∷ []) $ split ! $ move ! (1 ∷ []) $ split ! $ move ! (2 ∷ 3 ∷ 0 ∷ []) $
      -- [the chunk's word; the value; the way back; the pointer's field and its cell]
      use3 𝓛 (‵ (pointer_owns R heap_token p (set h.slots j (Some w))))
      (pointer_again R 𝓛 p h.slots j n x near) $
      move ! (1 ∷ []) $ split ! $ move ! (0 ∷ 2 ∷ []) $ fjoin ! $ move ! (1 ∷ 0 ∷ []) $ fjoin ! $
      fpack ! (List Val) (λ ws.
      fsep (cell_at full_share PointerRow.mir ws b' o')
      (PointerRow.own_val (with_slot_value h j w) ws))
      us $
      done !
