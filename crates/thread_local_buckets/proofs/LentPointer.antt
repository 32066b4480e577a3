-- A table's pointers while one of them is lent. Assumes `Logic`.
use Rattle.std.proofs.Common.{ℕ, ◌+◌, ◌*◌, ◌<◌, List, [], ◌∷◌, length, length-set, set, refl, sym, ◌∙◌, subst}
use seplogic.Ra.Ura.{Ura}
use base.Fraction.{full_share}
use base.Logic.{SProp, ent, sep, wand, all_e, apply∗}
use base.Fml.{Fml, feq}
use types.Logic.{Logic, sem}
use types.Kit.{‵, raw, ◌⊛◌, ◌$◌, ◌∵◌, !, qed, by, move, split, fjoin, feq_l, feq_i, use1, use2, rewrite, frame, done}
use types.Share.{parts}
use denote.RattleType.{RattleType}
use denote.Laws.{Lawful}
use denote.Memory.{part_at, part_of, mem, lone, shares}
use denote.Array.{Array, Array-Lawful}
use denote.ArrayMemory.{Array-apart, Array-whole}
use denote.Index.{place, place_is, others, takes, puts}
use denote.Struct.Members.{Member}
use denote.Struct.CellSteps.{BackTo, only_out}
use Rattle.std.specs.Prelude.{slice_index_or}
use Rattle.thread_local_buckets.specs.contracts.bucket_pointer.BucketPointer as one_pointer
use Rattle.thread_local_buckets.specs.Pointers.{null_pointer, with_pointer}
use Rattle.thread_local_buckets.specs.contracts.pointer_array.PointerArray as array

module _ (R : RattleType) {M : Type 1} {𝓤 : Ura M} (𝓛 : Logic 𝓤)
    (L : Lawful 𝓛 (one_pointer.the_row R)) (d : (array.the_row R).Denot) (k b o : ℕ)
    (near : k < 63) where
  abbrev PointerRow : RattleType
  PointerRow = one_pointer.the_row R

  abbrev Ws : RattleType
  Ws = Array PointerRow 63

  abbrev Rw : RattleType
  Rw = array.the_row R

  abbrev m : Member
  m = record { row = Ws; ty = lone Ws.mir }

  abbrev Way : SProp 𝓤
  Way = BackTo 𝓛 [] [] (R ∷ []) m (λ ws. sem 𝓛 (part_at Rw full_share (record { pointers = ws }) b o)) b o

  -- all but the pointer
  abbrev pub Rest : SProp 𝓤
  Rest =
      sep 𝓤 (sem 𝓛 (feq ℕ (length d.pointers) 63))
      (sep 𝓤 (sem 𝓛 (others (shares PointerRow) full_share d.pointers k b o)) Way)

  pub out : ent 𝓤 (sem 𝓛 (part_at Rw full_share d b o))
      (sep 𝓤 (sem 𝓛
      (part_at PointerRow full_share (slice_index_or d.pointers k null_pointer) b (k * 8 + o)))
      Rest)
  unfolding part_of
  out =
      qed 𝓛 (‵ (part_at Rw full_share d b o) ∷ []) ∵
      use1 𝓛 (‵ (part_at Ws full_share d.pointers b o) ⊛ raw Way)
      (only_out 𝓛 [] [] (R ∷ []) m (Array-Lawful 𝓛 PointerRow L 63) b o d.pointers) $
      split ! $
      use1 𝓛 (‵ (feq ℕ (length d.pointers) 63)
      ⊛ ‵ (parts (mem PointerRow) (shares PointerRow) full_share d.pointers b o))
      (Array-apart 𝓛 PointerRow full_share tt 63 d.pointers b o) $
      split ! $ feq_l ! (λ long.
      use1 𝓛 (‵ (part_at PointerRow full_share (slice_index_or d.pointers k null_pointer) b
      (place 8 o k))
      ⊛ ‵ (others (shares PointerRow) full_share d.pointers k b o))
      (takes (shares PointerRow) full_share 𝓛 d.pointers k null_pointer b o
      (subst (λ (n : ℕ). k < n) (sym long) near)) $
      split ! $
      rewrite ! 0 (λ (e : ℕ).
      ‵ (part_at PointerRow full_share (slice_index_or d.pointers k null_pointer) b e))
      (place_is 8 o k) refl $
      frame ! $ feq_i ! ℕ (length d.pointers) 63 long $ frame ! $ done !)

  pub back : (w : PointerRow.Denot)
      → ent 𝓤 (sep 𝓤 (sem 𝓛 (part_at PointerRow full_share w b (k * 8 + o))) Rest)
      (sem 𝓛 (part_at Rw full_share (with_pointer d k w) b o))
  back w =
      let ws : List PointerRow.Denot = set d.pointers k w in
      let P : Fml = part_at Ws full_share ws b o in
      let Q : Fml = part_at Rw full_share (with_pointer d k w) b o in
      qed 𝓛 (‵ (part_at PointerRow full_share w b (k * 8 + o))
      ∷ (‵ (feq ℕ (length d.pointers) 63)
      ⊛ ‵ (others (shares PointerRow) full_share d.pointers k b o) ⊛ raw Way)
      ∷ []) ∵
      move ! (1 ∷ []) $ split ! $ feq_l ! (λ long. split ! $ move ! (2 ∷ 0 ∷ []) $
      rewrite ! 0 (λ (e : ℕ). ‵ (part_at PointerRow full_share w b e)) (sym (place_is 8 o k)) refl $
      use2 𝓛 (‵ (parts (mem PointerRow) (shares PointerRow) full_share ws b o))
      (puts (shares PointerRow) full_share 𝓛 d.pointers k w b o
      (subst (λ (n : ℕ). k < n) (sym long) near)) $
      feq_i ! ℕ (length ws) 63 (length-set d.pointers k w ∙ long) $ fjoin ! $
      use1 𝓛 (‵ P) (Array-whole 𝓛 PointerRow full_share 63 ws b o) $ move ! (1 ∷ []) $
      use1 𝓛 (raw (wand 𝓤 (sem 𝓛 P) (sem 𝓛 Q)))
      (all_e 𝓤 (λ (z : List PointerRow.Denot).
      wand 𝓤 (sem 𝓛 (part_at Ws full_share z b o))
      (sem 𝓛 (part_at Rw full_share (record { pointers = z }) b o)))
      ws) $
      move ! (1 ∷ 0 ∷ []) $
      by ! (apply∗ 𝓤 (sem 𝓛 P) (sem 𝓛 Q)))
