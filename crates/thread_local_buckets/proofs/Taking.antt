-- A table's pointers are split into the pointers with their flags, the values and the rest, and put
-- together again with any values in the same slots. Assumes `Logic`.
use Rattle.thread_local_base.proofs.Names.{id⊢, ◌≡◌, ℕ, zero, ◌+◌, List, [], ◌∷◌, length, map, refl, sym, ap, arith}
use Rattle.thread_local_base.proofs.Names.{full_share, Bool, Option, Ura, SProp, all, all_e, emp}
use Rattle.thread_local_base.proofs.Names.{apply∗, Fml, ftrue, fsep, Logic, ‵, raw, ◌⊛◌, given, ◌$◌, ◌∵◌, !, qed}
use Rattle.thread_local_base.proofs.Names.{by, move, keep, drop, split, split3, fsplit, fsplit3, fjoin, fjoin3, fpick}
use Rattle.thread_local_base.proofs.Names.{fpack, learn, frame, each as for_each, assume, use1, use2, use3, rewrite}
use Rattle.thread_local_base.proofs.Names.{feq_l, feq_i, done, RattleType, Ptr, ptr_val, ty_ptr, Val, Member, mem}
use Rattle.thread_local_base.proofs.Names.{part_at, cell_at, cell, nothing, block_of, count_of, join}
use types.Share.{parts}
use denote.RawPtr.{RawPtr, rawptr_Lawful}
use denote.Memory.{part_of, shares}
use denote.RattleType.{Denots}
use denote.Struct.Members.{rows_of, parts_at}
use denote.Struct.Parts.{PartsBack, Struct-parts}
use denote.Struct.OwningLaws.{part_out, part_in}
use Rattle.thread_local_buckets.specs.Slots.{each, heap_token}
use Rattle.thread_local_buckets.specs.PointerOwns.{pointer_owns}
use Rattle.thread_local_buckets.specs.declared.bucket_pointer.BucketPointer.{BucketPointer}
use Rattle.thread_local_buckets.specs.contracts.bucket_pointer.BucketPointer as one_pointer
use Rattle.thread_local_buckets.proofs.PointerSteps.{FieldsType}
use Rattle.thread_local_buckets.specs.LoanOwns.{shape, flagged, valued, PointsTo, frames, values_at}
use Rattle.thread_local_buckets.proofs.Blocks.{rested, pointer_apart, pointer_whole}
use Rattle.thread_local_base.proofs.Signs.{signs}

abbrev pub first_row : List (List Bool) → List Bool
first_row [] = []
first_row (r ∷ rs) = r

abbrev pub rest_of_rows : List (List Bool) → List (List Bool)
rest_of_rows [] = []
rest_of_rows (r ∷ rs) = rs

-- the blocks' addresses
abbrev pub pointers : {X : Type 0} → List (BucketPointer X) → List Ptr
pointers = map (λ w. w.at)

-- the slots of their blocks
abbrev pub rows : {X : Type 0} → List (BucketPointer X) → List (List (Option X))
rows = map (λ w. w.slots)

-- the pointers with other slots
abbrev pub refit : {X : Type 0} → List (BucketPointer X) → List (List (Option X)) → List (BucketPointer X)
refit [] vs = []
refit (w ∷ ws) [] = []
refit (w ∷ ws) (v ∷ vs) = record { at = w.at; slots = v } ∷ refit ws vs

pub rows-refit : {X : Type 0} (ws : List (BucketPointer X)) (vs : List (List (Option X)))
    → shape vs ≡ shape (rows ws)
    → rows (refit ws vs) ≡ vs
rows-refit [] [] same = refl
rows-refit [] (v ∷ vs) same = absurd (let n = ap length same in omega arith)
rows-refit (w ∷ ws) [] same = absurd (let n = ap length same in omega arith)
rows-refit (w ∷ ws) (v ∷ vs) same = ap (λ rs. v ∷ rs) (rows-refit ws vs (ap rest_of_rows same))

module _ {M : Type 1} {𝓤 : Ura M} (𝓛 : Logic 𝓤) (R : RattleType) (b : ℕ) where
  open signs 𝓛 use {⟦◌⟧, ◌⊢◌, ◌∗◌, ◌-∗◌}

  infix 26 ◌⊢◌
  infixr 35 ◌∗◌
  infixr 30 ◌-∗◌
  abbrev W : RattleType
  W = one_pointer.the_row R

  abbrev Slots : Type 0
  Slots = List (Option R.Denot)

  pointer_out : (e : ℕ) (p : Ptr) → ⟦ part_at RawPtr full_share p b e ⟧ ⊢ ⟦ cell b e p ⟧
  unfolding part_of
  pointer_out e p =
      qed 𝓛 (‵ (part_at RawPtr full_share p b e) ∷ []) ∵ fpick ! (λ vs. fsplit ! $ move ! (1 ∷ []) $
      feq_l ! (λ ev.
      rewrite ! 0 (λ (ws : List Val). ‵ (cell_at full_share RawPtr.mir ws b e)) ev refl $ done !))

  pointer_in : (e : ℕ) (p : Ptr) → ⟦ cell b e p ⟧ ⊢ ⟦ part_at RawPtr full_share p b e ⟧
  unfolding part_of
  pointer_in e p =
      qed 𝓛 (‵ (cell b e p) ∷ []) ∵ feq_i ! _ (ptr_val p ∷ []) _ refl $
      move ! (1 ∷ 0 ∷ []) $ fjoin ! $
      fpack ! (List Val) (λ vs. fsep (cell_at full_share RawPtr.mir vs b e) (RawPtr.own_val p vs)) (ptr_val p ∷ []) $ done !

  abbrev ks : List Member
  ks = record { row = RawPtr; ty = ty_ptr } ∷ []

  -- the way back for a pointer in memory, from its address and what it owns
  abbrev Again : ℕ → BucketPointer R.Denot → SProp 𝓤
  Again e w = ⟦ fsep (cell b e w.at) (pointer_owns R heap_token w.at w.slots) ⟧ -∗ ⟦ part_at W full_share w b e ⟧

  taken_out : (e : ℕ) (w : BucketPointer R.Denot)
      → ⟦ part_at W full_share w b e ⟧
      ⊢ ⟦ cell b e w.at ⟧ ∗ ⟦ pointer_owns R heap_token w.at w.slots ⟧ ∗ all 𝓤 (Again e)
  taken_out e w =
      let Back : SProp 𝓤 = PartsBack 𝓛 full_share [] ks b e in
      let At : ℕ → Ptr → Fml = λ i p. part_at RawPtr full_share p b i in
      let D : RattleType = FieldsType R in
      let same : e + 0 ≡ e = omega arith in
      qed 𝓛 (‵ (part_at W full_share w b e) ∷ []) ∵
      use1 𝓛 (‵ (part_at D full_share (w.at, tt) b e) ⊛ ‵ (pointer_owns R heap_token w.at w.slots))
      (part_out 𝓛 (one_pointer.the_type R) full_share w b e) $
      split ! $
      use1 𝓛 ((‵ (At (e + 0) w.at) ⊛ ‵ ftrue) ⊛ raw Back)
      (Struct-parts 𝓛 full_share [] ks (rawptr_Lawful 𝓛, tt) (w.at, tt) b e) $
      split ! $ split ! $
      rewrite ! 0 (λ (i : ℕ). ‵ (At i w.at)) same refl $
      use1 𝓛 (‵ (cell b e w.at)) (pointer_out e w.at) $ move ! (0 ∷ 3 ∷ []) $ frame ! $ frame ! $
      for_each ! (Again e) (λ v.
      assume ! (‵ (fsep (cell b e v.at) (pointer_owns R heap_token v.at v.slots))) $ fsplit ! $
      use1 𝓛 (‵ (At e v.at)) (pointer_in e v.at) $
      rewrite ! 0 (λ (i : ℕ). ‵ (At i v.at)) (sym same) refl $
      let Parts : Fml = parts_at full_share ks zero (v.at, tt) b e in
      let Whole : Fml = part_at D full_share (v.at, tt) b e in
      move ! (0 ∷ 2 ∷ []) $ fjoin ! $ move ! (2 ∷ []) $
      use1 𝓛 (raw (⟦ Parts ⟧ -∗ ⟦ Whole ⟧))
      (all_e 𝓤 (λ (a : Denots (rows_of ks)).
      ⟦ parts_at full_share ks zero a b e ⟧ -∗ ⟦ part_at D full_share a b e ⟧)
      (v.at, tt)) $
      move ! (1 ∷ 0 ∷ []) $
      use2 𝓛 (‵ Whole) (apply∗ 𝓤 ⟦ Parts ⟧ ⟦ Whole ⟧) $ by ! (part_in 𝓛 (one_pointer.the_type R) full_share v b e))

  -- ---- all pointers, one after another
  abbrev pub side : List (BucketPointer R.Denot) → ℕ → Fml
  side ws e = parts (mem W) (shares W) full_share ws b e

  -- the rest, put aside until the frames and the values are back
  abbrev pub Waits : List (BucketPointer R.Denot) → ℕ → SProp 𝓤
  Waits [] e = emp 𝓤
  Waits (w ∷ ws) e = (⟦ rested R w.at w.slots ⟧ ∗ all 𝓤 (Again e)) ∗ Waits ws (e + 8)

  pub cut_pointers : (ws : List (BucketPointer R.Denot)) (e : ℕ)
      → ⟦ side ws e ⟧
      ⊢ ⟦ frames R b e (pointers ws) (rows ws) ⟧ ∗ ⟦ values_at R (pointers ws) (rows ws) ⟧
      ∗ Waits ws e
  cut_pointers [] e = qed 𝓛 (‵ ftrue ∷ []) ∵ nothing ! $ nothing ! $ done !
  cut_pointers (w ∷ ws) e =
      let p : Ptr = w.at in
      let cs : Slots = w.slots in
      let Flags : Fml = flagged R p cs in
      let Vals : Fml = each (valued R (block_of p) (count_of p)) cs 0 in
      qed 𝓛 (‵ (side (w ∷ ws) e) ∷ []) ∵ fsplit ! $
      use1 𝓛 (‵ (cell b e p) ⊛ ‵ (pointer_owns R heap_token p cs) ⊛ raw (all 𝓤 (Again e)))
      (taken_out e w) $
      split3 ! $ move ! (1 ∷ []) $
      use1 𝓛 (given (PointsTo R p cs) (‵ Flags ⊛ ‵ Vals ⊛ ‵ (rested R p cs)))
      (pointer_apart 𝓛 R p cs) $
      learn ! (λ lead. split3 ! $
      -- [the flags; the values; the rest; the pointer; the way back; the others]
      nothing ! $ fpack ! (PointsTo R p cs) (λ _. ftrue) lead $ move ! (4 ∷ 0 ∷ 1 ∷ []) $ fjoin3 ! $ move ! (4 ∷ []) $
      use1 𝓛 (‵ (frames R b (e + 8) (pointers ws) (rows ws))
      ⊛ ‵ (values_at R (pointers ws) (rows ws)) ⊛ raw (Waits ws (e + 8)))
      (cut_pointers ws (e + 8)) $
      split3 ! $
      -- [the other frames; the other values; `Waits` of the others; the frame; the values; the
      -- rest; the way back]
      move ! (3 ∷ 0 ∷ []) $ fjoin ! $ move ! (3 ∷ 1 ∷ []) $ fjoin ! $ move ! (3 ∷ 4 ∷ []) $ join ! $
      move ! (0 ∷ 3 ∷ []) $ join ! $ move ! (2 ∷ 1 ∷ 0 ∷ []) $ done !)

  pub join_pointers : (ws : List (BucketPointer R.Denot)) (vs : List Slots) (e : ℕ)
      → shape vs ≡ shape (rows ws)
      → ⟦ frames R b e (pointers ws) (rows ws) ⟧ ∗ ⟦ values_at R (pointers ws) vs ⟧ ∗ Waits ws e
      ⊢ ⟦ side (refit ws vs) e ⟧
  join_pointers [] [] e same = qed 𝓛 (‵ ftrue ∷ ‵ ftrue ∷ raw (emp 𝓤) ∷ []) ∵ keep ! (0 ∷ []) $ done !
  join_pointers [] (v ∷ vs) e same = absurd (let n = ap length same in omega arith)
  join_pointers (w ∷ ws) [] e same = absurd (let n = ap length same in omega arith)
  join_pointers (w ∷ ws) (v ∷ vs) e same =
      let p : Ptr = w.at in
      let cs : Slots = w.slots in
      let Flags : Fml = flagged R p cs in
      let Vals : Fml = each (valued R (block_of p) (count_of p)) v 0 in
      let u : BucketPointer R.Denot = record { at = p; slots = v } in let Parts : Fml = fsep (cell b e p) (pointer_owns R heap_token p v) in
      qed 𝓛 (‵ (frames R b e (pointers (w ∷ ws)) (rows (w ∷ ws)))
      ∷ ‵ (values_at R (pointers (w ∷ ws)) (v ∷ vs)) ∷ raw (Waits (w ∷ ws) e) ∷ []) ∵
      fsplit ! $ fsplit3 ! $ move ! (1 ∷ []) $ fpick ! (λ lead. drop ! $
      move ! (3 ∷ []) $ fsplit ! $ move ! (5 ∷ []) $
      use1 𝓛 ((‵ (rested R p cs) ⊛ raw (all 𝓤 (Again e))) ⊛ raw (Waits ws (e + 8))) (id⊢ 𝓤 _) $
      split ! $ split ! $
      -- [the rest; the way back; `Waits` of the others; the values; the other values; the pointer;
      -- the flags; the other frames]
      move ! (6 ∷ 3 ∷ 0 ∷ []) $
      use3 𝓛 (‵ (pointer_owns R heap_token p v))
      (pointer_whole 𝓛 R p cs v (ap first_row same) lead) $
      move ! (4 ∷ 0 ∷ []) $ fjoin ! $ move ! (1 ∷ []) $
      use1 𝓛 (raw (Again e u)) (all_e 𝓤 (Again e) u) $ move ! (1 ∷ 0 ∷ []) $
      use2 𝓛 (‵ (part_at W full_share u b e)) (apply∗ 𝓤 ⟦ Parts ⟧ ⟦ part_at W full_share u b e ⟧) $
      move ! (3 ∷ 2 ∷ 1 ∷ []) $
      use3 𝓛 (‵ (side (refit ws vs) (e + 8))) (join_pointers ws vs (e + 8) (ap rest_of_rows same)) $
      move ! (1 ∷ 0 ∷ []) $ done !)
