-- A table's pointers in memory are 63 pointers one after another, and 63 such pointers are a
-- table's. Assumes `Logic`.
use Rattle.thread_local_base.proofs.Names.{◌≡◌, ℕ, ◌+◌, List, [], ◌∷◌, length, full_share, Ura, SProp, ex}
use Rattle.thread_local_base.proofs.Names.{Logic, ‵, raw, ◌⊛◌, some, ◌$◌, ◌∵◌, !, qed, by, move, split}
use Rattle.thread_local_base.proofs.Names.{fjoin, pick, show, use1, use2, feq_l, feq_i, join, done, RattleType}
use Rattle.thread_local_base.proofs.Names.{Member, lone, part_at, param, param_laws}
use base.Fml.{feq}
use denote.Param.Laws.{Laws}
use denote.Array.{Array, Array-Lawful}
use denote.ArrayMemory.{Array-apart, Array-whole}
use denote.Laws.{Lawful}
use denote.Memory.{part_of}
use denote.Model.Fields.{view_owns, view_made, plain_out, Plain-in}
use Rattle.thread_local_buckets.specs.contracts.announced.BucketBits as bits
use Rattle.thread_local_buckets.proofs.announced.BucketBits.TheLaws as bits'
use denote.Struct.Parts.{PartsBack}
use denote.Struct.Pick.{rest_at, field_out, field_back}
use Rattle.std.specs.contracts.alloc.Global as heap
use Rattle.std.proofs.alloc.Global.TheLaws as heap_laws
use Rattle.thread_local_base.specs.Buckets.{Contents}
use Rattle.thread_local_buckets.specs.declared.bucket_pointer.BucketPointer.{BucketPointer}
use Rattle.thread_local_buckets.specs.contracts.bucket_pointer.BucketPointer as one_pointer
use Rattle.thread_local_buckets.proofs.bucket_pointer.BucketPointer.TheLaws as pointer_laws
use Rattle.thread_local_buckets.specs.contracts.pointer_array.PointerArray as array
use Rattle.thread_local_buckets.proofs.pointer_array.PointerArray.TheLaws as row_laws
use Rattle.thread_local_buckets.specs.contracts.bucket_pointers.BucketPointers as all_pointers
use Rattle.thread_local_buckets.specs.contracts.bucket_pointers.BucketPointers.TheInside as inside
use Rattle.thread_local_buckets.proofs.Taking.{side}
use Rattle.thread_local_base.proofs.Signs.{signs}

module _ {M : Type 1} {𝓤 : Ura M} (𝓛 : Logic 𝓤) (X : RattleType) (L : Laws X) (b o : ℕ) where
  open signs 𝓛 use {⟦◌⟧, ◌⊢◌, ◌∗◌}

  infix 26 ◌⊢◌
  infixr 35 ◌∗◌
  abbrev R : RattleType
  R = param 0 X

  abbrev W : RattleType
  W = one_pointer.the_row R

  abbrev Row : RattleType
  Row = array.the_row R

  abbrev Bits : RattleType
  Bits = bits.the_row

  abbrev Table : RattleType
  Table = all_pointers.the_row R

  abbrev pub Inside : RattleType
  Inside = inside.the_row R

  abbrev ms : List Member
  ms = record { row = Row; ty = lone Row.mir } ∷ record { row = heap.the_row; ty = lone heap.the_row.mir }
      ∷ record { row = Bits; ty = lone Bits.mir } ∷ record { row = Bits; ty = lone Bits.mir } ∷ []

  abbrev ns : List Member
  ns = record { row = Array W 63; ty = lone (Array W 63).mir } ∷ []

  abbrev pub view : Inside.Denot → Contents R.Denot
  view = all_pointers.the_view R

  abbrev pub good : Inside.Denot → Type 0
  good = all_pointers.the_invariant R

  abbrev pub Laid : Inside.Denot → SProp 𝓤
  Laid a =
      (⟦ rest_at full_share ms 0 (a.pointers, (a.alloc, (a.announced, (a.made, tt)))) b o 0 ⟧
      ∗ PartsBack 𝓛 full_share [] ms b o)
      ∗ (⟦ rest_at full_share ns 0 (a.pointers.pointers, tt) b (o + 0) 0 ⟧
      ∗ PartsBack 𝓛 full_share [] ns b (o + 0))

  -- the pointers one after another, and what else makes them a table's
  abbrev pub Opened : Contents R.Denot → Inside.Denot → SProp 𝓤
  Opened c a = ⟦ side 𝓛 R b a.pointers.pointers (o + 0 + 0) ⟧ ∗ Laid a

  pub open_pointers : (c : Contents R.Denot)
      → ⟦ part_at Table full_share c b o ⟧
      ⊢ ex 𝓤 (λ (x : (a : Inside.Denot) × ((view a ≡ c) × good a)). Opened c x.0)
  unfolding part_of
  open_pointers c =
      let LR = param_laws 0 X L in
      let LW = (pointer_laws.the_row_laws R LR).lawful 𝓛 in
      let LA : Lawful 𝓛 (Array W 63) = Array-Lawful 𝓛 W LW 63 in
      let LRow = (row_laws.the_row_laws R LR).lawful 𝓛 in
      let LH = heap_laws.the_row_laws.lawful 𝓛 in
      let Known : Inside.Denot → Type 0 = λ a. (view a ≡ c) × good a in
      qed 𝓛 (‵ (part_at Table full_share c b o) ∷ []) ∵
      use1 𝓛 (some (λ (x : (a : Inside.Denot) × Known a). ‵ (part_at Inside full_share x.0 b o)))
      (plain_out Table Inside (view_owns Inside (Contents R.Denot) Table.coded view good) 𝓛
      full_share c b o) $
      pick ! (λ x.
      let a : Inside.Denot = x.0 in
      let ws = a.pointers.pointers in
      let Rest : SProp 𝓤 =
      ⟦ rest_at full_share ms 0 (a.pointers, (a.alloc, (a.announced, (a.made, tt)))) b o 0 ⟧
      ∗ PartsBack 𝓛 full_share [] ms b o in
      let Rest' : SProp 𝓤 = ⟦ rest_at full_share ns 0 (ws, tt) b (o + 0) 0 ⟧ ∗ PartsBack 𝓛 full_share [] ns b (o + 0) in
      use1 𝓛 (‵ (part_at Row full_share a.pointers b (o + 0)) ⊛ raw Rest)
      (field_out 𝓛 full_share [] ms (LRow, (LH, (bits'.the_row_laws.lawful 𝓛, (bits'.the_row_laws.lawful 𝓛, tt)))) (a.pointers, (a.alloc, (a.announced, (a.made, tt)))) b o 0) $
      split ! $
      use1 𝓛 (‵ (part_at (Array W 63) full_share ws b (o + 0 + 0)) ⊛ raw Rest')
      (field_out 𝓛 full_share [] ns (LA, tt) (ws, tt) b (o + 0) 0) $
      split ! $
      use1 𝓛 (‵ (feq ℕ (length ws) 63) ⊛ ‵ (side 𝓛 R b ws (o + 0 + 0)))
      (Array-apart 𝓛 W full_share tt 63 ws b (o + 0 + 0)) $
      split ! $ feq_l ! (λ _.
      show ! (λ (z : (a : Inside.Denot) × Known a). Opened c z.0) x $ move ! (2 ∷ 1 ∷ []) $ join ! $
      move ! (1 ∷ 0 ∷ []) $ done !))

  -- the table with these pointers
  abbrev pub remade : Inside.Denot → List (BucketPointer R.Denot) → Inside.Denot
  remade a ws = record { pointers = record { pointers = ws }; alloc = a.alloc; announced = a.announced; made = a.made }

  pub close_pointers : (a : Inside.Denot) (ws : List (BucketPointer R.Denot)) (c : Contents R.Denot)
      → length ws ≡ 63 → view (remade a ws) ≡ c → good (remade a ws)
      → ⟦ side 𝓛 R b ws (o + 0 + 0) ⟧ ∗ Laid a ⊢ ⟦ part_at Table full_share c b o ⟧
  unfolding part_of
  close_pointers a ws c long seen so = let a' : Inside.Denot = remade a ws in
      let Rest : SProp 𝓤 =
      ⟦ rest_at full_share ms 0 (a.pointers, (a.alloc, (a.announced, (a.made, tt)))) b o 0 ⟧
      ∗ PartsBack 𝓛 full_share [] ms b o in
      let Rest' : SProp 𝓤 =
      ⟦ rest_at full_share ns 0 (a.pointers.pointers, tt) b (o + 0) 0 ⟧
      ∗ PartsBack 𝓛 full_share [] ns b (o + 0) in
      qed 𝓛 (‵ (side 𝓛 R b ws (o + 0 + 0)) ∷ (raw Rest ⊛ raw Rest') ∷ []) ∵
      feq_i ! ℕ (length ws) 63 long $ fjoin ! $
      use1 𝓛 (‵ (part_at (Array W 63) full_share ws b (o + 0 + 0)))
      (Array-whole 𝓛 W full_share 63 ws b (o + 0 + 0)) $
      move ! (1 ∷ []) $ split ! $ move ! (2 ∷ 1 ∷ []) $
      use2 𝓛 (‵ (part_at Row full_share a'.pointers b (o + 0)))
      (field_back 𝓛 full_share [] ns (ws, tt) b (o + 0) 0) $
      move ! (0 ∷ 1 ∷ []) $
      use2 𝓛 (‵ (part_at Inside full_share a' b o)) (field_back 𝓛 full_share [] ms (a'.pointers, (a'.alloc, (a'.announced, (a'.made, tt)))) b o 0) $
      by ! (Plain-in Table Inside (view_owns Inside (Contents R.Denot) Table.coded view good) 𝓛
      full_share c a'
      (view_made Inside (Contents R.Denot) Table.coded view good 𝓛 c a' (seen, so)) b o)
