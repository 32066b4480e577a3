-- What a loan of a table's pointers owns: a borrow of the pointers and flags, which don't change,
-- and one of the values that it hasn't given. All else that the pointers own, such as the right to
-- free a block, is put aside until both borrows end.
use Rattle.std.specs.Prelude.{◌≡◌, ℕ, ◌+◌, ◌^◌, ◌<◌, ◌≤◌, Bool, List, [], ◌∷◌, length, get_or, map, is_some, Option}
use Rattle.std.specs.Prelude.{Some, None}
use base.Fraction.{full_share}
use base.Fml.{Lft, GName, Fml, ftrue, ffalse, fsep, fex, froom, fobs, fbor}
use mir.Raw.{raw}
use types.SemTy.{SemTy, Body}
use denote.RattleType.{RattleType}
use denote.Memory.{lone, part_at}
use denote.RawPtr.{Ptr, block_ptr, null_ptr, block_of, count_of, InBlock}
use Rattle.std.specs.Sync.RawAtomic.Pointer.{cell}
use Rattle.thread_local_base.specs.Place.{id_at}
use Rattle.thread_local_base.specs.Buckets.{Contents, row, IsTable}
use Rattle.thread_local_base.specs.Rows.{value_in}
use Rattle.thread_local_base.specs.Owned.{Owned}
use Rattle.thread_local_base.specs.Code.{owned_coded}
use Rattle.thread_local_buckets.specs.Slots.{each, flags, value_offset, Fits}
use Rattle.thread_local_base.specs.Fact.{fact}

-- which slots have a value
abbrev pub shape : {X : Type 0} → List (List (Option X)) → List (List Bool)
shape = map (map is_some)

-- what a loan has left of the whole contents: every value from the id `given` on
pub record IsLeft {X : Type 0} (whole left : Contents X) (given : ℕ) : Type 0 where
  pub table : IsTable left
  pub rows : length whole.rows ≡ 63
  pub long : (bucket : ℕ) → length (row whole bucket) ≡ length (row left bucket)
  pub ahead : (bucket index : ℕ) → given ≤ id_at bucket index → value_in left bucket index ≡ value_in whole bucket index

-- what a loan's name stands for: an owner's buckets with these contents. The loan has no reserved
-- slots.
abbrev pub lent_as : {X : Type 0} → Contents X → Owned X
lent_as contents = record { contents = contents; reserved = 0 }

module _ (R : RattleType) where
  -- a slot's value, where it has one
  abbrev pub valued : ℕ → ℕ → Option R.Denot → ℕ → Fml
  valued b o None j = ftrue
  valued b o (Some x) j = part_at R full_share x b (value_offset R o j)

  -- and a slot's room, where it has none
  abbrev pub bare : ℕ → ℕ → Option R.Denot → ℕ → Fml
  bare b o None j = froom (raw (lone R.mir)) b (value_offset R o j)
  bare b o (Some x) j = ftrue

  -- what a pointer points to: null without slots, and else to a block that fits
  abbrev pub PointsTo : Ptr → List (Option R.Denot) → Type 0
  PointsTo p [] = p ≡ null_ptr
  PointsTo p (c ∷ cs) = InBlock p × (count_of p < 2 ^ 63) × Fits R (length (c ∷ cs))

  -- the flags of a pointer's block
  abbrev pub flagged : Ptr → List (Option R.Denot) → Fml
  flagged p [] = ftrue
  flagged p (c ∷ cs) = flags R (block_of p) (count_of p) (c ∷ cs)

  -- a pointer in memory, and the flags of its block
  abbrev pub framed : ℕ → ℕ → Ptr → List (Option R.Denot) → Fml
  framed b e p cs = fsep (cell b e p) (fsep (fact (PointsTo p cs)) (flagged p cs))

  -- the pointers in memory, one after another, with their flags
  abbrev pub frames : ℕ → ℕ → List Ptr → List (List (Option R.Denot)) → Fml
  frames b e [] [] = ftrue
  frames b e [] (r ∷ rs) = ffalse
  frames b e (p ∷ ps) [] = ffalse
  frames b e (p ∷ ps) (r ∷ rs) = fsep (framed b e p r) (frames b (e + 8) ps rs)

  -- the values in the pointers' blocks
  abbrev pub values_at : List Ptr → List (List (Option R.Denot)) → Fml
  values_at [] [] = ftrue
  values_at [] (r ∷ rs) = ffalse
  values_at (p ∷ ps) [] = ffalse
  values_at (p ∷ ps) (r ∷ rs) = fsep (each (valued (block_of p) (count_of p)) r 0) (values_at ps rs)

  -- the values of contents that have a value in exactly these slots
  abbrev pub Values : List Ptr → List (List Bool) → SemTy
  Values ps has = record {
    rep = Owned R.Denot;
    coded = owned_coded R.coded;
    size = 0;
    own_at = λ w _ _. fsep (fact (shape w.contents.rows ≡ has)) (values_at ps w.contents.rows);
  }

  abbrev pub lent_values : Lft → List Ptr → GName → Contents R.Denot → Fml
  lent_values κ ps name left =
      fsep (fobs name ((owned_coded R.coded).code (lent_as left)))
      (fbor κ (Body (Values ps (shape left.rows)) 0 0 name))

  -- the addresses of the blocks, and the contents at the time of the loan
  abbrev pub Lending : Type 0
  Lending = List Ptr × Contents R.Denot

  -- this is the address of the value of a slot, in a block that fits
  abbrev pub IsValueAt : List Ptr → Contents R.Denot → Ptr → ℕ → ℕ → Type 0
  IsValueAt ps whole v bucket first =
      (v
      ≡ block_ptr (block_of (get_or ps bucket null_ptr))
      (value_offset R (count_of (get_or ps bucket null_ptr)) first))
      × Fits R (length (row whole bucket))

  -- what is known of a loan's addresses and contents
  abbrev pub Known : Ptr → Ptr → Contents R.Denot → ℕ → ℕ → ℕ → Lending → Type 0
  Known p v left given bucket first s = InBlock p × IsLeft s.1 left given × (bucket < 63 → IsValueAt s.0 s.1 v bucket first)

  abbrev pub lending : Lft → Ptr → Ptr → GName → Contents R.Denot → ℕ → ℕ → ℕ → Lending → Fml
  lending κ p v name left given bucket first s =
      fsep (fact (Known p v left given bucket first s))
      (fsep (fbor κ (frames (block_of p) (count_of p) s.0 s.1.rows))
      (lent_values κ s.0 name left))

abbrev pub loan_owns : Lft → (R : RattleType) → Ptr → Ptr → GName → Contents R.Denot → ℕ → ℕ → ℕ → Fml
loan_owns κ R p v name left given bucket first = fex (Lending R) (lending R κ p v name left given bucket first)
