-- The right to a lock's value is in the lock's invariant while the word is 0, and with the guard
-- while it isn't.
--
-- Shared for α, an invariant holds the borrow of the word and, where the word is 0, the right to
-- the value: the borrow of the value under the name γ, which tracks it, and that the value fits. A
-- guard has that right, and gives it back with a value that fits. Where the lock isn't shared, it
-- is known that the value fits if the word is 0. So a guard that was forgotten does no harm.
use Rattle.std.specs.Prelude.{◌≡◌, ℕ, zero, suc, ◌+◌, refl}
use Rattle.std.specs.Coded.{Coded, coded_ℕ, code_by}
use base.Fml.{Lft, GName, Fml, ftrue, ffalse, fsep, fex, fobs, fbor}
use prog.Memory.{up, align}
use types.SemTy.{Body}
use denote.RattleType.{RattleType}
use denote.Memory.{lone, mem, shared_of}
use denote.RawPtr.{Ptr, block_ptr, null_ptr}
use denote.Sharing.{said, beside, some, ends, always, within}
use Rattle.thread_local_base.specs.Fact.{fact}
use Rattle.thread_local_base.specs.SharedWord.{word_invariant}

-- what a contract sees of a lock: the tag of its value, which stays while threads share the lock
pub record LockView : Type 0 where
  pub tag : ℕ

abbrev pub lock_coded : Coded LockView
lock_coded = code_by ℕ coded_ℕ (λ lock. lock.tag) (λ tag. record { tag = tag }) (λ _. refl)

-- the value fits, and has this tag
abbrev pub Fitting : {X : Type 0} → (X → ℕ) → (X → Type 0) → ℕ → X → Type 0
Fitting tag fits t x = fits x × (tag x ≡ t)

-- the offset of the value, after the word
abbrev pub offset : RattleType → ℕ
offset R = up (align (lone R.mir)) 8

-- a lock at rest: the value fits, if the word says that the lock is free
abbrev pub lock_owns : (R : RattleType) → (R.Denot → Type 0) → (ℕ → R.Denot → Fml) → Fml
lock_owns R ok fields = fex (ℕ × R.Denot) (λ s. fsep (fields s.0 s.1) (fact (s.0 ≡ 0 → ok s.1)))

-- a turn of a lock, for as long as it is lent through `&`s: its lifetime α, and the name γ that
-- tracks the value
abbrev pub LockTurn : Type 0
LockTurn = Lft × GName

module _ (R : RattleType) (ok : R.Denot → Type 0) (b o : ℕ) (t : LockTurn) where
  -- the value, whatever it is, under the name that tracks it
  abbrev pub named_value : Fml
  named_value = Body (mem R) b (o + offset R) t.1

  -- the right to the value, where it is x
  abbrev pub held : R.Denot → Fml
  held x = fsep (fobs t.1 (R.coded.code x)) (fbor t.0 named_value)

  abbrev pub fitting : R.Denot → Fml
  fitting x = fsep (fact (ok x)) (held x)

  -- what lies beside the word: at 0, the right to a value that fits
  abbrev pub with_word : ℕ → Fml
  with_word zero = fex R.Denot fitting
  with_word (suc n) = ftrue

  abbrev pub lock_invariant : Fml
  lock_invariant = word_invariant with_word b (o + 0)

  abbrev pub lock_kept : Lft → Fml
  lock_kept = beside (ends t.0) (always (fbor t.0 lock_invariant))

  abbrev pub guarding : Lft → R.Denot → Fml
  guarding β x = fsep (lock_kept β) (held x)

-- what a `&` to the lock at an address holds
abbrev pub lock_shares : (R : RattleType) → (R.Denot → Type 0) → Ptr → Lft → Fml
lock_shares R ok (block_ptr b o) = some LockTurn (lock_kept R ok b o)
lock_shares R ok null_ptr = said ffalse

-- what a guard of the lock at an address owns, where the value is x
abbrev pub guard_owns : Lft → (R : RattleType) → (R.Denot → Type 0) → Ptr → R.Denot → Fml
guard_owns β R ok (block_ptr b o) x = fex LockTurn (λ t. guarding R ok b o t β x)
guard_owns β R ok null_ptr x = ffalse

-- what a `&` to that guard holds: a `&` to the value
abbrev pub guard_shares : Lft → (R : RattleType) → Ptr → R.Denot → Lft → Fml
guard_shares β R (block_ptr b o) x = within β (shared_of R x b (o + offset R))
guard_shares β R null_ptr x = said ffalse
