-- A word that threads share, with what lies beside it, by what the word is.
use Rattle.std.specs.Prelude.{ℕ, ◌+◌}
use base.Fml.{Lft, Fml, ffalse, fsep, fex, fbor}
use denote.RawPtr.{Ptr, block_ptr, null_ptr}
use denote.Sharing.{said, beside, some, ends, always}
use Rattle.std.specs.Sync.RawAtomic.{word}

module _ (lies : ℕ → Fml) where
  -- the word at an address, with what lies beside it
  abbrev pub word_invariant : ℕ → ℕ → Fml
  word_invariant b o = fex ℕ (λ n. fsep (word b o n) (lies n))

  -- the sharing lasts, and the invariant stands
  abbrev pub word_kept : ℕ → ℕ → Lft → Lft → Fml
  word_kept b o α = beside (ends α) (always (fbor α (word_invariant b (o + 0))))

  -- what a `&` to the word holds
  abbrev pub word_shares : Ptr → Lft → Fml
  word_shares (block_ptr b o) = some Lft (word_kept b o)
  word_shares null_ptr = said ffalse

  -- what its owner has, beside the word as a field
  abbrev pub word_owns : (ℕ → Fml) → Fml
  word_owns fields = fex ℕ (λ n. fsep (fields n) (lies n))
