-- Whether a `&` to a value of a type names a thread, or means the same to every thread. It names one
-- where what it allows depends on the thread that has it, as that of a `Cell` does. `Shareable` is to
-- proofs what `Sync` is to the compiler.
use Rattle.std.specs.Prelude.{ℕ, ◌⊎◌}
use base.Fml.{Lft, Fml}
use base.Shift.{Keyless}
use denote.RattleType.{RattleType}

-- what a `&` to a value of the type holds names no thread
abbrev pub Shareable : RattleType → Type 0
Shareable R = (x : R.Denot) (b o : ℕ) (κ : Lft) → Keyless (R.shr_at x b o κ)

-- it is known whether a `&` to a value of the type names a thread
abbrev pub Judged : RattleType → Type 0
Judged R = Shareable R ⊎ (Shareable R → ⊥)

-- a `&` to some value, for some lifetime, holds what names a thread; `holds` is what a `&` to a
-- value holds
pub record NamesThread {D : Type 0} (holds : D → Lft → Fml) : Type 0 where
  pub value : D
  pub lifetime : Lft
  pub names : Keyless (holds value lifetime) → ⊥

-- it is known whether a `&` to a value names a thread. If it doesn't, the type has a value; if it
-- does, it does so at each address of a value: at each offset o of each block b
abbrev pub JudgedEverywhere : RattleType → Type 0
JudgedEverywhere R = (R.Denot × Shareable R) ⊎ ((b o : ℕ) → NamesThread (λ x κ. R.shr_at x b o κ))
