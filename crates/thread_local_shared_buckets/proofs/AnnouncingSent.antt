-- What lies with the word of announced buckets names no thread.
use Rattle.std.proofs.Common.{ℕ, zero, suc, Bool, true, false, Some}
use Rattle.std.specs.Coded.{coded_option}
use base.Fml.{GName}
use base.Shift.{Keyless}
use denote.Builtin.{u64}
use Rattle.thread_local_base.specs.Bits.{is_set}
use Rattle.thread_local_ids.proofs.ToldElements.{told_keyless, untold_keyless}
use Rattle.thread_local_shared_buckets.specs.Announcing.{Announcing, told_of, announced_by, announced, lies_with_bit, lies_with_bits}
use Rattle.thread_local_shared_buckets.specs.Announcing.{lies_with_word}

told_of_keyless : (γ : GName) (bit : ℕ) → Keyless (told_of γ bit)
told_of_keyless γ bit = told_keyless (Some γ) bit ((coded_option u64.coded).code (Some 0))

by_keyless : (γ : GName) (bit : ℕ) (begun : Bool) → Keyless (announced_by γ bit begun)
by_keyless γ bit true = tt
by_keyless γ bit false = told_of_keyless γ bit

pub announced_keyless : (m : Announcing) (bit : ℕ) → Keyless (announced m bit)
announced_keyless m bit = by_keyless m.name bit (is_set m.begun bit)

bit_keyless : (γ : GName) (bit : ℕ) (begun set : Bool) → Keyless (lies_with_bit γ bit begun set)
bit_keyless γ bit true set = λ _. tt
bit_keyless γ bit false true = told_of_keyless γ bit
bit_keyless γ bit false false = untold_keyless (Some γ) bit

bits_keyless : (m : Announcing) (n count : ℕ) → Keyless (lies_with_bits m n count)
bits_keyless m n zero = tt
bits_keyless m n (suc bit) = (bit_keyless m.name bit (is_set m.begun bit) (is_set n bit), bits_keyless m n bit)

pub word_keyless : (m : Announcing) (n : ℕ) → Keyless (lies_with_word m n)
word_keyless m n = ((λ _. tt), bits_keyless m n 63)
