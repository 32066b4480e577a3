use Rattle.std.proofs.Common.{ℕ, ◌<◌, ◌≤◌, bit_or, arith, ⊎_elim}
use Rattle.std.proofs.lemmas.Bool.{cases_lt}
use Rattle.std.proofs.lemmas.Nat.{le_or_l}
use Rattle.thread_local_base.proofs.Word.{never_set}
use Rattle.thread_local_buckets.proofs.bucket_pointers.BucketPointers.standing.Goals as goal

pub returns-clause-some : goal.returns-clause-some
returns-clause-some g c =
    let bits : ℕ = c.self.inside.announced.bits in
    let all = le_or_l bits c.self.inside.made.bits in
    ⊎_elim
    (λ (none : bit_or bits c.self.inside.made.bits < 1). never_set bits 0 (omega (arith, none, all)) (c.self.invariant.1.first 0 (omega arith)))
    (λ (some : 1 ≤ bit_or bits c.self.inside.made.bits). some)
    (cases_lt (bit_or bits c.self.inside.made.bits) 1)
