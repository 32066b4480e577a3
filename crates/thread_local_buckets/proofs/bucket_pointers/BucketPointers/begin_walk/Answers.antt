use Rattle.std.proofs.Common.{◌≡◌, ◌+◌, ◌∙◌, ℕ, arith, count_ones, refl, subst, sym}
use Rattle.thread_local_base.specs.Buckets.{Contents, IsTable}
use Rattle.thread_local_base.proofs.EmptyingLaws.{emptied-none}
use Rattle.thread_local_buckets.specs.Announced.{Announces}
use Rattle.thread_local_buckets.proofs.NextValue.{begins, no_ones}
use Rattle.thread_local_buckets.proofs.bucket_pointers.BucketPointers.begin_walk.Goals as goal

none_left : (count : ℕ) → count_ones 0 + count ≡ 0 → count ≡ 0
none_left count none = omega (arith, none, no_ones 0 refl)

pub returns-clause-walk : goal.returns-clause-walk
returns-clause-walk g c =
    let bits : ℕ = c.self.inside.announced.bits in
    let told = subst (λ (w : Contents g.row.T.Denot). Announces bits w) c.self.view_is c.self.invariant.1 in
    let count = c.count_values.ensures in
    begins c.args.self.now bits c.count_values.result told count.counted count.fits

pub returns-clause-ends : goal.returns-clause-ends
returns-clause-ends g c = λ none.
    let table = subst (λ (w : Contents g.row.T.Denot). IsTable w) c.self.view_is c.self.invariant.0 in
    emptied-none c.args.self.now table (sym c.count_values.ensures.counted ∙ none_left c.count_values.result none)
