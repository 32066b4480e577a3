use Rattle.std.proofs.Common.{◌≡◌, ◌≢◌, ◌∙◌, ◌<◌, ◌≤◌, ◌-◌, ℕ, ap, arith}
use Rattle.thread_local_buckets.specs.declared.cursor.RawIter.{RawIter}
use Rattle.thread_local_shared_buckets.specs.declared.steps.Walk.{Walk}
use Rattle.thread_local_shared_buckets.proofs.AtHandLaws.{Takes, comes_nowhere, comes_by_look, comes_then, takes_none, takes_one, moves_to}
use Rattle.thread_local_shared_buckets.proofs.steps.Walk.reach.Goals as goal
use Rattle.thread_local_shared_buckets.proofs.steps.Walk.reach.Goals.{Joined-self-eq0, then-self-eq0, else-self-eq0}

before_last : (b : ℕ) → b ≤ 63 → b ≢ 63 → b < 63
before_last b most apart = omega arith

some_left : (n : ℕ) → n ≢ 0 → 0 < n
some_left n some = omega arith

-- a walk that comes to a later bucket has fewer before it
fewer : (a b to : ℕ) → a < b → a < 63 → to ≡ b → 63 - to < 63 - a
fewer a b to later low same = omega arith

-- the walk has taken a bucket out of those that are left, or none
taken : (g : _) (c : Joined-self-eq0 g) → Takes c.loop-self.self c.if-self-eq0.self c.if-self-eq0.bucket
taken g c =
    let at = c.loop-self.self in
    elim c.if-self-eq0.branch [
      | then-self-eq0 x ↦
          takes_none at c.if-self-eq0.self c.if-self-eq0.bucket x.bucket_size.result x.if-self-eq0.true x.self-is
          x.bucket_size.ensures x.bucket-is
      | else-self-eq0 x ↦
          let first = x.take_first_bucket in
          takes_one at c.if-self-eq0.self c.if-self-eq0.bucket first.result first.new.left first.ensures.first first.ensures.rest
          first.ensures.size x.self-is x.bucket-is
    ]

pub look_in-requires-clause-shareable : goal.look_in-requires-clause-shareable
look_in-requires-clause-shareable g c = c.requires.shareable

pub look_in-requires-clause-walk : goal.look_in-requires-clause-walk
look_in-requires-clause-walk g c = c.requires.walk

pub look_in-requires-clause-passed : goal.look_in-requires-clause-passed
look_in-requires-clause-passed g c = c.requires.passed

pub look_in-requires-clause-in_table : goal.look_in-requires-clause-in_table
look_in-requires-clause-in_table g c = before_last c.args.self.now.raw.bucket c.requires.walk.walk.in_table c.if-self-eq-BUCKETS.false

pub take_first_bucket-requires : goal.take_first_bucket-requires
take_first_bucket-requires g c = some_left c.loop-self.self.left c.if-self-eq0.false

pub look_in-requires-in-loop-self-clause-shareable : goal.look_in-requires-in-loop-self-clause-shareable
look_in-requires-in-loop-self-clause-shareable g c = c.requires.shareable

pub look_in-requires-in-loop-self-clause-passed : goal.look_in-requires-in-loop-self-clause-passed
look_in-requires-in-loop-self-clause-passed g c =
    ap (λ (w : Walk _). w.rest) (taken g (goal.at.look_in-requires-in-loop-self-clause-passed g c).Joined-self-eq0).is ∙ c.loop-self-test.true

pub look_in-requires-in-loop-self-clause-in_table : goal.look_in-requires-in-loop-self-clause-in_table
look_in-requires-in-loop-self-clause-in_table g c =
    before_last c.if-self-eq0.bucket.0 (taken g (goal.at.look_in-requires-in-loop-self-clause-in_table g c).Joined-self-eq0).takes.in_table
    c.if-bucket-eq-BUCKETS.false

pub returns-then-self-eq-BUCKETS : goal.returns-then-self-eq-BUCKETS
returns-then-self-eq-BUCKETS g c =
    record { walk = c.requires.walk; comes = comes_nowhere c.args.self.now; by = omega (arith, c.if-self-eq-BUCKETS.true) }

pub loop-self-init : goal.loop-self-init
loop-self-init g c =
    let look = c.look_in.ensures in
    let here : c.look_in.new.self.raw.bucket ≡ c.args.self.now.raw.bucket = ap (λ (r : RawIter). r.bucket) look.raw in
    record {
      comes = comes_nowhere c.look_in.new.self;
      walk = look.walk;
      in_table = omega (arith, here, c.requires.walk.walk.in_table, c.if-self-eq-BUCKETS.false);
      elsewhere = look.none;
      behind = look.behind;
    }

pub returns-then-bucket-eq-BUCKETS : goal.returns-then-bucket-eq-BUCKETS
returns-then-bucket-eq-BUCKETS g c =
    let w = c.args.self.now in
    let at = c.loop-self.self in
    let kept = c.loop-self.invariant in
    let on = moves_to at c.if-self-eq0.self c.if-self-eq0.bucket
    (taken g (goal.at.returns-then-bucket-eq-BUCKETS g c).Joined-self-eq0) kept.walk c.loop-self-test.true kept.in_table
    (kept.elsewhere c.loop-self-test.true) (kept.behind c.loop-self-test.true) in
    let come = comes_then w c.look_in.new.self at (comes_by_look w c.look_in.new.self c.look_in.ensures) kept.comes in
    record { walk = on.walk; comes = comes_then w at _ come on.comes; by = omega (arith, c.if-bucket-eq-BUCKETS.true) }

pub look_in-requires-in-loop-self-clause-walk : goal.look_in-requires-in-loop-self-clause-walk
look_in-requires-in-loop-self-clause-walk g c =
    let at = c.loop-self.self in
    let kept = c.loop-self.invariant in
    let on = moves_to at c.if-self-eq0.self c.if-self-eq0.bucket
    (taken g (goal.at.look_in-requires-in-loop-self-clause-walk g c).Joined-self-eq0) kept.walk c.loop-self-test.true kept.in_table
    (kept.elsewhere c.loop-self-test.true) (kept.behind c.loop-self-test.true) in
    on.walk

pub loop-self-preserved : goal.loop-self-preserved
loop-self-preserved g c =
    let at = c.loop-self.self in
    let kept = c.loop-self.invariant in
    let on = moves_to at c.if-self-eq0.self c.if-self-eq0.bucket
    (taken g (goal.at.loop-self-preserved g c).Joined-self-eq0) kept.walk c.loop-self-test.true kept.in_table
    (kept.elsewhere c.loop-self-test.true) (kept.behind c.loop-self-test.true) in
    let look = c.look_in-in-loop-self.ensures in
    let to = c.look_in-in-loop-self.new.self in
    let here : to.raw.bucket ≡ c.if-self-eq0.bucket.0 = ap (λ (r : RawIter). r.bucket) look.raw in
    record {
      comes = comes_then c.look_in.new.self at to kept.comes (comes_then at _ to on.comes (comes_by_look _ to look));
      walk = look.walk;
      in_table = omega (arith, here, on.walk.walk.in_table, c.if-bucket-eq-BUCKETS.false);
      elsewhere = look.none;
      behind = look.behind;
    }

pub returns : goal.returns
returns g c =
    let w = c.args.self.now in
    let at = c.loop-self.self in
    record {
      walk = c.loop-self.invariant.walk;
      comes = comes_then w c.look_in.new.self at (comes_by_look w c.look_in.new.self c.look_in.ensures) c.loop-self.invariant.comes;
      by = omega (arith, c.loop-self-test.false);
    }

pub loop-self-smaller : goal.loop-self-smaller
loop-self-smaller g c =
    let at = c.loop-self.self in
    let kept = c.loop-self.invariant in
    let on = moves_to at c.if-self-eq0.self c.if-self-eq0.bucket
    (taken g (goal.at.loop-self-smaller g c).Joined-self-eq0) kept.walk c.loop-self-test.true kept.in_table
    (kept.elsewhere c.loop-self-test.true) (kept.behind c.loop-self-test.true) in
    fewer at.raw.bucket c.if-self-eq0.bucket.0 c.look_in-in-loop-self.new.self.raw.bucket on.further kept.in_table
    (ap (λ (r : RawIter). r.bucket) c.look_in-in-loop-self.ensures.raw)
