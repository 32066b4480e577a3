use Rattle.std.proofs.Common.{◌+◌, ◌-◌, refl, arith}
use Rattle.thread_local_buckets.proofs.NextValue.{Passes, passes}
use Rattle.thread_local_buckets.proofs.cursor.OwnerCursor.pass.Goals as goal

it_passes : (g : _) (c : goal.After-self-1 g)
    → Passes (g.P.FlagSource.contents c.args.source.now) c.args.self.now c.take_first-bit.new.word
    (g.P.FlagSource.given c.args.source.now)
    (c.args.self.now.raw.index - 64 + c.take_first-bit.result)
it_passes g c =
    passes (g.P.FlagSource.contents c.args.source.now) c.args.self.now c.take_first-bit.new.word c.take_first-bit.result
    (g.P.FlagSource.given c.args.source.now) c.requires.walk (omega arith) c.requires.some (omega arith)
    c.take_first-bit.ensures.first c.take_first-bit.ensures.rest c.requires.given

pub returns : goal.returns
returns g c =
    let passed = it_passes g c in
    record {
      in_bucket = passed.inside;
      published = passed.published;
      ahead = passed.ahead;
      before = passed.before;
      left = omega (arith, passed.left);
      flags = passed.flags;
      walk = passed.on;
      behind = passed.behind;
      first = passed.first;
      read = passed.read;
      same = refl;
      raw = refl;
    }
