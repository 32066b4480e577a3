-- The search for these takes a second.
use Rattle.std.proofs.Common.{Ok, refl}
use Rattle.thread_local.specs.contracts.seat.Seat.get_or_try_lasting.F-FnOnce.{words}
use Rattle.thread_local.proofs.Filled.{fills_by, some_lasting}
use Rattle.thread_local.proofs.Told.{ok_not_err}
use Rattle.thread_local.proofs.seat.Seat.get_or_try_lasting.Goals as goal

pub returns : goal.returns
returns g c =
    let F = words g.row.T g.row.F g.row.E g.F.FnOnce in
    let left = c.try_fill.new.self in
    record {
      ok =
          fills_by g.row.E.Denot (λ value. F.post c.args.create (Ok value)) c.args.self.now left c.unwrap.result.1.now
          c.in_ok-try_fill.ensures.ok
          (some_lasting c.self.inside.table.now c.self.inside.claim left c.lasting.result c.unwrap.result
          c.self.view_is c.lasting.ensures c.unwrap.ensures);
      create = λ error told. absurd (ok_not_err told);
      memory = λ told. absurd (ok_not_err told);
      granted = λ known told. ok_not_err told;
      has_value = λ some. refl;
      failed = tt;
      empty = tt;
    }
