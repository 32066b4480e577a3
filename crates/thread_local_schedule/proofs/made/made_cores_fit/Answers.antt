use Rattle.std.proofs.Common.{[], ap, refl}
use Rattle.thread_local_schedule.proofs.InvariantParts.{made_core-fits}
use Rattle.thread_local_schedule.proofs.CoreLaws.{none_made}
use Rattle.thread_local_schedule.proofs.TableLaws.{announced-made_table}
use Rattle.thread_local_schedule.proofs.made.made_cores_fit.Goals as goal

pub returns : goal.returns
returns g c = record {
  fits = made_core-fits;
  sheet = λ capacity extra.
      ap (λ values. record { held = []; values = values; capacity = capacity }) (none_made _ capacity);
  announced = λ capacity extra bucket. announced-made_table _ capacity bucket;
  «open» = λ capacity extra. refl;
  unused = λ capacity extra n. (refl, refl, refl, refl);
}
