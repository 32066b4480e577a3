use Rattle.thread_local_schedule.proofs.ShownLaws as laws
use Rattle.thread_local_schedule.proofs.shown.a_table_shows_its_contents.Goals as goal

pub returns : goal.returns
returns g c = record {
  table = laws.IsTable-shown;
  stands = laws.bucket_stands-shown;
  values = laws.values-shown;
  walk = laws.owner_walk-shown;
}
