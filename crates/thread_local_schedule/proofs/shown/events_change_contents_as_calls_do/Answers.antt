use Rattle.thread_local_schedule.proofs.ShownLaws as laws
use Rattle.thread_local_schedule.proofs.shown.events_change_contents_as_calls_do.Goals as goal

pub returns : goal.returns
returns g c = record {
  installed = laws.shown-with_fresh_bucket;
  filled = laws.shown-with_filled_bucket;
  published = laws.shown-with_flag;
  rewritten = laws.values-shown-rewritten;
  rewritten_stands = laws.bucket_stands-shown-rewritten;
  rewritten_refills = laws.rewritten-refills;
  refilled_rewrites = laws.refilled-rewrites;
  drained = laws.shown-drained;
  cleared = laws.shown-cleared;
  cleared_rows = laws.shown-cleared_row;
  new = laws.shown-new _;
  made_stands = laws.bucket_stands-shown-made _;
  made_empty = laws.values-shown-made _;
}
