-- The search for these takes a second.
use Rattle.std.proofs.Common.{◌∙◌, ◌<◌, ℕ, List, Option, None, is_some, sym, ap, subst}
use Rattle.std.specs.Prelude.{slice_index_or}
use Rattle.std.proofs.lemmas.Bool.{false≢true}
use Rattle.thread_local_base.specs.Buckets.{Contents, row}
use Rattle.thread_local_base.specs.Rows.{value_in}
use Rattle.thread_local_buckets.proofs.ChunkFlags.{flag_read}
use Rattle.thread_local_buckets.proofs.bucket_pointers.BucketPointers.is_published.Goals as goal

pub returns-then-stands : goal.returns-then-stands
returns-then-stands g c = record {
  same = c.flags.ensures.same ∙ c.stands.ensures.same;
  value = sym (flag_read (row c.stands.new.self c.args.thread.bucket) c.args.thread.index c.flags.result c.flags.ensures.value)
      ∙ ap (λ (w : Contents g.row.T.Denot). is_some (value_in w c.args.thread.bucket c.args.thread.index)) c.stands.ensures.same;
  within = λ published. subst (λ (n : ℕ). c.args.thread.index < n) (sym (c.stands.ensures.whole c.if-stands.true)) c.args.thread.in_bucket;
  stands = λ published. sym c.stands.ensures.value ∙ c.if-stands.true;
}

pub returns-else-stands : goal.returns-else-stands
returns-else-stands g c = record {
  same = c.stands.ensures.same;
  value = c.if-stands.false
      ∙ sym (ap (λ (cs : List (Option g.row.T.Denot)). is_some (slice_index_or cs c.args.thread.index None)) (c.stands.ensures.absent c.if-stands.false));
  within = λ stands. absurd (false≢true (sym c.if-stands.false ∙ stands));
  stands = λ stands. absurd (false≢true (sym c.if-stands.false ∙ stands));
}
