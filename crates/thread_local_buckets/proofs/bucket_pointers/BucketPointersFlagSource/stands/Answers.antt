use Rattle.std.proofs.Common.{◌∙◌, ap, sym, subst, List, Option, length}
use Rattle.std.specs.Prelude.{nat_lt}
use borrow.Author.Tests.{ltb-true}
use Rattle.thread_local_base.specs.Buckets.{Contents, IsTable, row}
use Rattle.thread_local_base.proofs.RowLaws.{row_whole}
use Rattle.thread_local_base.proofs.StandingLaws.{row-absent}
use Rattle.thread_local_buckets.proofs.Announcing.{IsAnnounced}
use Rattle.thread_local_buckets.proofs.ContentsOf.{row_seen, contents_stay}
use Rattle.thread_local_buckets.proofs.bucket_pointers.BucketPointersFlagSource.stands.Goals as goal

-- The search for these takes seconds.
pub invariant_of-self : goal.invariant_of-self
invariant_of-self g c =
    subst (λ (z : Contents g.row.T.Denot). IsAnnounced c.self.inside.announced.bits c.self.inside.made.bits z)
    (sym (contents_stay c.self.inside.pointers c.args.bucket c.stands.new.self
    (c.stands.ensures.same ∙ c.pointer_mut.ensures.value)))
    c.self.invariant

pub returns : goal.returns
returns g c =
    let table = subst (λ (z : Contents g.row.T.Denot). IsTable z) c.self.view_is c.self.invariant.0 in
    let value = c.stands.ensures.value
    ∙ ap (λ (cs : List (Option _)). nat_lt 0 (length cs))
    (sym (row_seen c.self.inside.pointers c.args.self.now c.args.bucket c.pointer_mut.result.now c.self.view_is
    c.pointer_mut.ensures.value)) in
    record {
      same = contents_stay c.self.inside.pointers c.args.bucket c.stands.new.self (c.stands.ensures.same ∙ c.pointer_mut.ensures.value)
          ∙ c.self.view_is;
      value = value;
      whole = λ yes. row_whole c.args.self.now c.args.bucket 0 table (ltb-true 0 (length (row c.args.self.now c.args.bucket)) (sym value ∙ yes));
      absent = λ no. row-absent c.args.self.now c.args.bucket (sym value ∙ no);
      table = table;
    }
