-- The search for this takes a second.
use Rattle.std.proofs.Common.{◌≡◌, ◌∙◌, ap, get_or}
use Rattle.thread_local_shared_buckets.specs.Shared.{BucketView}
use Rattle.thread_local_shared_buckets.specs.TableView.{bucket_view}
use Rattle.thread_local_shared_buckets.proofs.Lists.{listed_bucket}
use Rattle.thread_local_shared_buckets.proofs.shared.Shared.bucket.Goals as goal

pub returns : goal.returns
returns g c =
    let ds = c.result.inside.pointers.pointers.pointers in
    let word = c.result.inside.pointers.announced in
    let b = c.args.bucket in
    let here : get_or ds b c.index-parts-bucket.result ≡ bucket_view c.args.self.now word b =
    listed_bucket ds word c.result.inside.reserved b c.index-parts-bucket.result c.args.self.now c.result.told c.requires
    c.result.invariant.0 (c.result.view_is ∙ c.parts.ensures) in record {
      table = ap (λ (d : BucketView). d.table) here;
      sharing = ap (λ (d : BucketView). d.sharing) here;
      number = ap (λ (d : BucketView). d.bucket) here;
      reserved = ap (λ (d : BucketView). d.reserved) here;
      grown = ap (λ (d : BucketView). d.grown_by_ids) here;
    }
