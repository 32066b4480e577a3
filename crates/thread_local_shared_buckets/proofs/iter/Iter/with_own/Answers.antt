-- The walk's own value is at the token's id, since the id at an id's place is that id.
use Rattle.std.proofs.Common.{◌≡◌, ℕ, true, Some, ap, sym, ◌∙◌, lit<}
use Rattle.thread_local_base.specs.Place.{id_at, bucket_of, index_of}
use Rattle.thread_local_base.proofs.PlaceLaws.{id_at-place}
use Rattle.thread_local_ids.specs.TokenViews.{TokenView}
use Rattle.thread_local_shared_buckets.specs.Walks.{WalkView, fresh_with}
use Rattle.thread_local_shared_buckets.proofs.iter.Iter.with_own.Goals as goal

at_place : (id bucket index : ℕ) → bucket ≡ bucket_of id → index ≡ index_of id → id_at bucket index ≡ id
at_place id bucket index in_bucket at_index =
    ap (λ b. id_at b index) in_bucket ∙ ap (λ i. id_at (bucket_of id) i) at_index ∙ id_at-place id

pub begun-requires : goal.begun-requires
begun-requires g c =
    let place = c.new.result in
    let same : id_at place.bucket place.index ≡ c.args.token.now.id =
    at_place c.id.result place.bucket place.index c.new.ensures.bucket c.new.ensures.index ∙ c.id.ensures.id in (
      lit< tt,
      record {
        sharing = ap (λ (p : TokenView _). p.sharing) c.again.ensures ∙ c.requires.sharing;
        id = ap (λ (p : TokenView _). p.id) c.again.ensures ∙ sym same;
        value = ap (λ (p : TokenView _). p.value) c.again.ensures ∙ c.requires.value;
      },
    )

pub returns : goal.returns
returns g c =
    let place = c.new.result in
    let same : id_at place.bucket place.index ≡ c.args.token.now.id =
    at_place c.id.result place.bucket place.index c.new.ensures.bucket c.new.ensures.index ∙ c.id.ensures.id in
    let begun : ℕ → WalkView _ = λ n.
    fresh_with c.args.buckets.now.sharing (Some (record { id = n; value = c.args.value.now })) true c.args.told in
    c.begun.ensures ∙ ap begun same
