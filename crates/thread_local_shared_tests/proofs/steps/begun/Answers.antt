-- new buckets have no value
use Rattle.std.proofs.Common.{◌≡◌, ◌∙◌, ℕ, None, lit<, ap}
use Rattle.thread_local_base.specs.Buckets.{Contents, values}
use Rattle.thread_local_base.proofs.ValueLaws.{values-no_contents}
use Rattle.thread_local_shared_tests.proofs.Sharings.{first_is_first, first_is_of}
use Rattle.thread_local_shared_tests.proofs.steps.begun.Goals as goal

-- src/steps.rt
pub first-shared-requires : goal.first-shared-requires
first-shared-requires g c =
    let parts = c.into_parts-pointers.ensures in
    let blank : (id : ℕ) → values c.into_parts-pointers.result.0 id ≡ None =
    λ id. ap (λ (w : Contents g.row.T.Denot). values w id) (parts.pointers ∙ c.new.ensures.contents) ∙ values-no_contents g.row.T.Denot id in
    (lit< tt, (lit< tt, (c.requires.judged, (rw (parts.pointers, parts.reserved) parts.owned, blank))))

pub returns-clause-table : goal.returns-clause-table
returns-clause-table g c = c.first-shared.ensures.table ∙ c.with_slots-table.ensures

pub returns-clause-sharing : goal.returns-clause-sharing
returns-clause-sharing g c = c.first-shared.ensures.sharing

pub returns-clause-first : goal.returns-clause-first
returns-clause-first g c = first_is_first _ _ c.first-shared.ensures.sharing

pub returns-clause-belongs : goal.returns-clause-belongs
returns-clause-belongs g c = first_is_of _ _ c.first-shared.ensures.sharing
