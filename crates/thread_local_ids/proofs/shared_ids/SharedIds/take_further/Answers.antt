-- The page is as it was at the call until an id is taken or refused.
use Rattle.std.proofs.Common.{◌≡◌, ◌∙◌, ap, refl, subst, sym}
use Rattle.thread_local_ids.specs.FurtherIds.{FurtherIds}
use Rattle.thread_local_ids.specs.SharedIds.{SharedView}
use Rattle.thread_local_ids.specs.Taken.{IsTakenAfter, IsTake}
use Rattle.thread_local_ids.specs.declared.rights.page.Page.{Page}
use Rattle.thread_local_ids.proofs.shared_ids.SharedIds.take_further.Goals as goal

pub take-tried-requires : goal.take-tried-requires
take-tried-requires g c =
    let here : c.deref_mut.result.now.table ≡ c.self.inside.first.table =
    ap (λ (f : FurtherIds). f.table) c.deref_mut.ensures.value ∙ c.lock.ensures.tag.1 ∙ c.self.invariant in
    let table : c.args.self.now.table ≡ c.self.inside.first.table = sym (ap (λ (v : SharedView). v.table) c.self.view_is) in (
      sym here,
      ap (λ (p : Page). p.table) c.loop.invariant ∙ c.requires ∙ table ∙ sym here,
    )

pub returns-in-Some-tried-clause-take : goal.returns-in-Some-tried-clause-take
returns-in-Some-tried-clause-take g c =
    let left = c.take-tried.new.page in
    let since = subst (λ (p : Page). IsTake c.self.inside.first.table p left c.in-Some-tried.tried) c.loop.invariant
    c.in-Some-tried.ensures.take in
    subst (λ (v : SharedView). IsTake v.table c.args.page.now left c.in-Some-tried.tried) c.self.view_is since

pub returns-in-Some-tried-clause-table : goal.returns-in-Some-tried-clause-table
returns-in-Some-tried-clause-table g c = c.in-Some-tried.ensures.table.1 ∙ ap (λ (p : Page). p.table) c.loop.invariant

pub take-requires : goal.take-requires
take-requires g c =
    c.take-tried.ensures.table.1
    ∙ ap (λ (p : Page). p.table) c.loop.invariant
    ∙ c.requires
    ∙ sym (ap (λ (v : SharedView). v.table) c.self.view_is)

pub returns-in-Some-take-clause-take : goal.returns-in-Some-take-clause-take
returns-in-Some-take-clause-take g c =
    let taken = subst (λ (p : Page). IsTakenAfter c.self.inside.first.table p.moves c.take.new.page.moves c.in-Some-take.held)
    (c.in_default.ensures.take ∙ c.loop.invariant) c.in-Some-take.ensures.taken in
    subst (λ (v : SharedView). IsTakenAfter v.table c.args.page.now.moves c.take.new.page.moves c.in-Some-take.held) c.self.view_is taken

pub returns-in-Some-take-clause-table : goal.returns-in-Some-take-clause-table
returns-in-Some-take-clause-table g c =
    c.in-Some-take.ensures.table ∙ c.take-tried.ensures.table.1 ∙ ap (λ (p : Page). p.table) c.loop.invariant

pub loop-preserved : goal.loop-preserved
loop-preserved g c = c.in_default-take.ensures.none refl ∙ c.in_default.ensures.take ∙ c.loop.invariant
