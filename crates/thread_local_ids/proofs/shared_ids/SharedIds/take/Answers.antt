use Rattle.std.proofs.Common.{◌∙◌, refl, subst}
use Rattle.std.specs.Prelude.{Ok}
use Rattle.thread_local_ids.specs.SharedIds.{SharedView}
use Rattle.thread_local_ids.specs.Taken.{IsTakenAfter, IsTake}
use Rattle.thread_local_ids.specs.declared.rights.page.Page.{Page}
use Rattle.thread_local_ids.proofs.FurtherLaws.{take_tells}
use Rattle.thread_local_ids.proofs.shared_ids.SharedIds.take.Goals as goal

pub returns-in-Some : goal.returns-in-Some
returns-in-Some g c =
    let tells = take_tells c.args.self.now.table c.args.page.now c.take.new.page (Ok c.in-Some.held)
    (subst (λ (v : SharedView). IsTakenAfter v.table c.args.page.now.moves c.take.new.page.moves c.in-Some.held)
    c.self.view_is c.in-Some.ensures.taken) in
    record { taken = tells.0; early = tells.1; table = c.in-Some.ensures.table; memory = tells.2; exhausted = tells.3 }

pub take_further-requires : goal.take_further-requires
take_further-requires g c = c.take.ensures.table ∙ c.requires

pub returns : goal.returns
returns g c =
    let tells = take_tells c.args.self.now.table c.args.page.now c.take_further.new.page c.take_further.result
    (subst (λ (p : Page). IsTake c.args.self.now.table p c.take_further.new.page c.take_further.result)
    (c.in_default.ensures.none refl) c.take_further.ensures.take) in
    record {
      taken = tells.0;
      early = tells.1;
      table = c.take_further.ensures.table ∙ c.take.ensures.table;
      memory = tells.2;
      exhausted = tells.3;
    }
