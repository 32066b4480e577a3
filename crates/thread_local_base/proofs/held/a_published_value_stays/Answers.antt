use Rattle.std.proofs.Common.{◌≡◌, ◌∙◌, ◌==◌, Bool, true, false, [], ◌∷◌, if◌then◌else◌, Option, None, Some, refl, ap, rules}
use base.Stored.{Gv}
use Rattle.thread_local_base.specs.IdMoves.{Take, Give, Publish, published_in, or_else}
use Rattle.thread_local_base.proofs.IdMoveLaws.{published_apart, published_for_good, published_stays}
use Rattle.thread_local_base.proofs.held.a_published_value_stays.Goals as goal

pub returns-clause-take : goal.returns-clause-take
returns-clause-take c = λ moves id. published_apart moves (Take ∷ []) id ∙ published_stays (published_in moves id)

pub returns-clause-give : goal.returns-clause-give
returns-clause-give c = λ moves given id. published_apart moves (Give given ∷ []) id ∙ published_stays (published_in moves id)

chosen : (t : Bool) (value : Gv) → t ≡ true → ◌≡◌ {A = Option Gv} (if t then Some value else None) (Some value)
chosen true value e = refl
chosen false value e = cc

pub returns-clause-publish : goal.returns-clause-publish
returns-clause-publish c = λ moves id value nothing.
    published_apart moves (Publish id value ∷ []) id
    ∙ ap (λ (v : Option Gv). or_else v (published_in (Publish id value ∷ []) id)) nothing
    ∙ chosen (id == id) value (search rules)

passed : (t : Bool) (value : Gv) → t ≡ false → ◌≡◌ {A = Option Gv} (if t then Some value else None) None
passed true value e = cc
passed false value e = refl

pub returns-clause-other : goal.returns-clause-other
returns-clause-other c = λ moves other id value differ.
    published_apart moves (Publish other value ∷ []) id
    ∙ ap (λ (v : Option Gv). or_else (published_in moves id) v) (passed (other == id) value (search (rules, differ)))
    ∙ published_stays (published_in moves id)

pub returns-clause-stays : goal.returns-clause-stays
returns-clause-stays c = λ before later id value early says. published_for_good before later id value early says
