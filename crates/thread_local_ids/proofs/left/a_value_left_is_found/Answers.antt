use Rattle.std.proofs.Common.{◌≡◌, ◌∙◌, Option, None, Some, refl, ap}
use base.Stored.{Gv}
use denote.RattleType.{RattleType}
use Rattle.thread_local_base.proofs.IdMoveLaws.{published_for_good}
use Rattle.thread_local_ids.specs.Sharings.{left_of}
use Rattle.thread_local_ids.proofs.left.a_value_left_is_found.Goals as goal

same_code : (one other : Gv) → ◌≡◌ {A = Option Gv} (Some one) (Some other) → one ≡ other
same_code one other e = cc

same_left : (R : RattleType) (one other : Option R.Denot) → left_of R one ≡ left_of R other → one ≡ other
same_left R None None e = refl
same_left R None (Some y) e = cc
same_left R (Some x) None e = cc
same_left R (Some x) (Some y) e = ap (λ (v : R.Denot). Some v) (R.coded.inj x y (same_code (R.coded.code x) (R.coded.code y) e))

pub returns-clause-same : goal.returns-clause-same
returns-clause-same g c = same_left g.row.T

pub returns-clause-nothing : goal.returns-clause-nothing
returns-clause-nothing g c = λ found. same_left g.row.T found None

pub returns-clause-found : goal.returns-clause-found
returns-clause-found g c = λ before later id left found value says early holds is.
    same_left g.row.T found (Some value)
    (holds ∙ published_for_good before later id (g.row.T.coded.code value) early (says ∙ ap (λ v. left_of g.row.T v) is))
