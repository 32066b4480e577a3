use Rattle.std.proofs.Common.{◌≡◌, Result, Ok, Err, sym, ap, ◌∙◌, append-nil, rules}
use Rattle.std.specs.Result.{IsErrAnd}
use Rattle.thread_local_base.specs.declared.manager.LocalError.{LocalError}
use Rattle.thread_local_tls.specs.declared.moves.IdsError.{IdsError}
use Rattle.thread_local_tls.specs.declared.moves.IdsError.TheVariants.{Local}
use Rattle.thread_local_tls.proofs.MoveLaws.{IsRunTo-more, stops_at_give, stops_at_take}
use Rattle.thread_local_tls.proofs.moves.ids.Goals as goal
use Rattle.thread_local_tls.proofs.moves.ids.Goals.{in-Take+in_ok-id-in-Take+else-is_err, in-Give+else-not-is_held}

pub loop-step-preserved : goal.loop-step-preserved
loop-step-preserved c =
    elim c.match-step.branch [
      | in-Take+in_ok-id-in-Take+else-is_err w ↦
          IsRunTo-more c.args.moves.now c.loop-step.step-index _ _ c.loop-step.manager.held _
          c.loop-step.ids.items _ c.loop-step-test.true w.in-Take.is c.loop-step.invariant tt
          (ap (λ m. m.held) w.manager-is ∙ w.in_ok-id-in-Take.ensures.ok.held)
          (ap (λ v. v.items) w.ids-is ∙ search rules)
      | in-Give+else-not-is_held w ↦
          IsRunTo-more c.args.moves.now c.loop-step.step-index _ _ c.loop-step.manager.held _
          c.loop-step.ids.items _ c.loop-step-test.true w.in-Give.is c.loop-step.invariant
          w.free.ensures.was_held (ap (λ m. m.held) w.manager-is ∙ w.free.ensures.held)
          (ap (λ v. v.items) w.ids-is ∙ sym (append-nil c.loop-step.ids.items))
    ]

-- a `?` answers the error of the call before it
handed_on : {X : Type 0} (result : Result X IdsError) (error : LocalError) (told : IdsError)
    → IsErrAnd result (λ e. e ≡ Local error) → result ≡ Err told
    → told ≡ Local error
handed_on (Ok x) error told h is = absurd h
handed_on (Err e) error told h is = cc

pub returns-in_err-id-in-Take-clause-not_held : goal.returns-in_err-id-in-Take-clause-not_held
returns-in_err-id-in-Take-clause-not_held c = λ is.
    let told =
    handed_on c.from_residual.result c.in_err-id-in-Take.field-0.0 _
    c.from_residual.ensures.1 is in
    cc

pub returns-in_err-id-in-Take-clause-exhausted : goal.returns-in_err-id-in-Take-clause-exhausted
returns-in_err-id-in-Take-clause-exhausted c = λ is.
    let told = handed_on c.from_residual.result c.in_err-id-in-Take.field-0.0 _ c.from_residual.ensures.1 is in
    let exhausted = c.in_err-id-in-Take.ensures.exhausted cc in
    stops_at_take c.args.moves.now c.loop-step.step-index _ c.loop-step.manager.held
    c.loop-step.ids.items c.loop-step-test.true c.in-Take.is c.loop-step.invariant exhausted.full

pub returns-then-is_err-clause-not_held : goal.returns-then-is_err-clause-not_held
returns-then-is_err-clause-not_held c = λ is. cc

pub returns-then-is_err-clause-exhausted : goal.returns-then-is_err-clause-exhausted
returns-then-is_err-clause-exhausted c = λ is. cc

pub returns-then-not-is_held-clause-not_held : goal.returns-then-not-is_held-clause-not_held
returns-then-not-is_held-clause-not_held c = λ _.
    stops_at_give c.args.moves.now c.loop-step.step-index c.in-Give.id _ c.loop-step.manager.held
    c.loop-step.ids.items c.loop-step-test.true c.in-Give.is c.loop-step.invariant
    (sym c.is_held.ensures.held ∙ c.if-not-is_held.true)

pub returns-then-not-is_held-clause-exhausted : goal.returns-then-not-is_held-clause-exhausted
returns-then-not-is_held-clause-exhausted c = λ is. cc

pub returns-clause-not_held : goal.returns-clause-not_held
returns-clause-not_held c = λ is. cc

pub returns-clause-exhausted : goal.returns-clause-exhausted
returns-clause-exhausted c = λ is. cc
