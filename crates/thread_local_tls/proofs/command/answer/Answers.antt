use Rattle.std.proofs.Common.{◌≡◌, ℕ, List, Option, Some, Result, Ok, Err, OnOk, MatchOption, sym, ◌∙◌, subst}
use Rattle.thread_local_base.specs.declared.manager.LocalError.{LocalError}
use Rattle.thread_local_tls.specs.Words.{texts, tally_of}
use Rattle.thread_local_tls.specs.Faults.{Answers, AnswersIds, IsToldAndWritten}
use Rattle.thread_local_tls.specs.declared.fault.Fault.{Fault}
use Rattle.thread_local_tls.proofs.command.answer.Goals as goal

-- a line with the total answers the words of a tally
answers : (told : ℕ → ℕ → Result ℕ LocalError → Type 0) (words : List (List ℕ))
    (old new : Option (List ℕ)) (result : Result (Unit {0}) Fault) (tally : ℕ × ℕ)
    → tally_of words ≡ Some tally → OnOk result (IsToldAndWritten (told tally.0 tally.1) old new)
    → OnOk result (Answers told words old new)
answers told words old new (Ok x) tally spelled answered =
    subst (λ o. MatchOption o (AnswersIds words old new) (λ t. IsToldAndWritten (told t.0 t.1) old new)) (sym spelled) answered
answers told words old new (Err e) tally spelled answered = tt

pub returns-in-Some-clause-done : goal.returns-in-Some-clause-done
returns-in-Some-clause-done g c =
    answers _ (texts c.args.words.now) (g.O.Write.contents c.args.out.now) (g.O.Write.contents c.answer_tally.new.out) c.answer_tally.result
    (c.in-Some.workers, c.in-Some.numbers) (sym c.tally_of.ensures.value ∙ c.in-Some.is) c.answer_tally.ensures.done
