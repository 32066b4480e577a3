use Rattle.std.proofs.Common.{◌≡◌, Bool, true, false, IsTrue, if◌then◌else◌, Option, Some, None, List, [], ◌∷◌, ℕ, Ok}
use Rattle.std.proofs.Common.{Err, OnOk, IfErr, MatchOption, Result, refl, sym, ap, ◌∙◌, subst}
use Rattle.std.proofs.KnownBytes.{Keeps-refl}
use Rattle.std.proofs.lemmas.Result.{err_from_is_err_and}
use Rattle.std.specs.Io.KnownBytes.{Appends}
use Rattle.thread_local_tls.specs.Words.{texts, moves_of, moves_named, lines_of, MayNotRun, NamesMoves, IsRunnable}
use Rattle.thread_local_tls.specs.Moves.{ids_given, MayRun}
use Rattle.thread_local_tls.specs.Faults.{AnswersIds, fault_of}
use Rattle.thread_local_tls.specs.declared.moves.Move.{Move}
use Rattle.thread_local_tls.specs.declared.fault.Fault.{Fault}
use Rattle.thread_local_tls.specs.declared.fault.Fault.TheVariants.{Usage, Memory, Write}
use Rattle.thread_local_tls.specs.declared.moves.IdsError.{IdsError}
use Rattle.thread_local_tls.specs.declared.moves.IdsError.TheVariants.{Local, NotHeld}
use Rattle.thread_local_tls.proofs.MoveLaws.{may_not_run}
use Rattle.thread_local_tls.proofs.command.answer_ids.Given.{Over}
use Rattle.thread_local_tls.proofs.command.answer_ids.Goals as goal
use Rattle.thread_local_tls.proofs.command.answer_ids.Goals.{After-drop-moves-2}

-- only one error of the moves is a misuse
is_not_held : (error : IdsError) → fault_of error ≡ Usage → error ≡ NotHeld
is_not_held (Local error) e = cc
is_not_held NotHeld e = refl

-- no error of the moves is a write that failed
is_no_write : (error : IdsError) → fault_of error ≡ Write → ⊥
is_no_write (Local error) e = cc
is_no_write NotHeld e = cc

-- lines with the ids that the words' moves take answer the words
answers : (words : List (List ℕ)) (old new : Option (List ℕ)) (ids : List ℕ)
    (result : Result (Unit {0}) Fault) (runnable : IsRunnable words)
    → ids ≡ ids_given [] runnable.moves → OnOk result (Appends old new (lines_of ids)) → OnOk result (AnswersIds words old new)
answers words old new ids (Ok x) runnable given written = record {
  runnable = runnable;
  written = subst (λ l. Appends old new (lines_of l)) given written;
}
answers words old new ids (Err e) runnable given written = tt

-- printing fails only with a failed write
fault_is : (result : Result (Unit {0}) Fault) (fault : Fault) → IfErr result (λ f. f ≡ Write)
    → result ≡ Err fault
    → fault ≡ Write
fault_is (Ok x) fault h is = cc
fault_is (Err e) fault h is = cc

-- moves that can't be run are a misuse
misuse : (words : List (List ℕ)) (moves : List Move) → moves_named words ≡ Some moves
    → (MayRun [] moves → ⊥)
    → MayNotRun words
misuse words moves read stuck = subst (λ o. MatchOption o (Unit {0}) (λ ms. MayRun [] ms → ⊥)) (sym read) stuck

-- words that spell no command are a misuse
no_command : (words : List (List ℕ)) → moves_named words ≡ None → MayNotRun words
no_command words none = subst (λ o. MatchOption o (Unit {0}) (λ ms. MayRun [] ms → ⊥)) (sym none) tt

only_if : {X : Type 0} (test : Bool) (answer : Option X) (x : X) → (if test then answer else None) ≡ Some x → IsTrue test
only_if true answer x e = refl
only_if false answer x e = cc

-- words that spell moves name them
names_moves : (words : List (List ℕ)) (moves : List Move) → moves_named words ≡ Some moves → NamesMoves words
names_moves [] moves spelled = cc
names_moves (command ∷ words) moves spelled = only_if _ (moves_of words) moves spelled

same_error : {X : Type 0} {E : Type 0} {r : Result X E} {x y : E} → r ≡ Err x → r ≡ Err y → x ≡ y
same_error p q = cc

pub returns-in_err-moves-clause-misuse : goal.returns-in_err-moves-clause-misuse
returns-in_err-moves-clause-misuse g c = λ is.
    let p = err_from_is_err_and c.from_residual.result c.from_residual.ensures.1 in (
      no_command (texts c.args.words.now)
          (c.moves_named.ensures.usage (c.in_err-moves.was ∙ ap Err (sym p.2 ∙ same_error p.1 is))),
      Keeps-refl (g.O.Write.contents c.args.out.now),
    )

pub returns-in_err-moves-clause-memory : goal.returns-in_err-moves-clause-memory
returns-in_err-moves-clause-memory g c = λ _. Keeps-refl (g.O.Write.contents c.args.out.now)

pub returns-in_err-moves-clause-refused : goal.returns-in_err-moves-clause-refused
returns-in_err-moves-clause-refused g c = λ is.
    let p = err_from_is_err_and c.from_residual.result c.from_residual.ensures.1 in
    c.moves_named.ensures.memory (c.in_err-moves.was ∙ ap Err (sym p.2 ∙ same_error p.1 is))

pub returns-in_err-moves-clause-write : goal.returns-in_err-moves-clause-write
returns-in_err-moves-clause-write g c = λ is.
    let p = err_from_is_err_and c.from_residual.result c.from_residual.ensures.1 in
    absurd (c.moves_named.ensures.no_write (c.in_err-moves.was ∙ ap Err (sym p.2 ∙ same_error p.1 is)))

pub returns-in_err-ids-clause-misuse : goal.returns-in_err-ids-clause-misuse
returns-in_err-ids-clause-misuse g c = λ is.
    let p = err_from_is_err_and c.from_residual-in_err-ids.result c.from_residual-in_err-ids.ensures.1 in
    let not_held = is_not_held c.in_err-ids.field-0.0 (sym p.2 ∙ same_error p.1 is) in
    let stuck = c.in_err-ids.ensures.not_held (ap Err not_held) in (
      misuse (texts c.args.words.now) c.deref.result.now
          (c.in_ok-moves.ensures.ok ∙ ap Some (sym c.deref.ensures.value))
          (may_not_run c.deref.result.now stuck),
      Keeps-refl (g.O.Write.contents c.args.out.now),
    )

pub returns-in_err-ids-clause-memory : goal.returns-in_err-ids-clause-memory
returns-in_err-ids-clause-memory g c = λ _. Keeps-refl (g.O.Write.contents c.args.out.now)

pub returns-in_err-ids-clause-refused : goal.returns-in_err-ids-clause-refused
returns-in_err-ids-clause-refused g c = λ _. names_moves (texts c.args.words.now) _ c.in_ok-moves.ensures.ok

pub returns-in_err-ids-clause-write : goal.returns-in_err-ids-clause-write
returns-in_err-ids-clause-write g c = λ is.
    let p = err_from_is_err_and c.from_residual-in_err-ids.result c.from_residual-in_err-ids.ensures.1 in
    absurd (is_no_write c.in_err-ids.field-0.0 (sym p.2 ∙ same_error p.1 is))

-- the moves that ran are those that the words spell
abbrev runnable : (g : Over) (c : After-drop-moves-2 g) → IsRunnable (texts c.args.words.now)
runnable g c = record {
  moves = c.deref.result.now;
  spelled = c.in_ok-moves.ensures.ok ∙ ap Some (sym c.deref.ensures.value);
  may_run = c.in_ok-ids.ensures.ok.1;
}

pub returns-clause-done : goal.returns-clause-done
returns-clause-done g c =
    answers (texts c.args.words.now) (g.O.Write.contents c.args.out.now)
    (g.O.Write.contents c.print.new.out) c.deref-2.result.now c.print.result (runnable g c)
    (c.deref-2.ensures.value ∙ c.in_ok-ids.ensures.ok.0) c.print.ensures.written

pub returns-clause-misuse : goal.returns-clause-misuse
returns-clause-misuse g c = λ is. let told = fault_is c.print.result Usage c.print.ensures.fault is in cc

pub returns-clause-memory : goal.returns-clause-memory
returns-clause-memory g c = λ is. let told = fault_is c.print.result Memory c.print.ensures.fault is in cc

pub returns-clause-refused : goal.returns-clause-refused
returns-clause-refused g c = λ is. let told = fault_is c.print.result Memory c.print.ensures.fault is in cc

pub returns-clause-write : goal.returns-clause-write
returns-clause-write g c = λ _. runnable g c
