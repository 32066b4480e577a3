use Rattle.std.proofs.Common.{◌≡◌, Bool, codes, bytes_eq, List, ◌∷◌, ℕ, ap, sym, ◌∙◌}
use Rattle.thread_local_tls.specs.Words.{texts, number_of, moves_of}
use Rattle.thread_local_tls.proofs.WordLaws.{moves_of-take, moves_of-give_number, moves_of-give_other, moves_of-alone}
use Rattle.thread_local_tls.proofs.WordLaws.{moves_of-other, nothing_left}
use Rattle.thread_local_tls.proofs.words.first_move.Goals as goal

-- a test of a word, as its text was read
tested : (read : List ℕ) {word text : List ℕ} {test result : Bool} → text ≡ word
    → test ≡ bytes_eq text read → test ≡ result
    → bytes_eq word read ≡ result
tested read value said was = ap (λ w. bytes_eq w read) (sym value) ∙ sym said ∙ was

pub returns-then-eq-clause-some : goal.returns-then-eq-clause-some
returns-then-eq-clause-some c =
    ap (λ ws. moves_of (texts ws)) c.in_ok-word.ensures.cases.0
    ∙ moves_of-take _ _ (tested (codes "take") c.as_str.ensures.value c.eq.ensures c.if-eq.true)

pub returns-in_err-id-clause-none : goal.returns-in_err-id-clause-none
returns-in_err-id-clause-none c = λ _ _.
    ap (λ ws. moves_of (texts ws))
    (c.in_ok-word.ensures.cases.0
    ∙ ap (λ ws. c.in_ok-word.word.now ∷ ws)
    (nothing_left c.in_ok-word.after.now c.in_err-id.ensures.cases))
    ∙ moves_of-alone _ (tested (codes "take") c.as_str.ensures.value c.eq.ensures c.if-eq.false)

pub returns-in_err-id-2-clause-none : goal.returns-in_err-id-2-clause-none
returns-in_err-id-2-clause-none c = λ _ _.
    ap (λ ws. moves_of (texts ws)) (c.in_ok-word.ensures.cases.0 ∙ ap (λ ws. c.in_ok-word.word.now ∷ ws) c.in_ok-id.ensures.cases.0)
    ∙ moves_of-give_other _ _ _
    (tested (codes "take") c.as_str.ensures.value c.eq.ensures c.if-eq.false)
    (tested (codes "give") c.as_str-2.ensures.value c.eq-2.ensures c.if-eq-2.true)
    (ap number_of (sym c.as_str-then-eq-2.ensures.value) ∙ sym c.in_err-id-2.ensures)

pub returns-then-eq-2-clause-some : goal.returns-then-eq-2-clause-some
returns-then-eq-2-clause-some c =
    ap (λ ws. moves_of (texts ws)) (c.in_ok-word.ensures.cases.0 ∙ ap (λ ws. c.in_ok-word.word.now ∷ ws) c.in_ok-id.ensures.cases.0)
    ∙ moves_of-give_number _ _ _ c.in_ok-id-2.id
    (tested (codes "take") c.as_str.ensures.value c.eq.ensures c.if-eq.false)
    (tested (codes "give") c.as_str-2.ensures.value c.eq-2.ensures c.if-eq-2.true)
    (ap number_of (sym c.as_str-then-eq-2.ensures.value) ∙ sym c.in_ok-id-2.ensures)

pub returns-clause-none : goal.returns-clause-none
returns-clause-none c = λ _ _.
    ap (λ ws. moves_of (texts ws)) c.in_ok-word.ensures.cases.0
    ∙ moves_of-other _ _ (tested (codes "take") c.as_str.ensures.value c.eq.ensures c.if-eq.false)
    (tested (codes "give") c.as_str-2.ensures.value c.eq-2.ensures c.if-eq-2.false)
