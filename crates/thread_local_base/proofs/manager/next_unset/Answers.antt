use Rattle.std.proofs.Common.{◌*◌, arith, refl, ⊎_elim}
use Rattle.std.proofs.lemmas.Bool.{cases_lt}
use Rattle.thread_local_base.proofs.WordBits.{is_set_in-all_ones, next_unset, next_unset_from}
use Rattle.thread_local_base.proofs.manager.next_unset.Goals as goal

pub loop-at-preserved : goal.loop-at-preserved
loop-at-preserved c = λ i from below.
    ⊎_elim
    (λ before. c.loop-at.invariant i from before)
    (λ here. is_set_in-all_ones c.args.words.now c.loop-at.at i c.if-word.false here below)
    (cases_lt i (c.loop-at.at * 64))

pub returns-then-word : goal.returns-then-word
returns-then-word c =
    let words = c.args.words.now in
    let after = c.loop-at.auto.at in
    let next = next_unset words c.loop-at.at _ refl (omega (arith, c.type_inv.words c.loop-at.at)) c.if-word.true in
    rw c.trailing_ones.ensures (next_unset_from words (c.args.from * 64) (c.loop-at.at * 64) _ (omega arith) c.loop-at.invariant next)
