use Rattle.std.proofs.Common.{◌∙◌, ◌/◌, ◌%◌, ap, ℕ, arith}
use Rattle.std.proofs.lemmas.List.{get_or_read}
use Rattle.thread_local_base.specs.Bits.{is_set}
use Rattle.thread_local_base.proofs.Word.{is_set-test}
use Rattle.thread_local_base.proofs.Words.{seen_bit}
use Rattle.thread_local_base.proofs.manager.IdBits.is_held.Goals as goal

pub returns-then-id-len : goal.returns-then-id-len
returns-then-id-len c =
    let m = c.self.inside in let id = c.args.id in
    rw (← c.self.view_is)
    (is_set-test c.index.result.now (id % 64)
    ∙ ap (λ (word : ℕ). is_set word (id % 64)) (get_or_read m.words.items (id / 64) c.index.result.now
    (omega (arith, c.if-id-len.true, c.len.ensures, m.words.ok.0)) c.index.ensures 0)
    ∙ seen_bit m.words.items m.peak m.lowest c.self.invariant id)
