use Rattle.std.proofs.lemmas.List.{length-set}
use Rattle.thread_local_base.proofs.Words.{bit_turned, has_word, freed, gives_it}
use Rattle.thread_local_base.proofs.manager.IdBits.free.Goals as goal

pub invariant_of-self : goal.invariant_of-self
invariant_of-self c =
    let words = c.self.inside.words.items in
    let here = rw (← c.self.view_is) at c.requires in
    rw c.min-self-inside.ensures
    (freed words _ _ c.self.invariant c.args.id here _
    (bit_turned words c.args.id _ (has_word words _ _ c.self.invariant c.args.id here) c.index_mut.ensures.value)
    (length-set words _ _))

pub returns : goal.returns
returns c =
    let words = c.self.inside.words.items in
    let here = rw (← c.self.view_is) at c.requires in
    rw (← c.self.view_is)
    (gives_it words _ _ c.self.invariant c.args.id here _
    (bit_turned words c.args.id _ (has_word words _ _ c.self.invariant c.args.id here) c.index_mut.ensures.value)
    (length-set words _ _))
