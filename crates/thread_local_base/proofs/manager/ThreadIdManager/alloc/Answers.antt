use Rattle.std.proofs.Common.{◌≡◌, ◌-◌, ◌^◌, arith, ap, sym, ◌∙◌}
use Rattle.thread_local_base.specs.Held.{Manager, least, given_to}
use Rattle.thread_local_base.proofs.Returned.{takes_returned, none_returned, none_left}
use Rattle.thread_local_base.proofs.manager.ThreadIdManager.alloc.Goals as goal
use Rattle.thread_local_base.proofs.manager.ThreadIdManager.alloc.Goals.{then-id-ne-IDS, else-id-ne-IDS}

pub returns-then-id-lowest-clause-ok : goal.returns-then-id-lowest-clause-ok
returns-then-id-lowest-clause-ok c =
    rw (← c.self.view_is)
    (takes_returned c.self.inside.bits c.self.inside.returned c.self.invariant (omega (arith, c.lowest.ensures, c.if-id-lowest.true)))

pub returns-then-id-ge-IDS-clause-exhausted : goal.returns-then-id-ge-IDS-clause-exhausted
returns-then-id-ge-IDS-clause-exhausted c = λ _.
    let m = c.self.inside in
    let is = c.self.invariant in
    let seen : c.if-id-ne-IDS.self-inside.bits ≡ given_to m.bits m.returned =
    elim c.if-id-ne-IDS.branch [
      | then-id-ne-IDS w ↦ ap (λ n. n.bits) w.self-inside-is ∙ w.free.ensures.given
      | else-id-ne-IDS w ↦
          let none : m.returned ≡ 2 ^ 63 - 1 = w.if-id-ne-IDS.false in
          ap (λ n. n.bits) w.self-inside-is ∙ sym (rw none (none_returned m.bits _ is))
    ] in
    let top = ap (λ (s : Manager). least s.held) seen in
    rw (← c.self.view_is) (none_left m.bits m.returned is (omega (arith, top, c.lowest-id.ensures, c.if-id-ge-IDS.true)))
