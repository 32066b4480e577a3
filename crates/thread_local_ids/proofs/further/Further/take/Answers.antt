use Rattle.std.proofs.Common.{◌≡◌, ◌≢◌, ◌∙◌, ℕ, ◌-◌, ◌^◌, ◌≤◌, max, Bool, true, false, if◌then◌else◌}
use Rattle.std.proofs.Common.{ap, refl, sym, subst, arith, length, List, ⊎_elim}
use Rattle.std.proofs.lemmas.Bool.{eq-eqb, ne_eqb, cases_eq}
use Rattle.std.specs.Prelude.{Err}
use mathlib.Core.List.{IsPrefix}
use Rattle.thread_local_base.specs.Held.{Manager, is_held, HoldsAllBelow, Gives}
use Rattle.thread_local_base.specs.IdMoves.{IdMove, Take, held_after, noted}
use Rattle.thread_local_ids.specs.FirstIds.{IsSameBeyond}
use Rattle.thread_local_ids.specs.Filled.{IsFilled, TakesFurther}
use Rattle.thread_local_ids.specs.FurtherIds.{IsFurther}
use Rattle.thread_local_ids.specs.declared.further.Further.TheInside.{Inside}
use Rattle.thread_local_ids.specs.declared.first.Log.{Log}
use Rattle.thread_local_ids.specs.Rights.{seen_by}
use Rattle.thread_local_ids.specs.Taken.{IsTakenAfter}
use Rattle.thread_local_ids.proofs.FirstLaws.{full_holds}
use Rattle.thread_local_ids.proofs.FurtherLaws.{is_least, has_further, same_after, peak_after, all_held, if_took}
use Rattle.thread_local_ids.proofs.further.Further.take.Goals as goal

-- the moves of a log that a look took no id for
if_not_took : (t : Bool) (a b c : List IdMove) → a ≡ (if t then b else c) → t ≡ false → a ≡ c
if_not_took true a b c e is = cc
if_not_took false a b c e is = e

-- once it is given back, the further ids are held as before
given_back : (old mid new : Manager) (id : ℕ) → IsFilled mid.held → TakesFurther old mid id → Gives mid new id
    → IsFilled new.held × IsSameBeyond old.held new.held
given_back old mid new id filled taken gives = (
  λ j below.
      gives.at j
      ∙ rw (ne_eqb id j (λ e. absurd (omega (arith, e, below, taken.further)))) (filled j (omega (arith, below, gives.peak))),
  λ j far. ⊎_elim
      (λ (same : id ≡ j). ap (is_held old.held) (sym same) ∙ taken.free ∙ sym (gives.at j ∙ rw (eq-eqb id j same) refl))
      (λ (apart : id ≢ j). sym (gives.at j ∙ rw (ne_eqb id j apart) (taken.at j far ∙ rw (ne_eqb id j apart) refl)))
      (cases_eq id j),
)

-- where the log has no further move, and the manager holds the same further ids, the invariant stays
still : (i : Inside) (manager : Manager) (log : Log) → IsFurther i → IsFilled manager.held → IsSameBeyond i.manager.held manager.held
    → i.manager.room ≤ manager.room → (log.table ≡ i.log.table) × (log.moves ≡ i.log.moves)
    → IsFurther (record { manager = manager; log = log; start = i.start; reached = i.reached })
still i manager log kept filled same room is = record {
  filled = filled;
  beyond = λ id far. ap (λ (l : List IdMove). is_held (held_after l) id) is.1 ∙ kept.beyond id far ∙ same id far;
  reached = kept.reached ∙ sym (ap (λ (l : List IdMove). length (held_after l) - 58) is.1);
  few = kept.few;
  room = omega (arith, kept.room, room);
  start = kept.start ∙ sym is.0;
}

pub invariant_of-self : goal.invariant_of-self
invariant_of-self c =
    let look = c.look-word in
    let back = given_back c.self.inside.manager c.alloc.new.manager c.free.new.self c.in-Ok.id c.in-Ok.ensures.filled
    c.in-Ok.ensures.ok c.free.ensures in
    let not_full = sym c.is_full.ensures ∙ c.if-not-is_full.true in
    let log = look.ensures.log in
    let moves = if_not_took look.result.1.held look.new.log.moves (noted look.result.1.before Take) c.self.inside.log.moves log.1
    (look.ensures.right.held ∙ not_full) in
    still c.self.inside c.free.new.self look.new.log c.self.invariant back.0 back.1
    (subst (λ (n : ℕ). c.self.inside.manager.room ≤ n) (sym c.free.ensures.room) c.in-Ok.ensures.room) (log.0, moves)

pub invariant_of-self-then-not-is_full-2 : goal.invariant_of-self-then-not-is_full-2
invariant_of-self-then-not-is_full-2 c =
    let look = c.look-word-in-Err in
    let log = look.ensures.log in
    let moves = if_not_took look.result.1.held look.new.log.moves (noted look.result.1.before Take) c.self.inside.log.moves log.1
    look.ensures.right.held in
    still c.self.inside c.alloc.new.manager look.new.log c.self.invariant c.in-Err.ensures.filled c.in-Err.ensures.err
    c.in-Err.ensures.room (log.0, moves)

pub invariant_of-self-in-Err : goal.invariant_of-self-in-Err
invariant_of-self-in-Err c =
    let look = c.look-word-in-Err in
    let log = look.ensures.log in
    let moves = if_not_took look.result.1.held look.new.log.moves (noted look.result.1.before Take) c.self.inside.log.moves log.1
    look.ensures.right.held in
    still c.self.inside c.alloc.new.manager look.new.log c.self.invariant c.in-Err.ensures.filled c.in-Err.ensures.err
    c.in-Err.ensures.room (log.0, moves)

pub look-word-requires-clause-further : goal.look-word-requires-clause-further
look-word-requires-clause-further c = λ _.
    has_further c.self.inside.log.moves c.self.inside.manager c.alloc.new.manager c.in-Ok.id c.in-Ok.ensures.ok c.self.invariant.beyond

pub into_held-requires-clause-id : goal.into_held-requires-clause-id
into_held-requires-clause-id c =
    let before = c.look-word.result.1.before in
    let full = full_holds c.look-word.result.0 (held_after before) c.look-word.ensures.word (sym c.is_full.ensures ∙ c.if-not-is_full.false) in (
      is_least c.self.inside.log.moves before c.self.inside.manager c.alloc.new.manager c.in-Ok.id c.in-Ok.ensures.ok c.self.invariant.beyond
          c.look-word.ensures.beyond full,
      c.in-Ok.ensures.ok.in_range,
    )

pub invariant_of-self-in-Ok : goal.invariant_of-self-in-Ok
invariant_of-self-in-Ok c =
    let before = c.look-word.result.1.before in
    let id : ℕ = c.in-Ok.id in
    let is_full : _ = sym c.is_full.ensures ∙ c.if-not-is_full.false in
    let full = full_holds c.look-word.result.0 (held_after before) c.look-word.ensures.word is_full in
    let taken = c.in-Ok.ensures.ok in
    let with_moves = c.look-word.ensures.beyond in
    let is = is_least c.self.inside.log.moves before c.self.inside.manager c.alloc.new.manager id taken c.self.invariant.beyond with_moves full in
    let log = c.look-word.ensures.log in
    let moves : c.look-word.new.log.moves ≡ noted before Take =
    if_took c.look-word.result.1.held c.look-word.new.log.moves (noted before Take) c.self.inside.log.moves log.1
    (c.look-word.ensures.right.held ∙ is_full) in
    let peak : c.max-self-inside.result ≡ length (held_after (noted before Take)) - 58 =
    c.max-self-inside.ensures ∙ peak_after before id c.self.inside.reached taken.further is (c.self.invariant.reached ∙ c.look-word.ensures.peak) in
    record {
      filled = c.in-Ok.ensures.filled;
      beyond = subst (λ (l : List IdMove). IsSameBeyond (held_after l) c.alloc.new.manager.held) (sym moves)
          (same_after c.self.inside.log.moves before c.self.inside.manager c.alloc.new.manager id taken c.self.invariant.beyond with_moves is);
      reached = peak ∙ sym (ap (λ (l : List IdMove). length (held_after l) - 58) moves);
      few = omega (arith, c.max-self-inside.ensures, c.self.invariant.few, taken.in_range);
      room = omega (arith, c.self.invariant.room, c.in-Ok.ensures.room);
      start = c.self.invariant.start ∙ sym log.0;
    }

pub returns-else-not-is_full-clause-take : goal.returns-else-not-is_full-clause-take
returns-else-not-is_full-clause-take c =
    subst (λ (t : ℕ). IsTakenAfter t c.args.page.now.moves c.into_held.new.page.moves c.into_held.result) c.look-word.ensures.right.of_table
    c.into_held.ensures.taken

pub returns-else-not-is_full-2-clause-take : goal.returns-else-not-is_full-2-clause-take
returns-else-not-is_full-2-clause-take c =
    let before = c.look-word-in-Err.result.1.before in
    let moves : before ≡ c.page.result.moves = sym (c.page.ensures.1 ∙ ap (seen_by before) c.look-word-in-Err.ensures.right.held) in
    let full = full_holds c.look-word-in-Err.result.0 (held_after before) c.look-word-in-Err.ensures.word
    (sym c.is_full-in-Err.ensures ∙ c.if-not-is_full-2.false) in
    let all : (n m : ℕ) → HoldsAllBelow m c.alloc.new.manager.held → n ≤ max 58 m → HoldsAllBelow n (held_after c.page.result.moves) = λ n m held few.
    subst (λ (l : List IdMove). HoldsAllBelow n (held_after l)) moves
    (all_held n m c.self.inside.log.moves before c.self.inside.manager c.alloc.new.manager
    c.self.invariant.beyond c.in-Err.ensures.err c.look-word-in-Err.ensures.beyond full held few) in
    record {
      since = subst (λ (l : List IdMove). IsPrefix c.args.page.now.moves l) moves c.look-word-in-Err.ensures.early;
      memory = λ refused.
          let needs = c.in-Err.ensures.memory (ap Err refused) in
          all c.args.page.now.room (length c.alloc.new.manager.held) needs.full
          (omega (arith, c.in_line.ensures.room, c.self.invariant.room, c.in-Err.ensures.room, needs.no_room));
      exhausted = λ refused.
          let none = c.in-Err.ensures.exhausted (ap Err refused) in
          all (2 ^ 63 - 1) (2 ^ 63 - 1) none.full (omega arith);
    }
