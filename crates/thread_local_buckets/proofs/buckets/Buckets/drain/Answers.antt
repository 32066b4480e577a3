use Rattle.std.proofs.Common.{◌≡◌, ℕ, List, [], Option, None, length, map, refl, ap, sym, ◌∙◌, subst}
use Rattle.std.specs.Prelude.{nat_lt}
use Rattle.std.proofs.lemmas.List.{length-map}
use Rattle.std.proofs.Math.ListN.{get_or-map}
use Rattle.thread_local_base.specs.Buckets.{Contents, row, stands, values}
use Rattle.thread_local_base.specs.Owned.{Owned, IsOwned}
use Rattle.thread_local_base.specs.Owner.{emptied}
use Rattle.thread_local_base.specs.Walk.{walk}
use Rattle.thread_local_base.proofs.EmptyingLaws.{values-emptied}
use Rattle.thread_local_buckets.specs.Cursor.{values_left, IsOwnerWalk}
use Rattle.thread_local_buckets.specs.Emptied.{owned_emptied}
use Rattle.thread_local_buckets.proofs.DrainLaws.{keeps_along}
use Rattle.thread_local_buckets.proofs.buckets.Buckets.drain.Goals as goal

-- the same buckets stand without their values
still_stand : {V : Type 0} (c : Contents V) (b : ℕ) → stands (emptied c) b ≡ stands c b
still_stand {V} c b =
    let none : Option V → Option V = λ _. None in
    ap (λ (r : List (Option V)). nat_lt 0 (length r)) (get_or-map (map none) c.rows b [])
    ∙ ap (nat_lt 0) (length-map (row c b) none)

-- the buckets as they are once their values are counted, and as they came
counted : (g : _) (c : goal.After-result-1 g)
    → ◌≡◌ {A = Owned g.row.T.Denot} (record { contents = c.begin_walk-cursor.new.self; reserved = c.self.inside.reserved })
    c.args.self.now
counted g c =
    ap (λ (w : Contents g.row.T.Denot).
    let s : Owned g.row.T.Denot = record { contents = w; reserved = c.self.inside.reserved } in s)
    c.begin_walk-cursor.ensures.same
    ∙ c.self.view_is

pub invariant_of-self : goal.invariant_of-self
invariant_of-self g c =
    subst (λ (w : Contents g.row.T.Denot). IsOwned (record { contents = w; reserved = c.self.inside.reserved }))
    (sym c.begin_walk-cursor.ensures.same) c.self.invariant

pub invariant_of-result : goal.invariant_of-result
invariant_of-result g c =
    let begun = c.begin_walk-cursor in
    record {
      few = begun.ensures.walk.few;
      ends = subst (λ (w : Contents g.row.T.Denot). values_left begun.result ≡ 0 → emptied w ≡ w) (sym begun.ensures.same) begun.ensures.ends;
    }

pub returns : goal.returns
returns g c = record {
  ready = let begun = c.begin_walk-cursor in
      subst (λ (w : Contents _). IsOwnerWalk w begun.result) (sym begun.ensures.same) begun.ensures.walk;
  rest = ap (λ (s : Owned _). walk (values s.contents)) (counted g c);
  leaves = ap (λ (s : Owned _). owned_emptied s) (counted g c);
  stays = keeps_along _;
  would_be_empty = values-emptied c.args.self.now.contents;
  would_stand = still_stand c.args.self.now.contents;
  fresh = c.begin_walk-cursor.ensures.raw;
  same_reference = refl;
}
