use Rattle.std.proofs.Common.{◌≡◌, ◌<◌, ◌^◌, ℕ, true, false, Some, None, subst, sym, ap, ◌∙◌, inl, inr}
use Rattle.std.specs.Prelude.{is_some}
use Rattle.std.proofs.lemmas.Bool.{cond-true}
use mathlib.Core.Path.{fun_ext}
use Rattle.thread_local_base.specs.Place.{id_at}
use Rattle.thread_local_base.specs.Buckets.{Contents, stands, values, IsTable}
use Rattle.thread_local_base.specs.Owned.{Owned, IsOwned}
use Rattle.thread_local_base.specs.Rows.{value_in, with_slot, with_row, empty_row}
use Rattle.thread_local_base.specs.Walk.{with_value}
use Rattle.thread_local_base.specs.Owner.{with_published}
use Rattle.thread_local_base.proofs.InsertingLaws.{published_values, IsOwned-with_published}
use Rattle.thread_local_buckets.specs.Inserting.{owned_with}
use Rattle.thread_local_buckets.proofs.buckets.Buckets.get_mut.Goals as goal
use Rattle.thread_local_base.proofs.TakingLaws.{shows_none}

-- the map has what was written, and is unchanged elsewhere
map_of : {V : Type 0} (o now : Owned V) (b i : ℕ) → o ≡ now → IsTable o.contents → b < 63 → i < 2 ^ b
    → (w : V) (id : ℕ) → values (with_published now.contents b i w) id ≡ with_value (values now.contents) (id_at b i) w id
map_of o now b i same t low inside w id =
    let P : Owned _ → Type 0 = λ s. values (with_published s.contents b i w) id ≡ with_value (values s.contents) (id_at b i) w id in
    subst P same (published_values o.contents b t low i w id inside)

-- the contents once a value is written over
as_published : {V : Type 0} (c d : Contents V) (b i : ℕ) → d ≡ c → stands c b ≡ true
    → (w : V) → with_slot d b i (Some w) ≡ with_published c b i w
as_published c d b i looked stood w =
    ap (λ (k : Contents _). with_slot k b i (Some w)) (looked ∙ sym (cond-true (stands c b) c (with_row c b (empty_row b)) stood))

nothing_at : {V : Type 0} (o now : Owned V) (b i : ℕ) → o ≡ now
    → is_some (value_in o.contents b i) ≡ false
    → value_in now.contents b i ≡ None
nothing_at o now b i same none = ap (λ (s : Owned _). value_in s.contents b i) (sym same) ∙ shows_none (value_in o.contents b i) none

-- The search for these takes a second.
pub invariant_of-self-lent : goal.invariant_of-self-lent
invariant_of-self-lent g c = λ w.
    let s = c.self.inside in
    let b = c.args.thread.bucket in
    let i = c.args.thread.index in
    subst (λ (k : Contents g.row.T.Denot). IsOwned (record { contents = k; reserved = s.reserved }))
    (sym (as_published s.pointers c.is_published.new.self b i c.is_published.ensures.same
    (c.is_published.ensures.stands c.if-is_published.true) w))
    (IsOwned-with_published s.pointers b c.self.invariant.table c.args.thread.in_table s.reserved i w c.self.invariant)

pub invariant_of-self : goal.invariant_of-self
invariant_of-self g c =
    subst (λ (k : Contents g.row.T.Denot). IsOwned (record { contents = k; reserved = c.self.inside.reserved }))
    (sym c.is_published.ensures.same)
    c.self.invariant

pub returns-then-is_published : goal.returns-then-is_published
returns-then-is_published g c =
    let b = c.args.thread.bucket in
    let i = c.args.thread.index in
    let t = c.self.invariant.table in
    let first : Owned _ = record { contents = c.self.inside.pointers; reserved = c.self.inside.reserved } in (
      ap (λ (f : _ → _). inl (c.get_mut.result.ghost_name, f))
          (fun_ext (λ w.
          ap (λ (k : Contents _). let s : Owned _ = record { contents = k; reserved = c.self.inside.reserved } in s)
          (as_published c.self.inside.pointers c.is_published.new.self b i c.is_published.ensures.same
          (c.is_published.ensures.stands c.if-is_published.true) w)
          ∙ ap (λ (s : Owned _). owned_with s b i w) c.self.view_is)),
      record {
        writes_back = tt;
        value =
            ap (λ (s : Owned _). value_in s.contents b i) (sym c.self.view_is)
            ∙ ap (λ (k : Contents _). value_in k b i) (sym c.is_published.ensures.same)
            ∙ c.get_mut.ensures.value;
        would_map = map_of first c.args.self.now b i c.self.view_is t c.args.thread.in_table c.args.thread.in_bucket;
      },
    )

pub returns-else-is_published : goal.returns-else-is_published
returns-else-is_published g c =
    let b = c.args.thread.bucket in
    let i = c.args.thread.index in
    let t = c.self.invariant.table in
    let first : Owned _ = record { contents = c.self.inside.pointers; reserved = c.self.inside.reserved } in (
      ap (λ (k : Contents _).
          let s : Owned _ = record { contents = k; reserved = c.self.inside.reserved } in inr s)
          c.is_published.ensures.same
          ∙ ap (λ (s : Owned _). inr s) c.self.view_is,
      record {
        writes_back = tt;
        value = nothing_at first c.args.self.now b i c.self.view_is (sym c.is_published.ensures.value ∙ c.if-is_published.false);
        would_map = map_of first c.args.self.now b i c.self.view_is t c.args.thread.in_table c.args.thread.in_bucket;
      },
    )
