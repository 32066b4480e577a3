use Rattle.std.proofs.Common.{◌≡◌, ◌<◌, ◌^◌, ℕ, true, cond, eqb, length, Some, subst, sym, ap, ◌∙◌, inl}
use Rattle.std.proofs.Common.{inr, refl, lit<, Option, is_some}
use Rattle.std.specs.Prelude.{unwrap_or}
use mathlib.Core.Path.{fun_ext}
use Rattle.thread_local_base.specs.Place.{id_at}
use Rattle.thread_local_base.specs.Buckets.{Contents, row, stands, IsTable}
use Rattle.thread_local_base.specs.Owned.{Owned, IsOwned}
use Rattle.thread_local_base.specs.Rows.{value_in, with_slot}
use Rattle.thread_local_base.specs.Sheet.{moved}
use Rattle.thread_local_base.specs.Owner.{with_bucket, with_published, sheet_of, publish_or_keep}
use Rattle.thread_local_base.proofs.RowLaws.{length-row-with_slot}
use Rattle.thread_local_base.proofs.StandingLaws.{whole-with_bucket}
use Rattle.thread_local_base.proofs.InsertingLaws.{published_or_kept, written_over, published_slot, IsOwned-with_published, published_moves, published_stands}
use Rattle.thread_local_buckets.specs.Inserting.{owned_with}
use Rattle.thread_local_buckets.proofs.buckets.Buckets.insert.Goals as goal

-- what holds of every insertion
record Inserts {V : Type 0} (c : Contents V) (b i : ℕ) (value : V) : Type 0 where
  moves : sheet_of (with_published c b i (unwrap_or (value_in c b i) value))
      ≡ moved (sheet_of c) (publish_or_keep (value_in c b i) (id_at b i) value)
  stand : (written : V) (bucket : ℕ) → stands (with_published c b i written) bucket ≡ cond (eqb b bucket) true (stands c bucket)

inserts : {V : Type 0} (o now : Owned V) (b i : ℕ) (value : V) → o ≡ now → IsTable o.contents
    → b < 63 → i < 2 ^ b
    → Inserts now.contents b i value
inserts o now b i value same t low inside =
    let P : Owned _ → Type 0 = λ s. Inserts s.contents b i value in
    subst P same (record { moves = published_moves o.contents b t low i value inside; stand = published_stands o.contents b t low i })

-- what is so once the value is published, or the one there is kept
record Inserted {V : Type 0} (c e : Contents V) (b i : ℕ) (value : V) : Type 0 where
  long : length (row e b) ≡ 2 ^ b
  slot : value_in e b i ≡ Some (unwrap_or (value_in c b i) value)
  written : (w : V) → with_slot e b i (Some w) ≡ with_published c b i w

inserted : {V : Type 0} (c d e : Contents V) (b i : ℕ) (value : V) → IsTable c → b < 63 → i < 2 ^ b → d ≡ with_bucket c b
    → e ≡ with_slot d b i (Some (unwrap_or (value_in d b i) value))
    → Inserted c e b i value
inserted {V} c d e b i value t low inside stood after =
    let v : V = unwrap_or (value_in c b i) value in
    let is = published_or_kept c b t low d e i value stood after in
    record {
      long = ap (λ (k : Contents V). length (row k b)) is ∙ length-row-with_slot (with_bucket c b) b i b (Some v) ∙ whole-with_bucket c b t low;
      slot = ap (λ (k : Contents V). value_in k b i) is ∙ published_slot c b t low i v inside;
      written = λ w. ap (λ (k : Contents V). with_slot k b i (Some w)) is ∙ written_over c b t low i v w;
    }

-- The search for this and the next takes seconds.
pub publish_or_drop-requires : goal.publish_or_drop-requires
publish_or_drop-requires g c =
    let b = c.args.thread.bucket in (
      lit< tt,
      subst (λ (n : ℕ). c.args.thread.index < n)
          (sym (ap (λ (k : Contents _). length (row k b)) c.in-Ok.ensures.ok
          ∙ whole-with_bucket c.self.inside.pointers b c.self.invariant.table c.args.thread.in_table))
          c.args.thread.in_bucket,
    )

pub get_mut-requires : goal.get_mut-requires
get_mut-requires g c =
    let i = c.args.thread.index in
    let so =
    inserted c.self.inside.pointers c.ensure_bucket.new.self c.publish_or_drop.new.self c.args.thread.bucket i c.args.value
    c.self.invariant.table c.args.thread.in_table c.args.thread.in_bucket c.in-Ok.ensures.ok c.publish_or_drop.ensures in
    (lit< tt, (subst (λ (n : ℕ). i < n) (sym so.long) c.args.thread.in_bucket, ap (λ (o : Option _). is_some o) so.slot))

pub invariant_of-self-lent : goal.invariant_of-self-lent
invariant_of-self-lent g c = λ w.
    let b = c.args.thread.bucket in
    let i = c.args.thread.index in
    let low = c.args.thread.in_table in
    let owned = c.self.invariant in
    let so =
    inserted c.self.inside.pointers c.ensure_bucket.new.self c.publish_or_drop.new.self b i c.args.value owned.table low
    c.args.thread.in_bucket c.in-Ok.ensures.ok c.publish_or_drop.ensures in
    subst (λ (k : Contents _). IsOwned (record { contents = k; reserved = c.self.inside.reserved })) (sym (so.written w))
    (IsOwned-with_published c.self.inside.pointers b owned.table low c.self.inside.reserved i w owned)

pub invariant_of-self : goal.invariant_of-self
invariant_of-self g c =
    subst (λ (k : Contents _). IsOwned (record { contents = k; reserved = c.self.inside.reserved }))
    (sym c.in-Err.ensures.err)
    c.self.invariant

pub returns-in-Ok : goal.returns-in-Ok
returns-in-Ok g c =
    let b = c.args.thread.bucket in
    let i = c.args.thread.index in
    let t = c.self.invariant.table in
    let low : b < 63 = c.args.thread.in_table in
    let inside : i < 2 ^ b = c.args.thread.in_bucket in
    let first : Owned _ = record { contents = c.self.inside.pointers; reserved = c.self.inside.reserved } in
    let all = inserts first c.args.self.now b i c.args.value c.self.view_is t low inside in
    let so =
    inserted c.self.inside.pointers c.ensure_bucket.new.self c.publish_or_drop.new.self b i c.args.value t low inside
    c.in-Ok.ensures.ok c.publish_or_drop.ensures in (
      ap (λ (f : _ → _). inl (c.get_mut.result.ghost_name, f))
          (fun_ext (λ w.
          ap (λ (k : Contents _). let s : Owned _ = record { contents = k; reserved = c.self.inside.reserved } in s) (so.written w)
          ∙ ap (λ (s : Owned _). owned_with s b i w) c.self.view_is)),
      record {
        writes_back = tt;
        answers =
            ap (λ (o : Option _). unwrap_or o c.args.value) (sym c.get_mut.ensures.value ∙ so.slot)
            ∙ ap (λ (s : Owned _). unwrap_or (value_in s.contents b i) c.args.value) c.self.view_is;
        would_move = all.moves;
        would_stand = all.stand;
        err = tt;
        refused = tt;
      },
    )

pub returns-in-Err : goal.returns-in-Err
returns-in-Err g c =
    let b = c.args.thread.bucket in
    let i = c.args.thread.index in
    let t = c.self.invariant.table in
    let first : Owned _ = record { contents = c.self.inside.pointers; reserved = c.self.inside.reserved } in
    let so = inserts first c.args.self.now b i c.args.value c.self.view_is t c.args.thread.in_table c.args.thread.in_bucket in (
      ap (λ (k : Contents _).
          let s : Owned _ = record { contents = k; reserved = c.self.inside.reserved } in inr s)
          c.in-Err.ensures.err
          ∙ ap (λ (s : Owned _). inr s) c.self.view_is,
      record {
        writes_back = tt;
        answers = tt;
        would_move = so.moves;
        would_stand = so.stand;
        err = refl;
        refused = sym (ap (λ (s : Owned _). stands s.contents b) c.self.view_is) ∙ c.in-Err.ensures.refused;
      },
    )
