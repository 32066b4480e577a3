use Rattle.std.proofs.Common.{◌≡◌, ◌≤◌, ◌<◌, ◌^◌, ◌+◌, arith, lit<, ◌-◌, ◌*◌, ℕ, Bool, List, Option, true, false, refl, sym, ap, ◌∙◌, subst, bit_and, ⊎_elim}
use Rattle.std.specs.Prelude.{max, nat_lt, length, All}
use Rattle.std.specs.Int.{w64, bit_not}
use Rattle.std.proofs.Math.Nat.{le-max_left}
use Rattle.std.proofs.lemmas.Bool.{cases_Bool}
use Rattle.thread_local_base.specs.Bits.{is_set}
use Rattle.thread_local_base.specs.Place.{id_at, bucket_of}
use Rattle.thread_local_base.proofs.PlaceLaws.{bucket_of-below}
use mathlib.Core.List.{IsPrefix}
use Rattle.thread_local_base.specs.IdMoves.{held_after}
use Rattle.thread_local_ids.proofs.Logs.{O}
use Rattle.thread_local_ids.specs.TokenLists.{NoneIn}
use Rattle.thread_local_ids.specs.TokenViews.{TokenView}
use Rattle.thread_local_shared_buckets.specs.Shared.{BucketView, ids_shown, shown_by}
use Rattle.thread_local_shared_buckets.specs.TableView.{TableView}
use Rattle.thread_local_shared_buckets.proofs.CountedSlots.{Counted, begins, more, missed, allowed, counted_below, all_counted}
use Rattle.thread_local_shared_buckets.proofs.RoomForTokens.{IsTold, no_token, tokens_fit}
use Rattle.thread_local_shared_buckets.proofs.shared.Shared.slots_reached.Goals as goal

in_table : {V : Type 0} (sharing : Option ℕ) (tokens : List (TokenView V)) → All (λ p. p.id < 2 ^ 63 - 1) tokens
    → (id : ℕ) → IsTold sharing tokens id → bucket_of id < 63
in_table sharing tokens all id told = bucket_of-below id (subst (λ (n : ℕ). n < 2 ^ 63 - 1) told.is (all told.at told.some told.near))

-- a list's ids are in range
low : {V : Type 0} {inside tokens : List (TokenView V)} → inside ≡ tokens → All (λ p. p.id < 2 ^ 63 - 1) inside
    → All (λ p. p.id < 2 ^ 63 - 1) tokens
low is all = subst (λ (ts : List (TokenView _)). All (λ p. p.id < 2 ^ 63 - 1) ts) is all

-- the bucket of each token is announced
are_announced : {V : Type 0} (sharing : Option ℕ) (tokens : List (TokenView V)) (word : ℕ)
    → All (λ p. p.id < 2 ^ 63 - 1) tokens
    → ((bucket : ℕ) → bucket < 63 → is_set word bucket ≡ false → NoneIn sharing bucket tokens)
    → (id : ℕ) → IsTold sharing tokens id → (bucket_of id < 63) × (is_set word (bucket_of id) ≡ true)
are_announced sharing tokens word all none id told =
    let low = in_table sharing tokens all id told in (
      low,
      ⊎_elim (λ (set : is_set word (bucket_of id) ≡ true). set)
          (λ (unset : is_set word (bucket_of id) ≡ false).
          absurd (no_token sharing tokens (bucket_of id) id (none (bucket_of id) low unset) told refl))
          (cases_Bool (is_set word (bucket_of id))),
    )

pub buckets-init : goal.buckets-init
buckets-init g c =
    let slots : ℕ = c.reserved-slots.result in
    let word : ℕ = c.load_announced-announced.result in
    let reserved : ℕ = c.args.self.now.reserved in
    let sharing : Option ℕ = c.args.self.now.sharing in
    let tokens : List (TokenView _) = c.args.told.now in
    let none : (bucket : ℕ) → bucket < 63 → is_set word bucket ≡ false → NoneIn sharing bucket tokens =
    subst (λ (s : Option ℕ). (bucket : ℕ) → bucket < 63 → is_set word bucket ≡ false → NoneIn s bucket tokens)
    (ap (λ (s : TableView). s.sharing) (c.behind-self.view_is ∙ c.parts.ensures)) c.load_announced-announced.ensures.told in record {
      counted =
          subst (λ (n : ℕ). Counted (IsTold sharing tokens) n (bit_and word (bit_not w64 slots)) slots) c.reserved-slots.ensures.reserved
          (begins (IsTold sharing tokens) slots word c.reserved-slots.ensures.first c.load_announced-announced.ensures.none_past
          (are_announced sharing tokens word (low c.told.view_is c.told.invariant) none));
      table = c.again-seen.ensures.page.0 ∙ c.requires;
      early = subst (IsPrefix c.args.page.now.moves) (sym c.again-seen.ensures.page.1) (O.same c.args.page.now.moves);
      grown = λ _.
          subst (λ (n : ℕ). n ≤ max reserved (2 * length (held_after c.again-seen.result.moves) - 1)) (sym c.reserved-slots.ensures.reserved)
          (le-max_left reserved (2 * length (held_after c.again-seen.result.moves) - 1));
    }

pub buckets-preserved-in-Some : goal.buckets-preserved-in-Some
buckets-preserved-in-Some g c =
    let reserved : ℕ = c.args.self.now.reserved in
    let sharing : Option ℕ = c.args.self.now.sharing in
    let tokens : List (TokenView _) = c.args.told.now in
    let first = c.take_first_bucket-bucket in
    let at = c.bucket.ensures in record {
      counted =
          more (IsTold sharing tokens) (in_table sharing tokens (low c.told.view_is c.told.invariant)) reserved c.buckets.left first.new.left
          c.buckets.slots first.result.0 c.buckets.invariant.counted first.ensures.first first.ensures.rest first.result.1
          first.ensures.size;
      table = c.reached-seen.ensures.table ∙ ap (λ (d : BucketView). d.table) c.in-Some.ensures.of ∙ at.table;
      early = O.trans c.args.page.now.moves c.buckets.seen.moves c.reached-seen.result.moves c.buckets.invariant.early c.reached-seen.ensures.early;
      grown = λ grown.
          allowed (IsTold sharing tokens) (in_table sharing tokens (low c.told.view_is c.told.invariant)) reserved c.buckets.left first.new.left
          c.buckets.slots first.result.0 c.buckets.invariant.counted first.ensures.first first.ensures.rest first.result.1
          (length (held_after c.reached-seen.result.moves)) first.ensures.size
          (subst (λ (n : ℕ). n ≤ length (held_after c.reached-seen.result.moves))
          (ap shown_by c.in-Some.ensures.of ∙ (λ j. ids_shown (at.grown j) (at.reserved j) (at.number j))
          ∙ ap (λ (t : Bool). ids_shown t (nat_lt (id_at first.result.0 0) reserved) first.result.0) grown) c.reached-seen.ensures.shown);
    }

pub buckets-preserved : goal.buckets-preserved
buckets-preserved g c =
    let sharing : Option ℕ = c.args.self.now.sharing in
    let tokens : List (TokenView _) = c.args.told.now in
    let first = c.take_first_bucket-bucket in
    let at = c.bucket in
    let none : NoneIn sharing first.result.0 tokens =
    subst (λ (s : Option ℕ). NoneIn s first.result.0 tokens) at.ensures.sharing
    (subst (λ (b : ℕ). NoneIn at.result.now.sharing b tokens) at.ensures.number
    (c.load.ensures.told c.in_default.is)) in record {
      counted =
          missed (IsTold sharing tokens) (in_table sharing tokens (low c.told.view_is c.told.invariant)) c.args.self.now.reserved c.buckets.left
          first.new.left c.buckets.slots first.result.0 c.buckets.invariant.counted first.ensures.first first.ensures.rest
          (λ id told. no_token sharing tokens first.result.0 id none told);
      table = c.buckets.invariant.table;
      early = c.buckets.invariant.early;
      grown = c.buckets.invariant.grown;
    }

pub buckets-smaller : goal.buckets-smaller
buckets-smaller g c = c.take_first_bucket-bucket.ensures.fewer

pub buckets-smaller-in-Some : goal.buckets-smaller-in-Some
buckets-smaller-in-Some g c = c.take_first_bucket-bucket.ensures.fewer

pub overflow_add-slots : goal.overflow_add-slots
overflow_add-slots g c =
    let first = c.take_first_bucket-bucket in
    let sharing : Option ℕ = c.args.self.now.sharing in
    let tokens : List (TokenView _) = c.args.told.now in
    let below : c.buckets.slots + first.result.1 < 2 ^ 63 =
    counted_below (more (IsTold sharing tokens) (in_table sharing tokens (low c.told.view_is c.told.invariant)) c.args.self.now.reserved
    c.buckets.left first.new.left c.buckets.slots first.result.0 c.buckets.invariant.counted first.ensures.first
    first.ensures.rest first.result.1 first.ensures.size) in
    omega (arith, below)

pub returns-clause-reserved : goal.returns-clause-reserved
returns-clause-reserved g c = c.buckets.invariant.counted.all

pub returns-clause-most : goal.returns-clause-most
returns-clause-most g c = counted_below c.buckets.invariant.counted

pub returns-clause-table : goal.returns-clause-table
returns-clause-table g c = c.buckets.invariant.table

pub returns-clause-early : goal.returns-clause-early
returns-clause-early g c = c.buckets.invariant.early

pub returns-clause-grown : goal.returns-clause-grown
returns-clause-grown g c = c.buckets.invariant.grown

pub returns-clause-told : goal.returns-clause-told
returns-clause-told g c = λ named k d near same.
    let counted = c.buckets.invariant.counted in
    let told : IsTold c.args.self.now.sharing c.args.told.now _ =
    record { named = named; at = k; some = d; near = near; of_it = same; is = refl } in
    counted.room.whole _ told (all_counted counted c.buckets-test.false _ told)

pub returns-clause-values : goal.returns-clause-values
returns-clause-values g c =
    let counted = c.buckets.invariant.counted in
    tokens_fit c.args.self.now.sharing c.args.told.now counted.from c.buckets.slots counted.room
    (all_counted counted c.buckets-test.false)

pub load_announced-announced-requires : goal.load_announced-announced-requires
load_announced-announced-requires g c =
    let parts = c.behind-self in
    (lit< tt, (record { reserved = parts.inside.reserved; are = parts.invariant.0 }, parts.invariant.1))

pub take_first_bucket-bucket-requires : goal.take_first_bucket-bucket-requires
take_first_bucket-bucket-requires g c = omega (arith, c.buckets-test.true)

pub bucket-requires : goal.bucket-requires
bucket-requires g c =
    let lowest = c.take_first_bucket-bucket.ensures.first in
    (lit< tt, (c.buckets.invariant.counted.ahead.inside c.take_first_bucket-bucket.result.0 lowest.within lowest.set).1)
