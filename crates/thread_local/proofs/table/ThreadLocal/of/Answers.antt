-- The search for these takes seconds.
use Rattle.std.proofs.Common.{◌≡◌, ◌∙◌, Option, None, ℕ, IsSome, sym, ap, subst, refl, lit<}
use Rattle.thread_local_base.specs.Buckets.{Contents, values}
use Rattle.thread_local_base.specs.Owned.{IsOwned}
use Rattle.thread_local_ids.specs.Sharings.{Belongs, first_of, is_first}
use Rattle.thread_local_ids.proofs.ToldElements.{first_belongs}
use Rattle.std.proofs.lemmas.Bool.{eq-eqb}
use Rattle.thread_local_shared_buckets.specs.Grown.{only_reserved}
use Rattle.thread_local.proofs.table.ThreadLocal.of.Goals as goal

pub returns : goal.returns
returns g c =
    let named = c.first.ensures.sharing in
    let table = c.first.result.table in
    record {
      sharing = subst IsSome (sym named) refl;
      first = ap (λ (s : Option ℕ). is_first s table) named ∙ eq-eqb (first_of table) (first_of table) refl;
      reserved = c.first.ensures.reserved ∙ c.into_parts-pointers.ensures.reserved;
      room = refl;
      grown = c.first.ensures.grown ∙ ap only_reserved (λ i. record { contents = c.into_parts-pointers.ensures.pointers i; reserved = c.into_parts-pointers.ensures.reserved i });
    }

pub invariant_of-result : goal.invariant_of-result
invariant_of-result g c =
    let ids = c.requires.ids in
    let table = sym ids.slots ∙ sym c.first.ensures.table in (
      table,
      ids.page.0 ∙ table,
      ids.page.1,
      subst (λ (s : Option ℕ). Belongs s c.first.result.table) (sym c.first.ensures.sharing) (first_belongs c.first.result.table),
    )

pub first-requires : goal.first-requires
first-requires g c =
    let parts = c.into_parts-pointers.ensures in
    let none : (id : ℕ) → values c.into_parts-pointers.result.0 id ≡ None =
    λ id. ap (λ (w : Contents g.row.T.Denot). values w id) parts.pointers ∙ c.requires.empty id in
    let same : c.args.buckets ≡ record { contents = c.into_parts-pointers.result.0; reserved = c.into_parts-pointers.result.1 } =
    λ i. record { contents = sym parts.pointers i; reserved = sym parts.reserved i } in
    (lit< tt, (lit< tt, (c.requires.judged, (subst IsOwned same parts.owned, none))))
