-- The values of a table in which four `Local`s published: theirs and no others, until it is
-- cleared.
use Rattle.std.proofs.Common.{◌≡◌, ℕ, zero, suc, [], ◌∷◌, None, IsTrue, refl, ap, arith, subst, sym}
use Rattle.std.specs.Prelude.{slice_get}
use Rattle.thread_local_base.specs.Sheet.{new_sheet}
use Rattle.thread_local_schedule.proofs.TableLaws.{same_function}
use Rattle.thread_local_schedule.proofs.Kept.{run-fits}
use Rattle.thread_local_schedule.specs.Table.{published}
use Rattle.thread_local_schedule.specs.Core.{new_core, shadow}
use Rattle.thread_local_schedule.specs.Events.{Owner, ClearTable, happens, is_enabled, run}
use Rattle.thread_local_schedule.specs.Story.{four_publish, after_publishing, after_all}
use Rattle.thread_local_schedule.proofs.InvariantParts.{made_core-fits}
use Rattle.thread_local_schedule.proofs.CoreLaws.{none_if}
use Rattle.thread_local_schedule.proofs.ClearedLaws.{none_cleared}
use Rattle.thread_local_schedule.proofs.FourLocals.{by_steps, four_held, clears}
use Rattle.thread_local_schedule.specs.CoreFits.{CoreFits}

module _ (T F : Type 0) (a b c d : T) where
  -- four ids are held, so no value is published above id 3
  reached : after_publishing {V = T} {E = F} a b c d ≡ run new_core (four_publish a b c d)
  unfolding after_publishing
  reached = refl

  none_above : (id : ℕ) → published (after_publishing {V = T} {E = F} a b c d).table (suc (suc (suc (suc id)))) ≡ None
  none_above id =
      let h = subst CoreFits (sym reached) (run-fits new_core (four_publish a b c d) (made_core-fits 0 0 (omega arith))) in
      none_if (published (after_publishing {V = T} {E = F} a b c d).table (suc (suc (suc (suc id)))))
      (λ v e. let low = h.table.below (suc (suc (suc (suc id)))) v e in omega (arith, four_held T F a b c d))

  first_four : (id : ℕ) → published (after_publishing {V = T} {E = F} a b c d).table id ≡ slice_get (a ∷ b ∷ c ∷ d ∷ []) id
  unfolding by_steps
  first_four zero = refl
  first_four (suc zero) = refl
  first_four (suc (suc zero)) = refl
  first_four (suc (suc (suc zero))) = refl
  first_four (suc (suc (suc (suc id)))) = none_above id

  pub four_values : (shadow (after_publishing {V = T} {E = F} a b c d)).values ≡ slice_get (a ∷ b ∷ c ∷ d ∷ [])
  four_values =
      same_function (published (after_publishing {V = T} {E = F} a b c d).table)
      (slice_get (a ∷ b ∷ c ∷ d ∷ [])) first_four

  pub clear_of_four : IsTrue (is_enabled (after_all {V = T} {E = F} a b c d) (Owner ClearTable))
      × (shadow (happens (after_all {V = T} {E = F} a b c d) (Owner ClearTable)) ≡ new_sheet)
  unfolding by_steps
  clear_of_four = (
    clears T F a b c d,
    ap (λ values. record { held = []; values = values; capacity = 0 })
        (none_cleared (after_all {V = T} {E = F} a b c d).table 0),
  )
