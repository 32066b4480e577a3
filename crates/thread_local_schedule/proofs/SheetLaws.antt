-- How a move changes the peak and the capacity of a sheet.
use Rattle.std.proofs.Common.{◌≡◌, suc, ◌≤◌, max, length, Option, Some, None, refl, arith, Bool, true, false, not, ◌&&◌}
use Rattle.std.proofs.Common.{cond, sym}
use Rattle.thread_local_base.specs.Held.{held_count}
use Rattle.thread_local_base.specs.IdMoves.{Take, Give, Publish}
use Rattle.thread_local_base.specs.Sheet.{Sheet, OfHistory, Keep, Rewrite, Clear}
use Rattle.thread_local_schedule.specs.TableMoves.{TableMove, OfSheet, Drain, moved_by_if}
use Rattle.thread_local_schedule.proofs.HeldCounts.{least-le-held_count, peak_after}
use Rattle.std.proofs.lemmas.Bool.{false≢true}
use Rattle.thread_local_base.proofs.HeldLaws as ids

-- only a take raises the peak, and to at most one above the number of ids held before
pub moved_peak : {V : Type 0} (sheet : Sheet V) (o : Option (TableMove V))
    → length (moved_by_if sheet o).held ≤ max (length sheet.held) (suc (held_count sheet.held))
moved_peak sheet None = omega arith
moved_peak sheet (Some (OfSheet (OfHistory Take))) = omega (arith, peak_after sheet.held, least-le-held_count sheet.held)
moved_peak sheet (Some (OfSheet (OfHistory (Give id)))) = omega (arith, ids.length-without sheet.held id)
moved_peak sheet (Some (OfSheet (OfHistory (Publish id v)))) = omega arith
moved_peak sheet (Some (OfSheet (Keep id v))) = omega arith
moved_peak sheet (Some (OfSheet (Rewrite others))) = omega arith
moved_peak sheet (Some (OfSheet Clear)) = omega arith
moved_peak sheet (Some Drain) = omega arith

pub same_peak : {V : Type 0} (sheet : Sheet V) (o : Option (TableMove V)) → (o ≡ Some (OfSheet (OfHistory Take)) → ⊥)
    → length (moved_by_if sheet o).held ≤ length sheet.held
same_peak sheet None h = omega arith
same_peak sheet (Some (OfSheet (OfHistory Take))) h = absurd (h refl)
same_peak sheet (Some (OfSheet (OfHistory (Give id)))) h = omega (arith, ids.length-without sheet.held id)
same_peak sheet (Some (OfSheet (OfHistory (Publish id v)))) h = omega arith
same_peak sheet (Some (OfSheet (Keep id v))) h = omega arith
same_peak sheet (Some (OfSheet (Rewrite others))) h = omega arith
same_peak sheet (Some (OfSheet Clear)) h = omega arith
same_peak sheet (Some Drain) h = omega arith

-- no move changes the capacity
pub same_capacity : {V : Type 0} (sheet : Sheet V) (o : Option (TableMove V)) → (moved_by_if sheet o).capacity ≡ sheet.capacity
same_capacity sheet None = refl
same_capacity sheet (Some (OfSheet (OfHistory Take))) = refl
same_capacity sheet (Some (OfSheet (OfHistory (Give id)))) = refl
same_capacity sheet (Some (OfSheet (OfHistory (Publish id v)))) = refl
same_capacity sheet (Some (OfSheet (Keep id v))) = refl
same_capacity sheet (Some (OfSheet (Rewrite others))) = refl
same_capacity sheet (Some (OfSheet Clear)) = refl
same_capacity sheet (Some Drain) = refl

-- a move that leaves the sheet leaves it whether it is made or not
pub settled : {V : Type 0} (sheet : Sheet V) (b : Bool) (o : Option (TableMove V))
    → moved_by_if sheet o ≡ sheet
    → moved_by_if sheet (cond b o None) ≡ sheet
settled sheet true o e = e
settled sheet false o e = refl

pub untaken : {V : Type 0} (sheet : Sheet V) (enabled granted : Bool)
    → (enabled && not (not granted)) ≡ false
    → moved_by_if sheet (cond enabled (cond granted (Some (OfSheet (OfHistory Take))) None) None) ≡ sheet
untaken sheet true true e = absurd (false≢true (sym e))
untaken sheet true false e = refl
untaken sheet false granted e = refl
