-- What tells answers apart. A search among all that a function knows takes seconds for what these say
-- at once.
use Rattle.std.proofs.Common.{◌≡◌, Result, Ok, Err}

pub ok_not_err : {A E : Type 0} {x : A} {e : E} → ◌≡◌ {A = Result A E} (Ok x) (Err e) → ⊥
ok_not_err told = cc
