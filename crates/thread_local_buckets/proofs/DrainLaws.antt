-- What calls of a `Drain` keep.
use Rattle.std.proofs.Common.{[], ◌∷◌, refl, ◌∙◌, subst}
use Rattle.thread_local_buckets.specs.declared.drain.Drain.{Drain}
use Rattle.thread_local_buckets.specs.Drain.{DrainKeeps, DrainKeepsAlong}

pub keeps_along : {V : Type 0} (first : Drain V) → DrainKeepsAlong first
keeps_along first [] later run = subst (DrainKeeps first) run (refl, refl)
keeps_along first (item ∷ items) later run =
    let step = run.1.1 in
    let rest = keeps_along run.0 items later run.2 in
    (rest.0 ∙ step.0, rest.1 ∙ step.1)
