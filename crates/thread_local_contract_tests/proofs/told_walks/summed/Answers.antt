use Rattle.std.proofs.Common.{◌≡◌, ◌∙◌, ℕ, ◌≤◌, Option, None, Some, IfSome, sym, subst}
use Rattle.thread_local_contract_tests.proofs.told_walks.summed.Goals as goal

-- where the total fits, it is the sum
at_least : (least sum : ℕ) (total : Option ℕ) → least ≤ sum → IfSome total (λ it. it ≡ sum) → IfSome total (λ it. least ≤ it)
at_least least sum None low is = tt
at_least least sum (Some it) low is = subst (λ (n : ℕ). least ≤ n) (sym is) low

pub returns : goal.returns
returns c =
    at_least _ _ c.loop-value.total
    (c.iter_gives_told.ensures.sum (λ (n : ℕ). n) _ _ _ _ _ _ _ _
    (c.into_iter-value-iterator.ensures.into_iter_gives ∙ c.iter_told-value-items.ensures)
    c.requires.named c.requires.sharing c.requires.apart c.loop-value.yielded_by c.in-None.ensures.steps)
    c.loop-value.invariant.total
