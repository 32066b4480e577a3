-- The ordering `SeqCst`, which each atomic step takes as an argument. Assumes `Logic`.
use Rattle.std.proofs.Common.{[], ◌∷◌}
use seplogic.Ra.Ura.{Ura}
use base.Logic.{ent, emp}
use types.Logic.{Logic, sem}
use denote.Shadow.{makes_shadow}
use Rattle.std.proofs.raw_atomic.Calls.{seq_cst}
use Rattle.std.proofs.raw_atomic.PtrCalls.{ordered, is_ordered}
use Rattle.std.specs.declared.sync.atomic.Ordering.TheVariants.{SeqCst}
use Rattle.std.specs.contracts.sync.atomic.Ordering.{the_row as order_row}

pub order_made : {M : Type 1} {𝓤 : Ura M} (𝓛 : Logic 𝓤)
    → ent 𝓤 (emp 𝓤) (sem 𝓛 (order_row.own_val SeqCst (seq_cst ∷ [])))
order_made 𝓛 = makes_shadow 𝓛 (order_row.own_val SeqCst (seq_cst ∷ [])) ordered is_ordered
