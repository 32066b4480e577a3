-- A `&` to a right holds what its page says, which can be had twice. Assumes `Logic`.
use denote.Param.Shared.{copy_shared}
use denote.Struct.Laws.{field_copy}
use denote.Struct.Lending.{of_Lends}
use denote.Builtin.{unit}
use Rattle.std.specs.contracts.marker.PhantomData as P
use Rattle.thread_local_ids.specs.Rights.{page_owns, right_in, seen_by}
use Rattle.thread_local_ids.specs.contracts.rights.right.Right as C
use Rattle.thread_local_ids.proofs.MoveElements.{page_twice}
use Rattle.thread_local_ids.proofs.RightStates.{right_shows}
use Rattle.thread_local_ids.proofs.Twice.{lends_shown, said_laws}
use Rattle.thread_local_ids.proofs.rights.right.Right.TheLaw.Statement.{statement}

pub shares : statement
shares = of_Lends C.struct (C.the_codes (P.the_row unit).coded) C.the_heap C.the_lent
    (λ d p. said_laws (page_owns d.table (seen_by d.before d.held)) (λ M 𝓤 𝓛. page_twice 𝓛 d.table (seen_by d.before d.held)))
    (copy_shared (P.the_field unit) (field_copy (P.the_type unit) tt), tt)
    (λ M 𝓤 𝓛 d p. lends_shown 𝓛 (right_in d.table d.before d.held d.lent d.left) (page_owns d.table (seen_by d.before d.held))
    (right_shows 𝓛 d.table d.before d.held d.lent d.left) C.the_row.lives)
