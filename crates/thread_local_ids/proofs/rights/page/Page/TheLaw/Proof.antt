-- A `&` to a page holds what the page says, which can be had twice. Assumes `Logic`.
use denote.Param.Shared.{copy_shared}
use denote.Struct.Laws.{field_copy}
use denote.Struct.Lending.{of_Lends}
use denote.Builtin.{unit}
use Rattle.std.specs.contracts.marker.PhantomData as P
use Rattle.thread_local_ids.specs.Rights.{page_with}
use Rattle.thread_local_ids.specs.contracts.rights.page.Page as C
use Rattle.thread_local_ids.proofs.MoveElements.{page_with_twice}
use Rattle.thread_local_ids.proofs.Twice.{lends_twice, said_laws}
use Rattle.thread_local_ids.proofs.rights.page.Page.TheLaw.Statement.{statement}

pub shares : statement
shares = of_Lends C.struct (C.the_codes (P.the_row unit).coded) C.the_heap C.the_lent
    (λ d p. said_laws (page_with d.table d.moves d.room) (λ M 𝓤 𝓛. page_with_twice 𝓛 d.table d.moves d.room))
    (copy_shared (P.the_field unit) (field_copy (P.the_type unit) tt), tt)
    (λ M 𝓤 𝓛 d p. lends_twice 𝓛 (page_with d.table d.moves d.room) (page_with_twice 𝓛 d.table d.moves d.room) C.the_row.lives)
