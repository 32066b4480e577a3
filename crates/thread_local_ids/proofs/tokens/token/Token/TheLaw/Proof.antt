-- A `&` to a token holds what the token says, which can be had twice. Assumes `Logic`.
use Rattle.std.proofs.Common.{Some}
use denote.RattleType.{RattleType}
use denote.Param.Laws.{Laws}
use denote.Param.Shared.{copy_shared}
use denote.Struct.Field.{usize-field}
use denote.Struct.Laws.{u64-copy, field_copy}
use denote.Struct.Lending.{of_Lends}
use Rattle.std.specs.contracts.marker.PhantomData as P
use Rattle.thread_local_ids.specs.Told.{tells}
use Rattle.thread_local_ids.specs.contracts.tokens.token.Token.TheInside as C
use Rattle.thread_local_ids.proofs.ToldElements.{tells_dup}
use Rattle.thread_local_ids.proofs.Twice.{lends_twice, tells_laws}
use Rattle.thread_local_ids.proofs.tokens.token.Token.TheLaw.Statement.{statement}

pub shares : (T : RattleType) (L : Laws T) → statement T L
shares T L = of_Lends (C.struct T) (C.the_codes T.Denot T.coded (P.the_row T).coded) (C.the_heap T) (C.the_lent T)
    (λ d p. tells_laws T d.sharing d.id (Some d.value))
    (copy_shared usize-field u64-copy, (copy_shared (P.the_field T) (field_copy (P.the_type T) tt), tt))
    (λ M 𝓤 𝓛 d p.
    lends_twice 𝓛 (tells T d.sharing d.id (Some d.value))
    (tells_dup 𝓛 T d.sharing d.id (Some d.value))
    (C.the_row T).lives)
