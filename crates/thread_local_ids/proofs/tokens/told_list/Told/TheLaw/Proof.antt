-- A `&` to a list of tokens holds what they say, which can be had twice. Assumes `Logic`.
use denote.RattleType.{RattleType}
use denote.Param.Laws.{Laws}
use denote.Param.Shared.{copy_shared}
use denote.Struct.Laws.{field_copy}
use denote.Struct.Lending.{of_Lends}
use Rattle.std.specs.contracts.marker.PhantomData as P
use Rattle.thread_local_ids.specs.TokenLists.{tell_each}
use Rattle.thread_local_ids.specs.contracts.tokens.told_list.Told.TheInside as C
use Rattle.thread_local_ids.proofs.Twice.{lends_twice}
use Rattle.thread_local_ids.proofs.TokenListLaws.{each_dup, each_laws}
use Rattle.thread_local_ids.proofs.tokens.told_list.Told.TheLaw.Statement.{statement}

pub shares : (T : RattleType) (L : Laws T) → statement T L
shares T L = of_Lends (C.struct T) (C.the_codes T.Denot T.coded (P.the_row T).coded) (C.the_heap T) (C.the_lent T)
    (λ d p. each_laws T d.tokens)
    (copy_shared (P.the_field T) (field_copy (P.the_type T) tt), tt)
    (λ M 𝓤 𝓛 d p. lends_twice 𝓛 (tell_each T d.tokens) (each_dup 𝓛 T d.tokens) (C.the_row T).lives)
