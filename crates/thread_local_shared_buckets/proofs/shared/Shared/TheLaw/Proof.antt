-- A `&` to shared buckets holds what a `&` to their parts holds.
use denote.RattleType.{RattleType}
use denote.Param.Laws.{Laws}
use Rattle.thread_local_shared_buckets.proofs.parts.SharedParts.TheLaws.{the_row_laws}
use Rattle.thread_local_shared_buckets.proofs.shared.Shared.TheLaw.Statement.{statement}

pub shares : (T : RattleType) (L : Laws T) → statement T L
shares T L = record {
  shr_laws = λ d b o. (the_row_laws T L).shr_laws d b o;
  shares = λ M 𝓤 𝓛 d κ ts b o inc sp. (the_row_laws T L).shares 𝓛 d κ ts b o inc sp;
}
