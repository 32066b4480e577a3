-- A `&` to a bucket is made out of a borrow of it: the bucket begins a turn.
use Rattle.std.proofs.Common.{◌+◌, [], ◌++◌}
use base.Fml.{fbor, Incl-refl, Incl-trans}
use ghost.Rules.{span}
use types.Logic.{sem}
use contract.BorrowLft.{meet_⊑_left}
use denote.RattleType.{RattleType}
use denote.RawPtr.{block_ptr}
use denote.Sharing.{said, some, ends, always}
use denote.SharingLaws.{said_shr_laws, some_shr_laws, beside_shr_laws, ends_shr_laws, always_shr_laws}
use denote.Param.Laws.{Laws}
use Rattle.std.proofs.cell.BorrowLemmas.{by_one}
use Rattle.thread_local_base.specs.Judged.{Judged}
use Rattle.thread_local_base.specs.Fact.{fact}
use Rattle.thread_local_shared_buckets.specs.Shared.{Turn, bucket_invariant, kept, bucket_shares}
use Rattle.thread_local_shared_buckets.proofs.TurnBegins.{P, lends_by}
use Rattle.thread_local_shared_buckets.proofs.shared_bucket.SharedBucket.TheLaw.Statement.{statement}

pub shares : (T : RattleType) (L : Laws T) → statement T L
shares T L = record {
  shr_laws = λ d b o.
      beside_shr_laws (said (fact (Judged T))) (some Turn (λ t. kept T d t b (o + 0)))
      (said_shr_laws (fact (Judged T)) (λ _. tt))
      (some_shr_laws Turn (λ t. kept T d t b (o + 0)) (λ t.
      beside_shr_laws (ends t.life) (always (fbor t.life (bucket_invariant T d t b (o + 0))))
      (ends_shr_laws t.life)
      (always_shr_laws (fbor t.life (bucket_invariant T d t b (o + 0))))));
  shares = λ M 𝓤 𝓛 d κ ts b o inc sp.
      by_one 𝓛 (span ts) ts (Incl-refl (span ts)) (𝓛.A.bor κ (P 𝓛 T L d κ b o))
      (sem 𝓛 (bucket_shares T d (block_ptr b o) κ))
      (lends_by 𝓛 T L d κ b o (span ts) (Incl-trans inc (Incl-trans (meet_⊑_left (T.lives ++ []) _) (meet_⊑_left T.lives []))) sp);
}
