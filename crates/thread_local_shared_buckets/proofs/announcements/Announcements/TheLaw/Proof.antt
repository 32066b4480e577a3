-- A `&` to the word is an invariant over the borrow of it, with what lies with its bits.
use Rattle.thread_local_base.proofs.SharedWord.{laws, lends}
use Rattle.thread_local_shared_buckets.specs.Announcing.{lies_with_word}
use Rattle.thread_local_shared_buckets.proofs.announcements.Announcements.TheLaw.Statement.{statement}

pub shares : statement
shares = record {
  shr_laws = λ m. laws (lies_with_word m);
  shares = λ M 𝓤 𝓛 m κ ts b o inc within. lends 𝓛 lies_with_word m κ b o ts within;
}
