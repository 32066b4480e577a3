-- A `&` to the word is an invariant over the borrow of it, with what lies with it.
use Rattle.thread_local_base.proofs.SharedWord.{laws, lends}
use Rattle.thread_local_ids.specs.FirstIds.{FirstView, lies_with}
use Rattle.thread_local_ids.proofs.first.FirstIds.TheLaw.Statement.{statement}

pub shares : statement
shares = record {
  shr_laws = λ first. laws (lies_with first.table);
  shares = λ M 𝓤 𝓛 first κ ts b o inc within. lends 𝓛 (λ (d : FirstView). lies_with d.table) first κ b o ts within;
}
