-- The word that has the flag of an id's slot, by the id's place.
use Rattle.std.proofs.Common.{◌≡◌, ◌∙◌, ℕ, ◌/◌, ◌^◌, ap, sym}
use denote.RattleType.{RattleType}
use Rattle.thread_local_base.specs.Place.{bucket_of, index_of}
use Rattle.thread_local_buckets.specs.Slots.{flag_word_at}
use Rattle.thread_local_shared_buckets.specs.Claims.{flag_word_of}

pub word_there : (R : RattleType) (word id held bucket index : ℕ) → word ≡ flag_word_at R (2 ^ bucket) (index / 64) → id ≡ held
    → bucket ≡ bucket_of held → index ≡ index_of held
    → word ≡ flag_word_of R id
word_there R word id held bucket index is same in_bucket at_index =
    is ∙ ap (λ (b : ℕ). flag_word_at R (2 ^ b) (index / 64)) (in_bucket ∙ ap bucket_of (sym same))
    ∙ ap (λ (i : ℕ). flag_word_at R (2 ^ bucket_of id) (i / 64)) (at_index ∙ ap index_of (sym same))
