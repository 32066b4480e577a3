-- Taking the word of one chunk out of the flags of a block, for reading. Assumes `Logic`.
use Rattle.thread_local_base.proofs.Names.{◌≡◌, ℕ, ◌+◌, ◌*◌, ◌<◌, ◌≤◌, List, [], ◌∷◌, length, set, get_or, sym, refl}
use Rattle.thread_local_base.proofs.Names.{ap, ◌∙◌, arith, is_some, Option, Ura, SProp, ex, all}
use Rattle.thread_local_base.proofs.Names.{all_e, guard, apply∗, Fml, ftrue, Logic, ‵, raw, ◌⊛◌, ◌$◌, ◌∵◌, ! }
use Rattle.thread_local_base.proofs.Names.{qed, move, drop, split, fsplit3, fjoin3, fpick, fpack, check, show, frame}
use Rattle.thread_local_base.proofs.Names.{assume, use1, use2, rewrite, done, RattleType, Ptr, block_of, count_of}
use Rattle.thread_local_base.proofs.Names.{nothing}
use Rattle.std.proofs.lemmas.List.{set-get_or}
use Rattle.thread_local_base.specs.Bits.{is_set}
use Rattle.thread_local_base.specs.Place.{id_at}
use Rattle.thread_local_base.specs.Buckets.{Contents, row}
use Rattle.thread_local_base.specs.Rows.{value_in}
use Rattle.thread_local_buckets.specs.Slots.{chunks, AreFlags, each, flags_at, flags_own}
use Rattle.thread_local_buckets.proofs.Each.{Put, each_at}
use Rattle.thread_local_buckets.proofs.Flags.{chunk_in}
use Rattle.thread_local_buckets.proofs.Slots.{IsWordOf, word_of}
use Rattle.thread_local_buckets.specs.LoanOwns.{flagged, IsLeft}
use Rattle.thread_local_base.proofs.Signs.{signs}

-- where no value of a chunk was given, its word says the same of the whole contents as of those
-- that are left
pub says_of_left : {X : Type 0} (whole left : Contents X) (given k c word : ℕ)
    → IsLeft whole left given → given ≤ id_at k (c * 64) → IsWordOf (row whole k) c word
    → (bit : ℕ) → bit < 64 → is_set word bit ≡ is_some (value_in left k (c * 64 + bit))
says_of_left whole left given k c word so ahead is bit within =
    is.flags bit within ∙ sym (ap is_some (so.ahead k (c * 64 + bit) (omega arith)))

module _ {M : Type 1} {𝓤 : Ura M} (𝓛 : Logic 𝓤) (R : RattleType) (p : Ptr) where
  open signs 𝓛 use {⟦◌⟧, ◌⊢◌, ◌∗◌, ◌-∗◌}

  infix 26 ◌⊢◌
  infixr 35 ◌∗◌
  infixr 30 ◌-∗◌
  abbrev pub F : ℕ → ℕ → ℕ → Fml
  F n = flags_at R n (block_of p) (count_of p)

  -- a chunk's word, with the way back
  abbrev pub Word : List (Option R.Denot) → ℕ → ℕ → SProp 𝓤
  Word cs c n = guard 𝓤 (IsWordOf cs c n) (⟦ F (length cs) n c ⟧ ∗ (⟦ F (length cs) n c ⟧ -∗ ⟦ flagged R p cs ⟧))

  pub word_out : (cs : List (Option R.Denot)) (c : ℕ) → c * 64 < length cs → ⟦ flagged R p cs ⟧ ⊢ ex 𝓤 (Word cs c)
  word_out [] c near = absurd (omega arith)
  word_out (v ∷ vs) c near =
      let cs : List (Option R.Denot) = v ∷ vs in
      let many : ℕ = length cs in
      let G : ℕ → ℕ → Fml = F many in
      let Owns : List ℕ → Fml = flags_own R (block_of p) (count_of p) cs 0 in
      qed 𝓛 (‵ (flagged R p cs) ∷ []) ∵ fpick ! (λ ns. fsplit3 ! $ fpick ! (λ so. drop ! $
      let n : ℕ = get_or ns c 0 in
      let inside : c < length ns = (let within = chunk_in many c near in let long = so.0 in omega arith) in
      let first : c ≡ c + 0 = omega arith in
      show ! (Word cs c) n $ check ! (word_of cs ns c so.1) $
      use1 𝓛 (‵ (G n c) ⊛ raw (all 𝓤 (Put 𝓛 G ns 0 c c))) (each_at 𝓛 G ns 0 c c 0 first inside) $
      split ! $ frame ! $ assume ! (‵ (G n c)) $ move ! (1 ∷ []) $
      use1 𝓛 (raw (Put 𝓛 G ns 0 c c n)) (all_e 𝓤 (Put 𝓛 G ns 0 c c) n) $ move ! (1 ∷ 0 ∷ []) $
      use2 𝓛 (‵ (each G (set ns c n) 0)) (apply∗ 𝓤 ⟦ G n c ⟧ ⟦ each G (set ns c n) 0 ⟧) $
      rewrite ! 0 (λ (ms : List ℕ). ‵ (each G ms 0)) (set-get_or ns c 0) refl $
      nothing ! $ fpack ! ((length ns + 0 ≡ chunks many) × AreFlags ns cs) (λ _. ftrue) so $
      fjoin3 ! $ fpack ! (List ℕ) Owns ns $ done !))
