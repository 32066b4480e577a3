-- The steps of a claim under its bucket's invariant: ghost steps, and atomic ones on the word that
-- has the slot's flag. Assumes `Logic`.
use Rattle.std.proofs.Common.{◌≡◌, ℕ, ◌+◌, ◌*◌, ◌/◌, ◌%◌, ◌^◌, ◌<◌, Bool, true, false, [], ◌∷◌, refl, ap, ◌∙◌}
use Rattle.std.proofs.Common.{lit<, Option, None, Some, is_some, sym}
use Rattle.std.proofs.lemmas.Nat.{mod_below}
use base.Stored.{Gv}
use seplogic.Ra.Ura.{Ura}
use base.Logic.{SProp, ex, guard, upd, upd_i}
use base.Fml.{GName, Share, Fml, fsep, fbor, flft, ftrue, fex}
use types.Logic.{Logic}
use types.Kit.{‵, raw, ◌⊛◌, given, settle, suffices, show, check, frame, ◌$◌, ◌∵◌, !, qed, by, move, split, split3}
use types.Kit.{fjoin, fpack, fsplit, learn, rewrite, use0, use2, use3, done}
use denote.RattleType.{RattleType}
use denote.Steps.{nothing}
use denote.RawPtr.{Ptr, block_ptr, count_of}
use Rattle.std.specs.Sync.RawAtomic.{asks, always}
use Rattle.thread_local_ids.specs.Rights.{right_owns}
use Rattle.thread_local_ids.specs.Sharings.{Belongs}
use Rattle.thread_local_buckets.specs.Slots.{word_offset}
use Rattle.thread_local_base.specs.Fact.{fact}
use Rattle.thread_local_base.specs.Bits.{is_set}
use Rattle.thread_local_base.proofs.Word.{add_shifted, same_bit}
use Rattle.thread_local_shared_buckets.specs.Shared.{name_at, Who, free, claimed, len}
use Rattle.thread_local_shared_buckets.specs.Claims.{claims_side, IsTold}
use Rattle.thread_local_shared_buckets.specs.Announcing.{announced}
use Rattle.thread_local_shared_buckets.proofs.Inside as inside
use Rattle.thread_local_shared_buckets.proofs.SlotSteps as general
use Rattle.thread_local_shared_buckets.proofs.Moves as moves
use Rattle.thread_local_base.proofs.Signs.{signs}
use Rattle.thread_local_shared_buckets.proofs.Inside.{SlotAt}

module _ {M : Type 1} {𝓤 : Ura M} (𝓛 : Logic 𝓤) (R : RattleType) (slot : SlotAt R) where
  open slot use {d, t, wb, wo, s, i, k, e, b, low, at_k, at_e, at_b}
  open 𝓛 use {H, A}
  open signs 𝓛 use {⟦◌⟧, ◌⊢◌, ◌∗◌, ◌-∗◌}

  infix 26 ◌⊢◌
  infixr 35 ◌∗◌
  infixr 30 ◌-∗◌
  abbrev pub η : GName
  η = name_at s.names i

  abbrev I : Fml
  I = general.I 𝓛 R slot

  abbrev Which : Fml
  Which = general.Which 𝓛 R slot

  abbrev Stays : Option R.Denot → Fml
  Stays = general.Stays 𝓛 R slot

  abbrev Had : Option R.Denot → Who → Fml
  Had = general.Had 𝓛 R slot

  abbrev pub Holds : Option R.Denot → Fml
  Holds = general.Holds 𝓛 R slot

  abbrev Left : Option R.Denot → SProp 𝓤 → Who → SProp 𝓤
  Left = general.Left 𝓛 R slot

  abbrev Turned : Share → (ℕ → ℕ) → (ℕ → Fml) → ℕ → Option R.Denot → Option R.Denot × Who → SProp 𝓤
  Turned = general.Turned 𝓛 R slot

  abbrev pub Right : Fml
  Right = right_owns d.table k

  -- a claim is given up, and has its right back
  pub releases : (q : Share) (u : Option R.Denot)
      → A.inv (fbor t.life I) ∗ A.lft t.life q ∗ ⟦ Which ⟧ ∗ ⟦ Holds u ⟧
      ⊢ H.⇛ (⟦ Right ⟧ ∗ A.lft t.life q)
  releases q u =
      general.moved 𝓛 R slot q ⟦ Holds u ⟧ ⟦ Right ⟧ (λ v w.
      qed 𝓛 (‵ (Stays v) ∷ ‵ (Had v w) ∷ ‵ (Holds u) ∷ []) ∵
      use3 𝓛 (given (v ≡ u) (‵ (Stays v) ⊛ ‵ (Had v free) ⊛ ‵ Right))
      (moves.releases 𝓛 R t b s.block_life d.sharing d.table k e η v u w) $
      learn ! (λ same. show ! (Left v ⟦ Right ⟧) free $ split3 ! $ done !))

  -- a claim with the pass finds its slot empty
  pub comes_in : (q : Share)
      → A.inv (fbor t.life I) ∗ A.lft t.life q ∗ ⟦ Which ⟧ ∗ ⟦ right_owns t.pass k ⟧
      ⊢ H.⇛ (⟦ Holds None ⟧ ∗ A.lft t.life q)
  comes_in q =
      general.moved 𝓛 R slot q ⟦ right_owns t.pass k ⟧
      ⟦ Holds None ⟧ (λ v w.
      qed 𝓛 (‵ (Stays v) ∷ ‵ (Had v w) ∷ ‵ (right_owns t.pass k) ∷ []) ∵
      use3 𝓛 (given (v ≡ None) (‵ (Stays v) ⊛ ‵ (Had v claimed) ⊛ ‵ (Holds None)))
      (moves.early_claims 𝓛 R t b s.block_life d.sharing d.table k e η v w) $
      learn ! (λ none. show ! (Left v ⟦ Holds None ⟧) claimed $ split3 ! $ done !))

  -- what a look finds: what the slot holds, by whether the flag is set
  abbrev pub HoldsWhatIsTold : Bool → Bool → Fml
  HoldsWhatIsTold looked set = fex (Option R.Denot) (λ u. fsep (fact (IsTold looked set u)) (Holds u))

  -- the address of the word that has the slot's flag
  abbrev pub chunk_word : Ptr
  chunk_word = block_ptr b (word_offset R (len R d) (count_of s.at) (i / 64))

  -- what a look at the flag takes from the word it loads, for the right or for the pass
  abbrev pub Finds : Bool → ℕ → Fml
  Finds looked n = HoldsWhatIsTold looked (is_set n (i % 64))

  pub finds : (q : Share) (looked : Bool)
      → A.inv (fbor t.life I) ∗ (A.lft t.life q ∗ (⟦ Which ⟧ ∗ ⟦ claims_side looked d.table t.pass k ⟧))
      ⊢ asks 𝓛 chunk_word (λ n. n) always (λ n. fsep (flft t.life q) (Finds looked n))
  finds q looked =
      general.stepped 𝓛 R slot q (λ n. n) (Finds looked)
      (claims_side looked d.table t.pass k) (law looked)
    where
      found : (l : Bool) (n : ℕ) → n < 2 ^ 64 → (v u : Option R.Denot)
          → is_set n (i % 64) ≡ is_some v → IsTold l (is_set n (i % 64)) u
          → ⟦ Stays v ⟧ ∗ ⟦ Had v claimed ⟧ ∗ ⟦ Holds u ⟧ ⊢ ex 𝓤 (Turned q (λ n. n) (Finds l) n v)
      found l n fits v u is told =
          qed 𝓛 (‵ (Stays v) ∷ ‵ (Had v claimed) ∷ ‵ (Holds u) ∷ []) ∵
          show ! (Turned q (λ n. n) (Finds l) n v) (v, claimed) $
          check ! (fits, same_bit n (i % 64) (is_some v) is) $ frame ! $ frame ! $
          use0 𝓛 (‵ (general.raised 𝓛 R slot (is_set n (i % 64)) (is_some v))) (inside.unraised 𝓛 R slot (is_set n (i % 64)) (is_some v) is) $
          move ! (1 ∷ 0 ∷ []) $ nothing ! $ fpack ! (IsTold l (is_set n (i % 64)) u) (λ _. ftrue) told $ fjoin ! $
          fpack ! (Option R.Denot) (λ u'. fsep (fact (IsTold l (is_set n (i % 64)) u')) (Holds u'))
          u $
          done !

      law : (l : Bool) (n : ℕ) → n < 2 ^ 64 → (v : Option R.Denot) (w : Who)
          → is_set n (i % 64) ≡ is_some v
          → ⟦ Stays v ⟧ ∗ ⟦ Had v w ⟧ ∗ ⟦ claims_side l d.table t.pass k ⟧
          ⊢ ex 𝓤 (Turned q (λ n. n) (Finds l) n v)
      law false n fits v w is =
          qed 𝓛 (‵ (Stays v) ∷ ‵ (Had v w) ∷ ‵ Right ∷ []) ∵ move ! (1 ∷ 2 ∷ []) $
          use2 𝓛 (‵ (Had v claimed) ⊛ ‵ (Holds v))
          (moves.claims 𝓛 R t b s.block_life d.sharing d.table k e η v w) $
          split ! $ move ! (2 ∷ 0 ∷ 1 ∷ []) $
          by ! (found false n fits v v is (is, (λ no. let m : false ≡ true = no in cc)))
      law true n fits v w is =
          qed 𝓛 (‵ (Stays v) ∷ ‵ (Had v w) ∷ ‵ (right_owns t.pass k) ∷ []) ∵
          use3 𝓛 (given (v ≡ None) (‵ (Stays v) ⊛ ‵ (Had v claimed) ⊛ ‵ (Holds None)))
          (moves.early_claims 𝓛 R t b s.block_life d.sharing d.table k e η v w) $
          learn ! (λ none. split3 ! $
          by ! (found true n fits v None is (is ∙ ap is_some none, (λ _. refl))))

  -- the slot's flag alone in a word, as the code computes it
  abbrev pub flag : ℕ
  flag = 1 * 2 ^ (i % 64) % 2 ^ 64

  -- the word once the flag is added, which publishes a value: the flag was unset, so nothing
  -- carries
  abbrev pub with_flag : ℕ → ℕ
  with_flag n = (n + flag) % 2 ^ 64

  pub publishes : (q : Share) (left : Option Gv) (same : Belongs d.sharing d.table) (x : R.Denot)
      → A.inv (fbor t.life I)
      ∗ (A.lft t.life q
      ∗ (⟦ Which ⟧ ∗ ⟦ fsep (announced d.word d.bucket) (moves.Offer 𝓛 R t b s.block_life d.sharing d.table k e η left same x) ⟧))
      ⊢ asks 𝓛 chunk_word with_flag always (λ _. fsep (flft t.life q) (moves.Gain 𝓛 R t b s.block_life d.sharing d.table k e η left same x))
  publishes q left same x =
      let Gained : Fml = moves.Gain 𝓛 R t b s.block_life d.sharing d.table k e η left same x in
      let Gains : ℕ → Fml = λ _. Gained in
      let Offered : Fml = moves.Offer 𝓛 R t b s.block_life d.sharing d.table k e η left same x in
      general.stepped_by 𝓛 R slot q with_flag Gains (fsep (announced d.word d.bucket) Offered)
      (λ n fits v w is.
      let F : Option R.Denot × Who → SProp 𝓤 = Turned q with_flag Gains n v in
      qed 𝓛 (‵ (Stays v) ∷ ‵ (Had v w) ∷ ‵ (fsep (announced d.word d.bucket) Offered) ∷ []) ∵ move ! (2 ∷ []) $ fsplit ! $
      move ! (2 ∷ 3 ∷ 1 ∷ []) $
      use3 𝓛
      (raw
      (upd 𝓤 (guard 𝓤 (v ≡ None) (⟦ Stays (Some x) ⟧ ∗ ⟦ Had (Some x) claimed ⟧ ∗ ⟦ Gained ⟧))))
      (moves.publishes 𝓛 R t b s.block_life d.sharing d.table k e η left same v w x) $
      settle 𝓛 (ex 𝓤 F)
      (given (v ≡ None) (‵ (Stays (Some x)) ⊛ ‵ (Had (Some x) claimed) ⊛ ‵ Gained)) $
      suffices ! _ (upd_i 𝓤 (ex 𝓤 F)) $ learn ! (λ none. split3 ! $
      -- [what stays; who has it; what is gained; that the bucket is announced]
      move ! (3 ∷ []) $ rewrite ! 0 (λ (a : Bool). ‵ (general.raised 𝓛 R slot a true)) (sym (is ∙ ap is_some none)) refl $
      move ! (1 ∷ 2 ∷ 3 ∷ 0 ∷ []) $
      show ! F (Some x, claimed) $
      check ! (
        mod_below (n + flag) (2 ^ 64) (lit< tt),
        add_shifted n (i % 64) (mod_below i 64 (lit< tt)) fits (is ∙ ap is_some none),
      ) $
      done !))
