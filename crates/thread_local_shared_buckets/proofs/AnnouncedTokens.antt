-- A load of the word of announced buckets finds the bucket of each token that a list has. Assumes
-- `Logic`.
use Rattle.std.proofs.Common.{◌≡◌, ℕ, zero, suc, ◌+◌, ◌<◌, ◌≤◌, Bool, true, false, List, [], ◌∷◌, length, refl, sym, ◌∙◌, subst, arith}
use Rattle.std.proofs.lemmas.Bool.{false≢true}
use seplogic.Ra.Ura.{Ura}
use base.Logic.{SProp, guard, upd, upd_i, apply∗}
use base.Fml.{Lft, Share, Fml, ftrue, fsep, fex, flft, fbor}
use prog.Model.{Model}
use contract.Running.{Running}
use types.Logic.{Logic}
use types.Kit.{‵, raw, ◌⊛◌, given, later, assume, pick, learn, check, suffices, ◌$◌, ◌∵◌, !, qed, move}
use types.Kit.{keep, drop, split, split3, fsplit, fsplit3, fjoin, fjoin3, fpick, fpack, rewrite, await, updating, now, use1, use2, use3, done}
use denote.RattleType.{RattleType}
use denote.RawPtr.{Ptr, block_ptr, null_ptr, block_of, count_of}
use denote.Memory.{shared_of, each_shared}
use denote.Steps.{nothing}
use Rattle.std.specs.Sync.RawAtomic.{asks, always}
use Rattle.std.specs.Sync.RawAtomic.Pointer.{cell}
use Rattle.thread_local_base.proofs.Walking.{lends_token, returns_token}
use Rattle.thread_local_base.specs.Bits.{is_set, is_set_in}
use Rattle.thread_local_buckets.specs.Slots.{each, value_offset}
use Rattle.thread_local_base.specs.Fact.{fact}
use Rattle.thread_local_base.specs.SharedWord.{word_invariant}
use Rattle.thread_local_base.proofs.SharedWord.{stepped}
use Rattle.thread_local_base.proofs.Signs.{signs}
use Rattle.thread_local_ids.specs.TokenViews.{TokenView}
use Rattle.thread_local_ids.specs.TokenLists.{NoneIn, tell_each}
use Rattle.thread_local_shared_buckets.specs.Announcing.{Announcing, BeginsWithFirst, announced, announced_unless, lies_with_word}
use Rattle.thread_local_shared_buckets.specs.Shared.{BucketView, Turn, StandingBlock, len, first, all_unborn, standing, beside_pointer}
use Rattle.thread_local_shared_buckets.specs.Shared.{bucket_invariant, numbered_slot, announced_where, NoneSet}
use Rattle.thread_local_shared_buckets.specs.TableView.{TableView, bucket_view}
use Rattle.thread_local_shared_buckets.specs.contracts.shared_bucket.SharedBucket as shared_bucket
use Rattle.thread_local_shared_buckets.proofs.AnnouncingLaws.{shows, first_set, none_past, announced_twice}
use Rattle.thread_local_shared_buckets.proofs.Inside.{quietly, Under, block_in}
use Rattle.thread_local_shared_buckets.proofs.ChunkLooks.{each_learns, Known, known}
use Rattle.thread_local_shared_buckets.proofs.Lists.{AreOf}
use Rattle.thread_local_shared_buckets.proofs.Loads.{NoneThere, unborn_unlisted}

module _ {M : Type 1} {𝓤 : Ura M} (𝓛 : Logic 𝓤) (R : RattleType) (tokens : List (TokenView R.Denot)) where
  open 𝓛 use {H, A}
  open signs 𝓛 use {⟦◌⟧, ◌⊢◌, ◌∗◌, ◌-∗◌}

  infix 26 ◌⊢◌
  infixr 35 ◌∗◌
  infixr 30 ◌-∗◌
  abbrev Telling : Fml
  Telling = tell_each R tokens

  abbrev S : RattleType
  S = shared_bucket.the_row R

  -- a bucket is announced, or no token is of a slot of it
  abbrev sure_by : BucketView → Bool → Fml
  sure_by d true = announced d.word d.bucket
  sure_by d false = fact (NoneIn d.sharing d.bucket tokens)

  abbrev pub sure : BucketView → Fml
  sure d = fex Bool (sure_by d)

  -- the same of several
  abbrev pub all_sure : List BucketView → Fml
  all_sure [] = ftrue
  all_sure (d ∷ ds) = fsep (sure d) (all_sure ds)

  module _ (d : BucketView) (t : Turn) where
    abbrev Unborn : Fml
    Unborn = all_unborn R d.sharing d.table t (len R d) (first R d)

    none_in : NoneThere 𝓛 R d t tokens → NoneIn d.sharing d.bucket tokens
    none_in absent name k x low same i near at = absent i near name k x low same (omega (arith, at))

    -- what a block tells is said beside it
    abbrev Out : SProp 𝓤 → SProp 𝓤
    Out P = ⟦ Telling ⟧ -∗ (P ∗ ⟦ Telling ⟧ ∗ ⟦ sure d ⟧)

    lifted : (P Q X : SProp 𝓤) → P ∗ X ⊢ Q → Out P ∗ X ⊢ Out Q
    lifted P Q X law =
        qed 𝓛 (raw (Out P) ∷ raw X ∷ []) ∵ assume ! (‵ Telling) $
        use2 𝓛 (raw P ⊛ ‵ Telling ⊛ ‵ (sure d)) (apply∗ 𝓤 ⟦ Telling ⟧ (P ∗ ⟦ Telling ⟧ ∗ ⟦ sure d ⟧)) $ split3 ! $
        move ! (0 ∷ 3 ∷ []) $ use2 𝓛 (raw Q) law $ done !

    module _ (s : StandingBlock) (long : length s.names ≡ len R d) (ns : List ℕ) where
      abbrev Numbered : ℕ → ℕ → Fml
      Numbered = numbered_slot R t (block_of s.at) s.block_life d.sharing d.table (first R d) (count_of s.at) ns

      abbrev Slots : Fml
      Slots = each Numbered s.names 0

      -- its flags tell which
      flags_sure : (set : Bool) → ⟦ announced_unless d.word d.bucket (NoneSet ns) set ⟧ ∗ ⟦ Slots ⟧ ∗ ⟦ Telling ⟧
          ⊢ ⟦ fsep (announced_where d ns) Slots ⟧ ∗ ⟦ Telling ⟧ ∗ ⟦ sure d ⟧
      flags_sure true =
          let Known : Fml = announced d.word d.bucket in
          qed 𝓛 (‵ Known ∷ ‵ Slots ∷ ‵ Telling ∷ []) ∵ use1 𝓛 (‵ Known ⊛ ‵ Known) (announced_twice 𝓛 d.word d.bucket) $ split ! $
          fpack ! Bool (sure_by d) true $ move ! (1 ∷ []) $ fpack ! Bool (announced_unless d.word d.bucket (NoneSet ns)) true $
          move ! (0 ∷ 2 ∷ []) $ fjoin ! $ move ! (0 ∷ 2 ∷ 1 ∷ []) $ done !
      flags_sure false =
          let At : ℕ → Type 0 = λ i. Known 𝓛 R d t (block_of s.at) s.block_life tokens (is_set_in ns i) (i + first R d) in
          let Bare : Type 0 = (is_set d.word.made d.bucket ≡ true) × NoneSet ns in
          qed 𝓛 (‵ (announced_unless d.word d.bucket (NoneSet ns) false) ∷ ‵ Slots ∷ ‵ Telling ∷ []) ∵ fpick ! (λ so. drop ! $
          use2 𝓛 (given ((i : ℕ) → i < length s.names → At (i + 0)) (‵ Slots ⊛ ‵ Telling))
          (each_learns 𝓛 Numbered Telling At s.names 0 (λ η i.
          known 𝓛 R d t (block_of s.at) s.block_life tokens (is_set_in ns i) (i + first R d) (value_offset R (count_of s.at) i) η)) $
          learn ! (λ shows. split ! $
          let none : NoneThere 𝓛 R d t tokens = λ i near name k x low same at.
          let so_at : At i = (let is : i + 0 ≡ i = omega arith in subst At is (shows i (subst (λ (m : ℕ). i < m) (sym long) near))) in
          absurd (false≢true (sym (so.1 i) ∙ so_at name k x low same at)) in
          nothing ! $ fpack ! (NoneIn d.sharing d.bucket tokens) (λ _. ftrue) (none_in none) $ fpack ! Bool (sure_by d) false $
          nothing ! $ fpack ! Bare (λ _. ftrue) so $ fpack ! Bool (announced_unless d.word d.bucket (NoneSet ns)) false $
          move ! (0 ∷ 2 ∷ []) $ fjoin ! $ move ! (0 ∷ 2 ∷ 1 ∷ []) $ done !))

      in_row : ⟦ Under 𝓛 R d t 0 0 s (block_of s.at) refl ns ⟧ ⊢ Out ⟦ fex (List ℕ) (Under 𝓛 R d t 0 0 s (block_of s.at) refl) ⟧
      in_row =
          qed 𝓛 (‵ (Under 𝓛 R d t 0 0 s (block_of s.at) refl ns) ∷ []) ∵ assume ! (‵ Telling) $ move ! (1 ∷ []) $ fsplit3 ! $
          -- [that they are words of flags; the words; the slots with what the flags show; what the tokens tell]
          move ! (2 ∷ []) $ fsplit ! $ fpick ! (λ set. move ! (0 ∷ 1 ∷ 4 ∷ []) $
          use3 𝓛 (‵ (fsep (announced_where d ns) Slots) ⊛ ‵ Telling ⊛ ‵ (sure d)) (flags_sure set) $ split3 ! $
          move ! (3 ∷ 4 ∷ 0 ∷ []) $ fjoin3 ! $ fpack ! (List ℕ) (Under 𝓛 R d t 0 0 s (block_of s.at) refl) ns $ done !)

    -- the pointer tells which
    sees_at : (p : Ptr) → ⟦ beside_pointer R d t p ⟧ ∗ ⟦ Telling ⟧
        ⊢ ⟦ beside_pointer R d t p ⟧ ∗ ⟦ Telling ⟧ ∗ ⟦ sure d ⟧
    sees_at null_ptr =
        qed 𝓛 (‵ (beside_pointer R d t null_ptr) ∷ ‵ Telling ∷ []) ∵ fsplit3 ! $ fpick ! (λ free. drop ! $
        move ! (1 ∷ 2 ∷ []) $
        use2 𝓛 (given (NoneThere 𝓛 R d t tokens) (‵ Unborn ⊛ ‵ Telling))
        (unborn_unlisted 𝓛 R d.sharing d.table t tokens (len R d) (first R d)) $ learn ! (λ absent. split ! $
        nothing ! $ fpack ! (NoneIn d.sharing d.bucket tokens) (λ _. ftrue) (none_in absent) $ fpack ! Bool (sure_by d) false $
        -- [it is sure; the slots; what the tokens tell; which block stands]
        move ! (3 ∷ 1 ∷ []) $ nothing ! $ fpack ! (d.reserved ≡ false) (λ _. ftrue) free $ fjoin3 ! $
        move ! (0 ∷ 2 ∷ 1 ∷ []) $ done !))
    sees_at (block_ptr x y) =
        let p : Ptr = block_ptr x y in
        qed 𝓛 (‵ (beside_pointer R d t p) ∷ ‵ Telling ∷ []) ∵ fpick ! (λ z.
        use1 𝓛 (raw (Out ⟦ standing R d t p z ⟧))
        (block_in 𝓛 R d t 0 0 z.0 (block_of z.0.at) refl Out lifted (λ ns long. in_row z.0 long ns) p z.1) $
        move ! (1 ∷ 0 ∷ []) $
        use2 𝓛 (‵ (standing R d t p z) ⊛ ‵ Telling ⊛ ‵ (sure d))
        (apply∗ 𝓤 ⟦ Telling ⟧ (⟦ standing R d t p z ⟧ ∗ ⟦ Telling ⟧ ∗ ⟦ sure d ⟧)) $ split3 ! $
        fpack ! (StandingBlock × Share) (standing R d t p) z $ done !)

    sees : (b o : ℕ) → ⟦ bucket_invariant R d t b o ⟧ ∗ ⟦ Telling ⟧
        ⊢ upd 𝓤 (⟦ bucket_invariant R d t b o ⟧ ∗ ⟦ Telling ⟧ ∗ ⟦ sure d ⟧)
    sees b o =
        let I : Fml = bucket_invariant R d t b o in
        let Z : SProp 𝓤 = ⟦ I ⟧ ∗ ⟦ Telling ⟧ ∗ ⟦ sure d ⟧ in
        qed 𝓛 (‵ I ∷ ‵ Telling ∷ []) ∵ suffices ! _ (upd_i 𝓤 Z) $ fpick ! (λ p. fsplit ! $ move ! (1 ∷ 2 ∷ []) $
        use2 𝓛 (‵ (beside_pointer R d t p) ⊛ ‵ Telling ⊛ ‵ (sure d)) (sees_at p) $ split3 ! $
        move ! (3 ∷ 0 ∷ []) $ fjoin ! $ fpack ! Ptr (λ u. fsep (cell b o u) (beside_pointer R d t u)) p $ done !)

  module _ (𝓜 : Model 𝓤 H) (𝓡 : Running 𝓤 H 𝓜) (κ : Lft) (q : Share) where
    -- what a `&` to a bucket makes sure
    one_known : (d : BucketView) (b o : ℕ) → ⟦ shared_of S d b o κ ⟧ ∗ A.lft κ q ∗ ⟦ Telling ⟧
        ⊢ H.⇛ (A.lft κ q ∗ ⟦ Telling ⟧ ∗ ⟦ sure d ⟧)
    one_known d b o =
        qed 𝓛 (‵ (shared_of S d b o κ) ∷ ‵ (flft κ q) ∷ ‵ Telling ∷ []) ∵ updating ! $ fsplit ! $ drop ! $ fpick ! (λ t.
        fsplit ! $ move ! (0 ∷ 2 ∷ []) $
        lends_token ! 𝓜 𝓡 κ t.life q $ await ! tt $ pick ! (λ s. split ! $
        -- [the life's token; the way back; the invariant; what the tokens tell]
        move ! (2 ∷ 0 ∷ 3 ∷ []) $
        use3 𝓛 (later ((‵ Telling ⊛ ‵ (sure d)) ⊛ ‵ (flft t.life s)))
        (quietly 𝓛 t.life s (bucket_invariant R d t b (o + 0)) ⟦ Telling ⟧ (⟦ Telling ⟧ ∗ ⟦ sure d ⟧) (sees d t b (o + 0))) $
        await ! tt $ split ! $ split ! $ move ! (2 ∷ 3 ∷ []) $
        returns_token ! κ t.life q s $ await ! tt $ now ! $ done !))

    pub all_known : (ds : List BucketView) (size b o : ℕ)
        → ⟦ each_shared ds (shared_of S) size b o κ ⟧ ∗ A.lft κ q ∗ ⟦ Telling ⟧
        ⊢ H.⇛ (A.lft κ q ∗ ⟦ Telling ⟧ ∗ ⟦ all_sure ds ⟧)
    all_known [] size b o =
        qed 𝓛 (‵ ftrue ∷ ‵ (flft κ q) ∷ ‵ Telling ∷ []) ∵ updating ! $ move ! (1 ∷ 2 ∷ 0 ∷ []) $ now ! $ done !
    all_known (d ∷ ds) size b o =
        qed 𝓛 (‵ (each_shared (d ∷ ds) (shared_of S) size b o κ) ∷ ‵ (flft κ q) ∷ ‵ Telling ∷ []) ∵ updating ! $ fsplit ! $
        -- [the first; the others; the token; what the tokens tell]
        move ! (0 ∷ 2 ∷ 3 ∷ []) $
        use3 𝓛 (later (‵ (flft κ q) ⊛ ‵ Telling ⊛ ‵ (sure d))) (one_known d b o) $ await ! tt $ split3 ! $
        move ! (3 ∷ 0 ∷ 1 ∷ []) $
        use3 𝓛 (later (‵ (flft κ q) ⊛ ‵ Telling ⊛ ‵ (all_sure ds))) (all_known ds size b (o + size)) $ await ! tt $
        split3 ! $
        -- [the token; what the tokens tell; the others; the first]
        move ! (3 ∷ 2 ∷ []) $ fjoin ! $ move ! (1 ∷ 2 ∷ 0 ∷ []) $ now ! $ done !

  module _ (s : TableView) (m : Announcing) (n : ℕ) where
    one_found : (d : BucketView) (is : Bool) → d.word ≡ m → d.bucket < 63
        → ⟦ lies_with_word m n ⟧ ∗ ⟦ sure_by d is ⟧
        ⊢ guard 𝓤 (is_set n d.bucket ≡ false → NoneIn d.sharing d.bucket tokens) ⟦ lies_with_word m n ⟧
    one_found d true of low =
        qed 𝓛 (‵ (lies_with_word m n) ∷ ‵ (announced d.word d.bucket) ∷ []) ∵
        rewrite ! 1 (λ (w : Announcing). ‵ (announced w d.bucket)) of refl $
        use2 𝓛 (given (is_set n d.bucket ≡ true) (‵ (lies_with_word m n))) (shows 𝓛 m n d.bucket low) $ learn ! (λ is.
        check ! (λ unset. let never : true ≡ false = cc in absurd (cc)) $ done !)
    one_found d false of low =
        qed 𝓛 (‵ (lies_with_word m n) ∷ ‵ (fact (NoneIn d.sharing d.bucket tokens)) ∷ []) ∵ move ! (1 ∷ []) $
        fpick ! (λ none. check ! (λ _. none) $ drop ! $ done !)

    -- none of these buckets has a slot that a token is of, where its bit isn't set
    abbrev pub NoneUnset : ℕ → ℕ → Type 0
    NoneUnset count b = (i : ℕ) → i < count → is_set n (i + b) ≡ false → NoneIn s.sharing (i + b) tokens

    none_from : (count b : ℕ) → (is_set n b ≡ false → NoneIn s.sharing b tokens) → NoneUnset count (suc b)
        → NoneUnset (suc count) b
    none_from count b one others zero near =
        let at : b ≡ 0 + b = omega arith in
        subst (λ (k : ℕ). is_set n k ≡ false → NoneIn s.sharing k tokens) at one
    none_from count b one others (suc i) near =
        let at : i + suc b ≡ suc i + b = omega arith in
        subst (λ (k : ℕ). is_set n k ≡ false → NoneIn s.sharing k tokens) at (others i (omega (arith, near)))

    all_found : (b : ℕ) (ds : List BucketView) → AreOf s m b ds → length ds + b ≤ 63
        → ⟦ lies_with_word m n ⟧ ∗ ⟦ all_sure ds ⟧ ⊢ guard 𝓤 (NoneUnset (length ds) b) ⟦ lies_with_word m n ⟧
    all_found b [] are few =
        qed 𝓛 (‵ (lies_with_word m n) ∷ ‵ ftrue ∷ []) ∵ check ! (λ i near. absurd (omega (arith, near))) $ keep ! (0 ∷ []) $ done !
    all_found b (d ∷ ds) are few =
        let v : BucketView = bucket_view s m b in
        let One : Type 0 = is_set n b ≡ false → NoneIn s.sharing b tokens in
        qed 𝓛 (‵ (lies_with_word m n) ∷ ‵ (all_sure (d ∷ ds)) ∷ []) ∵ move ! (1 ∷ []) $ fsplit ! $
        rewrite ! 0 (λ (z : BucketView). ‵ (sure z)) are.0 refl $ fpick ! (λ is.
        -- [what is sure of the first; of the others; what lies with the word]
        move ! (2 ∷ 0 ∷ []) $
        use2 𝓛 (given One (‵ (lies_with_word m n))) (one_found v is refl (omega (arith, few))) $ learn ! (λ one.
        use2 𝓛 (given (NoneUnset (length ds) (suc b)) (‵ (lies_with_word m n)))
        (all_found (suc b) ds are.1 (omega (arith, few))) $ learn ! (λ others.
        check ! (none_from (length ds) b one others) $ done !)))

  -- what a load of the word finds
  pub record Finds (s : TableView) (n : ℕ) : Type 0 where
    pub first : is_set n 0 ≡ true
    pub none_past : is_set n 63 ≡ false
    pub told : (bucket : ℕ) → bucket < 63 → is_set n bucket ≡ false → NoneIn s.sharing bucket tokens

  module _ (s : TableView) (m : Announcing) (begins : BeginsWithFirst m) (ds : List BucketView) (long : length ds ≡ 63)
      (are : AreOf s m 0 ds) (b o : ℕ) (κ : Lft) (q : Share) where
    abbrev I : Fml
    I = word_invariant (lies_with_word m) b (o + 0)

    finds_all : (n : ℕ) → ⟦ lies_with_word m n ⟧ ∗ ⟦ all_sure ds ⟧ ⊢ guard 𝓤 (Finds s n) ⟦ lies_with_word m n ⟧
    finds_all n =
        qed 𝓛 (‵ (lies_with_word m n) ∷ ‵ (all_sure ds) ∷ []) ∵
        use2 𝓛 (given (NoneUnset s m n (length ds) 0) (‵ (lies_with_word m n))) (all_found s m n 0 ds are (omega (arith, long))) $
        learn ! (λ none.
        use1 𝓛 (given ((bit : ℕ) → bit < 7 → is_set n bit ≡ true) (‵ (lies_with_word m n))) (first_set 𝓛 m n 7 (omega arith) begins) $
        learn ! (λ seven.
        use1 𝓛 (given (is_set n 63 ≡ false) (‵ (lies_with_word m n))) (none_past 𝓛 m n) $ learn ! (λ past.
        check ! (record {
          first = seven 0 (omega arith);
          none_past = past;
          told = λ bucket low.
              let at : bucket + 0 ≡ bucket = omega arith in
              subst (λ (k : ℕ). is_set n k ≡ false → NoneIn s.sharing k tokens) at (none bucket (omega (arith, low, long)));
        }) $ done !)))

    -- the atomic load
    pub loads : A.inv (fbor κ I) ∗ (A.lft κ q ∗ ⟦ all_sure ds ⟧)
        ⊢ asks 𝓛 (block_ptr b (o + 0)) (λ n. n) always (λ n. fsep (flft κ q) (fact (Finds s n)))
    loads =
        stepped 𝓛 (lies_with_word m) b (o + 0) κ q (λ n. n) (λ n. fact (Finds s n)) (all_sure ds) (λ n.
        qed 𝓛 (‵ (lies_with_word m n) ∷ ‵ (all_sure ds) ∷ []) ∵ suffices ! _ (upd_i 𝓤 _) $
        use2 𝓛 (given (Finds s n) (‵ (lies_with_word m n))) (finds_all n) $ learn ! (λ found.
        nothing ! $ fpack ! (Finds s n) (λ _. ftrue) found $ move ! (1 ∷ 0 ∷ []) $ done !))
