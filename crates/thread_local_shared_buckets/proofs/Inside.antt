-- Takes one slot of a standing block, with the word that has its flag, out of the bucket's
-- invariant, and puts both back. Assumes `Logic`.
use Rattle.std.proofs.Common.{◌≡◌, ◌≢◌, ℕ, zero, suc, ◌+◌, ◌/◌, ◌%◌, ◌^◌, ◌<◌, Bool, true, false, List, [], ◌∷◌, length, length-set}
use Rattle.std.proofs.Common.{set, get_or, refl, sym, ap, ◌∙◌, subst, arith, ⊎_elim}
use Rattle.std.proofs.lemmas.Bool.{cases_eq, ne_eqb, eq-eqb, false≢true}
use Rattle.std.proofs.lemmas.List.{get_or-set_same, get_or-set_other}
use Rattle.std.specs.Prelude.{slice_index}
use seplogic.Ra.Ura.{Ura}
use mathlib.Core.List.{not-mem-nil}
use base.Logic.{SProp, emp, upd, ex, all, all_e, guard, upd_i, apply∗, id⊢}
use base.Stored.{Gv, gnil, gcons}
use base.Fml.{Lft, GName, Share, Fml, ftrue, fsep, fex, fauth, fres, fbor, flft, finv, fnamed}
use types.Logic.{Logic}
use types.Kit.{‵, raw, ◌⊛◌, given, some, later, frame, each as for_each, assume, suffices, settle, check, show, ◌$◌}
use types.Kit.{◌∵◌, !, qed, by, move, keep, drop, split, split3, pick, rewrite, fsplit, fsplit3, fjoin, fjoin3, fpick}
use types.Kit.{fpack, learn, await, updating, now, use1, use2, use3, done}
use denote.RattleType.{RattleType}
use denote.RawPtr.{Ptr, block_ptr, null_ptr, block_of, count_of}
use denote.Steps.{nothing}
use Rattle.std.specs.Sync.RawAtomic.{word}
use Rattle.std.specs.Sync.RawAtomic.Pointer.{cell}
use Rattle.thread_local_base.specs.Bits.{is_set, is_set_in, IsWordBut}
use Rattle.thread_local_base.proofs.WordBits.{is_set_in-set}
use Rattle.thread_local_buckets.specs.Slots.{AreWords, each, heap_token, block_ty, word_offset, value_offset, flags_at, back}
use Rattle.thread_local_buckets.proofs.Each.{Put, each_at, each_turned}
use Rattle.thread_local_buckets.proofs.Flags.{in_chunks}
use Rattle.thread_local_shared_buckets.specs.Shared.{name_at, BucketView, Turn, StandingBlock, standing_coded}
use Rattle.thread_local_shared_buckets.specs.Shared.{block_code, shared_slot, numbered_slot, AreFlagWords, slots_under}
use Rattle.thread_local_shared_buckets.specs.Announcing.{announced, announced_unless}
use Rattle.thread_local_shared_buckets.specs.Shared.{len, first, Sized, settled, standing, beside_pointer, announced_where, NoneSet}
use Rattle.thread_local_shared_buckets.specs.Shared.{bucket_invariant}
use Rattle.thread_local_base.proofs.Signs.{signs}

block_code-apart : {Z : Type 0} (s : StandingBlock) → block_code s ≡ gnil → Z
block_code-apart s e = cc

block_code-alike : (s r : StandingBlock) → block_code s ≡ block_code r → s ≡ r
block_code-alike s r e = standing_coded.inj s r (ap second e)
  where
    second : Gv → Gv
    second (gcons x y) = y
    second g = g

pub name_at-get_or : (names : List ℕ) (i : ℕ) → get_or names i 0 ≡ name_at names i
name_at-get_or [] i = refl
name_at-get_or (η ∷ names) zero = refl
name_at-get_or (η ∷ names) (suc i) = name_at-get_or names i

-- a slot of a standing block: its bucket with the turn and the pointer, its index and its id, and
-- where its value lies
pub record SlotAt (R : RattleType) : Type 0 where
  pub d : BucketView
  pub t : Turn
  pub wb : ℕ
  pub wo : ℕ
  pub s : StandingBlock
  pub i : ℕ
  pub k : ℕ
  pub e : ℕ
  pub b : ℕ
  pub low : i < length s.names
  pub at_k : k ≡ i + first R d
  pub at_e : e ≡ value_offset R (count_of s.at) i
  pub at_b : block_of s.at ≡ b

abbrev pub placed : {R : RattleType} (d : BucketView) (t : Turn) (wb wo : ℕ) (s : StandingBlock) (i k e b : ℕ)
    → i < length s.names → k ≡ i + first R d → e ≡ value_offset R (count_of s.at) i → block_of s.at ≡ b → SlotAt R
placed d t wb wo s i k e b low at_k at_e at_b =
    record { d = d; t = t; wb = wb; wo = wo; s = s; i = i; k = k; e = e; b = b; low = low; at_k = at_k; at_e = at_e; at_b = at_b }

-- a word after a step: all its bits but one are what they were
pub record Next (n bit : ℕ) : Type 0 where
  pub word : ℕ
  pub set : Bool
  pub fits : word < 2 ^ 64
  pub but : IsWordBut word n bit set

-- the words of flags, once such a word replaces one of them
module _ (R : RattleType) (n i : ℕ) (ns : List ℕ) (inside : i / 64 < length ns) (y : Next (slice_index ns (i / 64)) (i % 64)) where
  abbrev pub turned : List ℕ
  turned = set ns (i / 64) y.word

  pub turned_here : is_set_in turned i ≡ y.set
  turned_here = is_set_in-set ns i y.word y.set inside y.but i ∙ rw (eq-eqb i i refl) refl

  pub turned_there : (j : ℕ) → j ≢ i → is_set_in turned j ≡ is_set_in ns j
  turned_there j apart = is_set_in-set ns i y.word y.set inside y.but j ∙ rw (ne_eqb i j (λ e. apart (sym e))) refl

  pub turned_flags : i < n → AreFlagWords R n ns → AreFlagWords R n turned
  turned_flags low are = (
    length-set ns (i / 64) y.word ∙ are.0,
    (λ c. fit c),
    (λ j from. turned_there j (λ e. absurd (omega arith)) ∙ are.2 j from),
  )
    where
      fit : AreWords turned
      fit c = ⊎_elim
          (λ (same : c ≡ i / 64). subst (λ (m : ℕ). m < 2 ^ 64) (sym (rw same (get_or-set_same ns (i / 64) y.word 0 inside))) y.fits)
          (λ apart. subst (λ (m : ℕ). m < 2 ^ 64) (sym (get_or-set_other ns (i / 64) c y.word 0 apart)) (are.1 c))
          (cases_eq c (i / 64))

module _ {M : Type 1} {𝓤 : Ura M} (𝓛 : Logic 𝓤) where
  open 𝓛 use {H, A}
  open signs 𝓛 use {⟦◌⟧, ◌⊢◌, ◌∗◌, ◌-∗◌}

  infix 26 ◌⊢◌
  infixr 35 ◌∗◌
  infixr 30 ◌-∗◌
  -- a ghost step inside an invariant that holds a borrow, which a token opens
  pub quietly : (κ : Lft) (q : Share) (I : Fml) (X Q : SProp 𝓤) → ⟦ I ⟧ ∗ X ⊢ upd 𝓤 (⟦ I ⟧ ∗ Q)
      → A.inv (fbor κ I) ∗ A.lft κ q ∗ X ⊢ H.⇛ (Q ∗ A.lft κ q)
  quietly κ q I X Q h = qed 𝓛 (‵ (finv (fbor κ I)) ∷ ‵ (flft κ q) ∷ raw X ∷ []) ∵ updating ! $
      use1 𝓛 (some (λ (j : ℕ). ‵ (fnamed j (fbor κ I)))) (𝓛.invs.inv_named (fbor κ I)) $
      pick ! (λ j. nothing ! $ move ! (1 ∷ 0 ∷ []) $ fjoin ! $ move ! (2 ∷ []) $
      use1 𝓛 (raw ((⟦ I ⟧ ∗ ⟦ ftrue ⟧) -∗ upd 𝓤 (⟦ I ⟧ ∗ ⟦ ftrue ⟧ ∗ Q))) turned $
      move ! (1 ∷ 2 ∷ 0 ∷ []) $
      use3 𝓛 (later (raw Q ⊛ ‵ (flft κ q)))
      (𝓛.invs.invs_bor_acc j κ q I [] Q ((λ m. not-mem-nil m), tt)) $
      await ! tt $ now ! $ done !)
    where
      turned : X ⊢ ((⟦ I ⟧ ∗ ⟦ ftrue ⟧) -∗ upd 𝓤 (⟦ I ⟧ ∗ ⟦ ftrue ⟧ ∗ Q))
      turned =
          qed 𝓛 (raw X ∷ []) ∵ assume ! (‵ I ⊛ ‵ ftrue) $ split ! $ move ! (0 ∷ 2 ∷ []) $
          use2 𝓛 (raw (upd 𝓤 (⟦ I ⟧ ∗ Q))) h $
          settle 𝓛 (⟦ I ⟧ ∗ ⟦ ftrue ⟧ ∗ Q) (‵ I ⊛ raw Q) $
          suffices ! _ (upd_i 𝓤 (⟦ I ⟧ ∗ ⟦ ftrue ⟧ ∗ Q)) $ split ! $ move ! (0 ∷ 2 ∷ 1 ∷ []) $
          done !

  -- The slots of a standing block, taken apart wherever they lie. `Out P` is what is taken out of P,
  -- with the way back to P.
  module _ (R : RattleType) (d : BucketView) (t : Turn) (wb wo : ℕ) (s : StandingBlock) (b : ℕ)
      (at_b : block_of s.at ≡ b) where
    abbrev Whole : Fml
    Whole = bucket_invariant R d t wb wo

    abbrev This : Fml
    This = fres t.which (block_code s)

    abbrev Pointed : Ptr → Fml
    Pointed p = fsep (cell wb wo p) (beside_pointer R d t p)

    abbrev start : ℕ
    start = count_of s.at

    -- the slots under these words, with the words
    abbrev pub Under : List ℕ → Fml
    Under ns =
        slots_under R (len R d) b start (λ ms.
        fsep (announced_where d ms) (each (numbered_slot R t b s.block_life d.sharing d.table (first R d) start ms) s.names 0))
        ns

    module _ (Out : SProp 𝓤 → SProp 𝓤) (lifted : (P Q X : SProp 𝓤) → P ∗ X ⊢ Q → Out P ∗ X ⊢ Out Q)
        (in_row : (ns : List ℕ) → length s.names ≡ len R d → ⟦ Under ns ⟧ ⊢ Out ⟦ fex (List ℕ) Under ⟧) where
      pub block_in : (p : Ptr) (r : Share) → ⟦ standing R d t p (s, r) ⟧ ⊢ Out ⟦ standing R d t p (s, r) ⟧
      block_in p r =
          let Q : Fml = standing R d t p (s, r) in
          let Known : Type 0 = (s.at ≡ p) × (length s.names ≡ len R d) × Sized R (len R d) p in
          let room : Fml = back R b start (len R d) in
          let token : Fml = heap_token (block_ty R (len R d)) p in
          let own : Fml = flft (s.block_life ∷ []) r in
          let S : Fml = settled R d t s in
          let Body : ℕ × ℕ → Fml = λ z.
          fsep (fex (List ℕ) (slots_under R (len R d) z.0 z.1 (λ ns.
          fsep (announced_where d ns) (each (numbered_slot R t z.0 s.block_life d.sharing d.table (first R d) z.1 ns) s.names 0))))
          (back R z.0 z.1 (len R d)) in
          qed 𝓛 (‵ Q ∷ []) ∵ fsplit ! $ fpick ! (λ h.
          let same : ◌≡◌ {A = ℕ × ℕ} (block_of p, count_of p) (b, start) =
          λ j. ((sym (ap block_of h.0) ∙ at_b) j, ap count_of (sym h.0) j) in
          move ! (1 ∷ []) $ fsplit3 ! $ move ! (2 ∷ []) $ fsplit ! $
          -- [what stands; the right to free; settled; the token; nothing]
          rewrite ! 0 (λ (z : ℕ × ℕ). ‵ (Body z)) same refl $ fsplit ! $ fpick ! (λ ns.
          use1 𝓛 (raw (Out ⟦ fex (List ℕ) Under ⟧)) (in_row ns h.1) $
          keep ! (0 ∷ 1 ∷ 2 ∷ 3 ∷ 4 ∷ []) $
          by ! (lifted ⟦ fex (List ℕ) Under ⟧ ⟦ Q ⟧ (⟦ room ⟧ ∗ ⟦ token ⟧ ∗ ⟦ S ⟧ ∗ ⟦ own ⟧) (qed 𝓛
          (‵ (fex (List ℕ) Under) ∷ ‵ room ∷ ‵ token ∷ ‵ S ∷ ‵ own ∷ []) ∵
          fjoin ! $ rewrite ! 0 (λ (z : ℕ × ℕ). ‵ (Body z)) (sym same) refl $ fjoin ! $
          move ! (1 ∷ 2 ∷ 0 ∷ []) $ fjoin3 ! $ nothing ! $ fpack ! Known (λ _. ftrue) h $ fjoin ! $
          done !))))

      in_bucket : (p : Ptr) → ⟦ Pointed p ⟧ ∗ ⟦ This ⟧ ⊢ Out ⟦ Whole ⟧
      in_bucket null_ptr =
          qed 𝓛 (‵ (Pointed null_ptr) ∷ ‵ This ∷ []) ∵ fsplit ! $ move ! (1 ∷ []) $ fsplit ! $
          drop ! $ fsplit ! $ fsplit ! $ move ! (4 ∷ 1 ∷ []) $
          use2 𝓛 (given (block_code s ≡ gnil) (‵ This ⊛ ‵ (fauth t.which gnil)))
          (𝓛.names.res_agree t.which (block_code s) gnil) $
          learn ! (λ e. absurd (block_code-apart s e))
      in_bucket (block_ptr x y) =
          let p : Ptr = block_ptr x y in
          qed 𝓛 (‵ (Pointed p) ∷ ‵ This ∷ []) ∵ fsplit ! $ move ! (1 ∷ []) $ fpick ! (λ z. fsplit ! $
          fpick ! (λ h. move ! (1 ∷ []) $ fsplit ! $ fsplit ! $ move ! (5 ∷ 0 ∷ []) $
          use2 𝓛
          (given (block_code s ≡ block_code z.0) (‵ This ⊛ ‵ (fauth t.which (block_code z.0))))
          (𝓛.names.res_agree t.which (block_code s) (block_code z.0)) $
          learn ! (λ e. split ! $ drop ! $ fjoin ! $ fjoin ! $ move ! (1 ∷ []) $
          fpack ! ((z.0.at ≡ p) × (length z.0.names ≡ len R d) × Sized R (len R d) p) (λ _. ftrue) h $ fjoin ! $
          rewrite ! 0 (λ (w : StandingBlock). ‵ (standing R d t p (w, z.1)))
          (sym (block_code-alike s z.0 e)) refl $
          let S : Fml = standing R d t p (s, z.1) in
          use1 𝓛 (raw (Out ⟦ S ⟧)) (block_in p z.1) $
          by ! (lifted ⟦ S ⟧ ⟦ Whole ⟧ ⟦ cell wb wo p ⟧ (qed 𝓛 (‵ S ∷ ‵ (cell wb wo p) ∷ []) ∵
          fpack ! (StandingBlock × Share) (standing R d t p) (s, z.1) $ move ! (1 ∷ 0 ∷ []) $
          fjoin ! $ fpack ! Ptr Pointed p $ done !)))))

      -- taken out of the invariant of a bucket whose block stands
      pub in_invariant : ⟦ Whole ⟧ ∗ ⟦ This ⟧ ⊢ Out ⟦ Whole ⟧
      in_invariant = qed 𝓛 (‵ Whole ∷ ‵ This ∷ []) ∵ fpick ! (λ p. by ! (in_bucket p))

  module _ (R : RattleType) (slot : SlotAt R) where
    open slot use {d, t, wb, wo, s, i, k, e, b, low, at_k, at_e, at_b}

    abbrev pub I : Fml
    I = bucket_invariant R d t wb wo

    abbrev pub Which : Fml
    Which = fres t.which (block_code s)

    -- the slot, by whether its flag is set
    abbrev pub Slot : Bool → Fml
    Slot set = shared_slot R t b s.block_life d.sharing d.table set k e (name_at s.names i)

    -- the word that has its flag
    abbrev pub Flags : ℕ → Fml
    Flags n = word b (word_offset R (len R d) (count_of s.at) (i / 64)) n

    -- what whoever sets a flag shows, by the flag before and after: that the bucket is announced
    abbrev pub raised : Bool → Bool → Fml
    raised false true = announced d.word d.bucket
    raised true after = ftrue
    raised false false = ftrue

    pub unraised : (before after : Bool) → before ≡ after → emp 𝓤 ⊢ ⟦ raised before after ⟧
    unraised true after same = qed 𝓛 [] ∵ nothing ! $ done !
    unraised false false same = qed 𝓛 [] ∵ nothing ! $ done !
    unraised false true same = cc

    -- the way back: the word is whole again, and only this slot's bit of it may have changed
    abbrev pub Back : SProp 𝓤 → (n : ℕ) → Next n (i % 64) → SProp 𝓤
    Back P n y = (⟦ Flags y.word ⟧ ∗ ⟦ Slot y.set ⟧ ∗ ⟦ raised (is_set n (i % 64)) y.set ⟧) -∗ P

    -- the word and the slot, taken out of what holds them
    abbrev pub Out : SProp 𝓤 → ℕ → SProp 𝓤
    Out P n = guard 𝓤 (n < 2 ^ 64) (⟦ Flags n ⟧ ∗ ⟦ Slot (is_set n (i % 64)) ⟧ ∗ all 𝓤 (Back P n))

    abbrev o : ℕ
    o = count_of s.at

    abbrev Numbered : List ℕ → GName → ℕ → Fml
    Numbered ns = numbered_slot R t b s.block_life d.sharing d.table (first R d) o ns

    abbrev Row : List ℕ → Fml
    Row ns = each (Numbered ns) s.names 0

    abbrev Slots : List ℕ → Fml
    Slots = Under R d t wb wo s b at_b

    numbered_is : (ns : List ℕ) → ◌≡◌ {A = Fml} (Numbered ns (get_or s.names i 0) i) (Slot (is_set_in ns i))
    numbered_is ns =
        let F : ℕ × ℕ × ℕ → Fml = λ z. shared_slot R t b s.block_life d.sharing d.table (is_set_in ns i) z.0 z.1 z.2 in
        let same : ◌≡◌ {A = ℕ × ℕ × ℕ} (i + first R d, value_offset R o i, get_or s.names i 0)
        (k, e, name_at s.names i) = λ j. (sym at_k j, sym at_e j, name_at-get_or s.names i j) in
        ap F same

    apart_same : (ns : List ℕ) (inside : i / 64 < length ns)
        (y : Next (slice_index ns (i / 64)) (i % 64)) (η : GName) (m : ℕ)
        → m ≢ i
        → ⟦ Numbered ns η m ⟧ ⊢ ⟦ Numbered (turned R (len R d) i ns inside y) η m ⟧
    apart_same ns inside y η m apart =
        subst (λ (u : Bool).
        ⟦ Numbered ns η m ⟧
        ⊢ ⟦ shared_slot R t b s.block_life d.sharing d.table u (m + first R d)
        (value_offset R o m) η ⟧)
        (sym (turned_there R (len R d) i ns inside y m apart)) (id⊢ 𝓤 _)

    -- the flags show the same once one of them has turned
    still_shown : (ns ms : List ℕ) (a before after : Bool) → is_set_in ns i ≡ before → is_set_in ms i ≡ after
        → ((j : ℕ) → j ≢ i → is_set_in ms j ≡ is_set_in ns j)
        → ⟦ announced_unless d.word d.bucket (NoneSet ns) a ⟧ ∗ ⟦ raised before after ⟧ ⊢ ⟦ announced_where d ms ⟧
    still_shown ns ms true before after was is others =
        qed 𝓛 (‵ (announced d.word d.bucket) ∷ ‵ (raised before after) ∷ []) ∵ keep ! (0 ∷ []) $
        fpack ! Bool (announced_unless d.word d.bucket (NoneSet ms)) true $ done !
    still_shown ns ms false true after was is others =
        qed 𝓛 (‵ (announced_unless d.word d.bucket (NoneSet ns) false) ∷ ‵ (raised true after) ∷ []) ∵ fpick ! (λ so.
        absurd (false≢true (sym (so.1 i) ∙ was)))
    still_shown ns ms false false true was is others =
        qed 𝓛 (‵ (announced_unless d.word d.bucket (NoneSet ns) false) ∷ ‵ (announced d.word d.bucket) ∷ []) ∵ keep ! (1 ∷ []) $
        fpack ! Bool (announced_unless d.word d.bucket (NoneSet ms)) true $ done !
    still_shown ns ms false false false was is others =
        qed 𝓛 (‵ (announced_unless d.word d.bucket (NoneSet ns) false) ∷ ‵ ftrue ∷ []) ∵ fpick ! (λ so. drop ! $
        let none : NoneSet ms = λ j. ⊎_elim (λ (same : j ≡ i). ap (is_set_in ms) same ∙ is) (λ (apart : j ≢ i). others j apart ∙ so.1 j)
        (cases_eq j i) in
        fpack ! ((is_set d.word.made d.bucket ≡ true) × NoneSet ms) (λ _. ftrue) (so.0, none) $
        fpack ! Bool (announced_unless d.word d.bucket (NoneSet ms)) false $ done !)

    in_row : (ns : List ℕ) → length s.names ≡ len R d → ⟦ Slots ns ⟧ ⊢ ex 𝓤 (Out ⟦ fex (List ℕ) Slots ⟧)
    in_row ns long =
        let c : ℕ = i / 64 in
        let n : ℕ = slice_index ns c in
        let Fs : ℕ → ℕ → Fml = flags_at R (len R d) b o in
        let IsOpened : ℕ → SProp 𝓤 = Out ⟦ fex (List ℕ) Slots ⟧ in
        let name : ℕ = get_or s.names i 0 in
        qed 𝓛 (‵ (Slots ns) ∷ []) ∵ fsplit3 ! $ fpick ! (λ are. drop ! $ move ! (1 ∷ []) $ fsplit ! $ move ! (2 ∷ 1 ∷ []) $
        let inside : c < length ns =
        subst (λ (m : ℕ). c < m) (sym are.0)
        (in_chunks (len R d) i (subst (λ (m : ℕ). i < m) long low)) in
        let T : Next n (i % 64) → List ℕ = λ y. turned R (len R d) i ns inside y in
        let Later : Next n (i % 64) → SProp 𝓤 = λ y. ⟦ Numbered (T y) name i ⟧ -∗ ⟦ Row (T y) ⟧ in
        use1 𝓛 (‵ (Fs n c) ⊛ raw (all 𝓤 (Put 𝓛 Fs ns 0 c c)))
        (each_at 𝓛 Fs ns 0 c c 0 (omega arith) inside) $
        split ! $ move ! (2 ∷ []) $
        use1 𝓛 (‵ (Numbered ns name i) ⊛ raw (all 𝓤 Later)) (each_turned 𝓛 (Numbered ns)
        (λ y. Numbered (T y)) s.names 0 i i 0 (omega arith) low
        (λ y η m apart. apart_same ns inside y η m apart)) $ split ! $
        rewrite ! 0 (λ (G : Fml). ‵ G) (numbered_is ns) refl $
        -- [the slot; its way back; the word; its way back; what the flags show]
        show ! IsOpened n $ check ! (are.1 c) $ move ! (2 ∷ 0 ∷ []) $ frame ! $ frame ! $
        for_each ! (Back ⟦ fex (List ℕ) Slots ⟧ n) (λ y.
        let W : SProp 𝓤 = ⟦ each Fs (T y) 0 ⟧ in
        let set : Bool = is_set_in ns i in
        assume ! (‵ (Flags y.word) ⊛ ‵ (Slot y.set) ⊛ ‵ (raised set y.set)) $ split3 ! $
        -- [the word; the slot; what raises the flag; the slot's way back; the word's; what the flags show]
        move ! (5 ∷ []) $ fpick ! (λ a. move ! (0 ∷ 3 ∷ []) $
        use2 𝓛 (‵ (announced_where d (T y)))
        (still_shown ns (T y) a set y.set refl (turned_here R (len R d) i ns inside y) (turned_there R (len R d) i ns inside y)) $
        -- [what the flags show; the word; the slot; the slot's way back; the word's]
        move ! (4 ∷ 1 ∷ 2 ∷ 3 ∷ []) $
        use1 𝓛 (raw (Put 𝓛 Fs ns 0 c c y.word)) (all_e 𝓤 (Put 𝓛 Fs ns 0 c c) y.word) $
        move ! (1 ∷ 0 ∷ []) $
        use2 𝓛 (‵ (each Fs (T y) 0)) (apply∗ 𝓤 ⟦ Flags y.word ⟧ W) $ move ! (2 ∷ []) $
        use1 𝓛 (raw (Later y)) (all_e 𝓤 Later y) $ move ! (2 ∷ []) $
        rewrite ! 0 (λ (u : Bool). ‵ (Slot u)) (sym (turned_here R (len R d) i ns inside y)) refl $
        rewrite ! 0 (λ (G : Fml). ‵ G) (sym (numbered_is (T y))) refl $
        use2 𝓛 (‵ (Row (T y))) (apply∗ 𝓤 ⟦ Numbered (T y) name i ⟧ ⟦ Row (T y) ⟧) $ move ! (2 ∷ 0 ∷ []) $ fjoin ! $ move ! (1 ∷ 0 ∷ []) $
        nothing ! $
        fpack ! (AreFlagWords R (len R d) (T y)) (λ _. ftrue)
        (turned_flags R (len R d) i ns inside y (subst (λ (m : ℕ). i < m) long low) are) $
        fjoin3 ! $ fpack ! (List ℕ) Slots (T y) $ done !)))

    -- the same, taken out of more than what holds them
    pub lifted : (P Q X : SProp 𝓤) → P ∗ X ⊢ Q → ex 𝓤 (Out P) ∗ X ⊢ ex 𝓤 (Out Q)
    lifted P Q X law =
        qed 𝓛 (some (λ (n : ℕ).
        given (n < 2 ^ 64)
        (‵ (Flags n) ⊛ ‵ (Slot (is_set n (i % 64))) ⊛ raw (all 𝓤 (Back P n))))
        ∷ raw X ∷ []) ∵
        pick ! (λ n. learn ! (λ fits. split3 ! $
        show ! (Out Q) n $ check ! fits $ frame ! $ frame ! $ for_each ! (Back Q n) (λ y.
        let T : SProp 𝓤 = ⟦ Flags y.word ⟧ ∗ ⟦ Slot y.set ⟧ ∗ ⟦ raised (is_set n (i % 64)) y.set ⟧ in
        assume ! (‵ (Flags y.word) ⊛ ‵ (Slot y.set) ⊛ ‵ (raised (is_set n (i % 64)) y.set)) $
        move ! (1 ∷ []) $ use1 𝓛 (raw (Back P n y)) (all_e 𝓤 (Back P n) y) $ move ! (1 ∷ 0 ∷ []) $
        use2 𝓛 (raw P) (apply∗ 𝓤 T P) $ by ! law)))

    pub in_block : (p : Ptr) (r : Share) → ⟦ standing R d t p (s, r) ⟧ ⊢ ex 𝓤 (Out ⟦ standing R d t p (s, r) ⟧)
    in_block = block_in R d t wb wo s b at_b (λ P. ex 𝓤 (Out P)) lifted in_row

    -- the same, taken out of the invariant of a bucket whose block stands
    pub slot_in : ⟦ I ⟧ ∗ ⟦ Which ⟧ ⊢ ex 𝓤 (Out ⟦ I ⟧)
    slot_in = in_invariant R d t wb wo s b at_b (λ P. ex 𝓤 (Out P)) lifted in_row
