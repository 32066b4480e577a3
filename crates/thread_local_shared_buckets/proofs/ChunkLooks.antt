-- A look at the flags of a chunk by a thread that claims none of its slots: it copies what is known of
-- each slot whose flag is set, as a `&` to its value names no thread. Assumes `Logic`.
use Rattle.std.proofs.lemmas.Option.{none-some}
use Rattle.std.proofs.Common.{◌≡◌, ℕ, zero, suc, ◌+◌, ◌*◌, ◌^◌, ◌<◌, Bool, true, false, List, [], ◌∷◌, length, set}
use Rattle.std.proofs.Common.{◌/◌, ◌%◌, ◌≤◌, refl, sym, ap, subst, ◌∙◌, arith, ⊎_elim, Option, Some, None}
use Rattle.std.proofs.lemmas.Bool.{cases_lt}
use Rattle.std.proofs.Math.Nat.{add-mul}
use Rattle.std.proofs.lemmas.List.{set-get_or}
use Rattle.std.specs.Prelude.{slice_index}
use seplogic.Ra.Ura.{Ura}
use base.Logic.{SProp, ex, all, all_e, guard, guard_i, upd_i, apply∗}
use base.Fml.{Lft, GName, Share, Fml, ftrue, fsep, fex, fbor, flft, fres}
use types.Logic.{Logic}
use types.Kit.{‵, raw, ◌⊛◌, some, given, learn, fsplit, keep, use2, check, show, rewrite, frame, assume, ◌$◌, ◌∵◌, !, qed}
use types.Kit.{suffices, by, pick, fpick, move, drop, split, split3, fsplit3, fjoin, fjoin3, fpack, use1, done}
use types.Tokens.{res_dup}
use denote.RattleType.{RattleType}
use denote.Memory.{shared_of}
use denote.RawPtr.{block_ptr, block_of, count_of}
use denote.Steps.{nothing}
use denote.SharingLaws.{contraction}
use denote.Param.Laws.{Laws}
use Rattle.std.specs.Sync.RawAtomic.{asks, always, word}
use Rattle.thread_local_base.proofs.Opened.{Lies}
use Rattle.thread_local_base.proofs.Opened as bucket_opened
use Rattle.thread_local_base.specs.Judged.{Shareable}
use Rattle.thread_local_base.specs.Fact.{fact}
use Rattle.thread_local_base.specs.Bits.{is_set, is_set_in}
use Rattle.thread_local_buckets.specs.Slots.{each, word_offset, value_offset, flags_at}
use Rattle.thread_local_buckets.proofs.Each.{Put, each_at}
use Rattle.thread_local_shared_buckets.specs.Shared.{BucketView, Turn, StandingBlock, Who, block_code}
use Rattle.thread_local_shared_buckets.specs.Shared.{age, opened, shared_value, shared_slot_as}
use Rattle.thread_local_shared_buckets.specs.Shared.{shared_slot, numbered_slot, AreFlagWords, len, first, bucket_invariant}
use Rattle.thread_local_shared_buckets.specs.Shared.{pinned_and_told, if_set}
use Rattle.thread_local_shared_buckets.proofs.Rested.{opens_by}
use Rattle.thread_local_shared_buckets.proofs.Inside.{Under, in_invariant}
use Rattle.thread_local_ids.specs.Told.{tells, untold_in}
use Rattle.thread_local_ids.specs.TokenViews.{TokenView}
use Rattle.thread_local_ids.specs.TokenLists.{AllOf, tell_each}
use Rattle.thread_local_ids.proofs.TokenListLaws.{slot_agrees}
use Rattle.thread_local_ids.proofs.ToldElements.{tells_dup}
use Rattle.thread_local_base.proofs.Signs.{signs}

-- a flag of a chunk, by the chunk's word
set_at : (ns : List ℕ) (c word i : ℕ) → slice_index ns c ≡ word → i / 64 ≡ c → is_set word (i % 64) ≡ true
    → is_set_in ns i ≡ true
set_at ns c word i at here set =
    ap (λ (m : ℕ). is_set (slice_index ns m) (i % 64)) here ∙ ap (λ (w : ℕ). is_set w (i % 64)) at ∙ set

pub set_at_bit : (ns : List ℕ) (c word bit : ℕ) → slice_index ns c ≡ word → bit < 64 → is_set word bit ≡ true
    → is_set_in ns (c * 64 + bit) ≡ true
set_at_bit ns c word bit at small set =
    let there : (c * 64 + bit) % 64 ≡ bit = omega arith in
    set_at ns c word (c * 64 + bit) at (omega arith)
    (subst (λ (m : ℕ). is_set word m ≡ true) (sym there) set)

-- a flag in the chunk's word, by the flags
pub bit_set_at : (ns : List ℕ) (c word bit : ℕ) → slice_index ns c ≡ word → bit < 64
    → is_set_in ns (c * 64 + bit) ≡ true
    → is_set word bit ≡ true
bit_set_at ns c word bit at small set =
    let i : ℕ = c * 64 + bit in
    let there : i % 64 ≡ bit = omega arith in
    let here : i / 64 ≡ c = omega arith in
    sym (ap (λ (m : ℕ). is_set (slice_index ns m) (i % 64)) here ∙ ap (λ (w : ℕ). is_set w (i % 64)) at
    ∙ ap (is_set word) there) ∙ set

-- what holds of the first and of all others holds of all
pub all_from : (P : ℕ → Type 0) (n j : ℕ) → P j → ((i : ℕ) → i < n → P (i + suc j)) → (i : ℕ) → i < suc n → P (i + j)
all_from P n j one all zero near = let same : j ≡ zero + j = omega arith in subst P same one
all_from P n j one all (suc i) near = let same : i + suc j ≡ suc i + j = omega arith in subst P same (all i (omega arith))

-- the value of a slot lies behind that of its chunk's first slot
pub behind_first : (k o c bit : ℕ) → bit * k + (c * 64 * k + o) ≡ (c * 64 + bit) * k + o
behind_first k o c bit =
    let all : (c * 64 + bit) * k ≡ c * 64 * k + bit * k = add-mul (c * 64) bit k in
    omega arith

-- no flag is set past the last slot
pub set_inside : (R : RattleType) (n c word bit : ℕ) (ns : List ℕ)
    → slice_index ns c ≡ word → AreFlagWords R n ns → bit < 64 → is_set word bit ≡ true
    → c * 64 + bit < n
set_inside R n c word bit ns at are small set =
    let i : ℕ = c * 64 + bit in
    let flag : is_set_in ns i ≡ true = set_at_bit ns c word bit at small set in
    ⊎_elim (λ (inside : i < n). inside)
    (λ (past : n ≤ i). let never : true ≡ false = sym flag ∙ are.2 i past in cc) (cases_lt i n)

module _ {M : Type 1} {𝓤 : Ura M} (𝓛 : Logic 𝓤) where
  open 𝓛 use {A}
  open signs 𝓛 use {⟦◌⟧, ◌⊢◌, ◌∗◌, ◌-∗◌}

  infix 26 ◌⊢◌
  infixr 35 ◌∗◌
  infixr 30 ◌-∗◌
  -- where each element keeps one formula and gives another, all of them do
  pub each_gives : {X : Type 0} (F G : X → ℕ → Fml) (xs : List X) (j : ℕ)
      → ((x : X) (k : ℕ) → ⟦ F x k ⟧ ⊢ ⟦ F x k ⟧ ∗ ⟦ G x k ⟧)
      → ⟦ each F xs j ⟧ ⊢ ⟦ each F xs j ⟧ ∗ ⟦ each G xs j ⟧
  each_gives F G [] j law = qed 𝓛 (‵ ftrue ∷ []) ∵ nothing ! $ done !
  each_gives F G (x ∷ xs) j law =
      qed 𝓛 (‵ (F x j) ∷ ‵ (each F xs (suc j)) ∷ []) ∵
      use1 𝓛 (‵ (F x j) ⊛ ‵ (G x j)) (law x j) $ split ! $ move ! (2 ∷ []) $
      use1 𝓛 (‵ (each F xs (suc j)) ⊛ ‵ (each G xs (suc j))) (each_gives F G xs (suc j) law) $
      split ! $
      -- [the others; what they give; this one; what it gives]
      move ! (2 ∷ 0 ∷ []) $ fjoin ! $ move ! (2 ∷ 1 ∷ []) $ fjoin ! $ move ! (1 ∷ 0 ∷ []) $ done !

  -- where each element shows a fact beside a formula, all of them do
  pub each_learns : {X : Type 0} (F : X → ℕ → Fml) (G : Fml) (P : ℕ → Type 0) (xs : List X) (j : ℕ)
      → ((x : X) (k : ℕ) → ⟦ F x k ⟧ ∗ ⟦ G ⟧ ⊢ guard 𝓤 (P k) (⟦ F x k ⟧ ∗ ⟦ G ⟧))
      → ⟦ each F xs j ⟧ ∗ ⟦ G ⟧ ⊢ guard 𝓤 ((i : ℕ) → i < length xs → P (i + j)) (⟦ each F xs j ⟧ ∗ ⟦ G ⟧)
  each_learns F G P [] j law = guard_i 𝓤 _ _ (λ i near. absurd (omega arith))
  each_learns F G P (x ∷ xs) j law =
      qed 𝓛 (‵ (each F (x ∷ xs) j) ∷ ‵ G ∷ []) ∵ fsplit ! $ move ! (0 ∷ 2 ∷ []) $
      use2 𝓛 (given (P j) (‵ (F x j) ⊛ ‵ G)) (law x j) $ learn ! (λ one. split ! $
      -- [this one; the formula; the others]
      move ! (2 ∷ 1 ∷ []) $
      use2 𝓛 (given ((i : ℕ) → i < length xs → P (i + suc j)) (‵ (each F xs (suc j)) ⊛ ‵ G))
      (each_learns F G P xs (suc j) law) $
      learn ! (λ all. split ! $ check ! (all_from P (length xs) j one all) $
      move ! (2 ∷ 0 ∷ []) $ fjoin ! $ done !))

  -- what a slot shows to a list of tokens
  module _ (R : RattleType) (d : BucketView) (t : Turn) (b ν : ℕ) (tokens : List (TokenView R.Denot)) where
    abbrev Tokens : Fml
    Tokens = tell_each R tokens

    abbrev OneAs : Bool → ℕ → ℕ → GName → Option R.Denot × Who → Fml
    OneAs = shared_slot_as R t b ν d.sharing d.table

    abbrev One : Bool → ℕ → ℕ → GName → Fml
    One = shared_slot R t b ν d.sharing d.table

    -- a token of the slot's id knows that the flag is set
    abbrev pub Known : Bool → ℕ → Type 0
    Known set k = AllOf d.sharing (λ p. p.id ≡ k → set ≡ true) tokens

    known_as : (set : Bool) (k e : ℕ) (η : GName) (v : Option R.Denot) (w : Who)
        → ⟦ OneAs set k e η (v, w) ⟧ ∗ ⟦ Tokens ⟧ ⊢ guard 𝓤 (Known set k) (⟦ OneAs set k e η (v, w) ⟧ ∗ ⟦ Tokens ⟧)
    known_as set k e η None w =
        let Untold : Fml = untold_in d.sharing k in
        let Says : Type 0 = AllOf d.sharing (λ p. p.id ≡ k → ◌≡◌ {A = Option R.Denot} None (Some p.value)) tokens in
        qed 𝓛 (‵ (OneAs set k e η (None, w)) ∷ ‵ Tokens ∷ []) ∵ fsplit3 ! $ fpick ! (λ unset. drop ! $
        -- [what stays; who has it; what the tokens tell]
        fsplit ! $ move ! (1 ∷ 3 ∷ []) $
        use2 𝓛 (given Says (‵ Untold ⊛ ‵ Tokens)) (slot_agrees 𝓛 R d.sharing k None tokens) $
        learn ! (λ says. split ! $
        check ! (λ named i x low same at. absurd (none-some _ (says named i x low same at))) $
        -- [untold; what the tokens tell; the right; who has it]
        move ! (2 ∷ 0 ∷ []) $ fjoin ! $ move ! (0 ∷ 2 ∷ []) $ nothing ! $
        fpack ! (set ≡ false) (λ _. ftrue) unset $ fjoin3 ! $ done !))
    known_as set k e η (Some x) w =
        qed 𝓛 (‵ (OneAs set k e η (Some x, w)) ∷ ‵ Tokens ∷ []) ∵ fsplit3 ! $ fpick ! (λ is.
        check ! (λ named i y low same at. is) $
        fpack ! (set ≡ true) (λ _. ftrue) is $ fjoin3 ! $ done !)

    pub known : (set : Bool) (k e : ℕ) (η : GName)
        → ⟦ One set k e η ⟧ ∗ ⟦ Tokens ⟧ ⊢ guard 𝓤 (Known set k) (⟦ One set k e η ⟧ ∗ ⟦ Tokens ⟧)
    known set k e η =
        qed 𝓛 (‵ (One set k e η) ∷ ‵ Tokens ∷ []) ∵ fsplit ! $ move ! (1 ∷ []) $ fpick ! (λ z.
        move ! (0 ∷ 2 ∷ []) $
        use2 𝓛 (given (Known set k) (‵ (OneAs set k e η z) ⊛ ‵ Tokens)) (known_as set k e η z.0 z.1) $
        learn ! (λ so. split ! $ check ! so $ fpack ! (Option R.Denot × Who) (OneAs set k e η) z $
        move ! (2 ∷ 0 ∷ []) $ fjoin ! $ done !))

  module _ (R : RattleType) (L : Laws R) (j : Shareable R) (d : BucketView) (t : Turn)
      (wb wo : ℕ) (s : StandingBlock) (b : ℕ) (at_b : block_of s.at ≡ b) (c : ℕ)
      (near : c * 64 < len R d) (tokens : List (TokenView R.Denot)) where
    abbrev Telling : Fml
    Telling = tell_each R tokens

    abbrev κ : Lft
    κ = age R t b s.block_life

    abbrev o : ℕ
    o = count_of s.at

    abbrev I : Fml
    I = bucket_invariant R d t wb wo

    abbrev Which : Fml
    Which = fres t.which (block_code s)

    -- what is copied of a slot with the value x
    abbrev Value : ℕ → ℕ → GName → R.Denot → Fml
    Value k e η x = fsep (pinned_and_told R d.sharing k η x) (opened R t b s.block_life e x)

    abbrev SlotAs : Bool → ℕ → ℕ → GName → Option R.Denot × Who → Fml
    SlotAs = shared_slot_as R t b s.block_life d.sharing d.table

    abbrev Slot : Bool → ℕ → ℕ → GName → Fml
    Slot = shared_slot R t b s.block_life d.sharing d.table

    -- 1. One slot.

    copied_as : (set : Bool) (k e : ℕ) (η : GName) (v : Option R.Denot) (w : Who)
        → ⟦ SlotAs set k e η (v, w) ⟧ ⊢ ⟦ SlotAs set k e η (v, w) ⟧ ∗ ⟦ if_set R (Value k e η) set ⟧
    copied_as set k e η None w =
        qed 𝓛 (‵ (SlotAs set k e η (None, w)) ∷ []) ∵ fsplit3 ! $ fpick ! (λ unset.
        rewrite ! 0 (λ (u : Bool). ‵ (if_set R (Value k e η) u)) (sym unset) refl $ nothing ! $
        fpack ! (set ≡ false) (λ _. ftrue) unset $
        move ! (0 ∷ 2 ∷ 3 ∷ []) $ fjoin3 ! $ done !)
    copied_as set k e η (Some x) w =
        let S : Lft → Fml = shared_of R x b e in
        let Shared : Fml = shared_value R t b s.block_life e x in
        let Open : Fml = opened R t b s.block_life e x in
        let Told : Fml = tells R d.sharing k (Some x) in
        qed 𝓛 (‵ (SlotAs set k e η (Some x, w)) ∷ []) ∵ fsplit3 ! $ fpick ! (λ is. drop ! $
        -- [what stays; who has it]
        fsplit3 ! $ move ! (1 ∷ []) $ fsplit ! $ res_dup ! $ move ! (2 ∷ []) $
        use1 𝓛 (‵ Told ⊛ ‵ Told) (tells_dup 𝓛 R d.sharing k (Some x)) $ split ! $
        -- [what is told, twice; the pin, twice; the token; opened; who has it]
        move ! (2 ∷ 0 ∷ []) $ fjoin ! $ move ! (2 ∷ 1 ∷ []) $ fjoin ! $ move ! (3 ∷ []) $
        use1 𝓛 (‵ Shared) (all_e 𝓤 (λ (_ : Shareable R). ⟦ Shared ⟧) j) $
        use1 𝓛 (‵ Shared ⊛ ‵ Shared) (contraction 𝓛 S (L.shr_laws x b e) κ) $ split ! $
        use1 𝓛 (‵ Open) (opens_by 𝓛 t R L b s.block_life e η x) $ move ! (1 ∷ []) $
        use1 𝓛 (‵ Open) (opens_by 𝓛 t R L b s.block_life e η x) $
        -- [opened, twice; what is pinned and told, twice; the token; who has it]
        move ! (2 ∷ 0 ∷ []) $ fjoin ! $ fpack ! R.Denot (Value k e η) x $
        rewrite ! 0 (λ (u : Bool). ‵ (if_set R (Value k e η) u)) (sym is) refl $
        -- [the copy; opened; what is pinned and told; the token; who has it]
        move ! (3 ∷ 2 ∷ 1 ∷ []) $ fjoin3 ! $ nothing ! $ fpack ! (set ≡ true) (λ _. ftrue) is $
        move ! (0 ∷ 1 ∷ 3 ∷ []) $ fjoin3 ! $ done !)

    copied : (set : Bool) (k e : ℕ) (η : GName)
        → ⟦ Slot set k e η ⟧ ⊢ ⟦ Slot set k e η ⟧ ∗ ⟦ if_set R (Value k e η) set ⟧
    copied set k e η =
        qed 𝓛 (‵ (Slot set k e η) ∷ []) ∵ fsplit ! $ move ! (1 ∷ []) $ fpick ! (λ z.
        use1 𝓛 (‵ (SlotAs set k e η z) ⊛ ‵ (if_set R (Value k e η) set))
        (copied_as set k e η z.0 z.1) $
        split ! $ fpack ! (Option R.Denot × Who) (SlotAs set k e η) z $ move ! (2 ∷ 0 ∷ []) $
        fjoin ! $ done !)

    -- 2. All slots of the block, and the word of the chunk.

    -- what is copied of the slots, under these words
    abbrev pub Copy : List ℕ → GName → ℕ → Fml
    Copy ns η i = if_set R (Value (i + first R d) (value_offset R o i) η) (is_set_in ns i)

    -- the flag of each slot that a token is of is set in these words
    abbrev pub ShowTokens : List ℕ → Type 0
    ShowTokens ns = (i : ℕ) → i < len R d → AllOf d.sharing (λ p. p.id ≡ i + first R d → is_set_in ns i ≡ true) tokens

    -- the words, of which that of the chunk is n
    abbrev pub AreFlagsWith : ℕ → List ℕ → Type 0
    AreFlagsWith n ns = (slice_index ns c ≡ n) × AreFlagWords R (len R d) ns × ShowTokens ns

    abbrev pub copies_under : ℕ → List ℕ → Fml
    copies_under n ns = fsep (fact (AreFlagsWith n ns)) (each (Copy ns) s.names 0)

    -- what a look that loads n as the word has of the slots
    abbrev pub copies : ℕ → Fml
    copies n = fex (List ℕ) (copies_under n)

    abbrev Flags : ℕ → Fml
    Flags n = word b (word_offset R (len R d) o c) n

    -- the word and the copies, taken out of P, with the way back
    abbrev Out : SProp 𝓤 → ℕ → SProp 𝓤
    Out P n = guard 𝓤 (n < 2 ^ 64) (⟦ Flags n ⟧ ∗ ⟦ copies n ⟧ ∗ (⟦ Flags n ⟧ -∗ P))

    abbrev Slots : List ℕ → Fml
    Slots = Under 𝓛 R d t wb wo s b at_b

    in_row : (ns : List ℕ) → length s.names ≡ len R d → ⟦ Slots ns ⟧ ⊢ (⟦ Telling ⟧ -∗ ex 𝓤 (Out ⟦ fex (List ℕ) Slots ⟧))
    in_row ns long =
        let n : ℕ = slice_index ns c in
        let Fs : ℕ → ℕ → Fml = flags_at R (len R d) b o in
        let Numbered : GName → ℕ → Fml = numbered_slot R t b s.block_life d.sharing d.table (first R d) o ns in
        let Row : Fml = each Numbered s.names 0 in
        let At : ℕ → Type 0 = λ i. AllOf d.sharing (λ p. p.id ≡ i + first R d → is_set_in ns i ≡ true) tokens in
        qed 𝓛 (‵ (Slots ns) ∷ []) ∵ assume ! (‵ Telling) $ move ! (1 ∷ []) $ fsplit3 ! $ fpick ! (λ are. drop ! $
        move ! (1 ∷ []) $ fsplit ! $
        -- [what the flags show; the slots; the words; what the tokens tell]
        move ! (1 ∷ 3 ∷ []) $
        use2 𝓛 (given ((i : ℕ) → i < length s.names → At (i + 0)) (‵ Row ⊛ ‵ Telling))
        (each_learns Numbered Telling At s.names 0 (λ η i.
        known R d t b s.block_life tokens (is_set_in ns i) (i + first R d) (value_offset R o i) η)) $
        learn ! (λ shows. split ! $ move ! (1 ∷ []) $ drop ! $ move ! (2 ∷ 0 ∷ []) $
        let shown : ShowTokens ns = λ i low. (let same : i + 0 ≡ i = omega arith in
        subst At same (shows i (subst (λ (m : ℕ). i < m) (sym long) low))) in
        let inside : c < length ns = subst (λ (m : ℕ). c < m) (sym are.0) (let n : c * 64 < len R d = near in omega arith) in
        let Words : Fml = each Fs (set ns c n) 0 in
        use1 𝓛 (‵ (Fs n c) ⊛ raw (all 𝓤 (Put 𝓛 Fs ns 0 c c)))
        (each_at 𝓛 Fs ns 0 c c 0 (omega arith) inside) $
        split ! $ move ! (2 ∷ []) $
        use1 𝓛 (‵ Row ⊛ ‵ (each (Copy ns) s.names 0))
        (each_gives Numbered (Copy ns) s.names 0 (λ η i.
        copied (is_set_in ns i) (i + first R d) (value_offset R o i) η)) $
        split ! $
        -- [the slots; the copies; the word; its way back]
        move ! (1 ∷ []) $ nothing ! $ fpack ! (AreFlagsWith n ns) (λ _. ftrue) (refl, are, shown) $
        fjoin ! $ fpack ! (List ℕ) (copies_under n) ns $
        show ! (Out ⟦ fex (List ℕ) Slots ⟧) n $ check ! (are.1 c) $ move ! (2 ∷ 0 ∷ []) $ frame ! $
        frame ! $ assume ! (‵ (Flags n)) $ move ! (2 ∷ []) $
        use1 𝓛 (raw (Put 𝓛 Fs ns 0 c c n)) (all_e 𝓤 (Put 𝓛 Fs ns 0 c c) n) $
        move ! (1 ∷ 0 ∷ []) $
        use2 𝓛 (‵ Words) (apply∗ 𝓤 ⟦ Flags n ⟧ ⟦ Words ⟧) $
        rewrite ! 0 (λ (ms : List ℕ). ‵ (each Fs ms 0)) (set-get_or ns c 0) refl $
        move ! (2 ∷ 1 ∷ []) $ fjoin ! $ move ! (1 ∷ 0 ∷ []) $ nothing ! $
        fpack ! (AreFlagWords R (len R d) ns) (λ _. ftrue) are $ fjoin3 ! $
        fpack ! (List ℕ) Slots ns $ done !))

    lifted : (P Q X : SProp 𝓤) → P ∗ X ⊢ Q → ex 𝓤 (Out P) ∗ X ⊢ ex 𝓤 (Out Q)
    lifted P Q X law =
        qed 𝓛 (some (λ (n : ℕ).
        given (n < 2 ^ 64) (‵ (Flags n) ⊛ ‵ (copies n) ⊛ raw (⟦ Flags n ⟧ -∗ P)))
        ∷ raw X ∷ []) ∵
        pick ! (λ n. learn ! (λ fits. split3 ! $
        show ! (Out Q) n $ check ! fits $ frame ! $ frame ! $ assume ! (‵ (Flags n)) $
        move ! (0 ∷ 1 ∷ []) $ use2 𝓛 (raw P) (apply∗ 𝓤 ⟦ Flags n ⟧ P) $ by ! law))

    abbrev Told : SProp 𝓤 → SProp 𝓤
    Told P = ⟦ Telling ⟧ -∗ ex 𝓤 (Out P)

    told_lifted : (P Q X : SProp 𝓤) → P ∗ X ⊢ Q → Told P ∗ X ⊢ Told Q
    told_lifted P Q X law =
        qed 𝓛 (raw (Told P) ∷ raw X ∷ []) ∵ assume ! (‵ Telling) $
        use2 𝓛 (raw (ex 𝓤 (Out P))) (apply∗ 𝓤 ⟦ Telling ⟧ (ex 𝓤 (Out P))) $ by ! (lifted P Q X law)

    -- 3. The look: one atomic load of the word.

    pub looks : (q : Share)
        → A.inv (fbor t.life I) ∗ (A.lft t.life q ∗ (⟦ Which ⟧ ∗ ⟦ Telling ⟧))
        ⊢ asks 𝓛 (block_ptr b (word_offset R (len R d) o c)) (λ n. n) always (λ n. fsep (flft t.life q) (copies n))
    looks q =
        let at : ℕ = word_offset R (len R d) o c in
        let L : ℕ → SProp 𝓤 = Lies 𝓛 t.life q I b at (λ n. n) copies in
        bucket_opened.opened 𝓛 t.life q I b at (λ n. n) copies (⟦ Which ⟧ ∗ ⟦ Telling ⟧) (qed 𝓛
        (‵ I ∷ (‵ Which ⊛ ‵ Telling) ∷ []) ∵
        suffices ! _ (upd_i 𝓤 (ex 𝓤 L)) $ move ! (1 ∷ []) $ split ! $ move ! (2 ∷ 0 ∷ []) $
        use2 𝓛 (raw (Told ⟦ I ⟧)) (in_invariant 𝓛 R d t wb wo s b at_b Told told_lifted in_row) $
        move ! (1 ∷ 0 ∷ []) $
        use2 𝓛 (some (λ (n : ℕ).
        given (n < 2 ^ 64) (‵ (Flags n) ⊛ ‵ (copies n) ⊛ raw (⟦ Flags n ⟧ -∗ ⟦ I ⟧))))
        (apply∗ 𝓤 ⟦ Telling ⟧ (ex 𝓤 (Out ⟦ I ⟧))) $
        pick ! (λ n. learn ! (λ fits. split3 ! $
        show ! L n $ frame ! $ assume ! (‵ (Flags n)) $ let Then : SProp 𝓤 = ⟦ I ⟧ ∗ ⟦ copies n ⟧ in
        suffices ! _ (upd_i 𝓤 Then) $ move ! (0 ∷ 2 ∷ []) $
        use2 𝓛 (‵ I) (apply∗ 𝓤 ⟦ Flags n ⟧ ⟦ I ⟧) $ keep ! (0 ∷ 1 ∷ []) $ done !)))
