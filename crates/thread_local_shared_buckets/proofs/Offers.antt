-- Offers a private block to a bucket that is missing: it is lent, and comes back where another
-- block is installed first. Assumes `Logic`.
--
-- The slot of the claim that offers the block may be filled, and no other is. The block is lent for a
-- lifetime of its own beside the turn's life. Once it is installed, its slots are born under the turn,
-- each with the tokens that waited for it, and a filled one with its value. Else that lifetime ends, and
-- the block is its maker's again, with the value.
use Rattle.std.proofs.Common.{◌≡◌, ◌∙◌, ℕ, zero, suc, ◌+◌, ◌<◌, Bool, true, false, List, [], ◌∷◌, ◌++◌, length, is_some, refl, sym}
use Rattle.std.proofs.Common.{ap, subst, lit<, arith, Option, None, Some}
use Rattle.std.specs.Prelude.{slice_set}
use Rattle.std.proofs.lemmas.List.{length-append, length-replicate, get_or_past}
use Rattle.std.specs.Coded.{coded_option}
use seplogic.Ra.Ura.{Ura}
use mir.Syntax.{Ty}
use base.Fraction.{full_share, left, right}
use base.Stored.{Gv, gnil}
use base.Logic.{SProp, ex, guard, upd, upd_i, guard_i, id⊢}
use base.Fml.{Lft, GName, Share, Incl, Incl-trans, Fml, ftrue, ffalse, fsep, fex, flft, fdead, fobs, fauth, fres, fbor, flent}
use contract.BorrowLft.{meet_⊑_left, meet_⊑_right, ⊑_meet}
use contract.Monad.{fact_use}
use ghost.Rules.{Toks, span}
use types.Logic.{Logic, lfts}
use types.Kit.{‵, raw, ◌⊛◌, some, given, later, ◌$◌, ◌∵◌, !, qed, by, move, keep, drop, use0, use1, use2, split}
use types.Kit.{split3, group, join, fsplit, fsplit3, fjoin, fjoin3, fpick, fpack, pick, learn, check, show, frame, assume}
use types.Kit.{suffices, settle, await, updating, now, rewrite, done}
use types.Tokens.{name_new, name_agree, res_dup, res_agree, lft_new, lft_end, bor_new, lent_back}
use denote.RattleType.{RattleType}
use denote.Param.Laws.{Laws}
use denote.RawPtr.{Ptr, block_ptr, null_ptr, block_of, count_of, InBlock, Testable}
use denote.Steps.{nothing}
use Rattle.std.specs.Sync.RawAtomic.Pointer.{cell, alike, compares}
use Rattle.std.specs.declared.alloc.Global.{Global}
use Rattle.std.specs.contracts.impls.GlobalAllocator.TheImpl.{ghosts}
use Rattle.std.proofs.GlobalToken.{dealloc_token-Testable}
use Rattle.thread_local_ids.specs.Rights.{right_owns, note_owns}
use Rattle.thread_local_ids.proofs.RightElements.{right_once}
use Rattle.thread_local_base.specs.Judged.{Judged}
use Rattle.thread_local_base.specs.Bits.{is_set_in}
use Rattle.thread_local_buckets.specs.Slots.{each, chunks, AreFlags, flags_at, block_ty, value_offset, content_at, slot}
use Rattle.thread_local_buckets.specs.Slots.{flags, back, block_owns, empty_slots, slot_value, heap_token, Fits}
use Rattle.thread_local_buckets.proofs.Rooms.{each_cut, each_joined}
use Rattle.thread_local_shared_buckets.specs.Shared.{BucketView, Turn, StandingBlock, Who, free, claimed, early, block_code}
use Rattle.thread_local_shared_buckets.specs.Shared.{value_code, pinned, opened, tracked_value, age, holds, lies_with_slot, shared_slot_as}
use Rattle.thread_local_shared_buckets.specs.Shared.{by as lent_by}
use Rattle.thread_local_shared_buckets.specs.Shared.{numbered_slot, AreFlagWords, slots_under, slots_stand, block_stands}
use Rattle.thread_local_shared_buckets.specs.Shared.{slots_side, all_unborn, Sized, len, first, standing, beside_pointer, grown, NoneSet}
use Rattle.thread_local_shared_buckets.specs.Announcing.{announced, announced_unless}
use Rattle.thread_local_shared_buckets.specs.Shared.{bucket_invariant}
use Rattle.thread_local_ids.specs.Told.{untold_in, tells}
use Rattle.thread_local_ids.specs.Sharings.{Belongs, left_after}
use Rattle.thread_local_ids.proofs.ToldElements.{tells_dup}
use Rattle.thread_local_ids.proofs.ToldNotes.{publishes_noted}
use Rattle.thread_local_shared_buckets.proofs.Rested.{publishes}
use Rattle.thread_local_base.proofs.Pointers.{Compared, opened_to_compare, alike_null}
use Rattle.thread_local_shared_buckets.proofs.Loads.{part, glimpse, parted}
use Rattle.thread_local_base.proofs.Signs.{signs}

-- who has a slot that is born: the claim that took its pass before, or nobody
abbrev who : Bool → Who
who true = early
who false = free

none_at : {X : Type 0} (n i : ℕ) → slot_value (empty_slots {X = X} n) i ≡ None
none_at zero i = get_or_past [] i None (omega arith)
none_at (suc n) zero = refl
none_at (suc n) (suc i) = none_at n i

-- n slots of which the one at an index holds this, and the others nothing
abbrev pub with_first : {X : Type 0} → ℕ → Option X → ℕ → List (Option X)
with_first at v rest = empty_slots at ++ (v ∷ empty_slots rest)

module _ {X : Type 0} (v : Option X) where
  abbrev tail_of : List (Option X) → List (Option X)
  tail_of [] = []
  tail_of (c ∷ cs) = cs

  abbrev head_of : List (Option X) → Option X
  head_of [] = None
  head_of (c ∷ cs) = c

  -- slots are such if the one at the index holds this and they are empty without it
  pub parted_slots : (cs : List (Option X)) (at n rest : ℕ) → at < length cs → n ≡ at + suc rest
      → slice_set cs at None ≡ empty_slots n → slot_value cs at ≡ v → cs ≡ with_first at v rest
  parted_slots [] at n rest low many none here = absurd (omega arith)
  parted_slots (c ∷ cs) zero n rest low many none here =
      let n_is : n ≡ suc rest = omega (arith, many) in
      let all : ◌≡◌ {A = List (Option X)} (None ∷ cs) (empty_slots (suc rest)) = none ∙ ap (λ (m : ℕ). empty_slots {X = X} m) n_is in
      λ k. here k ∷ tail_of (all k)
  parted_slots (c ∷ cs) (suc at) n rest low many none here =
      let n_is : n ≡ suc (at + suc rest) = omega (arith, many) in
      let all : c ∷ slice_set cs at None ≡ empty_slots (suc (at + suc rest)) = none ∙ ap (λ (m : ℕ). empty_slots {X = X} m) n_is in
      λ k. head_of (all k) ∷ parted_slots cs at (at + suc rest) rest (omega (arith, low)) refl (ap tail_of all) here k

  first_long : (at rest : ℕ) → length (with_first at v rest) ≡ at + suc rest
  first_long zero rest = let none : Option X = None in let many : length (empty_slots {X = X} rest) ≡ rest = length-replicate rest none in omega (arith, many)
  first_long (suc at) rest = let many : length (with_first at v rest) ≡ at + suc rest = first_long at rest in omega (arith, many)

  first_here : (at rest : ℕ) → slot_value (with_first at v rest) at ≡ v
  first_here zero rest = refl
  first_here (suc at) rest = first_here at rest

  first_before : (at rest i : ℕ) → i < at → slot_value (with_first at v rest) i ≡ None
  first_before zero rest i low = absurd (omega (arith, low))
  first_before (suc at) rest zero low = refl
  first_before (suc at) rest (suc i) low = first_before at rest i (omega (arith, low))

  first_behind : (at rest i k : ℕ) → k ≡ i + suc at → slot_value (with_first at v rest) k ≡ None
  first_behind zero rest i k is =
      let at : k ≡ suc i = omega (arith, is) in ap (slot_value (with_first 0 v rest)) at ∙ none_at {X = X} rest i
  first_behind (suc at) rest i zero is = absurd (omega (arith, is))
  first_behind (suc at) rest i (suc k) is = first_behind at rest i k (omega (arith, is))

module _ (R : RattleType) (v : Option R.Denot) (at rest : ℕ) (ns : List ℕ) (are : AreFlags ns (with_first at v rest)) where
  here_set : is_set_in ns at ≡ is_some v
  here_set = are.flags at ∙ ap is_some (first_here v at rest)

  before_clear : (i : ℕ) → i < at → is_set_in ns i ≡ false
  before_clear i low = are.flags i ∙ ap is_some (first_before v at rest i low)

  behind_clear : (i k : ℕ) → k ≡ i + suc at → is_set_in ns k ≡ false
  behind_clear i k is = are.flags k ∙ ap is_some (first_behind v at rest i k is)

  flag_words : (n : ℕ) → n ≡ at + suc rest → length ns + 0 ≡ chunks (length (with_first at v rest)) → AreFlagWords R n ns
  flag_words n many long =
      let few : length (with_first at v rest) ≡ n = first_long v at rest ∙ sym many in (
        omega arith ∙ long ∙ ap chunks few,
        are.words,
        λ i past. are.flags i ∙ ap is_some (get_or_past (with_first at v rest) i None (omega (arith, past, few))),
      )

module _ {M : Type 1} {𝓤 : Ura M} (𝓛 : Logic 𝓤) (R : RattleType) (t : Turn) where
  open 𝓛 use {H, A}
  open signs 𝓛 use {⟦◌⟧, ◌⊢◌, ◌∗◌}

  infix 26 ◌⊢◌
  infixr 35 ◌∗◌
  -- what the claim that offers a block gets when that is installed, by what its slot holds: an empty slot
  -- leaves it its pass
  abbrev pub won_by : Option GName → Option R.Denot → ℕ → Fml
  won_by sharing None j = right_owns t.pass j
  won_by sharing (Some x) j = fsep (right_owns t.filled j) (tells R sharing j (Some x))

  -- the same, with the note of the slot's id
  abbrev pub Won_by : Option GName → ℕ → Option Gv → Option R.Denot → ℕ → Fml
  Won_by sharing table says v j = fsep (won_by sharing v j) (note_owns table j (left_after R sharing table says v))

  module _ (b ν : ℕ) where
    abbrev κ : Lft
    κ = age R t b ν

    -- an empty slot whose room is lent
    abbrev pub bare : ℕ → GName → Fml
    bare e η = fsep (flent κ (tracked_value R b e η)) (fsep (fobs η (value_code R None)) (fbor κ (tracked_value R b e η)))

    lends_one : (e : ℕ) → ⟦ content_at R None b e ⟧ ⊢ H.⇛ (ex 𝓤 (λ (η : GName). ⟦ bare e η ⟧))
    lends_one e = qed 𝓛 (‵ (content_at R None b e) ∷ []) ∵ updating ! $ name_new ! tt (value_code R None) (λ η.
        -- [its name, in two halves; the room]
        move ! (2 ∷ 1 ∷ []) $ fjoin ! $
        fpack ! (Option R.Denot) (λ c. fsep (content_at R c b e) (fauth η (value_code R c))) None $
        bor_new ! tt κ $
        -- [the borrow; the way to its end; its name]
        move ! (2 ∷ 0 ∷ []) $ fjoin ! $ move ! (1 ∷ 0 ∷ []) $ fjoin ! $ now ! $
        show ! (λ (μ : GName). ⟦ bare e μ ⟧) η $ done !)

    takes_one : (e : ℕ) (η : GName) → A.dead κ ∗ ⟦ bare e η ⟧ ⊢ H.⇛ ⟦ content_at R None b e ⟧
    takes_one e η =
        qed 𝓛 (‵ (fdead κ) ∷ ‵ (bare e η) ∷ []) ∵ updating ! $ move ! (1 ∷ []) $ fsplit3 ! $
        move ! (3 ∷ 0 ∷ []) $ lent_back ! tt $ fpick ! (λ c. fsplit ! $
        -- [what lies there; its authority; its name; the borrow]
        move ! (2 ∷ 1 ∷ []) $ name_agree ! (coded_option R.coded) {x = None} {y = c} (λ z. drop ! $ drop ! $
        rewrite ! 0 (λ (u : Option R.Denot). ‵ (content_at R u b e)) (sym z) refl $ now ! $ keep ! (0 ∷ []) $ done !))

    module _ (o : ℕ) where
      -- the empty slot at an index
      abbrev pub bare_slot : GName → ℕ → Fml
      bare_slot η i = bare (value_offset R o i) η

      abbrev Lent : ℕ → ℕ → List ℕ → SProp 𝓤
      Lent m i names = guard 𝓤 (length names ≡ m) ⟦ each bare_slot names i ⟧

      lends_all : (m i : ℕ) → ⟦ each (slot R b o) (empty_slots m) i ⟧ ⊢ H.⇛ (ex 𝓤 (Lent m i))
      lends_all zero i = qed 𝓛 (‵ ftrue ∷ []) ∵ updating ! $ now ! $ show ! (Lent 0 i) [] $ check ! refl $ done !
      lends_all (suc m) i =
          let e : ℕ = value_offset R o i in
          qed 𝓛 (‵ (each (slot R b o) (empty_slots (suc m)) i) ∷ []) ∵ updating ! $ fsplit ! $
          use1 𝓛 (later (some (λ (η : GName). ‵ (bare e η)))) (lends_one e) $ await ! tt $
          pick ! (λ η. move ! (1 ∷ []) $
          use1 𝓛 (later (some (λ (names : List ℕ).
          given (length names ≡ m) (‵ (each bare_slot names (suc i))))))
          (lends_all m (suc i)) $
          await ! tt $ pick ! (λ names. learn ! (λ long.
          move ! (1 ∷ 0 ∷ []) $ fjoin ! $ now ! $ show ! (Lent (suc m) i) (η ∷ names) $ check ! (ap suc long) $ done !)))

      takes_all : (names : List ℕ) (i : ℕ)
          → A.dead κ ∗ ⟦ each bare_slot names i ⟧
          ⊢ H.⇛ ⟦ each (slot R b o) (empty_slots (length names)) i ⟧
      takes_all [] i = qed 𝓛 (‵ (fdead κ) ∷ ‵ ftrue ∷ []) ∵ updating ! $ drop ! $ now ! $ done !
      takes_all (η ∷ names) i =
          let e : ℕ = value_offset R o i in
          qed 𝓛 (‵ (fdead κ) ∷ ‵ (each bare_slot (η ∷ names) i) ∷ []) ∵ updating ! $
          use1 𝓛 (‵ (fdead κ) ⊛ ‵ (fdead κ)) (𝓛.lfts.dead_dup κ) $ split ! $ move ! (2 ∷ []) $
          fsplit ! $
          move ! (2 ∷ 0 ∷ []) $ use2 𝓛 (later (‵ (content_at R None b e))) (takes_one e η) $
          await ! tt $ move ! (2 ∷ 1 ∷ []) $
          use2 𝓛 (later (‵ (each (slot R b o) (empty_slots (length names)) (suc i))))
          (takes_all names (suc i)) $
          await ! tt $ move ! (1 ∷ 0 ∷ []) $ fjoin ! $ now ! $ done !

      waited : (sharing : Option GName) (table k e : ℕ) (η : GName) (w : Bool)
          → ⟦ slots_side R w table t.pass k ⟧ ∗ ⟦ holds R t b ν sharing k e η None ⟧
          ⊢ ⟦ lies_with_slot R t b ν sharing table k e η None (who w) ⟧
      waited sharing table k e η true =
          qed 𝓛 (‵ (right_owns table k) ∷ ‵ (holds R t b ν sharing k e η None) ∷ []) ∵ fjoin ! $
          done !
      waited sharing table k e η false =
          qed 𝓛 (‵ (right_owns t.pass k) ∷ ‵ (holds R t b ν sharing k e η None) ∷ []) ∵ fjoin ! $
          done !

      module _ (sharing : Option GName) (table k : ℕ) (ns : List ℕ) where
        first_clear : (i : ℕ) {m : ℕ} → ((j : ℕ) → j < suc m → is_set_in ns (j + i) ≡ false) → is_set_in ns i ≡ false
        first_clear i clear = let at : 0 + i ≡ i = omega arith in subst (λ (k : ℕ). is_set_in ns k ≡ false) at (clear 0 (omega arith))

        next_clear : (i m : ℕ) → ((j : ℕ) → j < suc m → is_set_in ns (j + i) ≡ false)
            → (j : ℕ) → j < m → is_set_in ns (j + suc i) ≡ false
        next_clear i m clear j near =
            let at : suc j + i ≡ j + suc i = omega arith in
            subst (λ (k : ℕ). is_set_in ns k ≡ false) at (clear (suc j) (omega (arith, near)))

        -- what stays with an empty slot
        abbrev Unborn : ℕ → Fml
        Unborn j = fsep (right_owns t.filled j) (untold_in sharing j)

        born_one : (i : ℕ) (η : GName) (w : Bool) → is_set_in ns i ≡ false
            → ⟦ right_owns t.vacant (i + k) ⟧ ∗ ⟦ Unborn (i + k) ⟧
            ∗ ⟦ slots_side R w table t.pass (i + k) ⟧ ∗ ⟦ bare_slot η i ⟧
            ⊢ ⟦ numbered_slot R t b ν sharing table k o ns η i ⟧
        born_one i η w clear =
            let j : ℕ = i + k in
            let e : ℕ = value_offset R o i in
            let set : Bool = is_set_in ns i in
            let v : Option R.Denot = None in
            qed 𝓛 (‵ (right_owns t.vacant j) ∷ ‵ (Unborn j) ∷ ‵ (slots_side R w table t.pass j)
            ∷ ‵ (bare e η) ∷ []) ∵
            move ! (3 ∷ []) $ fsplit3 ! $
            -- [the way to its end; its name; the borrow; vacant; filled; what waits]
            move ! (3 ∷ 1 ∷ 2 ∷ []) $ fjoin3 ! $ move ! (3 ∷ 0 ∷ []) $
            use2 𝓛 (‵ (lies_with_slot R t b ν sharing table j e η None (who w)))
            (waited sharing table j e η w) $
            move ! (2 ∷ 0 ∷ []) $ fjoin ! $
            nothing ! $ fpack ! (set ≡ is_some v) (λ _. ftrue) clear $ fjoin ! $
            fpack ! (Option R.Denot × Who) (shared_slot_as R t b ν sharing table set j e η)
            (None, who w) $
            move ! (1 ∷ 0 ∷ []) $ fjoin ! $ done !

        born_all : (names : List ℕ) (i : ℕ) → ((j : ℕ) → j < length names → is_set_in ns (j + i) ≡ false)
            → ⟦ all_unborn R sharing table t (length names) (i + k) ⟧ ∗ ⟦ each bare_slot names i ⟧
            ⊢ ⟦ each (numbered_slot R t b ν sharing table k o ns) names i ⟧
        born_all [] i clear = qed 𝓛 (‵ ftrue ∷ ‵ ftrue ∷ []) ∵ drop ! $ done !
        born_all (η ∷ names) i clear = let j : ℕ = i + k in let next : suc (i + k) ≡ suc i + k = omega arith in
            qed 𝓛 (‵ (all_unborn R sharing table t (length (η ∷ names)) j)
            ∷ ‵ (each bare_slot (η ∷ names) i) ∷ []) ∵
            fsplit ! $ fsplit3 ! $ move ! (2 ∷ []) $ fpick ! (λ w. move ! (4 ∷ []) $ fsplit ! $
            -- [the slot; the other slots; what waits; vacant; filled; the others that are unborn]
            move ! (3 ∷ 4 ∷ 2 ∷ 0 ∷ []) $ group ! 4 $
            use1 𝓛 (‵ (numbered_slot R t b ν sharing table k o ns η i)) (born_one i η w (first_clear i clear)) $ frame ! $
            move ! (1 ∷ []) $
            rewrite ! 0 (λ (m : ℕ). ‵ (all_unborn R sharing table t (length names) m)) next refl $
            by ! (born_all names (suc i) (next_clear i (length names) clear)))

      -- ---- the slot that is filled before the block stands
      module _ (L : Laws R) (x : R.Denot) where
        -- what lies with it while nobody else sees the block
        abbrev pub full : ℕ → GName → Fml
        full e η = fsep (flent κ (tracked_value R b e η)) (fsep (pinned R η x) (opened R t b ν e x))

        -- what its claim has of it
        abbrev pub gained : ℕ → GName → Fml
        gained e η = fsep (pinned R η x) (fex (Judged R) (lent_by R t b ν e η x))

        abbrev Dressed : Toks → ℕ → GName → SProp 𝓤
        Dressed ts e η = ⟦ full e η ⟧ ∗ ⟦ gained e η ⟧ ∗ lfts 𝓛 ts

        lends_full : (ts : Toks) → Incl (span ts) R.lives → Incl (span ts) κ → Judged R → (e : ℕ)
            → ⟦ content_at R (Some x) b e ⟧ ∗ lfts 𝓛 ts ⊢ H.⇛ (ex 𝓤 (Dressed ts e))
        lends_full ts inc sp j e =
            qed 𝓛 (‵ (content_at R (Some x) b e) ∷ raw (lfts 𝓛 ts) ∷ []) ∵ updating ! $
            name_new ! tt (value_code R (Some x)) (λ η.
            move ! (2 ∷ 1 ∷ []) $ fjoin ! $
            fpack ! (Option R.Denot) (λ c. fsep (content_at R c b e) (fauth η (value_code R c))) (Some x) $
            bor_new ! tt κ $
            -- [the borrow; the way to its end; the name; the lifetimes]
            move ! (2 ∷ []) $
            use1 𝓛 (‵ (pinned R η x)) (𝓛.names.obs-res η (value_code R (Some x))) $ res_dup ! $
            move ! (1 ∷ []) $ res_dup ! $ move ! (0 ∷ 3 ∷ []) $ join ! $ move ! (0 ∷ 4 ∷ []) $
            use2 𝓛
            (later (‵ (opened R t b ν e x) ⊛ ‵ (fex (Judged R) (lent_by R t b ν e η x))
            ⊛ raw (lfts 𝓛 ts)))
            (publishes 𝓛 t R L b ν e η ts inc sp x j) $
            await ! tt $ split3 ! $
            -- [opened; by; the lifetimes; pinned, twice; the way to the end]
            move ! (3 ∷ 0 ∷ []) $ fjoin ! $ move ! (4 ∷ 0 ∷ []) $ fjoin ! $ move ! (3 ∷ 1 ∷ []) $ fjoin ! $
            now ! $ show ! (Dressed ts e) η $ move ! (1 ∷ 0 ∷ 2 ∷ []) $ done !)

        takes_full : (e : ℕ) (η : GName) → A.dead κ ∗ ⟦ full e η ⟧ ⊢ H.⇛ ⟦ content_at R (Some x) b e ⟧
        takes_full e η =
            qed 𝓛 (‵ (fdead κ) ∷ ‵ (full e η) ∷ []) ∵ updating ! $ move ! (1 ∷ []) $ fsplit3 ! $
            -- [the way to its end; pinned; opened; its life is over]
            move ! (3 ∷ 0 ∷ []) $ lent_back ! tt $ fpick ! (λ c. fsplit ! $
            -- [what lies there; its authority; pinned; opened]
            move ! (2 ∷ 1 ∷ []) $ res_agree ! (coded_option R.coded) {x = Some x} {y = c} (λ z. drop ! $ drop ! $
            rewrite ! 0 (λ (u : Option R.Denot). ‵ (content_at R u b e)) (sym z) refl $ now ! $ keep ! (0 ∷ []) $ done !))

        module _ (sharing : Option GName) (table k : ℕ) (ns : List ℕ) (says : Option Gv) (same : Belongs sharing table) where
          -- the slot is born with its value, for the claim that has its pass
          full_reborn : (i : ℕ) (η : GName) → is_set_in ns i ≡ true
              → ⟦ right_owns t.vacant (i + k) ⟧ ∗ ⟦ fsep (right_owns t.filled (i + k)) (untold_in sharing (i + k)) ⟧
              ∗ ⟦ right_owns table (i + k) ⟧ ∗ ⟦ right_owns t.pass (i + k) ⟧ ∗ ⟦ full (value_offset R o i) η ⟧
              ∗ ⟦ note_owns table (i + k) says ⟧
              ⊢ upd 𝓤 (⟦ numbered_slot R t b ν sharing table k o ns η i ⟧ ∗ ⟦ Won_by sharing table says (Some x) (i + k) ⟧)
          full_reborn i η set =
              let j : ℕ = i + k in
              let e : ℕ = value_offset R o i in
              let bit : Bool = is_set_in ns i in
              let v : Option R.Denot = Some x in
              let Told : Fml = tells R sharing j v in
              let Note : Fml = note_owns table j (left_after R sharing table says v) in
              let Z : SProp 𝓤 = ⟦ numbered_slot R t b ν sharing table k o ns η i ⟧ ∗ ⟦ Won_by sharing table says v j ⟧ in
              qed 𝓛 (‵ (right_owns t.vacant j) ∷ ‵ (fsep (right_owns t.filled j) (untold_in sharing j))
              ∷ ‵ (right_owns table j) ∷ ‵ (right_owns t.pass j) ∷ ‵ (full e η) ∷ ‵ (note_owns table j says) ∷ []) ∵
              move ! (1 ∷ []) $ fsplit ! $ move ! (1 ∷ 6 ∷ []) $
              use2 𝓛 (raw (upd 𝓤 (⟦ Told ⟧ ∗ ⟦ Note ⟧))) (publishes_noted 𝓛 R sharing table j says x same) $ settle 𝓛 Z (‵ Told ⊛ ‵ Note) $
              suffices ! _ (upd_i 𝓤 Z) $ split ! $ use1 𝓛 (‵ Told ⊛ ‵ Told) (tells_dup 𝓛 R sharing j v) $ split ! $
              move ! (7 ∷ []) $ fsplit3 ! $
              -- [the way to its end; pinned; opened; told, twice; the note; filled; vacant; the right; the pass]
              move ! (1 ∷ 3 ∷ []) $ fjoin ! $ move ! (6 ∷ 0 ∷ 2 ∷ []) $ fjoin3 ! $
              -- [what stays; the way to its end; told; the note; filled; the right; the pass]
              move ! (5 ∷ 6 ∷ []) $ fjoin ! $ move ! (1 ∷ 0 ∷ []) $ fjoin ! $
              nothing ! $ fpack ! (bit ≡ is_some v) (λ _. ftrue) set $ fjoin ! $
              fpack ! (Option R.Denot × Who) (shared_slot_as R t b ν sharing table bit j e η) (v, claimed) $
              -- [the slot, as it is; the way to its end; told; the note; filled]
              move ! (1 ∷ 0 ∷ []) $ fjoin ! $ move ! (3 ∷ 1 ∷ []) $ fjoin ! $ move ! (0 ∷ 2 ∷ []) $ fjoin ! $ move ! (1 ∷ 0 ∷ []) $ done !

          -- so it is whoever has the slot: with the pass it is the claim
          full_born : (i : ℕ) (η : GName) (w : Bool) → is_set_in ns i ≡ true
              → ⟦ right_owns t.vacant (i + k) ⟧ ∗ ⟦ fsep (right_owns t.filled (i + k)) (untold_in sharing (i + k)) ⟧
              ∗ ⟦ slots_side R w table t.pass (i + k) ⟧ ∗ ⟦ right_owns t.pass (i + k) ⟧ ∗ ⟦ full (value_offset R o i) η ⟧
              ∗ ⟦ note_owns table (i + k) says ⟧
              ⊢ upd 𝓤 (⟦ numbered_slot R t b ν sharing table k o ns η i ⟧ ∗ ⟦ Won_by sharing table says (Some x) (i + k) ⟧)
          full_born i η false set =
              let j : ℕ = i + k in
              qed 𝓛 (‵ (right_owns t.vacant j) ∷ ‵ (fsep (right_owns t.filled j) (untold_in sharing j))
              ∷ ‵ (right_owns t.pass j) ∷ ‵ (right_owns t.pass j) ∷ ‵ (full (value_offset R o i) η)
              ∷ ‵ (note_owns table j says) ∷ []) ∵
              keep ! (2 ∷ 3 ∷ []) $ by ! (right_once 𝓛 t.pass j _)
          full_born i η true set = full_reborn i η set

      -- ---- the slot of the claim that offers the block, whatever it holds
      module _ (L : Laws R) where
        -- what lies with it while nobody else sees the block
        abbrev pub mine : Option R.Denot → ℕ → GName → Fml
        mine None e η = bare e η
        mine (Some x) e η = full L x e η

        -- what its claim has of it meanwhile
        abbrev pub gained_of : Option R.Denot → ℕ → GName → Fml
        gained_of None e η = ftrue
        gained_of (Some x) e η = gained L x e η

        abbrev Clothed : Option R.Denot → Toks → ℕ → GName → SProp 𝓤
        Clothed v ts e η = ⟦ mine v e η ⟧ ∗ ⟦ gained_of v e η ⟧ ∗ lfts 𝓛 ts

        lends_mine : (v : Option R.Denot) (ts : Toks) → Incl (span ts) R.lives → Incl (span ts) κ → Judged R → (e : ℕ)
            → ⟦ content_at R v b e ⟧ ∗ lfts 𝓛 ts ⊢ H.⇛ (ex 𝓤 (Clothed v ts e))
        lends_mine None ts inc sp j e =
            qed 𝓛 (‵ (content_at R None b e) ∷ raw (lfts 𝓛 ts) ∷ []) ∵ updating ! $
            use1 𝓛 (later (some (λ (η : GName). ‵ (bare e η)))) (lends_one e) $ await ! tt $
            pick ! (λ η. nothing ! $ now ! $ show ! (Clothed None ts e) η $ move ! (1 ∷ 0 ∷ 2 ∷ []) $ done !)
        lends_mine (Some x) ts inc sp j e = lends_full L x ts inc sp j e

        takes_mine : (v : Option R.Denot) (e : ℕ) (η : GName) → A.dead κ ∗ ⟦ mine v e η ⟧ ⊢ H.⇛ ⟦ content_at R v b e ⟧
        takes_mine None e η = takes_one e η
        takes_mine (Some x) e η = takes_full L x e η

        module _ (sharing : Option GName) (table k : ℕ) (ns : List ℕ) (says : Option Gv) (same : Belongs sharing table) where
          mine_born : (v : Option R.Denot) (i : ℕ) (η : GName) (w : Bool) → is_set_in ns i ≡ is_some v
              → ⟦ right_owns t.vacant (i + k) ⟧ ∗ ⟦ fsep (right_owns t.filled (i + k)) (untold_in sharing (i + k)) ⟧
              ∗ ⟦ slots_side R w table t.pass (i + k) ⟧ ∗ ⟦ right_owns t.pass (i + k) ⟧ ∗ ⟦ mine v (value_offset R o i) η ⟧
              ∗ ⟦ note_owns table (i + k) says ⟧
              ⊢ upd 𝓤 (⟦ numbered_slot R t b ν sharing table k o ns η i ⟧ ∗ ⟦ Won_by sharing table says v (i + k) ⟧)
          mine_born None i η w clear =
              let j : ℕ = i + k in
              qed 𝓛 (‵ (right_owns t.vacant j) ∷ ‵ (Unborn sharing table k ns j) ∷ ‵ (slots_side R w table t.pass j) ∷ ‵ (right_owns t.pass j)
              ∷ ‵ (bare (value_offset R o i) η) ∷ ‵ (note_owns table j says) ∷ []) ∵
              suffices ! _ (upd_i 𝓤 (⟦ numbered_slot R t b ν sharing table k o ns η i ⟧ ∗ ⟦ Won_by sharing table says None j ⟧)) $
              move ! (3 ∷ 5 ∷ []) $ fjoin ! $ move ! (1 ∷ 2 ∷ 3 ∷ 4 ∷ 0 ∷ []) $ group ! 4 $
              use1 𝓛 (‵ (numbered_slot R t b ν sharing table k o ns η i)) (born_one sharing table k ns i η w clear) $ done !
          mine_born (Some x) i η w set = full_born L x sharing table k ns says same i η w set

  unborn_apart : (sharing : Option GName) (table n m r k j : ℕ) → n ≡ m + r → j ≡ m + k
      → ⟦ all_unborn R sharing table t n k ⟧ ⊢ ⟦ all_unborn R sharing table t m k ⟧ ∗ ⟦ all_unborn R sharing table t r j ⟧
  unborn_apart sharing table n zero r k j many is =
      let few : n ≡ r = omega (arith, many) in
      let at : k ≡ j = omega (arith, is) in
      qed 𝓛 (‵ (all_unborn R sharing table t n k) ∷ []) ∵
      rewrite ! 0 (λ (z : ℕ). ‵ (all_unborn R sharing table t z k)) few refl $
      rewrite ! 0 (λ (z : ℕ). ‵ (all_unborn R sharing table t r z)) at refl $ nothing ! $ done !
  unborn_apart sharing table zero (suc m) r k j many is = absurd (omega (arith, many))
  unborn_apart sharing table (suc n) (suc m) r k j many is =
      qed 𝓛 (‵ (all_unborn R sharing table t (suc n) k) ∷ []) ∵ fsplit ! $ move ! (1 ∷ []) $
      use1 𝓛 (‵ (all_unborn R sharing table t m (suc k)) ⊛ ‵ (all_unborn R sharing table t r j))
      (unborn_apart sharing table n m r (suc k) j (omega (arith, many)) (omega (arith, is))) $ split ! $
      move ! (2 ∷ 0 ∷ []) $ fjoin ! $ done !

  -- the names of a block's slots: of those before the claim's, its own, and of those behind it
  pub record Names : Type 0 where
    pub before : List ℕ
    pub here : ℕ
    pub behind : List ℕ

  abbrev pub names_of : Names → List ℕ
  names_of z = z.before ++ (z.here ∷ z.behind)

  module _ (L : Laws R) (d : BucketView) (a : Global) (v : Option R.Denot) (at rest : ℕ) (many : len R d ≡ at + suc rest) where
    abbrev n : ℕ
    n = len R d

    abbrev τ : Ty
    τ = block_ty R n

    abbrev pub cs : List (Option R.Denot)
    cs = with_first at v rest

    as_many : length cs ≡ n
    as_many = first_long v at rest ∙ sym many

    -- the block with these names, whose lifetime is ν
    abbrev pub block_as : Ptr → ℕ → Names → StandingBlock
    block_as p ν z = record { at = p; block_life = ν; names = names_of z }

    pub record Lies (p : Ptr) (z : Names) : Type 0 where
      pub before : length z.before ≡ at
      pub behind : length z.behind ≡ rest
      pub sized : Sized R n p

    names_long : (p : Ptr) (z : Names) → Lies p z → length (names_of z) ≡ n
    names_long p z so =
        let all : length (names_of z) ≡ length z.before + suc (length z.behind) = length-append z.before (z.here ∷ z.behind) in
        omega (arith, all, so.before, so.behind, many)

    -- a block whose room is lent: its flags, its slots, the way back, and the right to free it
    abbrev pub idle : Ptr → ℕ → Names → Fml
    idle p ν z =
        fsep (flags R (block_of p) (count_of p) cs) (fsep
        (fsep (each (bare_slot (block_of p) ν (count_of p)) z.before 0)
        (fsep (mine (block_of p) ν (count_of p) L v (value_offset R (count_of p) at) z.here)
        (each (bare_slot (block_of p) ν (count_of p)) z.behind (suc at))))
        (fsep (back R (block_of p) (count_of p) n) (ghosts.dealloc_token a τ p)))

    -- a block that nobody else sees: the whole token of its own lifetime, and the block
    abbrev pub private : Ptr → ℕ → Names → Fml
    private p ν z = fsep (flft (ν ∷ []) full_share) (idle p ν z)

    abbrev pub Blank : Ptr → Fml
    Blank p = block_owns R (ghosts.dealloc_token a) p cs 0

    pub placed : (p : Ptr) → ⟦ Blank p ⟧ ⊢ guard 𝓤 (InBlock p) ⟦ Blank p ⟧
    placed p =
        qed 𝓛 (‵ (Blank p) ∷ []) ∵ fsplit ! $ fpick ! (λ so. drop ! $ check ! so.0 $ nothing ! $
        fpack ! (InBlock p × Fits R (length cs)) (λ _. ftrue) so $ fjoin ! $ done !)

    -- what the claim has beside the private block
    abbrev pub Gained : Ptr → ℕ → Names → Fml
    Gained p ν z = gained_of (block_of p) ν (count_of p) L v (value_offset R (count_of p) at) z.here

    pub lend_out : (s : Share) (υ : Lft) (r : Share) → Incl υ R.lives → Judged R → (p : Ptr)
        → ⟦ Blank p ⟧ ∗ A.lft t.life s ∗ A.lft υ r
        ⊢ H.⇛ (ex 𝓤 (λ (y : ℕ × Names). guard 𝓤 (Lies p y.1)
        (⟦ private p y.0 y.1 ⟧ ∗ ⟦ Gained p y.0 y.1 ⟧ ∗ A.lft t.life s ∗ A.lft υ r)))
    lend_out s υ r alive j p =
        let b : ℕ = block_of p in
        let o : ℕ = count_of p in
        let Lent : ℕ × Names → SProp 𝓤 = λ y.
        guard 𝓤 (Lies p y.1) (⟦ private p y.0 y.1 ⟧ ∗ ⟦ Gained p y.0 y.1 ⟧ ∗ A.lft t.life s ∗ A.lft υ r) in
        let first_slots : List (Option R.Denot) = empty_slots at in
        let long : length first_slots ≡ at = (let none : Option R.Denot = None in length-replicate at none) in
        qed 𝓛 (‵ (Blank p) ∷ ‵ (flft t.life s) ∷ ‵ (flft υ r) ∷ []) ∵ updating ! $ fsplit3 ! $ fpick ! (λ so. drop ! $
        move ! (1 ∷ []) $ fsplit3 ! $
        -- [the slots; the way back; the right to free; the words; the life's token; the other]
        move ! (1 ∷ []) $ rewrite ! 0 (λ (m : ℕ). ‵ (back R b o m)) as_many refl $ move ! (2 ∷ []) $
        rewrite ! 0 (λ (m : ℕ). ‵ (ghosts.dealloc_token a (block_ty R m) p)) as_many refl $
        use1 𝓛 (given (Testable p) (‵ (ghosts.dealloc_token a τ p)))
        (fact_use 𝓤 (Testable p) (dealloc_token-Testable 𝓛 a τ p)
        (guard_i 𝓤 (Testable p) ⟦ ghosts.dealloc_token a τ p ⟧)) $
        learn ! (λ test. lft_new ! tt (λ ν.
        -- [its own token; the right to free; the way back; the slots; the words; the life's token; the other]
        move ! (3 ∷ []) $
        use1 𝓛 (‵ (each (slot R b o) first_slots 0) ⊛ ‵ (each (slot R b o) (v ∷ empty_slots rest) at))
        (each_cut 𝓛 (slot R b o) first_slots (v ∷ empty_slots rest) 0 at (omega (arith, long))) $ split ! $
        use1 𝓛 (later (some (λ (names : List ℕ).
        given (length names ≡ at) (‵ (each (bare_slot b ν o) names 0)))))
        (lends_all b ν o at 0) $
        await ! tt $ pick ! (λ before. learn ! (λ long_before. move ! (1 ∷ []) $ fsplit ! $ move ! (1 ∷ []) $
        use1 𝓛 (later (some (λ (names : List ℕ).
        given (length names ≡ rest) (‵ (each (bare_slot b ν o) names (suc at))))))
        (lends_all b ν o rest (suc at)) $
        await ! tt $ pick ! (λ behind. learn ! (λ long_behind.
        -- [the slots behind; the claim's slot; the slots before; its own token; the right to free; the way back; the words; the life's
        -- token; the other]
        let ts : Toks = (ν ∷ [], full_share) ∷ (t.life, s) ∷ (υ, r) ∷ [] in
        move ! (3 ∷ 7 ∷ 8 ∷ []) $ group ! 3 $ move ! (2 ∷ 0 ∷ []) $
        use2 𝓛 (later (some (λ (η : GName).
        ‵ (mine b ν o L v (value_offset R o at) η) ⊛ ‵ (gained_of b ν o L v (value_offset R o at) η) ⊛ raw (lfts 𝓛 ts))))
        (lends_mine b ν o L v ts
        (Incl-trans (meet_⊑_right (ν ∷ []) (t.life ++ υ)) (Incl-trans (meet_⊑_right t.life υ) alive))
        (⊑_meet ((ν ∷ []) ++ (t.life ++ υ)) (ν ∷ []) t.life (meet_⊑_left (ν ∷ []) (t.life ++ υ))
        (Incl-trans (meet_⊑_right (ν ∷ []) (t.life ++ υ)) (meet_⊑_left t.life υ)))
        j (value_offset R o at)) $
        await ! tt $ pick ! (λ η. split3 ! $
        move ! (2 ∷ []) $ use1 𝓛 (‵ (flft (ν ∷ []) full_share) ⊛ ‵ (flft t.life s) ⊛ ‵ (flft υ r)) (id⊢ 𝓤 _) $ split3 ! $
        -- [its own token; the life's; the other; the claim's slot; what the claim has; the slots behind; before; the right to free;
        -- the way back; the words]
        move ! (8 ∷ 7 ∷ []) $ fjoin ! $
        -- [the ends; its own token; the life's; the other; the claim's slot; what the claim has; the slots behind; before; the
        -- words]
        move ! (4 ∷ 6 ∷ []) $ fjoin ! $ move ! (6 ∷ 0 ∷ []) $ fjoin ! $
        -- [the slots; the ends; its own token; the life's; the other; its claim's; the words]
        move ! (6 ∷ 0 ∷ 1 ∷ []) $ fjoin3 ! $ move ! (1 ∷ 0 ∷ []) $ fjoin ! $
        -- [the private block; the life's token; the other; its claim's]
        move ! (0 ∷ 3 ∷ 1 ∷ 2 ∷ []) $
        let z : Names = record { before = before; here = η; behind = behind } in
        now ! $ show ! Lent (ν, z) $
        check ! (record { before = long_before; behind = long_behind; sized = (so.0, test, subst (Fits R) as_many so.1) }) $
        done !))))))))

    -- the whole token ends the lifetime, and the block comes back
    pub take_back : (p : Ptr) (ν : ℕ) (z : Names) → Lies p z → ⟦ private p ν z ⟧ ⊢ H.⇛ ⟦ Blank p ⟧
    take_back p ν z so =
        let b : ℕ = block_of p in
        let o : ℕ = count_of p in
        let κ₀ : Lft = ν ∷ t.life in
        let first_slots : List (Option R.Denot) = empty_slots at in
        let long : length first_slots ≡ at = (let none : Option R.Denot = None in length-replicate at none) in
        qed 𝓛 (‵ (private p ν z) ∷ []) ∵ updating ! $ fsplit3 ! $ lft_end ! tt $
        use1 𝓛 (‵ (fdead κ₀)) (𝓛.lfts.dead-incl κ₀ (ν ∷ []) (meet_⊑_left (ν ∷ []) t.life)) $
        use1 𝓛 (‵ (fdead κ₀) ⊛ ‵ (fdead κ₀)) (𝓛.lfts.dead_dup κ₀) $ split ! $
        use1 𝓛 (‵ (fdead κ₀) ⊛ ‵ (fdead κ₀)) (𝓛.lfts.dead_dup κ₀) $ split ! $
        -- [its life is over, three times; the words; the slots and the ends]
        move ! (4 ∷ []) $ fsplit3 ! $ fsplit3 ! $
        -- [the slots before; the claim's; those behind; the way back; the right to free; its life is over, three times; the words]
        move ! (5 ∷ 0 ∷ []) $
        use2 𝓛 (later (‵ (each (slot R b o) (empty_slots (length z.before)) 0))) (takes_all b ν o z.before 0) $ await ! tt $
        rewrite ! 0 (λ (m : ℕ). ‵ (each (slot R b o) (empty_slots m) 0)) so.before refl $
        move ! (5 ∷ 1 ∷ []) $
        use2 𝓛 (later (‵ (content_at R v b (value_offset R o at)))) (takes_mine b ν o L v (value_offset R o at) z.here) $
        await ! tt $ move ! (5 ∷ 2 ∷ []) $
        use2 𝓛 (later (‵ (each (slot R b o) (empty_slots (length z.behind)) (suc at)))) (takes_all b ν o z.behind (suc at)) $
        await ! tt $ rewrite ! 0 (λ (m : ℕ). ‵ (each (slot R b o) (empty_slots m) (suc at))) so.behind refl $
        -- [the slots behind; the claim's; those before; the way back; the right to free; the words]
        move ! (1 ∷ 0 ∷ []) $ fjoin ! $ move ! (1 ∷ 0 ∷ []) $
        use2 𝓛 (‵ (each (slot R b o) cs 0))
        (each_joined 𝓛 (slot R b o) first_slots (v ∷ empty_slots rest) 0 at (omega (arith, long))) $
        -- [the slots; the way back; the right to free; the words]
        move ! (1 ∷ []) $ rewrite ! 0 (λ (m : ℕ). ‵ (back R b o m)) (sym as_many) refl $ move ! (2 ∷ []) $
        rewrite ! 0 (λ (m : ℕ). ‵ (ghosts.dealloc_token a (block_ty R m) p)) (sym as_many) refl $
        move ! (1 ∷ 0 ∷ []) $ fjoin ! $ move ! (1 ∷ 0 ∷ []) $ fjoin ! $ move ! (1 ∷ 0 ∷ []) $ fjoin ! $ nothing ! $
        fpack ! (InBlock p × Fits R (length cs)) (λ _. ftrue) (so.sized.0, subst (Fits R) (sym as_many) so.sized.2) $
        fjoin ! $ now ! $ done !

    -- the id of the claim's slot
    abbrev pub id : ℕ
    id = at + first R d

    module _ (says : Option Gv) (same : Belongs d.sharing d.table) where
      -- what the claim gets when the block is installed
      abbrev pub Won : Fml
      Won = Won_by d.sharing d.table says v id

      -- what the claim needs for that: its pass, and the note of its id
      abbrev pub Note : Fml
      Note = note_owns d.table id says

      abbrev pub Ticket : Fml
      Ticket = fsep (right_owns t.pass id) Note

      -- the block's slots are born under the turn, the claim's for whoever has its pass
      born_block : (p : Ptr) (ν : ℕ) (z : Names) → Lies p z
          → ⟦ all_unborn R d.sharing d.table t n (first R d) ⟧ ∗ ⟦ idle p ν z ⟧ ∗ ⟦ right_owns t.pass id ⟧ ∗ ⟦ Note ⟧
          ∗ ⟦ announced d.word d.bucket ⟧
          ⊢ upd 𝓤 (⟦ fsep (block_stands R d t p (block_as p ν z)) (heap_token τ p) ⟧
          ∗ ⟦ Won ⟧)
      born_block p ν z so =
          let b : ℕ = block_of p in
          let o : ℕ = count_of p in
          let k : ℕ = first R d in
          let s : StandingBlock = block_as p ν z in
          let Z : SProp 𝓤 = ⟦ fsep (block_stands R d t p s) (heap_token τ p) ⟧ ∗ ⟦ Won ⟧ in
          let Rest : ℕ → Fml = λ m. all_unborn R d.sharing d.table t rest m in
          let Unborn : ℕ → ℕ → Fml = λ m j. all_unborn R d.sharing d.table t m j in
          let from_first : k ≡ 0 + k = omega arith in
          let next : suc id ≡ suc at + k = omega arith in
          qed 𝓛 (‵ (Unborn n k) ∷ ‵ (idle p ν z) ∷ ‵ (right_owns t.pass id) ∷ ‵ Note ∷ ‵ (announced d.word d.bucket) ∷ []) ∵
          use1 𝓛 (‵ (Unborn at k) ⊛ ‵ (Unborn (suc rest) id)) (unborn_apart d.sharing d.table n at (suc rest) k id many refl) $ split ! $
          move ! (1 ∷ []) $ fsplit ! $
          -- [the claim's slot, unborn; the slots behind, unborn; the slots before, unborn; the block; the pass]
          fsplit3 ! $ move ! (2 ∷ []) $ fpick ! (λ w. move ! (5 ∷ []) $ fsplit3 ! $ fpick ! (λ ns. fsplit3 ! $ fpick ! (λ are. drop ! $
          -- [the words; nothing; the slots; the ends; what waits; vacant; filled; the slots behind, unborn; before, unborn; the pass]
          move ! (1 ∷ []) $ drop ! $ move ! (1 ∷ []) $ fsplit3 ! $
          -- [the slots before; the claim's; those behind; the words; the ends; what waits; vacant; filled; the slots behind, unborn;
          -- before, unborn; the pass]
          let N : GName → ℕ → Fml = numbered_slot R t b ν d.sharing d.table k o ns in
          move ! (6 ∷ 7 ∷ 5 ∷ 10 ∷ 1 ∷ 11 ∷ []) $ group ! 6 $
          use1 𝓛 (raw (upd 𝓤 (⟦ N z.here at ⟧ ∗ ⟦ Won ⟧)))
          (mine_born b ν o L d.sharing d.table k ns says same v at z.here w (here_set R v at rest ns are.1)) $
          settle 𝓛 Z (‵ (N z.here at) ⊛ ‵ Won) $ suffices ! _ (upd_i 𝓤 Z) $ split ! $
          -- [the claim's slot; what the claim gets; the slots before; behind; the words; the ends; behind, unborn; before, unborn]
          move ! (7 ∷ []) $ rewrite ! 0 (λ (m : ℕ). ‵ (Unborn at m)) from_first refl $
          rewrite ! 0 (λ (m : ℕ). ‵ (Unborn m (0 + k))) (sym so.before) refl $ move ! (0 ∷ 3 ∷ []) $
          use2 𝓛 (‵ (each N z.before 0))
          (born_all b ν o d.sharing d.table k ns z.before 0 (λ j near.
          let is : j ≡ j + 0 = omega arith in
          subst (λ (i : ℕ). is_set_in ns i ≡ false) is
          (before_clear R v at rest ns are.1 j (omega (arith, near, so.before))))) $
          -- [the slots before; the claim's; what the claim gets; behind; the words; the ends; behind, unborn]
          move ! (6 ∷ []) $ rewrite ! 0 (λ (m : ℕ). ‵ (Rest m)) next refl $
          rewrite ! 0 (λ (m : ℕ). ‵ (Unborn m (suc at + k))) (sym so.behind) refl $ move ! (0 ∷ 4 ∷ []) $
          use2 𝓛 (‵ (each N z.behind (suc at)))
          (born_all b ν o d.sharing d.table k ns z.behind (suc at) (λ j near.
          behind_clear R v at rest ns are.1 j (j + suc at) refl)) $
          -- [the slots behind; before; the claim's; what the claim gets; the words; the ends]
          move ! (2 ∷ 0 ∷ []) $ fjoin ! $ move ! (1 ∷ 0 ∷ []) $
          use2 𝓛 (‵ (each N s.names 0))
          (each_joined 𝓛 N z.before (z.here ∷ z.behind) 0 at (omega (arith, so.before))) $
          -- [the slots; what its claim gets; the words; the ends; that the bucket is announced]
          move ! (4 ∷ []) $ fpack ! Bool (announced_unless d.word d.bucket (NoneSet ns)) true $ move ! (0 ∷ 1 ∷ []) $ fjoin ! $
          move ! (2 ∷ []) $ rewrite ! 0 (λ (m : ℕ). ‵ (each (flags_at R m b o) ns 0)) as_many refl $ move ! (0 ∷ 1 ∷ []) $
          fjoin ! $ nothing ! $ fpack ! (AreFlagWords R n ns) (λ _. ftrue) (flag_words R v at rest ns are.1 n many are.0) $
          fjoin ! $ fpack ! (List ℕ) (slots_under R n b o (slots_stand R d t p s)) ns $
          move ! (2 ∷ []) $ fsplit ! $ move ! (2 ∷ 0 ∷ []) $ fjoin ! $ move ! (1 ∷ []) $
          fpack ! Global (λ y. ghosts.dealloc_token y τ p) a $ move ! (1 ∷ 0 ∷ []) $ fjoin ! $ done !)))

      -- the exchange of null for the block
      module _ (b o : ℕ) (q : Share) (nb no : ℕ) (ν : ℕ) (z : Names) (so : Lies (block_ptr nb no) z) where
        abbrev new : Ptr
        new = block_ptr nb no

        abbrev s : StandingBlock
        s = block_as new ν z

        abbrev J : Fml
        J = bucket_invariant R d t b o

        abbrev Held : Ptr → Fml
        Held p = fsep (cell b o p) (beside_pointer R d t p)

        abbrev pub won : Ptr → Fml
        won p = fsep (part 𝓛 R d t new (s, right full_share)) Won

        abbrev pub lost : Ptr → Fml
        lost p = fsep (fsep (private new ν z) (glimpse 𝓛 R d t ffalse ftrue p)) Ticket

        abbrev F : Ptr × Bool → SProp 𝓤
        F = Compared 𝓛 t.life q J b o null_ptr new won lost

        abbrev IsAs : Type 0
        IsAs = (s.at ≡ new) × (length s.names ≡ n) × Sized R n new

        is_as : IsAs
        is_as = (refl, names_long new z so, so.sized)

        -- how many ids were held at once, and that the bucket is announced
        abbrev Shown : Fml
        Shown = fsep (grown d) (announced d.word d.bucket)

        -- what the exchange finds in the pointer
        abbrev Finds : Ptr → Type 1
        Finds p = ⟦ cell b o p ⟧ ∗ ⟦ beside_pointer R d t p ⟧ ∗ ⟦ private new ν z ⟧ ∗ ⟦ Shown ⟧ ∗ ⟦ Ticket ⟧ ⊢ ex 𝓤 F

        -- no block was installed: this one is
        found_none : Finds null_ptr
        found_none = let m = block_code s in let γ : GName = t.which in let G : SProp 𝓤 = ⟦ J ⟧ ∗ ⟦ won null_ptr ⟧ in
            qed 𝓛
            (‵ (cell b o null_ptr) ∷ ‵ (beside_pointer R d t null_ptr) ∷ ‵ (private new ν z) ∷ ‵ Shown ∷ ‵ Ticket ∷ []) ∵
            show ! F (null_ptr, true) $ frame ! $
            use0 𝓛 (‵ (alike null_ptr null_ptr true)) (alike_null 𝓛 null_ptr (lit< tt)) $ frame ! $
            assume ! (‵ (cell b o new)) $ move ! (1 ∷ []) $ fsplit3 ! $ drop ! $
            use1 𝓛 (raw (upd 𝓤 (A.obs γ m ∗ A.auth γ m))) (𝓛.names.name_set_upd γ gnil gnil m) $
            settle 𝓛 G (‵ (fobs γ m) ⊛ ‵ (fauth γ m)) $ split ! $
            -- [what the name says now; its authority; what waits; the pointer; the private block; what it shows; the pass]
            use1 𝓛 (‵ (fres γ m)) (𝓛.names.obs-res γ m) $ move ! (5 ∷ []) $ fsplit ! $ move ! (3 ∷ 2 ∷ 0 ∷ []) $ fjoin3 ! $
            -- [settled; that it is announced; what waits; the pointer; the private block; the ticket]
            move ! (4 ∷ []) $ fsplit ! $ move ! (6 ∷ []) $ fsplit ! $
            -- [the pass; its note; its own token; the block; settled; that it is announced; what waits; the pointer]
            move ! (6 ∷ 3 ∷ 0 ∷ 1 ∷ 5 ∷ []) $ group ! 5 $
            use1 𝓛 (raw (upd 𝓤 (⟦ fsep (block_stands R d t new s) (heap_token τ new) ⟧ ∗ ⟦ Won ⟧))) (born_block new ν z so) $
            settle 𝓛 G (‵ (fsep (block_stands R d t new s) (heap_token τ new)) ⊛ ‵ Won) $
            suffices ! _ (upd_i 𝓤 G) $ split ! $
            -- [the block; what the claim gets; its own token; settled; the pointer]
            move ! (3 ∷ 2 ∷ 0 ∷ []) $ fjoin3 ! $ nothing ! $ fpack ! IsAs (λ _. ftrue) is_as $ fjoin ! $
            use1 𝓛 (‵ (standing R d t new (s, left full_share))
            ⊛ ‵ (part 𝓛 R d t new (s, right full_share)))
            (parted 𝓛 R d t new (s, full_share)) $
            split ! $
            fpack ! (StandingBlock × Share) (standing R d t new) (s, left full_share) $
            -- [beside the pointer; the part; what the claim gets; the pointer]
            move ! (1 ∷ 2 ∷ []) $ fjoin ! $ move ! (2 ∷ 1 ∷ []) $ fjoin ! $ fpack ! Ptr Held new $ done !

        -- another one was installed first
        found_other : (pb po : ℕ) → Finds (block_ptr pb po)
        found_other pb po =
            let p : Ptr = block_ptr pb po in
            qed 𝓛 (‵ (cell b o p) ∷ ‵ (beside_pointer R d t p) ∷ ‵ (private new ν z) ∷ ‵ Shown ∷ ‵ Ticket ∷ []) ∵
            keep ! (0 ∷ 1 ∷ 2 ∷ 4 ∷ []) $ show ! F (p, false) $ frame ! $ fpick ! (λ y. fsplit ! $ fpick ! (λ h. drop ! $
            nothing ! $ fpack ! ((y.0.at ≡ p) × (length y.0.names ≡ n) × Sized R n p) (λ _. ftrue) h $ fjoin ! $
            use1 𝓛 (‵ (standing R d t p (y.0, left y.1)) ⊛ ‵ (part 𝓛 R d t p (y.0, right y.1)))
            (parted 𝓛 R d t p y) $
            split ! $ fpack ! (StandingBlock × Share) (standing R d t p) (y.0, left y.1) $
            use0 𝓛 (‵ (alike p null_ptr false)) (alike_null 𝓛 p h.2.1) $ frame ! $
            assume ! (‵ (cell b o p)) $ suffices ! _ (upd_i 𝓤 (⟦ J ⟧ ∗ ⟦ lost p ⟧)) $ fjoin ! $
            fpack ! Ptr Held p $ frame ! $
            fpack ! (StandingBlock × Share) (part 𝓛 R d t p) (y.0, right y.1) $ nothing ! $
            move ! (1 ∷ 0 ∷ []) $ fjoin ! $ move ! (1 ∷ 0 ∷ []) $ fjoin ! $ fjoin ! $ done !))

        found : (p : Ptr) → Finds p
        found null_ptr = found_none
        found (block_ptr pb po) = found_other pb po

        pub offers : A.inv (fbor t.life J) ∗ (A.lft t.life q ∗ (⟦ private new ν z ⟧ ∗ ⟦ Shown ⟧ ∗ ⟦ Ticket ⟧))
            ⊢ compares 𝓛 (block_ptr b o) null_ptr new (λ p. fsep (flft t.life q) (won p))
            (λ p. fsep (flft t.life q) (lost p))
        offers =
            opened_to_compare 𝓛 t.life q J b o null_ptr new won lost (⟦ private new ν z ⟧ ∗ ⟦ Shown ⟧ ∗ ⟦ Ticket ⟧)
            (qed 𝓛 (‵ J ∷ ‵ (private new ν z) ∷ ‵ Shown ∷ ‵ Ticket ∷ []) ∵ suffices ! _ (upd_i 𝓤 (ex 𝓤 F)) $ fpick ! (λ p.
            fsplit ! $ by ! (found p)))
