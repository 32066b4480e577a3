-- Turns a borrow of a lock, whatever its word is, into what a `&` to the lock shares, and takes the
-- value out of an owner's lock. Assumes `Logic`.
use Rattle.std.proofs.Common.{◌≡◌, ℕ, zero, suc, ◌+◌, List, [], ◌∷◌, subst, refl}
use seplogic.Ra.Ura.{Ura}
use mir.Val.{Val}
use base.Fraction.{full_share}
use base.Logic.{SProp, ex, emp, all_e, upd_i, apply∗, id⊢}
use base.Fml.{Lft, GName, Share, Fml, ftrue, fsep, fseps, fex, fwand, fupd, fdead, fbor, flft, finv, fobs, fauth, Incl-refl}
use base.Before.{before}
use types.Logic.{Logic}
use types.Kit.{group, ‵, raw, ◌⊛◌, some, later, ◌$◌, ◌∵◌, !, qed, by, move, keep, drop, use0, use1, use2, use3, split}
use types.Kit.{split3, fsplit, fsplit3, fjoin, fjoin3, fpick, fpack, pick, show, assume, suffices, await, updating, now}
use types.Kit.{done}
use types.Tokens.{bor_open, obor_alter, name_new, name_agree}
use types.Na.{before-Incl}
use base.Stored.{coded_unit}
use denote.RattleType.{RattleType, Denots}
use denote.Laws.{Lawful}
use denote.Memory.{part_of, part_at, cell_at}
use denote.RawPtr.{block_ptr}
use denote.Steps.{nothing}
use denote.Struct.Struct.{Struct}
use denote.Struct.Laws.{u64-laws}
use denote.Struct.Members.{Member, row_of, rows_of, parts_at}
use denote.Struct.Parts.{PartsBack, Struct-parts, shape_of}
use denote.Written.{Laid}
use denote.Written.Laws.{Laid-in}
use Rattle.std.specs.Sync.RawAtomic.{word}
use Rattle.std.proofs.cell.BorrowLemmas.{flag}
use Rattle.thread_local_ids.specs.Locking.{LockView, Fitting, offset, LockTurn, named_value, fitting, with_word}
use Rattle.thread_local_ids.specs.Locking.{lock_invariant, lock_kept, lock_shares}
use Rattle.thread_local_base.specs.Fact.{fact}
use Rattle.thread_local_ids.specs.declared.locks.lock.Fits.{Ghosts}
use Rattle.thread_local_ids.specs.contracts.locks.lock.Lock as C
use Rattle.thread_local_base.proofs.SharedWord.{word_out, word_in}
use Rattle.thread_local_base.proofs.Signs.{signs}

module _ {M : Type 1} {𝓤 : Ura M} (𝓛 : Logic 𝓤) (m : Member) (g : Ghosts m.row.Denot) (d : LockView)
    (L : Lawful 𝓛 (row_of m)) (b o : ℕ) (κ : Lft) where
  open 𝓛 use {H, A}
  open signs 𝓛 use {⟦◌⟧, ◌⊢◌, ◌∗◌, ◌-∗◌}

  infix 26 ◌⊢◌
  infixr 35 ◌∗◌
  infixr 30 ◌-∗◌
  abbrev R : RattleType
  R = row_of m

  abbrev ok : R.Denot → Type 0
  ok = Fitting g.tag g.fits d.tag

  abbrev ks : List Member
  ks = flag ∷ m ∷ []

  abbrev Data : RattleType
  Data = Struct (shape_of [] ks)

  abbrev pub P : Fml
  P = part_at (C.the_written R g) full_share d b o

  abbrev Fields : ℕ × R.Denot → Fml
  Fields s = part_at Data full_share (s.0, (s.1, tt)) b o

  abbrev Rest : ℕ × R.Denot → Type 0
  Rest s = s.0 ≡ 0 → ok s.1

  abbrev wd : ℕ → Fml
  wd n = part_at (row_of flag) full_share n b (o + 0)

  abbrev At : R.Denot → Fml
  At x = part_at R full_share x b (o + offset R)

  apart : ⟦ P ⟧ ⊢ ex 𝓤 (λ (s : ℕ × R.Denot). ⟦ Fields s ⟧ ∗ ⟦ fact (Rest s) ⟧)
  unfolding part_of
  apart =
      qed 𝓛 (‵ P ∷ []) ∵ fpick ! (λ vs. fsplit ! $ move ! (1 ∷ []) $ fpick ! (λ s. fsplit ! $
      move ! (2 ∷ 0 ∷ []) $ fjoin ! $
      fpack ! (List Val)
      (λ us. fsep (cell_at full_share Data.mir us b o) (Data.own_val (s.0, (s.1, tt)) us)) vs $
      show ! (λ (z : ℕ × R.Denot). ⟦ Fields z ⟧ ∗ ⟦ fact (Rest z) ⟧) s $ done !))

  whole : (s : ℕ × R.Denot) → ⟦ Fields s ⟧ ∗ ⟦ fact (Rest s) ⟧ ⊢ ⟦ P ⟧
  unfolding part_of
  whole s =
      qed 𝓛 (‵ (Fields s) ∷ ‵ (fact (Rest s)) ∷ []) ∵ fpick ! (λ vs. fsplit ! $
      move ! (1 ∷ 2 ∷ []) $ fjoin ! $
      fpack ! (ℕ × R.Denot) (λ z. fsep (Data.own_val (z.0, (z.1, tt)) vs) (fact (Rest z))) s $
      move ! (1 ∷ 0 ∷ []) $ fjoin ! $
      fpack ! (List Val) (λ us. fsep (cell_at full_share Data.mir us b o) ((C.the_written R g).own_val d us)) vs $ done !)

  abbrev pub Back : SProp 𝓤
  Back = PartsBack 𝓛 full_share [] ks b o

  -- the lock's fields are put together again
  joins : (s : ℕ × R.Denot) → ⟦ word b (o + 0) s.0 ⟧ ∗ ⟦ At s.1 ⟧ ∗ Back ⊢ ⟦ Fields s ⟧
  joins s =
      let Both : SProp 𝓤 = ⟦ parts_at full_share ks zero (s.0, (s.1, tt)) b o ⟧ in
      qed 𝓛 (‵ (word b (o + 0) s.0) ∷ ‵ (At s.1) ∷ raw Back ∷ []) ∵
      use1 𝓛 (‵ (wd s.0)) (word_in 𝓛 b (o + 0) s.0) $ nothing ! $ move ! (1 ∷ 2 ∷ 0 ∷ []) $ fjoin3 ! $
      move ! (1 ∷ []) $
      use1 𝓛 (raw (Both -∗ ⟦ Fields s ⟧))
      (all_e 𝓤 (λ (a : Denots (rows_of ks)).
      ⟦ parts_at full_share ks zero a b o ⟧ -∗ ⟦ part_at Data full_share a b o ⟧)
      (s.0, (s.1, tt))) $
      move ! (1 ∷ 0 ∷ []) $ use2 𝓛 (‵ (Fields s)) (apply∗ 𝓤 Both ⟦ Fields s ⟧) $ done !

  module _ (γ : GName) where
    abbrev t : LockTurn
    t = (κ, γ)

    abbrev Named : Fml
    Named = named_value R ok b o t

    -- what lies beside the word 0 before the value is lent: the value under the name γ fits
    abbrev says : R.Denot → Fml
    says x = fsep (fact (ok x)) (fobs γ (R.coded.code x))

    abbrev told : ℕ → Fml
    told zero = fex R.Denot says
    told (suc n) = ftrue

    abbrev Word : Fml
    Word = fex ℕ (λ n. fsep (word b (o + 0) n) (told n))

    abbrev I : Fml
    I = lock_invariant R ok b o t

    -- the value that came back fits, if the word says that the lock is free
    agreed : (n : ℕ) (y : R.Denot) → ⟦ told n ⟧ ∗ ⟦ fauth γ (R.coded.code y) ⟧ ⊢ ⟦ fact (Rest (n, y)) ⟧
    agreed zero y =
        qed 𝓛 (‵ (told zero) ∷ ‵ (fauth γ (R.coded.code y)) ∷ []) ∵ fpick ! (λ x. fsplit ! $
        fpick ! (λ fit. drop ! $ name_agree ! R.coded (λ same.
        keep ! [] $ nothing ! $ fpack ! (Rest (0, y)) (λ _. ftrue) (λ _. subst ok same fit) $ done !)))
    agreed (suc n) y =
        qed 𝓛 (‵ (told (suc n)) ∷ ‵ (fauth γ (R.coded.code y)) ∷ []) ∵ keep ! [] $ nothing ! $
        fpack ! (Rest (suc n, y)) (λ _. ftrue) (λ free. cc) $ done !

    again : (n : ℕ) (x : R.Denot)
        → ⟦ told n ⟧ ∗ ⟦ word b (o + 0) n ⟧ ∗ ⟦ At x ⟧ ∗ ⟦ fauth γ (R.coded.code x) ⟧ ∗ Back
        ⊢ ⟦ Fields (n, x) ⟧ ∗ ⟦ fact (Rest (n, x)) ⟧
    again n x =
        qed 𝓛 (‵ (told n) ∷ ‵ (word b (o + 0) n) ∷ ‵ (At x) ∷ ‵ (fauth γ (R.coded.code x))
        ∷ raw Back ∷ []) ∵
        move ! (0 ∷ 3 ∷ []) $ use2 𝓛 (‵ (fact (Rest (n, x)))) (agreed n x) $
        move ! (1 ∷ 2 ∷ 3 ∷ []) $ use3 𝓛 (‵ (Fields (n, x))) (joins (n, x)) $ done !

    way_back : Back ⊢ ⟦ fwand (fsep (fdead κ) (fseps (Word ∷ Named ∷ []))) (fupd P) ⟧
    unfolding fseps
    way_back =
        qed 𝓛 (raw Back ∷ []) ∵ assume ! (‵ (fsep (fdead κ) (fseps (Word ∷ Named ∷ [])))) $
        suffices ! ⟦ P ⟧ (upd_i 𝓤 ⟦ P ⟧) $
        fsplit ! $ drop ! $ fsplit3 ! $ fpick ! (λ n. fsplit ! $ move ! (2 ∷ []) $ fpick ! (λ x.
        fsplit ! $ keep ! (3 ∷ 2 ∷ 0 ∷ 1 ∷ 5 ∷ []) $ group ! 5 $
        use1 𝓛 (‵ (Fields (n, x)) ⊛ ‵ (fact (Rest (n, x)))) (again n x) $ split ! $
        by ! (whole (n, x))))

    -- a sharing begins with an owner's value: if the word is 0, the value under the name γ fits
    begins : (n : ℕ) (x : R.Denot) → ⟦ fact (Rest (n, x)) ⟧ ∗ ⟦ fobs γ (R.coded.code x) ⟧ ⊢ ⟦ told n ⟧
    begins zero x =
        qed 𝓛 (‵ (fact (Rest (0, x))) ∷ ‵ (fobs γ (R.coded.code x)) ∷ []) ∵ fpick ! (λ fit. drop ! $
        nothing ! $ fpack ! (ok x) (λ _. ftrue) (fit refl) $ fjoin ! $ fpack ! R.Denot says x $
        done !)
    begins (suc n) x = qed 𝓛 (‵ (fact (Rest (suc n, x))) ∷ ‵ (fobs γ (R.coded.code x)) ∷ []) ∵ keep ! [] $ done !

    lends : (n : ℕ) → ⟦ told n ⟧ ∗ A.bor κ Named ⊢ ⟦ with_word R ok b o t n ⟧
    lends zero =
        qed 𝓛 (‵ (told zero) ∷ ‵ (fbor κ Named) ∷ []) ∵ fpick ! (λ x. fsplit ! $
        move ! (1 ∷ 2 ∷ []) $ fjoin ! $ move ! (1 ∷ 0 ∷ []) $ fjoin ! $
        fpack ! R.Denot (fitting R ok b o t) x $ done !)
    lends (suc n) = qed 𝓛 (‵ (told (suc n)) ∷ ‵ (fbor κ Named) ∷ []) ∵ keep ! [] $ done !

    ends_with : (n : ℕ) → ⟦ with_word R ok b o t n ⟧ ⊢ ⟦ told n ⟧
    ends_with zero =
        qed 𝓛 (‵ (with_word R ok b o t zero) ∷ []) ∵ fpick ! (λ x. fsplit ! $ move ! (1 ∷ []) $
        fsplit ! $ move ! (2 ∷ 0 ∷ []) $ fjoin ! $ fpack ! R.Denot says x $ keep ! (0 ∷ []) $
        done !)
    ends_with (suc n) = qed 𝓛 (‵ (with_word R ok b o t (suc n)) ∷ []) ∵ keep ! [] $ done !

    word_back : emp 𝓤 ⊢ ⟦ fwand (fsep (fdead κ) (fseps (I ∷ []))) (fupd Word) ⟧
    unfolding fseps
    word_back =
        qed 𝓛 [] ∵ assume ! (‵ (fsep (fdead κ) (fsep I ftrue))) $
        suffices ! ⟦ Word ⟧ (upd_i 𝓤 ⟦ Word ⟧) $ fsplit3 ! $ keep ! (1 ∷ []) $ fpick ! (λ n.
        fsplit ! $ move ! (1 ∷ []) $
        use1 𝓛 (‵ (told n)) (ends_with n) $ move ! (1 ∷ 0 ∷ []) $ fjoin ! $
        fpack ! ℕ (λ w. fsep (word b (o + 0) w) (told w)) n $ done !)

  pub cut : (q : Share) → A.bor κ P ∗ A.lft κ q ⊢ H.⇛ (⟦ lock_shares R ok (block_ptr b o) κ ⟧ ∗ A.lft κ q)
  unfolding fseps
  cut q =
      qed 𝓛 (‵ (fbor κ P) ∷ ‵ (flft κ q) ∷ []) ∵ updating ! $ bor_open ! tt $ move ! (1 ∷ []) $
      use1 𝓛 (some (λ (s : ℕ × R.Denot). ‵ (Fields s) ⊛ ‵ (fact (Rest s)))) apart $ pick ! (λ s.
      split ! $
      use1 𝓛 ((‵ (wd s.0) ⊛ ‵ (At s.1) ⊛ ‵ ftrue) ⊛ raw (PartsBack 𝓛 full_share [] ks b o))
      (Struct-parts 𝓛 full_share [] ks (u64-laws.lawful 𝓛, (L, tt)) (s.0, (s.1, tt)) b o) $
      split ! $ split3 ! $
      use1 𝓛 (‵ (word b (o + 0) s.0)) (word_out 𝓛 b (o + 0) s.0) $ name_new ! tt (R.coded.code s.1) (λ γ.
      -- [the name, in two halves; the word; the value; nothing; the way back; the fact; the open
      -- borrow]
      move ! (6 ∷ 0 ∷ []) $ use2 𝓛 (‵ (told γ s.0)) (begins γ s.0 s.1) $ move ! (2 ∷ 0 ∷ []) $
      fjoin ! $ fpack ! ℕ (λ w. fsep (word b (o + 0) w) (told γ w)) s.0 $
      move ! (2 ∷ 1 ∷ []) $ fjoin ! $
      fpack ! R.Denot (λ y. fsep (At y) (fauth γ (R.coded.code y))) s.1 $ move ! (1 ∷ 0 ∷ 2 ∷ []) $
      fjoin3 ! $ move ! (1 ∷ []) $
      use1 𝓛 (‵ (fwand (fsep (fdead κ) (fseps (Word γ ∷ Named γ ∷ []))) (fupd P))) (way_back γ) $
      move ! (2 ∷ 1 ∷ 0 ∷ []) $ obor_alter ! tt (Word γ ∷ Named γ ∷ []) $
      use1 𝓛 (‵ (fbor κ (Word γ)) ⊛ ‵ (fbor κ (Named γ)) ⊛ ‵ ftrue) (id⊢ 𝓤 _) $ split3 ! $
      move ! (0 ∷ 3 ∷ []) $ bor_open ! tt $ move ! (1 ∷ []) $ fpick ! (λ n. fsplit ! $
      move ! (1 ∷ 3 ∷ []) $ use2 𝓛 (‵ (with_word R ok b o (t γ) n)) (lends γ n) $
      move ! (1 ∷ 0 ∷ []) $ fjoin ! $
      fpack ! ℕ (λ w. fsep (word b (o + 0) w) (with_word R ok b o (t γ) w)) n $
      nothing ! $ move ! (1 ∷ 0 ∷ []) $ fjoin ! $
      use0 𝓛 (‵ (fwand (fsep (fdead κ) (fseps (I γ ∷ []))) (fupd (Word γ)))) (word_back γ) $
      move ! (2 ∷ 1 ∷ 0 ∷ []) $ obor_alter ! tt (I γ ∷ []) $
      use1 𝓛 (‵ (fbor κ (I γ)) ⊛ ‵ ftrue) (id⊢ 𝓤 _) $ split ! $
      use1 𝓛 (later (‵ (finv (fbor κ (I γ))))) (𝓛.invs.inv_new (fbor κ (I γ))) $ await ! tt $
      use0 𝓛 (‵ (before κ κ)) (before-Incl 𝓛 κ κ (Incl-refl κ)) $ fjoin ! $
      fpack ! LockTurn (λ u. lock_kept R ok b o u κ) (t γ) $ now ! $ keep ! (0 ∷ 2 ∷ []) $ done !)))

  -- an owner takes the value out of a lock
  abbrev Lock : RattleType
  Lock = C.the_row R g

  abbrev pub Parts : ℕ × R.Denot → SProp 𝓤
  Parts s = ⟦ word b (o + 0) s.0 ⟧ ∗ ⟦ At s.1 ⟧ ∗ Back

  pub parts_out : ⟦ part_at Lock full_share d b o ⟧ ⊢ ex 𝓤 Parts
  unfolding part_of
  parts_out =
      qed 𝓛 (‵ (part_at Lock full_share d b o) ∷ []) ∵ fpick ! (λ vs. fsplit3 ! $ move ! (2 ∷ []) $
      fpick ! (λ s. fsplit ! $ move ! (2 ∷ 0 ∷ []) $ fjoin ! $
      fpack ! (List Val)
      (λ us. fsep (cell_at full_share Data.mir us b o) (Data.own_val (s.0, (s.1, tt)) us)) vs $
      use1 𝓛 ((‵ (wd s.0) ⊛ ‵ (At s.1) ⊛ ‵ ftrue) ⊛ raw Back)
      (Struct-parts 𝓛 full_share [] ks (u64-laws.lawful 𝓛, (L, tt)) (s.0, (s.1, tt)) b o) $
      split ! $ split3 ! $ use1 𝓛 (‵ (word b (o + 0) s.0)) (word_out 𝓛 b (o + 0) s.0) $
      show ! Parts s $ keep ! (0 ∷ 1 ∷ 3 ∷ []) $ done !))

  -- and leaves one there that fits
  pub parts_in : (x : R.Denot) → ok x → ⟦ At x ⟧ ∗ ⟦ word b (o + 0) 0 ⟧ ∗ Back ⊢ ⟦ part_at Lock full_share d b o ⟧
  unfolding part_of
  parts_in x fit =
      let s : ℕ × R.Denot = (0, x) in
      let one : Unit {0} → Data.Denot = λ _. (0, (x, tt)) in
      let Typed : RattleType = Laid Data (Unit {0}) coded_unit (λ _. Data.own_val (one tt)) (λ _ _ _ _. ftrue) in
      qed 𝓛 (‵ (At x) ∷ ‵ (word b (o + 0) 0) ∷ raw Back ∷ []) ∵
      move ! (1 ∷ 0 ∷ 2 ∷ []) $ use3 𝓛 (‵ (Fields s)) (joins s) $
      use1 𝓛 (‵ (part_at Typed full_share tt b o))
      (Laid-in Data (Unit {0}) coded_unit one (λ _ _ _ _. ftrue) 𝓛 tt b o refl) $
      fpick ! (λ vs. fsplit3 ! $
      -- [the cell; its type; the fields]
      nothing ! $ fpack ! (Rest s) (λ _. ftrue) (λ _. fit) $ move ! (3 ∷ 0 ∷ []) $ fjoin ! $
      fpack ! (ℕ × R.Denot) (λ z. fsep (Data.own_val (z.0, (z.1, tt)) vs) (fact (Rest z))) s $
      move ! (2 ∷ 0 ∷ []) $ fjoin ! $ move ! (1 ∷ 0 ∷ []) $ fjoin ! $
      fpack ! (List Val) (λ us. fsep (cell_at full_share Data.mir us b o) (Lock.own_val d us)) vs $ done !)
