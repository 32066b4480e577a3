-- A `u64` that threads share, with what lies beside it: a `&` to it is an invariant over the borrow of
-- it, which each atomic step opens. Assumes `Logic`.
use Rattle.std.proofs.Common.{ℕ, zero, ◌+◌, ◌^◌, List, T, [], ◌∷◌, refl, ap, w64}
use seplogic.Ra.Ura.{Ura}
use mir.Syntax.{ty_int}
use mir.Val.{Val, vint, has_ty, WT}
use base.Fraction.{full_share}
use base.Logic.{SProp, wand, ex, id⊢, all_e, apply∗, upd, upd_i}
use base.Fml.{Lft, Share, Fml, Incl, ftrue, fsep, fseps, fwand, fupd, fdead, fat, fbor, flft, finv, Incl-refl}
use base.Before.{before}
use ghost.Rules.{Toks, span}
use types.Logic.{Logic, lfts}
use types.Kit.{‵, raw, ◌⊛◌, given, some, later, ◌$◌, ◌∵◌, !, qed, by, move, keep, drop, split, fsplit, fsplit3, fjoin, fpick}
use types.Kit.{fpack, pick, show, frame, assume, suffices, settle, rewrite, learn, use0, use1, use2, feq_l, feq_i, flt_i}
use types.Kit.{updating, await, now, done}
use types.Tokens.{bor_open, obor_alter}
use types.Na.{before-Incl}
use denote.RattleType.{RattleType, Denots}
use denote.Memory.{part_of, part_at, cell_at, raw_all}
use denote.Plain.{UInt}
use denote.RawPtr.{block_ptr}
use denote.Steps.{nothing, only}
use denote.Sharing.{ShrLaws, ends, always}
use denote.SharingLaws.{some_shr_laws, beside_shr_laws, ends_shr_laws, always_shr_laws}
use denote.Struct.Struct.{Struct}
use denote.Struct.Laws.{u64-laws}
use denote.Struct.Members.{Member, row_of, rows_of, parts_at}
use denote.Struct.Parts.{PartsBack, Struct-parts, shape_of}
use Rattle.std.specs.Sync.RawAtomic.{word, asks, always as any}
use Rattle.std.proofs.cell.BorrowLemmas.{flag, by_one}
use Rattle.std.proofs.cell.Inside.{spread, gather}
use Rattle.thread_local_base.specs.SharedWord.{word_invariant, word_kept, word_shares, word_owns}
use Rattle.thread_local_base.proofs.Opened.{Lies, opened}
use Rattle.thread_local_base.proofs.Signs.{signs}

-- the struct of one word
abbrev ks : List Member
ks = flag ∷ []

abbrev Data : RattleType
Data = Struct (shape_of [] ks)

-- the laws of what a `&` to the word holds
pub laws : (lies : ℕ → Fml) (b o : ℕ) → ShrLaws (word_shares lies (block_ptr b o))
laws lies b o =
    let I : Fml = word_invariant lies b (o + 0) in
    some_shr_laws Lft (word_kept lies b o) (λ α.
    beside_shr_laws (ends α) (always (fbor α I)) (ends_shr_laws α) (always_shr_laws (fbor α I)))

module _ {M : Type 1} {𝓤 : Ura M} (𝓛 : Logic 𝓤) where
  open 𝓛 use {H, A}
  open signs 𝓛 use {⟦◌⟧, ◌⊢◌, ◌∗◌}

  infix 26 ◌⊢◌
  infixr 35 ◌∗◌
  -- a `u64` in memory as the cell that an atomic step works on, and back
  module _ (b o n : ℕ) where
    pub word_out : ⟦ part_at (UInt w64) full_share n b o ⟧ ⊢ ⟦ word b o n ⟧
    word_out =
        qed 𝓛 (‵ (part_at (UInt w64) full_share n b o) ∷ []) ∵
        spread flag ! (u64-laws.lawful 𝓛) n b o (λ v g. move ! (1 ∷ []) $ fsplit ! $ feq_l ! (λ ev.
        move ! (1 ∷ []) $
        rewrite ! 0 (λ (u : Val). ‵ (fat full_share (ty_int w64) b o u)) (ap only ev) refl $ keep ! (0 ∷ []) $ done !))

    pub word_in : ⟦ word b o n ⟧ ⊢ ⟦ part_at (UInt w64) full_share n b o ⟧
    word_in =
        qed 𝓛 (‵ (word b o n) ∷ []) ∵
        use1 𝓛 (given (T (has_ty (ty_int w64) (vint w64 n)) × WT (vint w64 n)) (‵ (word b o n)))
        (𝓛.laws.at_wt full_share (ty_int w64) b o (vint w64 n)) $
        learn ! (λ typed.
        flt_i ! n (2 ^ 64) typed.1.fits $
        feq_i ! _ (vint w64 n ∷ []) _ refl $ fjoin ! $ move ! (1 ∷ 0 ∷ []) $
        gather flag ! n (vint w64 n) b o $ done !)

  module _ (lies : ℕ → Fml) (b o : ℕ) (κ : Lft) (q : Share) where
    abbrev I : Fml
    I = word_invariant lies b o

    -- a step that writes f n over the word n
    pub stepped : (f : ℕ → ℕ) (after : ℕ → Fml) (X : Fml)
        → ((n : ℕ) → ⟦ lies n ⟧ ∗ ⟦ X ⟧ ⊢ upd 𝓤 (⟦ lies (f n) ⟧ ∗ ⟦ after n ⟧))
        → A.inv (fbor κ I) ∗ (A.lft κ q ∗ ⟦ X ⟧)
        ⊢ asks 𝓛 (block_ptr b o) f any (λ n. fsep (flft κ q) (after n))
    stepped f after X h =
        let L : ℕ → SProp 𝓤 = Lies 𝓛 κ q I b o f after in
        opened 𝓛 κ q I b o f after ⟦ X ⟧ (qed 𝓛 (‵ I ∷ ‵ X ∷ []) ∵
        suffices ! _ (upd_i 𝓤 (ex 𝓤 L)) $ fpick ! (λ n. fsplit ! $
        show ! L n $ frame ! $ assume ! (‵ (word b o (f n))) $
        let Z = ⟦ I ⟧ ∗ ⟦ after n ⟧ in
        -- [the word; what lies with it; what the step needs]
        move ! (1 ∷ 2 ∷ []) $
        use2 𝓛 (raw (upd 𝓤 (⟦ lies (f n) ⟧ ∗ ⟦ after n ⟧))) (h n) $
        settle 𝓛 Z (‵ (lies (f n)) ⊛ ‵ (after n)) $ suffices ! _ (upd_i 𝓤 Z) $ split ! $
        move ! (2 ∷ 0 ∷ []) $ fjoin ! $ fpack ! ℕ (λ k. fsep (word b o k) (lies k)) (f n) $ done !))

  -- a borrow of the word, with what lies beside it, becomes a `&`
  module _ {D : Type 0} (lies : D → ℕ → Fml) (d : D) (κ : Lft) (b o : ℕ) where
    abbrev with_beside : D → List Val → Fml
    with_beside e us = word_owns (lies e) (λ n. Data.own_val (n, tt) us)

    abbrev P : Fml
    P = part_of (raw_all Data.mir) with_beside full_share d b o

    abbrev J : Fml
    J = word_invariant (lies d) b (o + 0)

    abbrev Fields : ℕ → Fml
    Fields n = part_at Data full_share (n, tt) b o

    abbrev wd : ℕ → Fml
    wd n = part_at (row_of flag) full_share n b (o + 0)

    out : ⟦ P ⟧ ⊢ ex 𝓤 (λ (n : ℕ). ⟦ Fields n ⟧ ∗ ⟦ lies d n ⟧)
    unfolding part_of
    out =
        qed 𝓛 (‵ P ∷ []) ∵ fpick ! (λ vs. fsplit ! $ move ! (1 ∷ []) $ fpick ! (λ n. fsplit ! $ move ! (2 ∷ 0 ∷ []) $ fjoin ! $
        fpack ! (List Val) (λ us. fsep (cell_at full_share Data.mir us b o) (Data.own_val (n, tt) us)) vs $
        show ! (λ (m : ℕ). ⟦ Fields m ⟧ ∗ ⟦ lies d m ⟧) n $ done !))

    back : (n : ℕ) → ⟦ Fields n ⟧ ∗ ⟦ lies d n ⟧ ⊢ ⟦ P ⟧
    unfolding part_of
    back n =
        qed 𝓛 (‵ (Fields n) ∷ ‵ (lies d n) ∷ []) ∵ fpick ! (λ vs. fsplit ! $ move ! (1 ∷ 2 ∷ []) $ fjoin ! $
        fpack ! ℕ (λ m. fsep (Data.own_val (m, tt) vs) (lies d m)) n $ move ! (1 ∷ 0 ∷ []) $ fjoin ! $
        fpack ! (List Val) (λ us. fsep (cell_at full_share Data.mir us b o) (with_beside d us)) vs $ done !)

    way_back : PartsBack 𝓛 full_share [] ks b o ⊢ ⟦ fwand (fsep (fdead κ) (fseps (J ∷ []))) (fupd P) ⟧
    unfolding fseps
    way_back =
        qed 𝓛 (raw (PartsBack 𝓛 full_share [] ks b o) ∷ []) ∵
        assume ! (‵ (fsep (fdead κ) (fseps (J ∷ [])))) $ suffices ! ⟦ P ⟧ (upd_i 𝓤 ⟦ P ⟧) $
        fsplit3 ! $ drop ! $ fpick ! (λ n. fsplit ! $ use1 𝓛 (‵ (wd n)) (word_in b (o + 0) n) $
        keep ! (0 ∷ 3 ∷ 1 ∷ []) $ nothing ! $ move ! (1 ∷ 0 ∷ []) $ fjoin ! $ move ! (1 ∷ []) $
        use1 𝓛 (raw (wand 𝓤 ⟦ parts_at full_share ks zero (n, tt) b o ⟧ ⟦ Fields n ⟧))
        (all_e 𝓤 (λ (a : Denots (rows_of ks)). wand 𝓤 ⟦ parts_at full_share ks zero a b o ⟧ ⟦ part_at Data full_share a b o ⟧) (n, tt)) $
        move ! (1 ∷ 0 ∷ []) $
        use2 𝓛 (‵ (Fields n)) (apply∗ 𝓤 ⟦ parts_at full_share ks zero (n, tt) b o ⟧ ⟦ Fields n ⟧) $ by ! (back n))

    shared : (q : Share) → A.bor κ P ∗ A.lft κ q ⊢ H.⇛ (⟦ word_shares (lies d) (block_ptr b o) κ ⟧ ∗ A.lft κ q)
    unfolding fseps
    shared q =
        qed 𝓛 (‵ (fbor κ P) ∷ ‵ (flft κ q) ∷ []) ∵ updating ! $ bor_open ! tt $ move ! (1 ∷ []) $
        use1 𝓛 (some (λ (n : ℕ). ‵ (Fields n) ⊛ ‵ (lies d n))) out $ pick ! (λ n. split ! $
        use1 𝓛 ((‵ (wd n) ⊛ ‵ ftrue) ⊛ raw (PartsBack 𝓛 full_share [] ks b o))
        (Struct-parts 𝓛 full_share [] ks (u64-laws.lawful 𝓛, tt) (n, tt) b o) $ split ! $ split ! $
        use1 𝓛 (‵ (word b (o + 0) n)) (word_out b (o + 0) n) $ move ! (0 ∷ 3 ∷ []) $ fjoin ! $
        fpack ! ℕ (λ m. fsep (word b (o + 0) m) (lies d m)) n $ nothing ! $ move ! (1 ∷ 0 ∷ []) $ fjoin ! $
        move ! (2 ∷ []) $
        use1 𝓛 (‵ (fwand (fsep (fdead κ) (fseps (J ∷ []))) (fupd P))) way_back $
        move ! (3 ∷ 1 ∷ 0 ∷ []) $ obor_alter ! tt (J ∷ []) $
        use1 𝓛 (‵ (fbor κ J) ⊛ ‵ ftrue) (id⊢ 𝓤 _) $ split ! $
        use1 𝓛 (later (‵ (finv (fbor κ J)))) (𝓛.invs.inv_new (fbor κ J)) $ await ! tt $
        use0 𝓛 (‵ (before κ κ)) (before-Incl 𝓛 κ κ (Incl-refl κ)) $ fjoin ! $
        fpack ! Lft (λ s. word_kept (lies d) b o s κ) κ $ now ! $ keep ! (0 ∷ 2 ∷ []) $ done !)

    pub lends : (ts : Toks) → Incl (span ts) κ
        → A.bor κ P ∗ lfts 𝓛 ts ⊢ H.⇛ (⟦ word_shares (lies d) (block_ptr b o) κ ⟧ ∗ lfts 𝓛 ts)
    lends ts within = by_one 𝓛 κ ts within (A.bor κ P) ⟦ word_shares (lies d) (block_ptr b o) κ ⟧ shared
