-- Makes a `&` to a bucket out of a borrow of it: the bucket begins a turn. Assumes `Logic`.
use Rattle.std.proofs.Common.{◌≡◌, ℕ, ◌+◌, List, [], ◌∷◌, length, refl, sym, ap}
use seplogic.Ra.Ura.{Ura}
use mir.Syntax.{ty_ptr}
use mir.Val.{Val}
use base.Fraction.{full_share, left, right}
use base.Stored.{gnil}
use base.Logic.{SProp, wand, ex, all_e, upd_i, apply∗, id⊢}
use base.Meet.{meet_within}
use base.Fml.{Lft, Incl, GName, Share, Fml, ftrue, fsep, fseps, fex, fwand, fupd, fdead, fres, fbor, flft, finv, fat, Incl-refl, Incl-trans}
use base.Before.{before}
use ghost.Rules.{thinned}
use contract.BorrowLft.{meet_⊑_right}
use types.Logic.{Logic}
use types.Kit.{‵, raw, ◌⊛◌, some, given, later, ◌$◌, ◌∵◌, !, qed, by, move, keep, drop, use0, use1, use2, use3, split}
use types.Kit.{split3, join, fsplit, fsplit3, fjoin, fjoin3, fpick, fpack, pick, learn, show, assume, suffices, await}
use types.Kit.{updating, now, rewrite, feq_l, feq_i, done}
use types.Tokens.{name_new, name_set, lft_new, bor_open, obor_alter}
use types.Na.{before-Incl}
use denote.RattleType.{RattleType, Denots}
use denote.Memory.{part_of, part_at, cell_at}
use denote.RawPtr.{Ptr, RawPtr, block_ptr, null_ptr, ptr_val}
use denote.Steps.{nothing, only}
use denote.Param.Laws.{Laws}
use denote.Struct.Struct.{Struct}
use denote.Struct.Laws.{RawPtr-laws}
use denote.Struct.Members.{Member, rows_of, parts_at}
use denote.Struct.Parts.{PartsBack, Struct-parts, shape_of}
use Rattle.std.specs.Sync.RawAtomic.Pointer.{cell}
use Rattle.std.proofs.cell.Inside.{spread, gather}
use Rattle.thread_local_base.specs.Judged.{Judged}
use Rattle.thread_local_base.specs.Fact.{fact}
use Rattle.thread_local_shared_buckets.specs.Shared.{BucketView, Turn, StandingBlock, block_code, block_stands}
use Rattle.thread_local_shared_buckets.specs.Shared.{block_rests, Sized, len, first, all_unborn, pending, standing, announced_where}
use Rattle.thread_local_shared_buckets.specs.Shared.{beside_pointer, bucket_invariant, kept, at_rest, bucket_shares}
use Rattle.thread_local_shared_buckets.specs.contracts.shared_bucket.SharedBucket as C
use Rattle.thread_local_buckets.specs.Slots.{empty_slots}
use Rattle.thread_local_ids.specs.Told.{all_told_or_untold}
use Rattle.thread_local_shared_buckets.proofs.ClaimTokens.{tokens_from, tokens_new}
use Rattle.thread_local_shared_buckets.proofs.Rested.{all_tokens, all_wait, none_born, wakes_block, rests_block}
use Rattle.thread_local_base.proofs.Signs.{signs}

abbrev pub pointer : Member
pointer = record { row = RawPtr; ty = ty_ptr }

module _ {M : Type 1} {𝓤 : Ura M} (𝓛 : Logic 𝓤) where
  open 𝓛 use {H, A}
  open signs 𝓛 use {⟦◌⟧, ◌⊢◌, ◌∗◌}

  infix 26 ◌⊢◌
  infixr 35 ◌∗◌
  -- a raw pointer in memory as the cell that an atomic step works on, and back
  module _ (b o : ℕ) (p : Ptr) where
    pub cell_out : ⟦ part_at RawPtr full_share p b o ⟧ ⊢ ⟦ cell b o p ⟧
    cell_out =
        qed 𝓛 (‵ (part_at RawPtr full_share p b o) ∷ []) ∵
        spread pointer ! (RawPtr-laws.lawful 𝓛) p b o (λ v g. move ! (1 ∷ []) $ feq_l ! (λ ev.
        rewrite ! 0 (λ (u : Val). ‵ (fat full_share ty_ptr b o u)) (ap only ev) refl $ done !))

    pub cell_in : ⟦ cell b o p ⟧ ⊢ ⟦ part_at RawPtr full_share p b o ⟧
    cell_in =
        qed 𝓛 (‵ (cell b o p) ∷ []) ∵ feq_i ! _ (ptr_val p ∷ []) _ refl $
        move ! (1 ∷ 0 ∷ []) $ gather pointer ! p (ptr_val p) b o $ done !

  module _ (R : RattleType) (L : Laws R) (d : BucketView) where
    -- once the turn is over, what lies beside the pointer is at rest
    pub rests : (t : Turn) (p : Ptr) → A.dead t.life ∗ ⟦ beside_pointer R d t p ⟧ ⊢ ⟦ at_rest R d p ⟧
    rests t null_ptr =
        qed 𝓛 (‵ (fdead t.life) ∷ ‵ (beside_pointer R d t null_ptr) ∷ []) ∵ move ! (1 ∷ []) $
        fsplit3 ! $ keep ! (0 ∷ 2 ∷ []) $ move ! (1 ∷ []) $
        use1 𝓛 (‵ (all_told_or_untold R d.sharing (first R d) (empty_slots (len R d))))
        (none_born 𝓛 t R d.sharing d.table (len R d) (first R d)) $
        move ! (1 ∷ 0 ∷ []) $ fjoin ! $ done !
    rests t (block_ptr b o) =
        let p : Ptr = block_ptr b o in
        qed 𝓛 (‵ (fdead t.life) ∷ ‵ (beside_pointer R d t p) ∷ []) ∵ move ! (1 ∷ []) $ fpick ! (λ s.
        fsplit ! $ fpick ! (λ so. drop ! $ fsplit3 ! $ move ! (2 ∷ []) $ fsplit ! $
        -- [the block; the right to free; settled; its own token; dead]
        let κ : Lft = s.0.block_life ∷ t.life in
        move ! (4 ∷ []) $
        use1 𝓛 (‵ (fdead κ))
        (𝓛.lfts.dead-incl κ t.life (meet_⊑_right (s.0.block_life ∷ []) t.life)) $
        move ! (0 ∷ 1 ∷ []) $
        use2 𝓛 (‵ (block_rests R d.sharing (first R d) (announced_where d) (len R d) b o))
        (rests_block 𝓛 t R L b s.0.block_life d.sharing (announced_where d) d.table (first R d) (len R d) o
        s.0.names so.1) $
        -- [the block; the right to free; settled; its own token]
        move ! (2 ∷ []) $ fsplit3 ! $ keep ! (4 ∷ 2 ∷ 3 ∷ []) $ fjoin ! $ move ! (1 ∷ 0 ∷ []) $
        nothing ! $ fpack ! (Sized R (len R d) p) (λ _. ftrue) so.2 $ fjoin3 ! $ done !))

    module _ (κ : Lft) where
      abbrev Names : Type 0
      Names = GName × GName × GName × GName

      abbrev turn : Names → Turn
      turn n = record { life = κ; pass = n.0; vacant = n.1; filled = n.2; which = n.3 }

      abbrev pub Woken : Lft → Share → Ptr → Names → SProp 𝓤
      Woken μ r p n = ⟦ beside_pointer R d (turn n) p ⟧ ∗ A.lft μ r

      fresh : (p : Ptr) (μ : Lft) (r : Share)
          → ((n : Names)
          → ⟦ pending R d (turn n) ⟧ ∗ ⟦ all_tokens 𝓛 (turn n) (first R d) ⟧ ∗ ⟦ at_rest R d p ⟧
          ∗ A.lft μ r
          ⊢ H.⇛ (ex 𝓤 (Woken μ r p)))
          → ⟦ at_rest R d p ⟧ ∗ A.lft μ r ⊢ H.⇛ (ex 𝓤 (Woken μ r p))
      fresh p μ r then = let k : ℕ = first R d in qed 𝓛 (‵ (at_rest R d p) ∷ ‵ (flft μ r) ∷ []) ∵ updating ! $
          use0 𝓛 (later (some (λ (γ : GName). ‵ (tokens_from γ k)))) (tokens_new 𝓛 k) $ await ! tt $ pick ! (λ pass.
          use0 𝓛 (later (some (λ (γ : GName). ‵ (tokens_from γ k)))) (tokens_new 𝓛 k) $ await ! tt $ pick ! (λ vacant.
          use0 𝓛 (later (some (λ (γ : GName). ‵ (tokens_from γ k)))) (tokens_new 𝓛 k) $ await ! tt $
          pick ! (λ filled. name_new ! tt gnil (λ which.
          fjoin ! $ move ! (2 ∷ 1 ∷ 3 ∷ []) $ fjoin3 ! $ move ! (1 ∷ 0 ∷ 2 ∷ 3 ∷ []) $
          use1 𝓛 (‵ (pending R d (turn (pass, vacant, filled, which)))) (id⊢ 𝓤 _) $ by ! (then (pass, vacant, filled, which))))))

      -- what lay at rest comes under a new turn of this life
      pub wakes : (μ : Lft) (r : Share) → Incl μ R.lives → Incl μ κ → Judged R → (p : Ptr)
          → ⟦ at_rest R d p ⟧ ∗ A.lft μ r ⊢ H.⇛ (ex 𝓤 (Woken μ r p))
      wakes μ r inc sp j null_ptr =
          fresh null_ptr μ r (λ n.
          qed 𝓛 (‵ (pending R d (turn n)) ∷ ‵ (all_tokens 𝓛 (turn n) (first R d))
          ∷ ‵ (at_rest R d null_ptr) ∷ ‵ (flft μ r) ∷ []) ∵
          updating ! $ move ! (2 ∷ []) $ fsplit ! $ move ! (3 ∷ 1 ∷ []) $
          use2 𝓛 (‵ (all_unborn R d.sharing d.table (turn n) (len R d) (first R d)))
          (all_wait 𝓛 (turn n) R d.sharing d.table (len R d) (first R d)) $
          move ! (1 ∷ 2 ∷ 0 ∷ []) $ fjoin3 ! $ now ! $ show ! (Woken μ r null_ptr) n $ done !)
      wakes μ r inc sp j (block_ptr b o) =
          let p : Ptr = block_ptr b o in
          fresh p μ r (λ n.
          qed 𝓛 (‵ (pending R d (turn n)) ∷ ‵ (all_tokens 𝓛 (turn n) (first R d))
          ∷ ‵ (at_rest R d p) ∷ ‵ (flft μ r) ∷ []) ∵
          updating ! $
          let t : Turn = turn n in
          lft_new ! tt (λ ν. move ! (0 ∷ 4 ∷ []) $ join ! $ move ! (3 ∷ []) $ fsplit3 ! $
          fpick ! (λ so. drop ! $ move ! (0 ∷ 4 ∷ 2 ∷ []) $
          -- [the block; the tokens; the lifetimes; the right to free; pending]
          use3 𝓛 (later (some (λ (names : List ℕ).
          given (length names ≡ len R d)
          (‵ (block_stands R d t p record { at = p; block_life = ν; names = names })
          ⊛ (‵ (flft (ν ∷ []) full_share) ⊛ ‵ (flft μ r))))))
          (wakes_block 𝓛 t R L b ν d.sharing ((ν ∷ [], full_share) ∷ (μ, r) ∷ [])
          (Incl-trans (meet_⊑_right (ν ∷ []) μ) inc) (meet_within (ν ∷ []) κ μ sp) j (announced_where d) d.table
          (first R d) (len R d) o) $
          await ! tt $ pick ! (λ names. learn ! (λ long. split ! $ move ! (1 ∷ []) $ split ! $
          -- [its own token; μ's token; the block; the right to free; pending]
          let s : StandingBlock = record { at = p; block_life = ν; names = names } in
          move ! (4 ∷ []) $ fsplit ! $ name_set ! tt (block_code s) $
          use1 𝓛 (‵ (fres t.which (block_code s))) (𝓛.names.obs-res t.which (block_code s)) $
          move ! (5 ∷ []) $ fsplit ! $ move ! (3 ∷ 2 ∷ 1 ∷ []) $ fjoin3 ! $
          -- [settled; the right to free; its own token; μ's token; the block]
          move ! (4 ∷ 1 ∷ []) $ fjoin ! $ move ! (1 ∷ 2 ∷ 0 ∷ []) $ fjoin3 ! $ nothing ! $
          fpack ! ((p ≡ p) × (length names ≡ len R d) × Sized R (len R d) p) (λ _. ftrue)
          (refl, long, so) $
          fjoin ! $
          fpack ! (StandingBlock × Share) (standing R d t p) (s, full_share) $ now ! $ show ! (Woken μ r p) n $ done !)))))

      module _ (b o : ℕ) where
        abbrev ms : List Member
        ms = pointer ∷ []

        abbrev Data : RattleType
        Data = Struct (shape_of [] ms)

        abbrev pub P : Fml
        P = part_at (C.the_written R) full_share d b o

        abbrev Fields : Ptr → Fml
        Fields p = part_at Data full_share (p, tt) b o

        abbrev Back : SProp 𝓤
        Back = PartsBack 𝓛 full_share [] ms b o

        abbrev Inside : List Val → Ptr → Fml
        Inside vs p = fsep (Data.own_val (p, tt) vs) (at_rest R d p)

        abbrev pub Apart : Judged R × Ptr → SProp 𝓤
        Apart z = ⟦ cell b (o + 0) z.1 ⟧ ∗ ⟦ at_rest R d z.1 ⟧ ∗ Back

        pub out : ⟦ P ⟧ ⊢ ex 𝓤 Apart
        unfolding part_of
        out =
            qed 𝓛 (‵ P ∷ []) ∵ fpick ! (λ vs. fsplit ! $ move ! (1 ∷ []) $ fsplit ! $ fpick ! (λ j.
            drop ! $ fpick ! (λ p. fsplit ! $ move ! (2 ∷ 0 ∷ []) $ fjoin ! $
            fpack ! (List Val) (λ us. fsep (cell_at full_share Data.mir us b o) (Data.own_val (p, tt) us)) vs $
            use1 𝓛 ((‵ (part_at RawPtr full_share p b (o + 0)) ⊛ ‵ ftrue) ⊛ raw Back)
            (Struct-parts 𝓛 full_share [] ms (RawPtr-laws.lawful 𝓛, tt) (p, tt) b o) $
            split ! $ split ! $
            use1 𝓛 (‵ (cell b (o + 0) p)) (cell_out b (o + 0) p) $ show ! Apart (j, p) $ keep ! (0 ∷ 3 ∷ 2 ∷ []) $ done !)))

        pub back : Judged R → (p : Ptr) → ⟦ cell b (o + 0) p ⟧ ∗ ⟦ at_rest R d p ⟧ ∗ Back ⊢ ⟦ P ⟧
        unfolding part_of
        back j p =
            qed 𝓛 (‵ (cell b (o + 0) p) ∷ ‵ (at_rest R d p) ∷ raw Back ∷ []) ∵
            use1 𝓛 (‵ (part_at RawPtr full_share p b (o + 0))) (cell_in b (o + 0) p) $ nothing ! $
            move ! (1 ∷ 0 ∷ []) $ fjoin ! $ move ! (2 ∷ []) $
            use1 𝓛 (raw (wand 𝓤 ⟦ parts_at full_share ms 0 (p, tt) b o ⟧ ⟦ Fields p ⟧))
            (all_e 𝓤 (λ (y : Denots (rows_of ms)).
            wand 𝓤 ⟦ parts_at full_share ms 0 y b o ⟧ ⟦ part_at Data full_share y b o ⟧)
            (p, tt)) $
            move ! (1 ∷ 0 ∷ []) $
            use2 𝓛 (‵ (Fields p)) (apply∗ 𝓤 ⟦ parts_at full_share ms 0 (p, tt) b o ⟧ ⟦ Fields p ⟧) $
            fpick ! (λ vs. fsplit ! $ move ! (1 ∷ 2 ∷ []) $ fjoin ! $ fpack ! Ptr (Inside vs) p $
            nothing ! $ fpack ! (Judged R) (λ _. ftrue) j $ fjoin ! $ move ! (1 ∷ 0 ∷ []) $
            fjoin ! $
            fpack ! (List Val) (λ us.
            fsep (cell_at full_share Data.mir us b o)
            (fsep (fact (Judged R)) (fex Ptr (Inside us))))
            vs $
            done !)

        way_back : (t : Turn) → t.life ≡ κ → Judged R
            → Back
            ⊢ ⟦ fwand (fsep (fdead κ) (fseps (bucket_invariant R d t b (o + 0) ∷ []))) (fupd P) ⟧
        unfolding fseps
        way_back t same j =
            let J : Fml = bucket_invariant R d t b (o + 0) in
            qed 𝓛 (raw Back ∷ []) ∵ assume ! (‵ (fsep (fdead κ) (fsep J ftrue))) $
            suffices ! ⟦ P ⟧ (upd_i 𝓤 ⟦ P ⟧) $ fsplit3 ! $ move ! (1 ∷ []) $ fpick ! (λ p.
            fsplit ! $
            move ! (2 ∷ 1 ∷ []) $ rewrite ! 0 (λ (z : Lft). ‵ (fdead z)) (sym same) refl $
            use2 𝓛 (‵ (at_rest R d p)) (rests t p) $ move ! (1 ∷ 0 ∷ 3 ∷ []) $
            keep ! (0 ∷ 1 ∷ 2 ∷ []) $ by ! (back j p))

        lends : (q : Share) (μ : Lft) (r : Share) → Incl μ R.lives → Incl μ κ
            → A.bor κ P ∗ A.lft κ q ∗ A.lft μ r
            ⊢ H.⇛ (⟦ bucket_shares R d (block_ptr b o) κ ⟧ ∗ A.lft κ q ∗ A.lft μ r)
        unfolding fseps
        lends q μ r inc sp =
            qed 𝓛 (‵ (fbor κ P) ∷ ‵ (flft κ q) ∷ ‵ (flft μ r) ∷ []) ∵ updating ! $ bor_open ! tt $
            move ! (1 ∷ []) $
            use1 𝓛 (some (λ (z : Judged R × Ptr).
            ‵ (cell b (o + 0) z.1) ⊛ ‵ (at_rest R d z.1) ⊛ raw Back))
            out $
            pick ! (λ z. split3 ! $
            let p : Ptr = z.1 in
            move ! (1 ∷ 4 ∷ []) $
            use2 𝓛 (later (some (λ (n : Names). ‵ (beside_pointer R d (turn n) p) ⊛ ‵ (flft μ r))))
            (wakes μ r inc sp z.0 p) $
            await ! tt $ pick ! (λ n. split ! $
            let t : Turn = turn n in let J : Fml = bucket_invariant R d t b (o + 0) in
            -- [what lies beside the pointer; μ's token; the pointer; the way back; the open borrow]
            move ! (2 ∷ 0 ∷ []) $ fjoin ! $
            fpack ! Ptr (λ u. fsep (cell b (o + 0) u) (beside_pointer R d t u)) p $ nothing ! $
            move ! (1 ∷ 0 ∷ []) $ fjoin ! $ move ! (2 ∷ []) $
            use1 𝓛 (‵ (fwand (fsep (fdead κ) (fseps (J ∷ []))) (fupd P))) (way_back t refl z.0) $
            move ! (3 ∷ 1 ∷ 0 ∷ []) $ obor_alter ! tt (J ∷ []) $
            use1 𝓛 (‵ (fbor κ J) ⊛ ‵ ftrue) (id⊢ 𝓤 _) $ split ! $
            use1 𝓛 (later (‵ (finv (fbor κ J)))) (𝓛.invs.inv_new (fbor κ J)) $ await ! tt $
            use0 𝓛 (‵ (before κ κ)) (before-Incl 𝓛 κ κ (Incl-refl κ)) $ fjoin ! $
            fpack ! Turn (λ u. kept R d u b (o + 0) κ) t $ nothing ! $
            fpack ! (Judged R) (λ _. ftrue) z.0 $ fjoin ! $ now ! $ keep ! (0 ∷ 2 ∷ 3 ∷ []) $
            done !))

        pub lends_by : (μ : Lft) → Incl μ R.lives → Incl μ κ → (q : Share)
            → A.bor κ P ∗ A.lft μ q ⊢ H.⇛ (⟦ bucket_shares R d (block_ptr b o) κ ⟧ ∗ A.lft μ q)
        lends_by μ inc sp q =
            let h : Share = left q in
            let h' : Share = right q in
            let s : Share = thinned κ h in
            qed 𝓛 (‵ (fbor κ P) ∷ ‵ (flft μ q) ∷ []) ∵ updating ! $ move ! (1 ∷ []) $
            use1 𝓛 (‵ (flft μ h) ⊛ ‵ (flft μ h')) (𝓛.lfts.lft_split μ q) $ split ! $
            use1 𝓛 (‵ (flft κ s) ⊛ raw (wand 𝓤 (A.lft κ s) (A.lft μ h)))
            (𝓛.lfts.lft-incl μ κ h sp) $
            split ! $ move ! (3 ∷ 0 ∷ 2 ∷ []) $
            use3 𝓛 (later (‵ (bucket_shares R d (block_ptr b o) κ) ⊛ ‵ (flft κ s) ⊛ ‵ (flft μ h')))
            (lends s μ h' inc sp) $
            await ! tt $ split3 ! $ move ! (1 ∷ 3 ∷ []) $
            use2 𝓛 (‵ (flft μ h)) (apply∗ 𝓤 (A.lft κ s) (A.lft μ h)) $ move ! (0 ∷ 2 ∷ []) $
            use2 𝓛 (‵ (flft μ q)) (𝓛.lfts.lft_join μ q) $ now ! $ move ! (1 ∷ []) $ done !
