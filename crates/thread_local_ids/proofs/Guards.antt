-- A guard's right to the value, taken apart and lent. Assumes `Logic`.
use Rattle.std.proofs.Common.{ℕ, ◌+◌, [], ◌∷◌, ◌++◌}
use seplogic.Ra.Ura.{Ura}
use base.Share
use base.Fraction.{full_share}
use base.Logic.{upd_i, never_e, id⊢}
use base.Fml.{Lft, Share, Incl, Fml, ftrue, ffalse, fsep, fseps, fwand, fupd, fdead, fbor, flft, fobs, Incl-refl, Incl-trans}
use base.Before.{before}
use contract.Monad.{fact, fact_i}
use contract.BorrowLft.{meet_⊑_left, meet_⊑_right, ⊑_meet}
use ghost.Rules.{span}
use types.Logic.{Logic, lfts}
use types.Kit.{‵, raw, ◌⊛◌, later, ◌$◌, ◌∵◌, !, qed, move, keep, drop, use1, use2, use3, split, split3, fsplit, fjoin}
use types.Kit.{fjoin3, fpick, fpack, assume, suffices, await, updating, now, done}
use types.Tokens.{bor_open, obor_close, obor_alter}
use types.Na.{before_dup, before_shorten}
use denote.RattleType.{RattleType, RowLaws}
use denote.Memory.{part_at, mem, shared_of}
use denote.RawPtr.{InBlock, Ptr, block_ptr, null_ptr}
use denote.Sharing.{ShrLaws}
use denote.SharingLaws.{within_shr_laws, said_shr_laws}
use denote.Shares.{Shares, settles}
use denote.Steps.{nothing}
use denote.Struct.Lending.{Lends, Lends-false}
use Rattle.std.proofs.cell.BorrowLemmas.{by_one, unnest_before}
use Rattle.thread_local_ids.specs.Locking.{offset, LockTurn, named_value, lock_kept, guarding, guard_owns, guard_shares}
use Rattle.thread_local_base.proofs.Signs.{signs}

pub guard_laws : (β : Lft) (R : RattleType) → RowLaws R → (p : Ptr) (x : R.Denot) → ShrLaws (guard_shares β R p x)
guard_laws β R L (block_ptr b o) x = within_shr_laws β (shared_of R x b (o + offset R)) (L x b (o + offset R))
guard_laws β R L null_ptr x = said_shr_laws ffalse tt

module _ {M : Type 1} {𝓤 : Ura M} (𝓛 : Logic 𝓤) where
  open 𝓛 use {H, A}
  open signs 𝓛 use {⟦◌⟧, ◌⊢◌, ◌∗◌}

  infix 26 ◌⊢◌
  infixr 35 ◌∗◌
  -- a guard's pointer to its lock isn't null
  pub placed : (β : Lft) (R : RattleType) (ok : R.Denot → Type 0) (p : Ptr) (x : R.Denot)
      → ⟦ guard_owns β R ok p x ⟧ ⊢ fact 𝓤 (InBlock p)
  placed β R ok (block_ptr b o) x = fact_i 𝓤 (InBlock (block_ptr b o)) _ tt
  placed β R ok null_ptr x = never_e 𝓤 _

  pub seen : (β : Lft) (R : RattleType) (p : Ptr) (x : R.Denot) (κ : Lft) → ⟦ guard_shares β R p x κ ⟧ ⊢ fact 𝓤 (InBlock p)
  seen β R (block_ptr b o) x κ = fact_i 𝓤 (InBlock (block_ptr b o)) _ tt
  seen β R null_ptr x κ = never_e 𝓤 _

  module _ (β : Lft) (R : RattleType) (ok : R.Denot → Type 0) (b o : ℕ) (x : R.Denot) where
    abbrev P : Fml
    P = guard_owns β R ok (block_ptr b o) x

    abbrev At : R.Denot → Fml
    At y = part_at R full_share y b (o + offset R)

    abbrev Named : LockTurn → Fml
    Named = named_value R ok b o

    abbrev Ob : LockTurn → Fml
    Ob t = fobs t.1 (R.coded.code x)

    again : (ν : Lft) (t : LockTurn)
        → ⟦ lock_kept R ok b o t β ⟧
        ⊢ ⟦ fwand (fsep (fdead ν) (fseps (Ob t ∷ fbor t.0 (Named t) ∷ []))) (fupd P) ⟧
    unfolding fseps
    again ν t =
        qed 𝓛 (‵ (lock_kept R ok b o t β) ∷ []) ∵
        assume ! (‵ (fsep (fdead ν) (fsep (Ob t) (fsep (fbor t.0 (Named t)) ftrue)))) $
        suffices ! ⟦ P ⟧ (upd_i 𝓤 ⟦ P ⟧) $
        fsplit ! $ drop ! $ fsplit ! $ move ! (1 ∷ []) $ fsplit ! $ move ! (2 ∷ 0 ∷ []) $ fjoin ! $
        move ! (2 ∷ 0 ∷ []) $ fjoin ! $ fpack ! LockTurn (λ s. guarding R ok b o s β x) t $
        keep ! (0 ∷ []) $ done !

    lends_at : (ν : Lft) → Incl ν β → (q : Share) → A.bor ν P ∗ A.lft ν q ⊢ H.⇛ (A.bor ν (At x) ∗ A.lft ν q)
    unfolding fseps
    lends_at ν inc q =
        qed 𝓛 (‵ (fbor ν P) ∷ ‵ (flft ν q) ∷ []) ∵ updating ! $ bor_open ! tt $ move ! (1 ∷ []) $
        fpick ! (λ t. fsplit ! $ fsplit ! $
        -- [before; the invariant; the right; the open borrow]
        use1 𝓛 (‵ (before β t.0) ⊛ ‵ (before β t.0)) (before_dup 𝓛 β t.0) $ split ! $ move ! (1 ∷ 2 ∷ []) $ fjoin ! $
        use1 𝓛 (‵ (fwand (fsep (fdead ν) (fseps (Ob t ∷ fbor t.0 (Named t) ∷ []))) (fupd P)))
        (again ν t) $
        move ! (2 ∷ []) $ fsplit ! $ nothing ! $ move ! (1 ∷ 2 ∷ 0 ∷ []) $ fjoin3 ! $
        -- [the two; the way back; before; the open borrow]
        move ! (3 ∷ 0 ∷ 1 ∷ []) $ obor_alter ! tt (Ob t ∷ fbor t.0 (Named t) ∷ []) $
        use1 𝓛 (‵ (fbor ν (Ob t)) ⊛ ‵ (fbor ν (fbor t.0 (Named t))) ⊛ ‵ ftrue) (id⊢ 𝓤 _) $
        split3 ! $
        move ! (4 ∷ []) $ use1 𝓛 (‵ (before ν t.0)) (before_shorten 𝓛 β ν t.0 inc) $ keep ! (0 ∷ 2 ∷ 4 ∷ 1 ∷ []) $
        use3 𝓛 (later (‵ (fbor ν (Named t)) ⊛ ‵ (flft ν q))) (unnest_before 𝓛 ν t.0 q (Named t)) $
        await ! tt $ split ! $ move ! (1 ∷ []) $
        use1 𝓛 (‵ (flft ν (Share.left q)) ⊛ ‵ (flft ν (Share.right q))) (𝓛.lfts.lft_split ν q) $
        split ! $ move ! (3 ∷ 0 ∷ []) $ bor_open ! tt $ move ! (1 ∷ 3 ∷ 2 ∷ []) $
        use3 𝓛 (later (‵ (Ob t) ⊛ ‵ (fbor ν (At x)) ⊛ ‵ (flft ν (Share.right q))))
        (settles 𝓛 (mem R) ν ((ν, Share.right q) ∷ []) (Incl-refl ν) t.1 x b (o + offset R)) $
        await ! tt $ split3 ! $
        move ! (3 ∷ 0 ∷ []) $ obor_close ! tt $ drop ! $ move ! (0 ∷ 2 ∷ []) $
        use2 𝓛 (‵ (flft ν q)) (𝓛.lfts.lft_join ν q) $ now ! $ move ! (1 ∷ 0 ∷ []) $ done !)

  -- a borrow of a guard becomes a `&` to its value
  pub lends_guard : (β : Lft) (R : RattleType) (ok : R.Denot → Type 0) (l : Lft) → Incl l β
      → Shares 𝓛 R l → (p : Ptr) (x : R.Denot)
      → Lends 𝓛 (guard_owns β R ok p x) (guard_shares β R p x) l
  lends_guard β R ok l le s null_ptr x = Lends-false 𝓛 (guard_shares β R null_ptr x) l
  lends_guard β R ok l le s (block_ptr b o) x = λ κ ts inc sp.
      let ν : Lft = κ ++ β in
      let P : Fml = guard_owns β R ok (block_ptr b o) x in
      let Seen : Fml = part_at R full_share x b (o + offset R) in
      let sm : Incl (span ts) ν = ⊑_meet (span ts) κ β sp (Incl-trans inc le) in
      qed 𝓛 (‵ (fbor κ P) ∷ raw (lfts 𝓛 ts) ∷ []) ∵ updating ! $
      use1 𝓛 (‵ (fbor ν P)) (𝓛.bors.bor_shorten κ ν P (meet_⊑_left κ β)) $
      use2 𝓛 (later (‵ (fbor ν Seen) ⊛ raw (lfts 𝓛 ts)))
      (by_one 𝓛 ν ts sm (A.bor ν P) (A.bor ν Seen) (lends_at β R ok b o x ν (meet_⊑_right κ β))) $
      await ! tt $
      use1 𝓛 (later (‵ (shared_of R x b (o + offset R) ν) ⊛ raw (lfts 𝓛 ts)))
      (s x ν ts b (o + offset R) inc sm) $
      await ! tt $ now ! $ done !
