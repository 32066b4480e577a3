-- Opens two `&mut` of one type together, to learn a fact that only both values show. Assumes
-- `Logic`.
use Rattle.std.proofs.Common.{List, [], ◌∷◌, MutBor}
use seplogic.Ra.Ura.{Ura}
use mir.Syntax.{named}
use mir.Val.{Val, vptr}
use base.Logic.{ent, sep, guard}
use base.Fml.{Lft, Share, Fml, flft}
use types.Logic.{Logic}
use types.Kit.{‵, ◌⊛◌, given, updating, now, check, done, ◌$◌, ◌∵◌, !, qed, move, split, fsplit3, fjoin3, learn, use2}
use denote.RattleType.{RattleType}
use denote.Ref.{MutRef}
use denote.Steps.{opens, closes}
use Rattle.thread_local_base.proofs.Signs.{signs}

module _ {M : Type 1} {𝓤 : Ura M} (𝓛 : Logic 𝓤) (A : RattleType) where
  open 𝓛 use {H, A as S}
  open signs 𝓛 use {⟦◌⟧}

  module _ (κ κ' : Lft) (r s : MutBor A.Denot) where
    abbrev pub first : Fml
    first = (MutRef (named 0) κ A).own_val r (vptr r.ref_ptr.0 r.ref_ptr.1 ∷ [])

    abbrev pub second : Fml
    second = (MutRef (named 1) κ' A).own_val s (vptr s.ref_ptr.0 s.ref_ptr.1 ∷ [])

    pub show : (q q' : Share) (P : Type 0)
        → ((cs ds : List Val)
        → ent 𝓤 (sep 𝓤 ⟦ A.own_val r.now cs ⟧ ⟦ A.own_val s.now ds ⟧)
        (guard 𝓤 P (sep 𝓤 ⟦ A.own_val r.now cs ⟧ ⟦ A.own_val s.now ds ⟧)))
        → ent 𝓤 (sep 𝓤 ⟦ first ⟧ (sep 𝓤 ⟦ second ⟧ (sep 𝓤 (S.lft κ q) (S.lft κ' q'))))
        (H.⇛ (guard 𝓤 P (sep 𝓤 ⟦ first ⟧ (sep 𝓤 ⟦ second ⟧ (sep 𝓤 (S.lft κ q) (S.lft κ' q'))))))
    show q q' P shows = qed 𝓛 (‵ first ∷ ‵ second ∷ ‵ (flft κ q) ∷ ‵ (flft κ' q') ∷ []) ∵ updating ! $
        fsplit3 ! $ move ! (1 ∷ 2 ∷ 4 ∷ []) $ opens ! tt A r.ref_ptr.0 r.ref_ptr.1 (λ cs.
        -- [its cell; its value; its open borrow, in three entries; its first part; the second; the
        -- second's token]
        move ! (6 ∷ []) $ fsplit3 ! $ move ! (1 ∷ 2 ∷ 9 ∷ []) $ opens ! tt A s.ref_ptr.0 s.ref_ptr.1 (λ ds.
        -- [the second's cell; value; open borrow; first part; the first's cell; value; open borrow;
        -- first part]
        move ! (7 ∷ 1 ∷ []) $
        use2 𝓛 (given P (‵ (A.own_val r.now cs) ⊛ ‵ (A.own_val s.now ds))) (shows cs ds) $
        learn ! (λ so. split ! $
        move ! (2 ∷ 1 ∷ 3 ∷ 4 ∷ 5 ∷ []) $ closes ! tt A s.now ds s.ref_ptr.0 s.ref_ptr.1 $
        -- [the second's borrow, in two entries; its token; the first's value; the second's first
        -- part; the first's cell; open borrow; first part]
        move ! (5 ∷ 3 ∷ 6 ∷ 7 ∷ 8 ∷ []) $ closes ! tt A r.now cs r.ref_ptr.0 r.ref_ptr.1 $
        -- [the first's borrow, in two entries; its token; the second's; its token; the second's
        -- first part; the first's]
        move ! (7 ∷ 0 ∷ 1 ∷ []) $ fjoin3 ! $ move ! (5 ∷ 2 ∷ 3 ∷ []) $ fjoin3 ! $
        move ! (1 ∷ 0 ∷ 2 ∷ 3 ∷ []) $ now ! $ check ! so $ done !)))
