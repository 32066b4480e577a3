-- Giving a value: the value of one slot is split from those that a loan has left. Assumes `Logic`.
use Rattle.thread_local_base.proofs.Names.{◌≡◌, ℕ, ◌<◌, List, [], ◌∷◌, length, refl, sym, ap, subst, ◌∙◌}
use Rattle.thread_local_base.proofs.Names.{is_some, Option, Some, None, Ura, SProp, ent, sep, ex, all, all_e, emp}
use Rattle.thread_local_base.proofs.Names.{apply∗, Lft, Share, GName, Fml, ftrue, flft, fbor, fobs, Logic, sem, ‵}
use Rattle.thread_local_base.proofs.Names.{raw, ◌⊛◌, some, later, ◌$◌, ◌∵◌, !, qed, move, keep, drop, split, split3}
use Rattle.thread_local_base.proofs.Names.{fsplit, fjoin, fpick, fpack, pick, show, use1, use2, await, updating, now}
use Rattle.thread_local_base.proofs.Names.{rewrite, group, done, open_ref, RattleType, Ptr, block_of, count_of, mem}
use Rattle.thread_local_base.proofs.Names.{part_at, full_share, nothing}
use types.Follow.{after₂, takes_two}
use types.SemTy.{SemTy, Body}
use Rattle.thread_local_base.specs.Buckets.{Contents}
use Rattle.thread_local_base.specs.Owned.{Owned}
use Rattle.thread_local_base.specs.Code.{owned_coded}
use Rattle.thread_local_buckets.specs.Slots.{slot_value, value_offset}
use Rattle.thread_local_buckets.specs.LoanOwns.{shape, values_at, Values, lent_as, lent_values}
use Rattle.thread_local_buckets.proofs.Frames.{pointer, in_row, there, value_out, Value}
use Rattle.thread_local_buckets.proofs.Shapes.{put, put_back, long, row_long, long_put, row_long_put, is_slot, slot-put}
use Rattle.thread_local_base.proofs.TakingLaws.{shows_none}

-- the contents with another value, or none, in a slot
abbrev pub filled : {X : Type 0} → ℕ → ℕ → Option X → Contents X → Contents X
filled k i c w = record { rows = put w.rows k i c }

module _ {M : Type 1} {𝓤 : Ura M} (𝓛 : Logic 𝓤) (R : RattleType) (ps : List Ptr)
    (left : Contents R.Denot) (k i : ℕ) (x : R.Denot)
    (near : k < length left.rows) (inside : i < length (in_row left.rows k)) (had : slot_value (in_row left.rows k) i ≡ Some x) where
  open 𝓛 use {H, A}

  abbrev b : ℕ
  b = block_of (pointer ps k)

  abbrev F : Option R.Denot → ℕ → Fml
  F = there 𝓛 R ps k

  abbrev at : ℕ
  at = value_offset R (count_of (pointer ps k)) i

  abbrev pub less : Contents R.Denot
  less = filled k i None left

  abbrev Had : SemTy
  Had = Values R ps (shape left.rows)

  abbrev Less : SemTy
  Less = Values R ps (shape less.rows)

  abbrev pub whole_of : R.Denot → Owned R.Denot → Owned R.Denot
  whole_of w c = record c { contents = filled k i (Some w) c.contents }

  cut : ent 𝓤 (sem 𝓛 (Had.own_at (lent_as left) 0 0))
      (sep 𝓤 (sem 𝓛 (part_at R full_share x b at)) (sem 𝓛 (Less.own_at (lent_as less) 0 0)))
  cut = qed 𝓛 (‵ (Had.own_at (lent_as left) 0 0) ∷ []) ∵ fsplit ! $ drop ! $
      use1 𝓛 (‵ (F (slot_value (in_row left.rows k) i) i)
      ⊛ raw (all 𝓤 (Value 𝓛 R ps left.rows k i near inside)))
      (value_out 𝓛 R ps left.rows k i near inside) $
      split ! $
      rewrite ! 0 (λ (c : Option R.Denot). ‵ (F c i)) had refl $ move ! (1 ∷ []) $
      use1 𝓛 (raw (Value 𝓛 R ps left.rows k i near inside None))
      (all_e 𝓤 (Value 𝓛 R ps left.rows k i near inside) None) $
      nothing ! $ move ! (0 ∷ 1 ∷ []) $
      use2 𝓛 (‵ (values_at R ps less.rows))
      (apply∗ 𝓤 (sem 𝓛 ftrue) (sem 𝓛 (values_at R ps less.rows))) $
      nothing ! $ fpack ! (shape less.rows ≡ shape less.rows) (λ _. ftrue) refl $ fjoin ! $
      move ! (1 ∷ 0 ∷ []) $ done !

  mend : (w : R.Denot) (rest : Owned R.Denot)
      → ent 𝓤 (sep 𝓤 (sem 𝓛 (part_at R full_share w b at))
      (sep 𝓤 (sem 𝓛 (Less.own_at rest 0 0)) (emp 𝓤)))
      (sem 𝓛 (Had.own_at (whole_of w rest) 0 0))
  mend w rest =
      let c : Contents R.Denot = rest.contents in
      qed 𝓛 (‵ (part_at R full_share w b at) ∷ ‵ (Less.own_at rest 0 0) ∷ raw (emp 𝓤) ∷ []) ∵
      move ! (1 ∷ []) $ fsplit ! $ fpick ! (λ same. drop ! $
      let ks : k < length c.rows = subst (λ n. k < n) (sym (long less.rows c.rows k i same ∙ long_put left.rows k i None)) near in
      let js : i < length (in_row c.rows k) =
      subst (λ n. i < n)
      (sym (row_long less.rows c.rows k i same ∙ row_long_put left.rows k i None near))
      inside in
      let none : slot_value (in_row c.rows k) i ≡ None =
      shows_none (slot_value (in_row c.rows k) i)
      (is_slot less.rows c.rows k i same
      ∙ ap is_some (slot-put left.rows k i None near inside)) in
      use1 𝓛
      (‵ (F (slot_value (in_row c.rows k) i) i) ⊛ raw (all 𝓤 (Value 𝓛 R ps c.rows k i ks js)))
      (value_out 𝓛 R ps c.rows k i ks js) $
      split ! $
      rewrite ! 0 (λ (v : Option R.Denot). ‵ (F v i)) none refl $ drop ! $
      use1 𝓛 (raw (Value 𝓛 R ps c.rows k i ks js (Some w)))
      (all_e 𝓤 (Value 𝓛 R ps c.rows k i ks js) (Some w)) $
      move ! (1 ∷ 0 ∷ []) $
      use2 𝓛 (‵ (values_at R ps (whole_of w rest).contents.rows))
      (apply∗ 𝓤 (sem 𝓛 (part_at R full_share w b at))
      (sem 𝓛 (values_at R ps (whole_of w rest).contents.rows))) $
      nothing ! $
      fpack ! (shape (whole_of w rest).contents.rows ≡ shape left.rows) (λ _. ftrue)
      (put_back left.rows c.rows k i x w near had same) $
      fjoin ! $ keep ! (0 ∷ []) $ done !)

  module _ (κ : Lft) (q : Share) (δ : GName) where
    abbrev pub Gave : GName × GName → SProp 𝓤
    Gave γs =
        sep 𝓤 (sep 𝓤 (A.obs γs.0 (R.coded.code x)) (A.bor κ (Body (mem R) b at γs.0)))
        (sep 𝓤 (sem 𝓛 (lent_values R κ ps γs.1 less))
        (sep 𝓤 (A.lft κ q) (sem 𝓛 (after₂ Had (mem R) Less δ γs.0 γs.1 whole_of))))

    pub gives : ent 𝓤 (sep 𝓤 (sem 𝓛 (lent_values R κ ps δ left)) (A.lft κ q)) (H.⇛ (ex 𝓤 Gave))
    gives =
        let code = (owned_coded R.coded).code (lent_as left) in
        qed 𝓛 (‵ (lent_values R κ ps δ left) ∷ ‵ (flft κ q) ∷ []) ∵ updating ! $ fsplit ! $
        open_ref ! tt Had {x = lent_as left} {b = 0} {o = 0} $
        use1 𝓛 (‵ (part_at R full_share x b at) ⊛ ‵ (Less.own_at (lent_as less) 0 0)) cut $
        split ! $ nothing ! $ move ! (3 ∷ 4 ∷ 5 ∷ 1 ∷ 2 ∷ 0 ∷ []) $ group ! 6 $
        use1 𝓛 (later (some (λ (γs : GName × GName).
        (‵ (fobs γs.0 (R.coded.code x)) ⊛ ‵ (fbor κ (Body (mem R) b at γs.0)))
        ⊛ (‵ (fobs γs.1 ((owned_coded R.coded).code (lent_as less)))
        ⊛ ‵ (fbor κ (Body Less 0 0 γs.1)))
        ⊛ ‵ (flft κ q) ⊛ ‵ (after₂ Had (mem R) Less δ γs.0 γs.1 whole_of))))
        (takes_two 𝓛 Had (mem R) Less whole_of κ q 0 0 b at 0 0 δ (emp 𝓤) mend code code x
        (lent_as less)) $
        await ! tt $ pick ! (λ γs. split3 ! $
        move ! (1 ∷ []) $ split ! $ fjoin ! $ move ! (2 ∷ []) $ split ! $ now ! $ show ! Gave γs $
        keep ! (3 ∷ 2 ∷ 0 ∷ 1 ∷ []) $ done !)
