-- Making a loan: the owner's borrow is split into what the loan owns and what is put aside. Assumes
-- `Logic`.
use Rattle.thread_local_base.proofs.Names.{◌≡◌, ℕ, ◌+◌, List, [], ◌∷◌, length, refl, sym, ap, ◌∙◌, subst, arith}
use Rattle.thread_local_base.proofs.Names.{Option, Ura, SProp, ent, sep, ex, guard, Lft, Share, GName, Fml, ftrue}
use Rattle.thread_local_base.proofs.Names.{fsep, flft, fbor, fobor, fobs, fauth, Logic, sem, ‵, raw, ◌⊛◌, some, later}
use Rattle.thread_local_base.proofs.Names.{◌$◌, ◌∵◌, !, qed, by, move, keep, drop, split, split3, fsplit, fjoin}
use Rattle.thread_local_base.proofs.Names.{fpick, fpack, pick, check, show, use1, use2, use3, await, updating, now}
use Rattle.thread_local_base.proofs.Names.{rewrite, group, join, done, RattleType, Ptr, block_ptr, full_share, mem}
use Rattle.thread_local_base.proofs.Names.{part_at, param, nothing, SemTy}
use types.SemTy.{Body}
use base.Fml.{fseps}
use denote.Param.Laws.{Laws}
use types.Follow.{after, takes_beside}
use Rattle.std.specs.Prelude.{◌⊎◌, ◌^◌, is_some}
use Rattle.std.proofs.lemmas.List.{length-map, nil_from_length}
use Rattle.thread_local_base.specs.Buckets.{Contents, IsTable, row}
use Rattle.thread_local_base.specs.Rows.{value_in}
use Rattle.thread_local_base.proofs.TakingLaws.{shows_none}
use Rattle.thread_local_base.specs.Owned.{Owned}
use Rattle.thread_local_base.specs.Code.{owned_coded}
use Rattle.thread_local_buckets.specs.declared.bucket_pointer.BucketPointer.{BucketPointer}
use Rattle.thread_local_buckets.specs.contracts.bucket_pointers.BucketPointers as all_pointers
use Rattle.thread_local_buckets.proofs.Announcing.{IsAnnounced, IsAnnounced-same}
use Rattle.thread_local_buckets.specs.LoanOwns.{shape, Known, Lending, lending, loan_owns, frames, Values, values_at, lent_as}
use Rattle.thread_local_base.specs.Refilled.{refilled}
use Rattle.thread_local_buckets.proofs.PointerCells.{open_pointers, close_pointers, Laid, Inside, view, good, remade}
use Rattle.thread_local_buckets.proofs.Refills.{refilled_same}
use Rattle.thread_local_buckets.proofs.Shapes.{row_long, long, is_slot}
use Rattle.thread_local_buckets.proofs.Taking.{side, rows, pointers, refit, rows-refit, Waits, cut_pointers, join_pointers}

pub table_same : {V : Type 0} (c w : Contents V) → shape w.rows ≡ shape c.rows → IsTable c → IsTable w
table_same c w same t = record {
  buckets = long c.rows w.rows 0 0 same ∙ t.buckets;
  whole = λ bucket.
      subst (λ n. (n ≡ 0) ⊎ (n ≡ 2 ^ bucket)) (sym (row_long c.rows w.rows bucket 0 same))
      (t.whole bucket);
}

announced_same : {V : Type 0} (announced made : ℕ) (c w : Contents V) → shape w.rows ≡ shape c.rows
    → IsAnnounced announced made c → IsAnnounced announced made w
announced_same announced made c w same so =
    IsAnnounced-same announced made c w (table_same c w same so.0)
    (λ b none i. shows_none (value_in w b i) (is_slot c.rows w.rows b i same ∙ ap is_some (none i)))
    (λ b none. nil_from_length (row w b) (row_long c.rows w.rows b 0 same ∙ ap length none)) so

module _ {M : Type 1} {𝓤 : Ura M} (𝓛 : Logic 𝓤) (X : RattleType) (L : Laws X) (b o : ℕ) (c : Contents (param 0 X).Denot) where
  open 𝓛 use {H, A}

  abbrev R : RattleType
  R = param 0 X

  abbrev Table : RattleType
  Table = all_pointers.the_row R

  abbrev code : Owned R.Denot → base.Stored.Gv
  code = (owned_coded R.coded).code

  abbrev e : ℕ
  e = o + 0 + 0

  from : e ≡ o
  from = omega arith

  module _ (a : (Inside 𝓛 X L b o).Denot) (seen : view 𝓛 X L b o a ≡ c) (so : good 𝓛 X L b o a) where
    abbrev ws : List (BucketPointer R.Denot)
    ws = a.pointers.pointers

    abbrev ps : List Ptr
    ps = pointers ws

    rows_are : rows ws ≡ c.rows
    rows_are = ap (λ (z : Contents R.Denot). z.rows) seen

    abbrev pub table : IsTable c
    table = subst IsTable seen so.0

    abbrev Held : SemTy
    Held = Values R ps (shape c.rows)

    abbrev Frames : Fml
    Frames = frames R b o ps c.rows

    abbrev Rest : SProp 𝓤
    Rest = sep 𝓤 (Waits 𝓛 R b ws e) (Laid 𝓛 X L b o a)

    back : (lent : Owned R.Denot)
        → ent 𝓤 (sep 𝓤 (sem 𝓛 (Held.own_at lent 0 0)) (sep 𝓤 (sem 𝓛 (fseps (Frames ∷ []))) Rest))
        (sem 𝓛 (part_at Table full_share (refilled c lent.contents) b o))
    unfolding fseps
    back lent =
        let w : Contents R.Denot = lent.contents in
        qed 𝓛 (‵ (Held.own_at lent 0 0) ∷ ‵ (fsep Frames ftrue)
        ∷ (raw (Waits 𝓛 R b ws e) ⊛ raw (Laid 𝓛 X L b o a)) ∷ []) ∵
        fsplit ! $ fpick ! (λ same. drop ! $ move ! (1 ∷ []) $ fsplit ! $ move ! (3 ∷ []) $
        split ! $
        -- [`Waits`; `Laid`; the frames; nothing; the values]
        let same' : shape w.rows ≡ shape (rows ws) = same ∙ ap shape (sym rows_are) in
        let vs = refit ws w.rows in
        let are : rows vs ≡ w.rows = rows-refit ws w.rows same' in
        let full : refilled c w ≡ w = refilled_same c w same in
        let seen' : view 𝓛 X L b o (remade 𝓛 X L b o a vs) ≡ w = λ i. record { rows = are i } in
        let many : length vs ≡ 63 =
        sym (length-map vs (λ v. v.slots))
        ∙ ap length are
        ∙ long c.rows w.rows 0 0 same
        ∙ table.buckets in
        move ! (2 ∷ []) $
        rewrite ! 0 (λ (z : List (List (Option R.Denot))). ‵ (frames R b o ps z))
        (sym rows_are) refl $
        rewrite ! 0 (λ (n : ℕ). ‵ (frames R b n ps (rows ws))) (sym from) refl $
        move ! (0 ∷ 4 ∷ 1 ∷ []) $
        use3 𝓛 (‵ (side 𝓛 R b vs e)) (join_pointers 𝓛 R b ws w.rows e same') $ move ! (0 ∷ 1 ∷ []) $
        use2 𝓛 (‵ (part_at Table full_share (refilled c w) b o))
        (close_pointers 𝓛 X L b o a vs (refilled c w) many (seen' ∙ sym full)
        (subst (λ (z : Contents R.Denot). IsAnnounced a.announced.bits a.made.bits z) (sym seen')
        (announced_same a.announced.bits a.made.bits c w same
        (subst (λ (z : Contents R.Denot). IsAnnounced a.announced.bits a.made.bits z) seen so)))) $
        keep ! (0 ∷ []) $ done !)

  -- the owner has the pointers and something apart, and gets both back once the pointers are whole
  module _ (O : RattleType) (ob oo : ℕ) (F : Owned R.Denot → O.Denot) (Apart : SProp 𝓤)
      (shuts : (lent : Owned R.Denot)
      → ent 𝓤 (sep 𝓤 (sem 𝓛 (part_at Table full_share (refilled c lent.contents) b o)) Apart)
      (sem 𝓛 ((mem O).own_at (F lent) ob oo)))
    where
      module _ (a : (Inside 𝓛 X L b o).Denot) (seen : view 𝓛 X L b o a ≡ c) (so : good 𝓛 X L b o a) where
        owner_back : (lent : Owned R.Denot)
            → ent 𝓤 (sep 𝓤 (sem 𝓛 ((Held a seen so).own_at lent 0 0))
            (sep 𝓤 (sem 𝓛 (fseps (Frames a seen so ∷ []))) (sep 𝓤 (Rest a seen so) Apart)))
            (sem 𝓛 ((mem O).own_at (F lent) ob oo))
        owner_back lent =
            qed 𝓛 (‵ ((Held a seen so).own_at lent 0 0) ∷ ‵ (fseps (Frames a seen so ∷ []))
            ∷ (raw (Rest a seen so) ⊛ raw Apart) ∷ []) ∵
            move ! (2 ∷ []) $ split ! $ move ! (2 ∷ 3 ∷ 0 ∷ []) $
            use3 𝓛 (‵ (part_at Table full_share (refilled c lent.contents) b o)) (back a seen so lent) $ by ! (shuts lent)

      module _ (κ : Lft) (q : Share) (γ : GName) where
        abbrev pub Lent : GName → SProp 𝓤
        Lent ν =
            sep 𝓤 (sem 𝓛 (loan_owns κ R (block_ptr b o) (block_ptr b o) ν c 0 63 0))
            (sep 𝓤 (A.lft κ q) (sem 𝓛 (after (mem O) (Values R [] []) γ ν F)))

        pub lends : (u v : base.Stored.Gv)
            → ent 𝓤 (sep 𝓤 (A.obor κ q (Body (mem O) ob oo γ))
            (sep 𝓤 (A.obs γ u)
            (sep 𝓤 (A.auth γ v) (sep 𝓤 (sem 𝓛 (part_at Table full_share c b o)) Apart))))
            (H.⇛ (guard 𝓤 (IsTable c) (ex 𝓤 Lent)))
        unfolding fseps
        lends u v =
            qed 𝓛 (‵ (fobor κ q (Body (mem O) ob oo γ)) ∷ ‵ (fobs γ u) ∷ ‵ (fauth γ v)
            ∷ ‵ (part_at Table full_share c b o) ∷ raw Apart ∷ []) ∵
            updating ! $ move ! (3 ∷ []) $
            use1 𝓛
            (some
            (λ (x : (a : (Inside 𝓛 X L b o).Denot) × ((view 𝓛 X L b o a ≡ c) × good 𝓛 X L b o a)).
            ‵ (side 𝓛 R b x.0.pointers.pointers e) ⊛ raw (Laid 𝓛 X L b o x.0)))
            (open_pointers 𝓛 X L b o c) $
            pick ! (λ x.
            let a = x.0 in
            split ! $
            let ps' = ps a x.1.0 x.1.1 in
            let is = rows_are a x.1.0 x.1.1 in
            let Frames' : Fml = Frames a x.1.0 x.1.1 in
            let Held' : SemTy = Held a x.1.0 x.1.1 in
            let Rest' : SProp 𝓤 = Rest a x.1.0 x.1.1 in
            let t : IsTable c = table a x.1.0 x.1.1 in
            use1 𝓛 (‵ (frames R b e ps' (rows a.pointers.pointers))
            ⊛ ‵ (values_at R ps' (rows a.pointers.pointers))
            ⊛ raw (Waits 𝓛 R b a.pointers.pointers e))
            (cut_pointers 𝓛 R b a.pointers.pointers e) $
            split3 ! $
            rewrite ! 0 (λ (z : List (List (Option R.Denot))). ‵ (frames R b e ps' z)) is refl $
            rewrite ! 0 (λ (n : ℕ). ‵ (frames R b n ps' c.rows)) from refl $
            rewrite ! 1 (λ (z : List (List (Option R.Denot))). ‵ (values_at R ps' z)) is refl $
            -- [the frames; the values; `Waits`; `Laid`; the open borrow; its name, in two parts; what
            -- is apart]
            nothing ! $ move ! (1 ∷ 0 ∷ []) $ fjoin ! $ nothing ! $
            fpack ! (shape c.rows ≡ shape c.rows) (λ _. ftrue) refl $ move ! (0 ∷ 2 ∷ []) $ fjoin ! $
            move ! (2 ∷ 3 ∷ []) $ join ! $ move ! (0 ∷ 6 ∷ []) $ join ! $
            move ! (3 ∷ 4 ∷ 5 ∷ 1 ∷ 2 ∷ 0 ∷ []) $ group ! 6 $
            use1 𝓛 (later (some (λ (ν : GName).
            ‵ (fobs ν (code (lent_as c))) ⊛ ‵ (fbor κ (Body Held' 0 0 ν)) ⊛ ‵ (flft κ q)
            ⊛ ‵ (after (mem O) (Values R [] []) γ ν F) ⊛ ‵ (fbor κ Frames') ⊛ ‵ ftrue)))
            (takes_beside 𝓛 (mem O) Held' F κ q ob oo 0 0 γ (Frames' ∷ []) (sep 𝓤 Rest' Apart)
            (owner_back a x.1.0 x.1.1) u v (lent_as c)) $
            await ! tt $ pick ! (λ ν. split3 ! $ move ! (2 ∷ []) $ split3 ! $ move ! (2 ∷ []) $
            split ! $
            -- [the frames; nothing; the token; what follows; the name; the values]
            move ! (4 ∷ 5 ∷ []) $ fjoin ! $ move ! (1 ∷ 0 ∷ []) $ fjoin ! $ nothing ! $
            fpack ! (Known R (block_ptr b o) (block_ptr b o) c 0 63 0 (ps', c)) (λ _. ftrue) (
              tt,
              record { table = t; rows = t.buckets; long = λ _. refl; ahead = λ _ _ _. refl },
              λ low. absurd (omega (arith, low)),
            ) $
            fjoin ! $
            fpack ! (Lending R) (lending R κ (block_ptr b o) (block_ptr b o) ν c 0 63 0) (ps', c) $
            now ! $ check ! t $ show ! Lent ν $ keep ! (0 ∷ 2 ∷ 3 ∷ []) $ done !))
