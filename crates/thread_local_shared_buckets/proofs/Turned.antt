-- Turns shared buckets at rest into an owner's buckets and back: the machine values are the same.
-- Assumes `Logic`.
use Rattle.std.proofs.Common.{map, suc, ◌≡◌, ℕ, ◌+◌, ◌<◌, ◌^◌, w64, List, [], ◌∷◌, ◌++◌, length, refl, sym, ap, ◌∙◌, subst}
use Rattle.std.proofs.Common.{arith, Bool, Option, None, Some, true, false, bit_or, ◌==◌}
use seplogic.Ra.Ura.{Ura}
use mir.Val.{Val, vint, vstruct, vcons, vnil, of_list}
use base.Fml.{Fml, ftrue, ffalse, fsep}
use base.Logic.{SProp, ex, guard, via, never_e}
use types.Owned.{basic}
use types.Logic.{Logic}
use types.Kit.{use2, use3, split, split3, by, ◌⊛◌, use0, ‵, some, given, later, ◌$◌, ◌∵◌, !, qed, move, keep, drop, use1, fsplit}
use types.Kit.{fsplit3, fjoin, fjoin3, fpick, fpack, pick, learn, check, show, feq_i, feq_l, flt_i, await, updating}
use types.Kit.{now, rewrite, done}
use denote.RattleType.{RattleType, Valss}
use denote.RawPtr.{Ptr}
use denote.Builtin.{u64, usize}
use base.Fraction.{full_share}
use denote.Memory.{part_at, part_of, cell_at}
use denote.Laws.{Typed, Is, shows}
use denote.Steps.{nothing, peeks}
use denote.Array.{Array, array_val, shape, each}
use denote.Param.{layout}
use denote.Param.Laws.{Laws}
use Rattle.std.proofs.cell.Inside.{one}
use denote.Struct.Struct.{Struct, Shape, within}
use Rattle.std.specs.contracts.alloc.Global as heap
use Rattle.std.proofs.lemmas.Bool.{false≢true}
use Rattle.thread_local_base.specs.Bits.{is_set}
use Rattle.thread_local_base.specs.Buckets.{Contents, row, IsTable}
use Rattle.thread_local_base.specs.Owned.{Owned, AreOfFirstBuckets, IsOwned}
use Rattle.thread_local_base.specs.Judged.{Judged}
use Rattle.thread_local_buckets.specs.Slots.{heap_token}
use Rattle.thread_local_buckets.specs.PointerOwns.{pointer_owns}
use Rattle.thread_local_buckets.specs.contracts.bucket_pointer.BucketPointer as plain
use Rattle.thread_local_buckets.proofs.bucket_pointer.BucketPointer.TheLaws as plain'
use Rattle.thread_local_buckets.specs.Announced.{Announces, Covers}
use Rattle.thread_local_buckets.proofs.Announcing.{in_neither, not_in, set_unless}
use Rattle.thread_local_buckets.specs.contracts.announced.BucketBits as bits
use Rattle.thread_local_buckets.proofs.announced.BucketBits.TheLaws as bits'
use Rattle.thread_local_shared_buckets.specs.Announcing.{Announcing, BeginsWithFirst, AreMade, lies_with_word}
use Rattle.thread_local_shared_buckets.specs.contracts.announcements.Announcements as shared_word
use Rattle.thread_local_shared_buckets.proofs.AnnouncingLaws.{bits_untold, new_rights, rights_new, first_set, none_past, begins, beginning}
use Rattle.thread_local_shared_buckets.specs.Shared.{BucketView, at_rest}
use Rattle.thread_local_ids.specs.Told.{rows_telling, rows_tell, book_owns}
use Rattle.thread_local_ids.specs.Sharings.{later_of}
use Rattle.thread_local_ids.proofs.ToldElements.{source}
use Rattle.thread_local_ids.specs.Rights.{slots_own}
use Rattle.thread_local_ids.proofs.Rows.{none_rows, rows_end, rows_first, table_whole, rows_drawn}
use Rattle.thread_local_shared_buckets.proofs.BlankRows.{none_blank}
use Rattle.thread_local_shared_buckets.specs.contracts.shared_bucket.SharedBucket as shared
use Rattle.thread_local_buckets.specs.Pointers.{contents_of}
use Rattle.thread_local_buckets.specs.contracts.pointer_array.PointerArray as array
use Rattle.thread_local_buckets.specs.contracts.bucket_pointers.BucketPointers as all_pointers
use Rattle.thread_local_buckets.proofs.bucket_pointers.BucketPointers.TheLaws as all_pointers'
use Rattle.thread_local_buckets.specs.contracts.buckets.Buckets as buckets
use Rattle.thread_local_shared_buckets.specs.contracts.parts.SharedParts as all_shared
use Rattle.thread_local_shared_buckets.specs.contracts.parts.SharedPointers as all_buckets'
use Rattle.thread_local_shared_buckets.specs.contracts.parts.SharedArray as shared_array
use Rattle.thread_local_buckets.proofs.buckets.Buckets.TheLaws as buckets'
use Rattle.thread_local_shared_buckets.specs.contracts.shared.Shared as whole
use Rattle.thread_local_shared_buckets.specs.AfterLoan.{view_with, has_no_value, begun_in, view_begun}
use Rattle.thread_local_shared_buckets.specs.Fit.{Fit}
use Rattle.thread_local_shared_buckets.specs.TableView.{TableView, table_view_of, AreBuckets}
use Rattle.thread_local_shared_buckets.proofs.Lists.{AreOf, table_are_of, named_are_of, AllFit, fits_long, owned_of}
use Rattle.thread_local_shared_buckets.proofs.Lists.{are_owned, fit_all, table_buckets, table_long, table_named}
use Rattle.thread_local_shared_buckets.proofs.Lists.{table_seen}
use Rattle.thread_local_shared_buckets.specs.Grown.{only_reserved}
use Rattle.thread_local_shared_buckets.proofs.GrownLaws.{row_known, rows_known, rows_grown, rows_announced, AllSet, known_apart}
use Rattle.thread_local_shared_buckets.proofs.GrownLaws.{known_together, rows_show, rows_set, IsSetFor, IsBare}
use Rattle.thread_local_shared_buckets.proofs.GrownLaws.{none_grown, less_grown, nothing_shown, lent_shown, view_again, grown_in}
use Rattle.thread_local_shared_buckets.proofs.Redeemed.{redeems_bucket, rests_bucket}
use Rattle.thread_local_base.proofs.Signs.{signs}

-- the machine value of an owner's pointers with the number of reserved slots
abbrev pub pair_val : Val → ℕ → Val
pair_val v n = vstruct (vcons v (vcons (vint w64 n) vnil))

module _ {M : Type 1} {𝓤 : Ura M} (𝓛 : Logic 𝓤) (R : RattleType) (L : Laws R) where
  open 𝓛 use {H, A}
  open signs 𝓛 use {⟦◌⟧, ◌⊢◌, ◌∗◌}

  infix 26 ◌⊢◌
  infixr 35 ◌∗◌
  abbrev C : Type 0
  C = Option R.Denot

  -- the type of a shared bucket, and then of an owner's pointer
  abbrev pub S : RattleType
  S = shared.the_row R

  abbrev pub W : RattleType
  W = plain.the_row R

  abbrev slots : W.Denot → List C
  slots w = w.slots

  abbrev Data : Ptr → List Val → Fml
  Data p vs = (Struct (record { name = []; args = []; types = []; fields = denote.RawPtr.RawPtr ∷ [] })).own_val (p, tt) vs

  abbrev Inside : BucketView → List Val → Ptr → Fml
  Inside d vs p = fsep (Data p vs) (at_rest R d p)

  -- ---- one bucket: an owner's pointer, and what is known of its slots
  abbrev Tells : BucketView → List C → Fml
  Tells d cs = row_known R d cs

  abbrev Turned : BucketView → List Val → W.Denot → SProp 𝓤
  Turned d vs w = guard 𝓤 (Fit d w.slots) (⟦ W.own_val w vs ⟧ ∗ ⟦ Tells d w.slots ⟧)

  redeems_one : (d : BucketView) (vs : List Val) → ⟦ S.own_val d vs ⟧ ⊢ H.⇛ (ex 𝓤 (Turned d vs))
  redeems_one d vs =
      qed 𝓛 (‵ (S.own_val d vs) ∷ []) ∵ updating ! $ fsplit3 ! $ drop ! $ drop ! $ fpick ! (λ p.
      fsplit ! $ move ! (1 ∷ []) $
      use1 𝓛 (later (some (λ (cs : List C).
      given (Fit d cs) (‵ (pointer_owns R heap_token p cs) ⊛ ‵ (Tells d cs)))))
      (redeems_bucket 𝓛 R L d p) $
      await ! tt $ pick ! (λ cs. learn ! (λ fit. split ! $
      now ! $ show ! (Turned d vs) (record { at = p; slots = cs }) $ check ! fit $ move ! (2 ∷ 0 ∷ []) $ fjoin ! $ done !)))

  judged_one : (d : BucketView) (vs : List Val) → ⟦ S.own_val d vs ⟧ ⊢ guard 𝓤 (Judged R) ⟦ S.own_val d vs ⟧
  judged_one d vs =
      qed 𝓛 (‵ (S.own_val d vs) ∷ []) ∵ fsplit3 ! $ move ! (1 ∷ []) $ fpick ! (λ j. check ! j $
      drop ! $ nothing ! $ fpack ! (Judged R) (λ _. ftrue) j $ move ! (1 ∷ 0 ∷ []) $ fjoin3 ! $
      done !)

  rests_one : Judged R → (d : BucketView) (w : W.Denot) (vs : List Val) → Fit d w.slots
      → ⟦ W.own_val w vs ⟧ ∗ ⟦ Tells d w.slots ⟧ ⊢ ⟦ S.own_val d vs ⟧
  rests_one j d w vs fit =
      qed 𝓛 (‵ (W.own_val w vs) ∷ ‵ (Tells d w.slots) ∷ []) ∵
      peeks ! W (Is W) (shows 𝓛 W) w vs (λ is. fsplit ! $ move ! (1 ∷ 2 ∷ []) $
      use2 𝓛 (‵ (at_rest R d w.at)) (rests_bucket 𝓛 R L d w.at w.slots fit) $ move ! (1 ∷ 0 ∷ []) $
      fjoin ! $
      fpack ! Ptr (Inside d vs) w.at $ nothing ! $ fpack ! (Judged R) (λ _. ftrue) j $ nothing ! $
      fpack ! (Typed S.mir vs) (λ _. ftrue) (((plain'.the_row_laws R L).lawful 𝓛).typed w vs is) $
      fjoin3 ! $ done !)

  -- ---- one after another, from the bucket b of a table on
  module _ (s : TableView) (m : Announcing) where
    abbrev RowsTell : ℕ → List W.Denot → Fml
    RowsTell b ws = rows_known R s m b (map slots ws)

    abbrev All : ℕ → List BucketView → List Val → List W.Denot → SProp 𝓤
    All b ds us ws = guard 𝓤 (AllFit slots ds ws) (⟦ each W.Denot W.own_val ws us ⟧ ∗ ⟦ RowsTell b ws ⟧)

    redeems_next : (b : ℕ) (d : BucketView) (ds : List BucketView) (u : Val) (us : List Val) → AreOf s m b (d ∷ ds)
        → ⟦ each BucketView S.own_val ds us ⟧ ⊢ H.⇛ (ex 𝓤 (All (suc b) ds us))
        → ⟦ each BucketView S.own_val (d ∷ ds) (u ∷ us) ⟧ ⊢ H.⇛ (ex 𝓤 (All b (d ∷ ds) (u ∷ us)))
    redeems_next b d ds u us are others =
        qed 𝓛 (‵ (each BucketView S.own_val (d ∷ ds) (u ∷ us)) ∷ []) ∵ updating ! $ fsplit ! $
        use1 𝓛 (later (some (λ (w : W.Denot).
        given (Fit d w.slots) (‵ (W.own_val w (u ∷ [])) ⊛ ‵ (Tells d w.slots)))))
        (redeems_one d (u ∷ [])) $
        await ! tt $ pick ! (λ w. learn ! (λ fit. split ! $ move ! (2 ∷ []) $
        use1 𝓛 (later (some (λ (ws : List W.Denot).
        given (AllFit slots ds ws) (‵ (each W.Denot W.own_val ws us) ⊛ ‵ (RowsTell (suc b) ws)))))
        others $
        await ! tt $ pick ! (λ ws. learn ! (λ fits. split ! $
        -- [the other pointers; what is told of them; the pointer; what is told of it]
        move ! (3 ∷ []) $ rewrite ! 0 (λ (z : BucketView). ‵ (Tells z w.slots)) are.0 refl $
        move ! (0 ∷ 2 ∷ []) $ fjoin ! $ move ! (2 ∷ 1 ∷ []) $ fjoin ! $
        now ! $ show ! (All b (d ∷ ds) (u ∷ us)) (w ∷ ws) $ check ! (fit, fits) $ done !))))

    each_redeems : (b : ℕ) (ds : List BucketView) (us : List Val) → AreOf s m b ds
        → ⟦ each BucketView S.own_val ds us ⟧ ⊢ H.⇛ (ex 𝓤 (All b ds us))
    each_redeems b [] [] are =
        qed 𝓛 (‵ ftrue ∷ []) ∵ updating ! $ now ! $ show ! (All b [] []) [] $ check ! tt $
        nothing ! $ done !
    each_redeems b [] (u ∷ us) are = never_e 𝓤 _
    each_redeems b (d ∷ ds) [] are = never_e 𝓤 _
    each_redeems b (d ∷ ds) (u ∷ us) are = redeems_next b d ds u us are (each_redeems (suc b) ds us are.1)

    rests_next : Judged R → (b : ℕ) (d : BucketView) (ds : List BucketView) (w : W.Denot) (ws : List W.Denot) (u : Val) (us : List Val)
        → AreOf s m b (d ∷ ds) → AllFit slots (d ∷ ds) (w ∷ ws)
        → ⟦ each W.Denot W.own_val ws us ⟧ ∗ ⟦ RowsTell (suc b) ws ⟧ ⊢ ⟦ each BucketView S.own_val ds us ⟧
        → ⟦ each W.Denot W.own_val (w ∷ ws) (u ∷ us) ⟧ ∗ ⟦ RowsTell b (w ∷ ws) ⟧ ⊢ ⟦ each BucketView S.own_val (d ∷ ds) (u ∷ us) ⟧
    rests_next j b d ds w ws u us are f others =
        qed 𝓛 (‵ (each W.Denot W.own_val (w ∷ ws) (u ∷ us)) ∷ ‵ (RowsTell b (w ∷ ws)) ∷ []) ∵
        fsplit ! $ move ! (2 ∷ []) $ fsplit ! $
        -- [what is told of the slots, and of the others; the pointer; the others]
        rewrite ! 0 (λ (z : BucketView). ‵ (Tells z w.slots)) (sym are.0) refl $
        move ! (2 ∷ 0 ∷ []) $ use2 𝓛 (‵ (S.own_val d (u ∷ []))) (rests_one j d w (u ∷ []) f.0) $
        move ! (2 ∷ 1 ∷ []) $
        use2 𝓛 (‵ (each BucketView S.own_val ds us)) others $
        move ! (1 ∷ 0 ∷ []) $ fjoin ! $ done !

    each_rests : Judged R → (b : ℕ) (ds : List BucketView) (ws : List W.Denot) (us : List Val)
        → AreOf s m b ds → AllFit slots ds ws
        → ⟦ each W.Denot W.own_val ws us ⟧ ∗ ⟦ RowsTell b ws ⟧ ⊢ ⟦ each BucketView S.own_val ds us ⟧
    each_rests j b [] [] [] are f = qed 𝓛 (‵ ftrue ∷ ‵ ftrue ∷ []) ∵ drop ! $ done !
    each_rests j b [] [] (u ∷ us) are f = qed 𝓛 (‵ ffalse ∷ ‵ ftrue ∷ []) ∵ keep ! (0 ∷ []) $ by ! (never_e 𝓤 _)
    each_rests j b [] (w ∷ ws) us are f = absurd f
    each_rests j b (d ∷ ds) [] us are f = absurd f
    each_rests j b (d ∷ ds) (w ∷ ws) [] are f =
        qed 𝓛 (‵ ffalse ∷ ‵ (RowsTell b (w ∷ ws)) ∷ []) ∵ keep ! (0 ∷ []) $ by ! (never_e 𝓤 _)
    each_rests j b (d ∷ ds) (w ∷ ws) (u ∷ us) are f = rests_next j b d ds w ws u us are f (each_rests j (suc b) ds ws us are.1 f.1)

  each_judged : (ds : List BucketView) (us : List Val) → length ds ≡ 63
      → ⟦ each BucketView S.own_val ds us ⟧ ⊢ guard 𝓤 (Judged R) ⟦ each BucketView S.own_val ds us ⟧
  each_judged [] us long = absurd (omega arith)
  each_judged (d ∷ ds) [] long = never_e 𝓤 _
  each_judged (d ∷ ds) (u ∷ us) long =
      qed 𝓛 (‵ (each BucketView S.own_val (d ∷ ds) (u ∷ us)) ∷ []) ∵ fsplit ! $
      use1 𝓛 (given (Judged R) (‵ (S.own_val d (u ∷ [])))) (judged_one d (u ∷ [])) $ learn ! (λ j.
      check ! j $ fjoin ! $ done !)

  -- ---- the array
  abbrev Arrays : TableView → Announcing → List BucketView → List Val → List W.Denot → SProp 𝓤
  Arrays s m ds vs ws =
      guard 𝓤 (Judged R × (length ds ≡ 63) × AllFit slots ds ws)
      (⟦ (Array W 63).own_val ws vs ⟧ ∗ ⟦ RowsTell s m 0 ws ⟧)

  array_redeems : (s : TableView) (m : Announcing) (ds : List BucketView) (vs : List Val)
      → (length ds ≡ 63 → AreOf s m 0 ds)
      → ⟦ (Array S 63).own_val ds vs ⟧ ⊢ H.⇛ (ex 𝓤 (Arrays s m ds vs))
  array_redeems s m ds vs are =
      qed 𝓛 (‵ ((Array S 63).own_val ds vs) ∷ []) ∵ updating ! $ fpick ! (λ us. fsplit ! $
      fsplit ! $ feq_l ! (λ e. feq_l ! (λ long.
      use1 𝓛 (given (Judged R) (‵ (each BucketView S.own_val ds us))) (each_judged ds us long) $ learn ! (λ j.
      use1 𝓛 (later (some (λ (ws : List W.Denot).
      given (AllFit slots ds ws) (‵ (each W.Denot W.own_val ws us) ⊛ ‵ (RowsTell s m 0 ws)))))
      (each_redeems s m 0 ds us (are long)) $
      await ! tt $ pick ! (λ ws. learn ! (λ f. split ! $
      now ! $ show ! (Arrays s m ds vs) ws $ check ! (j, long, f) $
      feq_i ! ℕ (length ws) 63 (fits_long slots ds ws f ∙ long) $
      feq_i ! (List Val) vs (array_val us ∷ []) e $ fjoin ! $ fjoin ! $
      fpack ! (List Val) (λ zs. fsep (shape 63 ws vs zs) (each W.Denot W.own_val ws zs)) us $ done !))))))

  array_rests : Judged R
      → (s : TableView) (m : Announcing) (ds : List BucketView) (ws : List W.Denot) (vs : List Val) → length ds ≡ 63
      → AreOf s m 0 ds → AllFit slots ds ws
      → ⟦ (Array W 63).own_val ws vs ⟧ ∗ ⟦ RowsTell s m 0 ws ⟧ ⊢ ⟦ (Array S 63).own_val ds vs ⟧
  array_rests j s m ds ws vs long are f =
      qed 𝓛 (‵ ((Array W 63).own_val ws vs) ∷ ‵ (RowsTell s m 0 ws) ∷ []) ∵ fpick ! (λ us. fsplit ! $
      fsplit ! $ feq_l ! (λ e. drop ! $
      use2 𝓛 (‵ (each BucketView S.own_val ds us)) (each_rests s m j 0 ds ws us are f) $
      feq_i ! ℕ (length ds) 63 long $ feq_i ! (List Val) vs (array_val us ∷ []) e $ fjoin ! $
      fjoin ! $
      fpack ! (List Val) (λ zs. fsep (shape 63 ds vs zs) (each BucketView S.own_val ds zs)) us $
      done !))

  -- ---- the pointers of a table, and its buckets
  abbrev pub Shared : RattleType
  Shared = all_shared.the_row R

  abbrev pub Owner : RattleType
  Owner = buckets.the_row R

  abbrev shape_with : List RattleType → Shape
  shape_with fields = record { name = []; args = []; types = []; fields = fields }

  -- a word as the one field of a struct
  abbrev BitsIn : ℕ → List Val → Fml
  BitsIn n vs = (Struct (shape_with (u64 ∷ []))).own_val (n, tt) vs

  abbrev Plain : RattleType
  Plain = all_pointers.the_row R

  abbrev Line : RattleType
  Line = array.the_row R

  abbrev SharedLine : RattleType
  SharedLine = shared_array.the_row R

  abbrev Heap : RattleType
  Heap = heap.the_row

  -- a word of buckets: an owner's, and that of announced ones which threads share
  abbrev Bits : RattleType
  Bits = bits.the_row

  abbrev SharedWord : RattleType
  SharedWord = shared_word.the_row

  -- the fields that have this view: of an owner's pointers, of an owner's buckets, and of shared
  -- buckets
  abbrev PointersOf : Plain.Denot → Type 0
  PointersOf c =
      (x : (all_pointers.TheInside.the_row R).Denot)
      × ((contents_of x.pointers ≡ c)
      × (IsTable (contents_of x.pointers) × Announces x.announced.bits (contents_of x.pointers)
      × Covers (bit_or x.announced.bits x.made.bits) (contents_of x.pointers)))

  abbrev OwnedOf : Owner.Denot → Type 0
  OwnedOf y =
      (x : (buckets.TheInside.the_row R).Denot)
      × ((record { contents = x.pointers; reserved = x.reserved } ≡ y)
      × IsOwned (record { contents = x.pointers; reserved = x.reserved }))

  abbrev SharedOf : TableView → Type 0
  SharedOf s =
      (x : (all_shared.TheInside.the_row R).Denot)
      × ((table_view_of x.pointers.pointers.pointers x.reserved ≡ s)
      × (AreBuckets x.pointers.pointers.pointers x.pointers.announced x.reserved
      × BeginsWithFirst x.pointers.announced × AreOfFirstBuckets x.reserved
      × AreMade x.pointers.announced x.pointers.made.bits))

  -- what is told of the slots of an owner's buckets, if they are shared as this says
  abbrev pub AllTold : TableView → Owner.Denot → Fml
  AllTold s y = rows_telling R s.sharing 0 y.contents.rows

  -- what an owner's buckets show, if they are shared as this says
  abbrev pub Shown : TableView → Owner.Denot → Fml
  Shown s y = rows_grown R s 0 y.contents.rows

  -- the same, and the rights of a new sharing's word
  abbrev pub AllGrown : TableView → Owner.Denot → Fml
  AllGrown s y = fsep (Shown s y) new_rights

  -- the fields of an owner's buckets fit together
  fit_together : (y : Owner.Denot) (vs : List Val) → ⟦ Owner.own_val y vs ⟧ ⊢ guard 𝓤 (IsOwned y) ⟦ Owner.own_val y vs ⟧
  fit_together y vs =
      qed 𝓛 (‵ (Owner.own_val y vs) ∷ []) ∵ fpick ! (λ h. fsplit ! $ check ! (subst IsOwned h.1.0 h.1.1) $ fjoin ! $
      fpack ! (OwnedOf y) (λ a. fsep ((buckets.TheInside.the_row R).own_val a.0 vs) ftrue) h $ done !)

  abbrev pub Out : TableView → List Val → Owner.Denot → SProp 𝓤
  Out s vs y = guard 𝓤 (Judged R × (y.reserved ≡ s.reserved)) (⟦ Owner.own_val y vs ⟧ ∗ ⟦ AllTold s y ⟧ ∗ ⟦ Shown s y ⟧)

  bare_slot : {V : Type 0} (cs : List (Option V)) → (0 < length cs → IsBare cs) → IsBare cs
  bare_slot [] bare i = refl
  bare_slot (c ∷ cs) bare i = bare (omega arith) i

  nil_unless : {X : Type 0} (xs : List X) → (0 < length xs → ⊥) → xs ≡ []
  nil_unless [] never = refl
  nil_unless (x ∷ xs) never = absurd (never (omega arith))

  -- the words that a sharing ends with announce what holds a value, and cover what stands
  ends_announced : (s : TableView) (m : Announcing) (n made : ℕ) (c : Contents R.Denot) → IsTable c → BeginsWithFirst m → AreMade m made
      → ⟦ lies_with_word m n ⟧ ∗ ⟦ rows_announced R m 0 c.rows ⟧ ⊢ guard 𝓤 (Announces n c × Covers (bit_or n made) c) ⟦ ftrue ⟧
  ends_announced s m n made c table first are =
      let long : length c.rows ≡ 63 = table.buckets in
      qed 𝓛 (‵ (lies_with_word m n) ∷ ‵ (rows_announced R m 0 c.rows) ∷ []) ∵
      use2 𝓛 (given (AllSet n m.made 0 c.rows) (‵ (lies_with_word m n))) (rows_show 𝓛 R m n 0 c.rows (omega (arith, long))) $
      learn ! (λ all.
      use1 𝓛 (given ((b : ℕ) → b < 7 → is_set n b ≡ true) (‵ (lies_with_word m n))) (first_set 𝓛 m n 7 (omega arith) first) $ learn ! (λ seven.
      use1 𝓛 (given (is_set n 63 ≡ false) (‵ (lies_with_word m n))) (none_past 𝓛 m n) $ learn ! (λ none.
      let set : (b : ℕ) → b < 63 → IsSetFor n m.made b (row c b) = λ b low.
      let at : b ≡ b + 0 = omega arith in all b b at (omega (arith, low, long)) in
      check ! (
        record {
          first = seven;
          holding = record {
            others = λ b low out i. bare_slot (row c b) (λ some. (set b low some out).1) i;
            none_past = none;
          };
        },
        record {
          others = λ b low out.
              let neither = in_neither n made b out in
              nil_unless (row c b) (λ some.
              false≢true (sym neither.1 ∙ ap (λ (w : ℕ). is_set w b) (sym are.same) ∙ (set b low some neither.0).0));
          none_past = not_in n made 63 none are.none_past;
        },
      ) $
      drop ! $ nothing ! $ done !)))

  -- and the other way round, in a sharing that begins with the words
  begins_announced : (s : TableView) (γ n made : ℕ) (c : Contents R.Denot) → IsTable c → Announces n c → Covers (bit_or n made) c
      → ⟦ bits_untold γ 63 ⟧
      ⊢ ⟦ lies_with_word (beginning 𝓛 γ n made) n ⟧ ∗ ⟦ rows_announced R (beginning 𝓛 γ n made) 0 c.rows ⟧
  begins_announced s γ n made c table announces covers =
      let m : Announcing = beginning 𝓛 γ n made in
      let long : length c.rows ≡ 63 = table.buckets in
      qed 𝓛 (‵ (bits_untold γ 63) ∷ []) ∵ use1 𝓛 (‵ (lies_with_word m n)) (begins 𝓛 γ n made announces.holding.none_past) $
      use0 𝓛 (‵ (rows_announced R m 0 c.rows))
      (rows_set 𝓛 R m 0 c.rows (λ i j at near.
      let same : i ≡ j = omega (arith, at) in
      let low : i < 63 = omega (arith, near, long) in
      subst (λ (k : ℕ). IsSetFor n made k (row c i)) same (λ some out. (
        set_unless made i (λ clear.
            let none = ap length (covers.others i low (not_in n made i out clear)) in omega (arith, some, none)),
        announces.holding.others i low out,
      )))) $
      move ! (1 ∷ 0 ∷ []) $ done !

  pub turns_plain : (s : TableView) (vs : List Val) → ⟦ Shared.own_val s vs ⟧ ⊢ H.⇛ (ex 𝓤 (Out s vs))
  turns_plain s vs =
      qed 𝓛 (‵ (Shared.own_val s vs) ∷ []) ∵ updating ! $ fpick ! (λ h. fsplit ! $ fpick ! (λ vss.
      fsplit3 ! $ move ! (1 ∷ []) $ fpick ! (λ uss. fsplit3 ! $ move ! (1 ∷ []) $ fpick ! (λ tss.
      fsplit3 ! $ move ! (1 ∷ []) $
      let ds : List BucketView = h.0.pointers.pointers.pointers in let m : Announcing = h.0.pointers.announced in
      let n : ℕ = h.0.reserved in let s' : TableView = table_view_of ds n in
      use1 𝓛 (later (some (λ (ws : List W.Denot).
      given (Judged R × (length ds ≡ 63) × AllFit slots ds ws)
      (‵ ((Array W 63).own_val ws tss.0) ⊛ ‵ (RowsTell s' m 0 ws)))))
      (array_redeems s' m ds tss.0 (λ long. named_are_of ds m n long h.1.1.0)) $
      await ! tt $ pick ! (λ ws. learn ! (λ g. split ! $
      let y : Owned R.Denot = owned_of slots ws n in let owned : IsOwned y = are_owned slots ds m ws n g.1 h.1.1.0 h.1.1.2 g.2 in
      move ! (1 ∷ []) $ rewrite ! 0 (λ (z : TableView). ‵ (rows_known R z m 0 y.contents.rows)) h.1.0 refl $
      use1 𝓛 (‵ (AllTold s y) ⊛ ‵ (Shown s y) ⊛ ‵ (rows_announced R m 0 y.contents.rows))
      (known_apart 𝓛 R s m 0 y.contents.rows) $ split3 ! $
      -- [what is told; what they show; they are announced; the array; its value; nothing; the pointers' value; the heap
      -- with the word; the struct's value; the number; nothing]
      move ! (7 ∷ []) $ fsplit3 ! $ move ! (1 ∷ []) $ fsplit ! $ move ! (1 ∷ []) $ fpick ! (λ bits. fsplit ! $
      -- [the word; what lies with it; its type; the heap; nothing; what is told; what they show; they are announced; the array;
      -- its value; nothing; the pointers' value; the struct's value; the number; nothing]
      move ! (1 ∷ 7 ∷ []) $
      let made : ℕ = h.0.pointers.made.bits in
      use2 𝓛 (given (Announces bits y.contents × Covers (bit_or bits made) y.contents) (‵ ftrue))
      (ends_announced s m bits made y.contents owned.table h.1.1.1 h.1.1.3) $ learn ! (λ words. drop ! $
      -- [the word; its type; the heap; nothing; what is told; what they show; the array; its value; nothing; the pointers'
      -- value; the struct's value; the number; nothing]
      move ! (7 ∷ 6 ∷ 8 ∷ []) $ fjoin3 ! $
      fpack ! (Valss (Array W 63 ∷ [])) (within (shape_with (Array W 63 ∷ [])) (ws, tt) uss.0) tss $
      -- [the line; the word; its type; the heap; nothing; what is told; what they show; the pointers' value; the struct's value;
      -- the number; nothing]
      move ! (3 ∷ 1 ∷ 4 ∷ []) $ move ! (1 ∷ 2 ∷ []) $ fjoin ! $ move ! (1 ∷ 0 ∷ []) $ fjoin ! $
      -- [the heap with the word; the line; its type; what is told; what they show; the pointers' value; ..]
      move ! (5 ∷ 1 ∷ 0 ∷ []) $ fjoin3 ! $
      fpack ! (Valss (Line ∷ Heap ∷ Bits ∷ Bits ∷ []))
      (within (shape_with (Line ∷ Heap ∷ Bits ∷ Bits ∷ []))
      (record { pointers = ws }, (h.0.pointers.alloc, (record { bits = bits }, (h.0.pointers.made, tt)))) vss.0)
      uss $
      nothing ! $ move ! (1 ∷ 0 ∷ []) $ fjoin ! $
      fpack ! (PointersOf y.contents)
      (λ a. fsep ((all_pointers.TheInside.the_row R).own_val a.0 vss.0) ftrue) (
        record {
          pointers = record { pointers = ws };
          alloc = h.0.pointers.alloc;
          announced = record { bits = bits };
          made = h.0.pointers.made;
        },
        (refl, (owned.table, words.0, words.1)),
      ) $
      -- [the pointers; its type; what is told; what they show; the struct's value; the number; nothing]
      move ! (4 ∷ 0 ∷ 5 ∷ []) $ fjoin3 ! $
      fpack ! (Valss (Plain ∷ usize ∷ []))
      (within (shape_with (Plain ∷ usize ∷ [])) (y.contents, (n, tt)) vs) vss $
      nothing ! $ move ! (1 ∷ 0 ∷ []) $ fjoin ! $
      fpack ! (OwnedOf y) (λ a. fsep ((buckets.TheInside.the_row R).own_val a.0 vs) ftrue)
      (record { pointers = y.contents; reserved = n }, (refl, owned)) $
      now ! $ show ! (Out s vs) y $ check ! (g.0, ap (λ (z : TableView). z.reserved) h.1.0) $ keep ! (0 ∷ 2 ∷ 3 ∷ []) $ done !))))))))

  pub turns_shared : Judged R → (s : TableView) (y : Owner.Denot) (vs : List Val)
      → s.reserved ≡ y.reserved
      → ⟦ Owner.own_val y vs ⟧ ∗ ⟦ AllTold s y ⟧ ∗ ⟦ AllGrown s y ⟧ ⊢ ⟦ Shared.own_val s vs ⟧
  turns_shared j s y vs same =
      qed 𝓛 (‵ (Owner.own_val y vs) ∷ ‵ (AllTold s y) ∷ ‵ (AllGrown s y) ∷ []) ∵
      move ! (2 ∷ []) $ fsplit ! $ move ! (1 ∷ []) $ fpick ! (λ γ. move ! (2 ∷ []) $ fpick ! (λ h. fsplit ! $
      fpick ! (λ vss. fsplit3 ! $ move ! (1 ∷ []) $ fpick ! (λ h'. fsplit ! $ fpick ! (λ uss.
      fsplit3 ! $ move ! (1 ∷ []) $ fpick ! (λ tss. fsplit3 ! $
      let ws : List W.Denot = h'.0.pointers.pointers in
      let bits : ℕ = h'.0.announced.bits in
      let made : ℕ = h'.0.made.bits in
      let m : Announcing = beginning 𝓛 γ bits made in
      let ds : List BucketView = table_buckets s m in
      let c : Contents R.Denot = record { rows = map slots ws } in
      let e : h.0.reserved ≡ s.reserved = ap (λ (o : Owned R.Denot). o.reserved) h.1.0 ∙ sym same in
      let owned : IsOwned (owned_of slots ws s.reserved) =
      subst (λ (o : Owned R.Denot). IsOwned o)
      (λ i. record { contents = sym h'.1.0 i; reserved = e i }) h.1.1 in
      let rows : y.contents ≡ c = ap (λ (o : Owned R.Denot). o.contents) (sym h.1.0) ∙ sym h'.1.0 in
      let is : Announces bits c = h'.1.1.1 in
      let covers : Covers (bit_or bits made) c = h'.1.1.2 in
      -- [the array's value; the array; nothing; the pointers' value; the heap with the word; nothing; the struct's value; the
      -- number; nothing; the rights; what they show; what is told]
      move ! (9 ∷ []) $
      use1 𝓛 (‵ (lies_with_word m bits) ⊛ ‵ (rows_announced R m 0 c.rows)) (begins_announced s γ bits made c h'.1.1.0 is covers) $ split ! $
      -- [what lies with the word; they are announced; the array's value; the array; nothing; the pointers' value; the heap with the
      -- word; nothing; the struct's value; the number; nothing; what they show; what is told]
      move ! (12 ∷ []) $
      rewrite ! 0 (λ (z : Contents R.Denot). ‵ (rows_telling R s.sharing 0 z.rows)) rows refl $ move ! (12 ∷ []) $
      rewrite ! 0 (λ (z : Contents R.Denot). ‵ (rows_grown R s 0 z.rows)) rows refl $ move ! (1 ∷ 0 ∷ 3 ∷ []) $
      use3 𝓛 (‵ (rows_known R s m 0 c.rows)) (known_together 𝓛 R s m 0 c.rows) $
      -- [what is known; what lies with the word; the array's value; the array; nothing; ..]
      move ! (3 ∷ 0 ∷ []) $
      use2 𝓛 (‵ ((Array S 63).own_val ds tss.0))
      (array_rests j s m ds ws tss.0 (table_long s m) (table_are_of s m)
      (fit_all slots s m ws owned)) $
      -- [the array; what lies with the word; its value; nothing; the pointers' value; the heap with the word; nothing; the struct's
      -- value; the number; nothing]
      move ! (2 ∷ 0 ∷ 3 ∷ []) $ fjoin3 ! $
      fpack ! (Valss (Array S 63 ∷ [])) (within (shape_with (Array S 63 ∷ [])) (ds, tt) uss.0) tss $
      -- [the line; what lies with the word; the pointers' value; the heap with the word; nothing; ..]
      move ! (3 ∷ []) $ fsplit3 ! $ move ! (1 ∷ []) $
      peeks ! Bits (Is Bits) (shows 𝓛 Bits) (record { bits = bits }) uss.1.1.0 (λ typed.
      move ! (0 ∷ 4 ∷ []) $ fjoin ! $
      fpack ! ℕ (λ k. fsep (BitsIn k uss.1.1.0) (lies_with_word m k)) bits $
      nothing ! $ fpack ! (Typed SharedWord.mir uss.1.1.0) (λ _. ftrue) ((bits'.the_row_laws.lawful 𝓛).typed (record { bits = bits }) uss.1.1.0 typed) $
      fjoin ! $
      -- [the word; the heap; nothing; the line; the pointers' value; nothing; ..]
      move ! (0 ∷ 2 ∷ []) $ fjoin ! $ move ! (1 ∷ 0 ∷ []) $ fjoin ! $ move ! (2 ∷ 1 ∷ 0 ∷ []) $ fjoin3 ! $
      fpack ! (Valss (SharedLine ∷ Heap ∷ SharedWord ∷ Bits ∷ []))
      (within (shape_with (SharedLine ∷ Heap ∷ SharedWord ∷ Bits ∷ []))
      (record { pointers = ds }, (h'.0.alloc, (m, (h'.0.made, tt)))) vss.0)
      uss $
      -- [the pointers; nothing; the struct's value; the number; nothing]
      move ! (1 ∷ []) $ drop ! $
      move ! (2 ∷ []) $ rewrite ! 0 (λ (n : ℕ). ‵ (fsep (usize.own_val n vss.1.0) ftrue)) e refl $
      move ! (2 ∷ 1 ∷ 0 ∷ []) $ fjoin3 ! $
      fpack ! (Valss (all_buckets'.the_row R ∷ usize ∷ []))
      (within (shape_with (all_buckets'.the_row R ∷ usize ∷ []))
      (record { pointers = record { pointers = ds }; alloc = h'.0.alloc; announced = m; made = h'.0.made }, (s.reserved, tt)) vs)
      vss $
      fjoin ! $
      fpack ! (SharedOf s) (λ a. fsep ((all_shared.TheInside.the_row R).own_val a.0 vs) ftrue) (
        record {
          pointers = record { pointers = record { pointers = ds }; alloc = h'.0.alloc; announced = m; made = h'.0.made };
          reserved = s.reserved;
        },
        (
          table_seen s m,
          (
            table_named s m,
            is.first,
            owned.first,
            record { same = refl; none_past = (in_neither bits made 63 covers.none_past).1 },
          ),
        ),
      ) $
      done !)))))))

  -- ---- in memory
  abbrev pub Row : RattleType
  Row = whole.the_row R

  abbrev pub IsLent : TableView → Owner.Denot → Type 0
  IsLent s y = Judged R × (y.reserved ≡ s.reserved) × IsOwned y

  abbrev pub Lies : TableView → ℕ → ℕ → Owner.Denot → SProp 𝓤
  Lies s b o y =
      guard 𝓤 (IsLent s y) (⟦ part_at Owner full_share y b o ⟧ ∗ ⟦ AllGrown s y ⟧ ∗ ⟦ book_owns R s.sharing y.contents ⟧)

  pub lies_told : (s : TableView) (b o : ℕ) → ⟦ part_at Row full_share s b o ⟧ ⊢ H.⇛ (ex 𝓤 (Lies s b o))
  unfolding part_of
  lies_told s b o = qed 𝓛 (‵ (part_at Row full_share s b o) ∷ []) ∵ updating ! $ fpick ! (λ vs. fsplit3 ! $ move ! (2 ∷ []) $
      use1 𝓛 (later (some (λ (y : Owner.Denot).
      given (Judged R × (y.reserved ≡ s.reserved)) (‵ (Owner.own_val y vs) ⊛ ‵ (AllTold s y) ⊛ ‵ (Shown s y)))))
      (turns_plain s vs) $
      await ! tt $ pick ! (λ y. learn ! (λ so. split3 ! $
      use1 𝓛 (given (IsOwned y) (‵ (Owner.own_val y vs))) (fit_together y vs) $ learn ! (λ owned.
      -- [the buckets; what is told of them; what they show; the memory]
      move ! (1 ∷ []) $
      use1 𝓛 (later (‵ (rows_tell R s.sharing 0 y.contents.rows)))
      (via 𝓤 _ (rows_end 𝓛 R s.sharing 0 y.contents.rows) (basic 𝓛 ⟦ rows_tell R s.sharing 0 y.contents.rows ⟧)) $
      await ! tt $ nothing ! $ fpack ! (IsTable y.contents) (λ _. ftrue) owned.table $ fjoin ! $ move ! (1 ∷ 0 ∷ 2 ∷ 3 ∷ []) $
      -- [the buckets; the book; what they show; the memory]
      move ! (3 ∷ 0 ∷ []) $ fjoin ! $
      fpack ! (List Val) (λ us. fsep (cell_at full_share Owner.mir us b o) (Owner.own_val y us))
      vs $
      use0 𝓛 (later (‵ new_rights)) (via 𝓤 _ (rights_new 𝓛) (basic 𝓛 _)) $ await ! tt $
      -- [new rights; the memory; the book; what they show]
      move ! (3 ∷ 0 ∷ []) $ fjoin ! $
      now ! $ show ! (Lies s b o) y $ check ! (so.0, so.1, owned) $ keep ! (1 ∷ 0 ∷ 2 ∷ []) $ done !))))

  pub lies_shared : (s : TableView) (w : Owner.Denot) → IsLent s w → (b o : ℕ) (y : Owner.Denot)
      → ⟦ part_at Owner full_share y b o ⟧ ∗ ⟦ AllGrown s w ⟧ ⊢ ⟦ part_at Row full_share (view_with s w y) b o ⟧
  unfolding part_of
  lies_shared s w lent b o y =
      let j : Judged R = lent.0 in
      let s' : TableView = view_with s w y in
      qed 𝓛 (‵ (part_at Owner full_share y b o) ∷ ‵ (AllGrown s w) ∷ []) ∵ fpick ! (λ vs. fsplit ! $ move ! (1 ∷ []) $
      peeks ! Owner (Is Owner) (shows 𝓛 Owner) y vs (λ is.
      use1 𝓛 (given (IsOwned y) (‵ (Owner.own_val y vs))) (fit_together y vs) $ learn ! (λ owned.
      move ! (2 ∷ []) $ fsplit ! $
      use1 𝓛 (‵ (Shown s' y))
      (less_grown 𝓛 R s s' 0 w.contents.rows y.contents.rows refl
      (lent.2.table.buckets ∙ sym owned.table.buckets) (lent_shown s w y lent.1 owned.table)) $ fjoin ! $
      use0 𝓛 (‵ (rows_telling R None 0 y.contents.rows)) (none_rows 𝓛 R 0 y.contents.rows) $ move ! (2 ∷ 0 ∷ 1 ∷ []) $
      use3 𝓛 (‵ (Shared.own_val s' vs)) (turns_shared j s' y vs refl) $ nothing ! $
      fpack ! (Typed Row.mir vs) (λ _. ftrue)
      (((buckets'.the_row_laws R L).lawful 𝓛).typed y vs is) $
      fjoin ! $ move ! (1 ∷ 0 ∷ []) $ fjoin ! $
      fpack ! (List Val) (λ us. fsep (cell_at full_share Row.mir us b o) (Row.own_val s' us)) vs $ done !)))

  -- the rights to the slots of a new table are told of slots that have no value
  first_told : (table : ℕ) (y : Owner.Denot) → IsOwned y → (t : Bool) → has_no_value y.contents ≡ t
      → ⟦ slots_own table 0 ⟧ ⊢ ⟦ rows_telling R (begun_in table t) 0 y.contents.rows ⟧
  first_told table y owned true blank =
      rows_first 𝓛 R table 0 y.contents.rows (table_whole y.contents owned.table) (none_blank y.contents owned.table blank)
  first_told table y owned false blank =
      qed 𝓛 (‵ (slots_own table 0) ∷ []) ∵ drop ! $
      use0 𝓛 (‵ (rows_telling R None 0 y.contents.rows)) (none_rows 𝓛 R 0 y.contents.rows) $ done !

  pub lies_first : Judged R → (table b o : ℕ) (y : Owner.Denot)
      → ⟦ part_at Owner full_share y b o ⟧ ∗ ⟦ fsep (slots_own table 0) new_rights ⟧ ⊢ ⟦ part_at Row full_share (view_begun table y) b o ⟧
  unfolding part_of
  lies_first j table b o y =
      let s' : TableView = view_begun table y in
      qed 𝓛 (‵ (part_at Owner full_share y b o) ∷ ‵ (fsep (slots_own table 0) new_rights) ∷ []) ∵ fpick ! (λ vs. fsplit ! $ move ! (1 ∷ []) $
      peeks ! Owner (Is Owner) (shows 𝓛 Owner) y vs (λ is.
      use1 𝓛 (given (IsOwned y) (‵ (Owner.own_val y vs))) (fit_together y vs) $ learn ! (λ owned.
      move ! (2 ∷ []) $ fsplit ! $
      use1 𝓛 (‵ (AllTold s' y)) (first_told table y owned (has_no_value y.contents) refl) $
      use0 𝓛 (‵ (Shown s' y)) (none_grown 𝓛 R s' 0 y.contents.rows (nothing_shown s' y refl owned.table (λ e. e))) $
      -- [what they show; what is told; the rights; the buckets; the memory]
      move ! (0 ∷ 2 ∷ []) $ fjoin ! $ move ! (2 ∷ 1 ∷ 0 ∷ []) $
      use3 𝓛 (‵ (Shared.own_val s' vs)) (turns_shared j s' y vs refl) $ nothing ! $
      fpack ! (Typed Row.mir vs) (λ _. ftrue)
      (((buckets'.the_row_laws R L).lawful 𝓛).typed y vs is) $
      fjoin ! $ move ! (1 ∷ 0 ∷ []) $ fjoin ! $
      fpack ! (List Val) (λ us. fsep (cell_at full_share Row.mir us b o) (Row.own_val s' us)) vs $ done !)))

  -- ---- by value
  pub makes_owner : (c : Plain.Denot) (n : ℕ) (v : Val) → n < 2 ^ 64
      → IsOwned (record { contents = c; reserved = n })
      → ⟦ Plain.own_val c (v ∷ []) ⟧
      ⊢ ⟦ Owner.own_val (record { contents = c; reserved = n }) (pair_val v n ∷ []) ⟧
  makes_owner c n v fits owned =
      let vs : List Val = pair_val v n ∷ [] in
      qed 𝓛 (‵ (Plain.own_val c (v ∷ [])) ∷ []) ∵ nothing ! $ flt_i ! n (2 ^ 64) fits $
      feq_i ! _ (vint w64 n ∷ []) _ refl $ fjoin ! $ fjoin ! $
      move ! (1 ∷ 0 ∷ []) $ feq_i ! (List Val) vs vs refl $ fjoin3 ! $
      fpack ! (Valss (Plain ∷ usize ∷ []))
      (within (shape_with (Plain ∷ usize ∷ [])) (c, (n, tt)) vs) (v ∷ [], (vint w64 n ∷ [], tt)) $
      nothing ! $ move ! (1 ∷ 0 ∷ []) $ fjoin ! $
      fpack ! (OwnedOf (record { contents = c; reserved = n }))
      (λ a. fsep ((buckets.TheInside.the_row R).own_val a.0 vs) ftrue)
      (record { pointers = c; reserved = n }, (refl, owned)) $
      done !

  pub makes_shared : Judged R → (s : TableView) (c : Plain.Denot) (v : Val) → s.reserved < 2 ^ 64
      → IsOwned (record { contents = c; reserved = s.reserved })
      → Typed Row.mir (pair_val v s.reserved ∷ [])
      → (s.grown_by_ids ≡ true → only_reserved (record { contents = c; reserved = s.reserved }) ≡ true)
      → ⟦ Plain.own_val c (v ∷ []) ⟧ ∗ ⟦ rows_telling R s.sharing 0 c.rows ⟧ ∗ ⟦ new_rights ⟧
      ⊢ ⟦ Row.own_val s (pair_val v s.reserved ∷ []) ⟧
  makes_shared j s c v fits owned typed only =
      let n : ℕ = s.reserved in
      let vs : List Val = pair_val v n ∷ [] in
      let y : Owner.Denot = record { contents = c; reserved = n } in
      qed 𝓛 (‵ (Plain.own_val c (v ∷ [])) ∷ ‵ (rows_telling R s.sharing 0 c.rows) ∷ ‵ new_rights ∷ []) ∵
      use1 𝓛 (‵ (Owner.own_val y vs)) (makes_owner c n v fits owned) $
      use0 𝓛 (‵ (Shown s y)) (none_grown 𝓛 R s 0 c.rows (nothing_shown s y refl owned.table only)) $
      move ! (0 ∷ 3 ∷ []) $ fjoin ! $ move ! (1 ∷ 2 ∷ 0 ∷ []) $
      use3 𝓛 (‵ (Shared.own_val s vs)) (turns_shared j s y vs refl) $
      nothing ! $ fpack ! (Typed Row.mir vs) (λ _. ftrue) typed $ fjoin ! $ done !

  -- another sharing of the same buckets
  pub shares_again : (s : TableView) (table γ : ℕ) (vs : List Val)
      → ⟦ Row.own_val s vs ⟧ ∗ ⟦ source 𝓛 γ 0 ⟧ ⊢ H.⇛ ⟦ Row.own_val (view_again s table γ) vs ⟧
  shares_again s table γ vs =
      let s' : TableView = view_again s table γ in
      qed 𝓛 (‵ (Row.own_val s vs) ∷ ‵ (source 𝓛 γ 0) ∷ []) ∵ updating ! $ fsplit ! $ fpick ! (λ typed. drop ! $
      use1 𝓛 (later (some (λ (y : Owner.Denot).
      given (Judged R × (y.reserved ≡ s.reserved)) (‵ (Owner.own_val y vs) ⊛ ‵ (AllTold s y) ⊛ ‵ (Shown s y)))))
      (turns_plain s vs) $
      await ! tt $ pick ! (λ y. learn ! (λ so. split3 ! $
      use1 𝓛 (given (IsOwned y) (‵ (Owner.own_val y vs))) (fit_together y vs) $ learn ! (λ owned.
      let rows = y.contents.rows in
      -- [the buckets; what is told of them; what they show; the source]
      move ! (1 ∷ []) $ drop ! $ move ! (1 ∷ []) $
      use1 𝓛 (‵ (Shown s' y)) (grown_in 𝓛 R s s' refl (s.table == table) refl refl rows) $
      use0 𝓛 (later (‵ new_rights)) (via 𝓤 _ (rights_new 𝓛) (basic 𝓛 _)) $ await ! tt $ move ! (1 ∷ 0 ∷ []) $ fjoin ! $
      move ! (2 ∷ []) $
      use1 𝓛 (later (‵ (rows_telling R (Some (later_of γ)) 0 rows)))
      (via 𝓤 _ (rows_drawn 𝓛 R γ 0 rows (table_whole y.contents owned.table)) (basic 𝓛 _)) $
      await ! tt $ move ! (2 ∷ 0 ∷ 1 ∷ []) $
      use3 𝓛 (‵ (Shared.own_val s' vs)) (turns_shared so.0 s' y vs (sym so.1)) $
      nothing ! $ fpack ! (Typed Row.mir vs) (λ _. ftrue) typed $ fjoin ! $ now ! $ done !))))

  abbrev pub Given : TableView → Val → Val → Plain.Denot → SProp 𝓤
  Given s v u c =
      guard 𝓤 (IsOwned (record { contents = c; reserved = s.reserved }) × (u ≡ vint w64 s.reserved))
      (⟦ Plain.own_val c (v ∷ []) ⟧ ∗ ⟦ book_owns R s.sharing c ⟧)

  -- the end of a sharing: the pointers, the number, and what is told of all slots
  pub takes_pointers : (s : TableView) (v u : Val)
      → ⟦ Row.own_val s (vstruct (vcons v (vcons u vnil)) ∷ []) ⟧ ⊢ H.⇛ (ex 𝓤 (Given s v u))
  takes_pointers s v u =
      let vs : List Val = vstruct (vcons v (vcons u vnil)) ∷ [] in
      qed 𝓛 (‵ (Row.own_val s vs) ∷ []) ∵ updating ! $ fsplit ! $ move ! (1 ∷ []) $
      use1 𝓛 (later (some (λ (y : Owner.Denot).
      given (Judged R × (y.reserved ≡ s.reserved)) (‵ (Owner.own_val y vs) ⊛ ‵ (AllTold s y) ⊛ ‵ (Shown s y)))))
      (turns_plain s vs) $
      await ! tt $ pick ! (λ y. learn ! (λ so. split3 ! $
      fpick ! (λ h. fsplit ! $ fpick ! (λ vss. fsplit3 ! $ feq_l ! (λ e.
      peeks ! Plain (Is Plain) (shows 𝓛 Plain) h.0.pointers vss.0 (λ is.
      -- [the pointers; the number; nothing; what is told; what they show; a fact]
      let got =
      one (layout Plain) vss.0
      (((all_pointers'.the_row_laws R L).lawful 𝓛).typed h.0.pointers vss.0 is) in
      let c : Contents R.Denot = h.0.pointers in
      let both : vs ≡ vstruct (of_list ((got.0 ∷ []) ++ (vss.1.0 ++ []))) ∷ [] =
      e ∙ ap (λ (ws : List Val). vstruct (of_list (ws ++ (vss.1.0 ++ []))) ∷ []) got.1 in
      let same : v ≡ got.0 = cc in
      let kept : h.0.reserved ≡ s.reserved = ap (λ (o : Owned R.Denot). o.reserved) h.1.0 ∙ so.1 in
      rewrite ! 0 (λ (ws : List Val). ‵ (Plain.own_val c ws)) (got.1 ∙ sym (ap (λ (x : Val). x ∷ []) same)) refl $
      move ! (1 ∷ []) $ fsplit ! $ fsplit ! $ feq_l ! (λ number.
      let all : vs ≡ vstruct (vcons got.0 (vcons (vint w64 h.0.reserved) vnil)) ∷ [] =
      both ∙ ap (λ (ws : List Val). vstruct (of_list ((got.0 ∷ []) ++ (ws ++ []))) ∷ []) number in
      let last : u ≡ vint w64 h.0.reserved = cc in
      -- [the number's bound; nothing; the pointers; nothing; what is told; what they show; a fact]
      move ! (4 ∷ 2 ∷ []) $
      rewrite ! 0 (λ (z : Contents R.Denot). ‵ (rows_telling R s.sharing 0 z.rows))
      (ap (λ (o : Owned R.Denot). o.contents) (sym h.1.0)) refl $
      use1 𝓛 (later (‵ (rows_tell R s.sharing 0 c.rows)))
      (via 𝓤 _ (rows_end 𝓛 R s.sharing 0 c.rows) (basic 𝓛 ⟦ rows_tell R s.sharing 0 c.rows ⟧)) $
      await ! tt $ nothing ! $ fpack ! (IsTable c) (λ _. ftrue) h.1.1.table $ fjoin ! $
      move ! (1 ∷ 0 ∷ []) $
      now ! $ show ! (Given s v u) c $
      check ! (subst (λ (k : ℕ). IsOwned (record { contents = c; reserved = k })) kept h.1.1, last ∙ ap (vint w64) kept) $
      keep ! (0 ∷ 1 ∷ []) $ done !)))))))
