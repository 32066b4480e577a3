-- The machine value of what a look saw, and that what it owns can be duplicated. Assumes `Logic`.
use Rattle.thread_local_base.proofs.Names.{◌≡◌, ℕ, ◌+◌, ◌^◌, ◌<◌, T, List, [], ◌∷◌, ◌++◌, refl, ◌∙◌, lit<, w64}
use Rattle.thread_local_base.proofs.Names.{Ura, Val, vint, vstruct, vcons, vnil, of_list, has_ty, WT, ent, sep, emp}
use Rattle.thread_local_base.proofs.Names.{Lft, Fml, ftrue, Logic, sem, ‵, ◌⊛◌, ◌$◌, ◌∵◌, !, qed, move, drop}
use Rattle.thread_local_base.proofs.Names.{split, fsplit, fsplit3, fjoin, fjoin3, fpick, fpack, use1, nothing, done}
use Rattle.thread_local_base.proofs.Names.{RattleType, Is, Ptr, block_ptr, null_ptr, ptr_val, ty_ptr, ty_struct, tcons, tnil}
use Rattle.std.proofs.Common.{Bool, true, false, Some}
use mir.Syntax.{Ty, ty_int}
use base.Logic.{all_e}
use base.Fml.{GName, fall}
use base.Before.{before}
use types.Kit.{each as for_each}
use types.Na.{before_dup}
use types.Tokens.{res_dup}
use denote.Copied.{Struct-Copied}
use denote.Opens.{Opens}
use denote.Memory.{shared_of}
use denote.RawPtr.{block_of, count_of}
use denote.Ref.{NamedLft, ShrRef}
use denote.SharingLaws.{contraction}
use denote.Param.Laws.{Laws}
use denote.Struct.Laws.{u64-copy, RawPtr-copy, field_copy}
use denote.Shadow.{makes_shadow}
use denote.Struct.Struct.{Struct}
use denote.Struct.Owning.{shape}
use Rattle.std.specs.contracts.marker.PhantomData as marker
use Rattle.thread_local_base.specs.Bits.{is_set_in}
use Rattle.thread_local_base.specs.Judged.{Shareable}
use Rattle.thread_local_buckets.specs.Slots.{each, value_offset}
use Rattle.thread_local_ids.specs.Told.{tells}
use Rattle.thread_local_ids.proofs.ToldElements.{tells_dup}
use Rattle.thread_local_shared_buckets.specs.Shared.{BucketView, first, if_set, seen_value}
use Rattle.thread_local_shared_buckets.specs.Shared.{seen_slot, WereFlags, seen_as, seen_owns}
use Rattle.thread_local_shared_buckets.specs.contracts.seen.Seen as Seen
use Rattle.thread_local_shared_buckets.proofs.ChunkLooks.{each_gives}

abbrev pub seen_val : Ptr → ℕ → Val
seen_val p n = vstruct (vcons (ptr_val p) (vcons (vint w64 n) (vcons (vstruct vnil) vnil)))

abbrev seen_ty : Ty
seen_ty = ty_struct [] (tcons ty_ptr (tcons (ty_int w64) (tcons (ty_struct [] tnil) tnil)))

pub seen_good : (p : Ptr) (n : ℕ) → n < 2 ^ 64 → T (has_ty seen_ty (seen_val p n)) × WT (seen_val p n)
seen_good (block_ptr b o) n fits = (tt, (tt, (record { fits = fits }, (tt, tt))))
seen_good null_ptr n fits = (tt, (record { fits = lit< tt }, (record { fits = fits }, (tt, tt))))

module _ (a : NamedLft) (R : RattleType) where
  abbrev pub FieldsType : RattleType
  FieldsType = Struct (shape (Seen.the_type a R))

  abbrev pub fields_of : Ptr → ℕ → FieldsType.Denot
  fields_of p n = (p, (n, (record {}, tt)))

  pub told : (p : Ptr) (n : ℕ) (vs : List Val) → Is FieldsType (fields_of p n) vs → vs ≡ seen_val p n ∷ []
  told p n vs is = let f = is.1.1 in is.1.0 ∙ (λ i. vstruct (of_list (f.0 i ++ (f.1.0.0 i ++ (f.1.1.0.1.0 i ++ [])))) ∷ [])

  -- its flags are a word
  pub in_word : (p : Ptr) (n : ℕ) (vs : List Val) → Is FieldsType (fields_of p n) vs → n < 2 ^ 64
  in_word p n vs is = is.1.1.1.0.1

  pub made : {M : Type 1} {𝓤 : Ura M} (𝓛 : Logic 𝓤) (p : Ptr) (n : ℕ) → n < 2 ^ 64
      → ent 𝓤 (emp 𝓤) (sem 𝓛 (FieldsType.own_val (fields_of p n) (seen_val p n ∷ [])))
  made 𝓛 p n fits =
      makes_shadow 𝓛 (FieldsType.own_val (fields_of p n) (seen_val p n ∷ []))
      (λ vss. (tt, (tt, ((tt, tt), ((λ uss. (tt, tt)), tt)))))
      ((ptr_val p ∷ [], (vint w64 n ∷ [], (vstruct vnil ∷ [], tt))), (refl, (refl, ((refl, fits), ((tt, (refl, tt)), tt)))))

  pub opened : {M : Type 1} {𝓤 : Ura M} (𝓛 : Logic 𝓤) → Opens 𝓛 FieldsType
  opened {M} {𝓤 = 𝓤} 𝓛 =
      (Struct-Copied 𝓛 (shape (Seen.the_type a R)) (refl, (refl, (refl, tt))) (
        RawPtr-copy.copied M 𝓤 𝓛,
        (u64-copy.copied M 𝓤 𝓛, ((field_copy (marker.the_type (ShrRef a.mir a.lft R)) tt).copied M 𝓤 𝓛, tt)),
      )).opens

module _ {M : Type 1} {𝓤 : Ura M} (𝓛 : Logic 𝓤) (R : RattleType) (L : Laws R) (j : Shareable R) (d : BucketView) (p : Ptr) (κ : Lft) where
  value_dup : (η : GName) (i : ℕ) (set : Bool)
      → ent 𝓤 (sem 𝓛 (if_set R (seen_value R d p κ η i) set))
      (sep 𝓤 (sem 𝓛 (if_set R (seen_value R d p κ η i) set))
      (sem 𝓛 (if_set R (seen_value R d p κ η i) set)))
  value_dup η i false = qed 𝓛 (‵ ftrue ∷ []) ∵ nothing ! $ done !
  value_dup η i true =
      let V : R.Denot → Fml = seen_value R d p κ η i in
      let k : ℕ = i + first R d in
      let b : ℕ = block_of p in
      let e : ℕ = value_offset R (count_of p) i in
      qed 𝓛 (‵ (if_set R V true) ∷ []) ∵ fpick ! (λ x.
      let S : Lft → Fml = shared_of R x b e in
      let Shared : Fml = S κ in
      let Open : Fml = fall (Shareable R) (λ _. Shared) in
      let opens : ent 𝓤 (sem 𝓛 Shared) (sem 𝓛 Open) =
      qed 𝓛 (‵ Shared ∷ []) ∵ for_each ! (λ (_ : Shareable R). sem 𝓛 Shared) (λ _. done !) in
      let Told : Fml = tells R d.sharing k (Some x) in
      fsplit ! $ fsplit ! $ res_dup ! $ move ! (2 ∷ []) $
      use1 𝓛 (‵ Told ⊛ ‵ Told) (tells_dup 𝓛 R d.sharing k (Some x)) $ split ! $
      -- [what is told, twice; the pin, twice; opened]
      move ! (2 ∷ 0 ∷ []) $ fjoin ! $ move ! (2 ∷ 1 ∷ []) $ fjoin ! $ move ! (2 ∷ []) $
      use1 𝓛 (‵ Shared) (all_e 𝓤 (λ (_ : Shareable R). sem 𝓛 Shared) j) $
      use1 𝓛 (‵ Shared ⊛ ‵ Shared) (contraction 𝓛 S (L.shr_laws x b e) κ) $ split ! $
      use1 𝓛 (‵ Open) opens $ move ! (1 ∷ []) $ use1 𝓛 (‵ Open) opens $
      -- [opened, twice; what is pinned and told, twice]
      move ! (2 ∷ 0 ∷ []) $ fjoin ! $ fpack ! R.Denot V x $ move ! (2 ∷ 1 ∷ []) $ fjoin ! $
      fpack ! R.Denot V x $ done !)

module _ {M : Type 1} {𝓤 : Ura M} (𝓛 : Logic 𝓤) (R : RattleType) (L : Laws R) (d : BucketView) where
  pub seen_dup : (p : Ptr) (names : List ℕ) (chunk flags : ℕ) (values : Ptr) (β : Lft)
      → ent 𝓤 (sem 𝓛 (seen_owns R d p names chunk flags values β))
      (sep 𝓤 (sem 𝓛 (seen_owns R d p names chunk flags values β))
      (sem 𝓛 (seen_owns R d p names chunk flags values β)))
  seen_dup p names chunk flags values β =
      let Owns : Fml = seen_owns R d p names chunk flags values β in
      let As : Lft × List ℕ → Fml = seen_as R d p names chunk flags values β in
      qed 𝓛 (‵ Owns ∷ []) ∵ fpick ! (λ z.
      let F : GName → ℕ → Fml = seen_slot R d p z.0 z.1 in
      let E : Fml = each F names 0 in
      fsplit3 ! $ fpick ! (λ so. drop ! $
      use1 𝓛 (‵ (before β z.0) ⊛ ‵ (before β z.0)) (before_dup 𝓛 β z.0) $ split ! $ move ! (2 ∷ []) $
      use1 𝓛 (‵ E ⊛ ‵ E)
      (each_gives 𝓛 F F names 0 (λ η i.
      value_dup 𝓛 R L so.4 d p z.0 η i (is_set_in z.1 i))) $
      split ! $
      -- [the slots, twice; before, twice]
      move ! (2 ∷ 0 ∷ []) $ nothing ! $ fpack ! (WereFlags R d p names chunk flags values z.1) (λ _. ftrue) so $
      fjoin3 ! $ fpack ! (Lft × List ℕ) As z $ move ! (2 ∷ 1 ∷ []) $ nothing ! $
      fpack ! (WereFlags R d p names chunk flags values z.1) (λ _. ftrue) so $
      fjoin3 ! $ fpack ! (Lft × List ℕ) As z $ done !))
