-- The machine value of a row, and that what a row owns can be duplicated. Assumes `Logic`.
use Rattle.thread_local_base.proofs.Names.{◌≡◌, ℕ, T, List, [], ◌∷◌, ◌++◌, refl, ap, ◌∙◌, lit<, Ura, tcons, tnil}
use Rattle.thread_local_base.proofs.Names.{ty_ptr, ty_struct, Val, vstruct, vcons, vnil, of_list, has_ty, WT, ent}
use Rattle.thread_local_base.proofs.Names.{sep, emp, Lft, Fml, ftrue, Logic, sem, ‵, ◌⊛◌, ◌$◌, ◌∵◌, !, qed, move}
use Rattle.thread_local_base.proofs.Names.{drop, split, fsplit, fsplit3, fjoin, fjoin3, fpick, fpack, frame, use1}
use Rattle.thread_local_base.proofs.Names.{nothing, done, RattleType, Is, Ptr, block_ptr, null_ptr, ptr_val, length}
use base.Fml.{fbor, finv}
use base.Before.{before}
use types.Na.{before_dup}
use types.Tokens.{res_dup}
use denote.Copied.{Struct-Copied}
use denote.Opens.{Opens}
use denote.Ref.{NamedLft, ShrRef}
use Rattle.std.specs.contracts.marker.PhantomData as marker
use denote.Builtin.{u64}
use denote.Param.Laws.{Laws, of_field}
use denote.Param.Shared.{copy_shared}
use denote.Struct.Field.{u64-field}
use denote.Struct.Laws.{u64-laws, u64-copy, RawPtr-copy, field_copy}
use denote.Shadow.{makes_shadow}
use denote.Struct.Struct.{Struct}
use denote.Struct.Owning.{shape}
use Rattle.thread_local_base.specs.Judged.{Judged}
use Rattle.thread_local_shared_buckets.specs.Shared.{BucketView, Turn, StandingBlock, Sized, len, bucket_invariant, kept}
use Rattle.thread_local_shared_buckets.specs.Shared.{loaded, Found, row_as, row_owns, shown_by}
use Rattle.thread_local_ids.specs.Rights.{reached_owns}
use Rattle.thread_local_ids.proofs.ReachedElements.{reached_twice}
use Rattle.thread_local_shared_buckets.specs.contracts.row.Row as Row

abbrev pub row_val : Ptr → Val
row_val p = vstruct (vcons (ptr_val p) (vcons (vstruct vnil) vnil))

pub row_good : (p : Ptr) → T (has_ty (ty_struct [] (tcons ty_ptr (tcons (ty_struct [] tnil) tnil))) (row_val p)) × WT (row_val p)
row_good (block_ptr b o) = (tt, (tt, (tt, tt)))
row_good null_ptr = (tt, (record { fits = lit< tt }, (tt, tt)))

pub word_laws : Laws u64
word_laws = of_field u64-field u64-laws refl (copy_shared u64-field u64-copy)

module _ (a : NamedLft) (R : RattleType) where
  abbrev pub FieldsType : RattleType
  FieldsType = Struct (shape (Row.the_type a R))

  pub told : (p : Ptr) (vs : List Val) → Is FieldsType (p, (record {}, tt)) vs → vs ≡ row_val p ∷ []
  told p vs is =
      is.1.0
      ∙ ap (λ (ws : List Val). vstruct (of_list (ws ++ (is.0.1.0 ++ []))) ∷ []) is.1.1.0
      ∙ ap (λ (ws : List Val). vstruct (of_list (ptr_val p ∷ (ws ++ []))) ∷ []) is.1.1.1.0.1.0

  pub made : {M : Type 1} {𝓤 : Ura M} (𝓛 : Logic 𝓤) (p : Ptr)
      → ent 𝓤 (emp 𝓤) (sem 𝓛 (FieldsType.own_val (p, (record {}, tt)) (row_val p ∷ [])))
  made 𝓛 p =
      makes_shadow 𝓛 (FieldsType.own_val (p, (record {}, tt)) (row_val p ∷ []))
      (λ vss. (tt, (tt, ((λ uss. (tt, tt)), tt))))
      ((ptr_val p ∷ [], (vstruct vnil ∷ [], tt)), (refl, (refl, ((tt, (refl, tt)), tt))))

  pub opened : {M : Type 1} {𝓤 : Ura M} (𝓛 : Logic 𝓤) → Opens 𝓛 FieldsType
  opened {M} {𝓤 = 𝓤} 𝓛 =
      (Struct-Copied 𝓛 (shape (Row.the_type a R)) (refl, (refl, tt)) (
        RawPtr-copy.copied M 𝓤 𝓛,
        ((field_copy (marker.the_type (ShrRef a.mir a.lft R)) tt).copied M 𝓤 𝓛, tt),
      )).opens

module _ {M : Type 1} {𝓤 : Ura M} (𝓛 : Logic 𝓤) (R : RattleType) (d : BucketView) where
  pub kept_dup : (t : Turn) (b o : ℕ) (β : Lft)
      → ent 𝓤 (sem 𝓛 (kept R d t b o β))
      (sep 𝓤 (sem 𝓛 (kept R d t b o β)) (sem 𝓛 (kept R d t b o β)))
  kept_dup t b o β =
      let J : Fml = finv (fbor t.life (bucket_invariant R d t b o)) in
      qed 𝓛 (‵ (kept R d t b o β) ∷ []) ∵ fsplit ! $
      use1 𝓛 (‵ (before β t.life) ⊛ ‵ (before β t.life)) (before_dup 𝓛 β t.life) $ split ! $
      move ! (2 ∷ []) $
      use1 𝓛 (‵ J ⊛ ‵ J) (𝓛.invs.inv_dup (fbor t.life (bucket_invariant R d t b o))) $ split ! $
      move ! (2 ∷ 0 ∷ []) $ fjoin ! $ frame ! $ move ! (1 ∷ 0 ∷ []) $ fjoin ! $ done !

  pub row_dup : (t : Turn) (s : StandingBlock) (β : Lft)
      → ent 𝓤 (sem 𝓛 (loaded R d t s β))
      (sep 𝓤 (sem 𝓛 (loaded R d t s β)) (sem 𝓛 (loaded R d t s β)))
  row_dup t s β =
      let κ : Lft = s.block_life ∷ t.life in
      let IsSized : Type 0 = (length s.names ≡ len R d) × Sized R (len R d) s.at in
      qed 𝓛 (‵ (loaded R d t s β) ∷ []) ∵ fsplit3 ! $ fpick ! (λ so. drop ! $ res_dup ! $
      move ! (2 ∷ []) $
      use1 𝓛 (‵ (before β κ) ⊛ ‵ (before β κ)) (before_dup 𝓛 β κ) $ split ! $ move ! (2 ∷ 0 ∷ []) $
      nothing ! $ fpack ! IsSized (λ _. ftrue) so $ fjoin3 ! $ frame ! $ move ! (1 ∷ 0 ∷ []) $
      nothing ! $ fpack ! IsSized (λ _. ftrue) so $ fjoin3 ! $ done !)

  pub found_dup : (names : List ℕ) (β : Lft) (p : Ptr)
      → ent 𝓤 (sem 𝓛 (row_owns R d names β p))
      (sep 𝓤 (sem 𝓛 (row_owns R d names β p)) (sem 𝓛 (row_owns R d names β p)))
  found_dup names β p =
      qed 𝓛 (‵ (row_owns R d names β p) ∷ []) ∵ fpick ! (λ z.
      let K : Fml = kept R d z.0 z.2 z.3 β in
      let W : Fml = loaded R d z.0 z.1 β in
      let S : Fml = reached_owns d.table (shown_by d) in
      fsplit3 ! $ fpick ! (λ so. drop ! $
      use1 𝓛 (‵ K ⊛ ‵ K) (kept_dup z.0 z.2 z.3 β) $ split ! $ move ! (2 ∷ []) $ fsplit ! $
      use1 𝓛 (‵ S ⊛ ‵ S) (reached_twice 𝓛 d.table (shown_by d)) $ split ! $ move ! (2 ∷ []) $
      use1 𝓛 (‵ W ⊛ ‵ W) (row_dup z.0 z.1 β) $ split ! $ move ! (2 ∷ 0 ∷ []) $ fjoin ! $ move ! (2 ∷ 1 ∷ []) $ fjoin ! $
      move ! (2 ∷ 0 ∷ []) $ nothing ! $
      fpack ! ((z.1.at ≡ p) × (z.1.names ≡ names) × Judged R) (λ _. ftrue) so $ fjoin3 ! $
      fpack ! Found (row_as R d names β p) z $ frame ! $ move ! (1 ∷ 0 ∷ []) $ nothing ! $
      fpack ! ((z.1.at ≡ p) × (z.1.names ≡ names) × Judged R) (λ _. ftrue) so $ fjoin3 ! $
      fpack ! Found (row_as R d names β p) z $ done !))
