-- The machine value of a claimed slot, which is what it keeps at run time, and what a `&` to one
-- holds. Assumes `Logic`.
use Rattle.std.proofs.Common.{◌≡◌, ℕ, ◌+◌, ◌-◌, ◌*◌, ◌/◌, ◌^◌, ◌<◌, ◌≤◌, le_of_lt, mul-le-mul_right, arith, T, w64}
use Rattle.std.proofs.Common.{List, [], ◌∷◌, ◌++◌, refl, sym, ap, subst, ◌∙◌, lit<}
use seplogic.Ra.Ura.{Ura}
use mir.Syntax.{Ty, ty_int, ty_ptr, ty_struct, tcons, tnil}
use mir.Val.{Val, vint, vstruct, vcons, vnil, of_list, has_ty, WT}
use base.Logic.{ent, emp}
use base.Fml.{Lft, Fml, fhide}
use types.Logic.{Logic, sem}
use types.Kit.{Item, Goal, Step, step, ‵, ◌⊛◌, ◌$◌, use1, move, split, fsplit}
use prog.Memory.{capped}
use denote.RattleType.{RattleType}
use denote.Laws.{Is}
use denote.Ref.{NamedLft, ShrRef}
use denote.Builtin.{RefOf}
use denote.Memory.{hidden_shr}
use denote.Signature.{Slot, plain, named_lft}
use denote.Opens.{Opens, unhide}
use denote.Copied.{Struct-Copied}
use denote.RawPtr.{Ptr, block_ptr, null_ptr, ptr_val}
use denote.Shadow.{makes_shadow}
use denote.Struct.Laws.{RawPtr-copy, u64-copy, field_copy}
use denote.Struct.Struct.{Struct}
use denote.Struct.Lending.{lent_out}
use denote.Struct.Owning.{shape}
use Rattle.std.specs.contracts.marker.PhantomData as marker
use Rattle.thread_local_shared_buckets.specs.contracts.shared_bucket.SharedBucket as one_bucket
use Rattle.thread_local_base.specs.Place.{bucket_of, index_of, id_at}
use Rattle.thread_local_base.proofs.PlaceLaws.{place-id_at}
use Rattle.thread_local_buckets.specs.Slots.{stride, value_words, flag_word_at, word_offset, value_offset}
use Rattle.thread_local_buckets.proofs.Flags.{uncapped}
use Rattle.thread_local_shared_buckets.specs.Shared.{BucketView, len, first}
use Rattle.thread_local_base.specs.Fact.{fact}
use Rattle.thread_local_shared_buckets.specs.Known.{value_held}
use Rattle.thread_local_shared_buckets.specs.Claims.{claim_fields, flag_word_of, IsStateOf, shows_value, claim_shares}
use Rattle.thread_local_shared_buckets.specs.declared.claimed.ClaimedSlot as claim_value
use Rattle.thread_local_shared_buckets.specs.contracts.claimed.ClaimedSlot as claim

at_index : (k i n : ℕ) → k ≡ i + (0 + n) → k ≡ i + n
at_index k i n e = omega arith

-- the id of a slot, by its bucket and its index there
pub lies_at : (R : RattleType) (d : BucketView) (id i : ℕ) → id ≡ i + first R d → id ≡ id_at d.bucket i
lies_at R d id i is = at_index id i (2 ^ d.bucket - 1) is

-- the number of the word that has the slot's flag
pub number_in : (R : RattleType) (d : BucketView) (id i : ℕ) → id ≡ i + first R d → i < len R d
    → flag_word_of R id ≡ flag_word_at R (len R d) (i / 64)
number_in R d id i is near =
    let lies : id ≡ id_at d.bucket i = lies_at R d id i is in
    let at = place-id_at d.bucket i near in
    let bucket = ap bucket_of lies ∙ at.0 in
    let index = ap index_of lies ∙ at.1 in
    λ j. flag_word_at R (2 ^ bucket j) (index j / 64)

-- what a claim keeps at run time
pub record Kept : Type 0 where
  pub at : Ptr
  pub state : ℕ

abbrev pub kept_of : {X : Type 0} → claim_value.ClaimedSlot X → Kept
kept_of c = record { at = c.at; state = c.state }

abbrev pub moved_to : Kept → Ptr → Kept
moved_to c p = record c { at = p }

abbrev pub value_of : Kept → Val
value_of c = vstruct (vcons (ptr_val c.at) (vcons (vint w64 c.state) (vcons (vstruct vnil) vnil)))

module _ (a : NamedLft) (R : RattleType) where
  abbrev pub FieldsType : RattleType
  FieldsType = Struct (shape (claim.the_type a R))

  abbrev pub fields_of : Kept → FieldsType.Denot
  fields_of c = (c.at, (c.state, (tt, tt)))

  pub told : (c : Kept) (vs : List Val) → Is FieldsType (fields_of c) vs → vs ≡ value_of c ∷ []
  told c vs is = let f = is.1.1 in is.1.0 ∙ (λ i. vstruct (of_list (f.0 i ++ (f.1.0.0 i ++ (f.1.1.0.1.0 i ++ [])))) ∷ [])

  -- its number is a word
  pub in_word : (c : Kept) (vs : List Val) → Is FieldsType (fields_of c) vs → c.state < 2 ^ 64
  in_word c vs is = is.1.1.1.0.1

  pub made : {M : Type 1} {𝓤 : Ura M} (𝓛 : Logic 𝓤) (c : Kept) → c.state < 2 ^ 64
      → ent 𝓤 (emp 𝓤) (sem 𝓛 (FieldsType.own_val (fields_of c) (value_of c ∷ [])))
  made 𝓛 c fits =
      makes_shadow 𝓛 (FieldsType.own_val (fields_of c) (value_of c ∷ []))
      (λ vss. (tt, (tt, ((tt, tt), ((λ uss. (tt, tt)), tt)))))
      ((ptr_val c.at ∷ [], (vint w64 c.state ∷ [], (vstruct vnil ∷ [], tt))), (refl, (refl, ((refl, fits), ((tt, (refl, tt)), tt)))))

  pub opened : {M : Type 1} {𝓤 : Ura M} (𝓛 : Logic 𝓤) → Opens 𝓛 FieldsType
  opened {M} {𝓤 = 𝓤} 𝓛 =
      (Struct-Copied 𝓛 (shape (claim.the_type a R)) (refl, (refl, (refl, tt))) (
        RawPtr-copy.copied M 𝓤 𝓛,
        (
          u64-copy.copied M 𝓤 𝓛,
          ((field_copy (marker.the_type (ShrRef a.mir a.lft (one_bucket.the_row R))) tt).copied M 𝓤 𝓛, tt),
        ),
      )).opens

-- a claim, and a `&` to it, by the lifetimes of a function that takes nothing else
abbrev pub claim_at : RattleType → Slot 3
claim_at R = plain (λ κs. claim.the_row (named_lft 3 1 tt κs) R)

abbrev pub claim_ref : RattleType → Slot 3
claim_ref R = RefOf (0 ∷ []) tt (claim_at R) (λ _. tt)

-- what that `&` holds: what the claim's number tells, what the claim shows, and a `&` to what it
-- keeps at run time
module _ {M : Type 1} {𝓤 : Ura M} {𝓛 : Logic 𝓤} {K : Type 0} {Γ : List (Item 𝓤)} {G : Goal 𝓤 𝓛.H} where
  pub splits_ref : K → (a : NamedLft) (R : RattleType) (κ : Lft) (h : claim_value.ClaimedSlot R.Denot) (b o : ℕ)
      → Step K 𝓛 (‵ (fact (IsStateOf R h.state h.learnt))
      ∷ ‵ (shows_value R a.lft (claim_fields h.id h.index h.bucket h.at h.sharing h.word h.reserved)
      (value_held h.learnt) κ)
      ∷ ‵ (hidden_shr (FieldsType a R) κ (fields_of a R (kept_of h)) b o) ∷ Γ)
      G (‵ (hidden_shr (claim.the_row a R) κ h b o) ∷ Γ) G
  splits_ref t a R κ h b o =
      let Shown : Fml =
      claim_shares R a.lft (claim_fields h.id h.index h.bucket h.at h.sharing h.word h.reserved) h.learnt
      h.state κ in
      step (λ s. use1 𝓛 (‵ (hidden_shr (FieldsType a R) κ (fields_of a R (kept_of h)) b o) ⊛ ‵ (fhide Shown))
      (lent_out 𝓛 (claim.struct a R)
      (claim.the_codes R.Denot R.coded (marker.the_row (ShrRef a.mir a.lft (one_bucket.the_row R))).coded
      (one_bucket.the_row R).coded)
      (claim.the_heap a.lft R) (claim.the_lent a.lft R) κ h b o) $
      split t $ move t (1 ∷ []) $ unhide t $ fsplit t $ s)

abbrev pub claim_ty : Ty
claim_ty = ty_struct [] (tcons ty_ptr (tcons (ty_int w64) (tcons (ty_struct [] tnil) tnil)))

abbrev Typed : Ptr → ℕ → Type 0
Typed p n = let v : Val = value_of record { at = p; state = n } in T (has_ty claim_ty v) × WT v

typed_at : (p : Ptr) (n : ℕ) → n < 2 ^ 64 → Typed p n
typed_at (block_ptr b o) n fits = (tt, (tt, (record { fits = fits }, (tt, tt))))
typed_at null_ptr n fits = (tt, (record { fits = lit< tt }, (record { fits = fits }, (tt, tt))))

pub typed : (c : Kept) → c.state < 2 ^ 64 → T (has_ty claim_ty (value_of c)) × WT (value_of c)
typed c fits = typed_at c.at c.state fits

-- the word of a slot's flag lies behind the slot's value, this many bytes from it
abbrev pub distance : (R : RattleType) → ℕ → ℕ → ℕ
distance R n i = (value_words R n + i / 64) * 8 - i * stride R

pub lies_ahead : (R : RattleType) (n i : ℕ) → i < n → i * stride R ≤ (value_words R n + i / 64) * 8
lies_ahead R n i near = let most : i * stride R ≤ n * stride R = mul-le-mul_right (stride R) (le_of_lt near) in omega arith

pub distance_fits : (R : RattleType) (n i : ℕ) → (value_words R n + i / 64) * 8 < 2 ^ 64 → distance R n i < 2 ^ 64
distance_fits R n i near = omega arith

pub leads_to_word : (R : RattleType) (n o i : ℕ) → i < n → distance R n i + value_offset R o i ≡ word_offset R n o (i / 64)
leads_to_word R n o i near = let ahead = lies_ahead R n i near in omega arith

-- code multiplies by the capped size, which is the size itself where i * k fits in 64 bits
pub spaced : (i k : ℕ) → i * k < 2 ^ 64 → i * capped k < 2 ^ 64
spaced i k fits = subst (λ (n : ℕ). n < 2 ^ 64) (sym (uncapped i k fits)) fits

pub spaced_is : (i k : ℕ) → i * k < 2 ^ 64 → ◌≡◌ {A = Val} (vint w64 (i * capped k)) (vint w64 (i * k))
spaced_is i k fits = ap (vint w64) (uncapped i k fits)
