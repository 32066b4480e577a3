-- The data fields of a block, and of one that is emptied. Assumes `Logic`.
use Rattle.thread_local_base.proofs.Names.{◌≡◌, ℕ, T, List, [], ◌∷◌, ◌++◌, refl, ap, ◌∙◌, arith, lit<, Ura, tcons}
use Rattle.thread_local_base.proofs.Names.{tnil, ty_ptr, ty_struct, Val, vstruct, vcons, vnil, of_list, has_ty, WT}
use Rattle.thread_local_base.proofs.Names.{ent, emp, Logic, sem, RattleType, Is, Ptr, block_ptr, null_ptr, ptr_val}
use prog.Memory.{capped, size, align}
use prog.Capped.{capped_is}
use prog.RawLaws.{size-raw, align-raw}
use denote.Shadow.{makes_shadow}
use denote.Struct.Struct.{Struct}
use denote.Struct.Owning.{shape}
use Rattle.std.specs.declared.alloc.Allocator.{Ghosts}
use Rattle.thread_local_buckets.specs.Slots.{slots_ty, block_ty, Fits}
use Rattle.thread_local_buckets.specs.contracts.block.Block as block

abbrev pub block_val : Ptr → Val
block_val p = vstruct (vcons (ptr_val p) (vcons (vstruct vnil) vnil))

pub block_good : (p : Ptr) → T (has_ty (ty_struct [] (tcons ty_ptr (tcons (ty_struct [] tnil) tnil))) (block_val p)) × WT (block_val p)
block_good (block_ptr b o) = (tt, (tt, (tt, tt)))
block_good null_ptr = (tt, (record { fits = lit< tt }, (tt, tt)))

module _ (R Z : RattleType) (g : Ghosts Z.Denot) where
  abbrev pub FieldsType : RattleType
  FieldsType = Struct (shape (block.the_type R Z g))

  pub told : (p : Ptr) (vs : List Val) → Is FieldsType (p, (record {}, tt)) vs → vs ≡ block_val p ∷ []
  told p vs is =
      is.1.0
      ∙ ap (λ (ws : List Val). vstruct (of_list (ws ++ (is.0.1.0 ++ []))) ∷ []) is.1.1.0
      ∙ ap (λ (ws : List Val). vstruct (of_list (ptr_val p ∷ (ws ++ []))) ∷ []) is.1.1.1.0.1.0

  pub made : {M : Type 1} {𝓤 : Ura M} (𝓛 : Logic 𝓤) (p : Ptr)
      → ent 𝓤 (emp 𝓤) (sem 𝓛 (FieldsType.own_val (p, (record {}, tt)) (block_val p ∷ [])))
  made 𝓛 p =
      makes_shadow 𝓛 (FieldsType.own_val (p, (record {}, tt)) (block_val p ∷ []))
      (λ vss. (tt, (tt, ((λ uss. (tt, tt)), tt))))
      ((ptr_val p ∷ [], (vstruct vnil ∷ [], tt)), (refl, (refl, ((tt, (refl, tt)), tt))))

pub block_size : (R : RattleType) (n : ℕ) → Fits R n → capped (size (block_ty R n)) ≡ size (slots_ty R n)
block_size R n fits = ap capped (size-raw (slots_ty R n)) ∙ capped_is (size (slots_ty R n)) (omega arith)

pub block_align : (R : RattleType) (n : ℕ) → capped (align (block_ty R n)) ≡ capped (align (slots_ty R 64))
block_align R n = ap capped (align-raw (slots_ty R n))
