-- A token as a value: it is its id, with what it says. Assumes `Logic`.
use Rattle.std.proofs.Common.{◌≡◌, ℕ, ◌-◌, ◌^◌, ◌<◌, T, List, [], ◌∷◌, ◌++◌, refl, subst, ◌∙◌, Some, w64, arith}
use seplogic.Ra.Ura.{Ura}
use mir.Syntax.{ty_int, ty_struct, tcons, tnil}
use mir.Val.{Val, vint, vstruct, vcons, vnil, of_list, has_ty, WT}
use base.Logic.{guard}
use base.Fml.{Lft, Fml, ftrue, fsep}
use types.Logic.{Logic}
use types.Kit.{‵, ◌⊛◌, given, ◌$◌, ◌∵◌, !, qed, move, drop, fsplit, fjoin, fpick, fpack, rewrite, learn, check, split, use0, use1, done}
use denote.RattleType.{RattleType}
use denote.Laws.{Is}
use denote.Opens.{Opens}
use denote.Copied.{Struct-Copied}
use denote.Shadow.{makes_shadow}
use denote.Steps.{nothing}
use denote.Struct.Laws.{u64-copy, field_copy}
use denote.Struct.Struct.{Struct}
use denote.Struct.Owning.{shape}
use Rattle.std.specs.contracts.marker.PhantomData as marker
use Rattle.thread_local_base.proofs.Signs.{signs}
use Rattle.thread_local_ids.specs.Told.{tells}
use Rattle.thread_local_ids.specs.TokenViews.{TokenView}
use Rattle.thread_local_ids.specs.contracts.tokens.token.Token as Token
use Rattle.thread_local_ids.specs.contracts.tokens.token.Token.TheInside as Inside

abbrev pub id_val : ℕ → Val
id_val id = vstruct (vcons (vint w64 id) (vcons (vstruct vnil) vnil))

pub id_good : (id : ℕ) → id < 2 ^ 64
    → T (has_ty (ty_struct [] (tcons (ty_int w64) (tcons (ty_struct [] tnil) tnil))) (id_val id)) × WT (id_val id)
id_good id fits = (tt, (record { fits = fits }, (tt, tt)))

-- an id that a table may give out
abbrev Low : ℕ → Type 0
Low id = id < 2 ^ 63 - 1

module _ (R : RattleType) where
  abbrev pub FieldsType : RattleType
  FieldsType = Struct (shape (Inside.the_type R))

  abbrev pub fields_of : ℕ → FieldsType.Denot
  fields_of id = (id, (record {}, tt))

  -- what a token says
  abbrev pub token_says : TokenView R.Denot → Fml
  token_says t = tells R t.sharing t.id (Some t.value)

  pub told : (id : ℕ) (vs : List Val) → Is FieldsType (fields_of id) vs → vs ≡ id_val id ∷ []
  told id vs is = let f = is.1.1 in is.1.0 ∙ (λ i. vstruct (of_list (f.0.0 i ++ (f.1.0.1.0 i ++ []))) ∷ [])

  module _ {M : Type 1} {𝓤 : Ura M} (𝓛 : Logic 𝓤) where
    open signs 𝓛 use {⟦◌⟧, ◌⊢◌, ◌∗◌}

    infix 26 ◌⊢◌
    infixr 35 ◌∗◌
    pub opened : Opens 𝓛 FieldsType
    opened =
        (Struct-Copied 𝓛 (shape (Inside.the_type R)) (refl, (refl, tt))
        (u64-copy.copied M 𝓤 𝓛, ((field_copy (marker.the_type R) tt).copied M 𝓤 𝓛, tt))).opens

    -- a `&` to a token holds a `&` to its id, and what the token says
    pub token_opened : (t : TokenView R.Denot) (b o : ℕ) (κ : Lft)
        → ⟦ (Token.the_row R).shr_at t b o κ ⟧
        ⊢ guard 𝓤 (Low t.id) (⟦ FieldsType.shr_at (fields_of t.id) b o κ ⟧ ∗ ⟦ token_says t ⟧)
    token_opened t b o κ = qed 𝓛 (‵ ((Token.the_row R).shr_at t b o κ) ∷ []) ∵ fpick ! (λ x. fsplit ! $ move ! (1 ∷ []) $ drop ! $
        fsplit ! $ rewrite ! 0 (λ (u : TokenView R.Denot). ‵ (FieldsType.shr_at (fields_of u.id) b o κ)) x.1.0 refl $
        rewrite ! 1 (λ (u : TokenView R.Denot). ‵ (token_says u)) x.1.0 refl $
        check ! (subst (λ (u : TokenView R.Denot). Low u.id) x.1.0 x.1.1) $ done !)

    pub token_had : (t : TokenView R.Denot) (b o : ℕ) (κ : Lft)
        → ⟦ (Token.the_row R).shr_at t b o κ ⟧ ⊢ guard 𝓤 (Low t.id) ⟦ token_says t ⟧
    token_had t b o κ = qed 𝓛 (‵ ((Token.the_row R).shr_at t b o κ) ∷ []) ∵
        use1 𝓛 (given (Low t.id) (‵ (FieldsType.shr_at (fields_of t.id) b o κ) ⊛ ‵ (token_says t))) (token_opened t b o κ) $
        learn ! (λ low. split ! $ drop ! $ check ! low $ done !)

    pub token_shown : (t : TokenView R.Denot) (b o : ℕ) (κ : Lft) → ⟦ (Token.the_row R).shr_at t b o κ ⟧ ⊢ ⟦ token_says t ⟧
    token_shown t b o κ = qed 𝓛 (‵ ((Token.the_row R).shr_at t b o κ) ∷ []) ∵
        use1 𝓛 (given (Low t.id) (‵ (token_says t))) (token_had t b o κ) $ learn ! (λ _. done !)

    pub token_made : (t : TokenView R.Denot) → Low t.id → ⟦ token_says t ⟧ ⊢ ⟦ (Token.the_row R).own_val t (id_val t.id ∷ []) ⟧
    token_made t low = let vs : List Val = id_val t.id ∷ [] in let F = FieldsType.own_val (fields_of t.id) vs in
        let i : (Inside.the_row R).Denot = record { id = t.id; marker = record {}; sharing = t.sharing; value = t.value } in
        qed 𝓛 (‵ (token_says t) ∷ []) ∵
        use0 𝓛 (‵ F) (makes_shadow 𝓛 F (λ vss. (tt, ((tt, tt), ((λ uss. (tt, tt)), tt))))
        ((vint w64 t.id ∷ [], (vstruct vnil ∷ [], tt)), (refl, ((refl, omega (arith, low)), ((tt, (refl, tt)), tt))))) $
        fjoin ! $ nothing ! $ move ! (1 ∷ []) $ fjoin ! $
        fpack ! ((a : (Inside.the_row R).Denot) × ((record { sharing = a.sharing; id = a.id; value = a.value } ≡ t) × Low a.id))
        (λ x. fsep ((Inside.the_row R).own_val x.0 vs) ftrue) (i, (refl, low)) $
        done !
