-- How a list of tokens that exists in proofs alone is had twice, and agrees with a slot. Assumes
-- `Logic`.
use Rattle.std.proofs.Common.{◌≡◌, ℕ, ◌-◌, ◌^◌, ◌<◌, List, [], ◌∷◌, refl, sym, ap, subst, Option, None, Some, IsSome, ⊎_elim}
use Rattle.std.proofs.lemmas.Bool.{cases_eq}
use Rattle.std.proofs.lemmas.List.Elements.{All-nil, All-cons}
use Rattle.std.specs.Prelude.{All}
use seplogic.Ra.Ura.{Ura}
use mir.Val.{vstruct, vnil}
use base.Logic.{SProp, guard, via, guard_i, guard_e, snd∗}
use base.Fml.{Lft, Fml, ftrue, fsep}
use base.Before.{before}
use base.Shift.{Keyless}
use types.Logic.{Logic, sem}
use types.Kit.{‵, ◌⊛◌, given, learn, check, frame, move, rewrite, split, fsplit, fjoin, use0, use1, use2, qed, done, fpick, fpack, drop}
use types.Kit.{◌$◌, ◌∵◌, ! }
use denote.Steps.{nothing}
use denote.RattleType.{RattleType}
use denote.Sharing.{ShrLaws, said}
use denote.Shadow.{makes_shadow}
use denote.Struct.Struct.{Struct}
use denote.Struct.Owning.{shape}
use Rattle.thread_local_ids.specs.Told.{tells, told_or_untold}
use Rattle.thread_local_ids.specs.TokenViews.{TokenView}
use Rattle.thread_local_ids.specs.TokenLists.{AllOf, tell_each}
use Rattle.thread_local_ids.specs.contracts.tokens.told_list.Told as Told
use Rattle.thread_local_ids.specs.contracts.tokens.told_list.Told.TheInside as Inside
use Rattle.thread_local_ids.proofs.Made.{token_val}
use Rattle.thread_local_ids.proofs.ToldElements.{tells_dup, telling_alike, tells_keyless}
use Rattle.thread_local_base.proofs.Signs.{signs}

unnamed : IsSome {T = ℕ} None → ⊥
unnamed named = cc

same_name : (δ γ : ℕ) → ◌≡◌ {A = Option ℕ} (Some δ) (Some γ) → δ ≡ γ
same_name δ γ e = ap (λ (o : Option ℕ). elim o [ None ↦ δ | Some z ↦ z ]) e

-- the ids of these tokens are ones that a table may give out
abbrev AreInRange : {V : Type 0} → List (TokenView V) → Type 0
AreInRange tokens = All (λ p. p.id < 2 ^ 63 - 1) tokens

module _ {M : Type 1} {𝓤 : Ura M} (𝓛 : Logic 𝓤) (R : RattleType) where
  open signs 𝓛 use {⟦◌⟧, ◌⊢◌, ◌∗◌}

  infix 26 ◌⊢◌
  infixr 35 ◌∗◌
  abbrev Tokens : Type 0
  Tokens = List (TokenView R.Denot)

  pub each_dup : (tokens : Tokens) → ⟦ tell_each R tokens ⟧ ⊢ ⟦ tell_each R tokens ⟧ ∗ ⟦ tell_each R tokens ⟧
  each_dup [] = qed 𝓛 (‵ ftrue ∷ []) ∵ nothing ! $ done !
  each_dup (p ∷ tokens) =
      let One : Fml = tells R p.sharing p.id (Some p.value) in
      let Rest : Fml = tell_each R tokens in
      qed 𝓛 (‵ (tell_each R (p ∷ tokens)) ∷ []) ∵ fsplit ! $
      use1 𝓛 (‵ One ⊛ ‵ One) (tells_dup 𝓛 R p.sharing p.id (Some p.value)) $ split ! $
      move ! (2 ∷ []) $ use1 𝓛 (‵ Rest ⊛ ‵ Rest) (each_dup tokens) $ split ! $
      move ! (2 ∷ 0 ∷ []) $ fjoin ! $ frame ! $ move ! (1 ∷ 0 ∷ []) $ fjoin ! $ done !

  -- what one token says of an id
  abbrev Says : Option ℕ → ℕ → Option R.Denot → TokenView R.Denot → Type 0
  Says sharing id v p = p.sharing ≡ sharing → p.id ≡ id → v ≡ Some p.value

  one_agrees : (s sharing : Option ℕ) → IsSome sharing → (j id : ℕ) (v : Option R.Denot) (x : R.Denot)
      → ⟦ told_or_untold R sharing id v ⟧ ∗ ⟦ tells R s j (Some x) ⟧
      ⊢ guard 𝓤 (s ≡ sharing → j ≡ id → v ≡ Some x) (⟦ told_or_untold R sharing id v ⟧ ∗ ⟦ tells R s j (Some x) ⟧)
  one_agrees s None named j id v x = absurd (unnamed named)
  one_agrees None (Some γ) named j id v x = guard_i 𝓤 _ _ (λ same. absurd (cc))
  one_agrees (Some δ) (Some γ) named j id v x =
      let S : Fml = told_or_untold R (Some γ) id v in
      ⊎_elim
      (λ (same : δ ≡ γ).
      ⊎_elim
      (λ (at : j ≡ id).
      qed 𝓛 (‵ S ∷ ‵ (tells R (Some δ) j (Some x)) ∷ []) ∵
      rewrite ! 1 (λ (m : ℕ). ‵ (tells R (Some m) j (Some x))) same refl $
      rewrite ! 1 (λ (m : ℕ). ‵ (tells R (Some γ) m (Some x))) at refl $
      use2 𝓛 (given (v ≡ Some x) (‵ S ⊛ ‵ (tells R (Some γ) id (Some x)))) (telling_alike 𝓛 R (Some γ) named id v x) $
      learn ! (λ e. split ! $ check ! (λ _ _. e) $
      rewrite ! 1 (λ (m : ℕ). ‵ (tells R (Some γ) m (Some x))) (sym at) refl $
      rewrite ! 1 (λ (m : ℕ). ‵ (tells R (Some m) j (Some x))) (sym same) refl $ done !))
      (λ apart. guard_i 𝓤 _ _ (λ _ at. absurd (apart at)))
      (cases_eq j id))
      (λ apart. guard_i 𝓤 _ _ (λ same _. absurd (apart (same_name δ γ same))))
      (cases_eq δ γ)

  all_agree : (sharing : Option ℕ) → IsSome sharing → (id : ℕ) (v : Option R.Denot) (tokens : Tokens)
      → ⟦ told_or_untold R sharing id v ⟧ ∗ ⟦ tell_each R tokens ⟧
      ⊢ guard 𝓤 (All (Says sharing id v) tokens) (⟦ told_or_untold R sharing id v ⟧ ∗ ⟦ tell_each R tokens ⟧)
  all_agree sharing named id v [] = guard_i 𝓤 _ _ (All-nil (Says sharing id v))
  all_agree sharing named id v (p ∷ tokens) =
      let S : Fml = told_or_untold R sharing id v in
      let One : Fml = tells R p.sharing p.id (Some p.value) in
      let Rest : Fml = tell_each R tokens in
      qed 𝓛 (‵ S ∷ ‵ (tell_each R (p ∷ tokens)) ∷ []) ∵ move ! (1 ∷ []) $ fsplit ! $
      -- [this token; the others; the slot]
      move ! (2 ∷ 0 ∷ []) $
      use2 𝓛 (given (Says sharing id v p) (‵ S ⊛ ‵ One)) (one_agrees p.sharing sharing named p.id id v p.value) $
      learn ! (λ one. split ! $
      -- [the slot; this token; the others]
      move ! (0 ∷ 2 ∷ []) $
      use2 𝓛 (given (All (Says sharing id v) tokens) (‵ S ⊛ ‵ Rest)) (all_agree sharing named id v tokens) $
      learn ! (λ all. split ! $ check ! (All-cons (Says sharing id v) p tokens one all) $
      frame ! $ move ! (1 ∷ 0 ∷ []) $ fjoin ! $ done !))

  -- a slot holds what the tokens say of its id
  pub slot_agrees : (sharing : Option ℕ) (id : ℕ) (v : Option R.Denot) (tokens : Tokens)
      → ⟦ told_or_untold R sharing id v ⟧ ∗ ⟦ tell_each R tokens ⟧
      ⊢ guard 𝓤 (AllOf sharing (λ p. p.id ≡ id → v ≡ Some p.value) tokens)
      (⟦ told_or_untold R sharing id v ⟧ ∗ ⟦ tell_each R tokens ⟧)
  slot_agrees None id v tokens = guard_i 𝓤 _ _ (λ named. absurd (unnamed named))
  slot_agrees (Some γ) id v tokens =
      let Both : SProp 𝓤 = ⟦ told_or_untold R (Some γ) id v ⟧ ∗ ⟦ tell_each R tokens ⟧ in
      let All' : Type 0 = All (Says (Some γ) id v) tokens in
      via 𝓤 (guard 𝓤 All' Both) (all_agree (Some γ) refl id v tokens)
      (guard_e 𝓤 All' Both (λ all. guard_i 𝓤 (AllOf (Some γ) (λ p. p.id ≡ id → v ≡ Some p.value) tokens) Both (λ _. all)))

  -- a `&` to a list holds what its tokens tell, and their ids are in range
  pub told_had : (ts : Tokens) (b o : ℕ) (κ : Lft)
      → ⟦ (Told.the_row R).shr_at ts b o κ ⟧ ⊢ guard 𝓤 (AreInRange ts) ⟦ tell_each R ts ⟧
  told_had ts b o κ = qed 𝓛 (‵ ((Told.the_row R).shr_at ts b o κ) ∷ []) ∵ fpick ! (λ x. fsplit ! $ move ! (1 ∷ []) $ drop ! $
      fsplit ! $ drop ! $ rewrite ! 0 (λ (us : Tokens). ‵ (tell_each R us)) x.1.0 refl $
      check ! (subst AreInRange x.1.0 x.1.1) $ done !)

  pub told_shown : (ts : Tokens) (b o : ℕ) (κ : Lft) → ⟦ (Told.the_row R).shr_at ts b o κ ⟧ ⊢ ⟦ tell_each R ts ⟧
  told_shown ts b o κ = qed 𝓛 (‵ ((Told.the_row R).shr_at ts b o κ) ∷ []) ∵
      use1 𝓛 (given (AreInRange ts) (‵ (tell_each R ts))) (told_had ts b o κ) $ learn ! (λ _. done !)

  pub told_made : (ts : Tokens) → AreInRange ts → ⟦ tell_each R ts ⟧ ⊢ ⟦ (Told.the_row R).own_val ts (token_val ∷ []) ⟧
  told_made ts low = let F = (Struct (shape (Inside.the_type R))).own_val (tt, tt) (token_val ∷ []) in
      let i : (Inside.the_row R).Denot = record { marker = record {}; tokens = ts } in
      qed 𝓛 (‵ (tell_each R ts) ∷ []) ∵
      use0 𝓛 (‵ F) (makes_shadow 𝓛 F (λ vss. (tt, ((λ uss. (tt, tt)), tt)))
      ((vstruct vnil ∷ [], tt), (refl, ((tt, (refl, tt)), tt)))) $
      fjoin ! $ nothing ! $ move ! (1 ∷ []) $ fjoin ! $
      fpack ! ((a : (Inside.the_row R).Denot) × ((a.tokens ≡ ts) × AreInRange a.tokens))
      (λ x. fsep ((Inside.the_row R).own_val x.0 (token_val ∷ [])) ftrue) (i, (refl, low)) $
      done !

pub each_keyless : (R : RattleType) (tokens : List (TokenView R.Denot)) → Keyless (tell_each R tokens)
each_keyless R [] = tt
each_keyless R (p ∷ tokens) = (tells_keyless R p.sharing p.id (Some p.value), each_keyless R tokens)

pub each_laws : (R : RattleType) (tokens : List (TokenView R.Denot)) → ShrLaws (said (tell_each R tokens))
each_laws R tokens = record {
  contraction = λ M 𝓤 𝓛 κ. each_dup 𝓛 R tokens;
  mono = λ M 𝓤 𝓛 κ' κ. snd∗ 𝓤 (sem 𝓛 (before κ' κ)) (sem 𝓛 (tell_each R tokens));
}
