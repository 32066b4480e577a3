-- How what is told of ids is made, told, had twice and compared. Assumes `Logic`.
use Rattle.std.proofs.Common.{◌≡◌, ℕ, suc, ◌+◌, ◌*◌, ◌/◌, ◌%◌, ◌<◌, ◌≤◌, List, [], ◌∷◌, length, refl, sym, ap, subst, arith}
use Rattle.std.proofs.Common.{Option, None, Some, IsSome, zero, true, false, ◌≢◌, get_or}
use Rattle.std.proofs.lemmas.Bool.{eqb-true, ne_eqb}
use Rattle.std.specs.Coded.{coded_option}
use mathlib.Mathlib.Data.Part.{Part, Dom, not-none-Dom, ◌∈◌}
use seplogic.Ra.Ura.{Ura}
use seplogic.Ra.Instances.{OneShot}
use seplogic.Ra.Instances.OneShot.{pending, shot, pending-op, Idem-shot, OpDef-shot_iff, pending-fp_upd₁}
use base.Stored.{Gv, Gv-set}
use base.Logic.{SProp, ex, guard, emp, upd, upd_i, via, id⊢, guard_i, guard_e, ex_e, ex_i, upd_mono}
use base.Fml.{GName, Fml, ftrue}
use base.Shift.{Keyless}
use types.Logic.{Logic, sem}
use denote.Steps.{nothing}
use types.Kit.{‵, raw, ◌⊛◌, given, settle, suffices, frame, by, check, learn, move, keep, split, fsplit, fjoin, rewrite}
use types.Kit.{use0, use1, use2, qed, done, ◌$◌, ◌∵◌, ! }
use types.Keyed.{entry, entries_from, entry_cut, entry_glue, entry_set, entries_take, entry_keyless, keyed, from}
use denote.RattleType.{RattleType}
use Rattle.thread_local_ids.specs.Rights.{slot_key, note_key, slots_own}
use Rattle.thread_local_ids.specs.Told.{once, untold, told}
use Rattle.thread_local_ids.specs.Sharings.{Sharing, First, Later, first_of, later_of, sharing_of}
use Rattle.thread_local_ids.specs.Told.{untold_of, told_of, noted_of, untold_in, told_in, noted_in}
use Rattle.thread_local_ids.specs.Sharings.{is_first, belongs, Belongs}
use Rattle.thread_local_ids.specs.Told.{tells, told_or_untold, all_tell, all_told_or_untold}
use Rattle.thread_local_ids.specs.Blank.{IsBlank}
use Rattle.thread_local_ids.proofs.RightElements.{right_keyless, slots_cut}
use Rattle.thread_local_ids.proofs.NotedElements.{at_twice, notes_at, never_at, at_alike, at_keyless}
use Rattle.thread_local_base.proofs.Signs.{signs}

-- where there is no sharing none is seen
unshared : IsSome {T = ℕ} None → ⊥
unshared named = cc

-- ---- a sharing and its number
pub first_is : (table : ℕ) → sharing_of (first_of table) ≡ First table
first_is table =
    let odd : (2 * table + 1) % 2 ≡ 1 = omega arith in
    let half : (2 * table + 1) / 2 ≡ table = omega arith in
    rw odd (rw half refl)

pub later_is : (γ : GName) → sharing_of (later_of γ) ≡ Later γ
later_is γ =
    let even : (2 * γ) % 2 ≡ 0 = omega arith in
    let half : (2 * γ) / 2 ≡ γ = omega arith in
    rw even (rw half refl)

-- a later sharing is the first of no table
pub later_belongs : (γ : GName) (table : ℕ) → Belongs (Some (later_of γ)) table
later_belongs γ table = subst (λ (s : Sharing). belongs s table) (sym (later_is γ)) tt

pub later_not : (γ : GName) (table : ℕ) → is_first (Some (later_of γ)) table ≡ false
later_not γ table = ne_eqb (later_of γ) (first_of table) (λ e. absurd (omega (arith, e)))

pub first_belongs : (table : ℕ) → Belongs (Some (first_of table)) table
first_belongs table = subst (λ (s : Sharing). belongs s table) (sym (first_is table)) refl

pub first_only : (sharing : Option ℕ) (table : ℕ) → is_first sharing table ≡ true → sharing ≡ Some (first_of table)
first_only None table is = cc
first_only (Some n) table is = ap Some (eqb-true n (first_of table) is)

module _ {M : Type 1} {𝓤 : Ura M} (𝓛 : Logic 𝓤) where
  open signs 𝓛 use {⟦◌⟧, ◌⊢◌, ◌∗◌}

  infix 26 ◌⊢◌
  infixr 35 ◌∗◌
  -- ---- under a name
  -- what is told of an id can be had twice
  told_twice : (γ : GName) (id : ℕ) (g : Gv) → ⟦ told γ id g ⟧ ⊢ ⟦ told γ id g ⟧ ∗ ⟦ told γ id g ⟧
  unfolding told
  told_twice γ id g = entry_cut once 𝓛 γ id (shot g) (shot g) (shot g) (Idem-shot Gv-set g)

  -- whoever may tell something of an id tells it
  tell : (γ : GName) (id : ℕ) (g : Gv) → ⟦ untold γ id ⟧ ⊢ upd 𝓤 ⟦ told γ id g ⟧
  unfolding untold told
  tell γ id g =
      let B : OneShot Gv → Type 0 = λ b. b ≡ shot g in
      let F : OneShot Gv → SProp 𝓤 = λ b. guard 𝓤 (B b) (sem 𝓛 (entry once γ id b)) in
      via 𝓤 (upd 𝓤 (ex 𝓤 F)) (entry_set once 𝓛 γ id pending B ∣ (shot g, refl) ∣₁
      (λ f d. ∣ (shot g, refl, pending-fp_upd₁ Gv-set (shot g) f d) ∣₁))
      (upd_mono 𝓤 (ex_e 𝓤 F (λ b.
      guard_e 𝓤 (B b) (sem 𝓛 (entry once γ id b)) (λ e.
      subst (λ (x : OneShot Gv). sem 𝓛 (entry once γ id x) ⊢ sem 𝓛 (entry once γ id (shot g)))
      (sym e) (id⊢ 𝓤 _)))))

  -- what is told twice of an id is the same
  told_alike : (γ : GName) (id : ℕ) (g h : Gv)
      → ⟦ told γ id g ⟧ ∗ ⟦ told γ id h ⟧ ⊢ guard 𝓤 (g ≡ h) (⟦ told γ id g ⟧ ∗ ⟦ told γ id h ⟧)
  unfolding told
  told_alike γ id g h =
      let F : OneShot Gv → SProp 𝓤 = λ c. guard 𝓤 (c ∈ once.op (shot g) (shot h)) (sem 𝓛 (entry once γ id c)) in
      let Both : SProp 𝓤 = ⟦ entry once γ id (shot g) ⟧ ∗ ⟦ entry once γ id (shot h) ⟧ in
      via 𝓤 (ex 𝓤 F) (entry_glue once 𝓛 γ id (shot g) (shot h)) (ex_e 𝓤 F (λ c.
      guard_e 𝓤 (c ∈ once.op (shot g) (shot h)) (sem 𝓛 (entry once γ id c)) (λ m.
      via 𝓤 Both (entry_cut once 𝓛 γ id (shot g) (shot h) c m) (guard_i 𝓤 (g ≡ h) Both ((OpDef-shot_iff Gv-set).0 m.0)))))

  -- nothing is told of an id of which it may still be told
  untold_once : (γ : GName) (id : ℕ) (x : OneShot Gv) (Z : SProp 𝓤) → ⟦ untold γ id ⟧ ∗ sem 𝓛 (entry once γ id x) ⊢ Z
  unfolding untold
  untold_once γ id x Z = let F : OneShot Gv → SProp 𝓤 = λ c. guard 𝓤 (c ∈ once.op pending x) (sem 𝓛 (entry once γ id c)) in
      via 𝓤 (ex 𝓤 F) (entry_glue once 𝓛 γ id pending x) (ex_e 𝓤 F (λ c.
      guard_e 𝓤 (c ∈ once.op pending x) (sem 𝓛 (entry once γ id c)) (λ m.
      absurd (not-none-Dom (OneShot Gv) (subst (λ (p : Part {0, 0} (OneShot Gv)). Dom p) (pending-op Gv-set x) m.0)))))

  untold_no : (γ : GName) (id : ℕ) (g : Gv) (Z : SProp 𝓤) → ⟦ untold γ id ⟧ ∗ ⟦ told γ id g ⟧ ⊢ Z
  unfolding told
  untold_no γ id g Z = untold_once γ id (shot g) Z

  -- ---- of a sharing
  told_of_dup : (sharing : Sharing) (id : ℕ) (g : Gv)
      → ⟦ told_of sharing id g ⟧ ⊢ ⟦ told_of sharing id g ⟧ ∗ ⟦ told_of sharing id g ⟧
  told_of_dup (First table) id g = at_twice 𝓛 (slot_key id) table id g
  told_of_dup (Later γ) id g = told_twice γ id g

  noted_of_dup : (sharing : Sharing) (id : ℕ) (g : Gv)
      → ⟦ noted_of sharing id g ⟧ ⊢ ⟦ noted_of sharing id g ⟧ ∗ ⟦ noted_of sharing id g ⟧
  noted_of_dup (First table) id g = at_twice 𝓛 (note_key id) table id g
  noted_of_dup (Later γ) id g = qed 𝓛 (‵ ftrue ∷ []) ∵ nothing ! $ done !

  tells_of : (sharing : Sharing) (id : ℕ) (g : Gv) → ⟦ untold_of sharing id ⟧ ⊢ upd 𝓤 ⟦ told_of sharing id g ⟧
  tells_of (First table) id g = notes_at 𝓛 (slot_key id) table id g
  tells_of (Later γ) id g = tell γ id g

  alike_of : (sharing : Sharing) (id : ℕ) (g h : Gv)
      → ⟦ told_of sharing id g ⟧ ∗ ⟦ told_of sharing id h ⟧
      ⊢ guard 𝓤 (g ≡ h) (⟦ told_of sharing id g ⟧ ∗ ⟦ told_of sharing id h ⟧)
  alike_of (First table) id g h = at_alike 𝓛 (slot_key id) table id g h
  alike_of (Later γ) id g h = told_alike γ id g h

  never_of : (sharing : Sharing) (id : ℕ) (g : Gv) (Z : SProp 𝓤) → ⟦ untold_of sharing id ⟧ ∗ ⟦ told_of sharing id g ⟧ ⊢ Z
  never_of (First table) id g Z = never_at 𝓛 (slot_key id) table id g Z
  never_of (Later γ) id g Z = untold_no γ id g Z

  -- ---- of a sharing by its number, or of none
  pub told_dup : (sharing : Option ℕ) (id : ℕ) (g : Gv)
      → ⟦ told_in sharing id g ⟧ ⊢ ⟦ told_in sharing id g ⟧ ∗ ⟦ told_in sharing id g ⟧
  told_dup None id g = qed 𝓛 (‵ ftrue ∷ []) ∵ nothing ! $ done !
  told_dup (Some n) id g = told_of_dup (sharing_of n) id g

  pub noted_dup : (sharing : Option ℕ) (id : ℕ) (g : Gv)
      → ⟦ noted_in sharing id g ⟧ ⊢ ⟦ noted_in sharing id g ⟧ ∗ ⟦ noted_in sharing id g ⟧
  noted_dup None id g = qed 𝓛 (‵ ftrue ∷ []) ∵ nothing ! $ done !
  noted_dup (Some n) id g = noted_of_dup (sharing_of n) id g

  pub tells_it : (sharing : Option ℕ) (id : ℕ) (g : Gv) → ⟦ untold_in sharing id ⟧ ⊢ upd 𝓤 ⟦ told_in sharing id g ⟧
  tells_it None id g = upd_i 𝓤 ⟦ ftrue ⟧
  tells_it (Some n) id g = tells_of (sharing_of n) id g

  alike : (sharing : Option ℕ) → IsSome sharing → (id : ℕ) (g h : Gv)
      → ⟦ told_in sharing id g ⟧ ∗ ⟦ told_in sharing id h ⟧
      ⊢ guard 𝓤 (g ≡ h) (⟦ told_in sharing id g ⟧ ∗ ⟦ told_in sharing id h ⟧)
  alike None named id g h = absurd (unshared named)
  alike (Some n) named id g h = alike_of (sharing_of n) id g h

  pub never_told : (sharing : Option ℕ) → IsSome sharing → (id : ℕ) (g : Gv) (Z : SProp 𝓤)
      → ⟦ untold_in sharing id ⟧ ∗ ⟦ told_in sharing id g ⟧ ⊢ Z
  never_told None named id g Z = absurd (unshared named)
  never_told (Some n) named id g Z = never_of (sharing_of n) id g Z

  module _ (R : RattleType) where
    abbrev V : Type 0
    V = Option R.Denot

    abbrev code_of : V → Gv
    code_of = (coded_option R.coded).code

    -- what is told of an id, in its parts
    abbrev note_with : Option ℕ → ℕ → V → Fml
    note_with sharing id None = ftrue
    note_with sharing id (Some x) = noted_in sharing id (R.coded.code x)

    apart : (sharing : Option ℕ) (id : ℕ) (v : V)
        → ⟦ tells R sharing id v ⟧ ⊢ ⟦ told_in sharing id (code_of v) ⟧ ∗ ⟦ note_with sharing id v ⟧
    apart sharing id None = qed 𝓛 (‵ (tells R sharing id None) ∷ []) ∵ nothing ! $ move ! (1 ∷ []) $ done !
    apart sharing id (Some x) = qed 𝓛 (‵ (tells R sharing id (Some x)) ∷ []) ∵ fsplit ! $ done !

    together : (sharing : Option ℕ) (id : ℕ) (v : V)
        → ⟦ told_in sharing id (code_of v) ⟧ ∗ ⟦ note_with sharing id v ⟧ ⊢ ⟦ tells R sharing id v ⟧
    together sharing id None = qed 𝓛 (‵ (tells R sharing id None) ∷ ‵ ftrue ∷ []) ∵ keep ! (0 ∷ []) $ done !
    together sharing id (Some x) =
        qed 𝓛 (‵ (told_in sharing id (code_of (Some x))) ∷ ‵ (noted_in sharing id (R.coded.code x)) ∷ []) ∵ fjoin ! $ done !

    -- what is told can be had twice
    pub tells_dup : (sharing : Option ℕ) (id : ℕ) (v : V)
        → ⟦ tells R sharing id v ⟧ ⊢ ⟦ tells R sharing id v ⟧ ∗ ⟦ tells R sharing id v ⟧
    tells_dup sharing id None = told_dup sharing id (code_of None)
    tells_dup sharing id (Some x) =
        let g : Gv = code_of (Some x) in
        let plain : Gv = R.coded.code x in
        qed 𝓛 (‵ (tells R sharing id (Some x)) ∷ []) ∵ fsplit ! $
        use1 𝓛 (‵ (told_in sharing id g) ⊛ ‵ (told_in sharing id g)) (told_dup sharing id g) $ split ! $ move ! (2 ∷ []) $
        use1 𝓛 (‵ (noted_in sharing id plain) ⊛ ‵ (noted_in sharing id plain)) (noted_dup sharing id plain) $ split ! $
        move ! (2 ∷ 0 ∷ []) $ fjoin ! $ move ! (2 ∷ 1 ∷ []) $ fjoin ! $ done !

    -- whoever may tell something of an id tells that nothing was published
    pub tells_none : (sharing : Option ℕ) (id : ℕ) → ⟦ untold_in sharing id ⟧ ⊢ upd 𝓤 ⟦ tells R sharing id None ⟧
    tells_none sharing id = tells_it sharing id (code_of None)

    -- or, where it is noted, that a value was
    pub tells_some : (sharing : Option ℕ) (id : ℕ) (x : R.Denot)
        → ⟦ untold_in sharing id ⟧ ∗ ⟦ noted_in sharing id (R.coded.code x) ⟧
        ⊢ upd 𝓤 ⟦ tells R sharing id (Some x) ⟧
    tells_some sharing id x =
        let g : Gv = code_of (Some x) in
        let Z : SProp 𝓤 = ⟦ tells R sharing id (Some x) ⟧ in
        qed 𝓛 (‵ (untold_in sharing id) ∷ ‵ (noted_in sharing id (R.coded.code x)) ∷ []) ∵
        use1 𝓛 (raw (upd 𝓤 ⟦ told_in sharing id g ⟧)) (tells_it sharing id g) $
        settle 𝓛 Z (‵ (told_in sharing id g)) $ suffices ! _ (upd_i 𝓤 Z) $ fjoin ! $ done !

    -- two that are told of one id are the same
    pub tells_alike : (sharing : Option ℕ) → IsSome sharing → (id : ℕ) (v w : V)
        → ⟦ tells R sharing id v ⟧ ∗ ⟦ tells R sharing id w ⟧
        ⊢ guard 𝓤 (v ≡ w) (⟦ tells R sharing id v ⟧ ∗ ⟦ tells R sharing id w ⟧)
    tells_alike sharing named id v w =
        let A : Fml = told_in sharing id (code_of v) in
        let B : Fml = told_in sharing id (code_of w) in
        qed 𝓛 (‵ (tells R sharing id v) ∷ ‵ (tells R sharing id w) ∷ []) ∵
        use1 𝓛 (‵ A ⊛ ‵ (note_with sharing id v)) (apart sharing id v) $ split ! $ move ! (2 ∷ []) $
        use1 𝓛 (‵ B ⊛ ‵ (note_with sharing id w)) (apart sharing id w) $ split ! $ move ! (2 ∷ 0 ∷ []) $
        use2 𝓛 (given (code_of v ≡ code_of w) (‵ A ⊛ ‵ B)) (alike sharing named id (code_of v) (code_of w)) $
        learn ! (λ e. check ! ((coded_option R.coded).inj v w e) $ split ! $
        -- [the two that are told; what is noted of w; of v]
        move ! (0 ∷ 3 ∷ []) $ use2 𝓛 (‵ (tells R sharing id v)) (together sharing id v) $
        move ! (1 ∷ 2 ∷ []) $ use2 𝓛 (‵ (tells R sharing id w)) (together sharing id w) $ move ! (1 ∷ 0 ∷ []) $ done !)

    -- a slot holds what is told of its id
    pub telling_alike : (sharing : Option ℕ) → IsSome sharing → (id : ℕ) (v : V) (x : R.Denot)
        → ⟦ told_or_untold R sharing id v ⟧ ∗ ⟦ tells R sharing id (Some x) ⟧
        ⊢ guard 𝓤 (v ≡ Some x) (⟦ told_or_untold R sharing id v ⟧ ∗ ⟦ tells R sharing id (Some x) ⟧)
    telling_alike sharing named id None x =
        qed 𝓛 (‵ (untold_in sharing id) ∷ ‵ (tells R sharing id (Some x)) ∷ []) ∵ move ! (1 ∷ []) $ fsplit ! $
        keep ! (2 ∷ 0 ∷ []) $ by ! (never_told sharing named id (code_of (Some x)) _)
    telling_alike sharing named id (Some y) x = tells_alike sharing named id (Some y) (Some x)

    -- at the end of a sharing it is told what each slot was published with
    ends : (sharing : Option ℕ) (id : ℕ) (v : V) → ⟦ told_or_untold R sharing id v ⟧ ⊢ upd 𝓤 ⟦ tells R sharing id v ⟧
    ends sharing id None = tells_none sharing id
    ends sharing id (Some x) = upd_i 𝓤 ⟦ tells R sharing id (Some x) ⟧

    pub all_end : (sharing : Option ℕ) (id : ℕ) (slots : List V)
        → ⟦ all_told_or_untold R sharing id slots ⟧ ⊢ upd 𝓤 ⟦ all_tell R sharing id slots ⟧
    all_end sharing id [] = upd_i 𝓤 ⟦ ftrue ⟧
    all_end sharing id (v ∷ slots) =
        let Z : SProp 𝓤 = ⟦ all_tell R sharing id (v ∷ slots) ⟧ in
        qed 𝓛 (‵ (all_told_or_untold R sharing id (v ∷ slots)) ∷ []) ∵ fsplit ! $
        use1 𝓛 (raw (upd 𝓤 ⟦ tells R sharing id v ⟧)) (ends sharing id v) $
        settle 𝓛 Z (‵ (tells R sharing id v)) $ move ! (1 ∷ []) $
        use1 𝓛 (raw (upd 𝓤 ⟦ all_tell R sharing (suc id) slots ⟧))
        (all_end sharing (suc id) slots) $
        settle 𝓛 Z (‵ (all_tell R sharing (suc id) slots)) $
        suffices ! _ (upd_i 𝓤 Z) $ move ! (1 ∷ 0 ∷ []) $ fjoin ! $ done !

    -- what is told of all can be had twice
    pub all_dup : (sharing : Option ℕ) (id : ℕ) (slots : List V)
        → ⟦ all_tell R sharing id slots ⟧
        ⊢ ⟦ all_tell R sharing id slots ⟧ ∗ ⟦ all_tell R sharing id slots ⟧
    all_dup sharing id [] = qed 𝓛 (‵ ftrue ∷ []) ∵ nothing ! $ done !
    all_dup sharing id (v ∷ slots) =
        let One : Fml = tells R sharing id v in
        let Rest : Fml = all_tell R sharing (suc id) slots in
        qed 𝓛 (‵ (all_tell R sharing id (v ∷ slots)) ∷ []) ∵ fsplit ! $
        use1 𝓛 (‵ One ⊛ ‵ One) (tells_dup sharing id v) $ split ! $
        move ! (2 ∷ []) $ use1 𝓛 (‵ Rest ⊛ ‵ Rest) (all_dup sharing (suc id) slots) $ split ! $
        move ! (2 ∷ 0 ∷ []) $ fjoin ! $ frame ! $ move ! (1 ∷ 0 ∷ []) $ fjoin ! $ done !

    -- where there is no sharing, nothing has to be told
    pub none_telling : (id : ℕ) (slots : List V) → emp 𝓤 ⊢ ⟦ all_told_or_untold R None id slots ⟧
    none_telling id [] = qed 𝓛 [] ∵ nothing ! $ done !
    none_telling id (None ∷ slots) =
        qed 𝓛 [] ∵ use0 𝓛 (‵ (all_told_or_untold R None (suc id) slots)) (none_telling (suc id) slots) $
        nothing ! $ fjoin ! $ done !
    none_telling id (Some x ∷ slots) =
        qed 𝓛 [] ∵ use0 𝓛 (‵ (all_told_or_untold R None (suc id) slots)) (none_telling (suc id) slots) $
        nothing ! $ nothing ! $ fjoin ! $ fjoin ! $ done !

    -- ---- a new sharing
    -- what was told of an id is what its slot was published with
    pub told_at : (sharing : Option ℕ) (id i : ℕ) (slots : List V) → i < length slots
        → ⟦ all_tell R sharing id slots ⟧ ⊢ ⟦ tells R sharing (i + id) (get_or slots i None) ⟧
    told_at sharing id i [] near = absurd (omega arith)
    told_at sharing id zero (v ∷ slots) near =
        let same : id ≡ 0 + id = omega arith in
        qed 𝓛 (‵ (all_tell R sharing id (v ∷ slots)) ∷ []) ∵ fsplit ! $ keep ! (0 ∷ []) $
        rewrite ! 0 (λ (k : ℕ). ‵ (tells R sharing k v)) same refl $ done !
    told_at sharing id (suc i) (v ∷ slots) near =
        let same : i + suc id ≡ suc i + id = omega arith in
        qed 𝓛 (‵ (all_tell R sharing id (v ∷ slots)) ∷ []) ∵ fsplit ! $ keep ! (1 ∷ []) $
        use1 𝓛 (‵ (tells R sharing (i + suc id) (get_or slots i None)))
        (told_at sharing (suc id) i slots (omega arith)) $
        rewrite ! 0 (λ (k : ℕ). ‵ (tells R sharing k (get_or slots i None))) same refl $ done !

  -- what a sharing of later may still tell, from an id on
  abbrev pub source : GName → ℕ → Fml
  source γ id = entries_from once γ id (λ _. pending)

  -- a name whose sharing is another than this, as is that of each name behind it
  past : Option ℕ → ℕ
  past None = 0
  past (Some n) = suc n

  later_is_new : (old : Option ℕ) (γ : GName) → past old ≤ γ → Some (later_of γ) ≢ old
  unfolding past
  later_is_new None γ low e = cc
  later_is_new (Some n) γ low e =
      let same : 2 * γ ≡ n = ap (λ (o : Option ℕ). elim o [ None ↦ 2 * γ | Some z ↦ z ]) e in
      absurd (omega arith)

  abbrev pub New : Option ℕ → GName → SProp 𝓤
  New old γ = guard 𝓤 (Some (later_of γ) ≢ old) ⟦ source γ 0 ⟧

  pub source_new : (old : Option ℕ) → emp 𝓤 ⊢ upd 𝓤 (ex 𝓤 (New old))
  unfolding entries_from
  source_new old =
      let F : GName → SProp 𝓤 = λ γ. guard 𝓤 (past old ≤ γ) ⟦ source γ 0 ⟧ in
      via 𝓤 (upd 𝓤 (ex 𝓤 F))
      (𝓛.algebras.own_fresh (keyed once) (past old) (λ _. from once 0 (λ _. pending)))
      (upd_mono 𝓤 (ex_e 𝓤 F (λ γ.
      guard_e 𝓤 (past old ≤ γ) ⟦ source γ 0 ⟧ (λ low.
      via 𝓤 (New old γ) (guard_i 𝓤 (Some (later_of γ) ≢ old) ⟦ source γ 0 ⟧ (later_is_new old γ low))
      (ex_i 𝓤 (New old) γ)))))

  module _ (R : RattleType) (γ : GName) where
    abbrev Here : Option ℕ
    Here = Some (later_of γ)

    one_drawn : (id : ℕ) (v : Option R.Denot) → ⟦ untold_in Here id ⟧ ⊢ upd 𝓤 ⟦ told_or_untold R Here id v ⟧
    one_drawn id None = upd_i 𝓤 ⟦ untold_in Here id ⟧
    one_drawn id (Some x) =
        let g : Gv = R.coded.code x in
        qed 𝓛 (‵ (untold_in Here id) ∷ []) ∵ nothing ! $
        rewrite ! 0 (λ (s : Sharing). ‵ (noted_of s id g)) (sym (later_is γ)) refl $ move ! (1 ∷ 0 ∷ []) $
        by ! (tells_some R Here id x)

    source_cut : (id : ℕ) → ⟦ source γ id ⟧ ⊢ ⟦ untold γ id ⟧ ∗ ⟦ source γ (suc id) ⟧
    unfolding untold
    source_cut id = entries_take once 𝓛 γ id (λ _. pending)

    source_off : (id : ℕ) → ⟦ source γ id ⟧ ⊢ ⟦ untold_in Here id ⟧ ∗ ⟦ source γ (suc id) ⟧
    source_off id =
        qed 𝓛 (‵ (source γ id) ∷ []) ∵
        use1 𝓛 (‵ (untold γ id) ⊛ ‵ (source γ (suc id))) (source_cut id) $ split ! $
        rewrite ! 0 (λ (s : Sharing). ‵ (untold_of s id)) (sym (later_is γ)) refl $ done !

    -- the slots from an id on get what lies with them
    pub all_drawn : (id next : ℕ) (slots : List (Option R.Denot)) → next ≡ length slots + id
        → ⟦ source γ id ⟧ ⊢ upd 𝓤 (⟦ all_told_or_untold R (Some (later_of γ)) id slots ⟧ ∗ ⟦ source γ next ⟧)
    all_drawn id next [] is =
        let same : id ≡ next = omega arith in
        let Z : SProp 𝓤 = ⟦ ftrue ⟧ ∗ ⟦ source γ next ⟧ in
        qed 𝓛 (‵ (source γ id) ∷ []) ∵ suffices ! _ (upd_i 𝓤 Z) $
        rewrite ! 0 (λ (k : ℕ). ‵ (source γ k)) same refl $ nothing ! $ done !
    all_drawn id next (v ∷ slots) is =
        let Z : SProp 𝓤 = ⟦ all_told_or_untold R Here id (v ∷ slots) ⟧ ∗ ⟦ source γ next ⟧ in
        qed 𝓛 (‵ (source γ id) ∷ []) ∵
        use1 𝓛 (‵ (untold_in Here id) ⊛ ‵ (source γ (suc id))) (source_off id) $ split ! $
        use1 𝓛 (raw (upd 𝓤 ⟦ told_or_untold R Here id v ⟧)) (one_drawn id v) $
        settle 𝓛 Z (‵ (told_or_untold R Here id v)) $ move ! (1 ∷ []) $
        use1 𝓛 (raw (upd 𝓤 (⟦ all_told_or_untold R Here (suc id) slots ⟧ ∗ ⟦ source γ next ⟧)))
        (all_drawn (suc id) next slots (omega arith)) $
        settle 𝓛 Z (‵ (all_told_or_untold R Here (suc id) slots) ⊛ ‵ (source γ next)) $
        suffices ! _ (upd_i 𝓤 Z) $ split ! $ move ! (2 ∷ 0 ∷ []) $ fjoin ! $ done !

  module _ (R : RattleType) (table : ℕ) where
    slots_off : (id : ℕ) → ⟦ slots_own table id ⟧ ⊢ ⟦ untold_in (Some (first_of table)) id ⟧ ∗ ⟦ slots_own table (suc id) ⟧
    slots_off id =
        qed 𝓛 (‵ (slots_own table id) ∷ []) ∵
        use1 𝓛 (‵ (untold_of (First table) id) ⊛ ‵ (slots_own table (suc id))) (slots_cut 𝓛 table id) $ split ! $
        rewrite ! 0 (λ (s : Sharing). ‵ (untold_of s id)) (sym (first_is table)) refl $ done !

    -- in a table's first sharing slots without a value get what lies with them
    pub first_drawn : (id next : ℕ) (slots : List (Option R.Denot)) → IsBlank slots → next ≡ length slots + id
        → ⟦ slots_own table id ⟧ ⊢ ⟦ all_told_or_untold R (Some (first_of table)) id slots ⟧ ∗ ⟦ slots_own table next ⟧
    first_drawn id next [] blank is =
        let same : id ≡ next = omega arith in
        qed 𝓛 (‵ (slots_own table id) ∷ []) ∵
        rewrite ! 0 (λ (k : ℕ). ‵ (slots_own table k)) same refl $ nothing ! $ done !
    first_drawn id next (None ∷ slots) blank is =
        let Here : Option ℕ = Some (first_of table) in
        qed 𝓛 (‵ (slots_own table id) ∷ []) ∵
        use1 𝓛 (‵ (untold_in Here id) ⊛ ‵ (slots_own table (suc id))) (slots_off id) $ split ! $ move ! (1 ∷ []) $
        use1 𝓛 (‵ (all_told_or_untold R Here (suc id) slots) ⊛ ‵ (slots_own table next))
        (first_drawn (suc id) next slots blank (omega arith)) $
        split ! $ move ! (2 ∷ 0 ∷ []) $ fjoin ! $ done !
    first_drawn id next (Some x ∷ slots) blank is = absurd blank

untold_of_keyless : (sharing : Sharing) (id : ℕ) → Keyless (untold_of sharing id)
unfolding untold
untold_of_keyless (First table) id = right_keyless table (slot_key id)
untold_of_keyless (Later γ) id = entry_keyless once γ id pending

told_of_keyless : (sharing : Sharing) (id : ℕ) (g : Gv) → Keyless (told_of sharing id g)
unfolding told
told_of_keyless (First table) id g = at_keyless (slot_key id) table id g
told_of_keyless (Later γ) id g = entry_keyless once γ id (shot g)

noted_of_keyless : (sharing : Sharing) (id : ℕ) (g : Gv) → Keyless (noted_of sharing id g)
noted_of_keyless (First table) id g = at_keyless (note_key id) table id g
noted_of_keyless (Later γ) id g = tt

pub untold_keyless : (sharing : Option ℕ) (id : ℕ) → Keyless (untold_in sharing id)
untold_keyless None id = tt
untold_keyless (Some n) id = untold_of_keyless (sharing_of n) id

pub told_keyless : (sharing : Option ℕ) (id : ℕ) (g : Gv) → Keyless (told_in sharing id g)
told_keyless None id g = tt
told_keyless (Some n) id g = told_of_keyless (sharing_of n) id g

pub noted_in_keyless : (sharing : Option ℕ) (id : ℕ) (g : Gv) → Keyless (noted_in sharing id g)
noted_in_keyless None id g = tt
noted_in_keyless (Some n) id g = noted_of_keyless (sharing_of n) id g

module _ (R : RattleType) (sharing : Option ℕ) where
  pub tells_keyless : (id : ℕ) (v : Option R.Denot) → Keyless (tells R sharing id v)
  tells_keyless id None = told_keyless sharing id ((coded_option R.coded).code None)
  tells_keyless id (Some x) =
      (told_keyless sharing id ((coded_option R.coded).code (Some x)), noted_in_keyless sharing id (R.coded.code x))

  pub told_or_untold_keyless : (id : ℕ) (v : Option R.Denot) → Keyless (told_or_untold R sharing id v)
  told_or_untold_keyless id None = untold_keyless sharing id
  told_or_untold_keyless id (Some x) = tells_keyless id (Some x)

  pub all_telling_keyless : (id : ℕ) (slots : List (Option R.Denot)) → Keyless (all_told_or_untold R sharing id slots)
  all_telling_keyless id [] = tt
  all_telling_keyless id (v ∷ slots) = (told_or_untold_keyless id v, all_telling_keyless (suc id) slots)
