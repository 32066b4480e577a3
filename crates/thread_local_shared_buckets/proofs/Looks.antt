-- A thread that doesn't claim a slot reaches its value by what is told of the slot's id, as a `&` to
-- the value names no thread. Assumes `Logic`.
use Rattle.std.proofs.Common.{IsSome, ◌≡◌, [], ◌∷◌}
use Rattle.std.proofs.Common.{refl, Option, Some, None}
use seplogic.Ra.Ura.{Ura}
use base.Logic.{SProp, ex, all_e}
use base.Fml.{Lft, Share, Fml, fbor, fres}
use types.Logic.{Logic}
use types.Kit.{‵, ◌⊛◌, given, learn, fsplit, use2, show, rewrite, ◌$◌, ◌∵◌, !, qed, move, drop, split}
use types.Kit.{fsplit3, fjoin, fjoin3, use1, done}
use denote.RattleType.{RattleType}
use denote.Memory.{shared_of}
use denote.SharingLaws.{contraction}
use denote.Param.Laws.{Laws}
use Rattle.thread_local_base.specs.Judged.{Shareable}
use Rattle.thread_local_shared_buckets.specs.Shared.{name_at, Who, block_code}
use Rattle.thread_local_shared_buckets.specs.Shared.{shared_value, opened, bucket_invariant}
use Rattle.thread_local_shared_buckets.proofs.Rested.{opens_by}
use Rattle.thread_local_shared_buckets.proofs.SlotSteps.{Stays, Had, Left, moved}
use Rattle.thread_local_ids.specs.Told.{tells, told_or_untold}
use Rattle.thread_local_ids.proofs.ToldElements.{tells_alike, telling_alike}
use Rattle.thread_local_base.proofs.Signs.{signs}
use Rattle.std.proofs.lemmas.Option.{same_Some}
use Rattle.thread_local_shared_buckets.proofs.Inside.{SlotAt}

module _ {M : Type 1} {𝓤 : Ura M} (𝓛 : Logic 𝓤) (R : RattleType) (L : Laws R) (j : Shareable R)
    (slot : SlotAt R) where
  open slot use {d, t, wb, wo, s, i, k, e, b, low, at_k, at_e, at_b}
  open 𝓛 use {A}
  open signs 𝓛 use {⟦◌⟧, ◌⊢◌, ◌∗◌}

  infix 26 ◌⊢◌
  infixr 35 ◌∗◌
  -- a slot of whose id it is told that it was published with a value lends that value
  module _ (named : IsSome d.sharing) (x : R.Denot) where
    abbrev pub Told : Fml
    Told = tells R d.sharing k (Some x)

    abbrev pub Lent : Fml
    Lent = shared_value R t b s.block_life e x

    abbrev Stay : Option R.Denot → Fml
    Stay = Stays 𝓛 R slot

    abbrev Have : Option R.Denot → Who → Fml
    Have = Had 𝓛 R slot

    abbrev Looked : Option R.Denot → Who → SProp 𝓤
    Looked v = Left 𝓛 R slot v ⟦ Lent ⟧

    found : (v : Option R.Denot) (w : Who) → ⟦ Stay v ⟧ ∗ ⟦ Have v w ⟧ ∗ ⟦ Told ⟧ ⊢ ex 𝓤 (Looked v)
    found None w = qed 𝓛 (‵ (Stay None) ∷ ‵ (Have None w) ∷ ‵ Told ∷ []) ∵ fsplit ! $ move ! (1 ∷ 3 ∷ []) $
        use2 𝓛 (given (None ≡ Some x) (‵ (told_or_untold R d.sharing k None) ⊛ ‵ Told))
        (telling_alike 𝓛 R d.sharing named k None x) $
        learn ! (λ none. absurd (cc))
    found (Some y) w =
        let S : Lft → Fml = shared_of R y b e in
        let shared : R.Denot → Fml = shared_value R t b s.block_life e in
        qed 𝓛 (‵ (Stay (Some y)) ∷ ‵ (Have (Some y) w) ∷ ‵ Told ∷ []) ∵ fsplit3 ! $
        move ! (1 ∷ []) $ fsplit ! $ move ! (1 ∷ 5 ∷ []) $
        use2 𝓛 (given (Some y ≡ Some x) (‵ (tells R d.sharing k (Some y)) ⊛ ‵ Told))
        (tells_alike 𝓛 R d.sharing named k (Some y) (Some x)) $
        learn ! (λ same. split ! $
        -- [what is told, twice; the pin; the token; opened; who has it]
        move ! (2 ∷ 0 ∷ []) $ fjoin ! $ move ! (1 ∷ []) $ drop ! $ move ! (2 ∷ []) $
        use1 𝓛 (‵ (shared y)) (all_e 𝓤 (λ (_ : Shareable R). ⟦ shared y ⟧) j) $
        use1 𝓛 (‵ (shared y) ⊛ ‵ (shared y))
        (contraction 𝓛 S (L.shr_laws y b e) (s.block_life ∷ t.life)) $
        split ! $
        use1 𝓛 (‵ (opened R t b s.block_life e y))
        (opens_by 𝓛 t R L b s.block_life e (name_at s.names i) y) $
        -- [opened; what is shared; what is published; the token; who has it]
        move ! (3 ∷ 2 ∷ 0 ∷ []) $ fjoin3 ! $ move ! (0 ∷ 2 ∷ 1 ∷ []) $
        rewrite ! 2 (λ (z : R.Denot). ‵ (shared z)) (same_Some y x same) refl $
        show ! (Looked (Some y)) w $ done !)

    pub finds : (q : Share)
        → A.inv (fbor t.life (bucket_invariant R d t wb wo)) ∗ A.lft t.life q
        ∗ ⟦ fres t.which (block_code s) ⟧ ∗ ⟦ Told ⟧
        ⊢ 𝓛.H.⇛ (⟦ Lent ⟧ ∗ A.lft t.life q)
    finds q = moved 𝓛 R slot q ⟦ Told ⟧ ⟦ Lent ⟧ found
