-- What is told can be had twice, and so a `&` may hold it. Assumes `Logic`.
use Rattle.std.proofs.Common.{ℕ, [], ◌∷◌, Option}
use seplogic.Ra.Ura.{Ura}
use base.Logic.{ent, sep, wand, apply∗, snd∗}
use base.Fml.{Lft, Fml, fbor}
use base.Before.{before}
use types.Logic.{Logic, sem, lfts}
use types.Kit.{‵, raw, ◌⊛◌, later, ◌$◌, ◌∵◌, !, qed, move, drop, use1, use2, split, await, updating, now, done}
use denote.RattleType.{RattleType}
use denote.Sharing.{ShrLaws, said}
use denote.Struct.Lending.{Lends}
use Rattle.thread_local_ids.specs.Told.{tells}
use Rattle.thread_local_ids.proofs.ToldElements.{tells_dup}

-- a `&` to what can be had beside what it shows
pub lends_shown : {M : Type 1} {𝓤 : Ura M} (𝓛 : Logic 𝓤) (P Q : Fml)
    → ent 𝓤 (sem 𝓛 P) (sep 𝓤 (sem 𝓛 P) (sem 𝓛 Q)) → (l : Lft)
    → Lends 𝓛 P (said Q) l
lends_shown {𝓤 = 𝓤} 𝓛 P Q shows l κ ts inc sp = let Back = 𝓛.H.⇛ (sep 𝓤 (𝓛.A.bor κ P) (lfts 𝓛 ts)) in
    qed 𝓛 (‵ (fbor κ P) ∷ raw (lfts 𝓛 ts) ∷ []) ∵ updating ! $
    use2 𝓛 (later (‵ P ⊛ raw (wand 𝓤 (sem 𝓛 P) Back))) (𝓛.more.bor_acc_by κ ts P sp) $ await ! tt $
    split ! $ use1 𝓛 (‵ P ⊛ ‵ Q) shows $ split ! $ move ! (0 ∷ 2 ∷ []) $
    use2 𝓛 (later (‵ (fbor κ P) ⊛ raw (lfts 𝓛 ts))) (apply∗ 𝓤 (sem 𝓛 P) Back) $ await ! tt $
    split ! $ drop ! $ move ! (1 ∷ 0 ∷ []) $ now ! $ done !

pub lends_twice : {M : Type 1} {𝓤 : Ura M} (𝓛 : Logic 𝓤) (P : Fml)
    → ent 𝓤 (sem 𝓛 P) (sep 𝓤 (sem 𝓛 P) (sem 𝓛 P)) → (l : Lft)
    → Lends 𝓛 P (said P) l
lends_twice 𝓛 P = lends_shown 𝓛 P P

-- the laws of a `&` to what can be had twice
pub said_laws : (P : Fml)
    → ((M : Type 1) (𝓤 : Ura M) (𝓛 : Logic 𝓤) → ent 𝓤 (sem 𝓛 P) (sep 𝓤 (sem 𝓛 P) (sem 𝓛 P)))
    → ShrLaws (said P)
said_laws P twice = record { contraction = λ M 𝓤 𝓛 κ. twice M 𝓤 𝓛; mono = λ M 𝓤 𝓛 κ' κ. snd∗ 𝓤 (sem 𝓛 (before κ' κ)) (sem 𝓛 P) }

-- what a `&` holds that holds what is told of an id
pub tells_laws : (R : RattleType) (sharing : Option ℕ) (id : ℕ) (v : Option R.Denot) → ShrLaws (said (tells R sharing id v))
tells_laws R sharing id v = said_laws (tells R sharing id v) (λ M 𝓤 𝓛. tells_dup 𝓛 R sharing id v)
