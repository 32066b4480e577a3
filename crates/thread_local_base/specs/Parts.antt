-- It is known of a struct or an enum whether a `&` names a thread, since it is known of each field.
use Rattle.std.proofs.Common.{ℕ, List, [], ◌∷◌, ◌≡◌, ◌+◌, ◌⊎◌, inl, inr, subst, sym, ap, ◌∙◌}
use prog.Memory.{up, align, size}
use mir.Syntax.{Ty, w8}
use mir.Raw.{raw}
use base.Fml.{Lft, Fml}
use base.Shift.{Keyless}
use denote.RattleType.{RattleType}
use denote.Memory.{lone, fields_shared}
use denote.Plain.{UInt}
use denote.Hole.{as_row}
use denote.Struct.Field.{Field, rows}
use denote.Struct.Values.{Values, intos}
use denote.Struct.Declared as struct
use denote.Enum.Enum.{live_shared, tag, layout}
use denote.Enum.Declared as enum
use denote.Param.Send.{IsSync, sendable}
use denote.Param.SendFields.{FieldsHave, VariantsHave}
use Rattle.thread_local_base.specs.Judged.{NamesThread, JudgedEverywhere}

-- a value, which a type has whether a `&` to it names a thread or not
pub a_value : (R : RattleType) → JudgedEverywhere R → R.Denot
a_value R (inl at) = at.0
a_value R (inr names) = (names 0 0).value

pub values : (Fs : List Field) → FieldsHave JudgedEverywhere Fs → Values Fs
values [] j = tt
values (F ∷ Fs) j = (a_value (as_row F) j.0, values Fs j.1)

-- what a `&` to fields holds that lie side by side, from the offset e on
abbrev holds : (Fs : List Field) → ℕ → ℕ → ℕ → Values Fs → Lft → Fml
holds Fs e b o v κ = fields_shared (rows Fs) e (intos Fs v) b o κ

abbrev FieldsJudged : List Field → Type 0
FieldsJudged Fs =
    ((v : Values Fs) (e b o : ℕ) (κ : Lft) → Keyless (holds Fs e b o v κ))
    ⊎ ((e b o : ℕ) → NamesThread (holds Fs e b o))

with_field : (F : Field) (Fs : List Field) → JudgedEverywhere (as_row F) → Values Fs → FieldsJudged Fs → FieldsJudged (F ∷ Fs)
with_field F Fs (inl at) vs (inl rest) = inl (λ v e b o κ. (at.1 v.0 b _ κ, rest v.1 _ b o κ))
with_field F Fs (inl at) vs (inr rest) = inr (λ e b o.
    let left = rest (up (align (lone F.row.mir)) e + size (lone F.row.mir)) b o in
    record { value = (at.0, left.value); lifetime = left.lifetime; names = λ k. left.names k.1 })
with_field F Fs (inr names) vs rest = inr (λ e b o.
    let at = names b (o + up (align (lone F.row.mir)) e) in
    record { value = (at.value, vs); lifetime = at.lifetime; names = λ k. at.names k.0 })

fields : (Fs : List Field) → FieldsHave JudgedEverywhere Fs → FieldsJudged Fs
fields [] j = inl (λ v e b o κ. tt)
fields (F ∷ Fs) j = with_field F Fs j.0 (values Fs j.1) (fields Fs j.1)

-- a struct, whose ghost fields hold at all values
pub structure : (T : struct.Declared) → ((v : Values T.parts) → T.cover.Ghost v)
    → FieldsHave JudgedEverywhere T.parts
    → JudgedEverywhere (struct.row T)
structure T ghost j = elim (fields T.parts j) [
  | inl shared ↦ inl (
    T.cover.make (values T.parts j) (ghost _),
    λ d b o κ.
        (subst (λ a. Keyless (fields_shared (rows T.parts) 0 a b o κ)) (sym (T.to_is d)) (shared (T.as_values d) 0 b o κ), λ q. tt),
  )
  | inr names ↦ inr (λ b o.
      let at = names 0 b o in
      let is : T.to (T.cover.make at.value (ghost _)) ≡ intos T.parts at.value =
      T.to_is _ ∙ ap (intos T.parts) (T.cover.beta at.value (ghost _)) in
      record {
        value = T.cover.make at.value (ghost _);
        lifetime = at.lifetime;
        names = λ k.
            at.names (subst (λ a. Keyless (fields_shared (rows T.parts) 0 a b o at.lifetime)) is k.0);
      })
]

-- what a `&` to an enum holds, of any tag k
abbrev live : Ty → (Fss : List (List Field)) → ℕ → ℕ → ℕ → enum.Choice Fss → Lft → Fml
live ω Fss k b o c κ = live_shared ω (enum.rowss Fss) (enum.intoss Fss c) k b o κ

abbrev LiveShared : Ty → List (List Field) → Type 0
LiveShared ω Fss = (c : enum.Choice Fss) (k b o : ℕ) (κ : Lft) → Keyless (live ω Fss k b o c κ)

abbrev LiveNames : Ty → List (List Field) → Type 0
LiveNames ω Fss = (b o : ℕ) → (c : enum.Choice Fss) × (κ : Lft) × ((k : ℕ) → Keyless (live ω Fss k b o c κ) → ⊥)

tag_sync : IsSync (UInt w8)
tag_sync = search sendable

either : (ω : Ty) (Fs : List Field) (Fss : List (List Field))
    → ((v : Values Fs) (e b o : ℕ) (κ : Lft) → Keyless (holds Fs e b o v κ)) → LiveShared ω Fss
    → LiveShared ω (Fs ∷ Fss)
either ω Fs Fss each rest (inl v) k b o κ = ((tag_sync.shared k b _ κ, each v _ b o κ), λ q. tt)
either ω Fs Fss each rest (inr c) k b o κ = rest c k b o κ

with_variant : (ω : Ty) (Fs : List Field) (Fss : List (List Field)) → FieldsJudged Fs
    → LiveShared ω Fss ⊎ LiveNames ω Fss
    → LiveShared ω (Fs ∷ Fss) ⊎ LiveNames ω (Fs ∷ Fss)
with_variant ω Fs Fss (inl each) (inl rest) = inl (either ω Fs Fss each rest)
with_variant ω Fs Fss (inl each) (inr names) = inr (λ b o. let at = names b o in (inr at.0, at.1, at.2))
with_variant ω Fs Fss (inr names) rest =
    inr (λ b o.
    let at = names _ b o in (inl at.value, at.lifetime, λ k shared. at.names shared.0.1))

variants : (ω : Ty) (Fss : List (List Field)) → VariantsHave JudgedEverywhere Fss → LiveShared ω Fss ⊎ LiveNames ω Fss
variants ω [] j = inl (λ c k b o κ. absurd c)
variants ω (Fs ∷ Fss) j = with_variant ω Fs Fss (fields Fs j.0) (variants ω Fss j.1)

-- an enum that has a value
pub enumeration : (N : enum.Record) → N.D → VariantsHave JudgedEverywhere N.parts → JudgedEverywhere (enum.row (enum.declared N))
enumeration N value j = let ω = raw (layout (enum.shape (enum.declared N))) in
    elim (variants ω N.parts j) [
      | inl shared ↦ inl (value, λ d b o κ. shared (N.as_values d) _ b o κ)
      | inr names ↦ inr (λ b o.
          let at = names b o in
          record {
            value = N.make at.0;
            lifetime = at.1;
            names = λ k.
                at.2 _
                (subst (λ c.
                Keyless (live ω N.parts (tag (enum.rowss N.parts) (enum.intoss N.parts c)) b o
                c at.1))
                (N.beta at.0) k);
          })
    ]
