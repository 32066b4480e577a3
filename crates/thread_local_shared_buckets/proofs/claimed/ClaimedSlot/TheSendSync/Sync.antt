-- Threads may share a claimed slot if they may share its values.
use Rattle.std.proofs.Common.{ℕ, ◌++◌, Option, None, Some}
use mathlib.Core.Logic.{inl, inr}
use denote.RattleType.{RattleType}
use denote.RawPtr.{block_of, count_of}
use denote.Ref.{NamedLft}
use denote.Param.Send.{IsSync, Common}
use Rattle.thread_local_base.specs.Judged.{Judged}
use Rattle.thread_local_shared_buckets.specs.Known.{value_held}
use Rattle.thread_local_shared_buckets.specs.Claims.{ClaimFields, claim_fields, lasts, shows_value}
use Rattle.thread_local_ids.proofs.ToldElements.{tells_keyless}
use Rattle.thread_local_shared_buckets.specs.contracts.claimed.ClaimedSlot.{the_row}
use Rattle.thread_local_shared_buckets.proofs.ClaimedFields.{FieldsType}

pub sync : (a : NamedLft) (T : RattleType) → IsSync T → IsSync (the_row a T)
sync a T y =
    let fields : IsSync (FieldsType a T) = search denote.Param.Send.sendable depth 20 in
    record {
      shared = λ d b o κ. (
        fields.shared (d.at, (d.state, (tt, tt))) b o κ,
        ((λ _. tt), seen (claim_fields d.id d.index d.bucket d.at d.sharing d.word d.reserved) (value_held d.learnt) κ),
      );
    }
  where
    long : (b e : ℕ) (x : T.Denot) (j : Judged T) → Common (lasts T a.lft b e x j)
    long b e x (inl j) κ = y.shared x b e a.lft
    long b e x (inr j) κ = tt

    seen : (c : ClaimFields) (v : Option T.Denot) → Common (shows_value T a.lft c v)
    seen c None κ = tt
    seen c (Some x) κ =
        let b : ℕ = block_of c.at in
        let e : ℕ = count_of c.at in (
          (λ _. tt),
          (y.shared x b e (κ ++ a.lft), ((λ j. long b e x j κ), tells_keyless T c.sharing c.id (Some x))),
        )
