-- It is known of `Padded<T>` whether a `&` names a thread, since it is known of `T`.
use Rattle.std.proofs.Common.{ℕ, inl, inr, ◌+◌, refl, replicate}
use prog.Memory.{up, align}
use base.Fml.{Lft}
use base.Shift.{Keyless}
use denote.RattleType.{RattleType}
use denote.Memory.{lone}
use denote.Param.Send.{IsSync, sendable}
use Rattle.thread_local.specs.contracts.padded.Padded.{the_row}
use Rattle.thread_local_base.specs.Judged.{JudgedEverywhere}

-- where the value lies
at : RattleType → ℕ → ℕ
at R o = o + up (align (lone R.mir)) 56

-- what is said of a `&` to a padded value is said of a `&` to the value in it
of_value : (R : RattleType) (x : R.Denot) (b o : ℕ) (κ : Lft) → Keyless ((the_row R).shr_at x b o κ)
    → Keyless (R.shr_at x b (at R o) κ)
unfolding at
of_value R x b o κ k = (k (record { before = replicate 7 0; value = x; after = replicate 8 0 }, (refl, tt))).0.0.1.0

pub padding : (R : RattleType) → JudgedEverywhere R → JudgedEverywhere (the_row R)
padding R (inl h) =
    let part : IsSync R = record { shared = h.1 } in
    let whole : IsSync (the_row R) = search sendable depth 12 in
    inl (h.0, whole.shared)
padding R (inr h) = inr (λ b o.
    let named = h b (at R o) in
    record { value = named.value; lifetime = named.lifetime; names = λ k. named.names (of_value R named.value b o named.lifetime k) })
