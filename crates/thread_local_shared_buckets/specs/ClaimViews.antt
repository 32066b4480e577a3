-- What a contract sees of a claim: which slot it is of, and what it has learnt of the slot.
use Rattle.std.specs.Prelude.{ℕ, Bool, List, Option, refl}
use base.Stored.{coded_bool}
use Rattle.std.specs.Coded.{Coded, coded×, coded_ℕ, coded_option, code_by}
use Rattle.thread_local_base.specs.IdMoves.{IdMove, moves_coded}
use Rattle.thread_local_base.specs.Learnt.{Learnt, learnt_coded}

-- its table, the sharing if that has a name, its id, what was done with the table's ids before it was
-- taken, whether the id's bucket is reserved, and what it has learnt of the id's slot
pub record ClaimView (V : Type 0) : Type 0 where
  pub table : ℕ
  pub sharing : Option ℕ
  pub id : ℕ
  pub before : List IdMove
  pub reserved : Bool
  pub learnt : Learnt V

-- an injective code of such views, for ghost state
abbrev pub claim_view_coded : {V : Type 0} → Coded V → Coded (ClaimView V)
claim_view_coded {V} c =
    code_by (ℕ × (Option ℕ × (ℕ × (List IdMove × (Bool × Learnt V)))))
    (coded× coded_ℕ
    (coded× (coded_option coded_ℕ) (coded× coded_ℕ (coded× moves_coded (coded× coded_bool (learnt_coded c))))))
    (λ v. (v.table, (v.sharing, (v.id, (v.before, (v.reserved, v.learnt))))))
    (λ p. record {
      table = p.0;
      sharing = p.1.0;
      id = p.1.1.0;
      before = p.1.1.1.0;
      reserved = p.1.1.1.1.0;
      learnt = p.1.1.1.1.1;
    })
    (λ _. refl)
