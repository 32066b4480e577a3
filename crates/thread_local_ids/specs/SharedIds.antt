-- What a contract sees of the ids that threads share.
use Rattle.std.specs.Prelude.{◌≡◌, ℕ, [], refl}
use Rattle.std.specs.Coded.{Coded, coded_ℕ, code_by}
use Rattle.thread_local_ids.specs.declared.shared_ids.SharedIds.TheInside.{Inside}
use Rattle.thread_local_ids.specs.declared.rights.right.SlotRights.{SlotRights}
use Rattle.thread_local_ids.specs.declared.rights.page.Page.{Page}

-- the name of the table
pub record SharedView : Type 0 where
  pub table : ℕ

abbrev pub shared_coded : Coded SharedView
shared_coded = code_by ℕ coded_ℕ (λ ids. ids.table) (λ table. record { table = table }) (λ _. refl)

abbrev pub shared_of : Inside → SharedView
shared_of i = record { table = i.first.table }

-- the ids of a new table, with the page from before any id is taken, and the rights to its slots
pub record AreNew (made : SharedView × Page × SlotRights) : Type 0 where
  pub page : (made.1.table ≡ made.0.table) × (made.1.moves ≡ [])
  pub slots : made.2.table ≡ made.0.table
