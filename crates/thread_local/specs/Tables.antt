-- What a contract sees of a table.
use Rattle.std.specs.Prelude.{ℕ, Bool, Option, refl}
use base.Stored.{coded_bool}
use Rattle.std.specs.Coded.{Coded, coded_ℕ, coded_option, coded×, code_by}
use Rattle.thread_local_base.specs.Owned.{Owned}
use Rattle.thread_local_shared_buckets.specs.TableView.{TableView}
use Rattle.thread_local_shared_buckets.specs.AfterLoan as buckets

-- the name of the table, the sharing if that has a name, how many of the table's first slots are
-- reserved, whether each bucket that isn't reserved was made for an id, and for how many ids there
-- was room when the table was made or cleared
pub record ThreadLocalView : Type 0 where
  pub table : ℕ
  pub sharing : Option ℕ
  pub reserved : ℕ
  pub grown_by_ids : Bool
  pub room : ℕ

-- an injective code of such views, for ghost state
abbrev pub thread_local_view_coded : Coded ThreadLocalView
thread_local_view_coded =
    code_by (ℕ × (Option ℕ × (ℕ × (Bool × ℕ))))
    (coded× coded_ℕ (coded× (coded_option coded_ℕ) (coded× coded_ℕ (coded× coded_bool coded_ℕ))))
    (λ s. (s.table, (s.sharing, (s.reserved, (s.grown_by_ids, s.room)))))
    (λ p. record { table = p.0; sharing = p.1.0; reserved = p.1.1.0; grown_by_ids = p.1.1.1.0; room = p.1.1.1.1 })
    (λ _. refl)

-- the table with these buckets and this room
abbrev pub thread_local_view : TableView → ℕ → ThreadLocalView
thread_local_view buckets room = record {
  table = buckets.table;
  sharing = buckets.sharing;
  reserved = buckets.reserved;
  grown_by_ids = buckets.grown_by_ids;
  room = room;
}

-- the buckets of the table
abbrev pub buckets_of : ThreadLocalView → TableView
buckets_of s = record { table = s.table; sharing = s.sharing; reserved = s.reserved; grown_by_ids = s.grown_by_ids }

-- the table once an owner's loan of these buckets ends, by what the owner leaves
abbrev pub view_with : {V : Type 0} → ThreadLocalView → Owned V → Owned V → ThreadLocalView
view_with s lent left = thread_local_view (buckets.view_with (buckets_of s) lent left) s.room
