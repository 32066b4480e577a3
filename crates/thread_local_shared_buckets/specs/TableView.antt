-- What a contract sees of the buckets that threads share.
use Rattle.std.specs.Prelude.{◌≡◌, ℕ, ◌<◌, Bool, false, Option, None, List, nat_lt, slice_index_or, refl}
use base.Stored.{coded_bool}
use Rattle.std.specs.Coded.{Coded, coded_ℕ, coded_option, coded×, code_by}
use Rattle.thread_local_base.specs.Place.{id_at}
use Rattle.thread_local_shared_buckets.specs.Announcing.{Announcing}
use Rattle.thread_local_shared_buckets.specs.Shared.{BucketView}

-- the name of the table, the sharing if that has a name, how many of the table's first slots are
-- reserved, of which the buckets stand, and whether each bucket that isn't reserved was made for an
-- id
pub record TableView : Type 0 where
  pub table : ℕ
  pub sharing : Option ℕ
  pub reserved : ℕ
  pub grown_by_ids : Bool

abbrev pub table_view_coded : Coded TableView
table_view_coded =
    code_by (ℕ × (Option ℕ × (ℕ × Bool))) (coded× coded_ℕ (coded× (coded_option coded_ℕ) (coded× coded_ℕ coded_bool)))
    (λ s. (s.table, (s.sharing, (s.reserved, s.grown_by_ids))))
    (λ p. record { table = p.0; sharing = p.1.0; reserved = p.1.1.0; grown_by_ids = p.1.1.1 }) (λ _. refl)

-- the view of the bucket of this number, by what the table's word of announced buckets is
abbrev pub bucket_view : TableView → Announcing → ℕ → BucketView
bucket_view s word bucket = record {
  table = s.table;
  sharing = s.sharing;
  bucket = bucket;
  reserved = nat_lt (id_at bucket 0) s.reserved;
  grown_by_ids = s.grown_by_ids;
  word = word;
}

-- this is the bucket of this number, whatever the word is
pub record IsBucketOf (s : TableView) (bucket : ℕ) (d : BucketView) : Type 0 where
  pub table : d.table ≡ s.table
  pub sharing : d.sharing ≡ s.sharing
  pub number : d.bucket ≡ bucket
  pub reserved : d.reserved ≡ nat_lt (id_at bucket 0) s.reserved
  pub grown : d.grown_by_ids ≡ s.grown_by_ids

-- the default for a number past the last bucket
abbrev no_bucket : BucketView
no_bucket = record { table = 0; sharing = None; bucket = 0; reserved = false; grown_by_ids = false; word = record { name = 0; begun = 0; made = 0 } }

-- the bucket of this number in a list
abbrev pub bucket_at : List BucketView → ℕ → BucketView
bucket_at buckets bucket = slice_index_or buckets bucket no_bucket

-- the view of these buckets and this number of reserved slots
abbrev pub table_view_of : List BucketView → ℕ → TableView
table_view_of buckets reserved = record {
  table = (bucket_at buckets 0).table;
  sharing = (bucket_at buckets 0).sharing;
  reserved = reserved;
  grown_by_ids = (bucket_at buckets 0).grown_by_ids;
}

-- each bucket has its own number, all are of one table, one sharing and this word and grew alike, and
-- each says whether it is reserved
abbrev pub AreBuckets : List BucketView → Announcing → ℕ → Type 0
AreBuckets buckets word reserved =
    (bucket : ℕ) → bucket < 63
    → bucket_at buckets bucket ≡ bucket_view (table_view_of buckets reserved) word bucket

-- these are the buckets of a table with this word, however many slots are reserved
pub record AreOfTable (buckets : List BucketView) (word : Announcing) : Type 0 where
  pub reserved : ℕ
  pub are : AreBuckets buckets word reserved
