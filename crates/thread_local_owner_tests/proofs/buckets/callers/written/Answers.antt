use Rattle.std.proofs.Common.{◌≡◌, ◌+◌, ◌<◌, ◌^◌, ℕ, sym, ap, ◌∙◌, Option, subst, arith}
use Rattle.std.specs.Prelude.{unwrap_or}
use Rattle.thread_local_base.specs.Buckets.{Contents, no_contents, IsTable}
use Rattle.thread_local_base.specs.Rows.{value_in}
use Rattle.thread_local_base.specs.Owner.{with_published}
use Rattle.thread_local_base.proofs.ValueLaws.{slot-no_contents}
use Rattle.thread_local_base.proofs.FillingLaws.{IsTable-no_contents}
use Rattle.thread_local_base.proofs.InsertingLaws.{published_slot}
use Rattle.thread_local_owner_tests.proofs.buckets.callers.written.Goals as goal

-- nothing stands in new buckets
nothing_stands : (c : Contents ℕ) (b i v : ℕ) → c ≡ no_contents → unwrap_or (value_in c b i) v ≡ v
nothing_stands c b i v new =
    ap (λ (d : Contents ℕ). unwrap_or (value_in d b i) v) new
    ∙ ap (λ (o : Option ℕ). unwrap_or o v) (slot-no_contents ℕ b i)

pub overflow_add-there : goal.overflow_add-there
overflow_add-there c =
    let four =
    c.in_ok-there.ensures.answers
    ∙ nothing_stands c.new-buckets.result.contents c.new.result.bucket c.new.result.index 4
    c.new-buckets.ensures.contents in
    omega arith

-- what was written stands, and is kept
written_stands : (c : Contents ℕ) (b i k j n other : ℕ) → c ≡ no_contents → b < 63 → i < 2 ^ b
    → k ≡ b → j ≡ i
    → unwrap_or (value_in (with_published c b i n) k j) other ≡ n
written_stands c b i k j n other new low inside same_bucket same_index =
    let t : IsTable c = (let P : Contents ℕ → Type 0 = IsTable in subst P (sym new) (IsTable-no_contents ℕ)) in
    ap (λ m. unwrap_or (value_in (with_published c b i n) m j) other) same_bucket
    ∙ ap (λ m. unwrap_or (value_in (with_published c b i n) b m) other) same_index
    ∙ ap (λ (o : Option ℕ). unwrap_or o other) (published_slot c b t low i n inside)

pub returns : goal.returns
returns c =
    let four =
    c.in_ok-there.ensures.answers
    ∙ nothing_stands c.new-buckets.result.contents c.new.result.bucket c.new.result.index 4
    c.new-buckets.ensures.contents in
    c.in_ok-there-2.ensures.answers
    ∙ written_stands c.new-buckets.result.contents c.new.result.bucket c.new.result.index
    c.new-2.result.bucket c.new-2.result.index (c.in_ok-there.there.now + 1) 9
    c.new-buckets.ensures.contents
    c.new.result.in_table c.new.result.in_bucket (c.new-2.ensures.bucket ∙ sym c.new.ensures.bucket)
    (c.new-2.ensures.index ∙ sym c.new.ensures.index)
    ∙ omega arith
