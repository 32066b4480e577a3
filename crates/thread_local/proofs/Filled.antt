-- What a call of the `get_or` family leaves that fills the slot.
use Rattle.std.proofs.Common.{◌≡◌, ◌∙◌, subst, sym, Option, Some, None, Ok, Bool, Bor, false, option_map, ap}
use Rattle.std.specs.Prelude.{MatchOption}
use Rattle.thread_local_base.specs.Answers.{View, Answered, answer_or, view_after_or, view_of}
use Rattle.thread_local_base.specs.Learnt.{Learnt, Holding}
use Rattle.thread_local_ids.specs.TokenViews.{TokenView}
use Rattle.thread_local_shared_buckets.specs.Room.{IsEmpty}
use Rattle.thread_local_shared_buckets.specs.ClaimViews.{ClaimView}
use Rattle.thread_local.specs.Locals.{LocalView, local_view, knows, IsFilled, IsAnswered, Fills}
use Rattle.thread_local.specs.Tables.{ThreadLocalView}

-- what a call that fills the slot leaves there
left_there : {V E : Type 0} (before : Option V) (known : Bool) (value : V) (after : View V)
    → answer_or {E = E} before false (Ok value) ≡ Answered value
    → view_after_or {E = E} (record { value = before; known = known }) before false (Ok value) ≡ after
    → after.value ≡ Some value
left_there (Some there) known value after told leaves =
    let kept : Some there ≡ after.value = ap (λ view. view.value) leaves in
    cc
left_there None known value after told leaves =
    let made : Some value ≡ after.value = ap (λ view. view.value) leaves in
    cc

pub holds_filled : {V : Type 0} (E : Type 0) (makes : V → Type 0) (old new : LocalView V) (filled : IsFilled E makes old new)
    → new.value ≡ Some filled.value
holds_filled E makes old new filled =
    left_there {E = E} old.value old.known filled.value (knows new) filled.fills.says.answered filled.fills.says.leaves

-- the value in the slot then is what the call answers
pub fills_by : {V : Type 0} (E : Type 0) (makes : V → Type 0) (old new : LocalView V) (there : V)
    → IsFilled E makes old new → new.value ≡ Some there
    → Fills E makes old new there
fills_by {V} E makes old new there filled held =
    let some = holds_filled E makes old new filled in
    let same : filled.value ≡ there = cc in
    subst (λ (value : V). Fills E makes old new value) same filled.fills

-- a value that outlives the seat's borrow is the one in the slot
pub some_lasting : {V : Type 0} (of : ThreadLocalView) (claim : ClaimView V) (now : LocalView V)
    (got : Option (TokenView V × Bor V)) (there : TokenView V × Bor V) → local_view of claim ≡ now
    → MatchOption got (IsEmpty claim.learnt) (λ x.
    (x.0.sharing ≡ claim.sharing) × (x.0.id ≡ claim.id) × (x.0.value ≡ x.1.now) × (claim.learnt ≡ Holding x.1.now))
    → got ≡ Some there
    → now.value ≡ Some there.1.now
some_lasting {V} of claim now (Some x) there is told some =
    sym (ap (λ (s : LocalView V). s.value) is) ∙ ap (λ (l : Learnt V). (view_of l).value) told.3
    ∙ ap (λ (o : Option (TokenView V × Bor V)). option_map (λ x. x.1.now) o) some
some_lasting of claim now None there is told some = absurd cc

pub answered : {V E : Type 0} {makes : V → Type 0} {old new : LocalView V} {there : V}
    → Fills E makes old new there
    → IsAnswered E makes old there
answered fills = record { answered = fills.says.answered; made = fills.made }
