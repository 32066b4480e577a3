use Rattle.std.proofs.Common.{◌≡◌, ◌∙◌, ◌<◌, ◌*◌, ◌%◌, ◌^◌, ℕ, true, false, Option, Some, refl, ap, sym, subst, arith, bit_or, ⊎_elim}
use Rattle.std.proofs.lemmas.Bool.{cases_eq}
use Rattle.thread_local_base.specs.Bits.{is_set}
use Rattle.thread_local_base.proofs.Word.{set_bit}
use Rattle.thread_local_ids.specs.TokenLists.{NoneIn}
use Rattle.thread_local_shared_buckets.specs.TableView.{TableView}
use Rattle.thread_local_shared_buckets.specs.declared.steps.Own.{Own}
use Rattle.thread_local_base.proofs.Word.{never_set}
use Rattle.thread_local_shared_buckets.proofs.AtHandLaws.{HasAll, begins, begins_left, has_own, has_announced}
use Rattle.thread_local_shared_buckets.proofs.iter.Iter.begun.Goals as goal
use Rattle.thread_local_shared_buckets.proofs.iter.Iter.begun.Goals.{in-Some, in-None}

-- the word with the own value's bucket
has_all : {V : Type 0} (own : Own V) (word : ℕ) → is_set word 0 ≡ true → is_set word 63 ≡ false
    → HasAll (Some own) word (bit_or word (1 * 2 ^ own.thread.bucket % 2 ^ 64))
has_all own word first none_past = has_own own word _ first none_past (set_bit word own.thread.bucket (omega (arith, own.thread.in_table)))

some : (word : ℕ) → is_set word 0 ≡ true → 0 < word
some word first = ⊎_elim (λ (none : word ≡ 0). never_set word 0 none first) (λ apart. omega arith) (cases_eq word 0)

pub take_first-requires : goal.take_first-requires
take_first-requires g c =
    let word = c.load_announced-announced in
    elim c.match-own.branch [
      | in-Some w ↦ rw w.left-is (some _ (has_all w.in-Some.own word.result word.ensures.first word.ensures.none_past).first)
      | in-None w ↦ rw w.left-is (some _ word.ensures.first)
    ]

pub invariant_of-result : goal.invariant_of-result
invariant_of-result g c =
    let word = c.load_announced-announced in
    let Has : Option (Own _) → ℕ → Type 0 = λ own left. HasAll own word.result left in
    begins _ refl refl refl refl c.requires.told
    (begins_left c.args.buckets.now.sharing c.args.told c.args.own word.result c.match-own.left c.take_first.new.word c.take_first.result
    (elim c.match-own.branch [
      | in-Some w ↦
          subst (λ (left : ℕ). Has c.args.own left) (sym w.left-is)
          (subst (λ (own : Option (Own _)). Has own (bit_or word.result (1 * 2 ^ w.in-Some.own.thread.bucket % 2 ^ 64))) (sym w.in-Some.is)
          (has_all w.in-Some.own word.result word.ensures.first word.ensures.none_past))
      | in-None w ↦
          subst (λ (left : ℕ). Has c.args.own left) (sym w.left-is)
          (subst (λ (own : Option (Own _)). Has own word.result) (sym w.in-None.is)
          (has_announced word.result word.ensures.first word.ensures.none_past))
    ])
    c.take_first.ensures.first c.take_first.ensures.rest
    (subst (λ (sharing : Option ℕ). (bucket : ℕ) → bucket < 63 → is_set word.result bucket ≡ false
    → NoneIn sharing bucket c.args.told)
    (ap (λ (s : TableView). s.sharing) (c.behind-buckets.view_is ∙ c.parts.ensures)) word.ensures.told))
