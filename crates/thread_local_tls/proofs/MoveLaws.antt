-- The state of a run of moves after each move, and where a run stops.
use Rattle.std.proofs.Common.{◌≡◌, ℕ, ◌+◌, ◌-◌, ◌^◌, ◌<◌, zero, suc, false, Some, slice_get, subst, Bool, List, [], ◌∷◌}
use Rattle.std.proofs.Common.{◌++◌, length, get_or, take, drop, refl, ap, sym, ◌∙◌, add-one, append_assoc, append-nil}
use Rattle.std.proofs.lemmas.List.{take_more}
use Rattle.std.proofs.lemmas.Option.{slice_get-get_or}
use Rattle.std.proofs.Math.Seq.{drop-cons}
use Rattle.thread_local_base.specs.Held.{is_held, least, with_least, without, HoldsAllBelow}
use Rattle.thread_local_base.specs.IdMoves.{IdMove, held_after, noted}
use Rattle.thread_local_base.proofs.IdMoveLaws.{after_take, after_give}
use Rattle.thread_local_tls.specs.Moves.{id_move, history_of, ids_given, MayMove, MayRun, GivesWhatIsNotHeld, RunsOutOfIds}
use Rattle.thread_local_tls.specs.declared.moves.Move.{Move}
use Rattle.thread_local_tls.specs.declared.moves.Move.TheVariants.{Take, Give}

-- the held ids after a move
abbrev pub after : List Bool → Move → List Bool
after held Take = with_least held
after held (Give id) = without held id

after_is : (before : List IdMove) (move : Move) → held_after (noted before (id_move move)) ≡ after (held_after before) move
after_is before Take = after_take before
after_is before (Give id) = after_give before id

-- the ids that one move takes
abbrev pub given : List Bool → Move → List ℕ
given held Take = least held ∷ []
given held (Give id) = []

ids_given-move : (before : List IdMove) (move : Move) (moves : List Move)
    → ids_given before (move ∷ moves) ≡ given (held_after before) move ++ ids_given (noted before (id_move move)) moves
ids_given-move before Take moves = refl
ids_given-move before (Give id) moves = refl

history-push : (moves : List Move) (move : Move) → history_of (moves ++ move ∷ []) ≡ noted (history_of moves) (id_move move)
history-push [] move = refl
history-push (m ∷ moves) move = ap (λ l. id_move m ∷ l) (history-push moves move)

MayRun-push : (before : List IdMove) (moves : List Move) (move : Move) → MayRun before moves
    → MayMove (held_after (before ++ history_of moves)) move
    → MayRun before (moves ++ move ∷ [])
MayRun-push before [] move may next = (subst (λ l. MayMove (held_after l) move) (append-nil before) next, tt)
MayRun-push before (m ∷ moves) move may next = (
  may.0,
  MayRun-push (noted before (id_move m)) moves move may.1
      (subst (λ l. MayMove (held_after l) move) (sym (append_assoc before (id_move m ∷ []) (history_of moves))) next),
)

-- the first n moves have run: these ids are held, and the ids so far and those to come are the ids
-- of all moves
pub record IsRunTo (moves : List Move) (n : ℕ) (held : List Bool) (ids : List ℕ) : Type 0 where
  pub held_is : held ≡ held_after (history_of (take n moves))
  pub ids_are : ids ++ ids_given (history_of (take n moves)) (drop n moves) ≡ ids_given [] moves
  pub may : MayRun [] (take n moves)

-- the state after one move more
pub IsRunTo-more : (moves : List Move) (n : ℕ) (d move : Move) (held new : List Bool)
    (ids more : List ℕ)
    → n < length moves → get_or moves n d ≡ move
    → IsRunTo moves n held ids → MayMove held move → new ≡ after held move
    → more ≡ ids ++ given held move
    → IsRunTo moves (n + 1) new more
IsRunTo-more moves n d move held new ids more below at run may new_is more_is =
    let front : take (n + 1) moves ≡ take n moves ++ move ∷ [] = take_more moves n d below ∙ ap (λ m. take n moves ++ m ∷ []) at in
    let rest : drop n moves ≡ move ∷ drop (n + 1) moves =
    rw add-one (drop-cons moves n d below ∙ ap (λ m. m ∷ drop (suc n) moves) at) in
    let before = history_of (take n moves) in
    let later : history_of (take (n + 1) moves) ≡ noted before (id_move move) =
    ap history_of front ∙ history-push (take n moves) move in
    record {
      held_is = new_is ∙ ap (λ h. after h move) run.held_is ∙ sym (after_is before move) ∙ ap held_after (sym later);
      ids_are =
          ap (λ l. l ++ ids_given (history_of (take (n + 1) moves)) (drop (n + 1) moves)) more_is
          ∙ append_assoc ids (given held move) (ids_given (history_of (take (n + 1) moves)) (drop (n + 1) moves))
          ∙ ap (λ l. ids ++ l)
          (ap (λ h. given h move ++ ids_given (history_of (take (n + 1) moves)) (drop (n + 1) moves)) run.held_is
          ∙ ap (λ l. given (held_after before) move ++ ids_given l (drop (n + 1) moves)) later
          ∙ sym (ids_given-move before move (drop (n + 1) moves))
          ∙ ap (ids_given before) (sym rest))
          ∙ run.ids_are;
      may =
          subst (MayRun []) (sym front)
          (MayRun-push [] (take n moves) move run.may (subst (λ h. MayMove h move) run.held_is may));
    }

-- the run stops at a give of an id that isn't held
pub stops_at_give : (moves : List Move) (n id : ℕ) (d : Move) (held : List Bool) (ids : List ℕ)
    → n < length moves → get_or moves n d ≡ Give id
    → IsRunTo moves n held ids → is_held held id ≡ false → GivesWhatIsNotHeld moves
stops_at_give moves n id d held ids below at run free = record {
  number = n;
  id = id;
  gives = slice_get-get_or moves n d below ∙ ap Some at;
  may_run_before = run.may;
  is_free = rw (← run.held_is) free;
}

-- the run stops at a take where every id is held
pub stops_at_take : (moves : List Move) (n : ℕ) (d : Move) (held : List Bool) (ids : List ℕ)
    → n < length moves → get_or moves n d ≡ Take
    → IsRunTo moves n held ids → HoldsAllBelow (2 ^ 63 - 1) held → RunsOutOfIds moves
stops_at_take moves n d held ids below at run full = record {
  number = n;
  takes = slice_get-get_or moves n d below ∙ ap Some at;
  may_run_before = run.may;
  all_held = subst (HoldsAllBelow (2 ^ 63 - 1)) run.held_is full;
}

some_same : {X : Type 0} {x y : X} → Some x ≡ Some y → x ≡ y
some_same e = cc

-- after this history, the moves may not run if one gives back an id that isn't held
stuck : (before : List IdMove) (moves : List Move) (n id : ℕ) → slice_get moves n ≡ Some (Give id)
    → is_held (held_after (before ++ history_of (take n moves))) id ≡ false → MayRun before moves
    → ⊥
stuck before [] n id at free may = cc
stuck before (move ∷ moves) zero id at free may =
    let may_move = subst (MayMove (held_after before)) (some_same at) may.0 in
    let here = sym (ap (λ l. is_held (held_after l) id) (append-nil before)) ∙ free in
    cc
stuck before (move ∷ moves) (suc n) id at free may =
    stuck (noted before (id_move move)) moves n id at
    (ap (λ l. is_held (held_after l) id) (append_assoc before (id_move move ∷ []) (history_of (take n moves))) ∙ free) may.1

-- a list of moves that gives back an id that isn't held may not run
pub may_not_run : (moves : List Move) → GivesWhatIsNotHeld moves → MayRun [] moves → ⊥
may_not_run moves stops may = stuck [] moves stops.number stops.id stops.gives stops.is_free may
