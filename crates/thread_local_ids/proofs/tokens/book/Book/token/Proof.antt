-- What a book tells of an id is a token of it, where it tells of a value.
use Rattle.thread_local_base.proofs.Names.{◌≡◌, ℕ, [], ◌∷◌, refl, Some, None, Option, a_type, named, w64}
use Rattle.thread_local_base.proofs.Names.{inst_fn, ‵, raw, ◌⊛◌, ◌$◌, ◌∵◌, !, qed, by, move, keep, no_more, and_then}
use Rattle.thread_local_base.proofs.Names.{drop, split, fsplit, fsplit3, fjoin, rewrite}
use Rattle.thread_local_base.proofs.Names.{join, arith, returns, enter, alloc_all, pass_all, free_all, look_at, agg, get}
use Rattle.thread_local_base.proofs.Names.{sets, fact, RattleType, owns, types_at, usize, yes, plain, RefOf}
use Rattle.thread_local_base.proofs.Names.{nothing, heard, param, layouts, shr_vals, shr_Tells, Stays, stay_dropped, Goes-dropped}
use Rattle.thread_local_base.proofs.Names.{walk_of, proved, leaves, alive, unhide}
use Rattle.std.proofs.Common.{IsSome, ◌-◌, ◌^◌, ◌<◌}
use denote.Plain.{uint_vals, uint_Tells}
use types.Kit.{fpick, use1}
use Rattle.thread_local_base.specs.Buckets.{values}
use Rattle.thread_local_ids.specs.Told.{tells}
use Rattle.thread_local_ids.specs.contracts.tokens.book.Book as Book
use Rattle.thread_local_ids.specs.contracts.tokens.token.Token as Token
use Rattle.thread_local_ids.proofs.TokenFields.{id_val, id_good, token_made}
use Rattle.thread_local_ids.proofs.Rows.{contents_tell}
use Rattle.thread_local_ids.specs.contracts.tokens.book.Book.token.{ended, clauses, Key.name as #self}
use Rattle.thread_local_ids.proofs.tokens.book.Book.token.Statement.{statement}
use Rattle.thread_local_ids.proofs.tokens.book.Book.token.Code as code
use Rattle.thread_local_base.proofs.Walking.{knows}

some_in : {X : Type 0} (v : Option X) → IsSome v → (x : X) × (v ≡ Some x)
some_in None has = cc
some_in (Some x) has = (x, refl)

pub token_spec : {M : Type 1} → statement M
token_spec 𝓤 𝓛 𝓜 𝓡 wired T L =
    let R : RattleType = param 0 T in let En = ended T in let S : RattleType = Token.the_row R in
    let B : RattleType = Book.the_row R in
    let inst = layouts (a_type ∷ []) (T, tt) in let fn = inst_fn inst code.function in let c = clauses T 𝓛 𝓜.mem 𝓡.returns in
    let self = RefOf (0 ∷ []) tt (plain (λ _. B)) (λ _. tt) in
    let number = plain (λ _. usize) in
    let hs : Stays En.signature.params En.kept = (stay_dropped self yes, (stay_dropped number yes, tt)) in
    proved 𝓛 En hs c 𝓜 𝓡
    (Goes-dropped 𝓛 2 self yes (λ κs x f. refl), (Goes-dropped 𝓛 2 number yes (λ κs x f. refl), tt))
    (#self inst) fn (code.unfolded 𝓤 𝓛.H 𝓜 𝓡 wired (T, tt))
    (λ κs. (shr_vals, (uint_vals w64, tt))) (λ κs. (shr_Tells (named 0) κs.0 B, (uint_Tells w64, tt)))
    (λ κs qs bounds a gh are.
    let h = a.0.now in let id : ℕ = a.1.0 in
    let here : Option T.Denot = values h.contents id in
    let y : (walk_of 𝓛 En hs c).Ghost = ((κs, qs, bounds, a, (shr_vals a.0, (uint_vals w64 id, tt))), gh) in
    let Near : Type 0 = id < 2 ^ 63 - 1 in
    let Has : Type 0 = IsSome here in
    qed 𝓛 ((raw (alive 𝓛 En.signature κs qs) ⊛ ‵ (owns (types_at En.signature.params κs) a y.0.4))
    ∷ raw (fact 𝓤 _) ∷ raw (fact 𝓤 Near) ∷ raw (fact 𝓤 Has) ∷ []) ∵
    keep ! (2 ∷ 3 ∷ 0 ∷ []) $ heard ! Near (λ near. heard ! Has (λ has.
    let found : (x : T.Denot) × (here ≡ Some x) = some_in here has in
    let r : S.Denot = record { sharing = h.sharing; id = id; value = found.0 } in
    let fits : id < 2 ^ 64 = omega (arith, near) in
    let Told : Type 0 = (◌≡◌ {A = Option ℕ} h.sharing h.sharing) × (id ≡ id) in
    let Value : Type 0 = here ≡ Some found.0 in
    split ! $ move ! (1 ∷ []) $ fsplit3 ! $ fsplit ! $
    keep ! (1 ∷ 4 ∷ []) $ unhide ! $ fsplit ! $ drop ! $
    -- [what the book tells; the tokens]
    fsplit ! $ fpick ! (λ is. drop ! $
    use1 𝓛 (‵ (tells R h.sharing id here)) (contents_tell 𝓛 R h.sharing h.contents is id near) $
    rewrite ! 0 (λ (z : Option T.Denot). ‵ (tells R h.sharing id z)) found.1 refl $
    use1 𝓛 (‵ (S.own_val r (id_val id ∷ []))) (token_made R 𝓛 r near) $
    enter ! _ _ _ _ _ $ alloc_all ! (λ l. pass_all ! refl ((tt, tt), ((tt, record { fits = are.1.0.1 }), tt)) $
    sets ! (agg ! (no_more !)) refl (tt, tt) $
    sets ! (agg ! (and_then ! (get ! refl) (and_then ! (get ! refl) (no_more !)))) refl (id_good id fits) $
    knows ! Value found.1 $ knows ! Told (refl, refl) $ join ! $ nothing ! $ nothing ! $ fjoin ! $ nothing ! $ fjoin ! $
    returns ! (look_at ! 0 refl) $ free_all ! refl $ keep ! (3 ∷ 0 ∷ 2 ∷ 1 ∷ []) $
    by ! (leaves 𝓛 En hs c y (id_val id) r (tt, (tt, tt)) (tt, (tt, tt))))))))
