-- `begun` makes no step: what was announced when the sharing began is.
use Rattle.thread_local_base.proofs.Names.{ℕ, [], ◌∷◌, refl, w64, named, Val}
use Rattle.thread_local_base.proofs.Names.{vint, vptr, SProp, Lft, Share, Fml, ftrue, flft, ‵, raw, ◌⊛◌, ◌$◌, ◌∵◌}
use Rattle.thread_local_base.proofs.Names.{ !, qed, by, keep, split, join, fjoin, no_more}
use Rattle.thread_local_base.proofs.Names.{and_then, returns, enter, alloc_all, pass_all, free_all, look_at, get, sets, agg}
use Rattle.thread_local_base.proofs.Names.{tables, yes, RattleType, owns, types_at, plain, nothing}
use Rattle.thread_local_base.proofs.Names.{RefOf, shr_vals, shr_Tells, Stays, stay_dropped, walk_of, Goes-dropped, proved, leaves}
use Rattle.std.proofs.Common.{◌≡◌, true}
use base.Logic.{emp}
use denote.Builtin.{usize}
use denote.Plain.{uint_vals, uint_Tells}
use denote.Steps.{heard}
use contract.Monad.{fact, fact_i}
use types.Kit.{use0, use1}
use Rattle.thread_local_base.specs.Bits.{is_set}
use Rattle.thread_local_ids.proofs.Markers.{Mark, token, made}
use Rattle.thread_local_shared_buckets.specs.Announcing.{Announcing, announced}
use Rattle.thread_local_shared_buckets.proofs.AnnouncingLaws.{begun_announced}
use Rattle.thread_local_shared_buckets.specs.contracts.announcements.Announced as shown
use Rattle.thread_local_shared_buckets.specs.contracts.announcements.Announcements as words
use Rattle.thread_local_shared_buckets.specs.contracts.announcements.Announcements.begun.{ended, clauses}
use Rattle.thread_local_shared_buckets.specs.contracts.announcements.Announcements.begun.Key.{name as #self}
use Rattle.thread_local_shared_buckets.proofs.announcements.Announcements.begun.Statement.{statement}
use Rattle.thread_local_shared_buckets.proofs.announcements.Announcements.begun.Code as code

pub begun_spec : {M : Type 1} → statement M
begun_spec 𝓤 𝓛 𝓜 𝓡 wired =
    let H = 𝓛.H in
    let 𝓣 = tables 𝓤 H 𝓜 𝓡 𝓡.env in
    let c = clauses 𝓛 𝓜.mem 𝓡.returns in
    let fn = code.function in
    let Row : RattleType = words.the_row in
    let self = RefOf (0 ∷ []) tt (plain (λ _. Row)) (λ _. tt) in
    let number = plain (λ _. usize) in
    let hs : Stays ended.signature.params ended.kept = (stay_dropped self yes, (stay_dropped number yes, tt)) in
    proved 𝓛 ended hs c 𝓜 𝓡
    (Goes-dropped 𝓛 1 self yes (λ κs x f. refl), (Goes-dropped 𝓛 1 number yes (λ κs x f. refl), tt)) #self fn
    (code.unfolded 𝓤 H 𝓜 𝓡 wired)
    (λ κs. (shr_vals, (uint_vals w64, tt)))
    (λ κs. (shr_Tells (named 0) κs.0 Row, (uint_Tells w64, tt))) (λ κs qs bounds a gh are.
    let b : ℕ = a.0.ref_ptr.0 in
    let o : ℕ = a.0.ref_ptr.1 in
    let d : Announcing = a.0.now in
    let κ : Lft = κs.0 in
    let q : Share = qs.0 in
    let others : Fml = ftrue in
    let bit : ℕ = a.1.0 in
    let y : (walk_of 𝓛 ended hs c).Ghost = ((κs, qs, bounds, a, (vptr b o ∷ [], (vint w64 bit ∷ [], tt))), gh) in
    let Post : Val → SProp 𝓤 = (walk_of 𝓛 ended hs c).post y in
    let r : shown.the_row.Denot = record { marker = record {}; by = d; bucket = bit } in
    let Told : Type 0 = (d ≡ d) × (bit ≡ bit) in
    qed 𝓛 (((‵ (flft κ q) ⊛ ‵ others) ⊛ ‵ (owns (types_at ended.signature.params κs) a y.0.4))
    ∷ raw (fact 𝓤 (is_set d.begun bit ≡ true)) ∷ []) ∵
    keep ! (1 ∷ 0 ∷ []) $ heard ! (is_set d.begun bit ≡ true) (λ was.
    split ! $ keep ! (0 ∷ []) $ split ! $
    enter ! 𝓣.C 𝓣.Λ fn (vptr b o ∷ vint w64 bit ∷ []) Post $ alloc_all ! (λ l.
    pass_all ! refl ((tt, tt), ((tt, record { fits = are.1.0.1 }), tt)) $
    sets ! (agg ! (no_more !)) refl (tt, tt) $ sets ! (agg ! (and_then ! (get ! refl) (no_more !))) refl (tt, (tt, tt)) $
    join ! $ nothing ! $ use1 𝓛 (‵ (announced d bit)) (begun_announced 𝓛 d bit was) $
    use0 𝓛 (‵ ((Mark (shown.the_type).name).own_val (tt, tt) (token ∷ []))) (made (shown.the_type).name 𝓛) $
    fjoin ! $
    use0 𝓛 (raw (fact 𝓤 Told)) (fact_i 𝓤 Told (emp 𝓤) (refl, refl)) $
    nothing ! $ nothing ! $ fjoin ! $ nothing ! $ fjoin ! $
    -- [nothing; the fact; the evidence; the tokens]
    returns ! (look_at ! 0 refl) $ free_all ! refl $ keep ! (3 ∷ 0 ∷ 2 ∷ 1 ∷ []) $
    by ! (leaves 𝓛 ended hs c y token r (tt, (tt, tt)) (tt, (tt, tt))))))
