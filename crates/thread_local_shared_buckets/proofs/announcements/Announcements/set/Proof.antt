-- `set` is one atomic load of the word, and where the bucket's bit isn't set, one atomic or: the bit is set then, so the bucket
-- is announced for good.
use Rattle.thread_local_base.proofs.Names.{ℕ, ◌+◌, ◌^◌, [], ◌∷◌, refl, lit<, w64, named, Val}
use Rattle.thread_local_base.proofs.Names.{vint, vptr, SProp, via, Lft, Share, Fml}
use Rattle.thread_local_base.proofs.Names.{ftrue, fsep, flft, ‵, raw, ◌⊛◌, mean, at_ret, ◌$◌, ◌∵◌}
use Rattle.thread_local_base.proofs.Names.{ !, qed, by, move, keep, split, join, fsplit, fjoin, fpick, pick}
use Rattle.thread_local_base.proofs.Names.{use3, await, stop, fld, addr, lit, no_more}
use Rattle.thread_local_base.proofs.Names.{and_then, first, blocks, exec, Calls-last, returns, enter, alloc_all}
use Rattle.thread_local_base.proofs.Names.{pass_all, free_all, look_at, get, through, sets, agg, lands_last, env, tables}
use Rattle.thread_local_base.proofs.Names.{yes, RattleType, owns, types_at, plain, block_ptr, nothing}
use Rattle.thread_local_base.proofs.Names.{unhide, RefOf, shr_vals, shr_Tells, Stays, stay_dropped}
use Rattle.thread_local_base.proofs.Names.{walk_of, Goes-dropped, proved, leaves, fm, found, finds, tail, drop, use1, of_opd, bin, branches, rewrite, after}
use Rattle.thread_local_base.proofs.Walking.{lends_token, returns_token}
use Rattle.std.proofs.raw_atomic.Calls as calls
use Rattle.std.proofs.raw_atomic.Calls.{seq_cst}
use Rattle.std.proofs.Common.{◌≡◌, ◌*◌, ◌%◌, ◌<◌, ◌/◌, Bool, true, false, not, sym, ◌∙◌, arith}
use lib.Dec.{T}
use base.Fml.{finv, fbor}
use types.Run.{skips}
use Rattle.thread_local_base.specs.Bits.{is_set}
use Rattle.thread_local_base.specs.SharedWord.{word_invariant}
use Rattle.thread_local_base.proofs.Word.{shifted_right, masked_fits, is_set-test}
use base.Logic.{emp}
use denote.Builtin.{u64, usize}
use denote.Plain.{uint_vals, uint_Tells}
use denote.Steps.{heard}
use contract.Monad.{fact, fact_i}
use types.Kit.{use0}
use Rattle.thread_local_shared_buckets.specs.Announcing.{Announcing, announced, lies_with_word}
use Rattle.thread_local_ids.proofs.Markers.{Mark, token, made}
use Rattle.thread_local_shared_buckets.specs.contracts.announcements.Announced as shown
use Rattle.thread_local_shared_buckets.specs.contracts.announcements.Announcements as words
use Rattle.thread_local_shared_buckets.specs.contracts.announcements.Announcements.set.{ended, clauses}
use Rattle.thread_local_shared_buckets.specs.contracts.announcements.Announcements.set.Key.{name as #self}
use Rattle.thread_local_shared_buckets.proofs.AnnouncingLaws as step
use Rattle.thread_local_shared_buckets.proofs.AnnouncingLaws.{seen_of}
use Rattle.thread_local_shared_buckets.proofs.announcements.Announcements.set.Statement.{statement}
use Rattle.thread_local_shared_buckets.proofs.announcements.Announcements.set.Code as code

settled : (b : Bool) → T (not (not b)) → b ≡ true
settled true set = refl
settled false set = absurd set

pub set_spec : {M : Type 1} → statement M
set_spec 𝓤 𝓛 𝓜 𝓡 wired =
    let H = 𝓛.H in
    let 𝓣 = tables 𝓤 H 𝓜 𝓡 𝓡.env in
    let c = clauses 𝓛 𝓜.mem 𝓡.returns in
    let fn = code.function in
    let Row : RattleType = words.the_row in
    let self = RefOf (0 ∷ []) tt (plain (λ _. Row)) (λ _. tt) in
    let number = plain (λ _. usize) in
    let mask = plain (λ _. u64) in
    let hs : Stays ended.signature.params ended.kept = (stay_dropped self yes, (stay_dropped number yes, (stay_dropped mask yes, tt))) in
    proved 𝓛 ended hs c 𝓜 𝓡 (
      Goes-dropped 𝓛 1 self yes (λ κs x f. refl),
      (Goes-dropped 𝓛 1 number yes (λ κs x f. refl), (Goes-dropped 𝓛 1 mask yes (λ κs x f. refl), tt)),
    ) #self fn (code.unfolded 𝓤 H 𝓜 𝓡 wired)
    (λ κs. (shr_vals, (uint_vals w64, (uint_vals w64, tt))))
    (λ κs. (shr_Tells (named 0) κs.0 Row, (uint_Tells w64, (uint_Tells w64, tt)))) (λ κs qs bounds a gh are.
    let b : ℕ = a.0.ref_ptr.0 in
    let o : ℕ = a.0.ref_ptr.1 in
    let d : Announcing = a.0.now in
    let κ : Lft = κs.0 in
    let q : Share = qs.0 in
    let others : Fml = ftrue in
    let bit : ℕ = a.1.0 in
    let m : ℕ = a.1.1.0 in
    let bits : ℕ = 1 * 2 ^ bit % 2 ^ 64 in
    let y : (walk_of 𝓛 ended hs c).Ghost = ((κs, qs, bounds, a, (vptr b o ∷ [], (vint w64 bit ∷ [], (vint w64 m ∷ [], tt)))), gh) in
    let Post : Val → SProp 𝓤 = (walk_of 𝓛 ended hs c).post y in
    let r : shown.the_row.Denot = record { marker = record {}; by = d; bucket = bit } in
    let Told : Type 0 = (d ≡ d) × (bit ≡ bit) in
    qed 𝓛 (((‵ (flft κ q) ⊛ ‵ others) ⊛ ‵ (owns (types_at ended.signature.params κs) a y.0.4))
    ∷ raw (fact 𝓤 (bit < 63)) ∷ raw (fact 𝓤 (m ≡ bits)) ∷ []) ∵
    keep ! (1 ∷ 2 ∷ 0 ∷ []) $ heard ! (bit < 63) (λ within. heard ! (m ≡ bits) (λ is_mask.
    split ! $ split ! $ move ! (2 ∷ []) $ fsplit ! $ fsplit ! $ keep ! (1 ∷ 3 ∷ 4 ∷ []) $
    enter ! 𝓣.C 𝓣.Λ fn (vptr b o ∷ vint w64 bit ∷ vint w64 m ∷ []) Post $ alloc_all ! (λ l.
    pass_all ! refl ((tt, tt), ((tt, record { fits = are.1.0.1 }), ((tt, record { fits = are.1.1.0.1 }), tt))) $
    let Ev = env fn.locals l in
    unhide ! $ fpick ! (λ α. fsplit ! $ move ! (0 ∷ 2 ∷ []) $
    lends_token ! 𝓜 𝓡 κ α q $ await ! tt $ pick ! (λ s. split ! $
    -- [α's token, and the way back; the invariant; the other tokens]
    let J : Fml = fbor α (word_invariant (lies_with_word d) b (o + 0)) in
    move ! (2 ∷ []) $ use1 𝓛 (‵ (finv J) ⊛ ‵ (finv J)) (𝓛.invs.inv_dup J) $ split ! $
    let sees : ℕ → Fml = λ n. fsep (flft α s) (seen_of 𝓛 d bit (is_set n bit)) in
    let out : ℕ → Fml = λ n. fsep (flft α s) (announced d bit) in
    first ! $ blocks ! $ sets ! (addr ! (through ! refl (fld ! refl (stop !)))) refl (tt, tt) $
    sets ! (agg ! (and_then ! (lit ! tt) (no_more !))) refl (tt, (record { fits = lit< tt }, tt)) $
    nothing ! $ move ! (1 ∷ 3 ∷ 0 ∷ []) $
    use3 𝓛 (raw (𝓣.C _ (vptr b (o + 0) ∷ seq_cst ∷ []) (λ u. mean 𝓛 (found sees u))))
    (via 𝓤 _ (step.sees 𝓛 d b o α s bit within)
    (calls.loads 𝓛 𝓜 𝓡 (code.calls-std::sync::atomic::raw::load 𝓡.env wired) (block_ptr b (o + 0)) sees)) $
    Calls-last ! (fm 𝓛 𝓜 𝓡) (found sees) (and_then ! (get ! refl) (and_then ! (get ! refl) (no_more !))) (λ u.
    finds ! sees (λ n fits.
    lands_last ! refl (tt, record { fits = fits }) $
    exec ! 𝓣.C 𝓣.Λ Ev (tail fn.body) (at_ret Ev Post) $
    let here : bit < 64 = omega (arith, within) in
    sets ! (of_opd ! (get ! refl)) refl (tt, record { fits = fits }) $
    sets ! (of_opd ! (get ! refl)) refl (tt, record { fits = are.1.0.1 }) $
    sets ! (bin ! (get ! refl) (get ! refl) here) refl (tt, record { fits = shifted_right n bit fits }) $
    sets ! (bin ! (get ! refl) (lit ! tt) tt) refl (tt, record { fits = masked_fits (n / 2 ^ bit) 1 (shifted_right n bit fits) }) $
    sets ! (bin ! (get ! refl) (lit ! tt) tt) refl (tt, tt) $ fsplit ! $
    -- [α's token; what was seen; the invariant; the way back; the other tokens]
    first ! $ branches ! (get ! refl)
    (λ unset. move ! (1 ∷ []) $ drop ! $ nothing ! $
    blocks ! $ sets ! (addr ! (through ! refl (fld ! refl (stop !)))) refl (tt, tt) $ move ! (2 ∷ 1 ∷ 0 ∷ []) $
    use3 𝓛 (raw (𝓣.C _ (vptr b (o + 0) ∷ vint w64 m ∷ seq_cst ∷ []) (λ u. mean 𝓛 (found out u))))
    (via 𝓤 _ (step.sets 𝓛 d b o α s bit m within is_mask)
    (calls.ors 𝓛 𝓜 𝓡 (code.calls-std::sync::atomic::raw::fetch_or 𝓡.env wired) (block_ptr b (o + 0)) m are.1.1.0.1 out)) $
    sets ! (agg ! (and_then ! (lit ! tt) (no_more !))) refl (tt, (record { fits = lit< tt }, tt)) $
    Calls-last ! (fm 𝓛 𝓜 𝓡) (found out) (and_then ! (get ! refl) (and_then ! (get ! refl) (and_then ! (get ! refl) (no_more !)))) (λ v.
    finds ! out (λ k fit.
    lands_last ! refl (tt, record { fits = fit }) $
    exec ! 𝓣.C 𝓣.Λ Ev (after 7 fn.body) (at_ret Ev Post) $ fsplit ! $
    sets ! (agg ! (no_more !)) refl (tt, tt) $ sets ! (agg ! (and_then ! (get ! refl) (no_more !))) refl (tt, (tt, tt)) $
    move ! (0 ∷ 2 ∷ []) $ returns_token ! κ α q s $ await ! tt $
    -- [the token; that it is announced; the other tokens]
    move ! (1 ∷ []) $
    use0 𝓛 (‵ ((Mark (shown.the_type).name).own_val (tt, tt) (token ∷ []))) (made (shown.the_type).name 𝓛) $ fjoin ! $
    use0 𝓛 (raw (fact 𝓤 Told)) (fact_i 𝓤 Told (emp 𝓤) (refl, refl)) $
    move ! (2 ∷ 3 ∷ []) $ join ! $ nothing ! $ nothing ! $ fjoin ! $ nothing ! $ fjoin ! $ nothing ! $ fjoin ! $
    -- [nothing; the tokens; the fact; the evidence]
    returns ! (look_at ! 0 refl) $ free_all ! refl $ keep ! (1 ∷ 0 ∷ 3 ∷ 2 ∷ []) $
    by ! (leaves 𝓛 ended hs c y token r (tt, (tt, (tt, tt))) (tt, (tt, (tt, tt)))))))
    (λ set. skips ! $
    exec ! 𝓣.C 𝓣.Λ Ev (after 7 fn.body) (at_ret Ev Post) $ move ! (1 ∷ []) $
    rewrite ! 0 (λ (is : Bool). ‵ (seen_of 𝓛 d bit is)) (sym (is_set-test n bit) ∙ settled _ set) refl $ move ! (1 ∷ 0 ∷ 3 ∷ 4 ∷ []) $
    sets ! (agg ! (no_more !)) refl (tt, tt) $ sets ! (agg ! (and_then ! (get ! refl) (no_more !))) refl (tt, (tt, tt)) $
    move ! (0 ∷ 2 ∷ []) $ returns_token ! κ α q s $ await ! tt $
    -- [the token; that it is announced; the other tokens]
    move ! (1 ∷ []) $
    use0 𝓛 (‵ ((Mark (shown.the_type).name).own_val (tt, tt) (token ∷ []))) (made (shown.the_type).name 𝓛) $ fjoin ! $
    use0 𝓛 (raw (fact 𝓤 Told)) (fact_i 𝓤 Told (emp 𝓤) (refl, refl)) $
    move ! (2 ∷ 3 ∷ []) $ join ! $ nothing ! $ nothing ! $ fjoin ! $ nothing ! $ fjoin ! $ nothing ! $ fjoin ! $
    -- [nothing; the tokens; the fact; the evidence]
    returns ! (look_at ! 0 refl) $ free_all ! refl $ keep ! (1 ∷ 0 ∷ 3 ∷ 2 ∷ []) $
    by ! (leaves 𝓛 ended hs c y token r (tt, (tt, (tt, tt))) (tt, (tt, (tt, tt)))))))))))))
