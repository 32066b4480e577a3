-- `load_announced` looks into each bucket's invariant, and then loads the word once.
use Rattle.thread_local_base.proofs.Names.{ℕ, ◌+◌, ◌^◌, List, [], ◌∷◌, refl, lit<, w64, a_type, named, Val}
use Rattle.thread_local_base.proofs.Names.{vint, vptr, SProp, via, Lft, Share, Fml, inst_fn}
use Rattle.thread_local_base.proofs.Names.{ftrue, fsep, flft, ‵, raw, ◌⊛◌, later, mean, at_ret, ◌$◌, ◌∵◌}
use Rattle.thread_local_base.proofs.Names.{ !, qed, by, move, keep, drop, split, join, fsplit, fsplit3, fjoin, fpick, pick}
use Rattle.thread_local_base.proofs.Names.{use3, await, feq_i, flt_i, stop, fld, addr, lit, of_opd, no_more}
use Rattle.thread_local_base.proofs.Names.{and_then, first, blocks, exec, Calls-last, returns, enter, alloc_all}
use Rattle.thread_local_base.proofs.Names.{pass_all, free_all, look_at, get, through, sets, agg, lands_last, env, tables}
use Rattle.thread_local_base.proofs.Names.{yes, RattleType, owns, types_at, plain, block_ptr, nothing}
use Rattle.thread_local_base.proofs.Names.{unhide, param, layouts, RefOf, shr_vals, shr_Tells, Stays, stay_dropped}
use Rattle.thread_local_base.proofs.Names.{walk_of, Goes-dropped, proved, leaves, fm, found, finds, tail}
use Rattle.thread_local_base.proofs.Walking.{knows, lends_token, returns_token}
use Rattle.std.proofs.raw_atomic.Calls as calls
use Rattle.std.proofs.raw_atomic.Calls.{seq_cst}
use Rattle.std.proofs.Common.{◌≡◌, true, false}
use contract.Monad.{fact}
use denote.Array.{Array}
use denote.Builtin.{ArrayOf}
use denote.Memory.{mem}
use denote.Steps.{heard}
use types.Kit.{feq_l, split3}
use Rattle.thread_local_base.specs.Bits.{is_set}
use Rattle.thread_local_base.specs.Fact.{fact as said_fact}
use Rattle.thread_local_ids.specs.TokenViews.{TokenView}
use Rattle.thread_local_ids.specs.TokenLists.{tell_each}
use Rattle.thread_local_ids.specs.contracts.tokens.told_list.Told as Told
use Rattle.thread_local_ids.proofs.TokenListLaws.{told_shown}
use types.Kit.{use1}
use Rattle.thread_local_shared_buckets.specs.Announcing.{Announcing, BeginsWithFirst}
use Rattle.thread_local_shared_buckets.specs.Shared.{BucketView}
use Rattle.thread_local_shared_buckets.specs.TableView.{TableView, table_view_of, AreOfTable}
use Rattle.thread_local_shared_buckets.specs.contracts.shared_bucket.SharedBucket as one_bucket
use Rattle.thread_local_shared_buckets.specs.contracts.announcements.Announcements as words
use Rattle.thread_local_shared_buckets.specs.contracts.announcements.load_announced.{ended, clauses}
use Rattle.thread_local_shared_buckets.specs.contracts.announcements.load_announced.Key.{name as #self}
use Rattle.thread_local_shared_buckets.proofs.AnnouncedTokens.{all_sure, all_known, Finds, loads}
use Rattle.thread_local_shared_buckets.proofs.Lists.{named_are_of}
use Rattle.thread_local_shared_buckets.proofs.announcements.load_announced.Statement.{statement}
use Rattle.thread_local_shared_buckets.proofs.announcements.load_announced.Code as code

pub load_announced_spec : {M : Type 1} → statement M
load_announced_spec 𝓤 𝓛 𝓜 𝓡 wired T L =
    let H = 𝓛.H in
    let 𝓣 = tables 𝓤 H 𝓜 𝓡 𝓡.env in
    let R : RattleType = param 0 T in
    let En = ended T in
    let c = clauses T 𝓛 𝓜.mem 𝓡.returns in
    let inst = layouts (a_type ∷ []) (T, tt) in
    let fn = inst_fn inst code.function in
    let S : RattleType = one_bucket.the_row R in
    let Line : RattleType = Array S 63 in
    let Row : RattleType = words.the_row in
    let self = RefOf (0 ∷ []) tt (plain (λ _. Row)) (λ _. tt) in
    let all = RefOf (1 ∷ []) tt (ArrayOf (plain (λ _. S)) (λ _. tt) 63) (λ _. tt) in
    let tolds = RefOf (2 ∷ []) tt (plain (λ _. Told.the_row R)) (λ _. tt) in
    let hs : Stays En.signature.params En.kept = (stay_dropped self yes, (stay_dropped all yes, (stay_dropped tolds yes, tt))) in
    proved 𝓛 En hs c 𝓜 𝓡 (
      Goes-dropped 𝓛 4 self yes (λ κs x f. refl),
      (Goes-dropped 𝓛 4 all yes (λ κs x f. refl), (Goes-dropped 𝓛 4 tolds yes (λ κs x f. refl), tt)),
    )
    (#self inst) fn (code.unfolded 𝓤 H 𝓜 𝓡 wired (T, tt))
    (λ κs. (shr_vals, (shr_vals, (shr_vals, tt))))
    (λ κs. (shr_Tells (named 0) κs.0 Row, (shr_Tells (named 1) κs.1.0 Line, (shr_Tells (named 2) κs.1.1.0 (Told.the_row R), tt))))
    (λ κs qs bounds a gh are.
    let b : ℕ = a.0.ref_ptr.0 in
    let o : ℕ = a.0.ref_ptr.1 in
    let m : Announcing = a.0.now in
    let ds : List BucketView = a.1.0.now in
    let ts : List (TokenView R.Denot) = a.1.1.0.now in
    let κ : Lft = κs.0 in
    let q : Share = qs.0 in
    let β : Lft = κs.1.0 in
    let r : Share = qs.1.0 in
    let further : Fml = fsep (flft κs.1.1.0 qs.1.1.0) (fsep (flft κs.1.1.1.0 qs.1.1.1.0) ftrue) in
    let others : Fml = fsep (flft β r) further in
    let pa : Val = vptr a.1.0.ref_ptr.0 a.1.0.ref_ptr.1 in
    let pt : Val = vptr a.1.1.0.ref_ptr.0 a.1.1.0.ref_ptr.1 in
    let y : (walk_of 𝓛 En hs c).Ghost = ((κs, qs, bounds, a, (vptr b o ∷ [], (pa ∷ [], (pt ∷ [], tt)))), gh) in
    let Post : Val → SProp 𝓤 = (walk_of 𝓛 En hs c).post y in
    let Named : Type 0 = AreOfTable ds m in
    let Begins : Type 0 = BeginsWithFirst m in
    qed 𝓛 (((‵ (flft κ q) ⊛ ‵ others) ⊛ ‵ (owns (types_at En.signature.params κs) a y.0.4))
    ∷ raw (fact 𝓤 _) ∷ raw (fact 𝓤 _) ∷ raw (fact 𝓤 Named) ∷ raw (fact 𝓤 Begins) ∷ []) ∵
    keep ! (3 ∷ 4 ∷ 0 ∷ []) $ heard ! Named (λ are_named. heard ! Begins (λ begins.
    let v : TableView = table_view_of ds are_named.reserved in
    split ! $ split ! $ move ! (2 ∷ []) $ fsplit3 ! $ fsplit ! $ move ! (2 ∷ []) $ fsplit ! $ move ! (4 ∷ []) $ fsplit ! $ fsplit ! $
    keep ! (1 ∷ 4 ∷ 6 ∷ 7 ∷ 8 ∷ []) $ unhide ! $
    use1 𝓛 (‵ (tell_each R ts)) (told_shown 𝓛 R ts a.1.1.0.ref_ptr.0 a.1.1.0.ref_ptr.1 κs.1.1.0) $ move ! (1 ∷ []) $ unhide ! $ fsplit ! $ feq_l ! (λ long.
    -- [what `&`s to the buckets hold; what the tokens tell; what the `&` to the word holds; its token; the other tokens]
    enter ! 𝓣.C 𝓣.Λ fn (vptr b o ∷ pa ∷ pt ∷ []) Post $ alloc_all ! (λ l.
    pass_all ! refl ((tt, tt), ((tt, tt), ((tt, tt), tt))) $ let Ev = env fn.locals l in
    move ! (4 ∷ []) $ fsplit ! $ move ! (2 ∷ 0 ∷ 3 ∷ []) $
    use3 𝓛 (later (‵ (flft β r) ⊛ ‵ (tell_each R ts) ⊛ ‵ (all_sure 𝓛 R ts ds)))
    (all_known 𝓛 R ts 𝓜 𝓡 β r ds (mem S).size a.1.0.ref_ptr.0 a.1.0.ref_ptr.1) $ await ! tt $ split3 ! $
    -- [the buckets' token; what the tokens tell; what is sure; further tokens; what the `&` to the word holds; its token]
    move ! (1 ∷ []) $ drop ! $ move ! (0 ∷ 2 ∷ []) $ fjoin ! $ move ! (2 ∷ []) $ unhide ! $ fpick ! (λ α. fsplit ! $
    -- [the word's sharing lasts; its invariant; the other tokens; what is sure; the word's token]
    move ! (0 ∷ 4 ∷ []) $
    lends_token ! 𝓜 𝓡 κ α q $ await ! tt $ pick ! (λ s. split ! $
    -- [α's token, and the way back; the invariant; the other tokens; what is sure]
    let out : ℕ → Fml = λ n. fsep (flft α s) (said_fact (Finds 𝓛 R ts v n)) in
    first ! $ blocks ! $ sets ! (addr ! (through ! refl (fld ! refl (stop !)))) refl (tt, tt) $
    sets ! (agg ! (and_then ! (lit ! tt) (no_more !))) refl (tt, (record { fits = lit< tt }, tt)) $
    move ! (2 ∷ 0 ∷ 4 ∷ []) $
    use3 𝓛 (raw (𝓣.C _ (vptr b (o + 0) ∷ seq_cst ∷ []) (λ u. mean 𝓛 (found out u))))
    (via 𝓤 _ (loads 𝓛 R ts v m begins ds long (named_are_of ds m are_named.reserved long are_named.are) b o α s)
    (calls.loads 𝓛 𝓜 𝓡 (code.calls-std::sync::atomic::raw::load 𝓡.env wired) (block_ptr b (o + 0)) out)) $
    Calls-last ! (fm 𝓛 𝓜 𝓡) (found out) (and_then ! (get ! refl) (and_then ! (get ! refl) (no_more !))) (λ u.
    finds ! out (λ n fits.
    lands_last ! refl (tt, record { fits = fits }) $
    exec ! 𝓣.C 𝓣.Λ Ev (tail fn.body) (at_ret Ev Post) $
    sets ! (of_opd ! (get ! refl)) refl (tt, record { fits = fits }) $
    fsplit ! $ move ! (0 ∷ 2 ∷ []) $
    returns_token ! κ α q s $ await ! tt $
    -- [the token; what was found; the other tokens]
    move ! (1 ∷ []) $ fpick ! (λ saw. drop ! $ join ! $
    flt_i ! n (2 ^ 64) fits $ feq_i ! (List Val) (vint w64 n ∷ []) (vint w64 n ∷ []) refl $ fjoin ! $
    knows ! _ saw.told $ knows ! (is_set n 63 ≡ false) saw.none_past $ join ! $ knows ! (is_set n 0 ≡ true) saw.first $ join ! $
    nothing ! $ nothing ! $ fjoin ! $ nothing ! $ fjoin ! $ nothing ! $ fjoin ! $
    -- [nothing; the facts; the word; the tokens]
    returns ! (look_at ! 0 refl) $ free_all ! refl $ keep ! (3 ∷ 0 ∷ 2 ∷ 1 ∷ []) $
    by ! (leaves 𝓛 En hs c y (vint w64 n) n (tt, (tt, (tt, tt))) (tt, (tt, (tt, tt))))))))))))))
