-- `notes` is a ghost step under the bucket's invariant: a claim that has found no value contradicts a
-- note of one, and one that holds a value has its own note of it.
use Rattle.thread_local_base.proofs.Names.{◌≡◌, ℕ, [], ◌∷◌, refl, Option, dnil, a_type, named}
use Rattle.thread_local_base.proofs.Names.{vunit, inst_fn, Lft, Share, Fml, ftrue, fsep, flft, ‵}
use Rattle.thread_local_base.proofs.Names.{raw, ◌⊛◌, given, later, ◌$◌, ◌∵◌, !, qed, by, move, keep, split}
use Rattle.thread_local_base.proofs.Names.{split3, join, fsplit, fsplit3, fjoin, fjoin3, learn, await, use3}
use Rattle.thread_local_base.proofs.Names.{feq_i, of_opd, unit_lit, returns, enter, alloc_all, pass_all}
use Rattle.thread_local_base.proofs.Names.{free_all, look_at, sets, fact, RattleType, owns}
use Rattle.thread_local_base.proofs.Names.{types_at, plain, named_lft, opens, closes, nothing, heard, param}
use Rattle.thread_local_base.proofs.Names.{bounded, mut_vals, mut_Tells, Stays}
use Rattle.thread_local_base.proofs.Names.{stay_ref, walk_of, Goes-ref, proved, leaves}
use Rattle.std.proofs.Common.{true}
use base.Stored.{Gv}
use Rattle.thread_local_base.specs.Learnt.{Learnt}
use Rattle.thread_local_ids.specs.Rights.{note_owns}
use Rattle.thread_local_ids.specs.Sharings.{is_first, left_of}
use Rattle.thread_local_shared_buckets.specs.Known.{HasLooked, value_held}
use Rattle.thread_local_shared_buckets.specs.Claims.{ClaimFields, claim_fields, claim_owns}
use Rattle.thread_local_shared_buckets.proofs.Agreed as agreed
use Rattle.thread_local_shared_buckets.specs.contracts.claimed.ClaimedSlot as claim
use Rattle.thread_local_shared_buckets.specs.contracts.claimed.ClaimedSlot.notes.{ended, clauses, Key.name as #self}
use Rattle.thread_local_shared_buckets.proofs.claimed.ClaimedSlot.notes.Statement.{statement}
use Rattle.thread_local_shared_buckets.proofs.claimed.ClaimedSlot.notes.Code as code
use Rattle.thread_local_base.proofs.Walking.{knows}

pub notes_spec : {M : Type 1} → statement M
notes_spec 𝓤 𝓛 𝓜 𝓡 wired X L =
    let R : RattleType = param 0 X in let En = ended X in let c = clauses X 𝓛 𝓜.mem 𝓡.returns in
    let inst = bounded (a_type ∷ []) (X, tt) dnil in
    let fn = inst_fn inst code.function in let closed = code.unfolded 𝓤 𝓛.H 𝓜 𝓡 wired (X, tt) in
    let row = plain (λ κs. claim.the_row (named_lft 3 1 tt κs) R) in
    let hs : Stays En.signature.params En.kept = (stay_ref (0 ∷ []) tt row, tt) in
    proved 𝓛 En hs c 𝓜 𝓡 (Goes-ref 𝓛 3 0 tt row, tt) (#self inst) fn closed
    (λ κs. (mut_vals, tt))
    (λ κs. (mut_Tells (named 0) κs.0 (claim.the_row (named_lft 3 1 tt κs) R), tt))
    (λ κs qs bounds a gh are.
    let ℓ = named_lft 3 1 tt κs in let G : RattleType = claim.the_row ℓ R in let b : ℕ = a.0.ref_ptr.0 in
    let o : ℕ = a.0.ref_ptr.1 in let κ : Lft = κs.0 in let β : Lft = κs.1.0 in let q : Share = qs.1.0 in let h = a.0.now in
    let l₀ : Learnt X.Denot = h.learnt in
    let f : ClaimFields = claim_fields h.id h.index h.bucket h.at h.sharing h.word h.reserved in
    let others : Fml = fsep (flft κs.1.1.0 qs.1.1.0) ftrue in
    let y : (walk_of 𝓛 En hs c).Ghost = ((κs, qs, bounds, a, (mut_vals a.0, tt)), gh) in
    let Known : Type 0 = HasLooked l₀ in
    let Left : Type 0 = is_first h.sharing h.table ≡ true → ◌≡◌ {A = Option Gv} h.left (left_of R (value_held l₀)) in
    let Same : Type 0 = h ≡ h in
    qed 𝓛 (((‵ (flft κ qs.0) ⊛ ‵ (flft β q) ⊛ ‵ others)
    ⊛ ‵ (owns (types_at En.signature.params κs) a y.0.4))
    ∷ raw (fact 𝓤 _) ∷ raw (fact 𝓤 Known) ∷ []) ∵
    keep ! (2 ∷ 0 ∷ []) $ heard ! Known (λ known.
    split ! $ split3 ! $ move ! (3 ∷ []) $ fsplit ! $ keep ! (0 ∷ 2 ∷ 3 ∷ 4 ∷ []) $
    -- [the reference; its token; the bucket's; the others]
    enter ! _ _ _ _ _ $ alloc_all ! (λ l. pass_all ! refl ((tt, tt), tt) $
    fsplit3 ! $ move ! (1 ∷ 2 ∷ 3 ∷ []) $ opens ! tt G b o (λ us.
    -- [its cell; what it owns; the open borrow, in three entries; its first part; the bucket's token; the others]
    move ! (1 ∷ []) $ fsplit ! $ move ! (1 ∷ []) $ fsplit ! $ move ! (0 ∷ 1 ∷ 8 ∷ []) $
    use3 𝓛 (later (given Left (‵ (claim_owns R β h.table f l₀ h.state) ⊛ ‵ (note_owns h.table h.id h.left) ⊛ ‵ (flft β q))))
    (agreed.notes 𝓛 R β h.table f h.state 𝓡 h.left l₀ known q) $
    await ! tt $ learn ! (λ left. split3 ! $ fjoin ! $
    -- [what it owns beside its fields; the bucket's token; its fields; its cell; ..]
    move ! (2 ∷ 0 ∷ []) $ fjoin ! $ move ! (2 ∷ 0 ∷ 3 ∷ 4 ∷ 5 ∷ []) $ closes ! tt G h us b o $
    -- [two parts of the reference; its token; the bucket's token; the first part; the others]
    sets ! (of_opd ! (unit_lit !)) refl (tt, tt) $
    move ! (4 ∷ 0 ∷ 1 ∷ []) $ fjoin3 ! $ nothing ! $ move ! (1 ∷ 0 ∷ []) $
    fjoin ! $ move ! (2 ∷ 3 ∷ []) $ join ! $ move ! (2 ∷ 0 ∷ []) $ join ! $ move ! (1 ∷ 0 ∷ []) $
    -- [the reference; the tokens]
    feq_i ! _ (vunit ∷ []) _ refl $
    knows ! Left left $
    knows ! Same refl $ join ! $
    -- [the facts; the result; the reference; the tokens]
    returns ! (look_at ! 0 refl) $ free_all ! refl $ keep ! (3 ∷ 2 ∷ 1 ∷ 0 ∷ []) $
    by ! (leaves 𝓛 En hs c y vunit tt (h, tt) (tt, tt)))))))
