-- `exchange` lends the block for a lifetime of its own, and ends that lifetime if another block was
-- installed first. Then the claim finds its slot empty, and else as it is in the block.
use Rattle.thread_local_base.proofs.Names.{fpack, vint, w64, usize, uint_vals, uint_Tells, yes, ◌≡◌, ℕ, ◌+◌, ◌^◌}
use Rattle.thread_local_base.proofs.Names.{Bool, false, sem, List, [], ◌∷◌, refl, sym, ap, ◌∙◌, lit<, Option, None, Some}
use Rattle.thread_local_base.proofs.Names.{Body, a_type, Val, vptr, vcons, vnil, inst_fn, dnil, SProp, emp, via}
use Rattle.thread_local_base.proofs.Names.{Lft, Share, Fml, ftrue, fsep, flft, fbor, ‵, raw, ◌⊛◌, some, given}
use Rattle.thread_local_base.proofs.Names.{later, mean, at_ret, any_q, ◌$◌, ◌∵◌, !, qed, by, move, keep, drop, split}
use Rattle.thread_local_base.proofs.Names.{join, fsplit, fsplit3, fjoin, fpick, pick, learn, rewrite, use0, use1}
use types.Kit.{split3}
use Rattle.thread_local_base.proofs.Names.{use3, await, group, stop, fld, addr, lit, of_opd, no_more, and_then}
use Rattle.thread_local_base.proofs.Names.{first, blocks, exec, switches_on, returns, enter, alloc_all, pass_all, mean, show, updating, now}
use Rattle.thread_local_base.proofs.Names.{free_all, look_at, get, get_in, get_tag, through, sets, sets_last}
use Rattle.thread_local_base.proofs.Names.{lands_last, env, is, agg, sub, whole, live, vrt, in_variant, tables, fact}
use Rattle.thread_local_base.proofs.Names.{fact_i, no, RattleType, owns, types_at, plain, Ptr, block_ptr, null_ptr}
use Rattle.thread_local_base.proofs.Names.{block_of, count_of, at_block, InBlock, ptr_val, nothing, heard, param}
use Rattle.thread_local_base.proofs.Names.{layout, Stays, stay_dropped, walk_of, Goes-dropped, proved, leaves, fm, RefOf, shr_vals, shr_Tells, unhide}
use Rattle.thread_local_base.proofs.Names.{after, u64}
use Rattle.thread_local_base.proofs.Walking.{lends_token, returns_token}
use Rattle.std.proofs.Common.{zero, suc, ◌++◌, ◌-◌, arith, IfSome, length, length-set, ◌*◌, ◌<◌, ◌≤◌, subst}
use Rattle.std.specs.Prelude.{MatchOption, slice_set}
use Rattle.std.proofs.lemmas.List.{length-replicate}
use seplogic.Ra.Ura.{Ura}
use mir.Syntax.{Ty}
use base.Logic.{ent, guard}
use types.Logic.{Logic}
use types.Kit.{check, done, runs, Goal}
use types.Kit.{Post as Post'}
use types.Run.{bin, size_word}
use types.Part.{store_in}
use types.SemTy.{Body as Owner}
use Rattle.thread_local_base.proofs.Names.{opens, closes, peeks, Is, shows, cell_at, stay_ref, Goes-ref, load}
use Rattle.thread_local_base.proofs.Names.{look_in, assigns, feq_i, mut_vals, mut_Tells, named}
use Rattle.thread_local_base.proofs.Names.{full_share, fjoin3, fobs, fauth, GName, mem, id⊢}
use base.Stored.{Gv}
use base.Fml.{fobor}
use types.Kit.{Item}
use mir.Val.{vnull, vstruct}
use base.Logic.{snd∗, never}
use base.Fml.{Incl, finv, ffalse}
use base.Before.{before}
use prog.Wp.{Wp, after_seq, at_return}
use types.Na.{before_dup}
use types.Run.{Calls-last}
use denote.Signature.{named_lft}
use denote.RawPtr.{RawPtr, in_a_block}
use denote.Param.{bounded}
use denote.Param.Laws.{Laws, param_laws}
use types.Kit.{Seq, Go, prop}
use types.ByLocal.{holding, forget_but}
use contract.Running.{Running, MachineTables}
use prog.Model.{Model}
use prog.Wp.{Env}
use mir.Syntax.{Fn, Local}
use denote.Triple.Clauses.{Ended, Clauses}
use denote.Triple.Entry.{Args, on_entry}
use contract.Lifetimes.{Lfts, Shares, AllOutlive}
use base.Logic.{sep, wand}
use prog.Wp.{WpFn}
use prog.Wired.{Wired}
use denote.Ref.{NamedLft}
use denote.Struct.Tuple.{Tuple}
use Rattle.std.proofs.ResultValues.{and_tt}
use Rattle.std.proofs.option.Made.{Some-of, none_of}
use Rattle.std.proofs.alloc.Shapes.{head, arm_body}
use Rattle.std.proofs.cell.Inside.{Good}
use Rattle.std.proofs.raw_atomic.Calls.{seq_cst}
use Rattle.std.proofs.raw_atomic.PtrCalls as calls
use Rattle.std.proofs.raw_atomic.PtrCalls.{seq_cst_good}
use Rattle.std.specs.contracts.option.Option as Opt
use Rattle.std.specs.declared.result.Result.TheVariants.{Ok, Err}
use Rattle.std.specs.contracts.alloc.Global as heap
use Rattle.std.specs.contracts.impls.GlobalAllocator.TheImpl.{ghosts}
use Rattle.thread_local_base.specs.Place.{bucket_of}
use Rattle.thread_local_base.proofs.PlaceLaws.{place-id_at}
use Rattle.thread_local_buckets.specs.Slots.{block_owns, empty_slots, slot_value, stride, Fits}
use Rattle.thread_local_buckets.proofs.Flags.{value_near}
use Rattle.thread_local_base.specs.Fact.{fact as said_fact}
use Rattle.thread_local_buckets.specs.contracts.block.Block as block
use Rattle.thread_local_buckets.proofs.BlockFields as fields
use Rattle.thread_local_base.specs.IdMoves.{IdMove, Take, held_after, noted}
use Rattle.thread_local_ids.specs.Rights.{right_owns, note_owns, page_owns, reached_owns, seen_by, taken_id}
use Rattle.thread_local_ids.specs.Taken.{IsRightTo}
use Rattle.thread_local_ids.specs.contracts.rights.right.Right as Right
use Rattle.thread_local_ids.proofs.ReachedElements.{shows_reached, taken_reached}
use Rattle.thread_local_ids.specs.Sharings.{Belongs, left_after}
use Rattle.thread_local_ids.proofs.Markers.{token}
use Rattle.thread_local_ids.proofs.Markers.{told as token_told}
use Rattle.thread_local_shared_buckets.specs.Announcing.{Announcing, announced}
use Rattle.thread_local_shared_buckets.specs.contracts.announcements.Announced as Announced
use Rattle.thread_local_shared_buckets.proofs.GrownLaws.{shown_reached}
use Rattle.thread_local_shared_buckets.specs.Shared.{name_at, BucketView, Turn, len, bucket_invariant, shown_by, grown}
use Rattle.thread_local_shared_buckets.specs.Known.{found_as, state_of}
use Rattle.thread_local_shared_buckets.proofs.Loads.{glimpse}
use Rattle.thread_local_shared_buckets.proofs.Offers as offers
use Rattle.thread_local_shared_buckets.proofs.Offers.{with_first, parted_slots}
use Rattle.thread_local_shared_buckets.proofs.RowFields.{word_laws}
use Rattle.thread_local_base.specs.Learnt.{Learnt, Missing, Vacant}
use Rattle.thread_local_shared_buckets.specs.Claims.{ClaimFields, claim_fields, IsOf, value_at, has, claim_owns}
use Rattle.thread_local_shared_buckets.specs.contracts.claimed.ClaimedSlot as claim
use Rattle.thread_local_shared_buckets.specs.contracts.claimed.ClaimedSlot.exchange.{ended, clauses}
use Rattle.thread_local_shared_buckets.specs.contracts.claimed.ClaimedSlot.exchange.Key.{name as #self}
use Rattle.thread_local_shared_buckets.proofs.Installs.{installs, installs_own}
use Rattle.thread_local_shared_buckets.proofs.ClaimedFields.{Kept, kept_of, value_of, FieldsType, fields_of, told, made}
use Rattle.thread_local_shared_buckets.proofs.ClaimedFields.{lies_at, spaced, spaced_is}
use Rattle.thread_local_shared_buckets.proofs.claimed.ClaimedSlot.exchange.Statement.{statement}
use Rattle.thread_local_shared_buckets.proofs.claimed.ClaimedSlot.exchange.Code as code

-- all locals but the first
abbrev behind_first : List Local → List Local
behind_first [] = []
behind_first (first_of ∷ ls) = ls

-- a block of n slots fits in memory
fits_so : {M : Type 1} {𝓤 : Ura M} (𝓛 : Logic 𝓤) (R : RattleType) (token : Ty → Ptr → Fml) (p : Ptr)
    (cs : List (Option R.Denot)) (n : ℕ) → length cs ≡ n
    → ent 𝓤 (sem 𝓛 (block_owns R token p cs 0)) (guard 𝓤 (Fits R n) (sem 𝓛 (block_owns R token p cs 0)))
fits_so 𝓛 R token p cs n long =
    qed 𝓛 (‵ (block_owns R token p cs 0) ∷ []) ∵ fsplit ! $ fpick ! (λ so. drop ! $
    check ! (subst (Fits R) long so.1) $
    nothing ! $ fpack ! (InBlock p × Fits R (length cs)) (λ _. ftrue) so $ fjoin ! $ done !)

-- the name of the slot behind these
name_behind : (before : List ℕ) (η : ℕ) (behind : List ℕ) (i : ℕ) → length before ≡ i → name_at (before ++ (η ∷ behind)) i ≡ η
name_behind [] η behind zero long = refl
name_behind [] η behind (suc i) long = absurd (omega (arith, long))
name_behind (μ ∷ before) η behind zero long = absurd (omega (arith, long))
name_behind (μ ∷ before) η behind (suc i) long = name_behind before η behind i (omega (arith, long))

-- What is left once the arms have answered, which is the same after both: the address of the slot, and the claim.
module _ {M : Type 1} {𝓤 : Ura M} (𝓛 : Logic 𝓤) (𝓜 : Model 𝓤 𝓛.H) (𝓡 : Running 𝓤 𝓛.H 𝓜) (X : RattleType) where
  open 𝓛 use {H}

  abbrev 𝓣 : MachineTables 𝓤 H 𝓜
  𝓣 = tables 𝓤 H 𝓜 𝓡 𝓡.env

  abbrev R : RattleType
  R = param 0 X

  abbrev Z : RattleType
  Z = heap.the_row

  abbrev Bl : RattleType
  Bl = block.the_row R Z ghosts

  abbrev Back : RattleType
  Back = Opt.the_row Bl

  abbrev Triple : RattleType
  Triple = Tuple (RawPtr ∷ u64 ∷ Back ∷ [])

  abbrev En : Ended
  En = ended X

  abbrev stayed : Stays En.signature.params En.kept
  stayed =
      let self = plain (λ κs. claim.the_row (named_lft 4 1 tt κs) R) in let number = plain (λ _. usize) in let lot = plain (λ _. Bl) in
      let shown = RefOf (2 ∷ []) tt (plain (λ _. Right.the_row)) (λ _. tt) in
      let known = plain (λ _. Announced.the_row) in (
        stay_ref (0 ∷ []) tt self,
        (
          stay_dropped number yes,
          (
            stay_dropped lot no,
            (
              stay_dropped shown yes,
              (stay_dropped known yes, (stay_dropped number yes, tt)),
            ),
          ),
        ),
      )

  abbrev c : Clauses 𝓤 En
  c = clauses X 𝓛 𝓜.mem 𝓡.returns

  abbrev fn : Fn
  fn = inst_fn (bounded (a_type ∷ []) (X, tt) dnil) code.function

  module _ (κs : Lfts 4) (qs : Shares 4) (bounds : AllOutlive 4 En.signature.outlives κs) (a : Args En.signature κs) (gh : (c κs a).ghost) where
    abbrev h : (claim.the_row (named_lft 4 1 tt κs) R).Denot
    h = a.0.now

    abbrev rb : ℕ
    rb = a.0.ref_ptr.0

    abbrev ro : ℕ
    ro = a.0.ref_ptr.1

    abbrev β : Lft
    β = κs.1.0

    abbrev q : Share
    q = qs.1.0

    abbrev υ : Lft
    υ = κs.1.1.1.0

    abbrev r : Share
    r = qs.1.1.1.0

    abbrev others : Fml
    others = fsep (flft κs.1.1.0 qs.1.1.0) (fsep (flft υ r) ftrue)

    abbrev ℓ : NamedLft
    ℓ = named_lft 4 1 tt κs

    abbrev G : RattleType
    G = claim.the_row ℓ R

    abbrev D : RattleType
    D = FieldsType ℓ R

    abbrev ix : ℕ
    ix = a.1.0

    abbrev x : Bl.Denot
    x = a.1.1.0

    abbrev p : Ptr
    p = x.at

    abbrev nb : ℕ
    nb = block_of p

    abbrev no' : ℕ
    no' = count_of p

    abbrev new : Ptr
    new = block_ptr nb no'

    abbrev bv : Val
    bv = fields.block_val p

    abbrev had : Right.the_row.Denot
    had = a.1.1.1.0.now

    abbrev seen : Val
    seen = vptr a.1.1.1.0.ref_ptr.0 a.1.1.1.0.ref_ptr.1

    abbrev Had : Type 0
    Had = IsRightTo h.table h.id had

    -- all that was done by the take of the id
    abbrev by_then : List IdMove
    by_then = noted had.before Take

    abbrev says : Announced.the_row.Denot
    says = a.1.1.1.1.0

    abbrev Says : Type 0
    Says = (says.by ≡ h.word) × (says.bucket ≡ bucket_of h.id)

    abbrev OfTable : Type 0
    OfTable = Belongs h.sharing h.table

    -- the number of what a look at the claim's slot in the block finds
    abbrev sn : ℕ
    sn = a.1.1.1.1.1.0

    abbrev IsState : Type 0
    IsState = sn ≡ state_of (found_as (slot_value x.slots h.index))

    abbrev Made : Type 0
    Made = (x.left ≡ 0) × (slice_set x.slots h.index None ≡ empty_slots (2 ^ bucket_of h.id))

    abbrev w : Ptr
    w = h.bucket

    abbrev wb : ℕ
    wb = block_of w

    abbrev wo : ℕ
    wo = count_of w

    abbrev i : ℕ
    i = h.index

    abbrev y : (walk_of 𝓛 En stayed c).Ghost
    y = ((κs, qs, bounds, a, (vptr rb ro ∷ [], (vint w64 ix ∷ [], (bv ∷ [], (seen ∷ [], (token ∷ [], (vint w64 sn ∷ [], tt))))))), gh)

    abbrev Post : Val → SProp 𝓤
    Post = (walk_of 𝓛 En stayed c).post y

    -- the claim's cell, and its open borrow
    abbrev opened : Kept → List (Item 𝓤)
    opened kept =
        let γ : GName = a.0.ghost_name in
        ‵ (cell_at full_share G.mir (value_of kept ∷ []) rb ro) ∷ ‵ (fobor κs.0 qs.0 (Owner (mem G) rb ro γ))
        ∷ ‵ (fobs γ (G.coded.code h)) ∷ ‵ (fauth γ (G.coded.code h)) ∷ []

    abbrev Claimed : Learnt X.Denot → ℕ → ℕ → ℕ → Fml
    Claimed knows state pb o =
        claim_owns R β h.table
        (claim_fields h.id h.index (block_ptr wb wo) (value_at R (block_ptr pb o) h.index) h.sharing h.word h.reserved)
        knows state

    -- the same, with the note of the id
    abbrev Owned : Learnt X.Denot → ℕ → ℕ → ℕ → Option Gv → Fml
    Owned knows state pb o note = fsep (Claimed knows state pb o) (note_owns h.table h.id note)

    abbrev answer : ℕ → ℕ → ℕ → Val → Val
    answer pb o k back = vstruct (vcons (vptr pb o) (vcons (vint w64 k) (vcons back vnil)))

    module _ (l : ℕ → ℕ) where
      abbrev Ev : Env 𝓤 H
      Ev = env fn.locals l

      ends : (pb o k : ℕ) → k < 2 ^ 64 → (back : Val) → Good (layout Back) back → (opt : Back.Denot) (knows : Learnt X.Denot) (note : Option Gv)
          → w ≡ block_ptr wb wo → ix ≡ h.index → h.index * stride R < 2 ^ 64
          → IfSome opt (λ was. (was.heap ≡ x.heap) × (was.slots ≡ x.slots) × (was.left ≡ 0))
          → MatchOption opt (knows ≡ found_as (slot_value x.slots h.index)) (λ _. knows ≡ Vacant)
          → Seq (Go {0}) 𝓛 (‵ (flft β q) ∷ ‵ (Owned knows k pb o note) ∷ ‵ (Back.own_val opt (back ∷ [])) ∷ ‵ others
          ∷ (opened (kept_of h) ++ holding 𝓛 Ev ((22, answer pb o k back) ∷ (1, vptr rb ro) ∷ (2, vint w64 ix) ∷ [])))
          (prop (Wp 𝓤 H 𝓣.C 𝓣.Λ Ev (after 6 fn.body) (at_return 𝓤 H Ev Post)))
      ends pb o k low back held opt knows note at is_index close same_back learns =
          let F₁ : G.Denot → Type 0 = λ r. r ≡ record h { at = r.at; state = r.state; learnt = r.learnt; left = r.left } in
          let F₄ : G.Denot → Type 0 = λ r.
          MatchOption opt (r.learnt ≡ found_as (slot_value x.slots h.index)) (λ _. r.learnt ≡ Vacant) in
          let F₃ : Type 0 = IfSome opt (λ was. (was.heap ≡ x.heap) × (was.slots ≡ x.slots) × (was.left ≡ 0)) in
          let close_at : ix * stride R < 2 ^ 64 = subst (λ (n : ℕ). n * stride R < 2 ^ 64) (sym is_index) close in
          let answer_good : Good (layout Triple) (answer pb o k back) = (and_tt _ held.0, (tt, (record { fits = low }, (held.1, tt)))) in
          exec ! 𝓣.C 𝓣.Λ Ev (after 6 fn.body) (at_ret Ev Post) $
          sets ! (of_opd ! (get ! refl)) refl answer_good $
          sets ! (of_opd ! (get_in ! (fld ! refl (stop !)) (sub ! 0 refl (whole !)))) refl (tt, tt) $
          sets ! (of_opd ! (get_in ! (fld ! refl (stop !)) (sub ! 1 refl (whole !)))) refl (tt, record { fits = low }) $
          sets ! (of_opd ! (get_in ! (fld ! refl (stop !)) (sub ! 2 refl (whole !)))) refl held $
          first ! $ blocks ! $ sets ! (of_opd ! (get ! refl)) refl (tt, tt) $
          sets !
          (is ! (bin ! (get ! refl) (size_word !) (record { fits = spaced ix (stride R) close_at }))
          (spaced_is ix (stride R) close_at ∙ ap (λ (n : ℕ). vint w64 (n * stride R)) is_index))
          refl (tt, record { fits = close }) $
          sets_last ! (bin ! (get ! refl) (get ! refl) tt) refl (tt, tt) $
          exec ! 𝓣.C 𝓣.Λ Ev (after 11 fn.body) (at_ret Ev Post) $
          sets ! (of_opd ! (get ! refl)) refl (tt, tt) $ sets ! (of_opd ! (get ! refl)) refl (tt, tt) $
          let m : Kept = record { at = value_at R (block_ptr pb o) i; state = k } in
          assigns ! (of_opd ! (get ! refl)) (through ! refl (fld ! refl (stop !)))
          (store_in ! 4 (sub ! 0 refl (whole !)) (tt, tt)) $
          assigns ! (of_opd ! (get ! refl)) (through ! refl (fld ! refl (stop !)))
          (store_in ! 4 (sub ! 1 refl (whole !)) (tt, record { fits = low })) $
          sets ! (of_opd ! (get ! refl)) refl held $
          -- [the token; the claim; what comes back; the other tokens; the claim's cell; the open borrow]
          move ! (1 ∷ []) $
          use0 𝓛 (‵ ((FieldsType ℓ R).own_val (fields_of ℓ R m) (value_of m ∷ []))) (made ℓ R 𝓛 m low) $ fjoin ! $
          let left : G.Denot = record {
            at = value_at R (block_ptr pb o) i;
            state = k;
            marker = record {};
            bucket = block_ptr wb wo;
            table = h.table;
            sharing = h.sharing;
            word = h.word;
            id = h.id;
            index = i;
            reserved = h.reserved;
            learnt = knows;
            left = note;
          } in
          move ! (4 ∷ 0 ∷ 5 ∷ 6 ∷ 7 ∷ []) $ closes ! tt G left (value_of m ∷ []) rb ro $
          feq_i ! (List Val) (vptr rb ro ∷ []) (vptr rb ro ∷ []) refl $ fjoin3 ! $
          nothing ! $ nothing ! $ fjoin ! $ nothing ! $ fjoin ! $ nothing ! $ fjoin ! $ nothing ! $ fjoin ! $ nothing ! $ fjoin ! $
          move ! (1 ∷ 0 ∷ []) $ fjoin ! $
          -- [what is left of the parameters; the reference's token; the token; what comes back; the other tokens]
          move ! (2 ∷ 4 ∷ []) $ fjoin ! $ move ! (2 ∷ 0 ∷ []) $ join ! $
          use0 𝓛 (raw (fact 𝓤 F₃)) (fact_i 𝓤 F₃ (emp 𝓤) same_back) $
          use0 𝓛 (raw (fact 𝓤 (F₄ left))) (fact_i 𝓤 (F₄ left) (emp 𝓤) learns) $ join ! $
          use0 𝓛 (raw (fact 𝓤 (F₁ left))) (fact_i 𝓤 (F₁ left) (emp 𝓤) (λ n. record left { bucket = sym at n })) $ join ! $
          returns ! (look_at ! 0 refl) $ free_all ! refl $ keep ! (1 ∷ 2 ∷ 3 ∷ 0 ∷ []) $
          by ! (leaves 𝓛 En stayed c y back opt (left, (tt, (tt, (tt, (tt, (tt, tt)))))) (tt, (tt, (tt, (tt, (tt, (tt, tt)))))))

    abbrev pl : ClaimFields
    pl = claim_fields h.id i w h.at h.sharing h.word h.reserved

    abbrev Block : Ptr → List (Option X.Denot) → ℕ → Fml
    Block u cs left = block_owns R (ghosts.dealloc_token x.heap) u cs left

    -- the block as it comes back
    abbrev back_again : Val
    back_again = live 1 (vcons bv vnil)

    -- What the exchange gives, without the function's locals: the block is lent for ν beside the turn's life, whose token is
    -- borrowed from β.
    module _ (LR : Laws R) (d : BucketView) (t : Turn) (of : IsOf R h.table pl d) (v : Option X.Denot) (rest : ℕ) (many : len R d ≡ i + suc rest) (s : Share)
        (ν : ℕ) (names : offers.Names 𝓛 R t) (so : offers.Lies 𝓛 R t LR d x.heap v i rest many new names) (same : Belongs d.sharing d.table) where
      abbrev won : Ptr → Fml
      won u = fsep (flft t.life s) (offers.won 𝓛 R t LR d x.heap v i rest many h.left same wb (wo + 0) s nb no' ν names so u)

      abbrev lost : Ptr → Fml
      lost u = fsep (flft t.life s) (offers.lost 𝓛 R t LR d x.heap v i rest many h.left same wb (wo + 0) s nb no' ν names so u)

      abbrev lasts : Fml
      lasts = fsep (before β t.life) (finv (fbor t.life (bucket_invariant R d t wb (wo + 0))))

      abbrev way_back : Item 𝓤
      way_back = raw (wand 𝓤 (𝓛.A.lft t.life s) (𝓛.H.⇛ (𝓛.A.lft β q)))

      abbrev gained : Fml
      gained = offers.Gained 𝓛 R t LR d x.heap v i rest many new ν names

      abbrev of_block : (u : Ptr) → IsOf R h.table (claim_fields h.id i (block_ptr wb wo) u h.sharing h.word h.reserved) d
      of_block u = (tt, of.1, of.2, of.3, of.4, of.5, of.6, of.7)

      -- what the note says once the claim's slot holds what the block has there
      abbrev says_now : Option Gv
      says_now = left_after R d.sharing d.table h.left v

      -- the block stands: the claim holds its value
      won_gives : sn ≡ state_of (found_as v) → (u : Ptr)
          → ent 𝓤 (mean 𝓛 (‵ (won u) ⊛ ‵ lasts ⊛ way_back ⊛ ‵ gained)) (mean 𝓛 (later (‵ (flft β q) ⊛ ‵ (Owned (found_as v) sn nb no' says_now))))
      won_gives is_state u =
          qed 𝓛 (‵ (won u) ∷ ‵ lasts ∷ way_back ∷ ‵ gained ∷ []) ∵ updating ! $ fsplit ! $ move ! (1 ∷ []) $ fsplit ! $ move ! (1 ∷ []) $ fsplit ! $
          rewrite ! 0 (λ (k : ℕ). ‵ (offers.won_by 𝓛 R t d.sharing v k)) (sym of.3) refl $
          -- [what the claim gets; the note; the part; the life's token; the sharing lasts; the way back; what the claim had]
          move ! (2 ∷ 4 ∷ 3 ∷ 0 ∷ 6 ∷ []) $ group ! 5 $
          use1 𝓛 (later (‵ (flft t.life s) ⊛ ‵ (Claimed (found_as v) (state_of (found_as v)) nb no')))
          (installs_own 𝓛 R d t β wb wo nb no' h.id i h.sharing h.word h.reserved h.table LR v names.here s
          (offers.block_as 𝓛 R t LR d x.heap v i rest many new ν names, _) (of_block (value_at R new i)) refl
          (name_behind names.before names.here names.behind i so.before)) $
          await ! tt $ split ! $
          -- [the life's token; the claim; the note; the way back]
          move ! (2 ∷ []) $ rewrite ! 0 (λ (k : ℕ). ‵ (note_owns d.table k says_now)) (sym of.3) refl $
          rewrite ! 0 (λ (k : ℕ). ‵ (note_owns k h.id says_now)) of.2 refl $
          move ! (2 ∷ []) $ rewrite ! 0 (λ (k : ℕ). ‵ (Claimed (found_as v) k nb no')) (sym is_state) refl $ fjoin ! $
          move ! (1 ∷ 2 ∷ []) $ returns_token ! β t.life q s $ await ! tt $ now ! $ done !

      abbrev IsMet : Ptr → ℕ × ℕ → Item 𝓤
      IsMet u first = given (u ≡ block_ptr first.0 first.1)
          (‵ (flft β q) ⊛ ‵ (Owned Vacant 1 first.0 first.1 h.left) ⊛ ‵ (Back.own_val (Some x) (back_again ∷ [])))

      -- another block stands: the claim finds its slot empty there, and this block is whole again
      lost_gives : p ≡ new → x.slots ≡ with_first i v rest → x.left ≡ 0 → (u : Ptr)
          → ent 𝓤 (mean 𝓛 (‵ (lost u) ⊛ ‵ lasts ⊛ way_back)) (mean 𝓛 (later (some (IsMet u))))
      lost_gives here slots_are all_made u =
          qed 𝓛 (‵ (lost u) ∷ ‵ lasts ∷ way_back ∷ []) ∵ updating ! $ fsplit ! $ move ! (1 ∷ []) $ fsplit ! $ fsplit ! $ move ! (2 ∷ []) $ fsplit ! $
          rewrite ! 0 (λ (k : ℕ). ‵ (right_owns t.pass k)) (sym of.3) refl $
          -- [the pass; the note; the private block; what was seen; the life's token; the sharing lasts; the way back]
          keep ! (0 ∷ 2 ∷ 3 ∷ 4 ∷ 5 ∷ 6 ∷ 1 ∷ []) $
          move ! (1 ∷ 2 ∷ 3 ∷ 4 ∷ 5 ∷ 0 ∷ []) $
          use1 𝓛 (later (‵ (Block new (with_first i v rest) 0))) (offers.take_back 𝓛 R t LR d x.heap v i rest many new ν names so) $
          await ! tt $ move ! (1 ∷ []) $
          in_a_block ! u (glimpse 𝓛 R d t ffalse ftrue) (snd∗ 𝓤 (sem 𝓛 (said_fact (d.reserved ≡ false))) (never 𝓤)) (λ pb o found.
          fsplit ! $ fpick ! (λ zz.
          -- [the part; nothing; the block; the life's token; the sharing lasts; the way back; the pass; the note]
          move ! (0 ∷ 4 ∷ 3 ∷ 6 ∷ []) $ group ! 4 $
          use1 𝓛 (later (‵ (flft t.life s) ⊛ ‵ (Claimed Vacant 1 pb o)))
          (installs 𝓛 R d t β wb wo pb o h.id i h.sharing h.word h.reserved h.table s zz (of_block (value_at R (block_ptr pb o) i))) $
          await ! tt $ split ! $
          -- [the life's token; the claim; nothing; the block; the way back; the note]
          move ! (0 ∷ 4 ∷ []) $ returns_token ! β t.life q s $ await ! tt $
          -- [the token; the claim; nothing; the block; the note]
          move ! (3 ∷ []) $ rewrite ! 0 (λ (place : Ptr). ‵ (Block place (with_first i v rest) 0)) (sym here) refl $
          rewrite ! 0 (λ (cs : List (Option X.Denot)). ‵ (Block p cs 0)) (sym slots_are) refl $
          rewrite ! 0 (λ (n : ℕ). ‵ (Block p x.slots n)) (sym all_made) refl $
          use0 𝓛 (‵ ((fields.FieldsType R Z ghosts).own_val (p, (record {}, tt)) (bv ∷ []))) (fields.made R Z ghosts 𝓛 p) $
          fjoin ! $ use1 𝓛 (‵ (Back.own_val (Some x) (back_again ∷ []))) (Some-of 𝓛 Bl x bv) $
          -- [the block; the token; the claim; nothing; the note]
          move ! (3 ∷ []) $ drop ! $ move ! (3 ∷ []) $ rewrite ! 0 (λ (k : ℕ). ‵ (note_owns d.table k h.left)) (sym of.3) refl $
          rewrite ! 0 (λ (k : ℕ). ‵ (note_owns k h.id h.left)) of.2 refl $ move ! (3 ∷ 0 ∷ []) $ fjoin ! $ move ! (2 ∷ 0 ∷ []) $ now ! $ show ! (λ first. mean 𝓛 (IsMet u first)) (pb, o) $ check ! found $ done !))

      -- the contexts in which the two arms begin, with the answer of the exchange in local 17
      abbrev In_arm : (ℕ → ℕ) → Fml → Val → List (Item 𝓤)
      In_arm l given_back answered =
          ‵ given_back ∷ ‵ lasts ∷ way_back ∷ ‵ others ∷ ‵ gained
          ∷ (opened (kept_of h)
          ++ holding 𝓛 (Ev l) ((17, answered) ∷ (1, vptr rb ro) ∷ (2, vint w64 ix) ∷ (3, bv) ∷ (6, vint w64 sn) ∷ (8, vptr nb no') ∷ []))

      abbrev Goes_on : (ℕ → ℕ) → Goal 𝓤 H
      Goes_on l = prop (Wp 𝓤 H 𝓣.C 𝓣.Λ (Ev l) (after 4 fn.body) (at_return 𝓤 H (Ev l) Post))

      abbrev arms : Body
      arms = head (after 5 fn.body)

      abbrev Then : (l : ℕ → ℕ) → Post' 𝓤 H
      Then l = any_q (after_seq 𝓤 H (Wp 𝓤 H 𝓣.C 𝓣.Λ (Ev l) (after 6 fn.body) (at_return 𝓤 H (Ev l) Post)) (at_return 𝓤 H (Ev l) Post))

      won_arm : (l : ℕ → ℕ) → sn < 2 ^ 64 → sn ≡ state_of (found_as v) → ix ≡ h.index → i * stride R < 2 ^ 64 → slot_value x.slots h.index ≡ v → (u : Ptr)
          → Seq (Go {0}) 𝓛 (In_arm l (won u) (calls.answer_val (Ok u))) (Goes_on l)
      won_arm l low is_state is_index close is_value u =
          exec ! 𝓣.C 𝓣.Λ (Ev l) (after 4 fn.body) (at_ret (Ev l) Post) $
          sets ! (of_opd ! (get ! refl)) refl (calls.answer_good (Ok u)) $
          -- [what was won; the sharing lasts; the way back; the other tokens; what the claim had]
          move ! (0 ∷ 1 ∷ 2 ∷ 4 ∷ []) $ group ! 4 $
          use1 𝓛 (later (‵ (flft β q) ⊛ ‵ (Owned (found_as v) sn nb no' says_now))) (won_gives is_state u) $
          await ! tt $ split ! $ let pb : ℕ = nb in let o : ℕ = no' in
          first ! $ switches_on ! (get_tag ! (vrt ! refl (fld ! refl (stop !))) (whole !)) $ exec ! 𝓣.C 𝓣.Λ (Ev l) (arm_body 0 arms) (Then l) $
          let nothing_good : Good (layout Back) (live 0 vnil) = (tt, (record { fits = lit< tt }, tt)) in
          let three : Val = vstruct (vcons (vptr pb o) (vcons (vint w64 sn) (vcons (live 0 vnil) vnil))) in
          let triple_good : Good (layout Triple) three = (tt, (tt, (record { fits = low }, (nothing_good.1, tt)))) in
          sets ! (of_opd ! (get ! refl)) refl (tt, tt) $
          sets ! (agg ! (and_then ! (lit ! tt) (no_more !))) refl nothing_good $
          sets_last ! (agg ! (and_then ! (get ! refl) (and_then ! (get ! refl) (and_then ! (get ! refl) (no_more !))))) refl
          triple_good $
          forget_but ! (Ev l) (22 ∷ 1 ∷ 2 ∷ []) refl $
          -- [the token; the claim; the other tokens]
          use0 𝓛 (‵ (Back.own_val None (live 0 vnil ∷ []))) (none_of 𝓛 Bl) $ move ! (1 ∷ 2 ∷ []) $
          ends l pb o sn low (live 0 vnil) nothing_good None (found_as v) says_now (at_block w of.0) is_index close tt (sym (ap found_as is_value))

      lost_arm : (l : ℕ → ℕ) → p ≡ new → x.slots ≡ with_first i v rest → x.left ≡ 0 → ix ≡ h.index → i * stride R < 2 ^ 64 → (u : Ptr)
          → Seq (Go {0}) 𝓛 (In_arm l (lost u) (calls.answer_val (Err u))) (Goes_on l)
      lost_arm l e slots_are all_made is_index close u =
          exec ! 𝓣.C 𝓣.Λ (Ev l) (after 4 fn.body) (at_ret (Ev l) Post) $
          sets ! (of_opd ! (get ! refl)) refl (calls.answer_good (Err u)) $
          -- [what came back; the sharing lasts; the way back; the other tokens; what the claim had]
          move ! (4 ∷ []) $ drop ! $ group ! 3 $
          use1 𝓛 (later (some (IsMet u)))
          (lost_gives e slots_are all_made u) $
          await ! tt $ pick ! (λ place. learn ! (λ found. split3 ! $ let pb : ℕ = place.0 in let o : ℕ = place.1 in
          -- [the token; the claim; the block; the other tokens]
          let back : Val = live 1 (vcons bv vnil) in
          let block_good = fields.block_good p in
          let held : Good (layout Back) back =
          (and_tt _ block_good.0, (record { fits = lit< tt }, (block_good.1, tt))) in
          first ! $ switches_on ! (get_tag ! (vrt ! refl (fld ! refl (stop !))) (whole !)) $ exec ! 𝓣.C 𝓣.Λ (Ev l) (arm_body 1 arms) (Then l) $
          sets !
          (is !
          (of_opd !
          (get_in ! (vrt ! refl (fld ! refl (stop !))) (in_variant ! 1 0 refl refl (whole !))))
          (ap ptr_val found))
          refl (tt, tt) $
          let three : Val = vstruct (vcons (vptr pb o) (vcons (vint w64 1) (vcons back vnil))) in
          let triple_good : Good (layout Triple) three = (and_tt _ held.0, (tt, (record { fits = lit< tt }, (held.1, tt)))) in
          sets ! (of_opd ! (get ! refl)) refl (tt, tt) $ sets ! (of_opd ! (get ! refl)) refl block_good $
          sets ! (agg ! (and_then ! (lit ! tt) (and_then ! (get ! refl) (no_more !)))) refl held $
          sets_last ! (agg ! (and_then ! (get ! refl) (and_then ! (lit ! tt) (and_then ! (get ! refl) (no_more !))))) refl
          triple_good $
          forget_but ! (Ev l) (22 ∷ 1 ∷ 2 ∷ []) refl $
          ends l pb o 1 (lit< tt) back held (Some x) Vacant h.left (at_block w of.0) is_index close (refl, refl, all_made) refl))

      -- the exchange, from the function's first statement on
      asks : Wired 𝓡.env code.code → (l : ℕ → ℕ) → sn < 2 ^ 64 → sn ≡ state_of (found_as v) → h.at ≡ block_ptr wb wo → p ≡ new
          → x.slots ≡ with_first i v rest → x.left ≡ 0 → ix ≡ h.index
          → i * stride R < 2 ^ 64 → slot_value x.slots h.index ≡ v
          → Seq (Go {0}) 𝓛 ((‵ (offers.private 𝓛 R t LR d x.heap v i rest many new ν names) ⊛ ‵ (fsep (grown d) (announced d.word d.bucket))
          ⊛ ‵ (offers.Ticket 𝓛 R t LR d x.heap v i rest many h.left same))
          ∷ ‵ lasts ∷ ‵ (finv (fbor t.life (bucket_invariant R d t wb (wo + 0)))) ∷ ‵ (flft t.life s) ∷ way_back ∷ ‵ others ∷ ‵ gained
          ∷ (opened (kept_of h) ++ holding 𝓛 (Ev l) ((1, vptr rb ro) ∷ (2, vint w64 ix) ∷ (3, bv) ∷ (6, vint w64 sn) ∷ [])))
          (runs 𝓣.C 𝓣.Λ (Ev l) fn.body (at_ret (Ev l) Post))
      asks wired l low is_state leads e slots_are all_made is_index close is_value =
          sets !
          (is !
          (of_opd ! (load ! (through ! refl (fld ! refl (stop !))) (look_in ! 7 (sub ! 0 refl (whole !)))))
          (ap ptr_val leads))
          refl (tt, tt) $
          sets ! (of_opd ! (get ! refl)) refl (tt, tt) $
          sets ! (is ! (of_opd ! (get_in ! (fld ! refl (stop !)) (sub ! 0 refl (whole !)))) (ap ptr_val e)) refl (tt, tt) $
          first ! $ blocks ! $ sets ! (addr ! (through ! refl (fld ! refl (stop !)))) refl (tt, tt) $
          sets ! (of_opd ! (get ! refl)) refl (tt, tt) $
          sets ! (agg ! (and_then ! (lit ! tt) (no_more !))) refl seq_cst_good $
          sets ! (agg ! (and_then ! (lit ! tt) (no_more !))) refl seq_cst_good $ move ! (2 ∷ 3 ∷ 0 ∷ []) $
          use3 𝓛
          (raw (𝓣.C _ (vptr wb (wo + 0) ∷ vnull ∷ vptr nb no' ∷ seq_cst ∷ seq_cst ∷ [])
          (λ u. mean 𝓛 (calls.answered 𝓛 won lost u))))
          (via 𝓤 _ (offers.offers 𝓛 R t LR d x.heap v i rest many h.left same wb (wo + 0) s nb no' ν names so)
          (calls.exchanges 𝓛 𝓜 𝓡 (code.calls-std::sync::atomic::raw::ptr::compare_exchange 𝓡.env wired)
          u64 word_laws (block_ptr wb (wo + 0)) null_ptr new won lost)) $
          Calls-last ! (fm 𝓛 𝓜 𝓡) (calls.answered 𝓛 won lost)
          (and_then ! (get ! refl) (and_then ! (lit ! tt)
          (and_then ! (get ! refl) (and_then ! (get ! refl) (and_then ! (get ! refl) (no_more !))))))
          (λ u.
          calls.hears ! won lost
          (λ u. lands_last ! refl (calls.answer_good (Ok u)) $ forget_but ! (Ev l) (17 ∷ 1 ∷ 2 ∷ 3 ∷ 6 ∷ 8 ∷ []) refl $
          won_arm l low is_state is_index close is_value u)
          (λ u. lands_last ! refl (calls.answer_good (Err u)) $ forget_but ! (Ev l) (17 ∷ 1 ∷ 2 ∷ 3 ∷ 6 ∷ 8 ∷ []) refl $
          lost_arm l e slots_are all_made is_index close u))

    walk : Wired 𝓡.env code.code → Laws R → ix < 2 ^ 64 → sn < 2 ^ 64
        → ent 𝓤 (sep 𝓤 (on_entry 𝓛 En.signature κs qs a y.0.4) ((c κs a).requires gh))
        (WpFn 𝓤 H 𝓣.C 𝓣.Λ fn (vptr rb ro ∷ vint w64 ix ∷ bv ∷ seen ∷ token ∷ vint w64 sn ∷ []) Post)
    walk wired LR fits_index fits_state =
        let pl : ClaimFields = claim_fields h.id i w h.at h.sharing h.word h.reserved in
        qed 𝓛 (((‵ (flft κs.0 qs.0) ⊛ ‵ (fsep (flft β q) others)) ⊛ ‵ (owns (types_at En.signature.params κs) a y.0.4))
        ∷ raw (fact 𝓤 (Incl υ X.lives)) ∷ raw (fact 𝓤 (h.learnt ≡ Missing)) ∷ raw (fact 𝓤 (ix ≡ i))
        ∷ raw (fact 𝓤 Made) ∷ raw (fact 𝓤 Had) ∷ raw (fact 𝓤 Says) ∷ raw (fact 𝓤 IsState)
        ∷ raw (fact 𝓤 OfTable) ∷ []) ∵
        move ! (1 ∷ 2 ∷ 3 ∷ 4 ∷ 5 ∷ 6 ∷ 7 ∷ 8 ∷ 0 ∷ []) $ heard ! (Incl υ X.lives) (λ alive. heard ! (h.learnt ≡ Missing) (λ gone.
        heard ! (ix ≡ i) (λ is_index. heard ! Made (λ blank. heard ! Had (λ evident. heard ! Says (λ told_so. heard ! IsState (λ is_state.
        heard ! OfTable (λ belongs.
        split ! $ split ! $ move ! (2 ∷ []) $
        fsplit3 ! $ fsplit3 ! $ move ! (4 ∷ []) $ fsplit ! $ fsplit ! $ move ! (2 ∷ []) $ fsplit ! $ fsplit ! $
        move ! (2 ∷ []) $ fsplit ! $ fsplit ! $ move ! (2 ∷ []) $
        -- [the number; the bucket is announced, in two entries; ..]
        keep ! (4 ∷ 8 ∷ 9 ∷ 11 ∷ 12 ∷ 6 ∷ 2 ∷ []) $ unhide ! $ fsplit ! $ drop ! $ move ! (1 ∷ 2 ∷ 3 ∷ 4 ∷ 5 ∷ 0 ∷ []) $
        enter ! 𝓣.C 𝓣.Λ fn (vptr rb ro ∷ vint w64 ix ∷ bv ∷ seen ∷ token ∷ vint w64 sn ∷ []) Post $ alloc_all ! (λ l.
        pass_all ! {E = env (behind_first fn.locals) (λ j. l (suc j))} refl (
          (tt, tt),
          ((tt, record { fits = fits_index }), (fields.block_good p, ((tt, tt), ((tt, (tt, tt)), ((tt, record { fits = fits_state }), tt))))),
        ) $
        opens ! tt G rb ro (λ ts. move ! (1 ∷ []) $ fsplit ! $
        peeks ! D (Is D) (shows 𝓛 D) (fields_of ℓ R (kept_of h)) ts (λ is_so. drop ! $
        rewrite ! 1 (λ (ws : List Val). ‵ (cell_at full_share G.mir ws rb ro)) (told ℓ R (kept_of h) ts is_so) refl $
        move ! (5 ∷ []) $ fsplit ! $ move ! (2 ∷ 0 ∷ 1 ∷ 7 ∷ 8 ∷ 9 ∷ []) $ fsplit ! $
        move ! (6 ∷ 1 ∷ []) $ fjoin ! $ move ! (1 ∷ 2 ∷ 3 ∷ 4 ∷ 5 ∷ 0 ∷ []) $
        -- [what the claim owns; the token; the other tokens; the block; the page; that the bucket is announced, with the
        -- note; the claim's cell; the open borrow, in three entries]
        use1 𝓛 (‵ (claim_owns R β h.table pl h.learnt h.state)) (id⊢ 𝓤 _) $
        fsplit ! $ drop ! $ fpick ! (λ z. fsplit ! $ fpick ! (λ of. drop ! $ fsplit ! $
        move ! (1 ∷ []) $
        let d : BucketView = z.0 in
        let t : Turn = z.1 in
        let at : w ≡ block_ptr wb wo = at_block w of.0 in
        rewrite ! 0 (λ (k : Learnt X.Denot). ‵ (has R d t β pl k)) gone refl $ fsplit ! $ fpick ! (λ leads. drop ! $
        let J : Fml = fbor t.life (bucket_invariant R d t wb (wo + 0)) in
        let v : Option X.Denot = slot_value x.slots h.index in
        let rest : ℕ = len R d - suc i in
        let many : len R d ≡ i + suc rest = omega (arith, of.4) in
        let cs : List (Option X.Denot) = with_first i v rest in
        let Blank : Ptr → Fml = λ u. block_owns R (ghosts.dealloc_token x.heap) u cs 0 in
        let same : bucket_of h.id ≡ d.bucket = ap bucket_of (lies_at R d h.id i of.3) ∙ (place-id_at d.bucket i of.4).0 in
        move ! (1 ∷ []) $ fsplit ! $ use1 𝓛 (‵ (before β t.life) ⊛ ‵ (before β t.life)) (before_dup 𝓛 β t.life) $ split ! $
        -- [before, twice; the invariant; the pass; the token; the other tokens; the block]
        move ! (0 ∷ 4 ∷ []) $
        lends_token ! 𝓜 𝓡 β t.life q $ await ! tt $ pick ! (λ s. split ! $
        -- [the life's token; the way back; before; the invariant; the pass; the other tokens; the
        -- block]
        move ! (3 ∷ []) $ use1 𝓛 (‵ (finv J) ⊛ ‵ (finv J)) (𝓛.invs.inv_dup J) $ split ! $ move ! (4 ∷ 1 ∷ []) $ fjoin ! $
        -- [the sharing lasts; the invariant; the life's token; the way back; the pass; the other
        -- tokens; the block]
        let empty_but : slice_set x.slots i None ≡ empty_slots (len R d) =
        blank.1 ∙ ap (λ (n : ℕ). empty_slots {X = X.Denot} (2 ^ n)) same in
        let none : Option X.Denot = None in
        let all_long : length x.slots ≡ len R d =
        sym (length-set x.slots i none) ∙ ap length empty_but ∙ length-replicate (len R d) none in
        let slots_are : x.slots ≡ cs =
        parted_slots v x.slots i (len R d) rest (omega (arith, of.4, all_long)) many empty_but refl in
        move ! (6 ∷ []) $ rewrite ! 0 (λ (m : ℕ). ‵ (block_owns R (ghosts.dealloc_token x.heap) p x.slots m)) blank.0 refl $
        rewrite ! 0
        (λ (ys : List (Option X.Denot)). ‵ (block_owns R (ghosts.dealloc_token x.heap) p ys 0))
        slots_are refl $
        use1 𝓛 (given (Fits R (len R d)) (‵ (Blank p)))
        (fits_so 𝓛 R (ghosts.dealloc_token x.heap) p cs (len R d) (sym (ap length slots_are) ∙ all_long)) $
        learn ! (λ fits.
        let close : i * stride R < 2 ^ 64 = value_near R (len R d) i fits of.4 in
        use1 𝓛 (given (InBlock p) (‵ (Blank p))) (offers.placed 𝓛 R t LR d x.heap v i rest many p) $ learn ! (λ lies.
        let e : p ≡ new = at_block p lies in
        rewrite ! 0 (λ (u : Ptr). ‵ (Blank u)) e refl $
        -- [the block; the sharing lasts; the invariant; the life's token; the way back; the pass; the other tokens; how many ids were
        -- held; the bucket is announced]
        move ! (6 ∷ []) $ fsplit ! $ move ! (1 ∷ []) $ fsplit ! $ move ! (2 ∷ 1 ∷ []) $ fjoin ! $ move ! (1 ∷ []) $
        -- [one of the other tokens; the other; the block; ..]
        move ! (2 ∷ 5 ∷ 0 ∷ []) $
        use3 𝓛 (later (some (λ (y : ℕ × offers.Names 𝓛 R t).
        given (offers.Lies 𝓛 R t LR d x.heap v i rest many new y.1)
        (‵ (offers.private 𝓛 R t LR d x.heap v i rest many new y.0 y.1)
        ⊛ ‵ (offers.Gained 𝓛 R t LR d x.heap v i rest many new y.0 y.1) ⊛ ‵ (flft t.life s) ⊛ ‵ (flft υ r)))))
        (offers.lend_out 𝓛 R t LR d x.heap v i rest many s υ r alive of.1 new) $
        await ! tt $ pick ! (λ zn. learn ! (λ so. split3 ! $ move ! (2 ∷ []) $ split ! $
        -- [the life's token; the other; the private block; what its claim has; nothing; the sharing lasts; the invariant; the way back;
        -- the pass; how many ids were held; the bucket is announced]
        move ! (4 ∷ 1 ∷ []) $ fsplit ! $ move ! (2 ∷ 1 ∷ []) $ fjoin ! $ move ! (1 ∷ []) $ fjoin ! $
        move ! (2 ∷ 4 ∷ 5 ∷ 1 ∷ 6 ∷ 7 ∷ 0 ∷ 8 ∷ 9 ∷ 3 ∷ []) $
        -- [the private block; the sharing lasts; the invariant; the life's token; the way back; the
        -- pass; the other tokens; how many ids were held]
        let next : ℕ = taken_id had.before + 1 in
        let all : next ≤ length (held_after by_then) = taken_reached had.before in
        let shown : shown_by d ≤ next = shown_reached d h.id i next of.3 (omega (arith, evident.1)) in
        move ! (7 ∷ []) $
        rewrite ! 0 (λ (b : Bool). ‵ (page_owns had.table (seen_by had.before b))) evident.2 refl $
        rewrite ! 0 (λ (n : ℕ). ‵ (page_owns n by_then)) (evident.0 ∙ sym of.2) refl $
        use1 𝓛 (‵ (reached_owns d.table (shown_by d))) (shows_reached 𝓛 d.table (shown_by d) by_then (omega (arith, all, shown))) $
        move ! (8 ∷ []) $ fsplit ! $ move ! (2 ∷ 0 ∷ 1 ∷ []) $
        rewrite ! 1 (λ (m : Announcing). ‵ (announced m says.bucket)) (told_so.0 ∙ sym of.7) refl $
        rewrite ! 1 (λ (k : ℕ). ‵ (announced d.word k)) (told_so.1 ∙ same) refl $
        fjoin ! $
        -- [what the block shows; the note; the private block; the sharing lasts; the invariant; the life's token; the way back; the
        -- pass; the other tokens; what its claim has]
        move ! (7 ∷ 1 ∷ []) $
        rewrite ! 1 (λ (k : ℕ). ‵ (note_owns k h.id h.left)) (sym of.2) refl $
        rewrite ! 1 (λ (k : ℕ). ‵ (note_owns d.table k h.left)) of.3 refl $
        rewrite ! 0 (λ (k : ℕ). ‵ (right_owns t.pass k)) of.3 refl $ fjoin ! $ move ! (2 ∷ 1 ∷ 0 ∷ []) $ group ! 3 $
        forget_but ! (Ev l) (1 ∷ 2 ∷ 3 ∷ 6 ∷ []) refl $
        let same_of : Belongs d.sharing d.table = subst (λ (k : Option ℕ). Belongs k d.table) (sym of.6) (subst (Belongs h.sharing) (sym of.2) belongs) in
        asks LR d t of v rest many s zn.0 zn.1 so same_of wired l fits_state is_state (leads ∙ at) e slots_are blank.0 is_index close refl)))))))))))))))))))

pub exchange_spec : {M : Type 1} → statement M
exchange_spec 𝓤 𝓛 𝓜 𝓡 wired X L =
    let number = plain (λ _. usize) in
    proved 𝓛 (En 𝓛 𝓜 𝓡 X) (stayed 𝓛 𝓜 𝓡 X) (c 𝓛 𝓜 𝓡 X) 𝓜 𝓡 (
      Goes-ref 𝓛 4 0 tt (plain (λ κs. claim.the_row (named_lft 4 1 tt κs) (param 0 X))),
      (
        Goes-dropped 𝓛 4 number yes (λ κs x f. refl),
        (
          Goes-dropped 𝓛 4 (plain (λ _. Bl 𝓛 𝓜 𝓡 X)) no (λ κs x f. refl),
          (
            Goes-dropped 𝓛 4 (RefOf (2 ∷ []) tt (plain (λ _. Right.the_row)) (λ _. tt)) yes (λ κs x f. refl),
            (
              Goes-dropped 𝓛 4 (plain (λ _. Announced.the_row)) yes (λ κs x f. refl),
              (Goes-dropped 𝓛 4 number yes (λ κs x f. refl), tt),
            ),
          ),
        ),
      ),
    )
    (#self (bounded (a_type ∷ []) (X, tt) dnil)) (fn 𝓛 𝓜 𝓡 X) (code.unfolded 𝓤 𝓛.H 𝓜 𝓡 wired (X, tt))
    (λ κs. (
      mut_vals,
      (uint_vals w64, ((λ x. fields.block_val x.at ∷ []), (shr_vals, ((λ x. token ∷ []), (uint_vals w64, tt))))),
    ))
    (λ κs. (
      mut_Tells (named 0) κs.0 (claim.the_row (named_lft 4 1 tt κs) (param 0 X)),
      (
        uint_Tells w64,
        (
          (λ x vs so. fields.told (param 0 X) heap.the_row ghosts x.at vs so.0),
          (
            shr_Tells (named 2) κs.1.1.0 Right.the_row,
            ((λ x vs so. token_told (Announced.the_type).name vs so.0), (uint_Tells w64, tt)),
          ),
        ),
      ),
    ))
    (λ κs qs bounds a gh are. walk 𝓛 𝓜 𝓡 X κs qs bounds a gh wired (param_laws 0 X L) are.1.0.1 are.1.1.1.1.1.0.1)
