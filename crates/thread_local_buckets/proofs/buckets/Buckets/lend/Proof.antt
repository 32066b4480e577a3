-- `lend` takes the address of the pointers, and splits the owner's borrow to make what a loan owns.
use Rattle.thread_local_base.proofs.Names.{◌≡◌, ℕ, ◌+◌, [], ◌∷◌, refl, ap, full_share, a_type, named, vptr}
use Rattle.thread_local_base.proofs.Names.{inst_fn, SProp, ent, ex, sep, sem, Lft, Share, GName, Fml, ftrue}
use Rattle.thread_local_base.proofs.Names.{fsep, flft, ‵, raw, ◌⊛◌, some, given, later, ◌$◌, ◌∵◌, !, qed, by, move}
use Rattle.thread_local_base.proofs.Names.{keep, split, split3, join, fsplit, fsplit3, fjoin, pick, learn, group}
use Rattle.thread_local_base.proofs.Names.{use0, use1, use2, await, stop, fld, addr, of_opd, returns, enter}
use Rattle.thread_local_base.proofs.Names.{alloc_all, pass_all, free_all, look_at, get, through, sets, open_ref}
use Rattle.thread_local_base.proofs.Names.{no, RattleType, owns, types_at, plain, named_lft}
use Rattle.thread_local_base.proofs.Names.{block_ptr, nothing, mem, lone, part_at, param, param_laws, layouts, usize}
use Rattle.thread_local_base.proofs.Names.{RefMutOf, mut_vals, mut_Tells, Stays, stay_dropped, walk_of, proved}
use Rattle.thread_local_base.proofs.Names.{leaves, Member, w64}
use types.Logic.{Logic}
use types.Run.{no_more, and_then}
use types.Part.{agg}
use seplogic.Ra.Ura.{Ura}
use denote.Follow.{follows}
use denote.Memory.{part_of}
use denote.Model.Fields.{view_owns, view_made, plain_out, Plain-in}
use denote.Param.Laws.{Laws}
use denote.Plain.{uint_Lawful}
use denote.Struct.Parts.{PartsBack}
use denote.Struct.Pick.{rest_at, field_out, field_back}
use denote.Triple.Walked.{Goes-spent_ref}
use Rattle.thread_local_base.specs.Buckets.{Contents, IsTable}
use Rattle.thread_local_base.specs.Owned.{Owned}
use Rattle.thread_local_buckets.specs.contracts.bucket_pointers.BucketPointers as all_pointers
use Rattle.thread_local_buckets.proofs.bucket_pointers.BucketPointers.TheLaws as pointers_laws
use Rattle.thread_local_buckets.specs.LoanOwns.{loan_owns}
use Rattle.thread_local_base.specs.Refilled.{refilled}
use Rattle.thread_local_buckets.specs.contracts.loan.Loan as loan
use Rattle.thread_local_buckets.proofs.LoanFields.{FieldsType, loan_val, made}
use Rattle.thread_local_buckets.proofs.LoanBegins.{lends}
use Rattle.thread_local_buckets.specs.LendingValues.{owned_refilled}
use Rattle.thread_local_buckets.specs.contracts.buckets.Buckets as buckets
use Rattle.thread_local_buckets.specs.contracts.buckets.Buckets.TheInside as inside
use Rattle.thread_local_buckets.specs.contracts.buckets.Buckets.lend.{ended, clauses, Key.name as #self}
use Rattle.thread_local_buckets.proofs.Refilling.{IsOwned-refilled}
use Rattle.thread_local_buckets.proofs.buckets.Buckets.lend.Statement.{statement}
use Rattle.thread_local_buckets.proofs.buckets.Buckets.lend.Code as code
use Rattle.thread_local_base.proofs.Walking.{knows}

module _ {M : Type 1} {𝓤 : Ura M} (𝓛 : Logic 𝓤) (X : RattleType) (L : Laws X) (b o : ℕ) (t : Owned (param 0 X).Denot) where
  abbrev R : RattleType
  R = param 0 X

  abbrev Owner : RattleType
  Owner = buckets.the_row R

  abbrev Table : RattleType
  Table = all_pointers.the_row R

  abbrev Inside : RattleType
  Inside = inside.the_row R

  abbrev view : Inside.Denot → Owned R.Denot
  view = buckets.the_view R

  abbrev good : Inside.Denot → Type 0
  good = buckets.the_invariant R

  abbrev ms : mathlib.Core.List.List Member
  ms = record { row = Table; ty = lone Table.mir } ∷ record { row = usize; ty = lone usize.mir } ∷ []

  -- what the owner has beside the pointers
  abbrev Apart : Inside.Denot → SProp 𝓤
  Apart a = sep 𝓤 (sem 𝓛 (rest_at full_share ms 0 (a.pointers, (a.reserved, tt)) b o 0)) (PartsBack 𝓛 full_share [] ms b o)

  opens : ent 𝓤 (sem 𝓛 ((mem Owner).own_at t b o))
      (ex 𝓤 (λ (x : (a : Inside.Denot) × ((view a ≡ t) × good a)).
      sep 𝓤 (sem 𝓛 (part_at Table full_share x.0.pointers b (o + 0))) (Apart x.0)))
  unfolding part_of
  opens = let Known : Inside.Denot → Type 0 = λ a. (view a ≡ t) × good a in
      qed 𝓛 (‵ (part_at Owner full_share t b o) ∷ []) ∵
      use1 𝓛 (some (λ (x : (a : Inside.Denot) × Known a). ‵ (part_at Inside full_share x.0 b o)))
      (plain_out Owner Inside (view_owns Inside (Owned R.Denot) Owner.coded view good) 𝓛 full_share
      t b o) $
      pick ! (λ x.
      let a : Inside.Denot = x.0 in
      use1 𝓛 (‵ (part_at Table full_share a.pointers b (o + 0)) ⊛ raw (Apart a))
      (field_out 𝓛 full_share [] ms
      ((pointers_laws.the_row_laws R (param_laws 0 X L)).lawful 𝓛, (uint_Lawful 𝓛 w64, tt))
      (a.pointers, (a.reserved, tt)) b o 0) $
      types.Kit.show ! (λ (z : (a : Inside.Denot) × Known a).
      sep 𝓤 (sem 𝓛 (part_at Table full_share z.0.pointers b (o + 0))) (Apart z.0))
      x $
      types.Kit.done !)

  shuts : (a : Inside.Denot) → view a ≡ t → good a → (lent : Owned R.Denot)
      → ent 𝓤 (sep 𝓤
      (sem 𝓛 (part_at Table full_share (refilled a.pointers lent.contents) b (o + 0)))
      (Apart a))
      (sem 𝓛 ((mem Owner).own_at (owned_refilled t lent) b o))
  unfolding part_of
  shuts a seen so lent = let a' : Inside.Denot = record { pointers = refilled a.pointers lent.contents; reserved = a.reserved } in
      qed 𝓛 (‵ (part_at Table full_share a'.pointers b (o + 0)) ∷ raw (Apart a) ∷ []) ∵
      use2 𝓛 (‵ (part_at Inside full_share a' b o)) (field_back 𝓛 full_share [] ms (a'.pointers, (a'.reserved, tt)) b o 0) $
      by ! (Plain-in Owner Inside (view_owns Inside (Owned R.Denot) Owner.coded view good) 𝓛 full_share (owned_refilled t lent) a'
      (view_made Inside (Owned R.Denot) Owner.coded view good 𝓛 (owned_refilled t lent) a'
      (ap (λ s. owned_refilled s lent) seen, IsOwned-refilled (view a) lent so))
      b o)

pub lend_spec : {M : Type 1} → statement M
lend_spec 𝓤 𝓛 𝓜 𝓡 wired X L =
    let R : RattleType = param 0 X in let En = ended X in let c = clauses X 𝓛 𝓜.mem 𝓡.returns in
    let inst = layouts (a_type ∷ []) (X, tt) in let fn = inst_fn inst code.function in let Owner : RattleType = buckets.the_row R in
    let row = plain (λ _. Owner) in let self = RefMutOf (0 ∷ []) tt row (λ _. tt) in
    let hs : Stays En.signature.params En.kept = (stay_dropped self no, tt) in
    proved 𝓛 En hs c 𝓜 𝓡 (Goes-spent_ref 𝓛 2 (0 ∷ []) tt row, tt) (#self inst) fn
    (code.unfolded 𝓤 𝓛.H 𝓜 𝓡 wired (X, tt))
    (λ κs. (mut_vals, tt)) (λ κs. (mut_Tells (named 0) κs.0 Owner, tt)) (λ κs qs bounds a gh are.
    let b : ℕ = a.0.ref_ptr.0 in let o : ℕ = a.0.ref_ptr.1 in let κ : Lft = κs.0 in let q : Share = qs.0 in
    let γ : GName = a.0.ghost_name in let t : Owned R.Denot = a.0.now in
    let ℓ = named_lft 2 0 tt κs in let Lo : RattleType = loan.the_row ℓ R in let others : Fml = fsep (flft κs.1.0 qs.1.0) ftrue in
    let y : (walk_of 𝓛 En hs c).Ghost = ((κs, qs, bounds, a, (vptr b o ∷ [], tt)), gh) in
    qed 𝓛 (((‵ (flft κ q) ⊛ ‵ others) ⊛ ‵ (owns (types_at En.signature.params κs) a y.0.4))
    ∷ raw ((c κs a).requires gh) ∷ []) ∵
    split ! $ split ! $ move ! (2 ∷ []) $ fsplit ! $ fsplit3 ! $ keep ! (1 ∷ 2 ∷ 4 ∷ 5 ∷ []) $
    enter ! _ _ _ _ _ $ alloc_all ! (λ l. pass_all ! refl ((tt, tt), tt) $
    sets ! (addr ! (through ! refl (fld ! refl (stop !)))) refl (tt, tt) $
    sets ! (of_opd ! (get ! refl)) refl (tt, tt) $ sets ! (of_opd ! (get ! refl)) refl (tt, tt) $
    sets ! (agg ! (no_more !)) refl (tt, tt) $
    sets ! (agg ! (and_then ! (get ! refl) (and_then ! (get ! refl) (and_then ! (get ! refl) (no_more !)))))
    refl (tt, (tt, (tt, (tt, tt)))) $
    open_ref ! tt (mem Owner) $
    use1 𝓛
    (some
    (λ (x : (d : (Inside 𝓛 X L b o t).Denot) × ((view 𝓛 X L b o t d ≡ t) × good 𝓛 X L b o t d)).
    ‵ (part_at (Table 𝓛 X L b o t) full_share x.0.pointers b (o + 0))
    ⊛ raw (Apart 𝓛 X L b o t x.0)))
    (opens 𝓛 X L b o t) $
    pick ! (λ x. split ! $
    -- [the pointers; what is apart; the owner's open borrow, in three entries; the other tokens]
    let d = x.0 in let held : Contents R.Denot = d.pointers in let code_of = Owner.coded.code t in let p = block_ptr b (o + 0) in
    move ! (2 ∷ 3 ∷ 4 ∷ 0 ∷ 1 ∷ []) $ group ! 5 $
    use1 𝓛
    (later (given (IsTable held) (some (λ (ν : GName).
    ‵ (loan_owns κ R p p ν held 0 63 0) ⊛ ‵ (flft κ q)
    ⊛ ‵ (follows Owner Owner γ ν (owned_refilled t))))))
    (lends 𝓛 X L b (o + 0) held Owner b o (owned_refilled t) (Apart 𝓛 X L b o t d)
    (shuts 𝓛 X L b o t d x.1.0 x.1.1) κ q γ code_of code_of) $
    await ! tt $ learn ! (λ table. pick ! (λ ν. split3 ! $
    -- [what the loan owns; the token; what follows; the other tokens]
    move ! (1 ∷ 3 ∷ []) $ join ! $ knows ! (0 ≡ 0) refl $
    knows ! (held ≡ t.contents) (ap (λ (s : Owned R.Denot). s.contents) x.1.0) $
    join ! $ move ! (3 ∷ 0 ∷ []) $ join ! $ move ! (2 ∷ []) $
    let h : Lo.Denot = record {
      pointers = p;
      values = p;
      marker = record {};
      name = ν;
      contents = held;
      given = 0;
      bucket = 63;
      first = 0;
    } in
    use0 𝓛 (‵ ((FieldsType ℓ R).own_val (p, (p, (tt, tt))) (loan_val p p ∷ []))) (made ℓ R 𝓛 p p) $
    fjoin ! $ nothing ! $ nothing ! $ fjoin ! $
    returns ! (look_at ! 0 refl) $ free_all ! refl $ keep ! (3 ∷ 0 ∷ 1 ∷ 2 ∷ []) $
    by ! (leaves 𝓛 En hs c y (loan_val p p) h (tt, tt) (tt, tt)))))))
