-- `of` takes the block's pointer.
use Rattle.thread_local_base.proofs.Names.{◌≡◌, ℕ, List, [], ◌∷◌, refl, w64, Option, Ty, a_type, dcons, dnil, Val}
use Rattle.thread_local_base.proofs.Names.{vint, inst_fn, Fml, ‵, raw, ◌⊛◌, ◌$◌, ◌∵◌, !, qed, by, move}
use Rattle.thread_local_base.proofs.Names.{keep, use0, use1, split, fsplit, fjoin, rewrite, stop, fld, of_opd}
use Rattle.thread_local_base.proofs.Names.{no_more, and_then, returns, enter, alloc_all, pass_all, free_all, look_at}
use Rattle.thread_local_base.proofs.Names.{get, get_in, sets, agg, sub, whole, fact, yes, no}
use Rattle.thread_local_base.proofs.Names.{RattleType, owns, types_at, plain, Ptr, nothing, heard, param, bounded}
use Rattle.thread_local_base.proofs.Names.{alive, usize, uint_vals, uint_Tells, Stays, stay_dropped, walk_of}
use Rattle.thread_local_base.proofs.Names.{Goes-dropped, proved, leaves}
use Rattle.std.specs.Prelude.{take, drop as but_first}
use Rattle.thread_local_buckets.specs.Slots.{empty_slots, block_owns}
use Rattle.thread_local_buckets.specs.Emptying.{emptying_owns}
use Rattle.thread_local_buckets.specs.contracts.block.Block as block
use Rattle.thread_local_buckets.specs.contracts.emptying.EmptyingBlock as emptying
use Rattle.thread_local_buckets.specs.contracts.emptying.EmptyingBlock.of.{ended, clauses, Key.name as #self}
use Rattle.thread_local_buckets.proofs.BlockFields as fields
use Rattle.thread_local_buckets.proofs.Slots.{ptr_good}
use Rattle.thread_local_buckets.proofs.EmptyingBlocks.{starts_at}
use Rattle.thread_local_buckets.proofs.emptying.EmptyingBlock.of.Statement.{statement}
use Rattle.thread_local_buckets.proofs.emptying.EmptyingBlock.of.Code as code
use Rattle.thread_local_base.proofs.Walking.{knows}
use Rattle.thread_local_buckets.proofs.BlockFields.{FieldsType, made}

pub of_spec : {M : Type 1} → statement M
of_spec 𝓤 𝓛 𝓜 𝓡 wired T Al L _ ga da dd _ _ =
    let R : RattleType = param 0 T in let Z : RattleType = param 1 Al in let Bl : RattleType = block.the_row R Z ga in
    let Lv : RattleType = emptying.the_row R Z ga in let En = ended T Al ga da dd in
    let c = clauses T Al ga da dd 𝓛 𝓜.mem 𝓡.returns in
    let inst = bounded (a_type ∷ a_type ∷ []) (T, (Al, tt)) (dcons da (dcons dd dnil)) in
    let fn = inst_fn inst code.function in
    let hs : Stays En.signature.params En.kept = (stay_dropped (plain (λ _. Bl)) no, (stay_dropped (plain (λ _. usize)) yes, tt)) in
    proved 𝓛 En hs c 𝓜 𝓡 (
      Goes-dropped 𝓛 2 (plain (λ _. Bl)) no (λ κs x f. refl),
      (Goes-dropped 𝓛 2 (plain (λ _. usize)) yes (λ κs x f. refl), tt),
    )
    (#self inst) fn (code.unfolded 𝓤 𝓛.H 𝓜 𝓡 wired (T, (Al, tt)) da dd)
    (λ κs. ((λ x. fields.block_val x.at ∷ []), (uint_vals w64, tt)))
    (λ κs. ((λ x vs so. fields.told R Z ga x.at vs so.0), (uint_Tells w64, tt)))
    (λ κs qs bounds a gh are.
    let h : Bl.Denot = a.0 in let n : ℕ = a.1.0 in let p : Ptr = h.at in let cs : List (Option T.Denot) = h.slots in
    let ds : List (Option T.Denot) = but_first n cs in
    let token : Ty → Ptr → Fml = ga.dealloc_token h.heap in let v : Val = fields.block_val p in
    let y : (walk_of 𝓛 En hs c).Ghost = ((κs, qs, bounds, a, (v ∷ [], (vint w64 n ∷ [], tt))), gh) in
    let Empty : Type 0 = take n cs ≡ empty_slots n in
    qed 𝓛 ((raw (alive 𝓛 En.signature κs qs) ⊛ ‵ (owns (types_at En.signature.params κs) a y.0.4))
    ∷ raw (fact 𝓤 _) ∷ raw (fact 𝓤 _) ∷ raw (fact 𝓤 (h.left ≡ 0)) ∷ raw (fact 𝓤 Empty) ∷ []) ∵
    keep ! (3 ∷ 4 ∷ 0 ∷ []) $ heard ! (h.left ≡ 0) (λ whole_block. heard ! Empty (λ empty. split ! $
    move ! (1 ∷ []) $ fsplit ! $ fsplit ! $ keep ! (1 ∷ 3 ∷ []) $
    rewrite ! 0 (λ (m : ℕ). ‵ (block_owns R token p cs m)) whole_block refl $
    use1 𝓛 (‵ (emptying_owns R token p n ds)) (starts_at 𝓛 R token p n cs empty) $
    enter ! _ _ _ _ _ $ alloc_all ! (λ l.
    pass_all ! refl (fields.block_good p, ((tt, record { fits = are.1.0.1 }), tt)) $
    sets ! (of_opd ! (get_in ! (fld ! refl (stop !)) (sub ! 0 refl (whole !)))) refl (ptr_good p) $
    sets ! (agg ! (no_more !)) refl (tt, tt) $
    sets ! (agg ! (and_then ! (get ! refl) (and_then ! (get ! refl) (no_more !)))) refl (fields.block_good p) $
    let r : Lv.Denot = record { at = p; marker = record {}; heap = h.heap; slots = ds; gone = n } in
    let Told : Type 0 = (h.heap ≡ h.heap) × (ds ≡ ds) × (n ≡ n) in
    use0 𝓛 (‵ ((FieldsType R Z ga).own_val (p, (record {}, tt)) (v ∷ []))) (made R Z ga 𝓛 p) $
    fjoin ! $ knows ! Told (refl, refl, refl) $ nothing ! $
    nothing ! $ fjoin ! $ nothing ! $ fjoin ! $
    returns ! (look_at ! 0 refl) $ free_all ! refl $ keep ! (3 ∷ 0 ∷ 2 ∷ 1 ∷ []) $
    by ! (leaves 𝓛 En hs c y v r (tt, (tt, tt)) (tt, (tt, tt)))))))
