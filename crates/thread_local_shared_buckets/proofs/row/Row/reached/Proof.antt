-- `reached` copies what the row shows, and takes the later of two pages.
use Rattle.thread_local_base.proofs.Names.{◌≡◌, ℕ, [], ◌∷◌, refl, a_type, named, Val, vptr, inst_fn, Lft, ‵, raw}
use Rattle.thread_local_base.proofs.Names.{◌⊛◌, some, given, learn, pick, ◌$◌, ◌∵◌, !, qed, by, move, keep, drop, split, join, fsplit}
use Rattle.thread_local_base.proofs.Names.{fsplit3, fjoin, fpick, fpack, rewrite, use0, use1, use2, no_more, and_then, returns, enter}
use Rattle.thread_local_base.proofs.Names.{alloc_all, pass_all, free_all, look_at, get, sets, agg, yes, RattleType, owns, types_at, plain}
use Rattle.thread_local_base.proofs.Names.{param, layouts, nothing, heard, fact, RefOf, shr_vals, shr_Tells, Stays, stay_dropped, walk_of}
use Rattle.thread_local_base.proofs.Names.{Goes-dropped, proved, leaves, alive}
use Rattle.std.proofs.Common.{◌≤◌, List, length}
use mathlib.Core.List.{IsPrefix}
use base.Fml.{fhide}
use denote.Signature.{named_lft}
use denote.Memory.{hidden_shr}
use denote.Opens.{unhide}
use denote.Ref.{ShrRef}
use denote.Struct.Lending.{lent_out}
use Rattle.std.specs.contracts.marker.PhantomData as marker
use Rattle.thread_local_base.specs.IdMoves.{IdMove, held_after}
use Rattle.thread_local_ids.specs.Rights.{page_owns, page_with}
use Rattle.thread_local_ids.specs.contracts.rights.page.Page as Page
use Rattle.thread_local_ids.proofs.ReachedElements.{reached_page}
use Rattle.thread_local_ids.proofs.Markers.{token, Mark, made}
use Rattle.thread_local_shared_buckets.specs.Shared.{BucketView, row_owns, shown_by}
use Rattle.thread_local_shared_buckets.specs.contracts.row.Row as Row
use Rattle.thread_local_shared_buckets.specs.contracts.row.Row.reached.{ended, clauses, Key.name as #self}
use Rattle.thread_local_shared_buckets.proofs.RowFields.{FieldsType}
use Rattle.thread_local_shared_buckets.proofs.row.Row.reached.Statement.{statement}
use Rattle.thread_local_shared_buckets.proofs.row.Row.reached.Code as code
use Rattle.thread_local_base.proofs.Walking.{knows}

pub reached_spec : {M : Type 1} → statement M
reached_spec 𝓤 𝓛 𝓜 𝓡 wired T L =
    let R : RattleType = param 0 T in let En = ended T in let c = clauses T 𝓛 𝓜.mem 𝓡.returns in
    let inst = layouts (a_type ∷ []) (T, tt) in let fn = inst_fn inst code.function in
    let self = RefOf (0 ∷ []) tt (plain (λ κs. Row.the_row (named_lft 4 1 tt κs) R)) (λ _. tt) in
    let pages = RefOf (2 ∷ []) tt (plain (λ _. Page.the_row)) (λ _. tt) in
    let hs : Stays En.signature.params En.kept = (stay_dropped self yes, (stay_dropped pages yes, tt)) in
    proved 𝓛 En hs c 𝓜 𝓡 (Goes-dropped 𝓛 4 self yes (λ κs x f. refl), (Goes-dropped 𝓛 4 pages yes (λ κs x f. refl), tt))
    (#self inst) fn (code.unfolded 𝓤 𝓛.H 𝓜 𝓡 wired (T, tt)) (λ κs. (shr_vals, (shr_vals, tt)))
    (λ κs. (shr_Tells (named 0) κs.0 (Row.the_row (named_lft 4 1 tt κs) R), (shr_Tells (named 2) κs.1.1.0 Page.the_row, tt)))
    (λ κs qs bounds a gh are.
    let ℓ = named_lft 4 1 tt κs in let b : ℕ = a.0.ref_ptr.0 in let o : ℕ = a.0.ref_ptr.1 in
    let κ : Lft = κs.0 in let β : Lft = κs.1.0 in let h = a.0.now in let d : BucketView = h.of in
    let pg = a.1.0.now in let pp : Val = vptr a.1.0.ref_ptr.0 a.1.0.ref_ptr.1 in
    let At : Type 0 = pg.table ≡ d.table in
    let y : (walk_of 𝓛 En hs c).Ghost = ((κs, qs, bounds, a, (vptr b o ∷ [], (pp ∷ [], tt))), gh) in
    qed 𝓛 ((raw (alive 𝓛 En.signature κs qs) ⊛ ‵ (owns (types_at En.signature.params κs) a y.0.4))
    ∷ raw (fact 𝓤 _) ∷ raw (fact 𝓤 At) ∷ []) ∵
    keep ! (2 ∷ 0 ∷ []) $ heard ! At (λ at. split ! $ move ! (1 ∷ []) $ fsplit3 ! $ fsplit ! $ move ! (2 ∷ []) $ fsplit ! $
    -- [two parts of the page's `&`; two of the row's; ..; the tokens]
    keep ! (1 ∷ 3 ∷ 5 ∷ []) $ unhide ! $ fsplit ! $ drop ! $
    rewrite ! 0 (λ (n : ℕ). ‵ (page_with n pg.moves pg.room)) at refl $ fpack ! ℕ (page_with d.table pg.moves) pg.room $ move ! (1 ∷ []) $
    use1 𝓛 (‵ (hidden_shr (FieldsType ℓ R) κ (h.at, (record {}, tt)) b o) ⊛ ‵ (fhide (row_owns R d h.names β h.at)))
    (lent_out 𝓛 (Row.struct ℓ R)
    (Row.the_codes T.Denot R.coded (marker.the_row (ShrRef ℓ.mir ℓ.lft R)).coded)
    (Row.the_heap β R) (Row.the_lent β R) κ h b o) $
    split ! $ drop ! $ unhide ! $ fpick ! (λ z. fsplit3 ! $ drop ! $ drop ! $ fsplit ! $ move ! (1 ∷ []) $ drop ! $
    -- [how many ids were held; the page; the tokens]
    use2 𝓛 (some (λ (moves : List IdMove).
    given ((shown_by d ≤ length (held_after moves)) × IsPrefix pg.moves moves) (‵ (page_owns d.table moves))))
    (reached_page 𝓛 d.table (shown_by d) pg.moves) $ pick ! (λ moves. learn ! (λ seen. fpick ! (λ room.
    let r : Page.the_row.Denot = record { marker = record {}; table = d.table; moves = moves; room = room } in
    use0 𝓛 (‵ ((Mark (Page.the_type).name).own_val (tt, tt) (token ∷ []))) (made (Page.the_type).name 𝓛) $ fjoin ! $
    enter ! _ _ _ _ _ $ alloc_all ! (λ l. pass_all ! refl ((tt, tt), ((tt, tt), tt)) $
    sets ! (agg ! (no_more !)) refl (tt, tt) $ sets ! (agg ! (and_then ! (get ! refl) (no_more !))) refl (tt, (tt, tt)) $
    knows ! (shown_by d ≤ length (held_after moves)) seen.0 $ knows ! (IsPrefix pg.moves moves) seen.1 $ join ! $
    knows ! (d.table ≡ d.table) refl $ join ! $ nothing ! $ nothing ! $ fjoin ! $ nothing ! $ fjoin ! $
    returns ! (look_at ! 0 refl) $ free_all ! refl $ keep ! (3 ∷ 0 ∷ 2 ∷ 1 ∷ []) $
    by ! (leaves 𝓛 En hs c y token r (tt, (tt, tt)) (tt, (tt, tt))))))))))
