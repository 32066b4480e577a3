-- `new` puts a value that fits behind the word FREE.
use Rattle.thread_local_base.proofs.Names.{◌≡◌, ℕ, ◌^◌, ◌&&◌, T, true, List, [], ◌∷◌, ◌++◌, sym, refl, subst, lit<}
use Rattle.thread_local_base.proofs.Names.{w64, dcons, dnil, a_type, Val, vint, vstruct, vcons, vnil, has_ty, WT}
use Rattle.thread_local_base.proofs.Names.{inst_fn, SProp, ent, id⊢, ftrue, fsep, WpFn, ‵, raw, ◌⊛◌, ◌$◌, ◌∵◌, ! }
use Rattle.thread_local_base.proofs.Names.{qed, by, move, keep, drop, split, fsplit, fjoin, fjoin3, fpack}
use Rattle.thread_local_base.proofs.Names.{rewrite, feq_i, flt_i, suffices, lit, of_opd, no_more, and_then, returns}
use Rattle.thread_local_base.proofs.Names.{enter, alloc_all, pass_all, free_all, look_at, get, sets, agg, tables}
use Rattle.thread_local_base.proofs.Names.{fact, no, RattleType, owns, types_at, plain, nothing, heard, param}
use Rattle.thread_local_base.proofs.Names.{layout, bounded, u64, alive, Stays, stay_dropped, walk_of, Goes-dropped}
use Rattle.thread_local_base.proofs.Names.{El, lawful, Good, and_tt, proved_at, leaves}
use Rattle.std.proofs.mem.Param.{one}
use base.Fml.{fex}
use denote.RattleType.{Valss}
use denote.Laws.{Typed}
use denote.Struct.Struct.{within}
use Rattle.thread_local_ids.specs.Locking.{Fitting}
use Rattle.thread_local_ids.specs.contracts.locks.lock.Lock.TheInside as inside
use Rattle.thread_local_ids.specs.contracts.locks.lock.Lock.new.{ended, clauses, Key.name as #self}
use Rattle.thread_local_ids.proofs.locks.lock.Lock.new.Statement.{statement}
use Rattle.thread_local_ids.proofs.locks.lock.Lock.new.Code as code
use Rattle.thread_local_base.proofs.Walking.{knows}

pub new_spec : {M : Type 1} → statement M
new_spec 𝓤 𝓛 𝓜 𝓡 wired X L g d _ =
    let 𝓣 = tables 𝓤 𝓛.H 𝓜 𝓡 𝓡.env in let R : RattleType = param 0 X in let En = ended X g d in
    let c = clauses X g d 𝓛 𝓜.mem 𝓡.returns in
    let E : El = record { row = X; laws = L } in
    let inst = bounded (a_type ∷ []) (X, tt) (dcons d dnil) in let fn = inst_fn inst code.function in
    let closed = code.unfolded 𝓤 𝓛.H 𝓜 𝓡 wired (X, tt) d in
    let item = plain (λ _. R) in
    let hs : Stays En.signature.params En.kept = (stay_dropped item no, tt) in
    let F : RattleType = inside.the_row R g in
    let D = denote.Struct.Declared.shape (inside.the_type R g) in
    let fine : (v : Val) → Good E v → T (has_ty (layout X) v && true) = λ v h. and_tt (has_ty (layout X) v) h.0 in
    proved_at 𝓛 En hs c 𝓜 𝓡 (Goes-dropped 𝓛 1 item no (λ κs x f. refl), tt) (#self inst) fn closed (λ z are.
    let x : X.Denot = z.0.3.0 in
    let tag : ℕ = g.tag x in
    let ok = Fitting g.tag g.fits tag in
    let Rest : ℕ × X.Denot → Type 0 = λ s. s.0 ≡ 0 → ok s.1 in
    let got = one E z.0.4.0 ((lawful E 𝓛).typed x z.0.4.0 are.0) in
    let vy : Val = got.0 in
    let fy : Good E vy = got.2 in
    let v : Val = vstruct (vcons (vint w64 0) (vcons vy vnil)) in let Post : Val → SProp 𝓤 = (walk_of 𝓛 En hs c).post z in
    let Run : List Val → SProp 𝓤 = λ ws. WpFn 𝓤 𝓛.H 𝓣.C 𝓣.Λ fn ws Post in
    let typed : T (has_ty (layout X) vy && true) × WT v = (fine vy fy, (record { fits = lit< tt }, (fy.1, tt))) in
    qed 𝓛 ((raw (alive 𝓛 En.signature z.0.0 z.0.1)
    ⊛ ‵ (owns (types_at En.signature.params z.0.0) z.0.3 z.0.4))
    ∷ raw (fact 𝓤 _) ∷ raw (fact 𝓤 (g.fits x)) ∷ []) ∵
    keep ! (2 ∷ 0 ∷ []) $ heard ! (g.fits x) (λ fit. split ! $ move ! (1 ∷ []) $ fsplit ! $
    move ! (1 ∷ []) $ drop ! $ nothing ! $ move ! (1 ∷ []) $
    rewrite ! 0 (λ (ws : List Val). ‵ (R.own_val x ws)) got.1 refl $ flt_i ! 0 (2 ^ 64) (lit< tt) $
    feq_i ! _ (vint w64 0 ∷ []) _ refl $ fjoin ! $ fjoin3 ! $
    feq_i ! _ (v ∷ []) _ refl $ fjoin ! $
    fpack ! (Valss (u64 ∷ R ∷ [])) (within D (0, (x, tt)) (v ∷ []))
    (vint w64 0 ∷ [], (vy ∷ [], tt)) $
    nothing ! $ fpack ! (Rest (0, x)) (λ _. ftrue) (λ _. (fit, refl)) $ move ! (1 ∷ 0 ∷ []) $ fjoin ! $
    fpack ! (ℕ × X.Denot) (λ s.
    fsep (F.own_val (record { word = s.0; value = s.1 }) (v ∷ [])) (fex (Rest s) (λ _. ftrue)))
    (0, x) $
    nothing ! $ fpack ! (Typed F.mir (v ∷ [])) (λ _. ftrue) (typed, tt) $ fjoin ! $
    suffices ! (Run (vy ∷ [])) (subst (λ (ws : List Val). ent 𝓤 (Run (vy ∷ [])) (Run ws))
    (sym (λ i. got.1 i ++ [])) (id⊢ 𝓤 (Run (vy ∷ [])))) $
    enter ! _ _ _ _ _ $ alloc_all ! (λ l. pass_all ! refl (fy, tt) $ sets ! (of_opd ! (get ! refl)) refl fy $
    sets ! (agg ! (and_then ! (lit ! tt) (and_then ! (get ! refl) (no_more !)))) refl typed $
    knows ! (tag ≡ tag) refl $ nothing ! $ nothing ! $ fjoin ! $
    returns ! (look_at ! 0 refl) $ free_all ! refl $ keep ! (3 ∷ 0 ∷ 2 ∷ 1 ∷ []) $
    by ! (leaves 𝓛 En hs c z v (record { tag = tag }) (tt, tt) (tt, tt)))))
