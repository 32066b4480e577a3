-- Taking one element's share out of `each`, and putting it back. Assumes `Logic`.
use Rattle.thread_local_base.proofs.Names.{◌≡◌, ◌≢◌, ℕ, zero, suc, ◌+◌, ◌<◌, ◌≤◌, List, [], ◌∷◌, length, set, get_or}
use Rattle.thread_local_base.proofs.Names.{refl, sym, arith, Ura, SProp, all, all_e, apply∗, Fml}
use Rattle.thread_local_base.proofs.Names.{Logic, ‵, raw, ◌⊛◌, ◌$◌, ◌∵◌, !, qed, by, move, split, frame}
use Rattle.thread_local_base.proofs.Names.{each as for_each, assume, use1, use2, rewrite, done}
use Rattle.thread_local_buckets.specs.Slots.{each}
use Rattle.thread_local_base.proofs.Signs.{signs}

module _ {M : Type 1} {𝓤 : Ura M} (𝓛 : Logic 𝓤) where
  open signs 𝓛 use {⟦◌⟧, ◌⊢◌, ◌∗◌, ◌-∗◌}

  infix 26 ◌⊢◌
  infixr 35 ◌∗◌
  infixr 30 ◌-∗◌
  module _ {X : Type 0} where
    -- the way back, for whatever replaces the element at i, which has the number k
    abbrev pub Put : (X → ℕ → Fml) → List X → ℕ → ℕ → ℕ → X → SProp 𝓤
    Put F xs j i k x = ⟦ F x k ⟧ -∗ ⟦ each F (set xs i x) j ⟧

    pub each_at : (F : X → ℕ → Fml) (xs : List X) (j i k : ℕ) (d : X) → k ≡ i + j → i < length xs
        → ⟦ each F xs j ⟧ ⊢ ⟦ F (get_or xs i d) k ⟧ ∗ all 𝓤 (Put F xs j i k)
    each_at F [] j i k d is near = absurd (omega arith)
    each_at F (x ∷ xs) j zero k d is near =
        let same : j ≡ k = omega arith in
        qed 𝓛 (‵ (F x j) ∷ ‵ (each F xs (suc j)) ∷ []) ∵
        rewrite ! 0 (λ (m : ℕ). ‵ (F x m)) same refl $ frame ! $
        for_each ! (Put F (x ∷ xs) j 0 k)
        (λ y. assume ! (‵ (F y k)) $ rewrite ! 0 (λ (m : ℕ). ‵ (F y m)) (sym same) refl $ done !)
    each_at F (x ∷ xs) j (suc i) k d is near = qed 𝓛 (‵ (F x j) ∷ ‵ (each F xs (suc j)) ∷ []) ∵ move ! (1 ∷ []) $
        use1 𝓛 (‵ (F (get_or xs i d) k) ⊛ raw (all 𝓤 (Put F xs (suc j) i k)))
        (each_at F xs (suc j) i k d (omega arith) (omega arith)) $
        split ! $ frame ! $
        for_each ! (Put F (x ∷ xs) j (suc i) k) (λ y.
        use1 𝓛 (raw (Put F xs (suc j) i k y)) (all_e 𝓤 (Put F xs (suc j) i k) y) $
        assume ! (‵ (F y k)) $
        use2 𝓛 (‵ (each F (set xs i y) (suc j)))
        (apply∗ 𝓤 ⟦ F y k ⟧ ⟦ each F (set xs i y) (suc j) ⟧) $
        move ! (1 ∷ 0 ∷ []) $ done !)

    -- where one formula follows from another for each element, `each` of it does too
    pub each_map : (F G : X → ℕ → Fml) (xs : List X) (j : ℕ)
        → ((x : X) (k : ℕ) → j ≤ k → ⟦ F x k ⟧ ⊢ ⟦ G x k ⟧)
        → ⟦ each F xs j ⟧ ⊢ ⟦ each G xs j ⟧
    each_map F G [] j law = qed 𝓛 (‵ (each F [] j) ∷ []) ∵ done !
    each_map F G (x ∷ xs) j law =
        qed 𝓛 (‵ (F x j) ∷ ‵ (each F xs (suc j)) ∷ []) ∵
        use1 𝓛 (‵ (G x j)) (law x j (omega arith)) $ frame ! $
        by ! (each_map F G xs (suc j) (λ y k from. law y k (omega arith)))

    -- takes the element at i out by one formula and back by another, which follows for all other
    -- elements and is picked later
    pub each_turned : {Y : Type 0} (F : X → ℕ → Fml) (G : Y → X → ℕ → Fml) (xs : List X) (j i k : ℕ)
        (d : X)
        → k ≡ i + j → i < length xs → ((y : Y) (x : X) (m : ℕ) → m ≢ k → ⟦ F x m ⟧ ⊢ ⟦ G y x m ⟧)
        → ⟦ each F xs j ⟧
        ⊢ ⟦ F (get_or xs i d) k ⟧
        ∗ all 𝓤 (λ (y : Y). ⟦ G y (get_or xs i d) k ⟧ -∗ ⟦ each (G y) xs j ⟧)
    each_turned F G [] j i k d is near law = absurd (omega arith)
    each_turned {Y} F G (x ∷ xs) j zero k d is near law =
        let same : j ≡ k = omega arith in
        qed 𝓛 (‵ (F x j) ∷ ‵ (each F xs (suc j)) ∷ []) ∵
        rewrite ! 0 (λ (m : ℕ). ‵ (F x m)) same refl $ frame ! $
        for_each ! (λ (y : Y). ⟦ G y x k ⟧ -∗ ⟦ each (G y) (x ∷ xs) j ⟧) (λ y.
        assume ! (‵ (G y x k)) $ rewrite ! 0 (λ (m : ℕ). ‵ (G y x m)) (sym same) refl $ frame ! $
        by ! (each_map F (G y) xs (suc j) (λ z m from. law y z m (λ e. absurd (omega arith)))))
    each_turned {Y} F G (x ∷ xs) j (suc i) k d is near law =
        let z : X = get_or xs i d in
        let Back : Y → SProp 𝓤 = λ y. ⟦ G y z k ⟧ -∗ ⟦ each (G y) xs (suc j) ⟧ in
        qed 𝓛 (‵ (F x j) ∷ ‵ (each F xs (suc j)) ∷ []) ∵ move ! (1 ∷ []) $
        use1 𝓛 (‵ (F z k) ⊛ raw (all 𝓤 Back))
        (each_turned F G xs (suc j) i k d (omega arith) (omega arith) law) $
        split ! $ frame ! $
        for_each ! (λ (y : Y). ⟦ G y z k ⟧ -∗ ⟦ each (G y) (x ∷ xs) j ⟧) (λ y.
        use1 𝓛 (raw (Back y)) (all_e 𝓤 Back y) $ assume ! (‵ (G y z k)) $
        use2 𝓛 (‵ (each (G y) xs (suc j))) (apply∗ 𝓤 ⟦ G y z k ⟧ ⟦ each (G y) xs (suc j) ⟧) $
        move ! (1 ∷ []) $ use1 𝓛 (‵ (G y x j)) (law y x j (λ e. absurd (omega arith))) $ frame ! $
        done !)
