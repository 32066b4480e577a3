-- What lies with the word of announced buckets: it changes as buckets are announced, and shows of a
-- bucket that was that its bit is set still. Assumes `Logic`.
use Rattle.std.proofs.Common.{◌≡◌, ◌≢◌, ℕ, zero, suc, ◌+◌, ◌*◌, ◌%◌, ◌^◌, ◌<◌, Bool, true, false, [], ◌∷◌, refl, sym, subst, ◌∙◌}
use Rattle.std.proofs.Common.{arith, ⊎_elim, None, Some, bit_or}
use Rattle.std.proofs.lemmas.Bool.{cases_lt, ne_eqb, eq-eqb}
use Rattle.std.specs.Prelude.{◌==◌, if◌then◌else◌}
use Rattle.std.specs.Coded.{coded_option}
use seplogic.Ra.Ura.{Ura}
use base.Logic.{SProp, emp, ex, upd, upd_i, guard}
use base.Fml.{GName, Lft, Share, Fml, ftrue, fsep, fex, flft, fbor}
use types.Logic.{Logic}
use types.Kit.{‵, raw, ◌⊛◌, some, settle, pick, suffices, ◌$◌, ◌∵◌, !, qed, by, move, keep, drop, split, fsplit}
use types.Kit.{fjoin, fpick, fpack, check, learn, given, rewrite, use0, use1, use2, done}
use denote.Builtin.{u64}
use denote.RawPtr.{block_ptr}
use denote.Steps.{nothing}
use Rattle.std.specs.Sync.RawAtomic.{asks, always}
use Rattle.thread_local_base.specs.Bits.{is_set, IsWordBut}
use Rattle.thread_local_base.specs.Fact.{fact}
use Rattle.thread_local_base.specs.SharedWord.{word_invariant}
use Rattle.thread_local_base.proofs.SharedWord.{stepped}
use Rattle.thread_local_base.proofs.Signs.{signs}
use Rattle.thread_local_base.proofs.Word.{set_bit, same_bit as unchanged}
use Rattle.thread_local_ids.specs.Told.{untold_in}
use Rattle.thread_local_ids.specs.Sharings.{later_of}
use Rattle.thread_local_ids.proofs.ToldElements.{told_dup, tells_it, never_told, source, source_new, all_drawn, New}
use Rattle.thread_local_shared_buckets.specs.Announcing.{Announcing, told_of, announced_by, announced, lies_with_bit, lies_with_bits}
use Rattle.thread_local_shared_buckets.specs.Announcing.{lies_with_word, announced_unless, announced_or}

-- of a bit that is set as a bit of that name, and of another
same_bit : (bit : ℕ) (old : Bool) → (if bit == bit then true else old) ≡ true
same_bit bit old = rw (eq-eqb bit bit refl) refl

other_bit : (bit i : ℕ) → bit ≢ i → (old : Bool) → (if bit == i then true else old) ≡ old
other_bit bit i apart old = rw (ne_eqb bit i apart) refl

-- the rights to tell of the buckets below a number that they are announced
abbrev pub bits_untold : GName → ℕ → Fml
bits_untold γ zero = ftrue
bits_untold γ (suc bit) = fsep (untold_in (Some γ) bit) (bits_untold γ bit)

-- all that a sharing begins with beside its word: a new name's rights
abbrev pub new_rights : Fml
new_rights = fex GName (λ γ. bits_untold γ 63)

module _ {M : Type 1} {𝓤 : Ura M} (𝓛 : Logic 𝓤) where
  open 𝓛 use {A}
  open signs 𝓛 use {⟦◌⟧, ◌⊢◌, ◌∗◌}

  infix 26 ◌⊢◌
  infixr 35 ◌∗◌
  told_twice : (γ : GName) (bit : ℕ) → ⟦ told_of γ bit ⟧ ⊢ ⟦ told_of γ bit ⟧ ∗ ⟦ told_of γ bit ⟧
  told_twice γ bit = told_dup 𝓛 (Some γ) bit ((coded_option u64.coded).code (Some 0))

  by_twice : (γ : GName) (bit : ℕ) (begun : Bool)
      → ⟦ announced_by γ bit begun ⟧ ⊢ ⟦ announced_by γ bit begun ⟧ ∗ ⟦ announced_by γ bit begun ⟧
  by_twice γ bit true = qed 𝓛 (‵ ftrue ∷ []) ∵ nothing ! $ done !
  by_twice γ bit false = told_twice γ bit

  -- that a bucket is announced can be had twice
  pub announced_twice : (m : Announcing) (bit : ℕ) → ⟦ announced m bit ⟧ ⊢ ⟦ announced m bit ⟧ ∗ ⟦ announced m bit ⟧
  announced_twice m bit = by_twice m.name bit (is_set m.begun bit)

  -- whatever lies with a bit, the bucket may be announced by setting it
  one_set : (γ : GName) (bit : ℕ) (begun set : Bool)
      → ⟦ lies_with_bit γ bit begun set ⟧ ⊢ upd 𝓤 (⟦ lies_with_bit γ bit begun true ⟧ ∗ ⟦ announced_by γ bit begun ⟧)
  one_set γ bit true set =
      let Z = ⟦ lies_with_bit γ bit true true ⟧ ∗ ⟦ announced_by γ bit true ⟧ in
      qed 𝓛 (‵ (lies_with_bit γ bit true set) ∷ []) ∵ drop ! $ suffices ! _ (upd_i 𝓤 Z) $ nothing ! $
      fpack ! (true ≡ true) (λ _. ftrue) refl $ nothing ! $ move ! (1 ∷ 0 ∷ []) $ done !
  one_set γ bit false true =
      let Z = ⟦ lies_with_bit γ bit false true ⟧ ∗ ⟦ announced_by γ bit false ⟧ in
      qed 𝓛 (‵ (told_of γ bit) ∷ []) ∵ use1 𝓛 (‵ (told_of γ bit) ⊛ ‵ (told_of γ bit)) (told_twice γ bit) $
      suffices ! _ (upd_i 𝓤 Z) $ split ! $ done !
  one_set γ bit false false =
      let Z = ⟦ lies_with_bit γ bit false true ⟧ ∗ ⟦ announced_by γ bit false ⟧ in
      qed 𝓛 (‵ (untold_in (Some γ) bit) ∷ []) ∵
      use1 𝓛 (raw (upd 𝓤 ⟦ told_of γ bit ⟧)) (tells_it 𝓛 (Some γ) bit ((coded_option u64.coded).code (Some 0))) $
      settle 𝓛 Z (‵ (told_of γ bit)) $
      use1 𝓛 (‵ (told_of γ bit) ⊛ ‵ (told_of γ bit)) (told_twice γ bit) $
      suffices ! _ (upd_i 𝓤 Z) $ split ! $ done !

  module _ (m : Announcing) where
    -- bits that don't change keep what lies with them
    stay : (n n' count : ℕ) → ((i : ℕ) → i < count → is_set n' i ≡ is_set n i)
        → ⟦ lies_with_bits m n count ⟧ ⊢ ⟦ lies_with_bits m n' count ⟧
    stay n n' zero same = qed 𝓛 (‵ ftrue ∷ []) ∵ done !
    stay n n' (suc c) same =
        qed 𝓛 (‵ (lies_with_bits m n (suc c)) ∷ []) ∵ fsplit ! $
        rewrite ! 0 (λ (b : Bool). ‵ (lies_with_bit m.name c (is_set m.begun c) b)) (sym (same c (omega arith))) refl $
        move ! (1 ∷ []) $ use1 𝓛 (‵ (lies_with_bits m n' c)) (stay n n' c (λ i low. same i (omega arith))) $
        move ! (1 ∷ 0 ∷ []) $ fjoin ! $ done !

    -- a bit is set: the bucket is announced, and the others stay
    bit_raised : (n n' bit count : ℕ) → bit < count → is_set n' bit ≡ true
        → ((i : ℕ) → i < count → bit ≢ i → is_set n' i ≡ is_set n i)
        → ⟦ lies_with_bits m n count ⟧ ⊢ upd 𝓤 (⟦ lies_with_bits m n' count ⟧ ∗ ⟦ announced m bit ⟧)
    bit_raised n n' bit zero low set others = absurd (omega arith)
    bit_raised n n' bit (suc c) low set others =
        let Z = ⟦ lies_with_bits m n' (suc c) ⟧ ∗ ⟦ announced m bit ⟧ in
        let One : Bool → Fml = λ b. lies_with_bit m.name c (is_set m.begun c) b in
        ⊎_elim
        (λ (below : bit < c).
        qed 𝓛 (‵ (lies_with_bits m n (suc c)) ∷ []) ∵ fsplit ! $
        rewrite ! 0 (λ (b : Bool). ‵ (One b)) (sym (others c (omega arith) (λ e. absurd (omega arith)))) refl $
        move ! (1 ∷ []) $
        use1 𝓛 (raw (upd 𝓤 (⟦ lies_with_bits m n' c ⟧ ∗ ⟦ announced m bit ⟧)))
        (bit_raised n n' bit c below set (λ i l. others i (omega arith))) $
        settle 𝓛 Z (‵ (lies_with_bits m n' c) ⊛ ‵ (announced m bit)) $ suffices ! _ (upd_i 𝓤 Z) $ split ! $
        move ! (2 ∷ 0 ∷ []) $ fjoin ! $ done !)
        (λ above.
        let here : c ≡ bit = omega arith in
        let is : true ≡ is_set n' c = sym (subst (λ (i : ℕ). is_set n' i ≡ true) (sym here) set) in
        qed 𝓛 (‵ (lies_with_bits m n (suc c)) ∷ []) ∵ fsplit ! $
        use1 𝓛 (raw (upd 𝓤 (⟦ One true ⟧ ∗ ⟦ announced m c ⟧))) (one_set m.name c (is_set m.begun c) (is_set n c)) $
        settle 𝓛 Z (‵ (One true) ⊛ ‵ (announced m c)) $ suffices ! _ (upd_i 𝓤 Z) $ split ! $
        -- [what lies with the bit; the bucket is announced; the other bits]
        rewrite ! 0 (λ (b : Bool). ‵ (One b)) is refl $ move ! (2 ∷ []) $
        use1 𝓛 (‵ (lies_with_bits m n' c)) (stay n n' c (λ i l. others i (omega arith) (λ e. absurd (omega arith)))) $
        move ! (1 ∷ 0 ∷ []) $ fjoin ! $ move ! (1 ∷ []) $
        rewrite ! 0 (λ (i : ℕ). ‵ (announced m i)) here refl $ move ! (1 ∷ 0 ∷ []) $ done !)
        (cases_lt bit c)

    pub raised : (n n' bit : ℕ) → bit < 63 → IsWordBut n' n bit true
        → ⟦ lies_with_word m n ⟧ ⊢ upd 𝓤 (⟦ lies_with_word m n' ⟧ ∗ ⟦ announced m bit ⟧)
    raised n n' bit low but =
        let Z = ⟦ lies_with_word m n' ⟧ ∗ ⟦ announced m bit ⟧ in
        qed 𝓛 (‵ (lies_with_word m n) ∷ []) ∵ fsplit ! $ fpick ! (λ none. drop ! $
        use1 𝓛 (raw (upd 𝓤 (⟦ lies_with_bits m n' 63 ⟧ ∗ ⟦ announced m bit ⟧)))
        (bit_raised n n' bit 63 low (but bit (omega arith) ∙ same_bit bit (is_set n bit))
        (λ i near apart. but i (omega arith) ∙ other_bit bit i apart (is_set n i))) $
        settle 𝓛 Z (‵ (lies_with_bits m n' 63) ⊛ ‵ (announced m bit)) $ suffices ! _ (upd_i 𝓤 Z) $ split ! $
        let still : is_set n' 63 ≡ false = but 63 (omega arith) ∙ other_bit bit 63 (λ e. absurd (omega arith)) (is_set n 63) ∙ none in
        nothing ! $ fpack ! (is_set n' 63 ≡ false) (λ _. ftrue) still $ move ! (0 ∷ 1 ∷ []) $ fjoin ! $ done !)

    agrees : (bit : ℕ) (begun set : Bool)
        → ⟦ lies_with_bit m.name bit begun set ⟧ ∗ ⟦ announced_by m.name bit begun ⟧
        ⊢ guard 𝓤 (set ≡ true) ⟦ lies_with_bit m.name bit begun set ⟧
    agrees bit true set =
        qed 𝓛 (‵ (fact (set ≡ true)) ∷ ‵ ftrue ∷ []) ∵ fpick ! (λ is. check ! is $ drop ! $
        fpack ! (set ≡ true) (λ _. ftrue) is $ done !)
    agrees bit false true =
        qed 𝓛 (‵ (told_of m.name bit) ∷ ‵ (told_of m.name bit) ∷ []) ∵ check ! refl $ keep ! (0 ∷ []) $ done !
    agrees bit false false =
        never_told 𝓛 (Some m.name) refl bit ((coded_option u64.coded).code (Some 0))
        (guard 𝓤 (false ≡ true) ⟦ lies_with_bit m.name bit false false ⟧)

    bit_shown : (n bit count : ℕ) → bit < count
        → ⟦ lies_with_bits m n count ⟧ ∗ ⟦ announced m bit ⟧ ⊢ guard 𝓤 (is_set n bit ≡ true) ⟦ lies_with_bits m n count ⟧
    bit_shown n bit zero low = absurd (omega arith)
    bit_shown n bit (suc c) low =
        let One : ℕ → Fml = λ i. lies_with_bit m.name i (is_set m.begun i) (is_set n i) in
        ⊎_elim
        (λ (below : bit < c).
        qed 𝓛 (‵ (lies_with_bits m n (suc c)) ∷ ‵ (announced m bit) ∷ []) ∵ fsplit ! $ move ! (1 ∷ 2 ∷ []) $
        use2 𝓛 (given (is_set n bit ≡ true) (‵ (lies_with_bits m n c))) (bit_shown n bit c below) $ learn ! (λ is.
        check ! is $ move ! (1 ∷ 0 ∷ []) $ fjoin ! $ done !))
        (λ above.
        let here : bit ≡ c = omega arith in
        qed 𝓛 (‵ (lies_with_bits m n (suc c)) ∷ ‵ (announced m bit) ∷ []) ∵ fsplit ! $ move ! (0 ∷ 2 ∷ []) $
        rewrite ! 0 (λ (i : ℕ). ‵ (One i)) (sym here) refl $
        use2 𝓛 (given (is_set n bit ≡ true) (‵ (One bit))) (agrees bit (is_set m.begun bit) (is_set n bit)) $ learn ! (λ is.
        check ! is $ rewrite ! 0 (λ (i : ℕ). ‵ (One i)) here refl $ fjoin ! $ done !))
        (cases_lt bit c)

    -- the bit of a bucket that is announced is set
    pub shows : (n bit : ℕ) → bit < 63
        → ⟦ lies_with_word m n ⟧ ∗ ⟦ announced m bit ⟧ ⊢ guard 𝓤 (is_set n bit ≡ true) ⟦ lies_with_word m n ⟧
    shows n bit low =
        qed 𝓛 (‵ (lies_with_word m n) ∷ ‵ (announced m bit) ∷ []) ∵ fsplit ! $ move ! (1 ∷ 2 ∷ []) $
        use2 𝓛 (given (is_set n bit ≡ true) (‵ (lies_with_bits m n 63))) (bit_shown n bit 63 low) $ learn ! (λ is.
        check ! is $ move ! (1 ∷ 0 ∷ []) $ fjoin ! $ done !)

    -- the bits that were set when the sharing began are
    begun_set : (n bit : ℕ) → bit < 63 → is_set m.begun bit ≡ true
        → ⟦ lies_with_word m n ⟧ ⊢ guard 𝓤 (is_set n bit ≡ true) ⟦ lies_with_word m n ⟧
    begun_set n bit low was =
        qed 𝓛 (‵ (lies_with_word m n) ∷ []) ∵ nothing ! $
        rewrite ! 0 (λ (b : Bool). ‵ (announced_by m.name bit b)) (sym was) refl $ move ! (1 ∷ 0 ∷ []) $
        use2 𝓛 (given (is_set n bit ≡ true) (‵ (lies_with_word m n))) (shows n bit low) $ learn ! (λ is.
        check ! is $ done !)

    pub first_set : (n count : ℕ) → count < 63 → ((bit : ℕ) → bit < count → is_set m.begun bit ≡ true)
        → ⟦ lies_with_word m n ⟧ ⊢ guard 𝓤 ((bit : ℕ) → bit < count → is_set n bit ≡ true) ⟦ lies_with_word m n ⟧
    first_set n zero low was = qed 𝓛 (‵ (lies_with_word m n) ∷ []) ∵ check ! (λ bit near. absurd (omega (arith, near))) $ done !
    first_set n (suc c) low was =
        qed 𝓛 (‵ (lies_with_word m n) ∷ []) ∵
        use1 𝓛 (given ((bit : ℕ) → bit < c → is_set n bit ≡ true) (‵ (lies_with_word m n)))
        (first_set n c (omega (arith, low)) (λ bit near. was bit (omega (arith, near)))) $ learn ! (λ below.
        use1 𝓛 (given (is_set n c ≡ true) (‵ (lies_with_word m n))) (begun_set n c (omega (arith, low)) (was c (omega arith))) $
        learn ! (λ last. check ! (λ bit near. ⊎_elim (λ (under : bit < c). below bit under)
        (λ above. let here : c ≡ bit = omega (arith, near, above) in subst (λ (k : ℕ). is_set n k ≡ true) here last) (cases_lt bit c)) $
        done !))

    pub none_past : (n : ℕ) → ⟦ lies_with_word m n ⟧ ⊢ guard 𝓤 (is_set n 63 ≡ false) ⟦ lies_with_word m n ⟧
    none_past n =
        qed 𝓛 (‵ (lies_with_word m n) ∷ []) ∵ fsplit ! $ fpick ! (λ none. check ! none $
        fpack ! (is_set n 63 ≡ false) (λ _. ftrue) none $ fjoin ! $ done !)

    -- a bucket that was announced when the sharing began is
    pub begun_announced : (bit : ℕ) → is_set m.begun bit ≡ true → ⟦ ftrue ⟧ ⊢ ⟦ announced m bit ⟧
    begun_announced bit is =
        qed 𝓛 (‵ ftrue ∷ []) ∵ rewrite ! 0 (λ (b : Bool). ‵ (announced_by m.name bit b)) (sym is) refl $ done !

  -- a new name has these rights
  pub untold_drawn : (γ : GName) (count : ℕ) → ⟦ source 𝓛 γ 0 ⟧ ⊢ upd 𝓤 (⟦ bits_untold (later_of γ) count ⟧ ∗ ⟦ source 𝓛 γ count ⟧)
  untold_drawn γ zero =
      let Z : SProp 𝓤 = ⟦ ftrue ⟧ ∗ ⟦ source 𝓛 γ 0 ⟧ in
      qed 𝓛 (‵ (source 𝓛 γ 0) ∷ []) ∵ suffices ! _ (upd_i 𝓤 Z) $ nothing ! $ done !
  untold_drawn γ (suc c) =
      let Z : SProp 𝓤 = ⟦ bits_untold (later_of γ) (suc c) ⟧ ∗ ⟦ source 𝓛 γ (suc c) ⟧ in
      let One : Fml = fsep (untold_in (Some (later_of γ)) c) ftrue in
      qed 𝓛 (‵ (source 𝓛 γ 0) ∷ []) ∵
      use1 𝓛 (raw (upd 𝓤 (⟦ bits_untold (later_of γ) c ⟧ ∗ ⟦ source 𝓛 γ c ⟧))) (untold_drawn γ c) $
      settle 𝓛 Z (‵ (bits_untold (later_of γ) c) ⊛ ‵ (source 𝓛 γ c)) $ split ! $ move ! (1 ∷ []) $
      use1 𝓛 (raw (upd 𝓤 (⟦ One ⟧ ∗ ⟦ source 𝓛 γ (suc c) ⟧))) (all_drawn 𝓛 u64 γ c (suc c) (None ∷ []) (omega arith)) $
      settle 𝓛 Z (‵ One ⊛ ‵ (source 𝓛 γ (suc c))) $ suffices ! _ (upd_i 𝓤 Z) $ split ! $ fsplit ! $
      -- [the right; nothing; what is left; the other rights]
      move ! (0 ∷ 3 ∷ []) $ fjoin ! $ keep ! (0 ∷ 2 ∷ []) $ done !

  pub rights_new : emp 𝓤 ⊢ upd 𝓤 ⟦ new_rights ⟧
  rights_new =
      let Z : SProp 𝓤 = ⟦ new_rights ⟧ in
      qed 𝓛 [] ∵ use0 𝓛 (raw (upd 𝓤 (ex 𝓤 (New 𝓛 None)))) (source_new 𝓛 None) $
      settle 𝓛 Z (some (λ (γ : ℕ). given (Some (later_of γ) ≢ None) (‵ (source 𝓛 γ 0)))) $ pick ! (λ γ. learn ! (λ _.
      use1 𝓛 (raw (upd 𝓤 (⟦ bits_untold (later_of γ) 63 ⟧ ∗ ⟦ source 𝓛 γ 63 ⟧))) (untold_drawn γ 63) $
      settle 𝓛 Z (‵ (bits_untold (later_of γ) 63) ⊛ ‵ (source 𝓛 γ 63)) $ suffices ! _ (upd_i 𝓤 Z) $ split ! $
      keep ! (0 ∷ []) $ fpack ! GName (λ η. bits_untold η 63) (later_of γ) $ done !))

  -- any word may begin a sharing with these rights
  one_begins : (γ : GName) (bit : ℕ) (set : Bool) → ⟦ untold_in (Some γ) bit ⟧ ⊢ ⟦ lies_with_bit γ bit set set ⟧
  one_begins γ bit true =
      qed 𝓛 (‵ (untold_in (Some γ) bit) ∷ []) ∵ drop ! $ nothing ! $ fpack ! (true ≡ true) (λ _. ftrue) refl $ done !
  one_begins γ bit false = qed 𝓛 (‵ (untold_in (Some γ) bit) ∷ []) ∵ done !

  module _ (γ : GName) (n made : ℕ) where
    abbrev pub beginning : Announcing
    beginning = record { name = γ; begun = n; made = made }

    bits_begin : (count : ℕ) → ⟦ bits_untold γ count ⟧ ⊢ ⟦ lies_with_bits beginning n count ⟧
    bits_begin zero = qed 𝓛 (‵ ftrue ∷ []) ∵ done !
    bits_begin (suc c) =
        qed 𝓛 (‵ (bits_untold γ (suc c)) ∷ []) ∵ fsplit ! $
        use1 𝓛 (‵ (lies_with_bit γ c (is_set n c) (is_set n c))) (one_begins γ c (is_set n c)) $ move ! (1 ∷ []) $
        use1 𝓛 (‵ (lies_with_bits beginning n c)) (bits_begin c) $ move ! (1 ∷ 0 ∷ []) $ fjoin ! $ done !

    pub begins : is_set n 63 ≡ false → ⟦ bits_untold γ 63 ⟧ ⊢ ⟦ lies_with_word beginning n ⟧
    begins none =
        qed 𝓛 (‵ (bits_untold γ 63) ∷ []) ∵ use1 𝓛 (‵ (lies_with_bits beginning n 63)) (bits_begin 63) $
        nothing ! $ fpack ! (is_set n 63 ≡ false) (λ _. ftrue) none $ fjoin ! $ done !

  -- what holds where a bucket isn't announced may follow from other facts
  unless_so : (m : Announcing) (bucket : ℕ) (P Q : Type 0) → (P → Q) → (t : Bool)
      → ⟦ announced_unless m bucket P t ⟧ ⊢ ⟦ announced_or m bucket Q ⟧
  unless_so m bucket P Q so true = qed 𝓛 (‵ (announced m bucket) ∷ []) ∵ fpack ! Bool (announced_unless m bucket Q) true $ done !
  unless_so m bucket P Q so false =
      qed 𝓛 (‵ (announced_unless m bucket P false) ∷ []) ∵ fpick ! (λ is.
      fpack ! ((is_set m.made bucket ≡ true) × Q) (λ _. ftrue) (is.0, so is.1) $ fpack ! Bool (announced_unless m bucket Q) false $ done !)

  pub announced_so : (m : Announcing) (bucket : ℕ) (P Q : Type 0) → (P → Q) → ⟦ announced_or m bucket P ⟧ ⊢ ⟦ announced_or m bucket Q ⟧
  announced_so m bucket P Q so = qed 𝓛 (‵ (announced_or m bucket P) ∷ []) ∵ fpick ! (λ t. by ! (unless_so m bucket P Q so t))

  -- what a load of the word sees of a bucket, by whether its bit is set
  abbrev pub seen_of : Announcing → ℕ → Bool → Fml
  seen_of m bit true = announced m bit
  seen_of m bit false = ftrue

  glimpsed : (m : Announcing) (n bit : ℕ) → bit < 63 → (set : Bool) → is_set n bit ≡ set
      → ⟦ lies_with_word m n ⟧ ⊢ upd 𝓤 (⟦ lies_with_word m n ⟧ ∗ ⟦ seen_of m bit set ⟧)
  glimpsed m n bit low true is = raised m n n bit low (unchanged n bit true is)
  glimpsed m n bit low false is =
      qed 𝓛 (‵ (lies_with_word m n) ∷ []) ∵ suffices ! _ (upd_i 𝓤 (⟦ lies_with_word m n ⟧ ∗ ⟦ ftrue ⟧)) $ nothing ! $
      move ! (1 ∷ 0 ∷ []) $ done !

  module _ (m : Announcing) (b o : ℕ) (κ : Lft) (q : Share) where
    abbrev I : Fml
    I = word_invariant (lies_with_word m) b (o + 0)

    -- the atomic load that sees a bucket's bit
    pub sees : (bit : ℕ) → bit < 63
        → A.inv (fbor κ I) ∗ (A.lft κ q ∗ ⟦ ftrue ⟧)
        ⊢ asks 𝓛 (block_ptr b (o + 0)) (λ n. n) always (λ n. fsep (flft κ q) (seen_of m bit (is_set n bit)))
    sees bit low =
        stepped 𝓛 (lies_with_word m) b (o + 0) κ q (λ n. n) (λ n. seen_of m bit (is_set n bit)) ftrue (λ n.
        qed 𝓛 (‵ (lies_with_word m n) ∷ ‵ ftrue ∷ []) ∵ keep ! (0 ∷ []) $ by ! (glimpsed m n bit low (is_set n bit) refl))

    -- the atomic step that sets the bit of a bucket
    pub sets : (bit mask : ℕ) → bit < 63 → mask ≡ 1 * 2 ^ bit % 2 ^ 64
        → A.inv (fbor κ I) ∗ (A.lft κ q ∗ ⟦ ftrue ⟧)
        ⊢ asks 𝓛 (block_ptr b (o + 0)) (λ n. bit_or n mask) always (λ n. fsep (flft κ q) (announced m bit))
    sets bit mask low is =
        let f : ℕ → ℕ = λ n. bit_or n mask in
        stepped 𝓛 (lies_with_word m) b (o + 0) κ q f (λ _. announced m bit) ftrue (λ n.
        let but : IsWordBut (f n) n bit true =
        subst (λ (k : ℕ). IsWordBut (bit_or n k) n bit true) (sym is) (set_bit n bit (omega arith)) in
        qed 𝓛 (‵ (lies_with_word m n) ∷ ‵ ftrue ∷ []) ∵ keep ! (0 ∷ []) $ by ! (raised m n (f n) bit low but))
