-- How many bytes a block takes, once it is rounded up to its alignment.
use Rattle.thread_local_base.proofs.Names.{◌≡◌, ℕ, ◌+◌, ◌-◌, ◌*◌, ◌^◌, ◌<◌, ◌≤◌, refl, sym, ap, ◌∙◌, subst, arith}
use Rattle.thread_local_base.proofs.Names.{lit<, RattleType, lone}
use Rattle.std.specs.Prelude.{◌⊎◌, ◌%◌}
use Rattle.std.proofs.Common.{zero, suc, inl, inr, ⊎_elim, one-mul, zero-mul, mul-le-mul_right}
use mir.Syntax.{Width, w8, w16, w32, w64, w128}
use mir.Val.{bytes}
use prog.Memory.{size, align, up, capped}
use prog.Capped.{capped_is, capped_small}
use prog.Align.{align_w, align-bytes}
use Rattle.thread_local_buckets.specs.Slots.{chunks, stride, value_words, slots_ty, Fits, flag_word_at}
use Rattle.thread_local_buckets.proofs.Flags.{slots_size, words_near, number_is}

-- the alignment of a block, by that of its values
abbrev most : ℕ → ℕ
most a = Prim.Native.Nat.max a (Prim.Native.Nat.max 8 1)

by_width : (w : Width) → (most (bytes w) ≡ 8) ⊎ (most (bytes w) ≡ 16)
by_width w8 = inl refl
by_width w16 = inl refl
by_width w32 = inl refl
by_width w64 = inl refl
by_width w128 = inr refl

-- m bytes rounded up to a multiple of 8 or 16
rounded : (a m : ℕ) → (a ≡ 8) ⊎ (a ≡ 16) → up a m ≡ m + (a - 1) - (m + (a - 1)) % a
rounded a m is = ⊎_elim
    (λ (e : a ≡ 8). subst (λ (z : ℕ). up z m ≡ m + (z - 1) - (m + (z - 1)) % z) (sym e) (omega arith))
    (λ (e : a ≡ 16). subst (λ (z : ℕ). up z m ≡ m + (z - 1) - (m + (z - 1)) % z) (sym e) (omega arith))
    is

module _ (R : RattleType) where
  -- a block is aligned to 8 or 16 bytes
  pub aligned : (align (slots_ty R 64) ≡ 8) ⊎ (align (slots_ty R 64) ≡ 16)
  aligned = subst (λ (a : ℕ). (most a ≡ 8) ⊎ (most a ≡ 16)) (sym (align-bytes (lone R.mir))) (by_width (align_w (lone R.mir)))

  pub sized : (n : ℕ)
      → let a : ℕ = align (slots_ty R 64) in
      let end : ℕ = (value_words R n + chunks n) * 8 + (a - 1) in
      size (slots_ty R n) ≡ end - end % a
  sized n = slots_size R n ∙ rounded (align (slots_ty R 64)) ((value_words R n + chunks n) * 8) aligned

  pub aligned_fits : align (slots_ty R 64) < 2 ^ 64
  aligned_fits = ⊎_elim (λ e. omega arith) (λ e. omega arith) aligned

  -- ---- what the code adds up
  pub bytes_counted : (n : ℕ) → Fits R n
      → let a : ℕ = align (slots_ty R 64) in
      let end : ℕ = (flag_word_at R n (chunks n) * 8 % 2 ^ 64 + (a - 1)) % 2 ^ 64 in
      end - end % a ≡ size (slots_ty R n)
  bytes_counted n fits =
      let a : ℕ = align (slots_ty R 64) in
      let whole : ℕ = (value_words R n + chunks n) * 8 in
      let near : whole < 2 ^ 63 = words_near R n (chunks n) fits (omega arith) in
      let number = number_is R n (chunks n) fits (omega arith) in
      let end : (flag_word_at R n (chunks n) * 8 % 2 ^ 64 + (a - 1)) % 2 ^ 64 ≡ whole + (a - 1) =
      ⊎_elim (λ (e : a ≡ 8). omega arith) (λ (e : a ≡ 16). omega arith) aligned in
      ap (λ (z : ℕ). z - z % a) end ∙ sym (sized n)

  pub fits_by : (n : ℕ) → n < 2 ^ 64 → n * capped (stride R) < 2 ^ 58 → Fits R n
  fits_by n word near = let whole : ℕ = (value_words R n + chunks n) * 8 in let a : ℕ = align (slots_ty R 64) in
      let values : n * stride R < 2 ^ 58 = values_fit n near in
      let end = sized n in
      ⊎_elim (λ (e : a ≡ 8). omega arith) (λ (e : a ≡ 16). omega arith) aligned
    where
      values_fit : (m : ℕ) → m * capped (stride R) < 2 ^ 58 → m * stride R < 2 ^ 58
      values_fit zero less = subst (λ (z : ℕ). z < 2 ^ 58) (sym (zero-mul (stride R))) (lit< tt)
      values_fit (suc m) less =
          let s : ℕ = stride R in
          let one : capped s ≤ suc m * capped s =
          subst (λ (z : ℕ). z ≤ suc m * capped s) (one-mul (capped s))
          (mul-le-mul_right (capped s) (omega arith)) in
          let low : s < 2 ^ 63 = capped_small s (omega arith) in subst (λ (z : ℕ). suc m * z < 2 ^ 58) (capped_is s (omega arith)) less
