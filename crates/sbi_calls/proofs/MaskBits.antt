-- The bits of masks of harts, one by one.
use Rattle.std.proofs.Common.{◌≡◌, ◌≢◌, ◌<◌, ◌≤◌, ℕ, zero, suc, ◌+◌, ◌-◌, ◌*◌, ◌/◌, ◌%◌, ◌^◌, ◌==◌, Bool, true, false, nat_lt, ◌↔◌, ◌⊎◌, inl, inr, IsSome, Some, None, cond, refl, sym, ◌∙◌, ap, subst, arith}
use Rattle.std.proofs.Math.Nat.{mul-le-mul_right, le_of_mul-le-mul_right, div-div-eq-div-mul}
use Rattle.std.proofs.Math.Pow.{pow_mono}
use Rattle.std.proofs.lemmas.Nat.{pow_pos, pow-add, div_below, le-div}
use Rattle.std.proofs.lemmas.Bool.{false≢true}
use Rattle.std.proofs.lemmas.Grind.{common_steps}
use Rattle.ras_bits.specs.Bits.{has_bit}
use Rattle.sbi_calls.specs.Ipi.{moved_mask}

bit_reached : (n i : ℕ) → has_bit n i ≡ true → 2 ^ i ≤ n
bit_reached n i e = let low = div_below n (2 ^ i) 1 (pow_pos i) in grind (arith, common_steps, low)

-- each bit of a mask of harts is one of a hart
bit_below : (mask base harts i : ℕ) → mask * 2 ^ base < 2 ^ harts → has_bit mask i ≡ true → base + i < harts
bit_below mask base harts i small e =
    let more = mul-le-mul_right {m = 2 ^ i} {n = mask} (2 ^ base) (bit_reached mask i e) in
    let joined : 2 ^ (base + i) ≡ 2 ^ i * 2 ^ base = ap (λ n. 2 ^ n) (omega arith) ∙ pow-add 2 i base in
    let mono : harts ≤ base + i → 2 ^ harts ≤ 2 ^ (base + i) = λ h. pow_mono h in
    grind (arith, more, joined, mono)

bit_moved : (n k i : ℕ) → has_bit (n / 2 ^ k) i ≡ true → has_bit n (k + i) ≡ true
bit_moved n k i e =
    ap (λ p. n / p % 2 == 1) (pow-add 2 k i) ∙ ap (λ q. q % 2 == 1) (sym (div-div-eq-div-mul n (2 ^ k) (2 ^ i))) ∙ e

-- a number that isn't 0 has a bit
some_bit : (f n : ℕ) → 0 < n → n ≤ f → (i : ℕ) × (has_bit n i ≡ true)
some_bit zero n some few = absurd (omega arith)
some_bit (suc f) n some few = by_half (n % 2 == 1) refl (λ h. some_bit f (n / 2) h (omega arith)) where
  by_half : (t : Bool) → (n % 2 == 1) ≡ t → (0 < n / 2 → (i : ℕ) × (has_bit (n / 2) i ≡ true)) → (i : ℕ) × (has_bit n i ≡ true)
  by_half true e rest = (0, grind (arith, common_steps))
  by_half false e rest = let r = rest (grind (arith, common_steps)) in (1 + r.0, bit_moved n 1 r.0 r.1)

-- a mask that isn't one of harts has a bit of none
bit_beyond : (mask base harts : ℕ) → 2 ^ harts ≤ mask * 2 ^ base → (i : ℕ) × (has_bit mask i ≡ true) × (harts ≤ base + i)
bit_beyond mask base harts large = by_base (nat_lt base harts) refl where
  some : 0 < mask
  some = let power = pow_pos harts in grind (arith, large, power)

  far : harts ≤ base → (i : ℕ) × (has_bit mask i ≡ true) × (harts ≤ base + i)
  far h = let r = some_bit mask mask some (omega arith) in (r.0, r.1, omega (arith, h))

  near : base ≤ harts → (i : ℕ) × (has_bit mask i ≡ true) × (harts ≤ base + i)
  near h =
      let P : ℕ → Type 0 = λ n. n ≤ mask * 2 ^ base in
      let split : 2 ^ harts ≡ 2 ^ (harts - base) * 2 ^ base = ap (λ n. 2 ^ n) (omega arith) ∙ pow-add 2 (harts - base) base in
      let reached : 2 ^ (harts - base) ≤ mask = le_of_mul-le-mul_right {k = 2 ^ base} (subst P split large) (pow_pos base) in
      let high = le-div 1 mask (2 ^ (harts - base)) (pow_pos (harts - base)) (omega (arith, reached)) in
      let r = some_bit mask (mask / 2 ^ (harts - base)) (omega (arith, high)) (grind arith) in
      (harts - base + r.0, bit_moved mask (harts - base) r.0 r.1, omega arith)

  by_base : (t : Bool) → nat_lt base harts ≡ t → (i : ℕ) × (has_bit mask i ≡ true) × (harts ≤ base + i)
  by_base true e = near (grind (arith, common_steps))
  by_base false e = far (grind (arith, common_steps))

-- a mask is one of harts exactly where each of its bits is one of a hart
moved : (mask base harts : ℕ) → IsSome (moved_mask mask base harts) ↔ ((i : ℕ) → has_bit mask i ≡ true → base + i < harts)
moved mask base harts = by_test (nat_lt (mask * 2 ^ base) (2 ^ harts)) refl where
  by_test : (t : Bool) → nat_lt (mask * 2 ^ base) (2 ^ harts) ≡ t
      → IsSome (cond t (Some (mask * 2 ^ base)) None) ↔ ((i : ℕ) → has_bit mask i ≡ true → base + i < harts)
  by_test true e =
      let small : mask * 2 ^ base < 2 ^ harts = grind (arith, common_steps) in
      (λ some i bit. bit_below mask base harts i small bit, λ all. refl)
  by_test false e =
      let large : 2 ^ harts ≤ mask * 2 ^ base = grind (arith, common_steps) in
      let beyond = bit_beyond mask base harts large in
      (λ some. absurd (false≢true some), λ all. absurd (omega (arith, all beyond.0 beyond.1, beyond.2)))

pub each_there : (mask base harts : ℕ) → base ≢ 2 ^ 64 - 1
    → IsSome (moved_mask mask base harts) ↔ ((base ≡ 2 ^ 64 - 1) ⊎ ((i : ℕ) → has_bit mask i ≡ true → base + i < harts))
each_there mask base harts other = (λ some. inr ((moved mask base harts).0 some), λ cases. from cases) where
  from : (base ≡ 2 ^ 64 - 1) ⊎ ((i : ℕ) → has_bit mask i ≡ true → base + i < harts) → IsSome (moved_mask mask base harts)
  from (inl e) = absurd (other e)
  from (inr all) = (moved mask base harts).1 all
