-- Masks of harts, moved up by their base.
use Rattle.std.proofs.Common.{◌≡◌, ◌≢◌, ◌<◌, ◌≤◌, ℕ, zero, ◌-◌, ◌*◌, ◌/◌, ◌^◌, sym, ◌∙◌, ap, subst, arith}
use Rattle.std.proofs.Math.Nat.{mul-lt-mul_of_pos_right, mul-le-mul_right, div-lt_iff_lt-mul}
use Rattle.std.proofs.Math.Pow.{pow_mono}
use Rattle.std.proofs.lemmas.Nat.{pow_pos, pow-add}

-- a power of two is split at a lower one
powers : (base harts : ℕ) → base ≤ harts → 2 ^ (harts - base) * 2 ^ base ≡ 2 ^ harts
powers base harts h = sym (pow-add 2 (harts - base) base) ∙ ap (λ n. 2 ^ n) (omega arith)

-- a mask of the harts from the base on
pub all_there : (mask base harts : ℕ) → base ≤ harts → harts ≤ 8 → mask / 2 ^ (harts - base) ≡ 0
    → (mask * 2 ^ base < 2 ^ harts) × (2 ^ harts ≤ 256)
all_there mask base harts h few none =
    let P : ℕ → Type 0 = λ n. mask * 2 ^ base < n in
    let within = div-lt_iff_lt-mul {k = 2 ^ (harts - base)} {x = mask} {y = 1} (pow_pos (harts - base)) in
    let small : mask < 2 ^ (harts - base) = omega (arith, within.0 (omega (arith, none))) in
    (subst P (powers base harts h) (mul-lt-mul_of_pos_right small (pow_pos base)), pow_mono {i = harts} {j = 8} few)

-- a mask with a bit above them
pub one_beyond : (mask base harts : ℕ) → base ≤ harts → mask / 2 ^ (harts - base) ≢ 0 → 2 ^ harts ≤ mask * 2 ^ base
one_beyond mask base harts h some =
    let P : ℕ → Type 0 = λ n. n ≤ mask * 2 ^ base in
    let within = div-lt_iff_lt-mul {k = 2 ^ (harts - base)} {x = mask} {y = 1} (pow_pos (harts - base)) in
    let large : 2 ^ (harts - base) ≤ mask = grind (arith, within, some) in
    subst P (powers base harts h) (mul-le-mul_right (2 ^ base) large)

-- a mask with any bit, where the base is beyond the harts
pub all_beyond : (mask base harts : ℕ) → zero < mask → harts ≤ base → 2 ^ harts ≤ mask * 2 ^ base
all_beyond mask base harts some h =
    let more = mul-le-mul_right {m = 1} {n = mask} (2 ^ base) (omega arith) in
    omega (arith, more, pow_mono h)
