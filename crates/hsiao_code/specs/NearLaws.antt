-- What is read from 72 bits, by their distance from a codeword.
use Rattle.std.proofs.Common.{◌≡◌, ◌≢◌, ◌⊎◌, inl, inr, ℕ, zero, suc, ◌+◌, ◌-◌, ◌*◌, ◌^◌, ◌<◌, ◌≤◌, bit_xor, refl, sym, ◌∙◌, ap, ap₂, subst, arith, add_comm}
use Rattle.std.proofs.lemmas.Nat.{xor_block, pow-add}
use Rattle.std.proofs.Math.Pow.{pow-lt}
use Rattle.std.specs.Int.Bits.{xor_zero_r}
use Rattle.std.proofs.lemmas.Bool.{cases_eq}
use Rattle.hsiao_code.specs.Code.{code_bits, code, fix, flip}
use Rattle.hsiao_code.specs.declared.codeword.Decoded.{Decoded}
use Rattle.hsiao_code.specs.declared.codeword.Decoded.TheVariants.{Clean, Fixed, Bad}
use Rattle.hsiao_code.specs.Near.{IsNear, DecodesTo, DecodesToOrBad}
use Rattle.hsiao_code.specs.ReadingLaws.{fix_code, fix_one_flip, fix_two_flips, flip_back}

-- a made codeword is at no distance
pub near_made : (v : ℕ) → IsNear 0 (code v) v
unfolding IsNear
near_made v = refl

near_suc : (c x v : ℕ) → IsNear c x v → IsNear (suc c) x v
unfolding IsNear
near_suc c x v near = inl near

near_plus : (c k x v : ℕ) → IsNear c x v → IsNear (k + c) x v
near_plus c zero x v near = let P : ℕ → Type 0 = λ n. IsNear n x v in subst P (let e : c ≡ 0 + c = omega arith in e) near
near_plus c (suc k) x v near =
    let P : ℕ → Type 0 = λ n. IsNear n x v in
    subst P (let e : suc (k + c) ≡ suc k + c = omega arith in e) (near_suc (k + c) x v (near_plus c k x v near))

-- a distance holds of every greater one
pub near_more : (c d x v : ℕ) → c ≤ d → IsNear c x v → IsNear d x v
near_more c d x v more near =
    let P : ℕ → Type 0 = λ n. IsNear n x v in
    subst P (let e : (d - c) + c ≡ d = omega arith in e) (near_plus c (d - c) x v near)

near_struck : (c x v j : ℕ) → j < 72 → IsNear c x v → IsNear (suc c) (flip x j) v
unfolding IsNear
near_struck c x v j fits near = inr (x, j, fits, refl, near)

-- a flip adds one
pub near_flip : (c x v j : ℕ) → j < 72 → IsNear c x v → IsNear (c + 1) (flip x j) v
near_flip c x v j fits near =
    let P : ℕ → Type 0 = λ n. IsNear n (flip x j) v in
    subst P (let e : suc c ≡ c + 1 = omega arith in e) (near_struck c x v j fits near)

-- a flip of a data bit, and one of a check bit
pub flip_data : (v check j : ℕ) → v < 2 ^ 64 → j < 64 → flip (code_bits v check) j ≡ code_bits (bit_xor v (2 ^ j)) check
flip_data v check j small fits =
    ap₂ bit_xor (let e : code_bits v check ≡ check * 2 ^ 64 + v = omega arith in e) (let e : 2 ^ j ≡ 0 * 2 ^ 64 + 2 ^ j = omega arith in e)
    ∙ xor_block 64 check 0 v (2 ^ j) small (pow-lt fits)
    ∙ ap (λ x. x * 2 ^ 64 + bit_xor v (2 ^ j)) (xor_zero_r check)
    ∙ add_comm (check * 2 ^ 64) (bit_xor v (2 ^ j))

pub flip_check : (v check j : ℕ) → v < 2 ^ 64 → flip (code_bits v check) (64 + j) ≡ code_bits v (bit_xor check (2 ^ j))
flip_check v check j small =
    ap₂ bit_xor (let e : code_bits v check ≡ check * 2 ^ 64 + v = omega arith in e) (ap (λ k. 2 ^ k) (add_comm 64 j) ∙ pow-add 2 j 64 ∙ (let e : 2 ^ j * 2 ^ 64 ≡ 2 ^ j * 2 ^ 64 + 0 = omega arith in e))
    ∙ xor_block 64 check (2 ^ j) v 0 small (omega arith)
    ∙ ap (λ x. bit_xor check (2 ^ j) * 2 ^ 64 + x) (xor_zero_r v)
    ∙ add_comm (bit_xor check (2 ^ j) * 2 ^ 64) v

clean : (x v : ℕ) → v < 2 ^ 64 → x ≡ code v → DecodesTo v (fix x)
clean x v small e = let P : Decoded → Type 0 = λ d. DecodesTo v d in subst P (sym (ap fix e ∙ fix_code v small)) refl

struck : (x v j : ℕ) → v < 2 ^ 64 → j < 72 → x ≡ flip (code v) j → DecodesTo v (fix x)
struck x v j small fits e = let P : Decoded → Type 0 = λ d. DecodesTo v d in subst P (sym (ap fix e ∙ fix_one_flip v j small fits)) refl

-- at most one flip is corrected
pub near_one : (x v : ℕ) → v < 2 ^ 64 → IsNear 1 x v → DecodesTo v (fix x)
unfolding IsNear
near_one x v small (inl e) = clean x v small e
near_one x v small (inr n) = struck x v n.1 small n.2 (n.3 ∙ ap (λ y. flip y n.1) n.4)

or_bad : (v : ℕ) (d : Decoded) → DecodesTo v d → DecodesToOrBad v d
or_bad v (Clean d) e = e
or_bad v (Fixed d j) e = e
or_bad v Bad e = tt

bad : (v : ℕ) (d : Decoded) → d ≡ Bad → DecodesToOrBad v d
bad v d e = let P : Decoded → Type 0 = λ d. DecodesToOrBad v d in subst P (sym e) tt

twice : (x v i j : ℕ) → v < 2 ^ 64 → i < 72 → j < 72 → x ≡ flip (flip (code v) i) j → (i ≡ j) ⊎ (i ≢ j) → DecodesToOrBad v (fix x)
twice x v i j small p q e (inl same) = or_bad v (fix x) (clean x v small (e ∙ ap (λ k. flip (flip (code v) k) j) same ∙ flip_back (code v) j))
twice x v i j small p q e (inr apart) = bad v (fix x) (ap fix e ∙ fix_two_flips v i j small p q apart)

second : (x y v j : ℕ) → v < 2 ^ 64 → j < 72 → x ≡ flip y j → IsNear 1 y v → DecodesToOrBad v (fix x)
unfolding IsNear
second x y v j small q e (inl c) = or_bad v (fix x) (struck x v j small q (e ∙ ap (λ z. flip z j) c))
second x y v j small q e (inr n) = twice x v n.1 j small n.2 q (e ∙ ap (λ z. flip z j) (n.3 ∙ ap (λ z. flip z n.1) n.4)) (cases_eq n.1 j)

-- at most two flips are corrected or found
pub near_two : (x v : ℕ) → v < 2 ^ 64 → IsNear 2 x v → DecodesToOrBad v (fix x)
unfolding IsNear
near_two x v small (inl one) = or_bad v (fix x) (near_one x v small one)
near_two x v small (inr n) = second x n.0 v n.1 small n.2 n.3 n.4
