-- Single bytes and arrays of a list of bytes.
use Rattle.std.proofs.Common.{◌≡◌, ℕ, ◌+◌, ◌-◌, ◌*◌, List, take, drop, get_or, ap, arith}
use Rattle.std.proofs.lemmas.List.{get_or-drop}
use Rattle.ras_bits.specs.Fields.{number_at}
use Rattle.byte_fields.specs.Fields.{bytes_at}

-- a number of one byte is that byte
pub one_byte : (b : List ℕ) (at : ℕ) → number_at 1 at b ≡ get_or b at 0
unfolding number_at
one_byte b at =
    let read : number_at 1 at b ≡ get_or b (at + 0) 0 + 256 * 0 = ap (λ (x : ℕ). x + 256 * 0) (get_or-drop at b 0 0) in
    let same : get_or b (at + 0) 0 ≡ get_or b at 0 = ap (λ (i : ℕ). get_or b i 0) (omega arith) in
    omega arith

-- a range of so many bytes
pub range_at : (b : List ℕ) (n at : ℕ) → take (at + n - at) (drop at b) ≡ bytes_at n at b
unfolding bytes_at
range_at b n at = ap (λ (k : ℕ). take k (drop at b)) (let e : at + n - at ≡ n = omega arith in e)
