-- Numbers of eight bytes.
use Rattle.std.proofs.Common.{ℕ, ◌<◌, ◌≤◌, ◌≡◌, ◌⊎◌, List, length, get_or, inl, inr}
use Rattle.std.proofs.lemmas.Bool.{cases_lt}
use Rattle.std.proofs.lemmas.List.{get_or_past}
use Rattle.ras_bits.specs.Fields.{number_at}

-- lists that read the same spell the same number
same_number : (xs ys : List ℕ) → ((k : ℕ) → get_or xs k 0 ≡ get_or ys k 0) → number_at 8 0 xs ≡ number_at 8 0 ys
unfolding number_at
same_number xs ys h =
    let h0 = h 0 in let h1 = h 1 in let h2 = h 2 in let h3 = h 3 in let h4 = h 4 in let h5 = h 5 in let h6 = h 6 in let h7 = h 7 in cc

-- at most eight bytes with zeros behind them spell the same number
pub padded : (bytes rest : List ℕ)
    → ((k : ℕ) → k < length rest → get_or bytes k 0 ≡ get_or rest k 0) → ((k : ℕ) → length rest ≤ k → get_or bytes k 0 ≡ 0)
    → number_at 8 0 bytes ≡ number_at 8 0 rest
padded bytes rest front back = same_number bytes rest (λ k. at k (cases_lt k (length rest)))
  where
    at : (k : ℕ) → (k < length rest) ⊎ (length rest ≤ k) → get_or bytes k 0 ≡ get_or rest k 0
    at k (inl below) = front k below
    at k (inr above) = let a = back k above in let b = get_or_past rest k 0 above in cc
