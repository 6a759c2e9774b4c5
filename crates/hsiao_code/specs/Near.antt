-- How far 72 bits are from the codeword of a word, and what is read from them.
use Rattle.std.specs.Prelude.{◌≡◌, ◌<◌, ℕ, zero, suc, ◌⊎◌}
use Rattle.hsiao_code.specs.Code.{code, flip}
use Rattle.hsiao_code.specs.declared.codeword.Decoded.{Decoded}
use Rattle.hsiao_code.specs.declared.codeword.Decoded.TheVariants.{Clean, Fixed, Bad}

-- x differs from the codeword of v in at most c bits: it comes from it by at most c flips
unfoldable pub IsNear : ℕ → ℕ → ℕ → Type 0
IsNear zero x v = x ≡ code v
IsNear (suc c) x v = IsNear c x v ⊎ ((y : ℕ) × (j : ℕ) × (j < 72) × (x ≡ flip y j) × IsNear c y v)

-- what is read is the word v
abbrev pub DecodesTo : ℕ → Decoded → Type 0
DecodesTo v (Clean d) = d ≡ v
DecodesTo v (Fixed d j) = d ≡ v
DecodesTo v Bad = ⊥

-- what is read is the word v, or nothing
abbrev pub DecodesToOrBad : ℕ → Decoded → Type 0
DecodesToOrBad v (Clean d) = d ≡ v
DecodesToOrBad v (Fixed d j) = d ≡ v
DecodesToOrBad v Bad = Unit {0}
