-- A control register by its fields (a profile of RERI 1.0, control_i).
use Rattle.std.specs.Prelude.{◌≡◌, ℕ, ◌+◌, ◌*◌, ◌^◌}
use Rattle.ras_bits.specs.Fields.{field}
use Rattle.reri_bank.specs.declared.layout.TheConstants.{ELSE, CECE, CES, UEDS, UECS, SINV, SRDP, EID}

-- the word that a control register is made of
abbrev pub control_sum : ℕ → ℕ → ℕ → ℕ → ℕ → ℕ → ℕ
control_sum a b c d e n =
    2 ^ ELSE * a + 2 ^ CECE * b + 2 ^ CES * c + 2 ^ UEDS * d + 2 ^ UECS * e + 2 ^ EID * n

-- what its fields are, with `sinv` and `srdp`
pub record ControlFields (w a b c d e x y : ℕ) : Type 0 where
  pub logging : field w ELSE 1 ≡ a
  pub cece : field w CECE 1 ≡ b
  pub ces : field w CES 2 ≡ c
  pub ueds : field w UEDS 2 ≡ d
  pub uecs : field w UECS 2 ≡ e
  pub sinv : field w SINV 1 ≡ x
  pub srdp : field w SRDP 1 ≡ y
