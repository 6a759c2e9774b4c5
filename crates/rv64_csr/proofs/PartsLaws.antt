-- The parts of a register file give it back.
use Rattle.std.proofs.Common.{◌≡◌, ℕ, ◌+◌, ◌*◌, ◌/◌, ◌%◌, ◌^◌, ◌<◌, ◌==◌, Bool, true, false, Some, None, ◌&&◌, if◌then◌else◌, refl, ap, ◌∙◌, arith}
use Rattle.std.proofs.lemmas.Bool.{eq-eqb}
use Rattle.rv64_csr.specs.declared.parts.CsrParts.{CsrParts}
use Rattle.ras_bits.specs.declared.terms.Mode.{Mode}
use Rattle.ras_bits.specs.declared.terms.Mode.TheVariants.{User, Supervisor}
use Rattle.rv64_csr.specs.declared.status.SupervisorStatus.{SupervisorStatus}
use Rattle.std.specs.Int.{from_bool}
use Rattle.ras_bits.specs.Bits.{has_bit}
use Rattle.ras_bits.specs.BitsLaws.{flag_small, flag_back}
use Rattle.rv64_csr.specs.Status.{mode_bit, mode_of, sstatus_of, status_from}
use Rattle.rv64_csr.specs.Csrs.{CsrFile, IsFile}
use Rattle.rv64_csr.specs.Parts.{parts_of, csr_file_of, file_from, is_held}

mode_small : (m : Mode) → mode_bit m < 2
mode_small User = omega arith
mode_small Supervisor = omega arith

mode_back : (m : Mode) → mode_of (mode_bit m == 1) ≡ m
mode_back User = refl
mode_back Supervisor = refl

-- five bits in their places
placed_bits : (a b c d e : ℕ) → ℕ
placed_bits a b c d e = a * 2 ^ 1 + b * 2 ^ 5 + c * 2 ^ 8 + d * 2 ^ 18 + e * 2 ^ 19 + 2 * 2 ^ 32

at_1 : (a b c d e : ℕ) → a < 2 → placed_bits a b c d e / 2 ^ 1 % 2 ≡ a
unfolding placed_bits
at_1 a b c d e p = omega arith

at_5 : (a b c d e : ℕ) → a < 2 → b < 2 → placed_bits a b c d e / 2 ^ 5 % 2 ≡ b
unfolding placed_bits
at_5 a b c d e p q = omega arith

at_8 : (a b c d e : ℕ) → a < 2 → b < 2 → c < 2 → placed_bits a b c d e / 2 ^ 8 % 2 ≡ c
unfolding placed_bits
at_8 a b c d e p q r = omega arith

at_18 : (a b c d e : ℕ) → a < 2 → b < 2 → c < 2 → d < 2 → placed_bits a b c d e / 2 ^ 18 % 2 ≡ d
unfolding placed_bits
at_18 a b c d e p q r s = omega arith

at_19 : (a b c d e : ℕ) → a < 2 → b < 2 → c < 2 → d < 2 → e < 2 → placed_bits a b c d e / 2 ^ 19 % 2 ≡ e
unfolding placed_bits
at_19 a b c d e p q r s t = omega arith

same_status : {sie sie' spie spie' : Bool} {spp spp' : Mode} {sum sum' mxr mxr' : Bool}
    → sie ≡ sie' → spie ≡ spie' → spp ≡ spp' → sum ≡ sum' → mxr ≡ mxr'
    → (let left : SupervisorStatus = record { sie = sie; spie = spie; spp = spp; sum = sum; mxr = mxr } in
    let right : SupervisorStatus = record { sie = sie'; spie = spie'; spp = spp'; sum = sum'; mxr = mxr' } in left ≡ right)
same_status {sie = sie} {sie' = sie'} {spie = spie} {spie' = spie'} {spp = spp} {spp' = spp'} {sum = sum} {sum' = sum'} {mxr = mxr} {mxr' = mxr'} a b c d e =
    let made : Bool → Bool → Mode → Bool → Bool → SupervisorStatus = λ p q r s t. record { sie = p; spie = q; spp = r; sum = s; mxr = t } in
    ap (λ p. made p spie spp sum mxr) a
    ∙ ap (λ q. made sie' q spp sum mxr) b
    ∙ ap (λ r. made sie' spie' r sum mxr) c
    ∙ ap (λ s. made sie' spie' spp' s mxr) d
    ∙ ap (λ t. made sie' spie' spp' sum' t) e

pub status_back : (s : SupervisorStatus) → status_from (sstatus_of s) ≡ s
unfolding placed_bits
status_back s =
    let a = flag_small s.sie in
    let b = flag_small s.spie in
    let c = mode_small s.spp in
    let d = flag_small s.sum in
    let e = flag_small s.mxr in
    let v = from_bool s.sie in let w = from_bool s.spie in let x = mode_bit s.spp in let y = from_bool s.sum in let z = from_bool s.mxr in
    same_status
    (ap (λ n. n == 1) (at_1 v w x y z a) ∙ flag_back s.sie)
    (ap (λ n. n == 1) (at_5 v w x y z a b) ∙ flag_back s.spie)
    (ap (λ n. mode_of (n == 1)) (at_8 v w x y z a b c) ∙ mode_back s.spp)
    (ap (λ n. n == 1) (at_18 v w x y z a b c d) ∙ flag_back s.sum)
    (ap (λ n. n == 1) (at_19 v w x y z a b c d e) ∙ flag_back s.mxr)

ssip_back : (b : Bool) → has_bit (from_bool b * 2) 1 ≡ b
ssip_back true = refl
ssip_back false = refl

all_true : {a b c d e f g : Bool} → a ≡ true → b ≡ true → c ≡ true → d ≡ true → e ≡ true → f ≡ true → g ≡ true
    → (a && b && c && d && e && f && g) ≡ true
all_true p q r s t u v = rw (p, q, r, s, t, u, v) refl

held : (file : CsrFile) → IsFile file → is_held (parts_of file) ≡ true
held file h =
    all_true
    (eq-eqb _ _ (ap sstatus_of (status_back file.status)))
    (eq-eqb _ _ h.sie) (eq-eqb _ _ h.stvec) (eq-eqb _ _ h.scounteren) (eq-eqb _ _ h.sepc)
    (eq-eqb _ _ (ap (λ b. from_bool b * 2) (ssip_back file.ssip)))
    h.satp

file_same : (file : CsrFile) → csr_file_of (parts_of file) ≡ file
file_same file =
    ap (λ s. let made : CsrFile = record file { status = s; ssip = has_bit (from_bool file.ssip * 2) 1 } in made) (status_back file.status)
    ∙ ap (λ b. let made : CsrFile = record file { ssip = b } in made) (ssip_back file.ssip)

chosen : (test : Bool) (parts : CsrFile) → test ≡ true → (if test then Some parts else None) ≡ Some parts
chosen test parts h = rw h refl

pub file_back : (file : CsrFile) → IsFile file → file_from (parts_of file) ≡ Some file
unfolding file_from
file_back file h = chosen (is_held (parts_of file)) (csr_file_of (parts_of file)) (held file h) ∙ ap (λ f. Some f) (file_same file)

pub file_back_of : (file : CsrFile) (parts : CsrParts) → parts ≡ parts_of file → IsFile file → file_from parts ≡ Some file
file_back_of file parts e h = ap file_from e ∙ file_back file h
