-- What is read of a control register, and of `rdip`.
use Rattle.std.proofs.Common.{◌≡◌, ℕ, ◌+◌, ◌*◌, ◌^◌, ◌==◌, ◌<◌, Bool, true, false, ◌||◌, ◌&&◌, not, Some, refl, ap, ◌∙◌, arith, Option, None, is_some, IsTrue}
use Rattle.poison_mem.specs.declared.event.RecordView.{RecordView}
use Rattle.ras_bits.specs.Fields.{field, with_field}
use Rattle.reri_bank.specs.Layout.{control_value, control_word, status_word, shown_count}
use Rattle.ras_bits.specs.Bits.{has_bit}
use Rattle.std.specs.Int.{from_bool}
use Rattle.ras_bits.specs.BitsLaws.{flag_small, flag_back}
use Rattle.reri_bank.specs.declared.layout.TheConstants.{ELSE, CECE, SINV, SRDP, V, CE, UED, UEC, PRI, MO, CECO, RDIP, SCRUB, AV, CODE, CEC}
use Rattle.reri_bank.specs.ControlFields.{control_sum, ControlFields}
use Rattle.reri_bank.specs.Views.{PriFits}
use Rattle.reri_bank.specs.declared.layout.Control.{Control}

pub same_flag : (s i : ℕ) (b : Bool) → field s i 1 ≡ from_bool b → has_bit s i ≡ b
same_flag s i b e = ap (λ n. n == 1) e ∙ flag_back b

-- `rdip` of a status register
rdip_field : (a b c p m o r g k n : ℕ) → a < 2 → b < 2 → c < 2 → p < 4 → m < 2 → o < 2 → r < 2 → field (2 ^ V + 2 ^ CE * a + 2 ^ UED * b + 2 ^ UEC * c + 2 ^ PRI * p + 2 ^ MO * m + 2 ^ CECO * o + 2 ^ RDIP * r + 2 ^ SCRUB * g + 2 ^ AV + 2 ^ CODE * k + 2 ^ CEC * n) RDIP 1 ≡ r
rdip_field a b c p m o r g k n ha hb hc hp hm ho hr = omega arith

pub rdip_shown : (k : Option RecordView) (cece rdip : Bool) → PriFits k → IsTrue (not rdip || is_some k) → has_bit (status_word k cece rdip) RDIP ≡ rdip
rdip_shown None cece true fits only = cc
rdip_shown None cece false fits only = refl
rdip_shown (Some v) cece rdip fits only =
    ap (λ n. n == 1) (rdip_field (from_bool v.ce) (from_bool v.ued) (from_bool v.uec) v.kept.pri (from_bool v.mo) (from_bool (v.ceco && cece)) (from_bool rdip) (from_bool v.kept.scrub) v.kept.code (shown_count v cece)
    (flag_small _) (flag_small _) (flag_small _) fits (flag_small _) (flag_small _) (flag_small _)) ∙ flag_back rdip

-- as it is read, and with `sinv` or `srdp` set
pub plain_fields : (a b c d e n : ℕ) → a < 2 → b < 2 → c < 4 → d < 4 → e < 4 → ControlFields (control_sum a b c d e n) a b c d e 0 0
plain_fields a b c d e n ha hb hc hd he = record { logging = omega arith; cece = omega arith; ces = omega arith; ueds = omega arith; uecs = omega arith; sinv = omega arith; srdp = omega arith }

pub sinv_fields : (a b c d e n : ℕ) → a < 2 → b < 2 → c < 4 → d < 4 → e < 4 → ControlFields (with_field (control_sum a b c d e n) SINV 1 1) a b c d e 1 0
sinv_fields a b c d e n ha hb hc hd he = record { logging = omega arith; cece = omega arith; ces = omega arith; ueds = omega arith; uecs = omega arith; sinv = omega arith; srdp = omega arith }

pub srdp_fields : (a b c d e n : ℕ) → a < 2 → b < 2 → c < 4 → d < 4 → e < 4 → ControlFields (with_field (control_sum a b c d e n) SRDP 1 1) a b c d e 0 1
srdp_fields a b c d e n ha hb hc hd he = record { logging = omega arith; cece = omega arith; ces = omega arith; ueds = omega arith; uecs = omega arith; sinv = omega arith; srdp = omega arith }

same_control : (a a' b b' : Bool) (c c' d d' e e' : ℕ) → a ≡ a' → b ≡ b' → c ≡ c' → d ≡ d' → e ≡ e'
    → (let left : Control = record { logging = a; cece = b; ces = c; ueds = d; uecs = e } in left) ≡ record { logging = a'; cece = b'; ces = c'; ueds = d'; uecs = e' }
same_control a a' b b' c c' d d' e e' p q r s t = cc

-- a word with the fields of a control says that control
pub control_by_fields : (c : Control) (w x y : ℕ) → ControlFields w (from_bool c.logging) (from_bool c.cece) c.ces c.ueds c.uecs x y → control_value w ≡ c
control_by_fields c w x y f = same_control _ _ _ _ _ _ _ _ _ _ (same_flag w ELSE c.logging f.logging) (same_flag w CECE c.cece f.cece) f.ces f.ueds f.uecs

-- what a control register reads says its control
pub control_back : (c : Control) (eid : ℕ) → c.ces < 4 → c.ueds < 4 → c.uecs < 4 → control_value (control_word c eid) ≡ c
control_back c eid ces ueds uecs =
    control_by_fields c (control_word c eid) 0 0 (plain_fields (from_bool c.logging) (from_bool c.cece) c.ces c.ueds c.uecs eid (flag_small _) (flag_small _) ces ueds uecs)
