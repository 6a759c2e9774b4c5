-- A sound view comes back from its registers.
use Rattle.std.proofs.Common.{◌≡◌, ℕ, ◌+◌, ◌*◌, ◌^◌, ◌==◌, ◌<◌, Bool, true, ◌||◌, ◌&&◌, not, Some, refl, sym, ◌∙◌, arith}
use Rattle.poison_mem.specs.declared.event.RecordView.{RecordView}
use Rattle.ras_bits.specs.Fields.{field}
use Rattle.reri_bank.specs.Layout.{status_of_view, view_value, with_handed}
use Rattle.reri_bank.specs.LayoutLaws.{same_flag}
use Rattle.poison_mem.specs.RecordView.{IsSoundView}
use Rattle.ras_bits.specs.Bits.{has_bit}
use Rattle.std.specs.Int.{from_bool}
use Rattle.ras_bits.specs.BitsLaws.{flag_small}
use Rattle.reri_bank.specs.declared.layout.TheConstants.{V, CE, UED, UEC, PRI, MO, CECO, RDIP, SCRUB, AV, CODE, CEC}

-- the word that a status is made of
abbrev status_sum : ℕ → ℕ → ℕ → ℕ → ℕ → ℕ → ℕ → ℕ → ℕ → ℕ → ℕ
status_sum a b c p m o r g k n = 2 ^ V + 2 ^ CE * a + 2 ^ UED * b + 2 ^ UEC * c + 2 ^ PRI * p + 2 ^ MO * m + 2 ^ CECO * o + 2 ^ RDIP * r + 2 ^ SCRUB * g + 2 ^ AV + 2 ^ CODE * k + 2 ^ CEC * n

record StatusFields (s a b c p m o r g k n : ℕ) : Type 0 where
  valid : field s V 1 ≡ 1
  ce : field s CE 1 ≡ a
  ued : field s UED 1 ≡ b
  uec : field s UEC 1 ≡ c
  pri : field s PRI 2 ≡ p
  mo : field s MO 1 ≡ m
  ceco : field s CECO 1 ≡ o
  scrub : field s SCRUB 1 ≡ g
  av : field s AV 1 ≡ 1
  low : field s 11 5 ≡ 0
  code : field s CODE 8 ≡ k
  high : field s 24 24 ≡ 0
  cec : field s CEC 16 ≡ n

fields_of : (a b c p m o r g k n : ℕ) → a < 2 → b < 2 → c < 2 → p < 4 → m < 2 → o < 2 → r < 2 → g < 2 → k < 256 → n < 65536
    → StatusFields (status_sum a b c p m o r g k n) a b c p m o r g k n
fields_of a b c p m o r g k n ha hb hc hp hm ho hr hg hk hn = record {
  valid = omega arith;
  ce = omega arith;
  ued = omega arith;
  uec = omega arith;
  pri = omega arith;
  mo = omega arith;
  ceco = omega arith;
  scrub = omega arith;
  av = omega arith;
  low = omega arith;
  code = omega arith;
  high = omega arith;
  cec = omega arith;
}

shown_by : (s : ℕ) (v : RecordView) (addr info suppl time bank rec : ℕ) → IsSoundView v
    → has_bit s V ≡ true → has_bit s AV ≡ true → has_bit s CE ≡ v.ce → has_bit s UED ≡ v.ued → has_bit s UEC ≡ v.uec → field s PRI 2 ≡ v.kept.pri → has_bit s MO ≡ v.mo
    → has_bit s CECO ≡ v.ceco → has_bit s SCRUB ≡ v.kept.scrub → field s 11 5 ≡ 0 → field s CODE 8 ≡ v.kept.code → field s 24 24 ≡ 0 → field s CEC 16 ≡ v.cec
    → view_value s addr info suppl time bank rec ≡ Some (with_handed v addr info suppl time bank rec)
shown_by s v addr info suppl time bank rec sound h0 h10 h1 h2 h3 h4 h6 h7 h9 h11 h16 h24 h48 =
    let flagged : (v.ce || v.ued || v.uec) ≡ true = grind (arith, sound.flagged) in
    let full : (not v.ceco || (v.cec == 65535)) ≡ true = grind (arith, sound.full) in
    simp (h0, h10, h1, h2, h3, h4, h6, h7, h9, h11, h16, h24, h48, flagged, full, sym sound.class_is) refl

pub registers_show : (v : RecordView) (rdip : Bool) (addr info suppl time bank rec : ℕ) → IsSoundView v → v.kept.code < 256 → v.cec < 65536
    → view_value (status_of_view v true rdip) addr info suppl time bank rec ≡ Some (with_handed v addr info suppl time bank rec)
registers_show v rdip addr info suppl time bank rec sound code_fits count_fits =
    let s = status_of_view v true rdip in
    let f : StatusFields s (from_bool v.ce) (from_bool v.ued) (from_bool v.uec) v.kept.pri (from_bool v.mo) (from_bool (v.ceco && true)) (from_bool rdip) (from_bool v.kept.scrub) v.kept.code v.cec =
    fields_of (from_bool v.ce) (from_bool v.ued) (from_bool v.uec) v.kept.pri (from_bool v.mo) (from_bool (v.ceco && true)) (from_bool rdip) (from_bool v.kept.scrub) v.kept.code v.cec
    (flag_small _) (flag_small _) (flag_small _) sound.pri_fits (flag_small _) (flag_small _) (flag_small _) (flag_small _) code_fits count_fits in
    let both : (v.ceco && true) ≡ v.ceco = grind arith in
    shown_by s v addr info suppl time bank rec sound (same_flag s V true f.valid) (same_flag s AV true f.av) (same_flag s CE v.ce f.ce) (same_flag s UED v.ued f.ued) (same_flag s UEC v.uec f.uec)
    f.pri (same_flag s MO v.mo f.mo) (same_flag s CECO (v.ceco && true) f.ceco ∙ both) (same_flag s SCRUB v.kept.scrub f.scrub) f.low f.code f.high f.cec
