-- The bits of a record's registers (a profile of RERI 1.0, control_i and status_i).
use Rattle.std.specs.Prelude.{◌≡◌, ℕ, ◌+◌, ◌*◌, ◌^◌, ◌==◌, Bool, true, ◌&&◌, ◌||◌, not, if◌then◌else◌, Option, Some, None}
use Rattle.ras_bits.specs.Fields.{field}
use Rattle.poison_mem.specs.declared.event.RecordView.{RecordView}
use Rattle.reri_bank.specs.declared.layout.Control.{Control}
use Rattle.poison_mem.specs.RecordView.{greatest_flag}
use Rattle.ras_bits.specs.Bits.{has_bit}
use Rattle.std.specs.Int.{from_bool}
use Rattle.reri_bank.specs.declared.layout.TheConstants.{ELSE, CECE, CES, UEDS, UECS, EID, V, CE, UED, UEC, PRI, MO, CECO, RDIP, SCRUB, AV, CODE, CEC}
use Rattle.reri_bank.specs.declared.record.TheConstants.{MOST_COUNTED}

-- the control register: else, cece, ces, ueds and uecs from bit 0 up, and eid in bits 63:48
abbrev pub control_word : Control → ℕ → ℕ
control_word c eid =
    2 ^ ELSE * from_bool c.logging + 2 ^ CECE * from_bool c.cece + 2 ^ CES * c.ces + 2 ^ UEDS * c.ueds
    + 2 ^ UECS * c.uecs + 2 ^ EID * eid

-- what a control register says
abbrev pub control_value : ℕ → Control
control_value v = record {
  logging = has_bit v ELSE;
  cece = has_bit v CECE;
  ces = field v CES 2;
  ueds = field v UEDS 2;
  uecs = field v UECS 2;
}

-- the number of CE, where it is shown
abbrev pub shown_count : RecordView → Bool → ℕ
shown_count v cece = if cece then v.cec else 0

-- the status register of a valid record: v and av are set
abbrev pub status_of_view : RecordView → Bool → Bool → ℕ
status_of_view v cece rdip =
    2 ^ V + 2 ^ CE * from_bool v.ce + 2 ^ UED * from_bool v.ued + 2 ^ UEC * from_bool v.uec
    + 2 ^ PRI * v.kept.pri + 2 ^ MO * from_bool v.mo + 2 ^ CECO * from_bool (v.ceco && cece)
    + 2 ^ RDIP * from_bool rdip + 2 ^ SCRUB * from_bool v.kept.scrub + 2 ^ AV
    + 2 ^ CODE * v.kept.code + 2 ^ CEC * shown_count v cece

-- the status register, 0 of an empty record
abbrev pub status_word : Option RecordView → Bool → Bool → ℕ
status_word None cece rdip = 0
status_word (Some v) cece rdip = status_of_view v cece rdip

-- a status stands for a record: v and av are set and a class is flagged, bits 15:11 and 47:24 are 0, and ceco is set
-- only where cec is full
abbrev pub stands_for_record : ℕ → Bool
stands_for_record status =
    has_bit status V && has_bit status AV
    && (has_bit status CE || has_bit status UED || has_bit status UEC)
    && (field status 11 5 == 0 && field status 24 24 == 0)
    && (not (has_bit status CECO) || field status CEC 16 == MOST_COUNTED)

-- the view that a record's registers stand for
abbrev pub view_value : ℕ → ℕ → ℕ → ℕ → ℕ → ℕ → ℕ → Option RecordView
view_value status addr info suppl time bank rec =
    if stands_for_record status
    then Some (record {
      kept = record {
        bank = bank;
        rec = rec;
        class = greatest_flag (has_bit status UED) (has_bit status UEC);
        pri = field status PRI 2;
        code = field status CODE 8;
        scrub = has_bit status SCRUB;
        addr = addr;
        info = info;
        suppl = suppl;
        at = time;
      };
      ce = has_bit status CE;
      ued = has_bit status UED;
      uec = has_bit status UEC;
      mo = has_bit status MO;
      cec = field status CEC 16;
      ceco = has_bit status CECO;
    })
    else None

-- a view with these in place of what the status register doesn't show of its kept event
abbrev pub with_handed : RecordView → ℕ → ℕ → ℕ → ℕ → ℕ → ℕ → RecordView
with_handed v addr info suppl time bank rec = record v {
  kept = record v.kept { bank = bank; rec = rec; addr = addr; info = info; suppl = suppl; at = time };
}

-- a view comes back from its status register, with its count shown, and from whatever the other registers hand
abbrev pub ComesBack : RecordView → Type 0
ComesBack v = (rdip : Bool) (addr info suppl time bank rec : ℕ)
    → view_value (status_word (Some v) true rdip) addr info suppl time bank rec
    ≡ Some (with_handed v addr info suppl time bank rec)
