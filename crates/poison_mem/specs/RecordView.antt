-- The views that a record's registers can show (a profile of RERI 1.0, "Error bank and error record registers").
use Rattle.std.specs.Prelude.{◌≡◌, ◌<◌, ◌==◌, Bool, ◌||◌, not, if◌then◌else◌, IsTrue, Option}
use Rattle.poison_mem.specs.declared.record_id.RecordId.{RecordId}
use Rattle.poison_mem.specs.RecordId.{record_id, names_record}
use Rattle.poison_mem.specs.declared.event.Class.{Class}
use Rattle.poison_mem.specs.declared.event.Class.TheVariants.{Corrected, Deferred, Critical}
use Rattle.poison_mem.specs.declared.event.RecordView.{RecordView}

-- the greatest class that is flagged, where one is
abbrev pub greatest_flag : Bool → Bool → Class
greatest_flag ued uec = if uec then Critical else if ued then Deferred else Corrected

-- the kept class is the greatest that is flagged, its priority fits two bits, and more CE came than are counted only
-- where the count is full
pub record IsSoundView (v : RecordView) : Type 0 where
  pub flagged : IsTrue (v.ce || v.ued || v.uec)
  pub class_is : v.kept.class ≡ greatest_flag v.ued v.uec
  pub pri_fits : v.kept.pri < 4
  pub full : IsTrue (not v.ceco || v.cec == 65535)

-- the record that a view is of
abbrev pub record_of_view : RecordView → Option RecordId
record_of_view v = record_id v.kept.bank v.kept.rec

-- a sound view of a record that there is
pub record IsListedView (v : RecordView) : Type 0 where
  pub sound : IsSoundView v
  pub named : IsTrue (names_record v.kept.bank v.kept.rec)
