-- The kinds of error events (a profile of RERI 1.0, "Error bank and error record registers").
use Rattle.std.specs.Prelude.{ℕ, ◌+◌, ◌*◌, ◌==◌, ◌&&◌}
use Rattle.poison_mem.specs.UseKind.{use_number}
use Rattle.poison_mem.specs.declared.cell.UseKind.{UseKind}
use Rattle.poison_mem.specs.declared.event.Class.{Class}
use Rattle.poison_mem.specs.declared.event.Class.TheVariants.{Corrected, Deferred, Critical}
use Rattle.poison_mem.specs.declared.event.Event.{Event}
use Rattle.poison_mem.specs.declared.event.EventKind.{EventKind}
use Rattle.poison_mem.specs.declared.event.EventKind.TheVariants.{CorrectedWord, BadWord, PoisonWrittenBack, Consumption, Injected}

-- the number of a kind
abbrev pub event_code : EventKind → ℕ
event_code CorrectedWord = 1
event_code BadWord = 2
event_code PoisonWrittenBack = 3
event_code Consumption = 4
event_code (Injected class) = 5

-- its priority among events of one class
abbrev pub event_priority : EventKind → ℕ
event_priority CorrectedWord = 0
event_priority BadWord = 1
event_priority PoisonWrittenBack = 1
event_priority Consumption = 3
event_priority (Injected class) = 0

-- how severe it is
abbrev pub event_class : EventKind → Class
event_class CorrectedWord = Corrected
event_class BadWord = Deferred
event_class PoisonWrittenBack = Deferred
event_class Consumption = Critical
event_class (Injected class) = class

-- an event of a record, of the word at an address; it is one of a scrub for record 1 of bank 0 alone
abbrev pub event_of : EventKind → ℕ → ℕ → ℕ → Event
event_of kind bank rec addr = record {
  bank = bank;
  rec = rec;
  class = event_class kind;
  pri = event_priority kind;
  code = event_code kind;
  scrub = bank == 0 && rec == 1;
  addr = addr;
  info = 0;
  suppl = 0;
  at = 0;
}

-- a hart's use of the poisoned word at an address: the use in bits 7:0 of info, the hart in bits 15:8, and the pc
abbrev pub consumption_of : UseKind → ℕ → ℕ → ℕ → Event
consumption_of use_kind hart addr pc = record (event_of Consumption 2 0 addr) { info = use_number use_kind + 256 * hart; suppl = pc }
