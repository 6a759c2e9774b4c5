-- Where an access goes: its address is translated, each page-table entry is asked for, and what it comes to must be in RAM
-- (privileged manual, "Virtual Address Translation Process").
use Rattle.std.specs.Prelude.{ℕ, if◌then◌else◌}
use Rattle.ras_bits.specs.declared.terms.Access.{Access}
use Rattle.ras_bits.specs.Map.{is_ram, word_at}
use Rattle.poison_mem.specs.declared.cell.UseKind.{UseKind}
use Rattle.poison_mem.specs.Asking.{Asking, Answer, Ask}
use Rattle.sv39_walk.specs.declared.request.Request.{Request}
use Rattle.sv39_walk.specs.Walking.{Walking, Done, Fault, Need, walk}
use Rattle.rv64_hart.specs.State.{ArchitecturalState}
use Rattle.rv64_hart.specs.Traps.{access_fault, page_fault}
use Rattle.rv64_hart.specs.declared.traps.Exception.{Exception}

-- an access goes to a physical address in RAM, or is refused by an exception
pub data Location : Type 0 where
  At : (physical : ℕ) → Location
  Refused : (exception : Exception) → Location

-- the access at a physical address: it must be in RAM
abbrev pub in_ram : ℕ → Access → ℕ → Location
in_ram words kind physical = if is_ram words physical then At physical else Refused (access_fault kind)

-- an entry's word is asked for, where the entry is in RAM; else the access is refused
abbrev pub entry_asked : ℕ → Access → ℕ → (ℕ → Asking Location) → Asking Location
entry_asked words kind address go_on =
    if is_ram words address then Ask (word_at address) UseKind.Walk go_on else Answer (Refused (access_fault kind))

-- a walk through page tables in RAM
unfoldable pub walked : ℕ → Access → Walking → Asking Location
walked words kind (Done physical) = Answer (in_ram words kind physical)
walked words kind (Fault code) = Answer (Refused (page_fault kind))
walked words kind (Need address go_on) = entry_asked words kind address (λ entry. walked words kind (go_on entry))

-- what the hart asks to be translated
abbrev pub request_of : ArchitecturalState → Access → ℕ → Request
request_of h kind address = record { va = address; kind = kind; mode = h.mode; sum = h.csrs.status.sum; mxr = h.csrs.status.mxr }

-- where an access of this kind to a virtual address goes
abbrev pub located : ℕ → ArchitecturalState → Access → ℕ → Asking Location
located words h kind address = walked words kind (walk h.csrs.satp (request_of h kind address))
