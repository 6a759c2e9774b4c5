-- The verdict on two runs of one image: that of the machine whose memory takes faults, and the flat machine's.
use Rattle.std.specs.Prelude.{◌≡◌, ◌≢◌, ℕ, ◌==◌, Bool, true, false, ◌&&◌, List, [], ◌∷◌, ◌++◌, Option, Some, None, codes}
use Rattle.std.specs.Int.{from_bool}
use Rattle.std.specs.Str.{bytes_eq}
use Rattle.std.specs.Cmp.Lexicographic.{pointwise}
use Rattle.ras_bits.specs.declared.terms.Mode.{Mode}
use Rattle.ras_bits.specs.declared.terms.Mode.TheVariants.{User, Supervisor}
use Rattle.poison_mem.specs.UseKind.{use_number}
use Rattle.rv64_hart.specs.Access.{bytes_in}
use Rattle.rv64_hart.specs.State.{ArchitecturalState}
use Rattle.rv64_hart.specs.declared.reservation.Reservation.{Reservation}
use Rattle.ras_machine.specs.Flat.{FlatState}
use Rattle.ras_machine.specs.declared.state.MachineState.{MachineState}
use Rattle.ras_machine.specs.declared.ending.Stop.{Stop}
use Rattle.ras_machine.specs.declared.ending.Stop.TheVariants.{Shutdown, Reboot, Budget, ConsoleFull, Consumed, Injected}
use Rattle.ras_machine.specs.declared.ending.Ending.{Ending}
use Rattle.ras_report.specs.declared.verdicts.Verdict.{Verdict}
use Rattle.ras_report.specs.declared.verdicts.Verdict.TheVariants.{Same, Uncorrected, Silent}

-- what a run shows: its console, its ending, its harts, and how many bytes of the input they took
pub record ShownRun : Type 0 where
  pub console : List ℕ
  pub ending : Ending
  pub harts : List ArchitecturalState
  pub place : ℕ

-- by the machine whose memory takes faults
abbrev pub faulty_shown : {B : Type 0} → MachineState B → Ending → ShownRun
faulty_shown s ending = record { console = s.console; ending = ending; harts = s.shared.harts; place = s.place }

-- by the flat machine
abbrev pub flat_shown : FlatState → Ending → ShownRun
flat_shown s ending = record { console = s.console; ending = ending; harts = s.harts; place = s.place }

-- a run stopped at a poisoned word or at an injected critical error
abbrev pub is_at_error : Stop → Bool
is_at_error (Shutdown reason) = false
is_at_error (Reboot reboot_kind) = false
is_at_error Budget = false
is_at_error ConsoleFull = false
is_at_error (Consumed w use_kind pc) = true
is_at_error (Injected bank rec) = true

-- The rule: a run that stopped at an error is uncorrected; else it is the same where it shows what the flat machine's shows, and silent where
-- anything differs.
abbrev pub IsVerdict : ShownRun → ShownRun → Verdict → Type 0
IsVerdict faulty flat Uncorrected = is_at_error faulty.ending.stop ≡ true
IsVerdict faulty flat Silent = (is_at_error faulty.ending.stop ≡ false) × (faulty ≢ flat)
IsVerdict faulty flat Same = (is_at_error faulty.ending.stop ≡ false) × (faulty ≡ flat)

-- ---- the same as a function: equality by tests on numbers, which `VerdictLaws` shows to be equality

abbrev pub mode_number : Mode → ℕ
mode_number User = 0
mode_number Supervisor = 1

abbrev pub reservation_numbers : Option Reservation → List ℕ
reservation_numbers None = 0 ∷ 0 ∷ 0 ∷ []
reservation_numbers (Some r) = 1 ∷ r.address ∷ bytes_in r.width ∷ []

abbrev pub csr_numbers : ArchitecturalState → List ℕ
csr_numbers h =
    from_bool h.csrs.status.sie ∷ from_bool h.csrs.status.spie ∷ mode_number h.csrs.status.spp ∷ from_bool h.csrs.status.sum
    ∷ from_bool h.csrs.status.mxr ∷ h.csrs.sie ∷ h.csrs.stvec ∷ h.csrs.scounteren ∷ h.csrs.sscratch ∷ h.csrs.sepc ∷ h.csrs.scause
    ∷ h.csrs.stval ∷ from_bool h.csrs.ssip ∷ h.csrs.satp ∷ h.csrs.timer ∷ h.csrs.retired ∷ []

-- the numbers that a hart keeps
abbrev pub hart_numbers : ArchitecturalState → List ℕ
hart_numbers h =
    h.number ∷ from_bool h.started ∷ h.pc ∷ mode_number h.mode ∷ (csr_numbers h ++ (reservation_numbers h.reservation ++ h.registers))

abbrev pub stop_numbers : Stop → List ℕ
stop_numbers (Shutdown reason) = 0 ∷ reason ∷ 0 ∷ 0 ∷ []
stop_numbers (Reboot reboot_kind) = 1 ∷ reboot_kind ∷ 0 ∷ 0 ∷ []
stop_numbers Budget = 2 ∷ 0 ∷ 0 ∷ 0 ∷ []
stop_numbers ConsoleFull = 3 ∷ 0 ∷ 0 ∷ 0 ∷ []
stop_numbers (Consumed w use_kind pc) = 4 ∷ w ∷ use_number use_kind ∷ pc ∷ []
stop_numbers (Injected bank rec) = 5 ∷ bank ∷ rec ∷ 0 ∷ []

abbrev pub same_hart : ArchitecturalState → ArchitecturalState → Bool
same_hart a b = bytes_eq (hart_numbers a) (hart_numbers b)

abbrev pub same_ending : Ending → Ending → Bool
same_ending a b = bytes_eq (a.steps ∷ stop_numbers a.stop) (b.steps ∷ stop_numbers b.stop)

-- whether two runs show the same
unfoldable pub same_shown : ShownRun → ShownRun → Bool
same_shown a b = bytes_eq a.console b.console && (same_ending a.ending b.ending && (pointwise same_hart a.harts b.harts && (a.place == b.place)))

-- the verdict, by whether a run stopped at an error, and whether it shows what the flat machine's shows
abbrev pub verdict_by : Bool → Bool → Verdict
verdict_by true same = Uncorrected
verdict_by false true = Same
verdict_by false false = Silent

abbrev pub verdict_of : ShownRun → ShownRun → Verdict
verdict_of faulty flat = verdict_by (is_at_error faulty.ending.stop) (same_shown faulty flat)

-- ---- its text

abbrev pub verdict_text : Verdict → List ℕ
verdict_text Same = codes "same"
verdict_text Uncorrected = codes "uncorrected"
verdict_text Silent = codes "silent"

-- the line of a verdict
abbrev pub verdict_line : Verdict → List ℕ
verdict_line verdict = codes "verdict " ++ verdict_text verdict ++ codes "\n"
