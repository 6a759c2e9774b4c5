-- What the code leaves of the error side, as the calls that an action tells.
use Rattle.std.proofs.Common.{ℕ, ◌≡◌, ◌∙◌, Option, Some, None, refl, ap, sym}
use Rattle.poison_mem.specs.Bus.{Storing, logged_all}
use Rattle.poison_mem.specs.Flips.{FlipMeaning}
use Rattle.fault_script.specs.declared.lines.Act.TheVariants.{Scrub}
use Rattle.reri_bank.specs.Banks.{banks_logged}
use Rattle.ras_firmware.specs.declared.firmware.Firmware.{Firmware}
use Rattle.scrubber.specs.Patrol.{due_at, moved_on}
use Rattle.ras_machine.specs.declared.state.MachineState.{MachineState}
use Rattle.ras_machine.specs.Actions.{or_else, act_done, patrolled_at, patrolled}
use Rattle.ras_machine.specs.CountDowns.{with_banks}
use Rattle.ras_machine.proofs.Stepping.{run_logs}

or_none : {X : Type 0} (o : Option X) → or_else o None ≡ o
or_none None = refl
or_none (Some x) = refl

-- a machine after a scrub whose events its banks logged
abbrev pub scrubbed : {B : Type 0} → MachineState B → Storing B → MachineState B
scrubbed s scrub =
    record s {
      shared = record s.shared { memory = scrub.after };
      firmware = with_banks s.firmware (logged_all banks_logged s.firmware.banks scrub.events);
    }

module _ {B : Type 0} (flips : FlipMeaning B) (s : MachineState B) (w : ℕ) where
  abbrev scrub : Storing B
  scrub = flips.cells.scrub s.shared.memory w

  pub scrubs : scrubbed s scrub ≡ (act_done flips (Scrub w) s).after
  scrubs =
      ap (λ (f : Firmware). record s { shared = record s.shared { memory = scrub.after }; firmware = f }) (sym (run_logs scrub.events s.firmware))
      ∙ ap (λ beyond. record (act_done flips (Scrub w) s).after { beyond = beyond }) (sym (or_none s.beyond))

  pub patrols : due_at s.patrol s.steps ≡ Some w → record (scrubbed s scrub) { patrol = moved_on s.patrol } ≡ (patrolled flips s).after
  patrols due =
      ap (λ (f : Firmware). record s { shared = record s.shared { memory = scrub.after }; firmware = f; patrol = moved_on s.patrol }) (sym (run_logs scrub.events s.firmware))
      ∙ ap (λ due. (patrolled_at flips due s).after) (sym due)
