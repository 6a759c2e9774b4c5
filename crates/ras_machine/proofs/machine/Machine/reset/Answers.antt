use Rattle.std.proofs.Common.{ℕ, ◌≡◌, ◌≤◌, ◌∙◌, length, slice_index, sym, ap, subst, arith}
use Rattle.std.specs.List.{AllByRecursion}
use Rattle.fault_script.specs.Fits.{FitsRam}
use Rattle.mem_stack.specs.Stack.{StackLines, stack_meaning, loaded_stack}
use Rattle.mem_stack.specs.StackLaws.{loaded_words}
use Rattle.mem_stack.specs.StackStands.{StackStands}
use Rattle.rv64_hart.specs.Harts.{HartsState, first_harts}
use Rattle.ras_machine.specs.declared.settings.Settings.{Settings}
use Rattle.ras_machine.specs.Machine.{StackMachine, machine_made}
use Rattle.ras_machine.specs.Settings.{ram_words}
use Rattle.ras_machine.specs.TwoRuns.{StaysInStep}
use Rattle.ras_machine.proofs.HartCount.{first_count}
use Rattle.ras_machine.proofs.Machines.{made_stays}
use Rattle.ras_machine.proofs.Resets.{made_again}
use Rattle.ras_machine.proofs.machine.Machine.reset.Goals as goal

pub invariant_of-self : goal.invariant_of-self
invariant_of-self c =
    let settings : c.self.inside.settings ≡ c.args.self.now.settings = ap (λ (m : StackMachine). m.settings) c.self.view_is in (
      c.self.invariant.0,
      c.self.invariant.1,
      ap (λ (s : HartsState StackLines). stack_meaning.words s.memory) c.restart.ensures
          ∙ ap (λ (s : StackLines). stack_meaning.words s) c.reload.ensures.loaded
          ∙ loaded_words c.words.result.now
          ∙ ap (λ words. length words) c.words.ensures.words
          ∙ c.requires.ram
          ∙ ap ram_words (sym settings),
      c.self.invariant.3,
      ap (λ (s : HartsState StackLines). length s.harts) c.restart.ensures
          ∙ first_count _ c.entry.result (let some = c.self.invariant.0.some_harts in let count = c.self.invariant.4 in omega arith)
          ∙ c.self.invariant.4,
      c.self.invariant.5,
      c.self.invariant.6,
      c.self.invariant.7,
    )

pub returns-clause-made : goal.returns-clause-made
returns-clause-made c =
    let settings : c.self.inside.settings ≡ c.settings-settings.result = ap (λ (m : StackMachine). m.settings) c.self.view_is ∙ sym c.settings-settings.ensures.settings in
    let m : StackMachine = record {
      state = record c.self.inside.state { shared = c.restart.new.harts; firmware = c.renew.new.firmware; console = c.renew.new.console };
      settings = c.self.inside.settings;
      ended = c.self.inside.ended;
    } in
    c.set_run.ensures
    ∙ made_again m c.args.image.now c.settings-settings.result
    (ap (λ (s : HartsState StackLines). s.harts) c.restart.ensures
    ∙ ap (λ count. first_harts count c.entry.result) (c.self.invariant.4 ∙ ap (λ (s : Settings). s.harts) settings)
    ∙ ap (first_harts c.settings-settings.result.harts) c.entry.ensures.entry)
    (ap (λ (s : HartsState StackLines). s.memory) c.restart.ensures ∙ c.reload.ensures.loaded ∙ ap loaded_stack c.words.ensures.words)
    c.renew.ensures.firmware c.renew.ensures.console
    ∙ ap (machine_made c.args.image.now) c.settings-settings.ensures.settings

pub returns-clause-two_runs : goal.returns-clause-two_runs
returns-clause-two_runs c = λ given script fit.
    let image = c.args.image.now in
    let settings = c.args.self.now.settings in
    let stands : (q : ℕ → ℕ) → StackStands (loaded_stack image.words) (slice_index image.words) q =
    rw (c.reload.ensures.loaded, c.words.ensures.words) at c.reload.ensures.stands in
    let fits : AllByRecursion (FitsRam (length image.words)) script = subst (λ words. AllByRecursion (FitsRam words) script) (sym c.requires.ram) fit.fit in
    let some : 1 ≤ settings.ram_mib = subst (λ (s : Settings). 1 ≤ s.ram_mib) c.settings-settings.ensures.settings c.settings-settings.ensures.range.some_ram in
    subst (λ (m : StackMachine). StaysInStep image given script m) (sym (returns-clause-made c))
    (made_stays image given script settings fits c.requires.ram some stands)
