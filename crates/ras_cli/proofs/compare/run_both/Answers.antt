use Rattle.std.proofs.Common.{refl, ap, sym, ◌∙◌}
use Rattle.ras_machine.specs.Machine.{faulty_run, ending_in}
use Rattle.ras_machine.specs.Flat.{flat_of, flat_whole}
use Rattle.ras_machine.specs.Schedule.{given_by}
use Rattle.ras_machine.specs.declared.settings.Settings.{Settings}
use Rattle.ras_machine.specs.declared.ending.Ending.{Ending}
use Rattle.ras_report.specs.Reports.{report_of}
use Rattle.ras_report.specs.Verdicts.{faulty_shown, flat_shown, verdict_of}
use Rattle.ras_cli.proofs.RunsLemmas.{ran_is, ended_is, run_keeps, settings_kept}
use Rattle.ras_cli.proofs.ComparisonLemmas.{flat_is, both_are}
use Rattle.ras_cli.proofs.compare.run_both.Goals as goal

pub returns-clause-planned : goal.returns-clause-planned
returns-clause-planned c = λ lines rising.
    let image = c.args.inputs.now.image in
    let settings = c.args.settings.now in
    let given = given_by c.args.inputs.now.input.items c.args.inputs.now.schedule.items in
    let script = c.args.inputs.now.script.lines in
    let m = c.run-ending.new.self in
    let f = c.run_flat-flat_ending.new.self in
    let ran = rw (c.as_slice-input.ensures.value, c.as_slice-schedule.ensures.value) at c.run-ending.ensures.after in
    let flat_ran = rw (c.as_slice-input.ensures.value, c.as_slice-schedule.ensures.value) at c.run_flat-flat_ending.ensures.after in
    let kept = settings_kept image settings given script c.in-Ok.machine m c.in-Ok.ensures.made ran in
    let ended = sym (ended_is m c.run-ending.result c.run-ending.ensures.ending) in
    both_are settings.harts m (faulty_run image settings given lines) (record { after = f.state; ending = c.run_flat-flat_ending.result }) (flat_whole given (flat_of image settings))
    m.state.console c.report.new.out.items c.flat_report.new.out.items c.verdict-verdict.result
    (ran_is image settings given lines script c.in-Ok.machine m rising c.in-Ok.ensures.made ran)
    (flat_is image settings given c.in_ok-flat.flat f c.run_flat-flat_ending.result c.in_ok-flat.ensures flat_ran c.run_flat-flat_ending.ensures.ending)
    refl
    (c.report.ensures
    ∙ ap (λ (e : Ending). report_of e m.state.firmware.records m.state.beyond m.state.shared.harts m.settings.harts) ended
    ∙ ap (λ (s : Settings). report_of (ending_in m) m.state.firmware.records m.state.beyond m.state.shared.harts s.harts) kept)
    c.flat_report.ensures
    (c.verdict-verdict.ensures.verdict ∙ ap (λ (e : Ending). verdict_of (faulty_shown m.state e) (flat_shown f.state c.run_flat-flat_ending.result)) ended)

pub returns-clause-keeps : goal.returns-clause-keeps
returns-clause-keeps c = λ lines rising.
    let image = c.args.inputs.now.image in
    let script = c.args.inputs.now.script.lines in
    let given = given_by c.as_slice-input.result.now c.as_slice-schedule.result.now in
    let stays = c.in-Ok.ensures.two_runs given script c.requires.script in
    run_keeps image c.args.settings.now (given_by c.args.inputs.now.input.items c.args.inputs.now.schedule.items) lines script c.in-Ok.machine c.run-ending.new.self c.run-ending.result
    rising c.in-Ok.ensures.made (rw (c.as_slice-input.ensures.value, c.as_slice-schedule.ensures.value) at c.run-ending.ensures.after) c.run-ending.ensures.ending
    (rw (c.as_slice-input.ensures.value, c.as_slice-schedule.ensures.value) at (c.run-ending.ensures.keeps image stays))
