use Rattle.std.proofs.Common.{ap, sym, ◌∙◌}
use Rattle.ras_machine.specs.Machine.{ending_in}
use Rattle.ras_machine.specs.Schedule.{given_by}
use Rattle.ras_machine.specs.declared.settings.Settings.{Settings}
use Rattle.ras_machine.specs.declared.ending.Ending.{Ending}
use Rattle.ras_report.specs.Reports.{report_of}
use Rattle.ras_cli.specs.Plan.{exit_of}
use Rattle.ras_cli.proofs.RunsLemmas.{ran_is, ended_is, run_keeps, settings_kept}
use Rattle.ras_cli.proofs.machine.run_machine.Goals as goal

pub returns-clause-ran : goal.returns-clause-ran
returns-clause-ran c = λ lines rising.
    ran_is c.args.inputs.now.image c.args.settings.now (given_by c.args.inputs.now.input.items c.args.inputs.now.schedule.items) lines c.args.inputs.now.script.lines
    c.in_ok-machine.machine c.run-ending.new.self rising c.in_ok-machine.ensures.made (rw (c.as_slice.ensures.value, c.as_slice-2.ensures.value) at c.run-ending.ensures.after)

pub returns-clause-exit : goal.returns-clause-exit
returns-clause-exit c = c.exit_of.ensures.exit ∙ ap (λ (e : Ending). exit_of e.stop) (sym (ended_is c.run-ending.new.self c.run-ending.result c.run-ending.ensures.ending))

pub returns-clause-report : goal.returns-clause-report
returns-clause-report c =
    let m = c.run-ending.new.self in
    let kept =
    settings_kept c.args.inputs.now.image c.args.settings.now (given_by c.as_slice.result.now c.as_slice-2.result.now) c.args.inputs.now.script.lines
    c.in_ok-machine.machine m c.in_ok-machine.ensures.made c.run-ending.ensures.after in
    c.report.ensures
    ∙ ap (λ (e : Ending). report_of e m.state.firmware.records m.state.beyond m.state.shared.harts m.settings.harts) (sym (ended_is m c.run-ending.result c.run-ending.ensures.ending))
    ∙ ap (λ (s : Settings). report_of (ending_in m) m.state.firmware.records m.state.beyond m.state.shared.harts s.harts) kept

pub returns-clause-keeps : goal.returns-clause-keeps
returns-clause-keeps c = λ lines rising.
    let image = c.args.inputs.now.image in
    let script = c.args.inputs.now.script.lines in
    let given = given_by c.as_slice.result.now c.as_slice-2.result.now in
    let stays = c.in_ok-machine.ensures.two_runs given script c.requires.script in
    run_keeps image c.args.settings.now (given_by c.args.inputs.now.input.items c.args.inputs.now.schedule.items) lines script c.in_ok-machine.machine c.run-ending.new.self c.run-ending.result
    rising c.in_ok-machine.ensures.made (rw (c.as_slice.ensures.value, c.as_slice-2.ensures.value) at c.run-ending.ensures.after) c.run-ending.ensures.ending
    (rw (c.as_slice.ensures.value, c.as_slice-2.ensures.value) at (c.run-ending.ensures.keeps image stays))
