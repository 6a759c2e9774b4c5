use Rattle.std.proofs.Common.{◌∙◌, ap, subst}
use Rattle.ras_firmware.specs.Memory.{memory_bytes}
use Rattle.ras_firmware.specs.Records.{KeptState}
use Rattle.ras_machine.specs.Machine.{faulty_run, ending_in}
use Rattle.ras_report.specs.Records.{file_bytes}
use Rattle.ras_report.specs.Reports.{report_of}
use Rattle.ras_words.specs.Read.{run_in}
use Rattle.ras_cli.specs.Inputs.{given_in}
use Rattle.ras_cli.specs.Plan.{Planned}
use Rattle.ras_cli.specs.Follows.{Follows}
use Rattle.ras_cli.proofs.RunsLemmas.{results_are}
use Rattle.ras_cli.proofs.top.run_inputs.Goals as goal

pub returns-clause-follows : goal.returns-clause-follows
returns-clause-follows g c = λ lines rising.
    let k = c.in-Ok-run_machine in
    let m = k.results.machine in
    let faulty = faulty_run c.args.inputs.now.image c.args.settings.now (given_in c.args.inputs.now) lines in
    subst (λ (p : Planned). Follows (g.H.Host.told c.args.host.now) (g.H.Host.told c.write_results-status.new.host) p c.write_results-status.result.code)
    (results_are (run_in c.args.run) k.results.machine faulty k.results.exit c.console.result.now c.records_file.result.now c.bytes.result.now c.as_slice.result.now
    (k.ensures.ran lines rising) k.ensures.exit c.console.ensures
    (c.records_file.ensures ∙ ap (λ (r : KeptState). file_bytes r.views) c.records.ensures)
    (c.bytes.ensures.bytes ∙ ap memory_bytes c.firm.ensures)
    (c.as_slice.ensures.value ∙ k.ensures.report ∙ ap (λ n. report_of (ending_in m) m.state.firmware.records m.state.beyond m.state.shared.harts n) c.requires.harts))
    c.write_results-status.ensures.follows

pub returns-clause-keeps : goal.returns-clause-keeps
returns-clause-keeps g c = λ lines rising no4. c.in-Ok-run_machine.ensures.keeps lines rising
