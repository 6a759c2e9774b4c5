use Rattle.std.proofs.Common.{◌≡◌, List, subst, arith, rules}
use Rattle.std.proofs.lemmas.Grind.{common_steps}
use Rattle.fault_script.specs.Fits.{IsScriptFor}
use Rattle.fault_script.specs.Scripts.{with_line_inserted}
use Rattle.fault_script.specs.declared.lines.ScriptLine.{ScriptLine}
use Rattle.fault_script.proofs.EditLemmas.{inserted_fits}
use Rattle.fault_script.proofs.scripts.Script.insert.Goals as goal

pub returns-clause-fits : goal.returns-clause-fits
returns-clause-fits c = λ ram_words script fits.
    let made = inserted_fits ram_words c.args.l c.args.self.now.lines c.requires.few script fits in
    let same : with_line_inserted c.args.l c.args.self.now.lines ≡ c.insert.new.self.items = first_of (search rules, grind (arith, common_steps)) in
    subst (λ (lines : List ScriptLine). IsScriptFor ram_words lines) same made
