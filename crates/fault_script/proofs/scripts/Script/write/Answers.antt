use Rattle.std.proofs.Common.{rules}
use Rattle.fault_script.proofs.RoundTrip.{text_read}
use Rattle.fault_script.proofs.scripts.Script.write.Goals as goal

pub returns-clause-reads_back : goal.returns-clause-reads_back
returns-clause-reads_back c = text_read (λ v. v.items) c.args.self.now.lines c.write_lines.result (search rules)
