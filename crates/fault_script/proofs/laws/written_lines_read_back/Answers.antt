use Rattle.fault_script.proofs.RoundTrip.{lines_read_back}
use Rattle.fault_script.proofs.laws.written_lines_read_back.Goals as goal

pub returns : goal.returns
returns c ram_words lines small readable = lines_read_back ram_words lines small readable
