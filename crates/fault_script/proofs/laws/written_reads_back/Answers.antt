use Rattle.fault_script.proofs.RoundTrip.{written_read}
use Rattle.fault_script.proofs.laws.written_reads_back.Goals as goal

pub returns : goal.returns
returns c ram_words lines small script = written_read ram_words lines small script
