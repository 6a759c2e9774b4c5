use Rattle.ras_read.specs.Files.{file_text}
use Rattle.ras_cli.proofs.PrintLemmas.{text_follows}
use Rattle.ras_cli.proofs.printing.print_bytes.Goals as goal

pub returns-in-Ok-clause-follows : goal.returns-in-Ok-clause-follows
returns-in-Ok-clause-follows g c = text_follows _ (file_text c.args.bytes.now) _ _ _ _ c.in-Ok.ensures.text (rw c.as_slice.ensures.value at c.write_text.ensures.follows)

pub returns-in-Err-clause-follows : goal.returns-in-Err-clause-follows
returns-in-Err-clause-follows g c = c.refuse_file.ensures.follows (file_text c.args.bytes.now) c.in-Err.ensures.refused
