use Rattle.sbi_calls.proofs.MaskBits.{each_there}
use Rattle.sbi_calls.proofs.ipi.selected_harts.Goals as goal

pub returns-clause-all_there : goal.returns-clause-all_there
returns-clause-all_there c = rw c.moved_mask.ensures (each_there c.args.mask c.args.base c.args.harts c.if-base-eq18446744073709551615.false)
