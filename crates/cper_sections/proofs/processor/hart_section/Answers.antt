use Rattle.std.proofs.Common.{rules}
use Rattle.cper_sections.proofs.SlotLemmas.{hart_slots}
use Rattle.cper_sections.proofs.processor.hart_section.Goals as goal

pub returns-clause-slots : goal.returns-clause-slots
returns-clause-slots c = hart_slots c.args.v.now c.unwrap.result (search rules)
