use Rattle.std.proofs.Common.{rules}
use Rattle.cper_sections.proofs.SlotLemmas.{memory_slots}
use Rattle.cper_sections.proofs.memory.mem_section.Goals as goal

pub returns-clause-slots : goal.returns-clause-slots
returns-clause-slots c = memory_slots c.args.v.now c.unwrap.result (search rules)
