use Rattle.std.proofs.Common.{rules}
use Rattle.cper_sections.proofs.SlotLemmas.{cache_slots}
use Rattle.cper_sections.proofs.processor.cache_section.Goals as goal

pub returns-clause-slots : goal.returns-clause-slots
returns-clause-slots c = cache_slots c.args.v.now c.unwrap.result (search rules)
