use Rattle.std.proofs.Common.{ℕ, List, ◌++◌, ◌∙◌, ap}
use Rattle.cper_sections.specs.Record.{record_of_section}
use Rattle.cper_sections.specs.Reading.{record_of}
use Rattle.cper_sections.specs.declared.memory.TheConstants.{MEMORY_SECTION}
use Rattle.cper_sections.specs.declared.processor.TheConstants.{PROCESSOR_SECTION}
use Rattle.cper_sections.proofs.ReadBack.{memory_record, processor_record, written_back}
use Rattle.cper_sections.proofs.writing.write_record.Goals as goal

pub returns-then-v-eq0-clause-bytes : goal.returns-then-v-eq0-clause-bytes
returns-then-v-eq0-clause-bytes c =
    c.write_section.ensures.bytes ∙ ap (record_of_section c.args.v.now c.args.id MEMORY_SECTION) c.mem_section.ensures.bytes
    ∙ memory_record c.args.v.now c.args.id c.if-v-eq0.true

pub returns-then-v-eq0-clause-reads_back : goal.returns-then-v-eq0-clause-reads_back
returns-then-v-eq0-clause-reads_back c rest =
    ap (λ (xs : List ℕ). record_of (xs ++ rest)) (returns-then-v-eq0-clause-bytes c)
    ∙ written_back c.args.v.now c.args.id rest c.ranges.id.fits c.write_section.ensures.at_fits

pub returns-else-v-eq0-clause-bytes : goal.returns-else-v-eq0-clause-bytes
returns-else-v-eq0-clause-bytes c =
    c.write_section-else-v-eq0.ensures.bytes ∙ ap (record_of_section c.args.v.now c.args.id PROCESSOR_SECTION) c.proc_section.ensures.bytes
    ∙ processor_record c.args.v.now c.args.id c.if-v-eq0.false

pub returns-else-v-eq0-clause-reads_back : goal.returns-else-v-eq0-clause-reads_back
returns-else-v-eq0-clause-reads_back c rest =
    ap (λ (xs : List ℕ). record_of (xs ++ rest)) (returns-else-v-eq0-clause-bytes c)
    ∙ written_back c.args.v.now c.args.id rest c.ranges.id.fits c.write_section-else-v-eq0.ensures.at_fits
