-- The fields of a section stand at their slots, as those of every format do.
use Rattle.std.proofs.Common.{◌≡◌, ℕ, List, refl, sym, subst}
use Rattle.std.specs.List.{AllByRecursion}
use Rattle.byte_fields.specs.Fields.{StandsAtSlot, laid_out}
use Rattle.byte_fields.specs.FieldsLaws.{fields_stand_alone}
use Rattle.poison_mem.specs.declared.event.RecordView.{RecordView}
use Rattle.cper_sections.specs.Memory.{memory_fields, memory_section}
use Rattle.cper_sections.specs.Processor.{cache_fields, hart_fields}

pub memory_slots : (v : RecordView) (b : List ℕ) → b ≡ memory_section v → AllByRecursion (StandsAtSlot b) (memory_fields v)
memory_slots v b is = subst (λ (xs : List ℕ). AllByRecursion (StandsAtSlot xs) (memory_fields v)) (sym is) (fields_stand_alone 80 (memory_fields v) refl tt)

pub cache_slots : (v : RecordView) (b : List ℕ) → b ≡ laid_out 192 (cache_fields v) → AllByRecursion (StandsAtSlot b) (cache_fields v)
cache_slots v b is = subst (λ (xs : List ℕ). AllByRecursion (StandsAtSlot xs) (cache_fields v)) (sym is) (fields_stand_alone 192 (cache_fields v) refl tt)

pub hart_slots : (v : RecordView) (b : List ℕ) → b ≡ laid_out 192 (hart_fields v) → AllByRecursion (StandsAtSlot b) (hart_fields v)
hart_slots v b is = subst (λ (xs : List ℕ). AllByRecursion (StandsAtSlot xs) (hart_fields v)) (sym is) (fields_stand_alone 192 (hart_fields v) refl tt)
