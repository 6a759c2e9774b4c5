-- What was written is read again, whatever follows it, since the fields of every format stand at their slots.
use Rattle.std.proofs.Common.{◌≡◌, ℕ, ◌+◌, ◌<◌, ◌≤◌, ◌^◌, Bool, true, false, nat_eq, List, [], ◌∷◌, ◌++◌, length, Some, Ok, refl, ap, ◌∙◌, append_assoc, arith}
use Rattle.std.specs.Prelude.{codes, slice_get}
use Rattle.std.proofs.lemmas.Bool.{le-ltb, eq-eqb, ne_eqb, le-leb}
use Rattle.std.proofs.lemmas.List.{length-append}
use Rattle.ras_bits.specs.declared.terms.SectionAt.{SectionAt}
use Rattle.byte_fields.specs.declared.slot.Slot.{Slot}
use Rattle.byte_fields.specs.Fields.{HaveWidths, bytes_in, number_in, number_field, bytes_field}
use Rattle.byte_fields.specs.FieldsLaws.{LiesAt, lies_in_front, lies_behind, number_back, bytes_back, bytes_as_number, length_laid_out}
use Rattle.byte_fields.specs.Section.{section_in}
use Rattle.poison_mem.specs.declared.event.Class.{Class}
use Rattle.poison_mem.specs.declared.event.Class.TheVariants.{Corrected, Deferred, Critical}
use Rattle.poison_mem.specs.declared.event.RecordView.{RecordView}
use Rattle.cper_sections.specs.declared.header.TheConstants as slots
use Rattle.cper_sections.specs.declared.descriptor.TheConstants as descriptor
use Rattle.cper_sections.specs.Severity.{severity_of}
use Rattle.cper_sections.specs.Fru.{fru_text}
use Rattle.cper_sections.specs.Memory.{memory_fields, memory_section}
use Rattle.cper_sections.specs.Processor.{cache_fields, hart_fields, processor_section}
use Rattle.cper_sections.specs.declared.memory.TheConstants.{MEMORY_SECTION}
use Rattle.cper_sections.specs.declared.processor.TheConstants.{PROCESSOR_SECTION}
use Rattle.cper_sections.specs.Record.{descriptor_fields, end_mark, header_fields, record_bytes, record_header, record_of_section, section_bytes, section_descriptor, section_type}
use Rattle.cper_sections.specs.Written.{cper_of, cper_with}
use Rattle.cper_sections.specs.Reading.{header_kept, is_in_place, record_length, record_of, section_at, section_count, sections_of, signature_end, signature_start}
use Rattle.cper_sections.proofs.SectionLemmas.{section_read, sections_from}

severity_small : (c : Class) → severity_of c < 4
severity_small Corrected = omega arith
severity_small Deferred = omega arith
severity_small Critical = omega arith

header_read : (b : List ℕ) (len : ℕ) → 200 + len ≤ length b → signature_start b ≡ signature_start (codes "CPER") → signature_end b ≡ end_mark → record_length b ≡ 200 + len → section_count b ≡ 1
    → header_kept b ≡ Ok tt
unfolding header_kept
header_read b len whole start mark end one =
    let long : 128 ≤ length b = omega arith in
    let low : 128 ≤ 200 + len = omega arith in
    let descriptors : 200 ≤ 200 + len = omega arith in
    rw (le-ltb _ _ long, start, eq-eqb (signature_start (codes "CPER")) _ refl, mark, end, le-ltb _ _ low, le-ltb _ _ whole, one, le-ltb _ _ descriptors) refl

-- the sections of a record that has one
one_section : (b : List ℕ) (section : SectionAt) → section_count b ≡ 1 → is_in_place b 0 ≡ true → section_at b 128 ≡ section → sections_of b ≡ Ok (record { items = section ∷ [] })
one_section b section one placed section-is =
    ap (sections_from b [] 0) one ∙ section_read b [] 0 1 (omega arith) placed ∙ ap (λ (s : SectionAt). Ok (record { items = s ∷ [] })) section-is

record_read : (b : List ℕ) (id severity at len : ℕ) (section : SectionAt) → header_kept b ≡ Ok tt → sections_of b ≡ Ok (record { items = section ∷ [] })
    → number_in slots.RECORD_ID 0 b ≡ id → number_in slots.ERROR_SEVERITY 0 b ≡ severity → number_in slots.PERSISTENCE 0 b ≡ at → record_length b ≡ len
    → record_of b ≡ Ok (record { id = id; severity = severity; at = at; length = len; sections = record { items = section ∷ [] } })
unfolding record_of
record_read b id severity at len section header sections id-is severity-is at-is len-is =
    rw (header, sections, id-is, severity-is, at-is, len-is) refl

module _ (v : RecordView) (id : ℕ) (kind section rest : List ℕ) (kind_len : length kind ≡ 16) (small : length section < 2 ^ 31) (id_fits : id < 2 ^ 64) (at_fits : v.kept.at < 2 ^ 64) where
  abbrev bytes : List ℕ
  bytes = record_of_section v id kind section ++ rest

  header_widths : HaveWidths (header_fields v id (200 + length section))
  header_widths = (refl, (refl, (refl, tt)))

  descriptor_widths : HaveWidths (descriptor_fields v kind (length section))
  descriptor_widths = (kind_len, (refl, tt))

  header : LiesAt bytes 0 128 (header_fields v id (200 + length section)) (section_descriptor v kind (length section) ++ (section ++ rest))
  header =
      lies_in_front bytes 128 (header_fields v id (200 + length section)) (section_descriptor v kind (length section) ++ (section ++ rest)) refl header_widths
      (append_assoc (record_header v id (200 + length section)) (section_descriptor v kind (length section) ++ section) rest
      ∙ ap (λ (xs : List ℕ). record_header v id (200 + length section) ++ xs) (append_assoc (section_descriptor v kind (length section)) section rest))

  descriptor_lies : LiesAt bytes 128 72 (descriptor_fields v kind (length section)) (section ++ rest)
  descriptor_lies = lies_behind 72 (descriptor_fields v kind (length section)) (section ++ rest) header refl descriptor_widths

  header_number : (k : ℕ) (slot : Slot) (value : ℕ) → slice_get (header_fields v id (200 + length section)) k ≡ Some (number_field slot value) → value < 256 ^ slot.width → number_in slot 0 bytes ≡ value
  header_number k slot value is fits = number_back k slot value header is fits

  descriptor_number : (k : ℕ) (slot : Slot) (value : ℕ) → slice_get (descriptor_fields v kind (length section)) k ≡ Some (number_field slot value) → value < 256 ^ slot.width → number_in slot 128 bytes ≡ value
  descriptor_number k slot value is fits = number_back k slot value descriptor_lies is fits

  descriptor_bytes : (k : ℕ) (slot : Slot) (own : List ℕ) → slice_get (descriptor_fields v kind (length section)) k ≡ Some (bytes_field slot own) → bytes_in slot 128 bytes ≡ own
  descriptor_bytes k slot own is = bytes_back k slot own descriptor_lies is

  starts : signature_start bytes ≡ signature_start (codes "CPER")
  starts = bytes_as_number 0 slots.SIGNATURE_START (codes "CPER") header refl refl

  section_is : section_at bytes 128 ≡ record { kind = kind; start = 200; length = length section; severity = severity_of v.kept.class; fru = Some (fru_text v) }
  unfolding section_in
  section_is =
      let start = descriptor_number 0 descriptor.SECTION_OFFSET 200 refl (omega arith) in
      let own = descriptor_number 1 descriptor.SECTION_LENGTH (length section) refl (omega (arith, small)) in
      let valid = descriptor_number 3 descriptor.VALIDATION_BITS 2 refl (omega arith) in
      let kind-is = descriptor_bytes 5 descriptor.SECTION_TYPE kind refl in
      let severity = descriptor_number 6 descriptor.SECTION_SEVERITY (severity_of v.kept.class) refl (omega (arith, severity_small v.kept.class)) in
      let fru = descriptor_bytes 7 descriptor.FRU_TEXT (fru_text v) refl in
      rw (start, own, valid, kind-is, severity, fru) refl

  in_place : is_in_place bytes 0 ≡ true
  in_place =
      let one = header_number 3 slots.SECTION_COUNT 1 refl (omega arith) in
      let end = header_number 5 slots.RECORD_LENGTH (200 + length section) refl (omega (arith, small)) in
      let start = descriptor_number 0 descriptor.SECTION_OFFSET 200 refl (omega arith) in
      let own = descriptor_number 1 descriptor.SECTION_LENGTH (length section) refl (omega (arith, small)) in
      let whole : 200 + length section ≤ 200 + length section = omega arith in
      rw (one, start, own, end, le-leb _ _ whole) refl

  record_back : record_of bytes ≡ Ok (cper_with v id kind (length section))
  record_back =
      let mark = header_number 2 slots.SIGNATURE_END end_mark refl (omega arith) in
      let one = header_number 3 slots.SECTION_COUNT 1 refl (omega arith) in
      let severity = header_number 4 slots.ERROR_SEVERITY (severity_of v.kept.class) refl (omega (arith, severity_small v.kept.class)) in
      let end = header_number 5 slots.RECORD_LENGTH (200 + length section) refl (omega (arith, small)) in
      let id-is = header_number 8 slots.RECORD_ID id refl id_fits in
      let at-is = header_number 9 slots.PERSISTENCE v.kept.at refl at_fits in
      let header_len : length (record_header v id (200 + length section)) ≡ 128 = length_laid_out 128 (header_fields v id (200 + length section)) refl header_widths in
      let descriptor_len : length (section_descriptor v kind (length section)) ≡ 72 = length_laid_out 72 (descriptor_fields v kind (length section)) refl descriptor_widths in
      let whole : 200 + length section ≤ length bytes =
      omega (
        arith,
        header_len,
        descriptor_len,
        length-append (record_of_section v id kind section) rest,
        length-append (record_header v id (200 + length section)) (section_descriptor v kind (length section) ++ section),
        length-append (section_descriptor v kind (length section)) section,
      ) in
      record_read bytes id (severity_of v.kept.class) v.kept.at (200 + length section) _ (header_read bytes (length section) whole starts mark end one) (one_section bytes _ one in_place section_is)
      id-is severity at-is end

kind_length : (v : RecordView) → length (section_type v) ≡ 16
kind_length v = by_bank (nat_eq v.kept.bank 0) refl where
  by_bank : (t : Bool) → nat_eq v.kept.bank 0 ≡ t → length (section_type v) ≡ 16
  by_bank true e = rw e refl
  by_bank false e = rw e refl

section_small : (v : RecordView) → length (section_bytes v) < 2 ^ 31
section_small v = by_bank (nat_eq v.kept.bank 0) (nat_eq v.kept.bank 2) refl refl where
  by_bank : (t u : Bool) → nat_eq v.kept.bank 0 ≡ t → nat_eq v.kept.bank 2 ≡ u → length (section_bytes v) < 2 ^ 31
  by_bank true u e other = rw e (omega (arith, length_laid_out 80 (memory_fields v) refl tt))
  by_bank false true e other = rw (e, other) (omega (arith, length_laid_out 192 (hart_fields v) refl tt))
  by_bank false false e other = rw (e, other) (omega (arith, length_laid_out 192 (cache_fields v) refl tt))

-- the record of a view is read again
pub written_back : (v : RecordView) (id : ℕ) (rest : List ℕ) → id < 2 ^ 64 → v.kept.at < 2 ^ 64 → record_of (record_bytes v id ++ rest) ≡ Ok (cper_of v id)
written_back v id rest id_fits at_fits = record_back v id (section_type v) (section_bytes v) rest (kind_length v) (section_small v) id_fits at_fits

-- the record of a view, by its bank
pub memory_record : (v : RecordView) (id : ℕ) → v.kept.bank ≡ 0 → record_of_section v id MEMORY_SECTION (memory_section v) ≡ record_bytes v id
memory_record v id memory = rw memory refl

pub processor_record : (v : RecordView) (id : ℕ) → (v.kept.bank ≡ 0 → ⊥) → record_of_section v id PROCESSOR_SECTION (processor_section v) ≡ record_bytes v id
processor_record v id other = rw (ne_eqb v.kept.bank 0 other) refl
