-- What was written is read again, whatever follows it; the fields of a block are, since those of every format stand at
-- their slots.
use Rattle.std.proofs.Common.{◌≡◌, ℕ, ◌+◌, ◌-◌, ◌*◌, ◌/◌, ◌%◌, ◌^◌, ◌<◌, ◌≤◌, Bool, true, false, ltb, List, [], ◌∷◌, ◌++◌, length, take, drop, Ok, refl, sym, ap, ◌∙◌, append_assoc, arith}
use Rattle.std.specs.Prelude.{if◌then◌else◌, sum, codes}
use Rattle.std.specs.List.{flat_map, AllByRecursion}
use Rattle.std.proofs.lemmas.Bool.{le-ltb, eq-eqb}
use Rattle.std.proofs.lemmas.List.Sums.{sum_by-cons}
use Rattle.std.proofs.lemmas.List.{length-append, drop-drop}
use Rattle.std.proofs.Math.Seq.{drop-append_seam}
use Rattle.std.specs.Int.{from_bool}
use Rattle.ras_bits.specs.Fields.{field, number_at}
use Rattle.ras_bits.specs.BitsLaws.{flag_small}
use Rattle.ras_bits.specs.declared.terms.SectionAt.{SectionAt}
use Rattle.byte_fields.specs.Fields.{little, zeros, padded, number_in, laid_out, HaveWidths}
use Rattle.byte_fields.specs.FieldsLaws.{LiesAt, lies_in_front, behind_lying, number_back, bytes_back, length_laid_out}
use Rattle.byte_fields.specs.Section.{section_in}
use Rattle.acpi_tables.specs.Tables.{hest_bytes, bert_bytes, least_hest, bert_length}
use Rattle.acpi_tables.specs.Blocks.{block_bytes, block_fields, block_status, worst_severity, uncorrected, corrected, count_of, data_length}
use Rattle.acpi_tables.specs.Entries.{entry_bytes, entry_fields, entry_header, entry_length, entry_header_length}
use Rattle.acpi_tables.specs.declared.blocks.TheConstants as block
use Rattle.acpi_tables.specs.declared.entries.TheConstants as entry
use Rattle.acpi_tables.specs.Reading.{table_of, signature_of, table_length, hest_of, bert_of, block_of, entries_in, entry_section, entry_section_length, entry_end, entry_start}
use Rattle.acpi_tables.specs.Written.{hest_view, bert_view, IsEntry, section_of, block_sections, block_view}
use Rattle.acpi_tables.specs.declared.entries.Entry.{Entry}
use Rattle.acpi_tables.proofs.TableLemmas.{hest_sums, bert_sums}
use Rattle.acpi_tables.proofs.BlockLemmas.{entries_from, entry_read, next_start}

-- ---- tables

table_read : (signature b : List ℕ) (least n : ℕ) → least ≤ length b → signature_of b ≡ signature_of signature → table_length b ≡ n → least ≤ n → n ≤ length b
    → sum (take n b) % 256 ≡ 0 → table_of signature least b ≡ Ok n
unfolding table_of
table_read signature b least n long same len low there sums =
    rw (le-ltb _ _ long, same, eq-eqb (signature_of signature) _ refl, len, le-ltb _ _ low, le-ltb _ _ there, sums) refl

bert_table : (rest : List ℕ) → table_of (codes "BERT") bert_length (bert_bytes ++ rest) ≡ Ok 48
unfolding little zeros padded number_at
bert_table rest =
    table_read (codes "BERT") (bert_bytes ++ rest) bert_length 48 (omega (arith, length-append bert_bytes rest)) refl refl (omega arith) (omega (arith, length-append bert_bytes rest)) bert_sums

pub bert_back : (rest : List ℕ) → bert_of (bert_bytes ++ rest) ≡ Ok bert_view
unfolding bert_of little zeros padded number_at
bert_back rest = rw (bert_table rest) refl

hest_table : (rest : List ℕ) → table_of (codes "HEST") least_hest (hest_bytes ++ rest) ≡ Ok 104
unfolding little zeros padded number_at
hest_table rest =
    table_read (codes "HEST") (hest_bytes ++ rest) least_hest 104 (omega (arith, length-append hest_bytes rest)) refl refl (omega arith) (omega (arith, length-append hest_bytes rest)) hest_sums

pub hest_back : (rest : List ℕ) → hest_of (hest_bytes ++ rest) ≡ Ok hest_view
unfolding hest_of little zeros padded number_at
hest_back rest = rw (hest_table rest) refl

-- ---- status blocks

entry_widths : (e : Entry) → IsEntry e → HaveWidths (entry_fields e)
entry_widths e is = (is.kind, (is.fru, tt))

entry_length-is : (e : Entry) → IsEntry e → length (entry_bytes e) ≡ entry_length e
entry_length-is e is = omega (arith, length_laid_out 72 (entry_fields e) refl (entry_widths e is), length-append (entry_header e) e.body.items)

entries_length : (entries : List Entry) → AllByRecursion IsEntry entries → length (flat_map entry_bytes entries) ≡ data_length entries
entries_length [] are = refl
entries_length (e ∷ entries) are =
    omega (arith, length-append (entry_bytes e) (flat_map entry_bytes entries), sum_by-cons entry_length e entries, entry_length-is e are.0, entries_length entries are.1)

-- an entry lies in bytes from an offset on
abbrev EntryAt : List ℕ → ℕ → Entry → List ℕ → Type 0
EntryAt b at e rest = LiesAt b at 72 (entry_fields e) (e.body.items ++ rest)

entry_lies : (b : List ℕ) (at : ℕ) (e : Entry) (rest : List ℕ) → IsEntry e → drop at b ≡ entry_bytes e ++ rest → EntryAt b at e rest
entry_lies b at e rest is there = record { fit = refl; widths = entry_widths e is; there = there ∙ append_assoc (entry_header e) e.body.items rest }

section_length-is : (b : List ℕ) (at : ℕ) (e : Entry) (rest : List ℕ) → IsEntry e → EntryAt b at e rest → entry_section_length b at ≡ length e.body.items
section_length-is b at e rest is lies = number_back 4 entry.ERROR_DATA_LENGTH (length e.body.items) lies refl (omega (arith, is.body))

section_is : (b : List ℕ) (at : ℕ) (e : Entry) (rest : List ℕ) → IsEntry e → EntryAt b at e rest → entry_section b at ≡ section_of at e
unfolding section_in
section_is b at e rest is lies =
    let kind = bytes_back 0 entry.SECTION_TYPE e.kind lies refl in
    let severity = number_back 1 entry.ERROR_SEVERITY e.severity lies refl (omega (arith, is.severity)) in
    let valid = number_back 3 entry.VALIDATION_BITS 2 lies refl (omega arith) in
    let fru = bytes_back 5 entry.FRU_TEXT e.fru lies refl in
    rw (kind, severity, valid, fru, section_length-is b at e rest is lies) refl

-- what lies behind an entry
behind_entry : (b : List ℕ) (at : ℕ) (e : Entry) (rest : List ℕ) → IsEntry e → EntryAt b at e rest → drop (at + entry_length e) b ≡ rest
behind_entry b at e rest is lies =
    ap (λ (n : ℕ). drop n b) (omega arith) ∙ sym (drop-drop (length e.body.items) (at + 72) b)
    ∙ ap (drop (length e.body.items)) (behind_lying lies) ∙ drop-append_seam e.body.items rest

entries_back : (entries : List Entry) (b : List ℕ) (end count at i : ℕ) (taken : List SectionAt) (rest : List ℕ) → drop at b ≡ flat_map entry_bytes entries ++ rest → AllByRecursion IsEntry entries
    → at + data_length entries ≡ end → at ≡ entry_start b i → i + length entries ≡ count
    → entries_from end b count taken i (length entries) ≡ Ok (record { items = taken ++ block_sections at entries })
entries_back [] b end count at i taken rest there are all place number =
    let same : count ≡ i = omega arith in
    let last : entry_start b count ≡ end = ap (entry_start b) same ∙ sym place ∙ omega arith in
    rw (eq-eqb _ _ last) refl
entries_back (e ∷ entries) b end count at i taken rest there are all place number =
    let behind = flat_map entry_bytes entries ++ rest in
    let sum : data_length (e ∷ entries) ≡ entry_length e + data_length entries = sum_by-cons entry_length e entries in
    let lies : EntryAt b at e behind = entry_lies b at e behind are.0 (there ∙ append_assoc (entry_bytes e) (flat_map entry_bytes entries) rest) in
    let len : entry_section_length b at ≡ length e.body.items = section_length-is b at e behind are.0 lies in
    let stop : entry_end b at ≡ at + entry_length e = ap (λ (n : ℕ). at + entry_header_length + n) len ∙ omega arith in
    let whole : entry_end b at ≤ end = omega arith in
    let left : drop (at + entry_length e) b ≡ flat_map entry_bytes entries ++ rest = behind_entry b at e behind are.0 lies in
    let less : length (e ∷ entries) - 1 ≡ length entries = omega arith in
    entry_read end b count taken i (length (e ∷ entries)) at (omega arith) place whole
    ∙ ap (entries_from end b count (taken ++ entry_section b at ∷ []) (i + 1)) less
    ∙ ap (λ (x : SectionAt). entries_from end b count (taken ++ x ∷ []) (i + 1) (length entries)) (section_is b at e behind are.0 lies)
    ∙ entries_back entries b end count (at + entry_length e) (i + 1) (taken ++ section_of at e ∷ []) rest left are.1 (omega arith) (sym stop ∙ next_start b i at place) (omega arith)
    ∙ ap (λ (xs : List SectionAt). Ok (record { items = xs })) (append_assoc taken (section_of at e ∷ []) (block_sections (at + entry_length e) entries))

worst_small : (fatal recoverable corrected : Bool) → (if fatal then 1 else if recoverable then 0 else if corrected then 2 else 0) < 4
worst_small true r c = omega arith
worst_small false true c = omega arith
worst_small false false true = omega arith
worst_small false false false = omega arith

status_small : (entries : List Entry) → length entries ≤ 5 → block_status entries < 2 ^ 32
status_small entries few =
    omega (arith, flag_small (ltb 0 (uncorrected entries)), flag_small (ltb 0 (corrected entries)), flag_small (ltb 1 (uncorrected entries)), flag_small (ltb 1 (corrected entries)))

count_in : (a b c d n : ℕ) → a < 2 → b < 2 → c < 2 → d < 2 → n ≤ 5 → (a + 2 * b + 4 * c + 8 * d + 16 * n) / 16 % 1024 ≡ n
count_in a b c d n h1 h2 h3 h4 few = omega arith

count_is : (entries : List Entry) → length entries ≤ 5 → field (block_status entries) 4 10 ≡ length entries
count_is entries few =
    count_in (from_bool (ltb 0 (uncorrected entries))) (from_bool (ltb 0 (corrected entries))) (from_bool (ltb 1 (uncorrected entries))) (from_bool (ltb 1 (corrected entries))) (length entries)
    (flag_small (ltb 0 (uncorrected entries))) (flag_small (ltb 0 (corrected entries))) (flag_small (ltb 1 (uncorrected entries))) (flag_small (ltb 1 (corrected entries))) few

block_read : (b : List ℕ) (status severity len count : ℕ) (sections : List SectionAt) → 20 ≤ length b → 20 + len ≤ length b → number_in block.BLOCK_STATUS 0 b ≡ status → number_in block.DATA_LENGTH 0 b ≡ len
    → number_in block.ERROR_SEVERITY 0 b ≡ severity → field status 4 10 ≡ count → count ≤ 16 → entries_in (20 + len) b count ≡ Ok (record { items = sections })
    → block_of b ≡ Ok (record { status = status; severity = severity; entries = record { items = sections } })
unfolding block_of
block_read b status severity len count sections header whole status-is len-is severity-is count-is few read =
    rw (le-ltb _ _ header, len-is, le-ltb _ _ whole, status-is, count-is, le-ltb _ _ few, read, severity-is) refl

pub block_back : (entries : List Entry) (rest : List ℕ) → length entries ≤ 5 → data_length entries < 2 ^ 32 → AllByRecursion IsEntry entries
    → block_of (block_bytes entries ++ rest) ≡ Ok (block_view entries)
block_back entries rest few small are =
    let fields = block_fields entries in
    let written = flat_map entry_bytes entries in
    let b = block_bytes entries ++ rest in
    let lies = lies_in_front b 20 fields (written ++ rest) refl tt (append_assoc (laid_out 20 fields) written rest) in
    let status = number_back 0 block.BLOCK_STATUS (block_status entries) lies refl (status_small entries few) in
    let len = number_back 1 block.DATA_LENGTH (data_length entries) lies refl (omega (arith, small)) in
    let worst = number_back 2 block.ERROR_SEVERITY (worst_severity entries) lies refl
    (let w = worst_small (ltb 0 (count_of 1 entries)) (ltb 0 (count_of 0 entries)) (ltb 0 (count_of 2 entries)) in omega (arith, w)) in
    let own : length (laid_out 20 fields) ≡ 20 = length_laid_out 20 fields refl tt in
    let whole : 20 + data_length entries ≤ length b =
    omega (arith, own, length-append (block_bytes entries) rest, length-append (laid_out 20 fields) written, entries_length entries are) in
    let header : 20 ≤ length b = omega arith in
    let sections = entries_back entries b (20 + data_length entries) (length entries) 20 0 [] rest (behind_lying lies) are refl refl (omega arith) in
    block_read b (block_status entries) (worst_severity entries) (data_length entries) (length entries) (block_sections 20 entries) header whole status len worst (count_is entries few) (omega arith) sections
