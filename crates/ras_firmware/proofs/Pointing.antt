-- What is read in firmware's memory of the tables and of the polled block's address.
use Rattle.std.proofs.Common.{◌≡◌, ℕ, ◌+◌, ◌-◌, List, [], ◌∷◌, ◌++◌, length, take, drop, Ok, refl, sym, ap, ◌∙◌, arith, append_assoc, length-append}
use Rattle.std.proofs.Math.Seq.{take-append_seam}
use Rattle.acpi_tables.proofs.ReadBack.{bert_back, hest_back}
use Rattle.acpi_tables.specs.Reading.{bert_of, hest_of}
use Rattle.acpi_tables.specs.Tables.{hest_bytes, bert_bytes, status_address}
use Rattle.acpi_tables.specs.Written.{bert_view, hest_view}
use Rattle.byte_fields.specs.Fields.{number_field, number_in, little, zeros, padded}
use Rattle.byte_fields.specs.FieldsLaws.{padded_before, number_back, length_laid_out}
use Rattle.ras_bits.specs.Fields.{number_at}
use Rattle.ras_bits.specs.declared.map.TheConstants.{FIRMWARE_START, BERT_START, POLLED_POINTER, POLLED_BLOCK_START, BOOT_REGION_START, BOOT_REGION_LENGTH}
use Rattle.ras_firmware.specs.Memory.{FirmMemoryState, hest_piece, bert_piece, pointer_piece, region_piece, polled_piece, memory_front, memory_bytes}
use Rattle.ras_firmware.specs.declared.memory.TheConstants.{POLLED_BLOCK_ADDRESS}
use Rattle.ras_firmware.proofs.Written.{behind}

grouped : (a b c d e : List ℕ) → (((a ++ b) ++ c) ++ d) ++ e ≡ a ++ (b ++ (c ++ (d ++ e)))
grouped a b c d e = simp append_assoc

hest_first : (rest : List ℕ) → hest_piece ++ rest ≡ hest_bytes ++ (zeros (BERT_START - FIRMWARE_START - length hest_bytes) ++ rest)
unfolding hest_piece
hest_first rest = padded_before (BERT_START - FIRMWARE_START) hest_bytes rest

bert_first : (rest : List ℕ) → bert_piece ++ rest ≡ bert_bytes ++ (zeros (POLLED_POINTER - BERT_START - length bert_bytes) ++ rest)
unfolding bert_piece
bert_first rest = padded_before (POLLED_POINTER - BERT_START) bert_bytes rest

length_hest : length hest_piece ≡ BERT_START - FIRMWARE_START
unfolding hest_piece little zeros padded
length_hest = refl

length_bert : length bert_piece ≡ POLLED_POINTER - BERT_START
unfolding bert_piece little zeros padded
length_bert = refl

-- what stands behind HEST, and behind BERT
abbrev after_bert : FirmMemoryState → List ℕ
after_bert m = pointer_piece ++ (region_piece m.region ++ polled_piece m.polled)

in_order : (m : FirmMemoryState) → memory_bytes m ≡ hest_piece ++ (bert_piece ++ after_bert m)
in_order m = grouped hest_piece bert_piece pointer_piece (region_piece m.region) (polled_piece m.polled)

address_read : (rest : List ℕ) → status_address (hest_bytes ++ rest) ≡ POLLED_POINTER
unfolding little zeros padded number_at
address_read rest = refl

pub hest_points : (m : FirmMemoryState) → status_address (memory_bytes m) ≡ POLLED_POINTER
hest_points m = ap status_address (in_order m ∙ hest_first (bert_piece ++ after_bert m)) ∙ address_read _

pub hest_read : (m : FirmMemoryState) → hest_of (memory_bytes m) ≡ Ok hest_view
hest_read m = ap hest_of (in_order m ∙ hest_first (bert_piece ++ after_bert m)) ∙ hest_back _

pub bert_points : (m : FirmMemoryState) → bert_of (drop (BERT_START - FIRMWARE_START) (memory_bytes m)) ≡ Ok bert_view
bert_points m =
    ap bert_of (behind (BERT_START - FIRMWARE_START) hest_piece (bert_piece ++ after_bert m) (memory_bytes m) (in_order m) length_hest ∙ bert_first (after_bert m))
    ∙ bert_back _

pointer_there : (m : FirmMemoryState) → drop (POLLED_POINTER - FIRMWARE_START) (memory_bytes m) ≡ after_bert m
pointer_there m =
    behind (POLLED_POINTER - FIRMWARE_START) (hest_piece ++ bert_piece) (after_bert m) (memory_bytes m)
    (in_order m ∙ sym_assoc) (length-append hest_piece bert_piece ∙ both)
  where
    sym_assoc : hest_piece ++ (bert_piece ++ after_bert m) ≡ (hest_piece ++ bert_piece) ++ after_bert m
    sym_assoc = rw append_assoc refl

    both : length hest_piece + length bert_piece ≡ POLLED_POINTER - FIRMWARE_START
    both = omega (arith, length_hest, length_bert)

length_pointer : length pointer_piece ≡ BOOT_REGION_START - POLLED_POINTER
unfolding pointer_piece
length_pointer = length_laid_out (BOOT_REGION_START - POLLED_POINTER) (number_field POLLED_BLOCK_ADDRESS POLLED_BLOCK_START ∷ []) refl tt

region_behind : (h b p r q : List ℕ) (x y z w : ℕ) → length h ≡ x → length b ≡ y → length p ≡ z → length (((h ++ b) ++ p) ++ r) ≡ (x + y + z) + w → take w (drop (x + y + z) ((((h ++ b) ++ p) ++ r) ++ q)) ≡ r
region_behind h b p r q x y z w hx by pz all =
    let front : length ((h ++ b) ++ p) ≡ x + y + z = omega (arith, length-append (h ++ b) p, length-append h b, hx, by, pz) in
    let own : length r ≡ w = omega (arith, length-append ((h ++ b) ++ p) r, front, all) in
    ap (take w) (behind (x + y + z) ((h ++ b) ++ p) (r ++ q) ((((h ++ b) ++ p) ++ r) ++ q) (append_assoc ((h ++ b) ++ p) r q) front)
    ∙ ap (λ n. take n (r ++ q)) (sym own) ∙ take-append_seam r q

-- the boot error region stands in its place
pub region_there : (m : FirmMemoryState) → length (memory_front m.region) ≡ POLLED_BLOCK_START - FIRMWARE_START → take BOOT_REGION_LENGTH (drop (BOOT_REGION_START - FIRMWARE_START) (memory_bytes m)) ≡ region_piece m.region
region_there m all =
    region_behind hest_piece bert_piece pointer_piece (region_piece m.region) (polled_piece m.polled) (BERT_START - FIRMWARE_START) (POLLED_POINTER - BERT_START) (BOOT_REGION_START - POLLED_POINTER) BOOT_REGION_LENGTH
    length_hest length_bert length_pointer all

pointer_read : (rest : List ℕ) (b : List ℕ) → drop (POLLED_POINTER - FIRMWARE_START) b ≡ pointer_piece ++ rest → number_in POLLED_BLOCK_ADDRESS (POLLED_POINTER - FIRMWARE_START) b ≡ POLLED_BLOCK_START
unfolding pointer_piece
pointer_read rest b there =
    number_back {b = b} {start = POLLED_POINTER - FIRMWARE_START} {n = BOOT_REGION_START - POLLED_POINTER} {fs = number_field POLLED_BLOCK_ADDRESS POLLED_BLOCK_START ∷ []} {rest = rest} 0 POLLED_BLOCK_ADDRESS POLLED_BLOCK_START
    (record { fit = refl; widths = tt; there = there }) refl (omega arith)

pub pointer_points : (m : FirmMemoryState) → number_in POLLED_BLOCK_ADDRESS (POLLED_POINTER - FIRMWARE_START) (memory_bytes m) ≡ POLLED_BLOCK_START
pointer_points m = pointer_read (region_piece m.region ++ polled_piece m.polled) (memory_bytes m) (pointer_there m)
