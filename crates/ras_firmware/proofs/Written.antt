-- What is written into firmware's memory, piece by piece.
use Rattle.std.proofs.Common.{◌≡◌, ℕ, ◌+◌, ◌-◌, ◌<◌, ◌≤◌, cond, List, [], ◌∷◌, ◌++◌, length, map, take, drop, get_or, replicate, Option, IfSome, Result, refl, sym, ap, ◌∙◌, arith, append_assoc, length-append}
use Rattle.std.specs.Prelude.{IsOk, is_ok}
use Rattle.std.specs.List.{AllByRecursion}
use Rattle.std.specs.Option.{option_to_list}
use Rattle.std.proofs.Math.Seq.{drop-append_seam, take-append_seam}
use Rattle.std.proofs.lemmas.List.{take_all, take_more, map-append}
use Rattle.byte_fields.specs.Fields.{padded, zeros}
use Rattle.acpi_tables.specs.declared.entries.Entry.{Entry}
use Rattle.poison_mem.specs.declared.event.RecordView.{RecordView}
use Rattle.acpi_tables.specs.Tables.{hest_bytes, bert_bytes}
use Rattle.poison_mem.specs.RecordView.{IsListedView}
use Rattle.ras_bits.specs.declared.map.TheConstants.{FIRMWARE_START, FIRMWARE_LENGTH, BERT_START, POLLED_POINTER, BOOT_REGION_START, BOOT_REGION_LENGTH, POLLED_BLOCK_START}
use Rattle.ras_firmware.specs.Memory.{FirmMemoryState, entry_of, views_block, hest_piece, bert_piece, pointer_piece, region_piece, polled_piece, memory_front, polled_after, with_polled, AreMemory}

-- a call that succeeds gives its first answer
pub succeeded : {A E : Type 0} (r : Result A E) (xs ys zs : List ℕ) → IsOk r → zs ≡ cond (is_ok r) xs ys → zs ≡ xs
succeeded r xs ys zs ok h = h ∙ ap (λ b. cond b xs ys) ok

-- bytes, and zeros up to so many behind what was there
pub pushed : (old bytes mid new : List ℕ) (count end len : ℕ) → mid ≡ old ++ bytes → new ≡ take end mid ++ replicate (end - len) 0 → len ≡ length mid → end ≡ length old + count → length bytes ≤ count
    → new ≡ old ++ padded count bytes
unfolding padded zeros
pushed old bytes mid new count end len is more at ends shorter =
    let all : length mid ≡ length old + length bytes = ap length is ∙ length-append old bytes in
    let left : end - len ≡ count - length bytes = omega (arith, all, at, ends, shorter) in
    more ∙ ap (λ n. take end mid ++ replicate n 0) left
    ∙ ap (λ l. l ++ replicate (count - length bytes) 0) (take_all end mid (omega (arith, all, ends, shorter)) ∙ is)
    ∙ append_assoc old bytes (replicate (count - length bytes) 0)

-- what stands behind so many bytes
pub behind : (n : ℕ) (front rest b : List ℕ) → b ≡ front ++ rest → length front ≡ n → drop n b ≡ rest
behind n front rest b is len = ap (drop n) is ∙ ap (λ m. drop m (front ++ rest)) (sym len) ∙ drop-append_seam front rest

-- the entry of one more view
pub mapped_more : (views : List RecordView) (i : ℕ) (d : RecordView) (xs ys : List Entry) (e : Entry) → i < length views → xs ≡ map entry_of (take i views) → e ≡ entry_of (get_or views i d) → ys ≡ xs ++ e ∷ []
    → ys ≡ map entry_of (take (i + 1) views)
mapped_more views i d xs ys e below is one more =
    more ∙ ap (λ l. l ++ e ∷ []) is ∙ ap (λ f. map entry_of (take i views) ++ f ∷ []) one
    ∙ sym (ap (map entry_of) (take_more views i d below) ∙ map-append entry_of (take i views) (get_or views i d ∷ []))

-- ---- the whole memory

pub front_written : (region : Option RecordView) (h b p r e0 e1 e2 e3 e4 : List ℕ) → e0 ≡ [] → h ≡ hest_bytes → e1 ≡ e0 ++ padded (BERT_START - FIRMWARE_START) h
    → b ≡ bert_bytes → e2 ≡ e1 ++ padded (POLLED_POINTER - BERT_START) b → padded (BOOT_REGION_START - POLLED_POINTER) p ≡ pointer_piece → e3 ≡ e2 ++ padded (BOOT_REGION_START - POLLED_POINTER) p
    → r ≡ views_block (option_to_list region) → e4 ≡ e3 ++ padded BOOT_REGION_LENGTH r → e4 ≡ memory_front region
unfolding hest_piece bert_piece region_piece
front_written region h b p r e0 e1 e2 e3 e4 none hest first bert second pointer third block fourth =
    let one : e1 ≡ hest_piece = first ∙ ap (λ l. l ++ padded (BERT_START - FIRMWARE_START) h) none ∙ ap (padded (BERT_START - FIRMWARE_START)) hest in
    let two : e2 ≡ hest_piece ++ bert_piece = second ∙ ap (λ l. l ++ padded (POLLED_POINTER - BERT_START) b) one ∙ ap (λ x. hest_piece ++ padded (POLLED_POINTER - BERT_START) x) bert in
    let three : e3 ≡ (hest_piece ++ bert_piece) ++ pointer_piece = third ∙ ap (λ l. l ++ padded (BOOT_REGION_START - POLLED_POINTER) p) two ∙ ap (λ x. (hest_piece ++ bert_piece) ++ x) pointer in
    fourth ∙ ap (λ l. l ++ padded BOOT_REGION_LENGTH r) three ∙ ap (λ x. ((hest_piece ++ bert_piece) ++ pointer_piece) ++ padded BOOT_REGION_LENGTH x) block

pub memory_written : (region : Option RecordView) (polled : List RecordView) (front bytes block : List ℕ) (capacity : ℕ) → front ≡ memory_front region → block ≡ views_block polled
    → bytes ≡ front ++ padded (FIRMWARE_LENGTH - (POLLED_BLOCK_START - FIRMWARE_START)) block → length front ≡ POLLED_BLOCK_START - FIRMWARE_START → length bytes ≡ FIRMWARE_LENGTH → FIRMWARE_LENGTH ≤ capacity
    → AllByRecursion IsListedView polled → IfSome region IsListedView → AreMemory bytes capacity (record { polled = polled; region = region })
unfolding polled_piece
memory_written region polled front bytes block capacity is shows written before all fits listed fatal = record {
  bytes_are = written ∙ ap (λ l. l ++ padded (FIRMWARE_LENGTH - (POLLED_BLOCK_START - FIRMWARE_START)) block) is
      ∙ ap (λ x. memory_front region ++ padded (FIRMWARE_LENGTH - (POLLED_BLOCK_START - FIRMWARE_START)) x) shows;
  front = sym (ap length is) ∙ before;
  count = all;
  room = fits;
  polled = listed;
  region = fatal;
}

-- what stands before so many bytes
pub before : (n : ℕ) (front rest b cut : List ℕ) → b ≡ front ++ rest → length front ≡ n → cut ≡ take n b → cut ≡ front
before n front rest b cut is len cuts = cuts ∙ ap (take n) is ∙ ap (λ m. take m (front ++ rest)) (sym len) ∙ take-append_seam front rest

-- views that there are, are shown
pub shown : (views copied old : List RecordView) (region : Option RecordView) (m : FirmMemoryState) → copied ≡ views → 0 < length views → (let inside : FirmMemoryState = record { polled = old; region = region } in inside) ≡ m
    → (let after : FirmMemoryState = record { polled = copied; region = region } in after) ≡ with_polled m views
shown views copied old region m same some is =
    ap (λ l. let after : FirmMemoryState = record { polled = l; region = region } in after) (same ∙ sym (taken views some))
    ∙ ap (λ (k : FirmMemoryState). with_polled k views) is
  where
    taken : (vs : List RecordView) → 0 < length vs → polled_after old vs ≡ vs
    taken [] h = absurd (omega arith)
    taken (v ∷ vs) h = refl
