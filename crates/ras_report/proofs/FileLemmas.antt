-- Records of a file, written one by one.
use Rattle.std.proofs.Common.{◌≡◌, ℕ, zero, suc, ◌+◌, ◌-◌, ◌<◌, List, ◌++◌, length, false, Option, Some, sym, ap, ◌∙◌, append_assoc, arith}
use Rattle.std.specs.List.{flat_map, range_with_len, slice_get}
use Rattle.poison_mem.specs.declared.event.RecordView.{RecordView}
use Rattle.poison_mem.specs.declared.event.Class.TheVariants.{Corrected}
use Rattle.cper_sections.specs.Record.{record_bytes}
use Rattle.ras_report.specs.Records.{record_number, record_of}

-- what stands in the place of a view that isn't there
abbrev pub no_view : RecordView
no_view = record {
  kept = record { bank = 0; rec = 0; class = Corrected; pri = 0; code = 0; scrub = false; addr = 0; info = 0; suppl = 0; at = 0 };
  ce = false;
  ued = false;
  uec = false;
  mo = false;
  cec = 0;
  ceco = false;
}

-- the records of so many views, from number i on
abbrev pub records_from : List RecordView → ℕ → ℕ → List ℕ
records_from views i left = flat_map (record_number views) (range_with_len i left)

one_less : (views : List RecordView) (i left : ℕ) (v : RecordView) (b : List ℕ) → 0 < left → slice_get views i ≡ Some v
    → (b ++ record_bytes v (i + 1)) ++ records_from views (i + 1) (left - 1) ≡ b ++ records_from views i left
one_less views i zero v b some is = absurd (omega arith)
one_less views i (suc left) v b some is =
    let less : suc left - 1 ≡ left = omega arith in
    rw less
    (append_assoc b (record_bytes v (i + 1)) (records_from views (i + 1) left)
    ∙ ap (λ (xs : List ℕ). b ++ (xs ++ records_from views (i + 1) left)) (ap (λ (o : Option RecordView). record_of o (i + 1)) (sym is)))

-- one record is written, and the next is left
pub record_written : (views : List RecordView) (i : ℕ) (v : RecordView) (b : List ℕ) → i < length views → slice_get views i ≡ Some v
    → (b ++ record_bytes v (i + 1)) ++ records_from views (i + 1) (length views - (i + 1)) ≡ b ++ records_from views i (length views - i)
record_written views i v b within is =
    let less : length views - (i + 1) ≡ length views - i - 1 = omega arith in
    ap (λ (n : ℕ). (b ++ record_bytes v (i + 1)) ++ records_from views (i + 1) n) less
    ∙ one_less views i (length views - i) v b (omega arith) is
