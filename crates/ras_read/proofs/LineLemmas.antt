-- Lines that are printed piece by piece.
use Rattle.std.proofs.Common.{◌≡◌, ℕ, ◌+◌, ◌-◌, List, ◌++◌, length, take, drop, codes, decimal, Option, Result, OnOk, Ok, Err, sym, ap, ◌∙◌, append_assoc, length-drop, arith}
use Rattle.std.proofs.Math.Seq.{take-length}
use Rattle.std.specs.Prelude.{if◌then◌else◌}
use Rattle.std.specs.Result.{is_ok}
use Rattle.byte_fields.specs.Fields.{bytes_at}
use Rattle.ras_numbers.specs.Numbers.{address_text}
use Rattle.acpi_tables.specs.declared.table_reading.BertView.{BertView}
use Rattle.ras_read.specs.Values.{address_shown, decimal_shown, fru_shown}
use Rattle.ras_read.specs.Sections.{memory_line, processor_line}
use Rattle.ras_read.specs.Firmware.{bert_line}
use Rattle.ras_read.specs.declared.memory.MemoryView.{MemoryView}
use Rattle.ras_read.specs.declared.processor.ProcessorView.{ProcessorView}

-- a label and a value are appended to a line
labelled : (out before now line label value : List ℕ) → before ≡ out ++ line → now ≡ before ++ (label ++ value) → now ≡ out ++ (line ++ label ++ value)
labelled out before now line label value e f =
    f ∙ ap (λ (xs : List ℕ). xs ++ (label ++ value)) e ∙ append_assoc out line (label ++ value)
    ∙ ap (λ (xs : List ℕ). out ++ xs) (sym (append_assoc line label value))

-- the last piece is appended to a line
ended : (out before now line last : List ℕ) → before ≡ out ++ line → now ≡ before ++ last → now ≡ out ++ (line ++ last)
ended out before now line last e f = f ∙ ap (λ (xs : List ℕ). xs ++ last) e ∙ append_assoc out line last

-- the last piece is appended where there was memory
pub on_ok : {X E Q : Type 0} (r : Result X E) (now one other : List ℕ) → now ≡ (if is_ok r then one else other) → (now ≡ one → Q) → OnOk r Q
on_ok (Ok x) now one other e f = f e
on_ok (Err x) now one other e f = tt

pub bert_printed : (out a b now : List ℕ) (v : BertView) (count : ℕ) → count ≡ v.length
    → a ≡ out ++ (codes "bert length " ++ decimal count)
    → b ≡ a ++ (codes " address " ++ address_text v.address)
    → now ≡ b ++ codes "\n"
    → now ≡ out ++ bert_line v
unfolding bert_line
bert_printed out a b now v count same one two end =
    let first = codes "bert length " ++ decimal v.length in
    let second = first ++ codes " address " ++ address_text v.address in
    let with_length = one ∙ ap (λ (n : ℕ). out ++ (codes "bert length " ++ decimal n)) same in
    ended out b now second (codes "\n") (labelled out a b first (codes " address ") (address_text v.address) with_length two) end

pub memory_printed : (out a b c now : List ℕ) (v : MemoryView) (fru : Option (List ℕ))
    → a ≡ out ++ (codes "  memory address " ++ address_shown v.address)
    → b ≡ a ++ (codes " kind " ++ decimal_shown v.kind)
    → c ≡ b ++ (codes " fru " ++ fru_shown fru)
    → now ≡ c ++ codes "\n"
    → now ≡ out ++ memory_line v fru
unfolding memory_line
memory_printed out a b c now v fru one two three end =
    let first = codes "  memory address " ++ address_shown v.address in
    let second = first ++ codes " kind " ++ decimal_shown v.kind in
    let third = second ++ codes " fru " ++ fru_shown fru in
    let to_second = labelled out a b first (codes " kind ") (decimal_shown v.kind) one two in
    let to_third = labelled out b c second (codes " fru ") (fru_shown fru) to_second three in
    ended out c now third (codes "\n") to_third end

pub processor_printed : (out a b c d e f g now : List ℕ) (v : ProcessorView) (fru : Option (List ℕ))
    → a ≡ out ++ (codes "  processor kind " ++ decimal_shown v.kind)
    → b ≡ a ++ (codes " operation " ++ decimal_shown v.operation)
    → c ≡ b ++ (codes " level " ++ decimal_shown v.level)
    → d ≡ c ++ (codes " id " ++ decimal_shown v.id)
    → e ≡ d ++ (codes " target " ++ address_shown v.target)
    → f ≡ e ++ (codes " ip " ++ address_shown v.ip)
    → g ≡ f ++ (codes " fru " ++ fru_shown fru)
    → now ≡ g ++ codes "\n"
    → now ≡ out ++ processor_line v fru
unfolding processor_line
processor_printed out a b c d e f g now v fru one two three four five six seven end =
    let first = codes "  processor kind " ++ decimal_shown v.kind in
    let second = first ++ codes " operation " ++ decimal_shown v.operation in
    let third = second ++ codes " level " ++ decimal_shown v.level in
    let fourth = third ++ codes " id " ++ decimal_shown v.id in
    let fifth = fourth ++ codes " target " ++ address_shown v.target in
    let sixth = fifth ++ codes " ip " ++ address_shown v.ip in
    let seventh = sixth ++ codes " fru " ++ fru_shown fru in
    let to_second = labelled out a b first (codes " operation ") (decimal_shown v.operation) one two in
    let to_third = labelled out b c second (codes " level ") (decimal_shown v.level) to_second three in
    let to_fourth = labelled out c d third (codes " id ") (decimal_shown v.id) to_third four in
    let to_fifth = labelled out d e fourth (codes " target ") (address_shown v.target) to_fourth five in
    let to_sixth = labelled out e f fifth (codes " ip ") (address_shown v.ip) to_fifth six in
    let to_seventh = labelled out f g sixth (codes " fru ") (fru_shown fru) to_sixth seven in
    ended out g now seventh (codes "\n") to_seventh end

-- a range of so many bytes
pub range_at : (b : List ℕ) (n at : ℕ) → take (at + n - at) (drop at b) ≡ bytes_at n at b
unfolding bytes_at
range_at b n at = ap (λ (k : ℕ). take k (drop at b)) (let e : at + n - at ≡ n = omega arith in e)

-- all bytes from an offset on
pub rest_at : (b : List ℕ) (at : ℕ) → take (length b - at) (drop at b) ≡ drop at b
rest_at b at = ap (λ (n : ℕ). take n (drop at b)) (sym (length-drop at b)) ∙ take-length (drop at b)
