-- Each rule of a word keeps what it stands for, and only a flip adds to the flips that it counts.
use Rattle.std.proofs.Common.{ℕ, ◌^◌, ◌+◌, ◌/◌, ◌%◌, ◌≡◌, ◌≤◌, ◌<◌, sym, refl, subst, Bool, true, false, not, ◌&&◌, eqb, arith}
use Rattle.std.specs.Prelude.{min, if◌then◌else◌}
use Rattle.std.proofs.lemmas.Bool.Decides.{nat_tests}
use Rattle.poison_mem.specs.declared.cell.Cell.{Cell}
use Rattle.poison_mem.specs.declared.cell.Cell.TheVariants.{Good, Poison}
use Rattle.poison_mem.specs.declared.cell.CellState.{CellState}
use Rattle.poison_mem.specs.declared.record_id.RecordId.{RecordId}
use Rattle.poison_mem.specs.declared.record_id.RecordId.TheVariants.{Scrub}
use Rattle.poison_mem.specs.Cells.{is_third}
use Rattle.poison_mem.specs.Flips.{Shows}
use Rattle.hsiao_code.specs.Code.{code_bits, fix, flip}
use Rattle.hsiao_code.specs.declared.codeword.Decoded.{Decoded}
use Rattle.hsiao_code.specs.declared.codeword.Decoded.TheVariants.{Clean, Fixed, Bad}
use Rattle.hsiao_code.specs.Near.{IsNear, DecodesTo, DecodesToOrBad}
use Rattle.hsiao_code.specs.NearLaws.{near_made, near_more, near_flip, near_one, near_two}
use Rattle.ecc_memory.specs.Word.{bits_of, codeword_of, read_as, word_read, word_put, word_struck, put_again, word_scrubbed}
use Rattle.ecc_memory.specs.Standing.{WordStandsAs, WordStands}

-- what a read can tell of a word that stands
record Readable (mark : Bool) (decoded : Decoded) (value flips count : ℕ) : Type 0 where
  poisoned : mark ≡ true → 2 ≤ flips
  counted : mark ≡ false → count ≤ flips
  small : mark ≡ false → value < 2 ^ 64
  fixed : mark ≡ false → count ≤ 1 → DecodesTo value decoded
  seen : mark ≡ false → DecodesToOrBad value decoded

readable : (mark : Bool) (value flips : ℕ) (s : CellState) → WordStandsAs mark value flips s → Readable mark (fix (bits_of s)) value flips s.count
readable true value flips s it = record { poisoned = λ _. it; counted = λ e. cc; small = λ e. cc; fixed = λ e _. cc; seen = λ e. cc }
readable false value flips s it = record {
  poisoned = λ e. cc;
  counted = λ _. it.1;
  small = λ _. it.2;
  fixed = λ _ few. near_one (bits_of s) value it.2 (near_more s.count 1 (bits_of s) value few it.3);
  seen = λ _. near_two (bits_of s) value it.2 (near_more s.count 2 (bits_of s) value it.0 it.3);
}

read_as-shows : (mark : Bool) (decoded : Decoded) (id : RecordId) (w value flips : ℕ) (s : CellState) → Readable mark decoded value flips s.count → Shows value flips (read_as mark decoded id w s).cell
read_as-shows true decoded id w value flips s it = it.poisoned refl
read_as-shows false (Clean v) id w value flips s it = let same : v ≡ value = it.seen refl in (same, let small = it.small refl in omega arith)
read_as-shows false (Fixed v bit) id w value flips s it = let same : v ≡ value = it.seen refl in (same, let small = it.small refl in omega arith)
read_as-shows false Bad id w value flips s it =
    let many : s.count ≤ 1 → ⊥ = it.fixed refl in
    let counted = it.counted refl in
    omega arith

read_as-keeps : (mark : Bool) (decoded : Decoded) (id : RecordId) (w value flips : ℕ) (s : CellState) → Readable mark decoded value flips s.count → WordStands value flips s → WordStands value flips (read_as mark decoded id w s).after
read_as-keeps true decoded id w value flips s it stood = stood
read_as-keeps false (Clean v) id w value flips s it stood = stood
read_as-keeps false (Fixed v bit) id w value flips s it stood = stood
read_as-keeps false Bad id w value flips s it stood =
    let many : s.count ≤ 1 → ⊥ = it.fixed refl in
    let counted = it.counted refl in
    omega arith

-- a word that stands for a value shows it when it is read, or poison after two flips
pub read-shows : (id : RecordId) (w value flips : ℕ) (s : CellState) → WordStands value flips s → Shows value flips (word_read id w s).cell
unfolding word_read
read-shows id w value flips s it = read_as-shows s.mark (fix (bits_of s)) id w value flips s (readable s.mark value flips s it)

-- a read keeps what it stands for
pub read-keeps : (id : RecordId) (w value flips : ℕ) (s : CellState) → WordStands value flips s → WordStands value flips (word_read id w s).after
unfolding word_read
read-keeps id w value flips s it = read_as-keeps s.mark (fix (bits_of s)) id w value flips s (readable s.mark value flips s it) it

-- a new codeword stands for its value with no flips
pub made-stands : (v flips : ℕ) → v < 2 ^ 64 → WordStands v flips (codeword_of v)
made-stands v flips small = (omega arith, omega arith, small, near_made v)

-- a put word stands for what the cell shows
pub put-stands : (value flips : ℕ) (s : CellState) (c : Cell) → Shows value flips c → WordStands value flips (word_put c s)
put-stands value flips s (Good v) shows = subst (λ n. WordStands n flips (codeword_of v)) shows.0 (made-stands v flips shows.1)
put-stands value flips s Poison shows = shows

-- the parts of 72 bits make them up
parts : (x : ℕ) → code_bits (x % 2 ^ 64) (x / 2 ^ 64) ≡ x
parts x = omega arith

struck_as-stands : (mark : Bool) (value flips bit : ℕ) (s : CellState) → s.mark ≡ mark → bit < 72 → (eqb s.count 2 && not mark) ≡ false → WordStandsAs mark value flips s → WordStandsAs mark value (flips + 1) (word_struck bit s)
unfolding word_struck
struck_as-stands true value flips bit s marked fits third it = omega arith
struck_as-stands false value flips bit s marked fits third it =
    let few : s.count ≤ 1 = let most = it.0 in grind (arith, nat_tests) in
    let counted : (if s.mark then s.count else min (s.count + 1) 3) ≡ s.count + 1 = rw marked (omega arith) in
    rw counted (
      omega arith,
      (let least = it.1 in omega arith),
      it.2,
      subst (λ x. IsNear (s.count + 1) x value) (sym (parts (flip (bits_of s) bit))) (near_flip s.count (bits_of s) value bit fits it.3),
    )

-- any flip but a third one adds one
pub struck-stands : (value flips bit : ℕ) (s : CellState) → bit < 72 → is_third s ≡ false → WordStands value flips s → WordStands value (flips + 1) (word_struck bit s)
unfolding word_struck
struck-stands value flips bit s fits third it = struck_as-stands s.mark value flips bit s refl fits third it

put_again-stands : (value flips : ℕ) (s : CellState) (c : Cell) → Shows value flips c → WordStands value flips s → WordStands value flips (put_again c s)
put_again-stands value flips s (Good v) shows it = put-stands value flips s (Good v) shows
put_again-stands value flips s Poison shows it = it

-- a scrub keeps what it stands for
pub scrub-stands : (w value flips : ℕ) (s : CellState) → WordStands value flips s → WordStands value flips (word_scrubbed w s).after
scrub-stands w value flips s it =
    put_again-stands value flips (word_read Scrub w s).after (word_read Scrub w s).cell (read-shows Scrub w value flips s it) (read-keeps Scrub w value flips s it)

same_as : (mark : Bool) (value other flips more : ℕ) (s : CellState) → other ≡ value → flips ≤ more → WordStandsAs mark value flips s → WordStandsAs mark other more s
same_as true value other flips more s same up it = omega arith
same_as false value other flips more s same up it =
    let counted = it.1 in
    (it.0, omega arith, (let small = it.2 in omega arith), subst (λ v. IsNear s.count (bits_of s) v) (sym same) it.3)

-- more flips may have come
pub stands-more : (value other flips more : ℕ) (s : CellState) → other ≡ value → flips ≤ more → WordStands value flips s → WordStands other more s
stands-more value other flips more s same up it = same_as s.mark value other flips more s same up it

-- ---- the flips that it counts

read_as-counts : (mark : Bool) (decoded : Decoded) (id : RecordId) (w : ℕ) (s : CellState) → (read_as mark decoded id w s).after.count ≡ s.count
read_as-counts true decoded id w s = refl
read_as-counts false (Clean v) id w s = refl
read_as-counts false (Fixed v bit) id w s = refl
read_as-counts false Bad id w s = refl

pub read-counts : (id : RecordId) (w : ℕ) (s : CellState) → (word_read id w s).after.count ≡ s.count
unfolding word_read
read-counts id w s = read_as-counts s.mark (fix (bits_of s)) id w s

pub put-counts : (c : Cell) (s : CellState) → (word_put c s).count ≡ 0
put-counts (Good v) s = refl
put-counts Poison s = refl

put_again-counts : (c : Cell) (s : CellState) → (put_again c s).count ≤ s.count
put_again-counts (Good v) s = omega arith
put_again-counts Poison s = omega arith

pub struck-counts : (bit : ℕ) (s : CellState) → (word_struck bit s).count ≤ s.count + 1
unfolding word_struck
struck-counts bit s = by_mark s.mark
  where
    by_mark : (mark : Bool) → (if mark then s.count else min (s.count + 1) 3) ≤ s.count + 1
    by_mark true = omega arith
    by_mark false = omega arith

pub scrubbed-counts : (w : ℕ) (s : CellState) → (word_scrubbed w s).after.count ≤ s.count
scrubbed-counts w s =
    let same = read-counts Scrub w s in
    let low = put_again-counts (word_read Scrub w s).cell (word_read Scrub w s).after in
    omega arith
