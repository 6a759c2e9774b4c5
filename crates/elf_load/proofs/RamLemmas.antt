-- Writing a byte into the word that holds it.
use Rattle.std.proofs.Common.{◌≡◌, ◌≢◌, ℕ, suc, zero, ◌+◌, ◌-◌, ◌*◌, ◌/◌, ◌%◌, ◌<◌, ◌≤◌, ◌⊎◌, inl, inr, Bool, true, false, cond, ◌==◌, List, length, get_or, take, drop, nat_lt, ◌&&◌, refl, ap, sym, ◌∙◌, arith, add-one}
use Rattle.std.proofs.Math.ListN.{set, length-set}
use Rattle.std.proofs.lemmas.List.{get_or-set_same, get_or-take, get_or-drop}
use Rattle.std.proofs.lemmas.Grind.{common_steps}
use Rattle.std.proofs.lemmas.Nat.{le_bytes_8}
use Rattle.std.specs.Int.{to_le_bytes, from_le_bytes, w64}
use Rattle.ras_bits.specs.Map.{word_address}
use Rattle.ras_bits.specs.declared.map.TheConstants.{RAM_START}
use Rattle.elf_load.specs.Memory.{is_within, segment_byte, with_segment, segments_loaded, HoldsBytes, SegmentFits}
use Rattle.elf_load.specs.Rules.{is_at_fault}
use Rattle.elf_load.specs.declared.rules.Sought.TheVariants as sought
use Rattle.elf_load.specs.Bytes.{with_byte, with_part, IsWordAt}
use Rattle.elf_load.specs.Headers.{program_header, is_load}
use Rattle.elf_load.specs.declared.headers.ProgramHeader.{ProgramHeader}

pub same_or_not : (m n : ℕ) → (((m == n) ≡ true) × (m ≡ n)) ⊎ (((m == n) ≡ false) × (m ≢ n))
same_or_not m n = by_test (m == n) refl where
  equal : (m n : ℕ) → (m == n) ≡ true → m ≡ n
  equal m n e = grind (arith, common_steps)

  unequal : (m n : ℕ) → (m == n) ≡ false → m ≢ n
  unequal m n e = grind (arith, common_steps)

  by_test : (b : Bool) → (m == n) ≡ b → (((m == n) ≡ true) × (m ≡ n)) ⊎ (((m == n) ≡ false) × (m ≢ n))
  by_test true e = inl (e, equal m n e)
  by_test false e = inr (e, unequal m n e)

byte_here : (memory : ℕ → ℕ) (at byte address : ℕ) → address ≡ at → with_byte at byte memory address ≡ byte
byte_here memory at byte address h = grind (arith, common_steps)

byte_elsewhere : (memory : ℕ → ℕ) (at byte address : ℕ) → address ≢ at → with_byte at byte memory address ≡ memory address
byte_elsewhere memory at byte address h = grind (arith, common_steps)

set_same : (xs : List ℕ) (i j x : ℕ) → j ≡ i → i < length xs → get_or (set xs i x) j 0 ≡ x
set_same xs i j x e h = rw e (get_or-set_same xs i x 0 h)

set_other : (xs : List ℕ) (i j x : ℕ) → j ≢ i → get_or (set xs i x) j 0 ≡ get_or xs j 0
set_other xs i j x h = grind (arith, common_steps)

pub put_holds : (words : List ℕ) (memory : ℕ → ℕ) (at byte new : ℕ) → at < 8 * length words
    → to_le_bytes w64 new ≡ set (to_le_bytes w64 (get_or words (at / 8) 0)) (at % 8) byte
    → HoldsBytes words memory → HoldsBytes (set words (at / 8) new) (with_byte (RAM_START + at) byte memory)
put_holds words memory at byte new inside bytes held = record {
  at = λ w j w_inside small.
      let kept : length (set words (at / 8) new) ≡ length words = grind (arith, common_steps) in
      at_word w j (omega arith) small (same_or_not w (at / 8));
} where
  at_byte : (w j : ℕ) → w < length words → j < 8 → w ≡ at / 8 → (((j == at % 8) ≡ true) × (j ≡ at % 8)) ⊎ (((j == at % 8) ≡ false) × (j ≢ at % 8))
      → get_or (to_le_bytes w64 new) j 0 ≡ with_byte (RAM_START + at) byte memory (word_address w + j)
  at_byte w j w_inside small here (inl same) =
      ap (λ bs. get_or bs j 0) bytes ∙ set_same (to_le_bytes w64 (get_or words (at / 8) 0)) (at % 8) j byte same.1 (omega arith)
      ∙ sym (byte_here memory (RAM_START + at) byte (word_address w + j) (omega (arith, same.1)))
  at_byte w j w_inside small here (inr other) =
      ap (λ bs. get_or bs j 0) bytes ∙ set_other (to_le_bytes w64 (get_or words (at / 8) 0)) (at % 8) j byte other.1
      ∙ ap (λ k. get_or (to_le_bytes w64 (get_or words k 0)) j 0) (sym here) ∙ held.at w j w_inside small
      ∙ sym (byte_elsewhere memory (RAM_START + at) byte (word_address w + j) (omega (arith, other.1)))

  at_word : (w j : ℕ) → w < length words → j < 8 → (((w == at / 8) ≡ true) × (w ≡ at / 8)) ⊎ (((w == at / 8) ≡ false) × (w ≢ at / 8))
      → get_or (to_le_bytes w64 (get_or (set words (at / 8) new) w 0)) j 0 ≡ with_byte (RAM_START + at) byte memory (word_address w + j)
  at_word w j w_inside small (inl same) =
      ap (λ v. get_or (to_le_bytes w64 v) j 0) (set_same words (at / 8) w new same.1 (omega arith))
      ∙ at_byte w j w_inside small same.1 (same_or_not j (at % 8))
  at_word w j w_inside small (inr other) =
      ap (λ v. get_or (to_le_bytes w64 v) j 0) (set_other words (at / 8) w new other.1) ∙ held.at w j w_inside small
      ∙ sym (byte_elsewhere memory (RAM_START + at) byte (word_address w + j) (omega (arith, other.1)))

le_small : (n j : ℕ) → get_or (to_le_bytes w64 n) j 0 < 256
le_small n zero = omega arith
le_small n (suc zero) = omega arith
le_small n (suc (suc zero)) = omega arith
le_small n (suc (suc (suc zero))) = omega arith
le_small n (suc (suc (suc (suc zero)))) = omega arith
le_small n (suc (suc (suc (suc (suc zero))))) = omega arith
le_small n (suc (suc (suc (suc (suc (suc zero)))))) = omega arith
le_small n (suc (suc (suc (suc (suc (suc (suc zero))))))) = omega arith
le_small n (suc (suc (suc (suc (suc (suc (suc (suc j)))))))) = omega arith

set_small : (xs : List ℕ) (i x : ℕ) → i < length xs → x < 256 → ((j : ℕ) → get_or xs j 0 < 256) → (j : ℕ) → get_or (set xs i x) j 0 < 256
set_small xs i x inside small all j = by_equality (same_or_not j i) where
  by_equality : (((j == i) ≡ true) × (j ≡ i)) ⊎ (((j == i) ≡ false) × (j ≢ i)) → get_or (set xs i x) j 0 < 256
  by_equality (inl same) = rw (set_same xs i j x same.1 inside) small
  by_equality (inr other) = rw (set_other xs i j x other.1) (all j)

-- the word that has these bytes, one of them new
pub new_bytes : (old : ℕ) (bytes : List ℕ) (i byte new : ℕ) → i < 8 → byte < 256 → bytes ≡ to_le_bytes w64 old → new ≡ from_le_bytes w64 (set bytes i byte)
    → to_le_bytes w64 new ≡ set (to_le_bytes w64 old) i byte
new_bytes old bytes i byte new inside small same e =
    le_bytes_8 (set (to_le_bytes w64 old) i byte) new (length-set (to_le_bytes w64 old) i byte) (set_small (to_le_bytes w64 old) i byte inside small (le_small old))
    (e ∙ ap (λ (bs : List ℕ). from_le_bytes w64 (set bs i byte)) same)

-- words hold whatever memory has the same bytes
pub holds_same : (words : List ℕ) (memory other : ℕ → ℕ) → ((address : ℕ) → memory address ≡ other address) → HoldsBytes words memory → HoldsBytes words other
holds_same words memory other same held = record { at = λ w j inside small. held.at w j inside small ∙ same (word_address w + j) }

-- nothing of a part was written
pub part_none : (part : List ℕ) (start : ℕ) (memory : ℕ → ℕ) (address : ℕ) → memory address ≡ with_part part start 0 memory address
part_none part start memory address = grind (arith, common_steps)

within_true : (start n address : ℕ) → start ≤ address → address < start + n → is_within start n address ≡ true
within_true start n address low high = grind (arith, common_steps)

within_more : (start n address : ℕ) → address ≢ start + n → is_within start n address ≡ is_within start (n + 1) address
within_more start n address other = grind (arith, common_steps)

in_part : (part : List ℕ) (start n i address : ℕ) (memory : ℕ → ℕ) → address ≡ start + i → i < n → with_part part start n memory address ≡ get_or part i 0
in_part part start n i address memory here small =
    ap (λ t. cond t (get_or part (address - start) 0) (memory address)) (within_true start n address (omega arith) (omega arith))
    ∙ ap (λ k. get_or part k 0) (let at : address - start ≡ i = omega arith in at)

outside_word : (start n address : ℕ) → (start + n ≤ address → start + (n + 8) ≤ address) → is_within start n address ≡ is_within start (n + 8) address
outside_word start n address other = grind (arith, common_steps)

-- a whole word of a part was written
pub put_word : (part words : List ℕ) (at n first word : ℕ) (memory : ℕ → ℕ) → at + n ≡ 8 * first → first < length words → IsWordAt part n word
    → HoldsBytes words (with_part part (RAM_START + at) n memory) → HoldsBytes (set words first word) (with_part part (RAM_START + at) (n + 8) memory)
put_word part words at n first word memory aligned inside is held = record {
  at = λ w j w_inside small.
      let kept : length (set words first word) ≡ length words = grind (arith, common_steps) in
      at_word w j (omega arith) small (same_or_not w first);
} where
  at_word : (w j : ℕ) → w < length words → j < 8 → (((w == first) ≡ true) × (w ≡ first)) ⊎ (((w == first) ≡ false) × (w ≢ first))
      → get_or (to_le_bytes w64 (get_or (set words first word) w 0)) j 0 ≡ with_part part (RAM_START + at) (n + 8) memory (word_address w + j)
  at_word w j w_inside small (inl same) =
      ap (λ v. get_or (to_le_bytes w64 v) j 0) (set_same words first w word same.1 inside)
      ∙ is.byte j small
      ∙ sym (in_part part (RAM_START + at) (n + 8) (n + j) (word_address w + j) memory (omega (arith, same.1)) (omega arith))
  at_word w j w_inside small (inr other) =
      ap (λ v. get_or (to_le_bytes w64 v) j 0) (set_other words first w word other.1)
      ∙ held.at w j w_inside small
      ∙ ap (λ t. cond t (get_or part (word_address w + j - (RAM_START + at)) 0) (memory (word_address w + j)))
      (outside_word (RAM_START + at) n (word_address w + j) (λ past. omega (arith, other.1)))

-- one more byte of a part was written
pub part_next : (part : List ℕ) (start n byte : ℕ) (memory : ℕ → ℕ) → byte ≡ get_or part n 0
    → (address : ℕ) → with_byte (start + n) byte (with_part part start n memory) address ≡ with_part part start (n + 1) memory address
part_next part start n byte memory is address = by_equality (same_or_not address (start + n)) where
  by_equality : (((address == start + n) ≡ true) × (address ≡ start + n)) ⊎ (((address == start + n) ≡ false) × (address ≢ start + n))
      → with_byte (start + n) byte (with_part part start n memory) address ≡ with_part part start (n + 1) memory address
  by_equality (inl here) =
      byte_here (with_part part start n memory) (start + n) byte address here.1
      ∙ is
      ∙ sym (in_part part start (n + 1) n address memory here.1 (omega arith))
  by_equality (inr other) =
      byte_elsewhere (with_part part start n memory) (start + n) byte address other.1
      ∙ ap (λ t. cond t (get_or part (address - start) 0) (memory address)) (within_more start n address other.1)

part_byte : (b : List ℕ) (h : ProgramHeader) (i : ℕ) → get_or (take h.p_filesz (drop h.p_offset b)) i 0 ≡ segment_byte b h i
part_byte b h i = by_test (nat_lt i h.p_filesz) refl where
  by_test : (t : Bool) → nat_lt i h.p_filesz ≡ t → get_or (take h.p_filesz (drop h.p_offset b)) i 0 ≡ cond t (get_or b (h.p_offset + i) 0) 0
  by_test true e =
      let small : i < h.p_filesz = grind (arith, common_steps) in
      get_or-take h.p_filesz (drop h.p_offset b) i 0 small ∙ get_or-drop h.p_offset b i 0
  by_test false e = grind (arith, common_steps)

-- a segment that fits starts in RAM
pub starts_in_ram : (b : List ℕ) (ram_words : ℕ) (h : ProgramHeader) → SegmentFits b ram_words h → is_load h ≡ true → h.p_memsz ≢ 0 → RAM_START + (h.p_paddr - RAM_START) ≡ h.p_paddr
starts_in_ram b ram_words h fits load some = low h.p_paddr (lowest (is_load h) load fits.inside) where
  low : (start : ℕ) → RAM_START ≤ start → RAM_START + (start - RAM_START) ≡ start
  low start h = omega arith

  lowest : (t : Bool) → t ≡ true → (t && is_at_fault b ram_words sought.Outside h) ≡ false → RAM_START ≤ h.p_paddr
  lowest t load e = grind (arith, common_steps)

-- a part is a segment
pub part_is_segment : (b : List ℕ) (h : ProgramHeader) (memory : ℕ → ℕ) → is_load h ≡ true
    → (address : ℕ) → with_part (take h.p_filesz (drop h.p_offset b)) h.p_paddr h.p_memsz memory address ≡ with_segment b h memory address
unfolding with_segment
part_is_segment b h memory load address =
    ap (λ byte. cond (is_within h.p_paddr h.p_memsz address) byte (memory address)) (part_byte b h (address - h.p_paddr))
    ∙ ap (λ t. cond (t && is_within h.p_paddr h.p_memsz address) (segment_byte b h (address - h.p_paddr)) (memory address)) (sym load)

-- one more segment was loaded
pub loaded_next : (b : List ℕ) (n : ℕ) → segments_loaded b (n + 1) ≡ with_segment b (program_header b n) (segments_loaded b n)
loaded_next b n = rw add-one refl
