-- A console write takes the bytes of RAM from its address on.
use Rattle.std.specs.Prelude.{◌≡◌, ℕ, zero, suc, ◌+◌, ◌-◌, ◌*◌, ◌/◌, ◌%◌, ◌≤◌, ◌<◌, ◌⊎◌, min, List, [], ◌++◌, length, take, drop, slice_index}
use Rattle.std.specs.Int.{w64, to_le_bytes}
use Rattle.std.proofs.Common.{refl, sym, ap, subst, inl, inr, ◌∙◌, arith, append-nil, append_assoc}
use Rattle.std.proofs.lemmas.Bool.{cases_lt}
use Rattle.std.proofs.lemmas.List.{get_or_append_left, get_or-append_right, get_or-take, get_or-drop, length-append, length-take, length-drop}
use Rattle.ras_bits.specs.Map.{word_at}
use Rattle.ras_bits.specs.declared.map.TheConstants.{RAM_START}
use Rattle.poison_mem.specs.Asking.{Asking, Answer, Ask, ◌>>=◌}
use Rattle.rv64_hart.specs.State.{ArchitecturalState}
use Rattle.rv64_hart.specs.Answers.{answered}
use Rattle.rv64_hart.specs.Outcome.{writing}
use Rattle.rv64_hart.specs.ConsoleCalls.{words_touched, bytes_asked, bytes_written}
use Rattle.rv64_hart.specs.RamBytes.{answered_by, WritesRam}
use Rattle.rv64_hart.specs.WithinLaws.{words_touched_some}

answered_bind : {X Y : Type 0} (ram : List ℕ) (m : Asking X) (f : X → Asking Y) → answered_by ram (m >>= f) ≡ answered_by ram (f (answered_by ram m))
answered_bind ram (Answer x) f = refl
answered_bind ram (Ask w use_kind go_on) f = answered_bind ram (go_on (slice_index ram w)) f

-- the bytes of n words from word w on
abbrev word_bytes : List ℕ → ℕ → ℕ → List ℕ
word_bytes ram w zero = []
word_bytes ram w (suc n) = to_le_bytes w64 (slice_index ram w) ++ word_bytes ram (w + 1) n

asked_bytes : (ram bytes : List ℕ) (w n : ℕ) → answered_by ram (bytes_asked bytes w n) ≡ bytes ++ word_bytes ram w n
unfolding bytes_asked
asked_bytes ram bytes w zero = sym (append-nil bytes)
asked_bytes ram bytes w (suc n) =
    asked_bytes ram (bytes ++ to_le_bytes w64 (slice_index ram w)) (w + 1) n
    ∙ append_assoc bytes (to_le_bytes w64 (slice_index ram w)) (word_bytes ram (w + 1) n)

eight : (x : ℕ) → length (to_le_bytes w64 x) ≡ 8
eight x = refl

word_bytes_length : (ram : List ℕ) (w n : ℕ) → length (word_bytes ram w n) ≡ 8 * n
word_bytes_length ram w zero = refl
word_bytes_length ram w (suc n) =
    let rest : length (word_bytes ram (w + 1) n) ≡ 8 * n = word_bytes_length ram (w + 1) n in
    let both : length (to_le_bytes w64 (slice_index ram w) ++ word_bytes ram (w + 1) n) ≡ length (to_le_bytes w64 (slice_index ram w)) + length (word_bytes ram (w + 1) n) =
    length-append (to_le_bytes w64 (slice_index ram w)) (word_bytes ram (w + 1) n) in
    let one : length (to_le_bytes w64 (slice_index ram w)) ≡ 8 = eight (slice_index ram w) in
    omega arith

word_byte : (ram : List ℕ) (w n j : ℕ) → j < 8 * n
    → slice_index (word_bytes ram w n) j ≡ slice_index (to_le_bytes w64 (slice_index ram (w + j / 8))) (j % 8)
word_byte ram w zero j within = absurd (omega arith)
word_byte ram w (suc n) j within = by_place (λ k below. word_byte ram (w + 1) n k below) (cases_lt j 8)
  where
    first : List ℕ
    first = to_le_bytes w64 (slice_index ram w)

    by_place : ((k : ℕ) → k < 8 * n → slice_index (word_bytes ram (w + 1) n) k ≡ slice_index (to_le_bytes w64 (slice_index ram (w + 1 + k / 8))) (k % 8))
        → (j < 8) ⊎ (8 ≤ j) → slice_index (word_bytes ram w (suc n)) j ≡ slice_index (to_le_bytes w64 (slice_index ram (w + j / 8))) (j % 8)
    by_place rest (inl low) =
        let same_word : w ≡ w + j / 8 = omega arith in
        let same_byte : j ≡ j % 8 = omega arith in
        get_or_append_left first (word_bytes ram (w + 1) n) 0 j low
        ∙ ap (λ v. slice_index (to_le_bytes w64 (slice_index ram v)) j) same_word
        ∙ ap (slice_index (to_le_bytes w64 (slice_index ram (w + j / 8)))) same_byte
    by_place rest (inr high) =
        let next_word : w + 1 + (j - 8) / 8 ≡ w + j / 8 = omega arith in
        let same_byte : (j - 8) % 8 ≡ j % 8 = omega arith in
        get_or-append_right first (word_bytes ram (w + 1) n) 8 j 0 refl high
        ∙ rest (j - 8) (omega arith)
        ∙ ap (λ v. slice_index (to_le_bytes w64 (slice_index ram v)) ((j - 8) % 8)) next_word
        ∙ ap (slice_index (to_le_bytes w64 (slice_index ram (w + j / 8)))) same_byte

pub touched_all : (address n i : ℕ) → i < n → address % 8 + i < 8 * words_touched address n
touched_all address zero i within = absurd (omega arith)
touched_all address (suc n) i within =
    let count : words_touched address (suc n) ≡ (address % 8 + suc n + 7) / 8 = words_touched_some address n in
    omega arith

touched_length : (address n : ℕ) → n ≤ 8 * words_touched address n - address % 8
touched_length address zero = omega arith
touched_length address (suc n) =
    let count : words_touched address (suc n) ≡ (address % 8 + suc n + 7) / 8 = words_touched_some address n in
    omega arith

-- a console write of bytes in RAM writes these bytes
pub writes_ram : (ram : List ℕ) (h : ArchitecturalState) (address n : ℕ) → RAM_START ≤ address
    → WritesRam ram address n (answered_by ram (bytes_written h address n))
unfolding bytes_written
writes_ram ram h address n starts =
    subst (WritesRam ram address n)
    (sym (answered_bind ram (bytes_asked [] (word_at address) (words_touched address n)) (λ bytes. writing (answered h n) (take n (drop (address % 8) bytes)))
    ∙ ap (λ bytes. answered_by ram (writing (answered h n) (take n (drop (address % 8) bytes)))) all))
    (record {
      count =
          let taken : length (take n (drop (address % 8) words)) ≡ min n (length (drop (address % 8) words)) = length-take n (drop (address % 8) words) in
          let left : length (drop (address % 8) words) ≡ length words - address % 8 = length-drop (address % 8) words in
          let whole : length words ≡ 8 * words_touched address n = word_bytes_length ram (word_at address) (words_touched address n) in
          let enough : n ≤ 8 * words_touched address n - address % 8 = touched_length address n in
          omega arith;
      each = λ i within.
          get_or-take n (drop (address % 8) words) i 0 within
          ∙ get_or-drop (address % 8) words i 0
          ∙ word_byte ram (word_at address) (words_touched address n) (address % 8 + i) (touched_all address n i within)
          ∙ ap (λ w. slice_index (to_le_bytes w64 (slice_index ram w)) ((address % 8 + i) % 8)) (same_word i)
          ∙ ap (slice_index (to_le_bytes w64 (slice_index ram (word_at (address + i))))) (same_byte i);
    })
  where
    words : List ℕ
    words = word_bytes ram (word_at address) (words_touched address n)

    all : answered_by ram (bytes_asked [] (word_at address) (words_touched address n)) ≡ words
    all = asked_bytes ram [] (word_at address) (words_touched address n)

    same_word : (i : ℕ) → word_at address + (address % 8 + i) / 8 ≡ word_at (address + i)
    same_word i = omega arith

    same_byte : (i : ℕ) → (address % 8 + i) % 8 ≡ (address + i) % 8
    same_byte i = omega arith
