-- Words that hold the bytes of memory are the words of that memory.
use Rattle.std.proofs.Common.{◌≡◌, ℕ, ◌+◌, ◌*◌, ◌<◌, ◌^◌, List, length, get_or, map, false, Err, lit<, refl, sym, ◌∙◌, ap, arith}
use Rattle.std.specs.Int.{to_le_bytes, from_le_bytes, w64}
use Rattle.std.specs.List.{range_with_len}
use Rattle.std.proofs.lemmas.Nat.{from_le_bytes-to_le_bytes_8}
use Rattle.std.proofs.lemmas.Grind.{same_number_lists}
use Rattle.std.proofs.lemmas.List.FromFn.{length-map-range_with_len, get_or-map-range_with_len}
use Rattle.ras_bits.specs.Map.{word_address}
use Rattle.elf_load.specs.Memory.{HoldsBytes}
use Rattle.elf_load.specs.Rules.{all_rules_kept}
use Rattle.elf_load.specs.declared.refusals.ElfRefused.{ElfRefused}
use Rattle.elf_load.specs.declared.refusals.ElfRefused.TheVariants as refused
use Rattle.elf_load.specs.Program.{word_in, image_words, image_of, AnswersOrNoMemory}

number_of : (b : List ℕ) (m0 m1 m2 m3 m4 m5 m6 m7 : ℕ) → get_or b 0 0 ≡ m0 → get_or b 1 0 ≡ m1 → get_or b 2 0 ≡ m2 → get_or b 3 0 ≡ m3
    → get_or b 4 0 ≡ m4 → get_or b 5 0 ≡ m5 → get_or b 6 0 ≡ m6 → get_or b 7 0 ≡ m7
    → from_le_bytes w64 b ≡ m0 + 256 * (m1 + 256 * (m2 + 256 * (m3 + 256 * (m4 + 256 * (m5 + 256 * (m6 + 256 * (m7 + 0)))))))
number_of b m0 m1 m2 m3 m4 m5 m6 m7 h0 h1 h2 h3 h4 h5 h6 h7 = omega arith

-- byte j of a word, at its address
byte_at : (words : List ℕ) (memory : ℕ → ℕ) (w j address : ℕ) → w < length words → HoldsBytes words memory → j < 8 → word_address w + j ≡ address
    → get_or (to_le_bytes w64 (get_or words w 0)) j 0 ≡ memory address
byte_at words memory w j address inside held small here = held.at w j inside small ∙ ap memory here

word_is : (words : List ℕ) (memory : ℕ → ℕ) (w : ℕ) → w < length words → get_or words w 0 < 2 ^ 64 → HoldsBytes words memory → get_or words w 0 ≡ word_in memory w
unfolding word_in
word_is words memory w inside fits held =
    sym (from_le_bytes-to_le_bytes_8 (get_or words w 0) fits)
    ∙ number_of (to_le_bytes w64 (get_or words w 0)) _ _ _ _ _ _ _ _
    (byte_at words memory w 0 _ inside held (lit< tt) (omega arith))
    (byte_at words memory w 1 _ inside held (lit< tt) (omega arith))
    (byte_at words memory w 2 _ inside held (lit< tt) (omega arith))
    (byte_at words memory w 3 _ inside held (lit< tt) (omega arith))
    (byte_at words memory w 4 _ inside held (lit< tt) (omega arith))
    (byte_at words memory w 5 _ inside held (lit< tt) (omega arith))
    (byte_at words memory w 6 _ inside held (lit< tt) (omega arith))
    (byte_at words memory w 7 _ inside held (lit< tt) (omega arith))

-- words that hold the bytes of memory are its words
pub words_are : (words : List ℕ) (memory : ℕ → ℕ) (n : ℕ) → length words ≡ n → ((k : ℕ) → get_or words k 0 < 2 ^ 64) → HoldsBytes words memory
    → words ≡ image_words memory n
unfolding image_words
words_are words memory n count fits held =
    same_number_lists words (map (word_in memory) (range_with_len 0 n)) (count ∙ sym (length-map-range_with_len (word_in memory) 0 n))
    (λ k inside. word_is words memory k inside (fits k) held ∙ sym (get_or-map-range_with_len (word_in memory) 0 n k k 0 (omega arith) (omega arith)))

-- the first rule that a file breaks is the answer
pub file_refused : (b : List ℕ) (ram_words : ℕ) (refusal : ElfRefused) → all_rules_kept b ram_words ≡ Err refusal → AnswersOrNoMemory (image_of false b ram_words) (Err refusal)
unfolding image_of
file_refused b ram_words refusal h = by_case refusal (rw h refl) where
  by_case : (refusal : ElfRefused) → image_of false b ram_words ≡ Err refusal → AnswersOrNoMemory (image_of false b ram_words) (Err refusal)
  by_case refused.NoMemory h = tt
  by_case refusal h = h
