-- The demo workload: a program that sweeps memory, and a script of random flips of the words that it sweeps.
use Rattle.std.specs.Prelude.{ℕ, zero, suc, ◌+◌, ◌*◌, ◌/◌, ◌%◌, ◌^◌, List, [], ◌∷◌, ◌++◌, codes, decimal}
use Rattle.std.specs.Int.{to_le_bytes, w32}
use Rattle.std.specs.List.{flat_map}
use Rattle.ras_bits.specs.Map.{word_address}
use Rattle.ras_numbers.specs.Numbers.{address_text}
use Rattle.ras_gen.specs.declared.demo.TheConstants.{FLIPS, STEPS, FIRST_WORD, WORDS, BITS}

-- The words of the program. It stores its own address into each of the words that it sweeps, adds them up, prints one
-- letter and shuts down.
abbrev pub program : List ℕ
program =
    0x00010417 ∷ 0x000084B7 ∷ 0x008484B3 ∷ 0x00040293 ∷ 0x0052B023 ∷ 0x00828293 ∷ 0xFE929CE3 ∷ 0x00040293
    ∷ 0x00000313 ∷ 0x0002B383 ∷ 0x00730333 ∷ 0x00828293 ∷ 0xFE929AE3 ∷ 0x00F37513 ∷ 0x04150513 ∷ 0x00100893
    ∷ 0x00000073 ∷ 0x00800893 ∷ 0x00000073 ∷ []

-- the image: the words' bytes, lowest byte first
unfoldable pub demo_image : List ℕ
demo_image = flat_map (to_le_bytes w32) program

-- the generator's next state: a linear congruential generator, modulo 2^64 (Knuth's MMIX)
abbrev pub next_state : ℕ → ℕ
next_state state = (state * 6364136223846793005 + 1442695040888963407) % 2 ^ 64

-- its state after so many draws
unfoldable pub state_after : ℕ → ℕ → ℕ
state_after seed zero = seed
state_after seed (suc draws) = next_state (state_after seed draws)

-- what a draw gives: the upper 31 bits of the state that it leaves
abbrev pub drawn : ℕ → ℕ → ℕ
drawn seed draw = state_after seed (draw + 1) / 2 ^ 33

-- a flip, as a line of a script
abbrev pub flip_text : ℕ → ℕ → ℕ → List ℕ
flip_text step w bit =
    codes "flip " ++ decimal step ++ codes " " ++ address_text (word_address w) ++ codes " " ++ decimal bit ++ codes "\n"

-- the step, the word and the bit of flip k, counted from 0: three draws in a row
abbrev pub flip_step : ℕ → ℕ → ℕ
flip_step seed k = drawn seed (3 * k) % STEPS

abbrev pub flip_word : ℕ → ℕ → ℕ
flip_word seed k = FIRST_WORD + drawn seed (3 * k + 1) % WORDS

abbrev pub flip_bit : ℕ → ℕ → ℕ
flip_bit seed k = drawn seed (3 * k + 2) % BITS

-- line k
unfoldable pub demo_line : ℕ → ℕ → List ℕ
demo_line seed k = flip_text (flip_step seed k) (flip_word seed k) (flip_bit seed k)

-- the first lines
unfoldable pub demo_lines : ℕ → ℕ → List ℕ
demo_lines seed zero = []
demo_lines seed (suc k) = demo_lines seed k ++ demo_line seed k

-- the script
abbrev pub demo_script : ℕ → List ℕ
demo_script seed = demo_lines seed FLIPS
