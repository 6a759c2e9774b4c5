-- A console read leaves its bytes in RAM from its address on, and all other bytes stay.
use Rattle.std.specs.Prelude.{◌≡◌, ℕ, zero, suc, ◌+◌, ◌-◌, ◌*◌, ◌/◌, ◌%◌, ◌^◌, ◌≤◌, ◌<◌, ◌⊎◌, ◌==◌, ◌≢◌, ◌&&◌, Bool, true, false, min, max, List, [], ◌∷◌, length, take, drop, slice_index, slice_set, bit_and, nat_le, nat_lt, if◌then◌else◌}
use Rattle.std.specs.Int.{w64, to_le_bytes, from_le_bytes}
use Rattle.std.proofs.Common.{refl, sym, ap, subst, inl, inr, ◌∙◌, arith}
use Rattle.std.proofs.lemmas.Bool.{cases_lt}
use Rattle.std.proofs.lemmas.Bool.Decides.{nat_tests}
use Rattle.std.proofs.lemmas.Grind.{get_or-set_at}
use Rattle.std.proofs.lemmas.List.{get_or-take, get_or-drop, get_or_past, get_or-set_other, length-set, length-take, length-drop}
use Rattle.std.proofs.lemmas.Nat.{le_bytes_8}
use Rattle.ras_bits.specs.Fields.{number_at}
use Rattle.ras_bits.specs.Map.{word_address, word_at}
use Rattle.ras_bits.specs.declared.map.TheConstants.{RAM_START}
use Rattle.poison_mem.specs.Merge.{byte_after, bytes_after, blended, merged_value}
use Rattle.rv64_hart.specs.Access.{byte_mask, placed}
use Rattle.rv64_hart.specs.State.{ArchitecturalState}
use Rattle.rv64_hart.specs.ConsoleCalls.{words_touched, part_of, parts_stored, span_stored, bytes_read}
use Rattle.rv64_hart.specs.RamBytes.{answered_by, byte_at, ram_after, FillsRam}
use Rattle.rv64_hart.specs.RamBytesLaws.{touched_all}
use Rattle.rv64_hart.specs.WithinLaws.{words_touched_some, words_fit, touched_first, taken_is_few}
use Rattle.rv64_hart.specs.Program.{IsTouched}

-- ---- bytes of a word

-- byte k of a word
le_byte : (x k : ℕ) → k < 8 → slice_index (to_le_bytes w64 x) k ≡ x / 256 ^ k % 256
le_byte x zero low = omega arith
le_byte x (suc zero) low = refl
le_byte x (suc (suc zero)) low = refl
le_byte x (suc (suc (suc zero))) low = refl
le_byte x (suc (suc (suc (suc zero)))) low = refl
le_byte x (suc (suc (suc (suc (suc zero))))) low = refl
le_byte x (suc (suc (suc (suc (suc (suc zero)))))) low = refl
le_byte x (suc (suc (suc (suc (suc (suc (suc zero))))))) low = refl
le_byte x (suc (suc (suc (suc (suc (suc (suc (suc k)))))))) low = absurd (omega arith)

-- the bytes above a word change none of it
byte_of_rest : (x k : ℕ) → k < 8 → x % 2 ^ 64 / 256 ^ k % 256 ≡ x / 256 ^ k % 256
byte_of_rest x zero low = omega arith
byte_of_rest x (suc zero) low = omega arith
byte_of_rest x (suc (suc zero)) low = omega arith
byte_of_rest x (suc (suc (suc zero))) low = omega arith
byte_of_rest x (suc (suc (suc (suc zero)))) low = omega arith
byte_of_rest x (suc (suc (suc (suc (suc zero))))) low = omega arith
byte_of_rest x (suc (suc (suc (suc (suc (suc zero)))))) low = omega arith
byte_of_rest x (suc (suc (suc (suc (suc (suc (suc zero))))))) low = omega arith
byte_of_rest x (suc (suc (suc (suc (suc (suc (suc (suc k)))))))) low = absurd (omega arith)

rest_byte : (x k : ℕ) → k < 8 → slice_index (to_le_bytes w64 (x % 2 ^ 64)) k ≡ slice_index (to_le_bytes w64 x) k
rest_byte x k low = le_byte (x % 2 ^ 64) k low ∙ byte_of_rest x k low ∙ sym (le_byte x k low)

byte_small : (x k : ℕ) → slice_index (to_le_bytes w64 x) k < 256
byte_small x zero = omega arith
byte_small x (suc zero) = omega arith
byte_small x (suc (suc zero)) = omega arith
byte_small x (suc (suc (suc zero))) = omega arith
byte_small x (suc (suc (suc (suc zero)))) = omega arith
byte_small x (suc (suc (suc (suc (suc zero))))) = omega arith
byte_small x (suc (suc (suc (suc (suc (suc zero)))))) = omega arith
byte_small x (suc (suc (suc (suc (suc (suc (suc zero))))))) = omega arith
byte_small x (suc (suc (suc (suc (suc (suc (suc (suc k)))))))) = omega arith

small_either : (b : Bool) (x y : ℕ) → x < 256 → y < 256 → (if b then x else y) < 256
small_either true x y first second = first
small_either false x y first second = second

after_small : (old value mask k : ℕ) → byte_after (to_le_bytes w64 old) (to_le_bytes w64 value) mask k < 256
after_small old value mask k =
    small_either (bit_and (mask / 2 ^ k) 1 == 1) (slice_index (to_le_bytes w64 value) k) (slice_index (to_le_bytes w64 old) k)
    (byte_small value k) (byte_small old k)

all_small : (old value mask k : ℕ) → slice_index (bytes_after (to_le_bytes w64 old) (to_le_bytes w64 value) mask) k < 256
all_small old value mask zero = after_small old value mask 0
all_small old value mask (suc zero) = after_small old value mask 1
all_small old value mask (suc (suc zero)) = after_small old value mask 2
all_small old value mask (suc (suc (suc zero))) = after_small old value mask 3
all_small old value mask (suc (suc (suc (suc zero)))) = after_small old value mask 4
all_small old value mask (suc (suc (suc (suc (suc zero))))) = after_small old value mask 5
all_small old value mask (suc (suc (suc (suc (suc (suc zero)))))) = after_small old value mask 6
all_small old value mask (suc (suc (suc (suc (suc (suc (suc zero))))))) = after_small old value mask 7
all_small old value mask (suc (suc (suc (suc (suc (suc (suc (suc k)))))))) = omega arith

after_at : (old value mask k : ℕ) → k < 8
    → slice_index (bytes_after (to_le_bytes w64 old) (to_le_bytes w64 value) mask) k ≡ byte_after (to_le_bytes w64 old) (to_le_bytes w64 value) mask k
after_at old value mask zero low = refl
after_at old value mask (suc zero) low = refl
after_at old value mask (suc (suc zero)) low = refl
after_at old value mask (suc (suc (suc zero))) low = refl
after_at old value mask (suc (suc (suc (suc zero)))) low = refl
after_at old value mask (suc (suc (suc (suc (suc zero))))) low = refl
after_at old value mask (suc (suc (suc (suc (suc (suc zero)))))) low = refl
after_at old value mask (suc (suc (suc (suc (suc (suc (suc zero))))))) low = refl
after_at old value mask (suc (suc (suc (suc (suc (suc (suc (suc k)))))))) low = absurd (omega arith)

whole_at : (old value k : ℕ) → k < 8 → byte_after (to_le_bytes w64 old) (to_le_bytes w64 value) 255 k ≡ slice_index (to_le_bytes w64 value) k
whole_at old value zero low = refl
whole_at old value (suc zero) low = refl
whole_at old value (suc (suc zero)) low = refl
whole_at old value (suc (suc (suc zero))) low = refl
whole_at old value (suc (suc (suc (suc zero)))) low = refl
whole_at old value (suc (suc (suc (suc (suc zero))))) low = refl
whole_at old value (suc (suc (suc (suc (suc (suc zero)))))) low = refl
whole_at old value (suc (suc (suc (suc (suc (suc (suc zero))))))) low = refl
whole_at old value (suc (suc (suc (suc (suc (suc (suc (suc k)))))))) low = absurd (omega arith)

-- byte k of a word after a store
merged_as : (whole : Bool) (old value mask k : ℕ) → mask == 255 ≡ whole → k < 8
    → slice_index (to_le_bytes w64 ((if whole then value else blended old value mask) % 2 ^ 64)) k
    ≡ byte_after (to_le_bytes w64 old) (to_le_bytes w64 value) mask k
unfolding blended
merged_as true old value mask k is low =
    let all : mask ≡ 255 = grind (arith, nat_tests) in
    rw all (rest_byte value k low ∙ sym (whole_at old value k low))
merged_as false old value mask k is low =
    let bs = bytes_after (to_le_bytes w64 old) (to_le_bytes w64 value) mask in
    rest_byte (from_le_bytes w64 bs) k low
    ∙ ap (λ xs. slice_index xs k) (le_bytes_8 bs (from_le_bytes w64 bs) refl (all_small old value mask) refl)
    ∙ after_at old value mask k low

pub merged_byte : (old value mask k : ℕ) → k < 8
    → slice_index (to_le_bytes w64 (merged_value old value mask)) k ≡ byte_after (to_le_bytes w64 old) (to_le_bytes w64 value) mask k
merged_byte old value mask k low = merged_as (mask == 255) old value mask k refl low

-- ---- the store of a part

abbrev all_below : (ℕ → Bool) → ℕ → Bool
all_below test zero = true
all_below test (suc n) = test n && all_below test n

both : (a b : Bool) → (a && b) ≡ true → (a ≡ true) × (b ≡ true)
both true b e = (refl, e)
both false b e = cc

below_all : (test : ℕ → Bool) (n i : ℕ) → all_below test n ≡ true → i < n → test i ≡ true
below_all test zero i all low = absurd (omega arith)
below_all test (suc n) i all low = at (both (test n) (all_below test n) all).0 (λ less. below_all test n i (both (test n) (all_below test n) all).1 less) (cases_lt i n)
  where
    at : test n ≡ true → (i < n → test i ≡ true) → (i < n) ⊎ (n ≤ i) → test i ≡ true
    at last rest (inl less) = rest less
    at last rest (inr more) = let same : i ≡ n = omega arith in rw same last

abbrev alike : Bool → Bool → Bool
alike true b = b
alike false true = false
alike false false = true

are_alike : (fits a b : Bool) → fits ≡ true → (if fits then alike a b else true) ≡ true → a ≡ b
are_alike true true true is e = refl
are_alike true true false is e = cc
are_alike true false true is e = cc
are_alike true false false is e = refl
are_alike false a b is e = cc

-- bit k of a mask of so many bytes from this one on is set for these bytes
abbrev mask_row : ℕ → ℕ → ℕ → Bool
mask_row first count k =
    if nat_le (first + count) 8 then alike (bit_and (byte_mask first count / 2 ^ k) 1 == 1) (nat_le first k && nat_lt k (first + count)) else true

abbrev mask_test : ℕ → Bool
mask_test code = mask_row (code / 72) (code / 8 % 9) (code % 8)

mask_table : all_below mask_test 648 ≡ true
mask_table = refl

mask_rows : (first count k f c j : ℕ) → f ≡ first → c ≡ count → j ≡ k → mask_row f c j ≡ true → mask_row first count k ≡ true
mask_rows first count k f c j e1 e2 e3 is = rw (← e1, ← e2, ← e3) is

mask_bits : (first count k : ℕ) → first + count ≤ 8 → k < 8
    → (bit_and (byte_mask first count / 2 ^ k) 1 == 1) ≡ (nat_le first k && nat_lt k (first + count))
mask_bits first count k fits low =
    let code = first * 72 + count * 8 + k in
    are_alike (nat_le (first + count) 8) (bit_and (byte_mask first count / 2 ^ k) 1 == 1) (nat_le first k && nat_lt k (first + count)) (grind (arith, nat_tests))
    (mask_rows first count k (code / 72) (code / 8 % 9) (code % 8) (omega arith) (omega arith) (omega arith)
    (below_all mask_test 648 code mask_table (omega arith)))

-- byte j of the number in some bytes
little_byte : (bytes : List ℕ) (j : ℕ) → ((i : ℕ) → slice_index bytes i < 256) → j < 8 → number_at 8 0 bytes / 256 ^ j % 256 ≡ slice_index bytes j
unfolding number_at
little_byte bytes zero small low =
    let h0 = small 0 in let h1 = small 1 in let h2 = small 2 in let h3 = small 3 in let h4 = small 4 in let h5 = small 5 in let h6 = small 6 in let h7 = small 7 in
    omega arith
little_byte bytes (suc zero) small low =
    let h0 = small 0 in let h1 = small 1 in let h2 = small 2 in let h3 = small 3 in let h4 = small 4 in let h5 = small 5 in let h6 = small 6 in let h7 = small 7 in
    omega arith
little_byte bytes (suc (suc zero)) small low =
    let h0 = small 0 in let h1 = small 1 in let h2 = small 2 in let h3 = small 3 in let h4 = small 4 in let h5 = small 5 in let h6 = small 6 in let h7 = small 7 in
    omega arith
little_byte bytes (suc (suc (suc zero))) small low =
    let h0 = small 0 in let h1 = small 1 in let h2 = small 2 in let h3 = small 3 in let h4 = small 4 in let h5 = small 5 in let h6 = small 6 in let h7 = small 7 in
    omega arith
little_byte bytes (suc (suc (suc (suc zero)))) small low =
    let h0 = small 0 in let h1 = small 1 in let h2 = small 2 in let h3 = small 3 in let h4 = small 4 in let h5 = small 5 in let h6 = small 6 in let h7 = small 7 in
    omega arith
little_byte bytes (suc (suc (suc (suc (suc zero))))) small low =
    let h0 = small 0 in let h1 = small 1 in let h2 = small 2 in let h3 = small 3 in let h4 = small 4 in let h5 = small 5 in let h6 = small 6 in let h7 = small 7 in
    omega arith
little_byte bytes (suc (suc (suc (suc (suc (suc zero)))))) small low =
    let h0 = small 0 in let h1 = small 1 in let h2 = small 2 in let h3 = small 3 in let h4 = small 4 in let h5 = small 5 in let h6 = small 6 in let h7 = small 7 in
    omega arith
little_byte bytes (suc (suc (suc (suc (suc (suc (suc zero))))))) small low =
    let h0 = small 0 in let h1 = small 1 in let h2 = small 2 in let h3 = small 3 in let h4 = small 4 in let h5 = small 5 in let h6 = small 6 in let h7 = small 7 in
    omega arith
little_byte bytes (suc (suc (suc (suc (suc (suc (suc (suc j)))))))) small low = absurd (omega arith)

shifted : (x first j : ℕ) → first + j < 8 → x * 2 ^ (8 * first) / 256 ^ (first + j) % 256 ≡ x / 256 ^ j % 256
shifted x zero zero low = omega arith
shifted x zero (suc zero) low = omega arith
shifted x zero (suc (suc zero)) low = omega arith
shifted x zero (suc (suc (suc zero))) low = omega arith
shifted x zero (suc (suc (suc (suc zero)))) low = omega arith
shifted x zero (suc (suc (suc (suc (suc zero))))) low = omega arith
shifted x zero (suc (suc (suc (suc (suc (suc zero)))))) low = omega arith
shifted x zero (suc (suc (suc (suc (suc (suc (suc zero))))))) low = omega arith
shifted x zero (suc (suc (suc (suc (suc (suc (suc (suc j)))))))) low = absurd (omega arith)
shifted x (suc zero) zero low = omega arith
shifted x (suc zero) (suc zero) low = omega arith
shifted x (suc zero) (suc (suc zero)) low = omega arith
shifted x (suc zero) (suc (suc (suc zero))) low = omega arith
shifted x (suc zero) (suc (suc (suc (suc zero)))) low = omega arith
shifted x (suc zero) (suc (suc (suc (suc (suc zero))))) low = omega arith
shifted x (suc zero) (suc (suc (suc (suc (suc (suc zero)))))) low = omega arith
shifted x (suc zero) (suc (suc (suc (suc (suc (suc (suc j))))))) low = absurd (omega arith)
shifted x (suc (suc zero)) zero low = omega arith
shifted x (suc (suc zero)) (suc zero) low = omega arith
shifted x (suc (suc zero)) (suc (suc zero)) low = omega arith
shifted x (suc (suc zero)) (suc (suc (suc zero))) low = omega arith
shifted x (suc (suc zero)) (suc (suc (suc (suc zero)))) low = omega arith
shifted x (suc (suc zero)) (suc (suc (suc (suc (suc zero))))) low = omega arith
shifted x (suc (suc zero)) (suc (suc (suc (suc (suc (suc j)))))) low = absurd (omega arith)
shifted x (suc (suc (suc zero))) zero low = omega arith
shifted x (suc (suc (suc zero))) (suc zero) low = omega arith
shifted x (suc (suc (suc zero))) (suc (suc zero)) low = omega arith
shifted x (suc (suc (suc zero))) (suc (suc (suc zero))) low = omega arith
shifted x (suc (suc (suc zero))) (suc (suc (suc (suc zero)))) low = omega arith
shifted x (suc (suc (suc zero))) (suc (suc (suc (suc (suc j))))) low = absurd (omega arith)
shifted x (suc (suc (suc (suc zero)))) zero low = omega arith
shifted x (suc (suc (suc (suc zero)))) (suc zero) low = omega arith
shifted x (suc (suc (suc (suc zero)))) (suc (suc zero)) low = omega arith
shifted x (suc (suc (suc (suc zero)))) (suc (suc (suc zero))) low = omega arith
shifted x (suc (suc (suc (suc zero)))) (suc (suc (suc (suc j)))) low = absurd (omega arith)
shifted x (suc (suc (suc (suc (suc zero))))) zero low = omega arith
shifted x (suc (suc (suc (suc (suc zero))))) (suc zero) low = omega arith
shifted x (suc (suc (suc (suc (suc zero))))) (suc (suc zero)) low = omega arith
shifted x (suc (suc (suc (suc (suc zero))))) (suc (suc (suc j))) low = absurd (omega arith)
shifted x (suc (suc (suc (suc (suc (suc zero)))))) zero low = omega arith
shifted x (suc (suc (suc (suc (suc (suc zero)))))) (suc zero) low = omega arith
shifted x (suc (suc (suc (suc (suc (suc zero)))))) (suc (suc j)) low = absurd (omega arith)
shifted x (suc (suc (suc (suc (suc (suc (suc zero))))))) zero low = omega arith
shifted x (suc (suc (suc (suc (suc (suc (suc zero))))))) (suc j) low = absurd (omega arith)
shifted x (suc (suc (suc (suc (suc (suc (suc (suc first)))))))) j low = absurd (omega arith)

placed_byte : (x first j : ℕ) → first + j < 8 → placed first x / 256 ^ (first + j) % 256 ≡ x / 256 ^ j % 256
placed_byte x first j low = byte_of_rest (x * 2 ^ (8 * first)) (first + j) low ∙ shifted x first j low

either_true : (b : Bool) (x y : ℕ) → b ≡ true → (if b then x else y) ≡ x
either_true true x y is = refl
either_true false x y is = cc

either_false : (b : Bool) (x y : ℕ) → b ≡ false → (if b then x else y) ≡ y
either_false true x y is = cc
either_false false x y is = refl

-- a word after the store of bytes from byte `first` on
abbrev part_word : ℕ → ℕ → List ℕ → ℕ
part_word old first bytes = merged_value old (placed first (number_at 8 0 bytes)) (byte_mask first (length bytes))

-- it has these bytes there
part_inside : (old first : ℕ) (bytes : List ℕ) (j : ℕ) → ((i : ℕ) → slice_index bytes i < 256) → first + length bytes ≤ 8 → j < length bytes
    → slice_index (to_le_bytes w64 (part_word old first bytes)) (first + j) ≡ slice_index bytes j
part_inside old first bytes j small fits within =
    let x = number_at 8 0 bytes in
    let k = first + j in
    let low : k < 8 = omega arith in
    let set : (nat_le first k && nat_lt k (first + length bytes)) ≡ true = grind (arith, nat_tests) in
    merged_byte old (placed first x) (byte_mask first (length bytes)) k low
    ∙ either_true (bit_and (byte_mask first (length bytes) / 2 ^ k) 1 == 1) (slice_index (to_le_bytes w64 (placed first x)) k) (slice_index (to_le_bytes w64 old) k)
    (mask_bits first (length bytes) k fits low ∙ set)
    ∙ le_byte (placed first x) k low
    ∙ placed_byte x first j low
    ∙ little_byte bytes j small (omega arith)

unset : (first count k : ℕ) → (k < first) ⊎ (first + count ≤ k) → (nat_le first k && nat_lt k (first + count)) ≡ false
unset first count k (inl before) = grind (arith, nat_tests)
unset first count k (inr behind) = grind (arith, nat_tests)

-- its other bytes are as before
part_outside : (old first : ℕ) (bytes : List ℕ) (k : ℕ) → first + length bytes ≤ 8 → k < 8 → (k < first) ⊎ (first + length bytes ≤ k)
    → slice_index (to_le_bytes w64 (part_word old first bytes)) k ≡ slice_index (to_le_bytes w64 old) k
part_outside old first bytes k fits low outside =
    let x = number_at 8 0 bytes in
    merged_byte old (placed first x) (byte_mask first (length bytes)) k low
    ∙ either_false (bit_and (byte_mask first (length bytes) / 2 ^ k) 1 == 1) (slice_index (to_le_bytes w64 (placed first x)) k) (slice_index (to_le_bytes w64 old) k)
    (mask_bits first (length bytes) k fits low ∙ unset first (length bytes) k outside)

-- ---- the stores of all parts

differs : (v w : ℕ) → (v < w) ⊎ (w < v) → v ≢ w
differs v w (inl before) same = absurd (omega arith)
differs v w (inr behind) same = absurd (omega arith)

beside : (v w n : ℕ) → (v < w) ⊎ (w + suc n ≤ v) → ((v < w + 1) ⊎ (w + 1 + n ≤ v)) × ((v < w) ⊎ (w < v))
beside v w n (inl before) = (inl (omega arith), inl before)
beside v w n (inr behind) = (inr (omega arith), inr (omega arith))

-- a word of RAM after the store of its part
abbrev word_filled : ℕ → List ℕ → ℕ → ℕ → ℕ
word_filled address bytes v old = part_word old (part_of address bytes v).first (part_of address bytes v).bytes

parts_others : (address : ℕ) (bytes ram : List ℕ) (w n v : ℕ) → (v < w) ⊎ (w + n ≤ v)
    → slice_index (ram_after ram (parts_stored address bytes w n)) v ≡ slice_index ram v
unfolding parts_stored
parts_others address bytes ram w zero v outside = refl
parts_others address bytes ram w (suc n) v outside =
    let ways = beside v w n outside in
    parts_others address bytes (slice_set ram w (word_filled address bytes w (slice_index ram w))) (w + 1) n v ways.0
    ∙ get_or-set_other ram w v (word_filled address bytes w (slice_index ram w)) 0 (differs v w ways.1)

parts_this : (address : ℕ) (bytes ram : List ℕ) (w n v : ℕ) → w ≤ v → v < w + n → w + n ≤ length ram
    → slice_index (ram_after ram (parts_stored address bytes w n)) v ≡ word_filled address bytes v (slice_index ram v)
unfolding parts_stored
parts_this address bytes ram w zero v from to there = absurd (omega arith)
parts_this address bytes ram w (suc n) v from to there = at (λ less. parts_this address bytes next (w + 1) n v (omega arith) (omega arith) (omega (arith, len))) (cases_lt w v)
  where
    next : List ℕ
    next = slice_set ram w (word_filled address bytes w (slice_index ram w))

    len : length next ≡ length ram
    len = length-set ram w (word_filled address bytes w (slice_index ram w))

    at : (w < v → slice_index (ram_after next (parts_stored address bytes (w + 1) n)) v ≡ word_filled address bytes v (slice_index next v))
        → (w < v) ⊎ (v ≤ w) → slice_index (ram_after ram (parts_stored address bytes w (suc n))) v ≡ word_filled address bytes v (slice_index ram v)
    at rest (inl more) =
        rest more ∙ ap (word_filled address bytes v) (get_or-set_other ram w v (word_filled address bytes w (slice_index ram w)) 0 (differs v w (inr more)))
    at rest (inr least) =
        let same : v ≡ w = omega arith in
        parts_others address bytes next (w + 1) n v (inl (omega arith))
        ∙ get_or-set_at ram w v (word_filled address bytes w (slice_index ram w)) 0 same (omega arith)
        ∙ ap (λ u. word_filled address bytes u (slice_index ram u)) (sym same)

-- ---- the bytes of a span

small_part : (bytes : List ℕ) (m n i : ℕ) → ((i : ℕ) → slice_index bytes i < 256) → slice_index (take m (drop n bytes)) i < 256
small_part bytes m n i small = at (cases_lt i m)
  where
    at : (i < m) ⊎ (m ≤ i) → slice_index (take m (drop n bytes)) i < 256
    at (inl within) = let low : slice_index bytes (n + i) < 256 = small (n + i) in rw (get_or-take m (drop n bytes) i 0 within, get_or-drop n bytes i 0) low
    at (inr past) =
        let len : length (take m (drop n bytes)) ≡ min m (length (drop n bytes)) = length-take m (drop n bytes) in
        let none : slice_index (take m (drop n bytes)) i ≡ 0 = get_or_past (take m (drop n bytes)) i 0 (omega arith) in
        omega arith

-- the bytes of a span stand in RAM after its stores
span_each : (ram bytes : List ℕ) (address i : ℕ) → IsTouched (length ram) address (length bytes) → ((k : ℕ) → slice_index bytes k < 256) → i < length bytes
    → byte_at (ram_after ram (span_stored address bytes)) (address + i) ≡ slice_index bytes i
span_each ram bytes address i touched small within =
    let n = words_touched address (length bytes) in
    let a = address + i in
    let v = word_at a in
    let p = part_of address bytes v in
    let base = word_address v in
    let from = max address base in
    let to = min (address + length bytes) (base + 8) in
    let j = a - from in
    let starts : RAM_START ≤ address = touched.starts (omega arith) in
    let reached : address % 8 + i < 8 * n = touched_all address (length bytes) i within in
    let there : word_at address + n ≤ length ram = words_fit (length ram) address (length bytes) touched (omega arith) in
    let taken : length p.bytes ≡ min (to - from) (length (drop (from - address) bytes)) = length-take (to - from) (drop (from - address) bytes) in
    let left : length (drop (from - address) bytes) ≡ length bytes - (from - address) = length-drop (from - address) bytes in
    let place : a % 8 ≡ p.first + j = omega arith in
    let same : from - address + j ≡ i = omega arith in
    ap (λ x. slice_index (to_le_bytes w64 x) (a % 8)) (parts_this address bytes ram (word_at address) n v (omega arith) (omega arith) there)
    ∙ ap (slice_index (to_le_bytes w64 (word_filled address bytes v (slice_index ram v)))) place
    ∙ part_inside (slice_index ram v) p.first p.bytes j (λ k. small_part bytes (to - from) (from - address) k small) (omega arith) (omega arith)
    ∙ get_or-take (to - from) (drop (from - address) bytes) j 0 (omega arith)
    ∙ get_or-drop (from - address) bytes j 0
    ∙ ap (slice_index bytes) same

by_side : (address len base a : ℕ) → base % 8 ≡ 0 → base ≤ a → a < base + 8 → address < base + 8 → base < address + len
    → (a < address) ⊎ (address + len ≤ a)
    → (a % 8 < max address base - base) ⊎ (max address base - base + (min (address + len) (base + 8) - max address base) ≤ a % 8)
by_side address len base a whole low high starts ends (inl before) = inl (omega arith)
by_side address len base a whole low high starts ends (inr behind) = inr (omega arith)

-- a byte of a word that is stored, but not one of the span
span_beside : (ram bytes : List ℕ) (address a n : ℕ) → RAM_START ≤ address → RAM_START ≤ a → n ≡ (address % 8 + length bytes + 7) / 8 → 0 < length bytes
    → word_at address ≤ word_at a → word_at a < word_at address + n → word_at address + n ≤ length ram
    → (a < address) ⊎ (address + length bytes ≤ a)
    → byte_at (ram_after ram (parts_stored address bytes (word_at address) n)) a ≡ byte_at ram a
span_beside ram bytes address a n begins starts count some low high there outside =
    let v = word_at a in
    let p = part_of address bytes v in
    let base = word_address v in
    let from = max address base in
    let to = min (address + length bytes) (base + 8) in
    let taken : length p.bytes ≡ min (to - from) (length (drop (from - address) bytes)) = length-take (to - from) (drop (from - address) bytes) in
    let left : length (drop (from - address) bytes) ≡ length bytes - (from - address) = length-drop (from - address) bytes in
    let whole : length p.bytes ≡ to - from = omega arith in
    ap (λ x. slice_index (to_le_bytes w64 x) (a % 8)) (parts_this address bytes ram (word_at address) n v low high there)
    ∙ part_outside (slice_index ram v) p.first p.bytes (a % 8) (omega arith) (omega arith)
    (subst (λ c. (a % 8 < p.first) ⊎ (p.first + c ≤ a % 8)) (sym whole)
    (by_side address (length bytes) base a (omega arith) (omega arith) (omega arith) (omega arith) (omega arith) outside))

-- all other bytes stay
span_others : (ram bytes : List ℕ) (address a : ℕ) → IsTouched (length ram) address (length bytes)
    → RAM_START ≤ a → (a < address) ⊎ (address + length bytes ≤ a)
    → byte_at (ram_after ram (span_stored address bytes)) a ≡ byte_at ram a
unfolding parts_stored
span_others ram [] address a touched starts outside = refl
span_others ram (b ∷ bs) address a touched starts outside = at (cases_lt (word_at a) (word_at address)) (cases_lt (word_at a) (word_at address + words_touched address (suc (length bs))))
  where
    at : (word_at a < word_at address) ⊎ (word_at address ≤ word_at a)
        → (word_at a < word_at address + words_touched address (suc (length bs))) ⊎ (word_at address + words_touched address (suc (length bs)) ≤ word_at a)
        → byte_at (ram_after ram (span_stored address (b ∷ bs))) a ≡ byte_at ram a
    at (inl before) other =
        ap (λ x. slice_index (to_le_bytes w64 x) (a % 8)) (parts_others address (b ∷ bs) ram (word_at address) (words_touched address (suc (length bs))) (word_at a) (inl before))
    at (inr low) (inr behind) =
        ap (λ x. slice_index (to_le_bytes w64 x) (a % 8)) (parts_others address (b ∷ bs) ram (word_at address) (words_touched address (suc (length bs))) (word_at a) (inr behind))
    at (inr low) (inl high) =
        let count : words_touched address (suc (length bs)) ≡ (address % 8 + suc (length bs) + 7) / 8 = words_touched_some address (length bs) in
        let begins : RAM_START ≤ address = touched.starts (omega arith) in
        let there : word_at address + words_touched address (suc (length bs)) ≤ length ram = words_fit (length ram) address (suc (length bs)) touched (omega arith) in
        span_beside ram (b ∷ bs) address a (words_touched address (suc (length bs))) begins starts count (omega arith) low high there outside

-- a console read fills RAM from its address on
pub fills_ram : (ram input : List ℕ) (h : ArchitecturalState) (place address n : ℕ) → IsTouched (length ram) address n → ((i : ℕ) → slice_index input i < 256)
    → FillsRam ram address (take n (drop place input)) (answered_by ram (bytes_read h (drop place input) address n))
unfolding bytes_read
fills_ram ram input h place address n touched small =
    let bytes = take n (drop place input) in
    let fits : IsTouched (length ram) address (length bytes) = touched_first (length ram) address n (length bytes) (taken_is_few n (drop place input)) touched in
    record {
      count = refl;
      each = λ i within. span_each ram bytes address i fits (λ k. small_part input n place k small) within;
      others = λ a starts outside. span_others ram bytes address a fits starts outside;
    }
