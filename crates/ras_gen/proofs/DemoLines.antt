-- The draws of one line of the demo script.
use Rattle.std.proofs.Common.{◌≡◌, ◌+◌, ◌*◌, ◌/◌, ◌%◌, ◌^◌, ◌++◌, List, ℕ, refl, arith}
use native.Mathlib.Numerals.{unary_clauses}
use Rattle.ras_gen.specs.Demo.{next_state, state_after, demo_line, demo_lines, demo_script, flip_text}
use Rattle.ras_gen.specs.declared.demo.TheConstants.{FLIPS, STEPS, FIRST_WORD, WORDS, BITS}

-- one more draw
pub one_more : (seed draws old new : ℕ) → old ≡ state_after seed draws → new ≡ next_state old → new ≡ state_after seed (draws + 1)
unfolding state_after
one_more seed draws old new before step = rw (step, before) (simp unary_clauses refl)

-- a line takes three draws
pub three_more : (seed k a b c d : ℕ) → a ≡ state_after seed (3 * k) → b ≡ next_state a → c ≡ next_state b → d ≡ next_state c
    → d ≡ state_after seed (3 * (k + 1))
three_more seed k a b c d before first second third =
    let whole : 3 * (k + 1) ≡ 3 * k + 1 + 1 + 1 = omega arith in
    rw whole (one_more seed (3 * k + 1 + 1) c d (one_more seed (3 * k + 1) b c (one_more seed (3 * k) a b before first) second) third)

-- a line of the three states that its draws leave, and of what they give
pub line_of : (seed k a b c d x y z : ℕ) → a ≡ state_after seed (3 * k) → b ≡ next_state a → c ≡ next_state b → d ≡ next_state c
    → x ≡ b / 2 ^ 33 → y ≡ c / 2 ^ 33 → z ≡ d / 2 ^ 33
    → flip_text (x % STEPS) (FIRST_WORD + y % WORDS) (z % BITS) ≡ demo_line seed k
unfolding demo_line
line_of seed k a b c d x y z before first second third gives gives' gives'' =
    let one = one_more seed (3 * k) a b before first in
    let two = one_more seed (3 * k + 1) b c one second in
    let place : 3 * k + 2 ≡ 3 * k + 1 + 1 = omega arith in
    let three = one_more seed (3 * k + 1 + 1) c d two third in
    rw (gives, gives', gives'', one, two, three) (rw place refl)

-- one more line
pub line_more : (seed k : ℕ) (text : List ℕ) → text ≡ demo_line seed k → demo_lines seed k ++ text ≡ demo_lines seed (k + 1)
unfolding demo_lines
line_more seed k text is = rw is (simp unary_clauses refl)

-- the loop has made all lines
pub all_lines : (seed k : ℕ) → k ≡ FLIPS → demo_lines seed k ≡ demo_script seed
all_lines seed k e = rw e refl
