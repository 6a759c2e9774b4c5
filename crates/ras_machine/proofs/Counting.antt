-- Counts of the lines that flip a word.
use Rattle.std.proofs.Common.{ℕ, zero, suc, ◌+◌, ◌-◌, ◌≡◌, ◌≤◌, subst, Bool, true, false, ◌&&◌, List, [], ◌∷◌, Option, Some, refl, sym, ap, ◌∙◌, arith, cond, add-one}
use Rattle.std.specs.Prelude.{◌==◌, nat_le, nat_lt, count_by, if◌then◌else◌}
use Rattle.std.proofs.lemmas.Bool.Decides.{nat_tests}
use Rattle.std.proofs.lemmas.List.Sums.{sum_by-cons}
use Rattle.poison_mem.specs.Cells.{raised_at}
use Rattle.fault_script.specs.declared.lines.ScriptLine.{ScriptLine}
use Rattle.fault_script.specs.Steps.{at_step}
use Rattle.ras_machine.specs.Flat.{FlatState, flat_after}
use Rattle.ras_machine.specs.Schedule.{Given}
use Rattle.ras_machine.specs.Since.{is_flip_of, flips_between, last_whole_store, step_after, stores_whole, stores_in, since, since_before}

-- how many of these lines flip a word
abbrev pub flips_of : ℕ → List ScriptLine → ℕ
flips_of w lines = count_by (λ line. is_flip_of w line.act) lines

-- a count by its first line
pub count-cons : {X : Type 0} (p : X → Bool) (x : X) (xs : List X) → count_by p (x ∷ xs) ≡ cond (p x) 1 0 + count_by p xs
count-cons p x xs = sum_by-cons (λ x. cond (p x) 1 0) x xs

-- a line that flips the word in a step up to n does so below n, or in step n
split_one : (flips : Bool) (from step n : ℕ) → from ≤ n
    → cond (flips && (nat_le from step && nat_lt step (n + 1))) 1 0 ≡ cond (flips && (nat_le from step && nat_lt step n)) 1 0 + cond (step == n) (cond flips 1 0) 0
split_one true from step n low = grind (arith, nat_tests)
split_one false from step n low = grind (arith, nat_tests)

filter_one : (at : Bool) (w : ℕ) (line : ScriptLine) (lines : List ScriptLine) → flips_of w (cond at (line ∷ lines) lines) ≡ cond at (cond (is_flip_of w line.act) 1 0) 0 + flips_of w lines
filter_one true w line lines = count-cons (λ line. is_flip_of w line.act) line lines
filter_one false w line lines = omega arith

-- the flips up to step n are those below it and those of the lines of step n
pub flips_split : (w from n : ℕ) (script : List ScriptLine) → from ≤ n → flips_between script w from (n + 1) ≡ flips_between script w from n + flips_of w (at_step n script)
flips_split w from n [] low = refl
flips_split w from n (line ∷ script) low =
    let here = split_one (is_flip_of w line.act) from line.step n low in
    let rest = flips_split w from n script low in
    let cut = filter_one (line.step == n) w line (at_step n script) in
    let upto = count-cons (λ line. is_flip_of w line.act && (nat_le from line.step && nat_lt line.step (n + 1))) line script in
    let below = count-cons (λ line. is_flip_of w line.act && (nat_le from line.step && nat_lt line.step n)) line script in
    omega arith

none_one : (flips : Bool) (step n : ℕ) → cond {A = ℕ} (flips && (nat_le n step && nat_lt step n)) 1 0 ≡ 0
none_one true step n = grind (arith, nat_tests)
none_one false step n = refl

-- no line is both from step n on and below it
pub none_between : (script : List ScriptLine) (w n : ℕ) → flips_between script w n n ≡ 0
none_between [] w n = refl
none_between (line ∷ script) w n =
    let here = none_one (is_flip_of w line.act) line.step n in
    let rest = none_between script w n in
    let all = count-cons (λ line. is_flip_of w line.act && (nat_le n line.step && nat_lt line.step n)) line script in
    omega arith

step_by : (b : Bool) (o : Option ℕ) (n : ℕ) → step_after o ≤ n → step_after (if b then Some n else o) ≤ n + 1
step_by true o n low = omega arith
step_by false o n low = omega arith

-- counting begins at step n at the latest
pub counted_from : (given : Given) (start : FlatState) (w n : ℕ) → step_after (last_whole_store given start w n) ≤ n
unfolding last_whole_store
counted_from given start w zero = omega arith
counted_from given start w (suc n) =
    let before = counted_from given start w n in
    let low = step_by (stores_whole w (stores_in given n (flat_after given start n))) (last_whole_store given start w n) n before in
    omega arith

-- the flips of a step are added
pub since_adds : (given : Given) (start : FlatState) (script : List ScriptLine) (n w : ℕ) → since_before given start script n w + flips_of w (at_step n script) ≡ since given start script n w
since_adds given start script n w = sym (flips_split w (step_after (last_whole_store given start w n)) n script (counted_from given start w n))

begun_by : (b : Bool) (o : Option ℕ) (script : List ScriptLine) (w n : ℕ)
    → flips_between script w (step_after (if b then Some n else o)) (n + 1) ≡ (if b then 0 else flips_between script w (step_after o) (n + 1))
begun_by true o script w n = none_between script w (n + 1)
begun_by false o script w n = refl

-- a whole store begins the count anew
pub since_begins : (given : Given) (start : FlatState) (script : List ScriptLine) (n w : ℕ)
    → since_before given start script (suc n) w ≡ (if stores_whole w (stores_in given n (flat_after given start n)) then 0 else since given start script n w)
unfolding last_whole_store
since_begins given start script n w =
    ap (λ m. flips_between script w (step_after (last_whole_store given start w (suc n))) m) (sym (add-one n))
    ∙ begun_by (stores_whole w (stores_in given n (flat_after given start n))) (last_whole_store given start w n) script w n

fewer_one : (flips within : Bool) → cond {A = ℕ} (flips && within) 1 0 ≤ cond flips 1 0
fewer_one true true = omega arith
fewer_one true false = omega arith
fewer_one false within = omega arith

-- between two steps no more lines flip a word than in the whole script
pub between_all : (script : List ScriptLine) (w from to : ℕ) → flips_between script w from to ≤ flips_of w script
between_all [] w from to = omega arith
between_all (line ∷ script) w from to =
    let here = fewer_one (is_flip_of w line.act) (nat_le from line.step && nat_lt line.step to) in
    let rest = between_all script w from to in
    let between = count-cons (λ line. is_flip_of w line.act && (nat_le from line.step && nat_lt line.step to)) line script in
    let all = count-cons (λ line. is_flip_of w line.act) line script in
    omega arith

-- one flip more at a word, as a flip of that word
pub raised_most : (q : ℕ → ℕ) (u w : ℕ) → raised_at q u w ≤ q w + cond (u == w) 1 0
raised_most q u w = grind (arith, nat_tests)

-- lines of the same steps flip a word as often between two steps
same_above : (lines read : List ScriptLine) → ((step : ℕ) → at_step step lines ≡ at_step step read) → (w from more : ℕ)
    → flips_between lines w from (from + more) ≡ flips_between read w from (from + more)
same_above lines read same w from zero =
    let e : from + 0 ≡ from = omega arith in
    rw e (none_between lines w from ∙ sym (none_between read w from))
same_above lines read same w from (suc more) =
    let e : from + suc more ≡ (from + more) + 1 = omega arith in
    rw e (flips_split w from (from + more) lines (omega arith)
    ∙ ap (λ n. n + flips_of w (at_step (from + more) lines)) (same_above lines read same w from more)
    ∙ ap (λ now. flips_between read w from (from + more) + flips_of w now) (same (from + more))
    ∙ sym (flips_split w from (from + more) read (omega arith)))

pub same_flips : (lines read : List ScriptLine) → ((step : ℕ) → at_step step lines ≡ at_step step read) → (w from to : ℕ) → from ≤ to
    → flips_between lines w from to ≡ flips_between read w from to
same_flips lines read same w from to low =
    let e : from + (to - from) ≡ to = omega arith in
    subst (λ to. flips_between lines w from to ≡ flips_between read w from to) e (same_above lines read same w from (to - from))
