-- Lines of memory, one after the other.
use Rattle.std.proofs.Common.{◌≡◌, ◌≢◌, ℕ, ◌+◌, ◌*◌, ◌≤◌, Bool, true, false, List, [], ◌++◌, refl, add-one, arith}
use Rattle.std.specs.Prelude.{◌==◌}
use Rattle.std.proofs.lemmas.Bool.Decides.{nat_tests}
use Rattle.std.specs.Int.{from_bool}
use Rattle.ras_machine.specs.Machine.{StackMachine}
use Rattle.reri_bank.specs.BankState.{BankState}
use Rattle.reri_bank.specs.Banks.{records_of}
use Rattle.ras_debug.specs.Replies.{record_line, record_lines, word_line, word_lines, seen, is_poison, poison_count, poison_line, poison_lines, instruction_line, instruction_lines}

pub words_more : (m : StackMachine) (w n : ℕ) → word_lines m w n ++ word_line m (w + n) ≡ word_lines m w (n + 1)
unfolding word_lines
words_more m w n = rw (add-one n) refl

pub no_words : (m : StackMachine) (w : ℕ) (reply : List ℕ) → reply ≡ [] → reply ≡ word_lines m w 0
unfolding word_lines
no_words m w reply empty = empty

pub poison_more : (m : StackMachine) (w : ℕ) → poison_lines m w ++ poison_line m w ≡ poison_lines m (w + 1)
unfolding poison_lines
poison_more m w = rw (add-one w) refl

pub counted_more : (m : StackMachine) (w : ℕ) → poison_count m w + from_bool (is_poison (seen m w)) ≡ poison_count m (w + 1)
unfolding poison_count
counted_more m w = rw (add-one w) refl

pub no_poison : (m : StackMachine) (reply : List ℕ) → reply ≡ [] → reply ≡ poison_lines m 0
unfolding poison_lines
no_poison m reply empty = empty

pub none_counted : (m : StackMachine) → 0 ≡ poison_count m 0
unfolding poison_count
none_counted m = refl

pub instructions_more : (m : StackMachine) (address n : ℕ) → instruction_lines m address n ++ instruction_line m (address + 4 * n) ≡ instruction_lines m address (n + 1)
unfolding instruction_lines
instructions_more m address n = rw (add-one n) refl

pub no_instructions : (m : StackMachine) (address : ℕ) (reply : List ℕ) → reply ≡ [] → reply ≡ instruction_lines m address 0
unfolding instruction_lines
no_instructions m address reply empty = empty

pub at_most_one : (b : Bool) → from_bool b ≤ 1
at_most_one true = omega arith
at_most_one false = omega arith

pub one_record : (bank : BankState) (b : ℕ) → b ≡ 2 → record_line bank 0 ≡ record_lines bank (records_of b)
unfolding record_lines
one_record bank b e = rw e refl

pub two_records : (bank : BankState) (b : ℕ) → b ≢ 2 → record_line bank 0 ++ record_line bank 1 ≡ record_lines bank (records_of b)
unfolding record_lines
two_records bank b other = let e : (b == 2) ≡ false = grind (arith, nat_tests) in rw e refl
