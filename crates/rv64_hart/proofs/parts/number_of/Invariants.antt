use Rattle.std.proofs.Common.{ℕ, ◌≡◌, ◌<◌, ◌≤◌, get_or, length}
use Rattle.rv64_hart.proofs.parts.number_of.Given as goal

-- the bytes so far are those that are given, and the others are 0
abbrev pub invariant-loop-i : goal.invariant-loop-i
invariant-loop-i l = record {
  len : length l.word ≡ 8;
  front : (k : ℕ) → k < l.i → get_or l.word k 0 ≡ get_or l.bytes k 0;
  back : (k : ℕ) → l.i ≤ k → get_or l.word k 0 ≡ 0;
}
