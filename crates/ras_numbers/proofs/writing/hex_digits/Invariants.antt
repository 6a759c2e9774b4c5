use Rattle.std.proofs.Common.{◌≡◌, ◌-◌, ◌++◌, drop, length}
use Rattle.ras_numbers.specs.Numbers.{hex_text}
use Rattle.ras_numbers.proofs.writing.hex_digits.Given as goal

-- the digits that are left, before those that stand, are the whole text
abbrev pub invariant-loop-i : goal.invariant-loop-i
invariant-loop-i g l = record {
  size : length l.text ≡ g.row.N;
  whole : hex_text (g.row.N - l.i) l.left ++ drop (g.row.N - l.i) l.text ≡ hex_text g.row.N l.n;
}
