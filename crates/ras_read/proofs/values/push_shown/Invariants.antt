use Rattle.std.proofs.Common.{◌≡◌, ◌++◌, drop}
use Rattle.ras_read.specs.Values.{shown_text}
use Rattle.ras_read.proofs.values.push_shown.Given as goal

-- what was appended, and what the rest of the text shows, are what the text shows
abbrev pub invariant-loop-byte : goal.invariant-loop-byte
invariant-loop-byte l = l.out.items ++ shown_text (drop l.byte-index l.text) ≡ l.fn.out.items ++ shown_text l.text
