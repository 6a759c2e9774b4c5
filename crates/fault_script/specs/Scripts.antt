-- A script as a value, and its edits.
use Rattle.std.specs.Prelude.{ℕ, Bool, nat_lt, List}
use Rattle.std.specs.List.{insert, position_or_len}
use Rattle.fault_script.specs.declared.lines.ScriptLine.{ScriptLine}

-- its lines, and for how many more it has room
pub record ScriptState : Type 0 where
  pub lines : List ScriptLine
  pub spare : ℕ

-- a line of a later step
abbrev pub is_later : ℕ → ScriptLine → Bool
is_later step line = nat_lt step line.step

-- the lines with one more: before the first one of a later step, and so behind the last one whose step isn't above its own
abbrev pub with_line_inserted : ScriptLine → List ScriptLine → List ScriptLine
with_line_inserted line lines = insert lines (position_or_len (is_later line.step) lines) line
