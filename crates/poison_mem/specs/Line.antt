-- A line of eight cells.
use Rattle.std.specs.Prelude.{ℕ, ◌==◌, if◌then◌else◌}
use Rattle.poison_mem.specs.declared.cell.Cell.{Cell}
use Rattle.poison_mem.specs.declared.line.Line.{Line}

-- the cell of an index, 0 to 7
abbrev pub cell : Line → ℕ → Cell
cell line i =
    if i == 0 then line.c0 else
    if i == 1 then line.c1 else
    if i == 2 then line.c2 else
    if i == 3 then line.c3 else
    if i == 4 then line.c4 else
    if i == 5 then line.c5 else
    if i == 6 then line.c6 else line.c7

-- the line with another cell at an index
abbrev pub with_cell : Line → ℕ → Cell → Line
with_cell line i c = record {
  c0 = if i == 0 then c else line.c0;
  c1 = if i == 1 then c else line.c1;
  c2 = if i == 2 then c else line.c2;
  c3 = if i == 3 then c else line.c3;
  c4 = if i == 4 then c else line.c4;
  c5 = if i == 5 then c else line.c5;
  c6 = if i == 6 then c else line.c6;
  c7 = if i == 7 then c else line.c7;
}

-- the line that has these cells
abbrev pub line_by : (ℕ → Cell) → Line
line_by f = record { c0 = f 0; c1 = f 1; c2 = f 2; c3 = f 3; c4 = f 4; c5 = f 5; c6 = f 6; c7 = f 7 }
