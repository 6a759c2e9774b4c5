use Rattle.std.proofs.Common.{◌≡◌, ◌++◌, take}
use Rattle.ras_read.specs.Sections.{section_lines}
use Rattle.ras_read.proofs.sections.push_sections.Given as goal

-- the lines of the sections so far
abbrev pub invariant-loop-section : goal.invariant-loop-section
invariant-loop-section l = l.out.items ≡ l.fn.out.items ++ section_lines l.b (take l.section-index l.sections)
