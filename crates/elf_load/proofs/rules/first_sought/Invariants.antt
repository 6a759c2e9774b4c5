use Rattle.std.proofs.Common.{◌≡◌, ◌-◌}
use Rattle.elf_load.specs.Headers.{e_phnum}
use Rattle.elf_load.specs.Rules.{first_from, is_sought, first_sought}
use Rattle.elf_load.proofs.rules.first_sought.Given as goal

-- looking on from here finds what looking from the start finds
abbrev pub invariant-loop-k : goal.invariant-loop-k
invariant-loop-k l = first_from (is_sought l.b l.ram_words l.sought) l.k (e_phnum l.b - l.k) ≡ first_sought l.b l.ram_words l.sought
