-- Severities (UEFI Appendix N, "Error Severity").
use Rattle.std.specs.Prelude.{ℕ}
use Rattle.poison_mem.specs.declared.event.Class.{Class}
use Rattle.poison_mem.specs.declared.event.Class.TheVariants.{Corrected, Deferred, Critical}

-- Error Severity: recoverable 0, fatal 1, corrected 2
abbrev pub severity_of : Class → ℕ
severity_of Deferred = 0
severity_of Critical = 1
severity_of Corrected = 2
