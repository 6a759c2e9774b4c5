-- The legacy extensions (SBI 2.0, "Legacy Extensions").
use Rattle.std.specs.Prelude.{◌%◌}
use Rattle.sbi_calls.specs.declared.call.Request.{Request}
use Rattle.sbi_calls.specs.declared.call.SbiCall.{SbiCall}
use Rattle.sbi_calls.specs.declared.call.SbiCall.TheVariants.{Putchar}

-- the byte is the low 8 bits of a0
abbrev pub putchar_call : Request → SbiCall
putchar_call r = Putchar (r.a0 % 256)
