-- The lines that say why the program didn't run.
use Rattle.std.specs.Prelude.{ℕ, ◌++◌, codes}
use Rattle.std.specs.Fmt.{decimal}
use Rattle.ras_host.specs.Told.{Bytes}
use Rattle.elf_load.specs.declared.refusals.ElfRefused.{ElfRefused}
use Rattle.elf_load.specs.declared.refusals.ElfRefused.TheVariants as refused
use Rattle.fault_script.specs.declared.lines.ScriptError.{ScriptError}
use Rattle.fault_script.specs.declared.lines.ScriptError.TheVariants as errors
use Rattle.fault_script.specs.declared.lines.Why.{Why}
use Rattle.fault_script.specs.declared.lines.Why.TheVariants as why
use Rattle.acpi_tables.specs.declared.refused.TableRefused.{TableRefused}
use Rattle.acpi_tables.specs.declared.refused.TableRefused.TheVariants as table
use Rattle.cper_sections.specs.declared.reading.CperRefused.{CperRefused}
use Rattle.cper_sections.specs.declared.reading.CperRefused.TheVariants as cper
use Rattle.ras_read.specs.declared.refused.ReadRefused.{ReadRefused}
use Rattle.ras_read.specs.declared.refused.ReadRefused.TheVariants as reading
use Rattle.ras_cli.specs.declared.files.FileKind.{FileKind}
use Rattle.ras_cli.specs.Files.{limit_of, word_of}

-- words that ask for nothing
abbrev pub usage : Bytes
usage = codes "usage: ras run|compare IMAGE [options] | ras debug IMAGE COMMANDS [options] | ras read FILE | ras demo NUMBER\n"

-- a file that is longer than its limit
abbrev pub too_long : FileKind → Bytes
too_long file = codes "ras: " ++ word_of file ++ codes " too long: limit " ++ decimal (limit_of file) ++ codes "\n"

-- a rule of one program header, with its number
abbrev pub segment_text : Bytes → ℕ → Bytes
segment_text rule k = rule ++ codes " segment " ++ decimal k

-- which rule an image breaks
abbrev pub rule_text : ElfRefused → Bytes
rule_text refused.Short = codes "short"
rule_text refused.Magic = codes "magic"
rule_text refused.Class = codes "class"
rule_text refused.ExecType = codes "exectype"
rule_text refused.Machine = codes "machine"
rule_text refused.Compressed = codes "compressed"
rule_text refused.HardFloat = codes "hardfloat"
rule_text refused.Reduced = codes "reduced"
rule_text refused.Headers = codes "headers"
rule_text refused.TooMany = codes "toomany"
rule_text refused.NoLoad = codes "noload"
rule_text (refused.FilePart k) = segment_text (codes "filepart") k
rule_text (refused.Sizes k) = segment_text (codes "sizes") k
rule_text (refused.Outside k) = segment_text (codes "outside") k
rule_text refused.Entry = codes "entry"
rule_text refused.NoMemory = codes "nomemory"

-- an image that is refused
abbrev pub image_refused : ElfRefused → Bytes
image_refused refusal = codes "ras: image refused: " ++ rule_text refusal ++ codes "\n"

-- why a line of a script is refused
abbrev pub why_text : Why → Bytes
why_text why.Bytes = codes "bytes"
why_text why.Word = codes "word"
why_text why.Count = codes "count"
why_text why.Number = codes "number"
why_text why.Address = codes "address"
why_text why.Bit = codes "bit"
why_text why.Bank = codes "bank"
why_text why.Class = codes "class"
why_text why.Delay = codes "delay"
why_text why.Step = codes "step"
why_text why.TooMany = codes "toomany"

-- a script that is refused
abbrev pub script_refused : ℕ → Why → Bytes
script_refused line cause = codes "ras: script refused: line " ++ decimal line ++ codes ": " ++ why_text cause ++ codes "\n"

-- the line for a script that wasn't read
abbrev pub script_line : ScriptError → Bytes
script_line (errors.Refused line cause) = script_refused line cause
script_line errors.NoMemory = codes "ras: script refused: nomemory\n"

-- which rule a CPER record breaks
abbrev pub cper_text : CperRefused → Bytes
cper_text cper.Short = codes "short"
cper_text cper.Signature = codes "signature"
cper_text cper.EndMark = codes "endmark"
cper_text cper.Length = codes "length"
cper_text cper.Sections = codes "sections"
cper_text (cper.SectionPlace i) = codes "sectionplace"

-- which rule a table or a status block breaks
abbrev pub table_text : TableRefused → Bytes
table_text table.Short = codes "short"
table_text table.Signature = codes "signature"
table_text table.Length = codes "length"
table_text table.Sum = codes "sum"
table_text (table.Source i) = codes "source"
table_text (table.Entry i) = codes "entry"

-- a file that breaks this rule at an offset
abbrev pub refused_at : ℕ → Bytes → Bytes
refused_at at rule = codes "ras: file refused at " ++ decimal at ++ codes ": " ++ rule ++ codes "\n"

-- a file that isn't printed
abbrev pub file_refused : ReadRefused → Bytes
file_refused reading.Kind = refused_at 0 (codes "kind")
file_refused (reading.Bad at why) = refused_at at (cper_text why)
file_refused (reading.Table at why) = refused_at at (table_text why)
file_refused reading.NoMemory = refused_at 0 (codes "nomemory")
