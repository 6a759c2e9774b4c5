-- The scripts of a RAM of so many words.
use Rattle.std.specs.Prelude.{◌≡◌, ℕ, ◌<◌, ◌≤◌, true, List, length}
use Rattle.std.specs.List.{AllByRecursion}
use Rattle.std.specs.List.Sorted.{IsNonDecreasingBy}
use Rattle.ras_bits.specs.declared.map.TheConstants.{LAST_STEP}
use Rattle.fault_script.specs.Fields.{is_word_address}
use Rattle.fault_script.specs.Steps.{step_of_line}
use Rattle.fault_script.specs.declared.lines.TheConstants.{MOST_LINES}
use Rattle.fault_script.specs.declared.lines.Act.{Act}
use Rattle.fault_script.specs.declared.lines.Act.TheVariants as act
use Rattle.fault_script.specs.declared.lines.ScriptLine.{ScriptLine}

-- the word is in RAM, the bit in its codeword, the record one that lines may name, and the delay and the value have their bits
abbrev pub FitsRamAct : ℕ → Act → Type 0
FitsRamAct ram_words (act.Flip w bit) = (w < ram_words) × (bit ≤ 71)
FitsRamAct ram_words (act.Scrub w) = w < ram_words
FitsRamAct ram_words (act.Inject bank rec class delay addr) =
    (bank ≤ 1) × (rec ≤ 1) × (1 ≤ delay) × (delay ≤ 65535) × (is_word_address ram_words addr ≡ true)
FitsRamAct ram_words (act.Control bank rec value) = (bank ≤ 1) × (rec ≤ 1) × (value ≤ 255)

-- the step is one of a script, and the act fits
abbrev pub FitsRam : ℕ → ScriptLine → Type 0
FitsRam ram_words line = (line.step ≤ LAST_STEP) × FitsRamAct ram_words line.act

-- so many lines that fit a text may give
abbrev pub AreReadable : ℕ → List ScriptLine → Type 0
AreReadable ram_words lines = (length lines ≤ MOST_LINES) × AllByRecursion (FitsRam ram_words) lines

-- lines in rising steps that fit a RAM of so many words: the scripts that may be read for it
pub record IsScriptFor (ram_words : ℕ) (lines : List ScriptLine) : Type 0 where
  pub few : length lines ≤ MOST_LINES
  pub fit : AllByRecursion (FitsRam ram_words) lines
  pub rising : IsNonDecreasingBy step_of_line lines
