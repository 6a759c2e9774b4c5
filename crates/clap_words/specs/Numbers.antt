-- The numbers that options give.
use Rattle.std.specs.Prelude.{ℕ, ◌&&◌, nat_le, cond, Option, Some, None, option_and_then}
use Rattle.ras_numbers.specs.Numbers.{number_of}
use Rattle.clap_words.specs.Reading.{WordText}
use Rattle.clap_words.specs.declared.table.Kind.{Kind}
use Rattle.clap_words.specs.declared.table.Kind.TheVariants.{Flag, Text, Number}
use Rattle.clap_words.specs.declared.table.Limit.{Limit}

-- a number within its limits
abbrev pub within : Limit → ℕ → Option ℕ
within limit number = cond (nat_le limit.least number && nat_le number limit.most) (Some number) None

-- the number that a text is, if it is one within its limits; the default where there is no text
abbrev pub number_within : Limit → Option WordText → Option ℕ
number_within limit None = Some limit.default
number_within limit (Some text) = option_and_then (within limit) (number_of text)

-- the number of an option of this kind, whose value was given or not
abbrev pub number_of_kind : Kind → Option WordText → Option ℕ
number_of_kind (Number limit) value = number_within limit value
number_of_kind Flag value = None
number_of_kind Text value = None
