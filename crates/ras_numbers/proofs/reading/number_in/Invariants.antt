use Rattle.std.proofs.Common.{◌≡◌, ◌<◌, ◌^◌, drop}
use Rattle.ras_numbers.specs.Numbers.{number_in}
use Rattle.ras_numbers.proofs.Places.{digits_read_on}
use Rattle.ras_numbers.proofs.reading.number_in.Given as goal

-- reading what is left is the whole reading
abbrev pub invariant-loop-byte : goal.invariant-loop-byte
invariant-loop-byte l = record {
  small : l.value < 2 ^ 64;
  whole : digits_read_on l.base l.value (drop l.byte-index l.digits) ≡ number_in l.base l.digits;
}
