-- The tables sum to 0, and their sources are read one by one.
use Rattle.std.proofs.Common.{◌≡◌, ℕ, zero, suc, ◌+◌, ◌-◌, ◌<◌, ◌≤◌, List, Result, refl, ap, arith}
use Rattle.std.proofs.lemmas.Bool.{le-ltb}
use Rattle.std.specs.List.{find, range_with_len}
use Rattle.byte_fields.specs.Fields.{little, zeros, padded, number_in}
use Rattle.acpi_tables.specs.TableHeader.{SumsToZero}
use Rattle.acpi_tables.specs.Tables.{hest_bytes, bert_bytes, status_address}
use Rattle.acpi_tables.specs.ErrorSource.{generic_source}
use Rattle.acpi_tables.specs.declared.error_source.TheConstants.{SOURCE_TYPE}
use Rattle.ras_bits.specs.Fields.{number_at}
use Rattle.ras_bits.specs.declared.map.TheConstants.{POLLED_POINTER}
use Rattle.acpi_tables.specs.Reading.{is_other_source, refused_at, source_start}
use Rattle.acpi_tables.specs.declared.refused.TableRefused.{TableRefused}
use Rattle.acpi_tables.specs.declared.refused.TableRefused.TheVariants as refused

pub hest_sums : SumsToZero hest_bytes
unfolding little zeros padded
hest_sums = refl

pub bert_sums : SumsToZero bert_bytes
unfolding little zeros padded
bert_sums = refl

pub hest_points : status_address hest_bytes ≡ POLLED_POINTER
unfolding little zeros padded number_at
hest_points = refl

-- of the sources from number i on, so many
abbrev pub sources_from : ℕ → List ℕ → ℕ → ℕ → Result (Unit {0}) TableRefused
sources_from end b i left = refused_at refused.Source (find (is_other_source end b) (range_with_len i left))

-- one source is looked at, and then the next
pub source_read : (end : ℕ) (b : List ℕ) (i left : ℕ) → 0 < left → source_start i + 64 ≤ end → number_in SOURCE_TYPE (source_start i) b ≡ generic_source
    → sources_from end b i left ≡ sources_from end b (i + 1) (left - 1)
source_read end b i zero some whole kind = absurd (omega arith)
source_read end b i (suc left) some whole kind =
    rw (le-ltb _ _ whole, kind) (ap (sources_from end b (i + 1)) (omega arith))
