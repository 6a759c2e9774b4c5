use Rattle.std.proofs.Common.{◌≡◌, ◌++◌, ℕ, List, sym, ◌∙◌, ap, subst}
use Rattle.acpi_tables.specs.TableHeader.{SumsToZero, checksum_of}
use Rattle.acpi_tables.specs.Tables.{hest_with, hest_bytes, status_address}
use Rattle.acpi_tables.specs.Reading.{hest_of}
use Rattle.acpi_tables.proofs.ReadBack.{hest_back}
use Rattle.acpi_tables.proofs.TableLemmas.{hest_points, hest_sums}
use Rattle.acpi_tables.proofs.tables.hest.Goals as goal

pub returns : goal.returns
returns c =
    let made : c.hest_with-2.result ≡ hest_bytes = c.hest_with-2.ensures ∙ ap hest_with (c.checksum_over.ensures ∙ ap checksum_of c.hest_with.ensures) in
    record {
      bytes = made;
      reads_back = λ (rest : List ℕ). ap (λ (xs : List ℕ). hest_of (xs ++ rest)) made ∙ hest_back rest;
      checked = subst SumsToZero (sym made) hest_sums;
      points = ap status_address made ∙ hest_points;
    }
