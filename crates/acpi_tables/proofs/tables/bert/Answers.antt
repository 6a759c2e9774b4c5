use Rattle.std.proofs.Common.{◌≡◌, ◌++◌, ℕ, List, sym, ◌∙◌, ap, subst}
use Rattle.acpi_tables.specs.TableHeader.{SumsToZero, checksum_of}
use Rattle.acpi_tables.specs.Tables.{bert_with, bert_bytes}
use Rattle.acpi_tables.specs.Reading.{bert_of}
use Rattle.acpi_tables.proofs.ReadBack.{bert_back}
use Rattle.acpi_tables.proofs.TableLemmas.{bert_sums}
use Rattle.acpi_tables.proofs.tables.bert.Goals as goal

pub returns : goal.returns
returns c =
    let made : c.bert_with-2.result ≡ bert_bytes = c.bert_with-2.ensures ∙ ap bert_with (c.checksum_over.ensures ∙ ap checksum_of c.bert_with.ensures) in
    record {
      bytes = made;
      reads_back = λ (rest : List ℕ). ap (λ (xs : List ℕ). bert_of (xs ++ rest)) made ∙ bert_back rest;
      checked = subst SumsToZero (sym made) bert_sums;
    }
