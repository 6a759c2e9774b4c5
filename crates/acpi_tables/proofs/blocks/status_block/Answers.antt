use Rattle.std.proofs.Common.{◌≡◌, ◌∙◌, ap, subst, ◌++◌, List, ℕ, drop, ◌+◌, ◌<◌, ◌^◌, arith}
use Rattle.std.specs.List.{All, flat_map}
use Rattle.std.proofs.lemmas.List.{take_all}
use Rattle.std.proofs.lemmas.List.Elements.{All-more, recursion_from_All}
use Rattle.acpi_tables.specs.Blocks.{block_bytes, data_length}
use Rattle.acpi_tables.specs.Entries.{entry_bytes}
use Rattle.acpi_tables.specs.Reading.{block_of}
use Rattle.acpi_tables.specs.Written.{IsEntry}
use Rattle.acpi_tables.proofs.BlockLemmas.{entry_written, all_written, empty_block}
use Rattle.acpi_tables.proofs.ReadBack.{block_back}
use Rattle.acpi_tables.proofs.blocks.status_block.Goals as goal

pub loop-entry-preserved : goal.loop-entry-preserved
loop-entry-preserved c =
    let entries = c.args.entries.now in
    let i = c.loop-entry.entry-index in
    record {
      whole = ap (λ (xs : List ℕ). xs ++ flat_map entry_bytes (drop (i + 1) entries)) c.push_entry.ensures.items
          ∙ entry_written c.loop-entry.out.items entries i c.entry-item.result c.loop-entry-test.true c.entry-item.is
          ∙ c.loop-entry.invariant.whole;
      typed = All-more IsEntry entries i c.entry-item.result c.loop-entry-test.true c.loop-entry.invariant.typed
          (subst IsEntry c.entry-item.is c.push_entry.ensures.typed);
      room = omega (arith, c.push_entry.ensures.len, c.loop-entry.invariant.room);
    }

pub returns : goal.returns
returns c =
    let entries = c.args.entries.now in
    let made : c.loop-entry.out.items ≡ block_bytes entries =
    all_written c.loop-entry.out.items (block_bytes entries) entries c.loop-entry.entry-index (omega arith) c.loop-entry.invariant.whole in
    let typed : All IsEntry entries = subst (All IsEntry) (take_all c.loop-entry.entry-index entries (omega arith)) c.loop-entry.invariant.typed in
    let small : data_length entries < 2 ^ 32 = omega (arith, c.length_of.ensures.value, c.length_of.ensures.bound) in
    record {
      bytes = made;
      empty = λ none. made ∙ empty_block entries none;
      reads_back = λ rest. ap (λ (xs : List ℕ). block_of (xs ++ rest)) made ∙ block_back entries rest c.requires small (recursion_from_All IsEntry entries typed);
    }
