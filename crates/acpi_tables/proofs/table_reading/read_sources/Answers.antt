use Rattle.std.proofs.Common.{◌≡◌, ◌-◌, ◌+◌, sym, ◌∙◌, ap, arith}
use Rattle.acpi_tables.proofs.TableLemmas.{source_read, sources_from}
use Rattle.acpi_tables.proofs.table_reading.read_sources.Goals as goal

pub loop-i-preserved : goal.loop-i-preserved
loop-i-preserved c =
    let less : c.args.count - (c.loop-i.i + 1) ≡ c.args.count - c.loop-i.i - 1 = omega arith in
    ap (sources_from c.args.end c.args.b.now (c.loop-i.i + 1)) less
    ∙ sym (source_read c.args.end c.args.b.now c.loop-i.i (c.args.count - c.loop-i.i) (omega arith) (omega arith) (sym c.u16_in.ensures ∙ c.if-u16_in-ne-GENERIC_SOURCE.false))
    ∙ c.loop-i.invariant
