use Rattle.std.proofs.Common.{◌∙◌, ap, drop, sym}
use Rattle.cper_sections.specs.Reading.{record_of}
use Rattle.ras_read.proofs.InsideLemmas.{record_whole}
use Rattle.ras_read.proofs.LineLemmas.{rest_at}
use Rattle.ras_read.proofs.records.record_at.Goals as goal

pub returns-in-Ok-clause-whole : goal.returns-in-Ok-clause-whole
returns-in-Ok-clause-whole c =
    let b = c.args.b.now in
    let at = c.args.at in
    record_whole (drop at b) c.in-Ok.cper (sym (c.in-Ok.ensures ∙ ap record_of (rest_at b at)))
