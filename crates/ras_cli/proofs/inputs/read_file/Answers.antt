use Rattle.ras_cli.proofs.ReadsLemmas.{whole_read, longer_stops, failed_stops, unread_stops}
use Rattle.ras_cli.proofs.inputs.read_file.Goals as goal

pub returns-in-Ok-Whole-clause-reached : goal.returns-in-Ok-Whole-clause-reached
returns-in-Ok-Whole-clause-reached g c =
    whole_read c.args.file c.args.name.now _ _ _ (rw (c.in-Ok-Whole.field-0-is, c.limit.ensures) at c.in-Ok-Whole.ensures.got) (rw c.limit.ensures at c.read.ensures.performs)

pub returns-in-Ok-Longer-clause-stopped : goal.returns-in-Ok-Longer-clause-stopped
returns-in-Ok-Longer-clause-stopped g c =
    longer_stops c.args.file c.args.name.now _ _ _ _ _ _ _ (rw (c.in-Ok-Longer.field-0-is, c.limit.ensures) at c.in-Ok-Longer.ensures.got) (rw c.limit.ensures at c.read.ensures.performs)
    c.read.ensures.later (rw (c.as_slice.ensures.value, c.too_long.ensures) at c.refuse.ensures.follows) c.refuse.ensures.refusal c.refuse.ensures.ends

pub returns-in-Err-Failed-clause-stopped : goal.returns-in-Err-Failed-clause-stopped
returns-in-Err-Failed-clause-stopped g c =
    rw c.status.ensures (failed_stops c.args.file c.args.name.now _ _ _ _ (rw c.limit.ensures at c.read.ensures.performs) c.read.ensures.later (c.read.ensures.failed (rw c.in-Err-Failed.field-0-is at c.in-Err-Failed.is)))

pub returns-in-Err-NoMemory-clause-stopped : goal.returns-in-Err-NoMemory-clause-stopped
returns-in-Err-NoMemory-clause-stopped g c =
    rw c.status-in-Err-NoMemory.ensures (unread_stops c.args.file c.args.name.now _ _ _ _ (rw c.limit.ensures at c.read.ensures.performs) c.read.ensures.later)
