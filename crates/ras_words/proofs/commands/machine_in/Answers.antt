use Rattle.std.proofs.Common.{arith, sym}
use Rattle.clap_words.specs.Reading.{value_of}
use Rattle.ras_words.specs.Tables as rows
use Rattle.ras_words.specs.declared.limits.TheConstants.{STEPS, RAM_SIZE, PATROL_STEPS, HART_COUNT}
use Rattle.ras_words.proofs.Ranges.{number_between}
use Rattle.ras_words.proofs.commands.machine_in.Goals as goal

pub returns-clause-limits : goal.returns-clause-limits
returns-clause-limits c =
    let given = c.args.given.now in
    let budget = number_between STEPS (value_of rows.budget.name given) c.in_ok-budget.budget (omega arith) (omega arith) (sym c.in_ok-budget.ensures.number) in
    let ram = number_between RAM_SIZE (value_of rows.ram_mib.name given) c.in_ok-ram_mib.ram_mib (omega arith) (omega arith) (sym c.in_ok-ram_mib.ensures.number) in
    let patrol = number_between PATROL_STEPS (value_of rows.patrol.name given) c.in_ok-patrol.patrol (omega arith) (omega arith) (sym c.in_ok-patrol.ensures.number) in
    let harts = number_between HART_COUNT (value_of rows.harts.name given) c.in_ok-harts.harts (omega arith) (omega arith) (sym c.in_ok-harts.ensures.number) in
    record {
      budget = budget.high;
      ram_least = ram.low;
      ram_most = ram.high;
      poll_is_not_one = c.in_ok-poll.ensures.other;
      poll = c.in_ok-poll.ensures.most;
      patrol = patrol.high;
      some_harts = harts.low;
      few_harts = harts.high;
    }
