use Rattle.std.proofs.Common.{refl}
use Rattle.poison_mem.specs.RecordIdLaws.{named_by_own, named_alone}
use Rattle.poison_mem.proofs.record_id.records_are_named_by_their_numbers.Goals as goal

pub returns-clause-own : goal.returns-clause-own
returns-clause-own c id = named_by_own id

pub returns-clause-alone : goal.returns-clause-alone
returns-clause-alone c bank rec id e = named_alone bank rec id e

pub returns-clause-all : goal.returns-clause-all
returns-clause-all c = refl
