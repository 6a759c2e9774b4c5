use Rattle.std.proofs.Common.{decimal}
use Rattle.ras_numbers.specs.Numbers.{address_text}
use Rattle.fault_script.specs.Fields.{class_text}
use Rattle.fault_script.proofs.WritingLemmas.{injection_appended}
use Rattle.fault_script.proofs.writing.push_fields.Goals as goal

pub returns-in-Inject-clause-items : goal.returns-in-Inject-clause-items
returns-in-Inject-clause-items c =
    let i = c.in-Inject in
    rw i.is
    (injection_appended c.args.out.now.items (decimal i.bank) (decimal i.rec) (class_text i.class) (decimal i.delay) (address_text i.addr) _ _ _ _
    c.push_record.ensures.items c.push_class.ensures.items c.push_short-in-Inject.ensures.items c.push_address-in-Inject.ensures.items)
