use Rattle.ras_read.proofs.LineLemmas.{on_ok, processor_printed}
use Rattle.ras_read.proofs.processor.push_processor.Goals as goal

pub returns : goal.returns
returns c = on_ok c.extend_from_slice.result _ _ _ c.extend_from_slice.ensures.items
    (λ end. processor_printed c.args.out.now.items c.push_valid_number.new.out.items c.push_valid_number-2.new.out.items c.push_valid_number-3.new.out.items c.push_valid_number-4.new.out.items
    c.push_valid_address.new.out.items c.push_valid_address-2.new.out.items c.push_fru.new.out.items c.extend_from_slice.new.self.items c.args.view.now c.args.fru
    c.in_ok-push_valid_number.ensures c.in_ok-push_valid_number-2.ensures c.in_ok-push_valid_number-3.ensures c.in_ok-push_valid_number-4.ensures
    c.in_ok-push_valid_address.ensures c.in_ok-push_valid_address-2.ensures c.in_ok-push_fru.ensures end)
