use Rattle.ras_read.proofs.LineLemmas.{memory_printed, on_ok}
use Rattle.ras_read.proofs.memory.push_memory.Goals as goal

pub returns : goal.returns
returns c = on_ok c.extend_from_slice.result _ _ _ c.extend_from_slice.ensures.items
    (λ end. memory_printed c.args.out.now.items c.push_valid_address.new.out.items c.push_valid_number.new.out.items c.push_fru.new.out.items c.extend_from_slice.new.self.items
    c.args.view c.args.fru c.in_ok-push_valid_address.ensures c.in_ok-push_valid_number.ensures c.in_ok-push_fru.ensures end)
