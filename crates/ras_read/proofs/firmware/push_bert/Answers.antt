use Rattle.ras_read.proofs.LineLemmas.{bert_printed, on_ok}
use Rattle.ras_read.proofs.firmware.push_bert.Goals as goal

pub returns : goal.returns
returns c = on_ok c.extend_from_slice.result _ _ _ c.extend_from_slice.ensures.items
    (λ end. bert_printed c.args.out.now.items c.push_number.new.out.items c.push_address.new.out.items c.extend_from_slice.new.self.items c.args.bert c.from.result c.from.ensures
    c.in_ok-push_number.ensures c.in_ok-push_address.ensures end)
