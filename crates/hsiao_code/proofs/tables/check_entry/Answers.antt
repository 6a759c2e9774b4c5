use Rattle.std.proofs.Common.{◌∙◌, ap, arith}
use Rattle.hsiao_code.specs.Code.{check_of_byte}
use Rattle.hsiao_code.proofs.Entries.{entry_0, entry_1, entry_2, entry_3, entry_4, entry_5, entry_6, entry_7}
use Rattle.hsiao_code.proofs.tables.check_entry.Goals as goal

pub returns-in-0 : goal.returns-in-0
returns-in-0 c = entry_0 c.args.b (omega arith) ∙ ap (λ k. check_of_byte k c.args.b) (omega arith)

pub returns-in-1 : goal.returns-in-1
returns-in-1 c = entry_1 c.args.b (omega arith) ∙ ap (λ k. check_of_byte k c.args.b) (omega arith)

pub returns-in-2 : goal.returns-in-2
returns-in-2 c = entry_2 c.args.b (omega arith) ∙ ap (λ k. check_of_byte k c.args.b) (omega arith)

pub returns-in-3 : goal.returns-in-3
returns-in-3 c = entry_3 c.args.b (omega arith) ∙ ap (λ k. check_of_byte k c.args.b) (omega arith)

pub returns-in-4 : goal.returns-in-4
returns-in-4 c = entry_4 c.args.b (omega arith) ∙ ap (λ k. check_of_byte k c.args.b) (omega arith)

pub returns-in-5 : goal.returns-in-5
returns-in-5 c = entry_5 c.args.b (omega arith) ∙ ap (λ k. check_of_byte k c.args.b) (omega arith)

pub returns-in-6 : goal.returns-in-6
returns-in-6 c = entry_6 c.args.b (omega arith) ∙ ap (λ k. check_of_byte k c.args.b) (omega arith)

pub returns-in_default : goal.returns-in_default
returns-in_default c = entry_7 c.args.b (omega arith) ∙ ap (λ k. check_of_byte k c.args.b) (omega arith)
