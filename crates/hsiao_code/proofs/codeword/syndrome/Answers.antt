use Rattle.std.proofs.Common.{sym, ◌∙◌, ap, arith, bit_xor}
use Rattle.hsiao_code.specs.ReadingLaws.{syndrome_of-bits}
use Rattle.hsiao_code.proofs.codeword.syndrome.Goals as goal

pub returns : goal.returns
returns c =
    let parts = ap (λ x. bit_xor x c.args.check) c.check_of.ensures in
    record { by_parts = parts; whole = parts ∙ sym (syndrome_of-bits c.args.v c.args.check (omega arith) (omega arith)) }
