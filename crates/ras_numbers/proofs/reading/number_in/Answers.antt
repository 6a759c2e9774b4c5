use Rattle.std.proofs.Common.{◌∙◌, sym, arith}
use Rattle.std.proofs.lemmas.Grind.{common_steps}
use Rattle.ras_numbers.proofs.Places.{read_whole, read_over, ended}
use Rattle.ras_numbers.proofs.reading.number_in.Goals as goal

pub loop-byte-init : goal.loop-byte-init
loop-byte-init c = record {
  small = omega arith;
  whole = read_whole c.args.base c.args.digits.now (grind (arith, common_steps));
}

pub returns-in_err-checked_mul : goal.returns-in_err-checked_mul
returns-in_err-checked_mul c =
    c.from_residual-in_err-checked_mul.ensures
    ∙ sym (read_over c.args.base c.loop-byte.value c.args.digits.now c.loop-byte.byte-index c.in_ok-digit.digit (omega arith) (sym c.in_ok-digit.ensures) c.requires (omega (arith, c.in_err-checked_mul.ensures)))
    ∙ c.loop-byte.invariant.whole

pub returns-in_err-value : goal.returns-in_err-value
returns-in_err-value c =
    c.from_residual-in_err-value.ensures
    ∙ sym (read_over c.args.base c.loop-byte.value c.args.digits.now c.loop-byte.byte-index c.in_ok-digit.digit (omega arith) (sym c.in_ok-digit.ensures) c.requires (omega (arith, c.in_ok-checked_mul.ensures, c.in_err-value.ensures)))
    ∙ c.loop-byte.invariant.whole

pub returns : goal.returns
returns c = ended c.args.base c.loop-byte.value c.args.digits.now c.loop-byte.byte-index (omega arith) (omega arith) ∙ c.loop-byte.invariant.whole
