use Rattle.std.proofs.Common.{◌≡◌, ◌-◌, ◌+◌, ◌/◌, ◌++◌, ◌∙◌, ap, sym, arith, drop, set}
use Rattle.std.proofs.lemmas.Grind.{common_steps}
use Rattle.ras_numbers.specs.Numbers.{hex_text}
use Rattle.ras_numbers.proofs.ReadBack.{set_down, none_left}
use Rattle.ras_numbers.proofs.writing.hex_digits.Goals as goal

pub loop-i-preserved : goal.loop-i-preserved
loop-i-preserved g c =
    let at : g.row.N - (c.loop-i.i + 1) ≡ g.row.N - 1 - c.loop-i.i = omega arith in
    record {
      size = grind (arith, common_steps);
      whole =
          ap (λ k. hex_text k (c.loop-i.left / 16) ++ drop k (set c.loop-i.text (g.row.N - 1 - c.loop-i.i) c.hex_digit.result)) at
          ∙ set_down (g.row.N - c.loop-i.i) c.loop-i.left (g.row.N - 1 - c.loop-i.i) c.hex_digit.result c.loop-i.text (omega arith) (omega arith) (omega (arith, c.loop-i.invariant.size)) c.hex_digit.ensures
          ∙ c.loop-i.invariant.whole;
    }

pub returns : goal.returns
returns g c =
    sym (none_left (g.row.N - c.loop-i.i) c.loop-i.left c.loop-i.text (omega arith)) ∙ c.loop-i.invariant.whole
