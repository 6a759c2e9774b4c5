use Rattle.std.proofs.Common.{◌∙◌, arith}
use Rattle.ras_gen.proofs.DemoLines.{three_more, line_of, line_more, all_lines}
use Rattle.ras_gen.proofs.demo.script.Goals as goal

pub loop-line-preserved : goal.loop-line-preserved
loop-line-preserved c =
    let before = c.loop-line.invariant.1 in
    let line = line_of c.args.n c.loop-line.line _ _ _ _ _ _ _ before c.draw-step.ensures.state c.draw.ensures.state c.draw-bit.ensures.state
    c.draw-step.ensures.drawn c.draw.ensures.drawn c.draw-bit.ensures.drawn in (
      c.in_ok-push_flip.ensures ∙ rw (c.loop-line.invariant.0) (line_more c.args.n c.loop-line.line _ line),
      three_more c.args.n c.loop-line.line _ _ _ _ before c.draw-step.ensures.state c.draw.ensures.state c.draw-bit.ensures.state,
    )

pub returns : goal.returns
returns c = c.loop-line.invariant.0 ∙ all_lines c.args.n c.loop-line.line (let over = c.loop-line-test.false in omega arith)
