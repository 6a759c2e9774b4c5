use Rattle.std.proofs.Common.{◌∙◌, ◌++◌, ◌+◌, ◌*◌, ℕ, List, length, ap, arith}
use Rattle.ras_debug.specs.Replies.{instruction_line, instruction_lines}
use Rattle.ras_debug.proofs.Lines.{no_instructions, instructions_more}
use Rattle.ras_debug.proofs.inspecting.push_instructions.Goals as goal

pub loop-i-init : goal.loop-i-init
loop-i-init c = record {
  text = no_instructions c.args.m.now c.args.address c.args.reply.now c.requires.empty;
  len = omega (arith, ap length c.requires.empty);
}

pub loop-i-preserved : goal.loop-i-preserved
loop-i-preserved c =
    let m = c.args.m.now in
    let address = c.args.address in
    let i = c.loop-i.i in
    record {
      text = c.push_instruction.ensures.text ∙ ap (λ (text : List ℕ). text ++ instruction_line m (address + 4 * c.from.result)) c.loop-i.invariant.text
          ∙ ap (λ (k : ℕ). instruction_lines m address i ++ instruction_line m (address + 4 * k)) c.from.ensures
          ∙ instructions_more m address i;
      len = omega arith;
    }
