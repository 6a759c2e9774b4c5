use Rattle.std.proofs.Common.{◌∙◌, ◌++◌, ◌+◌, ℕ, List, length, ap, arith}
use Rattle.std.specs.Int.{from_bool}
use Rattle.ras_debug.specs.Replies.{is_poison, seen, poison_line}
use Rattle.ras_debug.proofs.Lines.{no_poison, none_counted, poison_more, counted_more, at_most_one}
use Rattle.ras_debug.proofs.inspecting.push_poisoned.Goals as goal

pub loop-w-init : goal.loop-w-init
loop-w-init c = record {
  text = no_poison c.args.m.now c.args.reply.now c.requires.empty;
  count = none_counted c.args.m.now;
  below = omega arith;
  room = omega (arith, ap length c.requires.empty);
  most = omega (arith, ap length c.requires.empty);
}

pub loop-w-preserved : goal.loop-w-preserved
loop-w-preserved c =
    let m = c.args.m.now in
    let w = c.loop-w.w in
    record {
      text = c.push_if_poisoned-count.ensures.text ∙ ap (λ (text : List ℕ). text ++ poison_line m w) c.loop-w.invariant.text ∙ poison_more m w;
      count = c.push_if_poisoned-count.ensures.count ∙ ap (λ (n : ℕ). n + from_bool (is_poison (seen m w))) c.loop-w.invariant.count ∙ counted_more m w;
      below = omega (arith, c.push_if_poisoned-count.ensures.count, at_most_one (is_poison (seen m w)), c.loop-w.invariant.below);
      room = c.push_if_poisoned-count.ensures.room;
      most = c.push_if_poisoned-count.ensures.most;
    }
