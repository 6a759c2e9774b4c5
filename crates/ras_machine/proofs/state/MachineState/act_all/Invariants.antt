use Rattle.std.proofs.Common.{ℕ, length, ◌-◌, ◌+◌, ◌≡◌, ◌<◌, ◌≤◌, drop, slice_index_or}
use Rattle.fault_script.specs.Steps.{at_step}
use Rattle.fault_script.specs.declared.lines.ScriptLine.{ScriptLine}
use Rattle.ras_machine.specs.Actions.{lines_acted}
use Rattle.ras_machine.proofs.state.MachineState.act_all.Given as goal

-- the acts that are left, after those that were done, are all acts of the step
abbrev pub invariant-loop-next : goal.invariant-loop-next
invariant-loop-next g l =
    let n = l.fn.self.steps in
    let over = lines_acted g.B.FlipBus.flips in
    record {
      left : (over (at_step n l.lines) l.fn.self).after ≡ (over (at_step n (drop l.next l.lines)) l.self).after;
      words : g.B.Bus.meaning.words l.self.shared.memory ≡ g.B.Bus.meaning.words l.fn.self.shared.memory;
      harts : length l.self.shared.harts ≡ length l.fn.self.shared.harts;
      poll : l.self.poll ≡ l.fn.self.poll;
      patrol : l.self.patrol ≡ l.fn.self.patrol;
      steps : l.self.steps ≡ n;
      inside : l.next ≤ length l.lines;
      before : (i : ℕ) (d : ScriptLine) → i < l.next → (slice_index_or l.lines i d).step < n + 1;
      behind : (i : ℕ) (d : ScriptLine) → l.next ≤ i → i < length l.lines → n ≤ (slice_index_or l.lines i d).step;
    }

abbrev pub decreases-loop-next : goal.decreases-loop-next
decreases-loop-next g l = length l.lines - l.next
