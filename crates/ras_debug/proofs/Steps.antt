-- Steps, one after the other.
use Rattle.std.proofs.Common.{◌≡◌, ℕ, zero, suc, ◌+◌, ◌∙◌, true, false, List, Option, Some, None, refl, ap, add-one}
use Rattle.ras_machine.specs.declared.ending.Ending.{Ending}
use Rattle.ras_machine.specs.Acted.{Acted}
use Rattle.ras_machine.specs.Runs.{unless_ended, iterated}
use Rattle.ras_machine.specs.RunsLaws.{iterated_next, iterated_stays}
use Rattle.ras_machine.specs.Machine.{StackState, StackMachine, machine_after, machine_stepped, stack_step}
use Rattle.ras_debug.specs.Running.{RunState, stepped, advanced, is_held, held_within}

-- a step changes no setting
kept : (ending : Option Ending) (m : StackMachine) (a : Acted StackState) → (unless_ended ending m (machine_after m a)).settings ≡ m.settings
kept None m a = refl
kept (Some ending) m a = refl

pub settings_kept : (r : RunState) → (stepped r).machine.settings ≡ r.machine.settings
settings_kept r = kept r.machine.ended r.machine (stack_step r.machine.settings r.given r.script r.machine.state)

-- a machine that has ended stays
pub ended_stays : (r : RunState) (ending : Ending) → r.machine.ended ≡ Some ending → machine_stepped r.given r.script r.machine ≡ r.machine
ended_stays r ending is = ap (λ (e : Option Ending). unless_ended e r.machine (machine_after r.machine (stack_step r.machine.settings r.given r.script r.machine.state))) is

pub advanced_ended : (left : ℕ) (r : RunState) (ending : Ending) → r.machine.ended ≡ Some ending → advanced left r ≡ r
advanced_ended left r ending is =
    ap (λ (m : StackMachine). record r { machine = m }) (iterated_stays left (machine_stepped r.given r.script) r.machine (ended_stays r ending is))

-- one step, and then those that are left
pub advanced_next : (n left : ℕ) (r : RunState) → n ≡ left + 1 → advanced n r ≡ advanced left (stepped r)
advanced_next n left r more =
    ap (λ (m : StackMachine). record r { machine = m }) (iterated_next n left (machine_stepped r.given r.script) r.machine (more ∙ add-one left))

pub advanced_over : (left : ℕ) (r : RunState) → left ≡ 0 → advanced left r ≡ r
unfolding iterated
advanced_over left r none = rw none refl

-- where the run is held it stays
pub held_here : (left : ℕ) (breakpoints : List ℕ) (r : RunState) → is_held breakpoints r ≡ true → held_within left breakpoints r ≡ r
unfolding held_within
held_here zero breakpoints r held = refl
held_here (suc left) breakpoints r held = rw held refl

-- and where it isn't it makes a step
pub held_next : (n left : ℕ) (breakpoints : List ℕ) (r : RunState) → n ≡ left + 1 → is_held breakpoints r ≡ false
    → held_within n breakpoints r ≡ held_within left breakpoints (stepped r)
unfolding held_within
held_next n left breakpoints r more free = rw (more, add-one left, free) refl

pub held_over : (left : ℕ) (breakpoints : List ℕ) (r : RunState) → left ≡ 0 → held_within left breakpoints r ≡ r
unfolding held_within
held_over left breakpoints r none = rw none refl
