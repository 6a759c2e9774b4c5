-- How a run keeps to the flat machine's, out of its ways and its third flip; and by lines of the same steps in another order.
use Rattle.std.proofs.Common.{ℕ, ◌+◌, ◌≡◌, Option, Some, None, List, refl, subst, arith}
use Rattle.poison_mem.specs.declared.event.Class.TheVariants.{Critical}
use Rattle.fault_script.specs.declared.lines.ScriptLine.{ScriptLine}
use Rattle.fault_script.specs.Steps.{at_step}
use Rattle.reri_inject.specs.Due.{IsDue}
use Rattle.ras_machine.specs.declared.ending.Ending.{Ending}
use Rattle.ras_machine.specs.declared.state.MachineState.{MachineState}
use Rattle.ras_machine.specs.Flat.{FlatMachine}
use Rattle.ras_machine.specs.Since.{step_after, last_whole_store, FlipsAtMost, ThirdTold}
use Rattle.ras_machine.specs.Ways.{Way, AsFlat, AtFlips, AtInjection, IsWay, InjectNoCritical, EndsBy, KeepsToFlat}
use Rattle.ras_machine.proofs.Counting.{counted_from, between_all, same_flips}
use Rattle.ras_machine.specs.Schedule.{Given}
use Rattle.ras_machine.proofs.ErrorSteps.{no_injection_due, same_inject_lines}

-- where no two lines flip the same word, and none injects a critical error, a run ends as the flat machine's
pub only_as_flat : {B : Type 0} (given : Given) (flat : FlatMachine) (lines : List ScriptLine) (ending : Ending) (s : MachineState B) → FlipsAtMost 1 lines → InjectNoCritical lines
    → (way : Way) → EndsBy given flat lines ending s way → EndsBy given flat lines ending s AsFlat
only_as_flat given flat lines ending s once mild AsFlat it = it
only_as_flat given flat lines ending s once mild (AtInjection n id address) it = absurd (no_injection_due lines id n address mild it.is_way.due)
only_as_flat given flat lines ending s once mild (AtFlips n w use_kind) it =
    let twice = it.is_way.flipped_twice in
    let all = once.each w in
    let fewer = between_all lines w (step_after (last_whole_store given flat.state w n)) (n + 1) in
    absurd (omega arith)

-- no third flip is told where no three lines flip the same word
pub clear : (lines : List ScriptLine) (beyond : Option (ℕ × ℕ)) → ThirdTold lines beyond → FlipsAtMost 2 lines → beyond ≡ None
clear lines None told few = refl
clear lines (Some x) told few =
    let three = told x.0 x.1 refl in
    let all = few.each x.1 in
    let fewer = between_all lines x.1 0 (x.0 + 1) in
    absurd (omega arith)

pub at_most_more : (lines : List ScriptLine) → FlipsAtMost 1 lines → FlipsAtMost 2 lines
at_most_more lines once = record { each = λ w. let one = once.each w in omega arith }

-- the theorem of a run, out of its ways and its third flip
pub keeps_to_flat : (beyond : Option (ℕ × ℕ)) (lines : List ScriptLine) (Ends : Way → Type 0) → (beyond ≡ None → (way : Way) × Ends way) → ThirdTold lines beyond
    → (FlipsAtMost 1 lines → InjectNoCritical lines → (way : Way) → Ends way → Ends AsFlat) → KeepsToFlat beyond lines Ends
keeps_to_flat beyond lines Ends ways told only = record {
  ways = ways;
  third = told;
  no_three = λ few. ways (clear lines beyond told few);
  no_two = λ few mild.
      let way = ways (clear lines beyond told (at_most_more lines few)) in
      only few mild way.0 way.1;
}

-- lines of the same steps, in another order between them
module _ (given : Given) (flat : FlatMachine) (read lines : List ScriptLine) (same : (step : ℕ) → at_step step lines ≡ at_step step read) where
  same_way : (way : Way) → IsWay given flat lines way → IsWay given flat read way
  same_way AsFlat it = it
  same_way (AtFlips n w use_kind) it = record {
    early = it.early;
    asks = it.asks;
    flipped_twice =
        let low = counted_from given flat.state w n in
        let e = same_flips lines read same w (step_after (last_whole_store given flat.state w n)) (n + 1) (omega arith) in
        let twice = it.flipped_twice in
        omega arith;
  }
  same_way (AtInjection n id address) it = record {
    early = it.early;
    due = subst (λ injections. IsDue injections n (record { class = Critical; addr = address })) (same_inject_lines lines read same id n) it.due;
  }

  same_ends : {B : Type 0} (ending : Ending) (s : MachineState B) (way : Way) → EndsBy given flat lines ending s way → EndsBy given flat read ending s way
  same_ends ending s way it = record {
    is_way = same_way way it.is_way;
    same_ending = it.same_ending;
    harts = it.harts;
    place = it.place;
    console = it.console;
    region = it.region;
  }

  pub same_keeps : {B : Type 0} (beyond : Option (ℕ × ℕ)) (ending : Ending) (s : MachineState B)
      → KeepsToFlat beyond lines (EndsBy given flat lines ending s) → KeepsToFlat beyond read (EndsBy given flat read ending s)
  same_keeps beyond ending s it =
      keeps_to_flat beyond read (EndsBy given flat read ending s)
      (λ none. let way = it.ways none in (way.0, same_ends ending s way.0 way.1))
      (λ n w is. let e = same_flips lines read same w 0 (n + 1) (omega arith) in let three = it.third n w is in omega arith)
      (only_as_flat given flat read ending s)
