-- The acts of a step keep what the memory stands for, unless one of them is a third flip.
use Rattle.std.proofs.Common.{ℕ, ◌+◌, ◌≡◌, ◌≤◌, ◌<◌, Bool, true, false, List, [], ◌∷◌, Option, Some, None, length, refl, ◌∙◌, arith, cond}
use Rattle.std.specs.Prelude.{if◌then◌else◌}
use Rattle.std.specs.List.{AllByRecursion}
use Rattle.poison_mem.specs.Bus.{BusMeaning}
use Rattle.poison_mem.specs.Cells.{CellsKeepCounts, is_third, raised_at}
use Rattle.poison_mem.specs.Flips.{FlipMeaning, IsFaithful}
use Rattle.fault_script.specs.declared.lines.Act.{Act}
use Rattle.fault_script.specs.declared.lines.Act.TheVariants.{Flip, Scrub, Inject, Control}
use Rattle.fault_script.specs.declared.lines.ScriptLine.{ScriptLine}
use Rattle.fault_script.specs.Fits.{FitsRam, FitsRamAct}
use Rattle.ras_machine.specs.declared.state.MachineState.{MachineState}
use Rattle.ras_machine.specs.Actions.{or_else, struck, third_flip, act_done, lines_acted}
use Rattle.ras_machine.specs.Since.{is_flip_of}
use Rattle.ras_machine.specs.TwoRuns.{StandsFor}
use Rattle.ras_machine.proofs.Counting.{flips_of, count-cons, raised_most}

first_none : {X : Type 0} (a b : Option X) → or_else a b ≡ None → a ≡ None
first_none None b h = refl
first_none (Some x) b h = cc

second_none : {X : Type 0} (a : Option X) (b : Bool) (x : X) → or_else a (if b then Some x else None) ≡ None → b ≡ false
second_none None true x h = cc
second_none None false x h = refl
second_none (Some y) b x h = cc

module _ {B : Type 0} (bus : BusMeaning B) (flips : FlipMeaning B) (stands : B → (ℕ → ℕ) → (ℕ → ℕ) → Type 0) where
  -- what each act leaves, lines leave: the harts, the place in the input, the console, the patrol and the number of steps
  lines_keep : {X : Type 0} (part : MachineState B → X) → ((act : Act) (s : MachineState B) → part (act_done flips act s).after ≡ part s)
      → (lines : List ScriptLine) (s : MachineState B) → part (lines_acted flips lines s).after ≡ part s
  lines_keep part keeps [] s = refl
  lines_keep part keeps (line ∷ lines) s = lines_keep part keeps lines (act_done flips line.act s).after ∙ keeps line.act s

  pub lines_harts : (lines : List ScriptLine) (s : MachineState B) → (lines_acted flips lines s).after.shared.harts ≡ s.shared.harts
  lines_harts = lines_keep (λ s. s.shared.harts) (λ act s. refl)

  pub lines_place : (lines : List ScriptLine) (s : MachineState B) → (lines_acted flips lines s).after.place ≡ s.place
  lines_place = lines_keep (λ s. s.place) (λ act s. refl)

  pub lines_console : (lines : List ScriptLine) (s : MachineState B) → (lines_acted flips lines s).after.console ≡ s.console
  lines_console = lines_keep (λ s. s.console) (λ act s. refl)

  pub lines_patrol : (lines : List ScriptLine) (s : MachineState B) → (lines_acted flips lines s).after.patrol ≡ s.patrol
  lines_patrol = lines_keep (λ s. s.patrol) (λ act s. refl)

  pub lines_steps : (lines : List ScriptLine) (s : MachineState B) → (lines_acted flips lines s).after.steps ≡ s.steps
  lines_steps = lines_keep (λ s. s.steps) (λ act s. refl)

  -- what was found stays found
  pub lines_none : (lines : List ScriptLine) (s : MachineState B) → (lines_acted flips lines s).after.beyond ≡ None → s.beyond ≡ None
  lines_none [] s none = none
  lines_none (line ∷ lines) s none =
      first_none s.beyond (third_flip flips s.steps line.act s.shared.memory) (lines_none lines (act_done flips line.act s).after none)

  -- a state stands for the same words within more flips
  pub more_flips : IsFaithful bus flips stands → (ram : List ℕ) (q r : ℕ → ℕ) (b : B) → ((w : ℕ) → q w ≤ r w) → StandsFor bus stands ram q b → StandsFor bus stands ram r b
  more_flips faithful ram q r b up it = record { words = it.words; each = faithful.same b _ _ q r it.each (λ w inside. refl) (λ w inside. up w) }

  act_stands : CellsKeepCounts bus.words flips.cells → IsFaithful bus flips stands → (act : Act) (ram : List ℕ) (q : ℕ → ℕ) (s : MachineState B)
      → FitsRamAct (length ram) act → (act_done flips act s).after.beyond ≡ None
      → StandsFor bus stands ram q s.shared.memory → StandsFor bus stands ram (λ w. q w + cond (is_flip_of w act) 1 0) (struck flips act s.shared.memory)
  act_stands keeps faithful (Flip u bit) ram q s fits none it =
      let inside : u < bus.words s.shared.memory = let same = it.words in let there = fits.0 in omega arith in
      more_flips faithful ram (raised_at q u) _ _ (λ w. raised_most q u w)
      (record {
        words = keeps.strike_words s.shared.memory u bit ∙ it.words;
        each = faithful.strike_keeps s.shared.memory u bit _ q inside (let high = fits.1 in omega arith) (second_none s.beyond (is_third (flips.cells.cell s.shared.memory u)) (s.steps, u) none) it.each;
      })
  act_stands keeps faithful (Scrub u) ram q s fits none it =
      let inside : u < bus.words s.shared.memory = let same = it.words in omega arith in
      more_flips faithful ram q _ _ (λ w. omega arith)
      (record { words = keeps.scrub_words s.shared.memory u ∙ it.words; each = faithful.scrub_keeps s.shared.memory u _ q inside it.each })
  act_stands keeps faithful (Inject bank rec class delay addr) ram q s fits none it = more_flips faithful ram q _ _ (λ w. omega arith) it
  act_stands keeps faithful (Control bank rec value) ram q s fits none it = more_flips faithful ram q _ _ (λ w. omega arith) it

  -- lines keep what the memory stands for, where none of them is a third flip
  pub lines_stand : CellsKeepCounts bus.words flips.cells → IsFaithful bus flips stands → (lines : List ScriptLine) (ram : List ℕ) (q : ℕ → ℕ) (s : MachineState B)
      → AllByRecursion (FitsRam (length ram)) lines → (lines_acted flips lines s).after.beyond ≡ None
      → StandsFor bus stands ram q s.shared.memory → StandsFor bus stands ram (λ w. q w + flips_of w lines) (lines_acted flips lines s).after.shared.memory
  lines_stand keeps faithful [] ram q s fits none it = more_flips faithful ram q _ _ (λ w. omega arith) it
  lines_stand keeps faithful (line ∷ lines) ram q s fits none it =
      let here = act_stands keeps faithful line.act ram q s fits.0.1 (lines_none lines (act_done flips line.act s).after none) it in
      more_flips faithful ram _ _ _ (λ w. let all = count-cons (λ line. is_flip_of w line.act) line lines in omega arith)
      (lines_stand keeps faithful lines ram (λ w. q w + cond (is_flip_of w line.act) 1 0) (act_done flips line.act s).after fits.1 none here)
