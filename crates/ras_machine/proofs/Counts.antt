-- No word counts more flips than the script made, so a third flip comes only where three lines flip one word.
use Rattle.std.proofs.Common.{ℕ, ◌+◌, ◌≡◌, ◌≤◌, Bool, true, false, List, [], ◌∷◌, Option, Some, None, refl, subst, arith, cond}
use Rattle.std.specs.Prelude.{◌==◌, if◌then◌else◌}
use Rattle.std.proofs.lemmas.Bool.Decides.{nat_tests}
use Rattle.poison_mem.specs.declared.cell.Cell.{Cell}
use Rattle.poison_mem.specs.declared.cell.Cell.TheVariants.{Good, Poison}
use Rattle.poison_mem.specs.declared.event.Event.{Event}
use Rattle.poison_mem.specs.Bus.{BusMeaning, logged_all}
use Rattle.poison_mem.specs.Cells.{CellsKeepCounts, CountsNoMore, is_third}
use Rattle.poison_mem.specs.CellsLaws.{third_counts_two}
use Rattle.poison_mem.specs.Flips.{FlipMeaning, WordsKeepCounts}
use Rattle.poison_mem.specs.Asking.{Asking, Answer, Ask, Played, Ended, Poisoned, by_cell, bus_of, play}
use Rattle.fault_script.specs.declared.lines.Act.{Act}
use Rattle.fault_script.specs.declared.lines.Act.TheVariants.{Flip, Scrub, Inject, Control}
use Rattle.fault_script.specs.declared.lines.ScriptLine.{ScriptLine}
use Rattle.rv64_hart.specs.Outcome.{Outcome, Store, has_room}
use Rattle.rv64_hart.specs.Step.{stored}
use Rattle.rv64_hart.specs.Harts.{HartsScene, harts_finished_by, harts_finished, harts_step_of}
use Rattle.ras_machine.specs.declared.state.MachineState.{MachineState}
use Rattle.ras_machine.specs.Actions.{or_else, struck, third_flip, act_done, lines_acted}
use Rattle.ras_machine.specs.Since.{is_flip_of, flips_between, ThirdTold}
use Rattle.ras_machine.specs.TwoRuns.{CountsWithin}
use Rattle.ras_machine.proofs.Counting.{flips_of, count-cons, raised_most}

-- the first third flip is told truly where a flip that is found is
told_first : (lines : List ScriptLine) (beyond : Option (ℕ × ℕ)) (third : Bool) (n u : ℕ) → ThirdTold lines beyond → (third ≡ true → 3 ≤ flips_between lines u 0 (n + 1))
    → ThirdTold lines (or_else beyond (if third then Some (n, u) else None))
told_first lines (Some x) third n u told found = told
told_first lines None true n u told found = λ m w is.
    let same : (n, u) ≡ (m, w) = cc is in
    subst (λ (x : ℕ × ℕ). 3 ≤ flips_between lines x.1 0 (x.0 + 1)) same (found refl)
told_first lines None false n u told found = λ m w is. cc is

told_none : (lines : List ScriptLine) (beyond : Option (ℕ × ℕ)) → ThirdTold lines beyond → ThirdTold lines (or_else beyond None)
told_none lines (Some x) told = told
told_none lines None told = told

one_flip : (u : ℕ) → cond {A = ℕ} (u == u) 1 0 ≡ 1
one_flip u = grind (arith, nat_tests)

module _ {B : Type 0} (bus : BusMeaning B) (flips : FlipMeaning B) (cells : CellsKeepCounts bus.words flips.cells) where
  act_counts : (act : Act) (q : ℕ → ℕ) (b : B) → CountsWithin flips q b → CountsWithin flips (λ w. q w + cond (is_flip_of w act) 1 0) (struck flips act b)
  act_counts (Flip u bit) q b within w =
      let struck = cells.strike b u bit w in
      let most = raised_most (λ k. (flips.cells.cell b k).count) u w in
      let before = within w in
      omega arith
  act_counts (Scrub u) q b within w = let scrubbed = cells.scrub b u w in let before = within w in omega arith
  act_counts (Inject bank rec class delay addr) q b within w = let before = within w in omega arith
  act_counts (Control bank rec value) q b within w = let before = within w in omega arith

  -- the lines of a step add their flips
  pub lines_count : (lines : List ScriptLine) (q : ℕ → ℕ) (s : MachineState B) → CountsWithin flips q s.shared.memory
      → CountsWithin flips (λ w. q w + flips_of w lines) (lines_acted flips lines s).after.shared.memory
  lines_count [] q s within w = let before = within w in omega arith
  lines_count (line ∷ lines) q s within w =
      let all = count-cons (λ line. is_flip_of w line.act) line lines in
      let rest = lines_count lines (λ k. q k + cond (is_flip_of k line.act) 1 0) (act_done flips line.act s).after (act_counts line.act q s.shared.memory within) w in
      omega arith

  act_third : (act : Act) (script : List ScriptLine) (q : ℕ → ℕ) (s : MachineState B) → CountsWithin flips q s.shared.memory
      → ((w : ℕ) → q w + cond (is_flip_of w act) 1 0 ≤ flips_between script w 0 (s.steps + 1)) → ThirdTold script s.beyond
      → ThirdTold script (or_else s.beyond (third_flip flips s.steps act s.shared.memory))
  act_third (Flip u bit) script q s within few told =
      told_first script s.beyond (is_third (flips.cells.cell s.shared.memory u)) s.steps u told
      (λ third. let two = third_counts_two (flips.cells.cell s.shared.memory u) third in let most = within u in let all = few u in let here = one_flip u in omega arith)
  act_third (Scrub u) script q s within few told = told_none script s.beyond told
  act_third (Inject bank rec class delay addr) script q s within few told = told_none script s.beyond told
  act_third (Control bank rec value) script q s within few told = told_none script s.beyond told

  -- a third flip by the lines of a step is told truly
  pub lines_third : (lines script : List ScriptLine) (q : ℕ → ℕ) (s : MachineState B) → CountsWithin flips q s.shared.memory
      → ((w : ℕ) → q w + flips_of w lines ≤ flips_between script w 0 (s.steps + 1)) → ThirdTold script s.beyond
      → ThirdTold script (lines_acted flips lines s).after.beyond
  lines_third [] script q s within few told = told
  lines_third (line ∷ lines) script q s within few told =
      lines_third lines script (λ k. q k + cond (is_flip_of k line.act) 1 0) (act_done flips line.act s).after (act_counts line.act q s.shared.memory within)
      (λ w. let most = few w in let cut = count-cons (λ line. is_flip_of w line.act) line lines in omega arith)
      (act_third line.act script q s within (λ w. let most = few w in let cut = count-cons (λ line. is_flip_of w line.act) line lines in omega arith) told)

module _ {B L : Type 0} (bus : BusMeaning B) (flips : FlipMeaning B) (logged : L → Event → L) (counts : WordsKeepCounts bus flips.cells.cell) where
  after_cell : (cell : Cell) (b : B) (go_on : ℕ → Played Outcome B L) (stop : Played Outcome B L) → ((value : ℕ) → CountsNoMore flips.cells.cell b (bus_of (go_on value)))
      → CountsNoMore flips.cells.cell b (bus_of stop) → CountsNoMore flips.cells.cell b (bus_of (by_cell cell go_on stop))
  after_cell (Good value) b go_on stop good bad = good value
  after_cell Poison b go_on stop good bad = bad

  play_counts : (m : Asking Outcome) (b : B) (log : L) → CountsNoMore flips.cells.cell b (bus_of (play bus logged m b log))
  play_counts (Answer outcome) b log = λ w. omega arith
  play_counts (Ask u use_kind go_on) b log =
      let log' : L = logged_all logged log (bus.read b u).events in
      after_cell (bus.read b u).cell b _ _
      (λ value w. let read = counts.read b u w in let rest = play_counts (go_on value) (bus.read b u).after log' w in omega arith)
      (counts.read b u)

  stored_counts : (stores : List Store) (b : B) (log : L) → CountsNoMore flips.cells.cell b (stored bus logged stores b log).0
  stored_counts [] b log w = omega arith
  stored_counts (s ∷ stores) b log w =
      let here = counts.store b s.w s.value s.mask w in
      let rest = stored_counts stores (bus.store b s.w s.value s.mask).after (logged_all logged log (bus.store b s.w s.value s.mask).events) w in
      omega arith

  by_room_counts : (fits : Bool) (acting : ℕ) (s : HartsScene B L) (o : Outcome) (b : B) (log : L) → CountsNoMore flips.cells.cell b (harts_finished_by fits bus logged acting s o b log).after.bus
  by_room_counts true acting s o b log = stored_counts o.stores b log
  by_room_counts false acting s o b log = λ w. omega arith

  finished_counts : (acting : ℕ) (s : HartsScene B L) (P : Played Outcome B L) → CountsNoMore flips.cells.cell (bus_of P) (harts_finished bus logged acting s P).after.bus
  unfolding harts_finished
  finished_counts acting s (Ended o b log) = by_room_counts (has_room s.console o.bytes) acting s o b log
  finished_counts acting s (Poisoned u use_kind b log) = λ w. omega arith

  -- a hart's step adds none
  pub step_counts : (acting : ℕ) (m : Asking Outcome) (s : HartsScene B L) → CountsNoMore flips.cells.cell s.bus (harts_step_of bus logged acting m s).after.bus
  step_counts acting m s w =
      let played = play_counts m s.bus s.log w in
      let after = finished_counts acting s (play bus logged m s.bus s.log) w in
      omega arith
