-- Sessions under the lines of a script, in any order that keeps those of each step.
use Rattle.std.proofs.Common.{◌≡◌, ℕ, zero, suc, ◌-◌, ◌∙◌, Bool, true, false, List, [], ◌∷◌, ◌++◌, length, refl, sym, ap}
use Rattle.std.specs.Prelude.{◌==◌, if◌then◌else◌, Result, Ok, Err, codes}
use Rattle.ras_numbers.specs.Numbers.{address_text}
use Rattle.fault_script.specs.Steps.{at_step, InRisingSteps}
use Rattle.fault_script.specs.declared.lines.ScriptLine.{ScriptLine}
use Rattle.ras_machine.specs.Acted.{Acted}
use Rattle.ras_machine.specs.Machine.{StackState, StackMachine, machine_after, machine_stepped}
use Rattle.ras_machine.specs.Runs.{unless_ended}
use Rattle.ras_machine.specs.RunsLaws.{iterated_same}
use Rattle.ras_machine.specs.Schedule.{Given}
use Rattle.ras_machine.specs.Settings.{ram_words}
use Rattle.ras_machine.proofs.Machines.{same_step}
use Rattle.ras_debug.specs.declared.commands.Why.{Why}
use Rattle.ras_debug.specs.declared.commands.Why.TheVariants as why
use Rattle.ras_debug.specs.declared.requests.Request.{Request}
use Rattle.ras_debug.specs.declared.requests.Request.TheVariants as request
use Rattle.ras_debug.specs.declared.session.TheConstants.{MOST_BREAKPOINTS}
use Rattle.ras_debug.specs.Requests.{request_of}
use Rattle.ras_debug.specs.Running.{RunState, stepped, advanced, is_among, is_held, held_within, run_on}
use Rattle.ras_debug.specs.Session.{SessionState, session_of, replied, refused, gone_on, requested, done_by, answered, turn_at, unless_quit, replies}

-- a run under these lines
abbrev under : List ScriptLine → RunState → RunState
under lines r = record r { script = lines }

-- a session under them
abbrev session_under : List ScriptLine → SessionState → SessionState
session_under lines s = record s { run = record s.run { script = lines } }

-- the lines of each step are the same
abbrev AreSame : List ScriptLine → List ScriptLine → Type 0
AreSame read script = (step : ℕ) → at_step step script ≡ at_step step read

machine_same : (read script : List ScriptLine) → AreSame read script → (given : Given) (m : StackMachine) → machine_stepped given script m ≡ machine_stepped given read m
machine_same read script same given m =
    ap (λ (a : Acted StackState). unless_ended m.ended m (machine_after m a)) (same_step given script read same m.settings m.state)

stepped_same : (read script : List ScriptLine) → AreSame read script → (r : RunState) → stepped (under script r) ≡ under script (stepped (under read r))
stepped_same read script same r = ap (λ (m : StackMachine). record (under script r) { machine = m }) (machine_same read script same r.given r.machine)

advanced_same : (read script : List ScriptLine) → AreSame read script → (n : ℕ) (r : RunState) → advanced n (under script r) ≡ under script (advanced n (under read r))
advanced_same read script same n r =
    ap (λ (m : StackMachine). record (under script r) { machine = m })
    (iterated_same n (machine_stepped r.given script) (machine_stepped r.given read) (machine_same read script same r.given) r.machine)

held_same : (read script : List ScriptLine) → AreSame read script → (left : ℕ) (breakpoints : List ℕ) (r : RunState)
    → held_within left breakpoints (under script r) ≡ under script (held_within left breakpoints (under read r))
unfolding held_within
held_same read script same zero breakpoints r = refl
held_same read script same (suc left) breakpoints r =
    by_held (is_held breakpoints r) (ap (held_within left breakpoints) (stepped_same read script same r) ∙ held_same read script same left breakpoints (stepped (under read r)))
  where
    by_held : (held : Bool) → held_within left breakpoints (stepped (under script r)) ≡ under script (held_within left breakpoints (stepped (under read r)))
        → (if held then under script r else held_within left breakpoints (stepped (under script r)))
        ≡ under script (if held then under read r else held_within left breakpoints (stepped (under read r)))
    by_held true e = refl
    by_held false e = e

run_same : (read script : List ScriptLine) → AreSame read script → (breakpoints : List ℕ) (r : RunState) → run_on breakpoints (under script r) ≡ under script (run_on breakpoints (under read r))
run_same read script same breakpoints r =
    ap (held_within (r.machine.settings.budget - r.machine.state.steps) breakpoints) (stepped_same read script same r)
    ∙ held_same read script same (r.machine.settings.budget - r.machine.state.steps) breakpoints (stepped (under read r))

break_same : (read script : List ScriptLine) (there full : Bool) (address : ℕ) (text : List ℕ) (s : SessionState)
    → (if there then replied text (session_under script s) else if full then refused why.Full (session_under script s)
    else record (session_under script s) { breakpoints = s.breakpoints ++ address ∷ []; reply = text })
    ≡ session_under script (if there then replied text (session_under read s) else if full then refused why.Full (session_under read s)
    else record (session_under read s) { breakpoints = s.breakpoints ++ address ∷ []; reply = text })
break_same read script true full address text s = refl
break_same read script false true address text s = refl
break_same read script false false address text s = refl

requested_same : (read script : List ScriptLine) → AreSame read script → (asked : Request) (s : SessionState)
    → requested asked (session_under script s) ≡ session_under script (requested asked (session_under read s))
requested_same read script same request.Nothing s = refl
requested_same read script same (request.Step n) s = ap (λ (r : RunState). gone_on (codes "at ") r (session_under script s)) (advanced_same read script same n s.run)
requested_same read script same request.Run s = ap (λ (r : RunState). gone_on (codes "break at ") r (session_under script s)) (run_same read script same s.breakpoints s.run)
requested_same read script same (request.Break address) s =
    break_same read script (is_among s.breakpoints address) (length s.breakpoints == MOST_BREAKPOINTS) address (codes "break " ++ address_text address ++ codes " set\n") s
requested_same read script same request.Regs s = refl
requested_same read script same (request.Mem w n) s = refl
requested_same read script same request.Poison s = refl
requested_same read script same (request.Bank bank) s = refl
requested_same read script same (request.List address n) s = refl
requested_same read script same request.Quit s = refl

done_same : (read script : List ScriptLine) → AreSame read script → (asked : Result Request Why) (s : SessionState)
    → done_by asked (session_under script s) ≡ session_under script (done_by asked (session_under read s))
done_same read script same (Ok asked) s = requested_same read script same asked s
done_same read script same (Err refusal) s = refl

answered_same : (read script : List ScriptLine) → AreSame read script → (line : List ℕ) (s : SessionState)
    → answered line (session_under script s) ≡ session_under script (answered line (session_under read s))
answered_same read script same line s = done_same read script same (request_of (ram_words s.run.machine.settings) line) s

-- the replies of a session don't depend on the order of script lines of different steps
replies_under : (read script : List ScriptLine) → AreSame read script → (lines : List (List ℕ)) (s : SessionState)
    → replies lines (session_under script s) ≡ replies lines (session_under read s)
replies_under read script same [] s = refl
replies_under read script same (line ∷ lines) s =
    let after = answered line (session_under read s) in
    let later : replies lines (answered line (session_under script s)) ≡ replies lines after =
    ap (replies lines) (answered_same read script same line s)
    ∙ replies_under read script same lines after
    ∙ ap (replies lines) (sym (answered_same read read (λ step. refl) line s)) in
    ap (λ (t : SessionState). t.reply ∷ unless_quit (turn_at line s) (replies lines (answered line (session_under script s)))) (answered_same read script same line s)
    ∙ ap (λ (l : List (List ℕ)). after.reply ∷ unless_quit (turn_at line s) l) later

pub replies_same : (m : StackMachine) (given : Given) (read script : List ScriptLine) → InRisingSteps read script → (lines : List (List ℕ))
    → replies lines (session_of m given script) ≡ replies lines (session_of m given read)
replies_same m given read script rising lines = replies_under read script rising.same lines (session_of m given read)
