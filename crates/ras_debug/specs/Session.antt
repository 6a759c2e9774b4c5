-- A session of the debugger: what a line changes, and its reply.
use Rattle.std.specs.Prelude.{ℕ, ◌==◌, if◌then◌else◌, List, [], ◌∷◌, ◌++◌, length, Result, Ok, Err, codes}
use Rattle.ras_numbers.specs.Numbers.{address_text}
use Rattle.fault_script.specs.declared.lines.ScriptLine.{ScriptLine}
use Rattle.reri_bank.specs.Banks.{bank_at, records_of}
use Rattle.ras_machine.specs.Machine.{StackMachine}
use Rattle.ras_machine.specs.Schedule.{Given}
use Rattle.ras_machine.specs.Settings.{ram_words}
use Rattle.ras_report.specs.Harts.{hart_lines}
use Rattle.ras_debug.specs.declared.commands.Why.{Why}
use Rattle.ras_debug.specs.declared.commands.Why.TheVariants as why
use Rattle.ras_debug.specs.declared.requests.Request.{Request}
use Rattle.ras_debug.specs.declared.requests.Request.TheVariants as request
use Rattle.ras_debug.specs.declared.session.TheConstants.{MOST_BREAKPOINTS}
use Rattle.ras_debug.specs.declared.session.Turn.{Turn}
use Rattle.ras_debug.specs.declared.session.Turn.TheVariants as turn
use Rattle.ras_debug.specs.Commands.{why_text}
use Rattle.ras_debug.specs.Requests.{request_of}
use Rattle.ras_debug.specs.Running.{RunState, advanced, is_among, run_on, standing_of}
use Rattle.ras_debug.specs.Replies.{word_lines, poison_text, record_lines, instruction_lines}

-- a run, the breakpoints in the order in which they were set, and the text of the last reply
pub record SessionState : Type 0 where
  pub run : RunState
  pub breakpoints : List ℕ
  pub reply : List ℕ

-- a session that nobody has asked yet
abbrev pub session_of : StackMachine → Given → List ScriptLine → SessionState
session_of m given script = record { run = record { machine = m; given = given; script = script }; breakpoints = []; reply = [] }

-- nothing changes but the reply
abbrev pub replied : List ℕ → SessionState → SessionState
replied text s = record s { reply = text }

-- a refused line
abbrev pub refused : Why → SessionState → SessionState
refused refusal s = replied (codes "refused: " ++ why_text refusal ++ codes "\n") s

-- the machine has gone on, and the reply says where it stands
abbrev pub gone_on : List ℕ → RunState → SessionState → SessionState
gone_on lead run s = record s { run = run; reply = standing_of lead run }

-- a breakpoint is set; there are at most MOST_BREAKPOINTS of them, and one that is set is set again without a change
abbrev pub breakpoint_set : ℕ → SessionState → SessionState
breakpoint_set address s =
    let text = codes "break " ++ address_text address ++ codes " set\n" in
    if is_among s.breakpoints address then replied text s
    else if length s.breakpoints == MOST_BREAKPOINTS then refused why.Full s
    else record s { breakpoints = s.breakpoints ++ address ∷ []; reply = text }

-- what a request does
abbrev pub requested : Request → SessionState → SessionState
requested request.Nothing s = replied [] s
requested (request.Step n) s = gone_on (codes "at ") (advanced n s.run) s
requested request.Run s = gone_on (codes "break at ") (run_on s.breakpoints s.run) s
requested (request.Break address) s = breakpoint_set address s
requested request.Regs s = replied (hart_lines [] s.run.machine.state.shared.harts s.run.machine.settings.harts) s
requested (request.Mem w n) s = replied (word_lines s.run.machine w n) s
requested request.Poison s = replied (poison_text s.run.machine (ram_words s.run.machine.settings)) s
requested (request.Bank bank) s = replied (record_lines (bank_at s.run.machine.state.firmware.banks bank) (records_of bank)) s
requested (request.List address n) s = replied (instruction_lines s.run.machine address n) s
requested request.Quit s = replied [] s

-- what a line that was read does
abbrev pub done_by : Result Request Why → SessionState → SessionState
done_by (Ok asked) s = requested asked s
done_by (Err refusal) s = refused refusal s

-- what a line does
abbrev pub answered : List ℕ → SessionState → SessionState
answered line s = done_by (request_of (ram_words s.run.machine.settings) line) s

-- whether the session ends with it
abbrev pub turn_of_request : Request → Turn
turn_of_request request.Nothing = turn.More
turn_of_request (request.Step n) = turn.More
turn_of_request request.Run = turn.More
turn_of_request (request.Break address) = turn.More
turn_of_request request.Regs = turn.More
turn_of_request (request.Mem w n) = turn.More
turn_of_request request.Poison = turn.More
turn_of_request (request.Bank bank) = turn.More
turn_of_request (request.List address n) = turn.More
turn_of_request request.Quit = turn.Quit

abbrev pub turn_by : Result Request Why → Turn
turn_by (Ok asked) = turn_of_request asked
turn_by (Err refusal) = turn.More

-- the session ends at quit alone
abbrev pub turn_at : List ℕ → SessionState → Turn
turn_at line s = turn_by (request_of (ram_words s.run.machine.settings) line)

-- what comes behind a line: nothing behind one that ends the session
abbrev pub unless_quit : Turn → List (List ℕ) → List (List ℕ)
unless_quit turn.More later = later
unless_quit turn.Quit later = []

-- the replies to lines, one for each, up to the empty one to `quit`
abbrev pub replies : List (List ℕ) → SessionState → List (List ℕ)
replies [] s = []
replies (line ∷ lines) s = (answered line s).reply ∷ unless_quit (turn_at line s) (replies lines (answered line s))
