-- A session's replies, written one after the other behind what was read.
use Rattle.std.proofs.Common.{◌≡◌, ℕ, List, [], ◌∷◌, ◌++◌, Option, Some, None, refl, sym, ◌∙◌, ap, subst, append-nil, append_assoc}
use Rattle.std.specs.Prelude.{IfSome, map, take}
use Rattle.elf_load.specs.Program.{Program}
use Rattle.fault_script.specs.Steps.{InRisingSteps}
use Rattle.fault_script.specs.Words.{lines_of}
use Rattle.fault_script.specs.declared.lines.ScriptLine.{ScriptLine}
use Rattle.ras_debug.specs.Session.{SessionState, answered, replies, session_of, turn_at, unless_quit}
use Rattle.ras_debug.specs.declared.session.Turn.{Turn}
use Rattle.ras_debug.proofs.Scripts.{replies_same}
use Rattle.ras_host.specs.Told.{Bytes, File, Outside, HostAction, Out, Performs}
use Rattle.ras_host.specs.ToldLaws.{performs_append}
use Rattle.ras_machine.specs.Machine.{machine_made}
use Rattle.ras_machine.specs.Schedule.{Given}
use Rattle.ras_machine.specs.declared.settings.Settings.{Settings}
use Rattle.ras_cli.specs.declared.files.FileKind.{FileKind}
use Rattle.ras_cli.specs.Plan.{Done, Planned, carried_out, file_plan, ◌>>=◌}
use Rattle.ras_cli.specs.DebugPlan.{session_pieces}
use Rattle.ras_cli.specs.Reaches.{reads_in, ComesTo, Made, Reaches}
use Rattle.ras_cli.specs.Follows.{AreReads, Cuts, Follows}
use Rattle.ras_cli.specs.Behind.{CutsBehind, FollowsBehind, PerformsBehind}
use Rattle.ras_cli.proofs.FollowsLemmas.{cut_behind, follows_nothing, follows_reads}
use Rattle.ras_cli.proofs.PlanLemmas.{bind_carried}
use Rattle.ras_cli.proofs.WritesLemmas.{out_cut}

-- ---- replies

-- of all actions the first were done, and these are left
pub record HasWritten (before now : Outside) (all left : List HostAction) : Type 0 where
  pub front : List HostAction
  pub split : all ≡ front ++ left
  pub made : PerformsBehind before now front

-- none was done yet
pub none_written : (a : Outside) (all : List HostAction) → HasWritten a a all all
none_written a all = record {
  front = [];
  split = refl;
  made = λ start done h. subst (λ (l : List HostAction). Performs start a l) (sym (append-nil done)) h;
}

-- what is left behind a line: nothing where it ends the session
abbrev left_behind : Turn → Bytes → SessionState → List HostAction
left_behind turn behind s = map Out (unless_quit turn (replies (lines_of behind) s))

-- the pieces from a line on
line_pieces : (text line behind : Bytes) (s t : SessionState) → lines_of text ≡ line ∷ lines_of behind → t ≡ answered line s
    → session_pieces text s ≡ Out t.reply ∷ left_behind (turn_at line s) behind t
line_pieces text line behind s t cut after =
    ap (λ (l : List Bytes). map Out (replies l s)) cut ∙ ap (λ (r : SessionState). Out r.reply ∷ left_behind (turn_at line s) behind r) (sym after)

-- one reply more was written
pub one_written : (a b c : Outside) (all : List HostAction) (text line behind : Bytes) (s t : SessionState) (reply : Bytes) (turn : Turn) → lines_of text ≡ line ∷ lines_of behind → t ≡ answered line s
    → reply ≡ t.reply → turn ≡ turn_at line s → HasWritten a b all (session_pieces text s) → Performs b c (Out reply ∷ [])
    → HasWritten a c all (left_behind turn behind t)
one_written a b c all text line behind s t reply turn cut after said turned w h =
    let left = left_behind turn behind t in
    let pieces : session_pieces text s ≡ Out reply ∷ left = line_pieces text line behind s t cut after ∙ rw (said, turned) refl in
    record {
      front = w.front ++ Out reply ∷ [];
      split = w.split ∙ ap (λ (l : List HostAction). w.front ++ l) pieces ∙ sym (append_assoc w.front (Out reply ∷ []) left);
      made = λ start done k.
          subst (λ (l : List HostAction). Performs start c l) (append_assoc done w.front (Out reply ∷ []))
          (performs_append start b c (done ++ w.front) (Out reply ∷ []) (w.made start done k) h);
    }

-- all were written
pub all_written : (a b : Outside) (all left : List HostAction) → left ≡ [] → HasWritten a b all left → PerformsBehind a b all
all_written a b all left none w = λ start done k.
    let same : w.front ≡ all = sym (w.split ∙ ap (λ (l : List HostAction). w.front ++ l) none ∙ append-nil w.front) in
    subst (λ (l : List HostAction). Performs start b (done ++ l)) same (w.made start done k)

-- a reply wasn't written whole
pub reply_cut : (a b c : Outside) (all : List HostAction) (text line behind : Bytes) (s t : SessionState) (reply : Bytes) → lines_of text ≡ line ∷ lines_of behind → t ≡ answered line s → reply ≡ t.reply
    → HasWritten a b all (session_pieces text s) → ((n : ℕ) × Performs b c (Out (take n reply) ∷ [])) → CutsBehind a c all
reply_cut a b c all text line behind s t reply cut after said w h = λ start done k.
    let later = left_behind (turn_at line s) behind t in
    let pieces : session_pieces text s ≡ Out reply ∷ later = line_pieces text line behind s t cut after ∙ rw said refl in
    let whole : (done ++ w.front) ++ Out reply ∷ later ≡ done ++ all =
    append_assoc done w.front (Out reply ∷ later) ∙ ap (λ (l : List HostAction). done ++ l) (ap (λ (l : List HostAction). w.front ++ l) (sym pieces) ∙ sym w.split) in
    subst (λ (l : List HostAction). Cuts start c l) whole
    (cut_behind start b c (done ++ w.front) (Out reply ∷ later) (w.made start done k) (out_cut reply later b c h))

-- ---- the lines of a script, in any order that keeps those of each step
pub pieces_same : (text : Bytes) (image : Program) (settings : Settings) (given : Given) (read script : List ScriptLine) → InRisingSteps read script
    → session_pieces text (session_of (machine_made image settings) given script) ≡ session_pieces text (session_of (machine_made image settings) given read)
pieces_same text image settings given read script rising = ap (map Out) (replies_same (machine_made image settings) given read script rising (lines_of text))

-- ---- behind what was read

-- want of memory, and nothing done
pub nothing_behind : (a : Outside) (plan : Planned) → FollowsBehind a a plan 4
nothing_behind a plan = λ start reads all h. follows_reads start a a reads plan 4 all h (follows_nothing a plan)

-- a file that was read, and what follows it
pub file_follows : (file : FileKind) (name : Bytes) (next : Bytes → Planned) (a b c : Outside) (text : Bytes) (code : ℕ) → Reaches (file_plan file name) a b text → FollowsBehind b c (next text) code
    → IfSome a.files (λ files. Follows a c (carried_out (file_plan file name >>= (λ bytes. Done (next bytes))) files) code)
file_follows file name next a b c text code r f = told a.files r.comes
  where
    told : (o : Option (List File)) → IfSome o (λ files. ComesTo (file_plan file name) files r.reads text)
        → IfSome o (λ files. Follows a c (carried_out (file_plan file name >>= (λ bytes. Done (next bytes))) files) code)
    told None k = tt
    told (Some files) k =
        let made : Made a b (reads_in (file_plan file name) files) = subst (λ (l : List HostAction). Made a b l) k.made r.made in
        let all : AreReads (reads_in (file_plan file name) files) = subst AreReads k.made r.all in
        subst (λ (p : Planned). Follows a c p code) (bind_carried (file_plan file name) (λ bytes. Done (next bytes)) files text k.value)
        (f a (reads_in (file_plan file name) files) all made)
