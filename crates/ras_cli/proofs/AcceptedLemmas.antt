-- What a run reads, where it is accepted.
use Rattle.std.proofs.Common.{◌≡◌, ℕ, ◌≤◌, arith, Bool, true, false, cond, List, [], ◌∷◌, ◌++◌, Option, Some, None, refl, sym, ◌∙◌, ap, append-nil, inl, inr}
use Rattle.std.specs.Prelude.{IfSome, Result, Err, Ok}
use Rattle.elf_load.specs.Program.{Program}
use Rattle.elf_load.specs.declared.refusals.ElfRefused.{ElfRefused}
use Rattle.fault_script.specs.declared.lines.ScriptLine.{ScriptLine}
use Rattle.fault_script.specs.declared.lines.ScriptError.{ScriptError}
use Rattle.ras_host.specs.Told.{Bytes, File, Outside, HostAction, Read, bytes_of}
use Rattle.ras_words.specs.Run.{MachineRequest, RunRequest}
use Rattle.ras_cli.specs.declared.files.FileKind.{FileKind}
use Rattle.ras_cli.specs.declared.files.FileKind.TheVariants.{Image, Script, Input, Schedule}
use Rattle.ras_cli.specs.Files.{limit_of}
use Rattle.ras_cli.specs.Status.{IsRefusal}
use Rattle.ras_machine.specs.Machine.{faulty_run}
use Rattle.ras_machine.specs.Schedule.{Given, given_by}
use Rattle.ras_cli.specs.Plan.{Plan, Done, Refuse, Reading, RunInputs, calls_then, carried_out, is_longer, ◌>>=◌, file_plan, named_plan, accepted_image, image_in, image_plan, accepted_lines, script_in, script_plan, input_plan, schedule_plan, inputs_plan, results_plan, run_plan, settings_of, results_of}
use Rattle.ras_cli.specs.Reaches.{value_in, reads_in, ComesTo, ReachesInputs}
use Rattle.ras_cli.specs.Accepted.{named_read, reads_of, IsAccepted, AreReadInputs}
use Rattle.ras_cli.proofs.Small.{same_cond}
use Rattle.ras_cli.proofs.PlanLemmas.{bind_reads, bind_carried}

-- ---- plans that come to a value

-- a plan that comes to a value, and then another
pub record Bound {X Y : Type 0} (p : Plan X) (f : X → Plan Y) (files : List File) (y : Y) : Type 0 where
  pub x : X
  pub first : value_in p files ≡ Some x
  pub then : value_in (f x) files ≡ Some y

pub bound : {X Y : Type 0} (p : Plan X) (f : X → Plan Y) (files : List File) (y : Y) → value_in (p >>= f) files ≡ Some y → Bound p f files y
bound (Done x) f files y e = record { x = x; first = refl; then = e }
bound (Refuse line) f files y e = cc
bound {X} {Y} (Reading file name whole) f files y e = go (is_longer files file name) refl e (bound (whole (bytes_of files name)) f files y)
  where
    go : (b : Bool) → is_longer files file name ≡ b → cond b None (value_in (whole (bytes_of files name) >>= f) files) ≡ Some y
        → (value_in (whole (bytes_of files name) >>= f) files ≡ Some y → Bound (whole (bytes_of files name)) f files y) → Bound (Reading file name whole) f files y
    go true is h onward = cc
    go false is h onward = let k = onward h in record { x = k.x; first = rw is k.first; then = k.then }

-- ---- the reads of a run

file_reads : (file : FileKind) (name : Bytes) (files : List File) → reads_in (file_plan file name) files ≡ Read name (limit_of file) ∷ []
file_reads file name files = ap (λ (l : List HostAction). Read name (limit_of file) ∷ l) (same_cond (is_longer files file name) [])

named_reads : (file : FileKind) (name : Option Bytes) (files : List File) → reads_in (named_plan file name) files ≡ named_read file name
named_reads file None files = refl
named_reads file (Some name) files = file_reads file name files

image_reads_none : (image : Result Program ElfRefused) (files : List File) → reads_in (accepted_image image) files ≡ []
image_reads_none (Ok image) files = refl
image_reads_none (Err refusal) files = refl

lines_read_none : (lines : Result (List ScriptLine) ScriptError) (files : List File) → reads_in (accepted_lines lines) files ≡ []
lines_read_none (Ok lines) files = refl
lines_read_none (Err refusal) files = refl

image_reads : (run : MachineRequest) (files : List File) (image : Program) → value_in (image_plan run) files ≡ Some image → reads_in (image_plan run) files ≡ Read run.image (limit_of Image) ∷ []
image_reads run files image e =
    let k = bound (file_plan Image run.image) (image_in run) files image e in
    bind_reads (file_plan Image run.image) (image_in run) files k.x k.first
    ∙ ap (λ (l : List HostAction). reads_in (file_plan Image run.image) files ++ l) (image_reads_none _ files)
    ∙ append-nil (reads_in (file_plan Image run.image) files) ∙ file_reads Image run.image files

script_reads : (run : MachineRequest) (files : List File) (lines : List ScriptLine) → value_in (script_plan run) files ≡ Some lines → reads_in (script_plan run) files ≡ named_read Script run.script
script_reads run files lines e =
    let k = bound (named_plan Script run.script) (script_in run) files lines e in
    bind_reads (named_plan Script run.script) (script_in run) files k.x k.first
    ∙ ap (λ (l : List HostAction). reads_in (named_plan Script run.script) files ++ l) (lines_read_none _ files)
    ∙ append-nil (reads_in (named_plan Script run.script) files) ∙ named_reads Script run.script files

-- what is left to read
abbrev pub all_read : Program → List ScriptLine → Bytes → Bytes → Plan RunInputs
all_read image lines input schedule = Done (record { image = image; lines = lines; given = given_by input schedule })

abbrev pub after_input : MachineRequest → Program → List ScriptLine → Bytes → Plan RunInputs
after_input run image lines input = schedule_plan run >>= all_read image lines input

abbrev pub after_script : MachineRequest → Program → List ScriptLine → Plan RunInputs
after_script run image lines = input_plan run >>= after_input run image lines

abbrev pub after_image : MachineRequest → Program → Plan RunInputs
after_image run image = script_plan run >>= after_script run image

-- the reads of a run whose files are accepted
accepted_reads : (files : List File) (run : MachineRequest) (inputs : RunInputs) → value_in (inputs_plan run) files ≡ Some inputs → reads_in (inputs_plan run) files ≡ reads_of run
accepted_reads files run inputs e =
    let i = bound (image_plan run) (after_image run) files inputs e in
    let s = bound (script_plan run) (after_script run i.x) files inputs i.then in
    let t = bound (input_plan run) (after_input run i.x s.x) files inputs s.then in
    let u = bound (schedule_plan run) (all_read i.x s.x t.x) files inputs t.then in
    let turns : reads_in (after_input run i.x s.x t.x) files ≡ named_read Schedule run.schedule =
    bind_reads (schedule_plan run) (all_read i.x s.x t.x) files u.x u.first
    ∙ append-nil (reads_in (schedule_plan run) files) ∙ named_reads Schedule run.schedule files in
    let last : reads_in (after_script run i.x s.x) files ≡ named_read Input run.input ++ named_read Schedule run.schedule =
    bind_reads (input_plan run) (after_input run i.x s.x) files t.x t.first
    ∙ ap (λ (l : List HostAction). l ++ reads_in (after_input run i.x s.x t.x) files) (named_reads Input run.input files)
    ∙ ap (λ (l : List HostAction). named_read Input run.input ++ l) turns in
    let rest : reads_in (after_image run i.x) files ≡ named_read Script run.script ++ (named_read Input run.input ++ named_read Schedule run.schedule) =
    bind_reads (script_plan run) (after_script run i.x) files s.x s.first
    ∙ ap (λ (l : List HostAction). l ++ reads_in (after_script run i.x s.x) files) (script_reads run files s.x s.first)
    ∙ ap (λ (l : List HostAction). named_read Script run.script ++ l) last in
    bind_reads (image_plan run) (after_image run) files i.x i.first
    ∙ ap (λ (l : List HostAction). l ++ reads_in (after_image run i.x) files) (image_reads run files i.x i.first)
    ∙ ap (λ (l : List HostAction). Read run.image (limit_of Image) ∷ l) rest

-- ---- the plan of a run whose files are accepted

pub planned_accepted : (files : List File) (run : RunRequest) (image : Program) (lines : List ScriptLine) (given : Given) → IsAccepted files run.machine image lines given
    → calls_then (reads_of run.machine) (results_of run (faulty_run image (settings_of run.machine) given lines)) ≡ carried_out (run_plan run) files
planned_accepted files run image lines given k =
    let inputs : RunInputs = record { image = image; lines = lines; given = given } in
    ap (λ (l : List HostAction). calls_then l (results_of run (faulty_run image (settings_of run.machine) given lines))) (sym (accepted_reads files run.machine inputs k))
    ∙ bind_carried (inputs_plan run.machine) (results_plan run) files inputs k

-- files are accepted in one way
pub record AcceptedOnce (image other : Program) (lines more : List ScriptLine) (given others : Given) : Type 0 where
  pub same_image : image ≡ other
  pub same_lines : lines ≡ more
  pub same_given : given ≡ others

pub accepted_once : (files : List File) (run : MachineRequest) (image other : Program) (lines more : List ScriptLine) (given others : Given) → IsAccepted files run image lines given → IsAccepted files run other more others
    → AcceptedOnce image other lines more given others
accepted_once files run image other lines more given others k h =
    let same = some_inputs _ _ (sym k ∙ h) in
    record { same_image = ap (λ (i : RunInputs). i.image) same; same_lines = ap (λ (i : RunInputs). i.lines) same; same_given = ap (λ (i : RunInputs). i.given) same }
  where
    some_inputs : (x y : RunInputs) → Some x ≡ Some y → x ≡ y
    some_inputs x y e = cc

-- what was read is accepted
pub are_read : (a b : Outside) (run : MachineRequest) (image : Program) (script : List ScriptLine) (given : Given) → ReachesInputs (inputs_plan run) a b image script given → IfSome a.files (λ files. AreReadInputs files run image script given)
are_read a b run image script given r = told a.files r.reached.comes
  where
    told : (o : Option (List File)) → IfSome o (λ files. ComesTo (inputs_plan run) files r.reached.reads (record { image = image; lines = r.lines; given = given })) → IfSome o (λ files. AreReadInputs files run image script given)
    told None k = tt
    told (Some files) k = record { lines = r.lines; rising = r.rising; is = k.value }

-- a refusal has one of three statuses
pub refusal_low : (code : ℕ) → IsRefusal code → 2 ≤ code
refusal_low code (inl e) = omega (arith, e)
refusal_low code (inr (inl e)) = omega (arith, e)
refusal_low code (inr (inr e)) = omega (arith, e)

pub refusal_high : (code : ℕ) → IsRefusal code → code ≤ 4
refusal_high code (inl e) = omega (arith, e)
refusal_high code (inr (inl e)) = omega (arith, e)
refusal_high code (inr (inr e)) = omega (arith, e)
