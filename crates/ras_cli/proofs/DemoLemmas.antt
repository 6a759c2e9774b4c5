-- The demo workload.
use Rattle.std.proofs.Common.{◌≡◌, ◌≢◌, ℕ, zero, suc, ◌+◌, ◌*◌, ◌<◌, ◌≤◌, ◌^◌, arith, true, List, [], ◌∷◌, ◌++◌, add-one, length, length-append, append_assoc, append-nil, refl, sym, ◌∙◌, ap, subst}
use Rattle.std.specs.Prelude.{◌/◌, ◌%◌, codes, decimal, map, IfSome, Ok}
use Rattle.std.specs.List.{AllByRecursion, range_with_len}
use Rattle.std.proofs.lemmas.Bool.{le-ltb}
use Rattle.std.proofs.lemmas.Fmt.{length-decimal-le}
use Rattle.std.proofs.lemmas.Grind.{flat_map-append}
use Rattle.std.proofs.lemmas.List.FromFn.{map-range_with_len_more}
use Rattle.elf_load.specs.Memory.{raw_memory}
use Rattle.elf_load.specs.Program.{Program, image_of, program_of}
use Rattle.fault_script.proofs.RoundTrip.{lines_read_back}
use Rattle.fault_script.specs.Fits.{FitsRam}
use Rattle.fault_script.specs.Script.{lines_in}
use Rattle.fault_script.specs.Steps.{InRisingSteps}
use Rattle.fault_script.specs.Writing.{line_text, script_text}
use Rattle.fault_script.specs.declared.lines.ScriptLine.{ScriptLine}
use Rattle.ras_bits.specs.Map.{word_address}
use Rattle.ras_bits.specs.declared.map.TheConstants.{RAM_START}
use Rattle.ras_host.specs.Told.{Bytes, Outside}
use Rattle.ras_machine.specs.Schedule.{Given}
use Rattle.ras_machine.specs.declared.settings.Settings.{Settings}
use Rattle.ras_numbers.specs.Numbers.{address_text, hex_digit, hex_text}
use Rattle.ras_gen.specs.Demo.{demo_image, demo_line, demo_lines, demo_script, flip_text, flip_step, flip_word, flip_bit}
use Rattle.ras_gen.specs.declared.demo.TheConstants.{FLIPS}
use Rattle.ras_words.specs.Run.{MachineRequest}
use Rattle.ras_cli.specs.declared.compare.Compared.{Compared}
use Rattle.ras_cli.specs.declared.compare.Compared.TheVariants.{Files, Demo}
use Rattle.ras_cli.specs.declared.status.Exit.TheVariants.{NoMemory}
use Rattle.ras_cli.specs.Status.{code_of, IsDone}
use Rattle.ras_cli.specs.Plan.{Plan, Done, Planned, RunInputs, settings_of, run_ram_words, accepted_image, accepted_lines, script_in, ◌>>=◌}
use Rattle.ras_cli.specs.ComparePlan.{compared}
use Rattle.ras_cli.specs.Both.{request_in, demo_in}
use Rattle.ras_cli.specs.Complete.{IsWhole}
use Rattle.ras_cli.specs.DemoPlan.{demo_inputs, demo_machine, inputs_of, demo_program, demo_flip, demo_flips, demo_run}
use Rattle.ras_cli.specs.Demonstrates.{Demonstrates}
use Rattle.ras_cli.specs.Follows.{Follows}
use Rattle.ras_cli.specs.Reaches.{Made, ReachesInputs, Stops}
use Rattle.ras_cli.proofs.AcceptedLemmas.{all_read}
use Rattle.ras_cli.proofs.ComparisonLemmas.{compares, inputs_read}
use Rattle.ras_cli.proofs.CompleteLemmas.{verdict_done}
use Rattle.ras_cli.proofs.HeadlineLemmas.{Keeps}

-- what is left to read behind the image
abbrev pub with_program : MachineRequest → Bytes → Program → Plan RunInputs
with_program run script program = script_in run script >>= (λ lines. all_read program lines [] [])

-- nothing was read of input and schedule
pub none_read : (program : Program) (lines : List ScriptLine) (input schedule : Bytes) → input ≡ [] → schedule ≡ [] → all_read program lines [] [] ≡ all_read program lines input schedule
none_read program lines input schedule e f = rw (e, f) refl

-- what refuses an image and a script refuses the demo whose they are
pub demo_stops : (run : MachineRequest) (image script : Bytes) (number : ℕ) (a b : Outside) (faults now code : ℕ) → run ≡ demo_machine → image ≡ demo_image → script ≡ demo_script number
    → Stops (inputs_of run image script) a b faults now code → Stops (demo_inputs number) a b faults now code
demo_stops run image script number a b faults now code e f h s =
    subst (λ (r : MachineRequest). Stops (inputs_of r demo_image (demo_script number)) a b faults now code) e
    (subst (λ (x : Bytes). Stops (inputs_of run x (demo_script number)) a b faults now code) f
    (subst (λ (x : Bytes). Stops (inputs_of run image x) a b faults now code) h s))

-- ---- the length of the script

-- an address has eighteen bytes
hex_length : (width n : ℕ) → length (hex_text width n) ≡ width
unfolding hex_text
hex_length zero n = refl
hex_length (suc width) n = omega (arith, length-append (hex_text width (n / 16)) (hex_digit (n % 16) ∷ []), hex_length width (n / 16))

address_length : (n : ℕ) → length (address_text n) ≡ 18
unfolding address_text
address_length n = omega (arith, length-append (codes "0x") (hex_text 16 n), hex_length 16 n)

-- seven parts in a row
seven : (a b c d e f g : List ℕ) → length (a ++ b ++ c ++ d ++ e ++ f ++ g) ≡ length a + length b + length c + length d + length e + length f + length g
seven a b c d e f g =
    length-append (a ++ b ++ c ++ d ++ e ++ f) g ∙ ap (λ n. n + length g) (length-append (a ++ b ++ c ++ d ++ e) f ∙ ap (λ n. n + length f) (length-append (a ++ b ++ c ++ d) e ∙ ap (λ n. n + length e)
    (length-append (a ++ b ++ c) d ∙ ap (λ n. n + length d) (length-append (a ++ b) c ∙ ap (λ n. n + length c) (length-append a b)))))

-- a flip has at most 33 bytes
flip_length : (step w bit : ℕ) → step < 10 ^ 5 → bit < 10 ^ 2 → length (flip_text step w bit) ≤ 33
flip_length step w bit low few =
    let step_fits = length-decimal-le 5 step (omega arith) low (omega (arith, low)) in
    let bit_fits = length-decimal-le 2 bit (omega arith) few (omega (arith, few)) in
    omega (arith, seven (codes "flip ") (decimal step) (codes " ") (address_text (word_address w)) (codes " ") (decimal bit) (codes "\n"), address_length (word_address w), step_fits, bit_fits)

line_length : (seed k : ℕ) → length (demo_line seed k) ≤ 33
unfolding demo_line
line_length seed k = flip_length (flip_step seed k) (flip_word seed k) (flip_bit seed k) (omega arith) (omega arith)

lines_length : (seed k : ℕ) → length (demo_lines seed k) ≤ k * 33
unfolding demo_lines
lines_length seed zero = omega arith
lines_length seed (suc k) = omega (arith, length-append (demo_lines seed k) (demo_line seed k), lines_length seed k, line_length seed k)

-- the script fits a reader of scripts
pub script_is_short : (seed : ℕ) → length (demo_script seed) < 2 ^ 32
script_is_short seed = omega (arith, lines_length seed FLIPS)

-- ---- the script is the text of the flips

-- the first flips, in the order of the draws
unfoldable first_flips : ℕ → ℕ → List ScriptLine
first_flips seed zero = []
first_flips seed (suc k) = first_flips seed k ++ demo_flip seed k ∷ []

flips_are : (seed k : ℕ) → map (demo_flip seed) (range_with_len 0 k) ≡ first_flips seed k
unfolding first_flips
flips_are seed zero = refl
flips_are seed (suc k) =
    ap (λ (n : ℕ). map (demo_flip seed) (range_with_len 0 n)) (sym (add-one k))
    ∙ map-range_with_len_more (demo_flip seed) 0 k k (omega arith)
    ∙ ap (λ (l : List ScriptLine). l ++ demo_flip seed k ∷ []) (flips_are seed k)

in_a_row : (name space step address bit feed : List ℕ) → name ++ space ++ step ++ (space ++ address ++ (space ++ bit ++ [])) ++ feed ≡ (name ++ space) ++ step ++ space ++ address ++ space ++ bit ++ feed
in_a_row name space step address bit feed = simp (append_assoc, append-nil)

flip_written : (seed k : ℕ) → line_text (demo_flip seed k) ≡ demo_line seed k
unfolding demo_flip demo_line
flip_written seed k = in_a_row (codes "flip") (codes " ") (decimal (flip_step seed k)) (address_text (word_address (flip_word seed k))) (decimal (flip_bit seed k)) (codes "\n")

flips_written : (seed k : ℕ) → script_text (first_flips seed k) ≡ demo_lines seed k
unfolding first_flips demo_lines
flips_written seed zero = refl
flips_written seed (suc k) =
    flat_map-append line_text (first_flips seed k) (demo_flip seed k ∷ [])
    ∙ ap (λ (l : List ℕ). l ++ (line_text (demo_flip seed k) ++ [])) (flips_written seed k)
    ∙ ap (λ (l : List ℕ). demo_lines seed k ++ l) (append-nil (line_text (demo_flip seed k)) ∙ flip_written seed k)

-- ---- the flips fit the RAM

flip_fits : (seed k : ℕ) → FitsRam (run_ram_words demo_machine) (demo_flip seed k)
unfolding demo_flip
flip_fits seed k = (omega arith, (omega arith, omega arith))

flips_fit : (seed k : ℕ) → AllByRecursion (FitsRam (run_ram_words demo_machine)) (first_flips seed k)
unfolding first_flips
flips_fit seed zero = tt
flips_fit seed (suc k) = one_more (first_flips seed k) (flips_fit seed k)
  where
    one_more : (lines : List ScriptLine) → AllByRecursion (FitsRam (run_ram_words demo_machine)) lines → AllByRecursion (FitsRam (run_ram_words demo_machine)) (lines ++ demo_flip seed k ∷ [])
    one_more [] all = (flip_fits seed k, tt)
    one_more (line ∷ lines) all = (all.0, one_more lines all.1)

flips_count : (seed k : ℕ) → length (first_flips seed k) ≡ k
unfolding first_flips
flips_count seed zero = refl
flips_count seed (suc k) = omega (arith, length-append (first_flips seed k) (demo_flip seed k ∷ []), flips_count seed k)

-- ---- so both are accepted

script_read : (number : ℕ) → lines_in (run_ram_words demo_machine) (demo_script number) ≡ Ok (demo_flips number)
script_read number =
    ap (lines_in (run_ram_words demo_machine)) (sym (flips_written number FLIPS))
    ∙ lines_read_back (run_ram_words demo_machine) (first_flips number FLIPS) (omega arith) (omega (arith, flips_count number FLIPS), flips_fit number FLIPS)
    ∙ ap Ok (sym (flips_are number FLIPS))

image_length : length demo_image ≡ 76
unfolding demo_image
image_length = refl

raw_accepted : (bytes : List ℕ) (words : ℕ) → length bytes ≤ 8 * words → image_of true bytes words ≡ Ok (program_of (raw_memory bytes) words RAM_START)
unfolding image_of
raw_accepted bytes words fits = rw (le-ltb (8 * words) (length bytes) fits) refl

image_read : image_of true demo_image (run_ram_words demo_machine) ≡ Ok demo_program
image_read = raw_accepted demo_image (run_ram_words demo_machine) (omega (arith, image_length))

-- the plan of what a demo runs is a value
pub demo_accepted : (number : ℕ) → demo_inputs number ≡ Done (demo_run number)
demo_accepted number =
    ap (λ (p : Plan Program). p >>= with_program demo_machine (demo_script number)) (ap accepted_image image_read)
    ∙ ap (λ (p : Plan (List ScriptLine)). p >>= (λ lines. all_read demo_program lines [] [])) (ap accepted_lines (script_read number))

-- ---- so it ends as a comparison of them

-- what was run was the demo
ran_demo : (number : ℕ) (settings : Settings) (image : Program) (script : List ScriptLine) (given : Given) (a m b : Outside) (code : ℕ) → settings ≡ settings_of demo_machine
    → ReachesInputs (demo_inputs number) a m image script given
    → ((lines : List ScriptLine) → InRisingSteps lines script → Follows m b (compared settings (inputs_read image lines given)) code)
    → ((lines : List ScriptLine) → InRisingSteps lines script → code ≢ code_of NoMemory → Keeps image settings given lines) → Demonstrates number a b code
ran_demo number settings image script given a m b code e r follows keeps no3 no4 =
    let run : RunInputs = demo_run number in
    let unread = r.reached.unread run (demo_accepted number) in
    let same : m ≡ a = subst (Made a m) unread.0 r.reached.made in
    let followed : Follows a b (compared (settings_of demo_machine) run) code =
    subst (λ (s : Settings). Follows a b (compared s run) code) e
    (subst (λ (i : RunInputs). Follows a b (compared settings i) code) unread.1
    (subst (λ (o : Outside). Follows o b (compared settings (inputs_read image r.lines given)) code) same (follows r.lines r.rising))) in
    let kept : Keeps run.image (settings_of demo_machine) run.given run.lines =
    subst (λ (s : Settings). Keeps run.image s run.given run.lines) e
    (subst (λ (i : RunInputs). Keeps i.image settings i.given i.lines) unread.1 (keeps r.lines r.rising no4)) in
    let whole : IsWhole [] (compared (settings_of demo_machine) run) a b code = demo_whole (compared (settings_of demo_machine) run) (verdict_done _) followed in
    record { whole = whole; compares = compares (settings_of demo_machine) run [] a b code whole kept }
  where
    demo_whole : (results : Planned) → IsDone results.code → Follows a b results code → IsWhole [] results a b code
    demo_whole results done f = record { done = subst IsDone (sym (f.status no3 no4)) done; status = f.status no3 no4; written = f.whole no3 no4 }

pub read_demonstrated : (what : Compared) (settings : Settings) (image : Program) (script : List ScriptLine) (given : Given) (a m b : Outside) (code : ℕ) → settings ≡ (request_in what).settings
    → ReachesInputs (request_in what).inputs a m image script given
    → ((lines : List ScriptLine) → InRisingSteps lines script → Follows m b (compared settings (inputs_read image lines given)) code)
    → ((lines : List ScriptLine) → InRisingSteps lines script → code ≢ code_of NoMemory → Keeps image settings given lines) → IfSome (demo_in what) (λ number. Demonstrates number a b code)
read_demonstrated (Files run) settings image script given a m b code e r follows keeps = tt
read_demonstrated (Demo number) settings image script given a m b code e r follows keeps = ran_demo number settings image script given a m b code e r follows keeps

-- it is never refused
pub refused_demonstrated : (what : Compared) (a b : Outside) (faults now code : ℕ) → Stops (request_in what).inputs a b faults now code → IfSome (demo_in what) (λ number. Demonstrates number a b code)
refused_demonstrated (Files run) a b faults now code s = tt
refused_demonstrated (Demo number) a b faults now code s = λ no3 no4. absurd (no4 (s.valued (demo_run number) (demo_accepted number)))
