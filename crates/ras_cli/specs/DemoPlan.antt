-- What `demo` compares: the image and the script of a workload, with the defaults of `compare`.
use Rattle.std.specs.Prelude.{ℕ, true, List, [], map, None}
use Rattle.std.specs.List.{range_with_len}
use Rattle.ras_bits.specs.declared.map.TheConstants.{RAM_START}
use Rattle.elf_load.specs.Memory.{raw_memory}
use Rattle.elf_load.specs.Program.{Program, program_of}
use Rattle.fault_script.specs.declared.lines.Act.TheVariants.{Flip}
use Rattle.fault_script.specs.declared.lines.ScriptLine.{ScriptLine}
use Rattle.ras_host.specs.Told.{Bytes}
use Rattle.ras_gen.specs.Demo.{demo_image, demo_script, flip_step, flip_word, flip_bit}
use Rattle.ras_gen.specs.declared.demo.TheConstants.{FLIPS}
use Rattle.ras_machine.specs.Machine.{StackMachine, faulty_run}
use Rattle.ras_machine.specs.Schedule.{given_by}
use Rattle.ras_words.specs.Run.{MachineRequest}
use Rattle.ras_words.specs.declared.limits.TheConstants.{DEFAULT_BUDGET, DEFAULT_RAM_MIB, DEFAULT_POLL, DEFAULT_PATROL, DEFAULT_HARTS}
use Rattle.ras_cli.specs.Plan.{Plan, Done, RunInputs, settings_of, run_ram_words, image_in, script_in, ◌>>=◌}
use Rattle.ras_cli.specs.ComparePlan.{ComparisonRequest}

-- what `--raw` alone asks for; no file is named
abbrev pub demo_machine : MachineRequest
demo_machine = record {
  image = [];
  raw = true;
  script = None;
  input = None;
  budget = DEFAULT_BUDGET;
  ram_mib = DEFAULT_RAM_MIB;
  poll = DEFAULT_POLL;
  patrol = DEFAULT_PATROL;
  harts = DEFAULT_HARTS;
  schedule = None;
}

-- what runs of an image and a script that are at hand, with no input and no schedule
abbrev pub inputs_of : MachineRequest → (image script : Bytes) → Plan RunInputs
inputs_of run image script = image_in run image >>= (λ program. script_in run script >>= (λ lines.
    Done (record { image = program; lines = lines; given = given_by [] [] })))

-- the image and the script of the workload of a number
abbrev pub demo_inputs : ℕ → Plan RunInputs
demo_inputs number = inputs_of demo_machine demo_image (demo_script number)

-- what `demo` asks for
abbrev pub demo_request : ℕ → ComparisonRequest
demo_request number = record { settings = settings_of demo_machine; inputs = demo_inputs number }

-- ---- what these are read as

-- the program: the image's bytes from the start of RAM on, where it is entered
abbrev pub demo_program : Program
demo_program = program_of (raw_memory demo_image) (run_ram_words demo_machine) RAM_START

-- flip k of a workload, counted from 0
unfoldable pub demo_flip : ℕ → ℕ → ScriptLine
demo_flip seed k = record { step = flip_step seed k; act = Flip (flip_word seed k) (flip_bit seed k) }

-- its flips, in the order of the draws
abbrev pub demo_flips : ℕ → List ScriptLine
demo_flips seed = map (demo_flip seed) (range_with_len 0 FLIPS)

-- what both machines run: the program under the flips of the number, with no input and no schedule
abbrev pub demo_run : ℕ → RunInputs
demo_run number = record { image = demo_program; lines = demo_flips number; given = given_by [] [] }

-- the machine that such a run leaves
abbrev pub demo_faulty : ℕ → StackMachine
demo_faulty number = faulty_run demo_program (settings_of demo_machine) (given_by [] []) (demo_flips number)
