-- A machine that is made anew: lists whose elements are set one after the other.
use Rattle.std.proofs.Common.{None, ℕ, zero, suc, ◌+◌, ◌-◌, ◌≡◌, ◌∙◌, ◌<◌, ◌≤◌, List, [], length, map, take, refl, sym, ap, arith, slice_index, slice_set}
use Rattle.std.specs.Prelude.{slice_index_or}
use Rattle.std.proofs.lemmas.List.{take_more, take_more_set, take_all, length-set, length-map, get_or-map}
use Rattle.mem_stack.specs.Stack.{StackLines, stack_flips, fresh_stack, loaded_stack}
use Rattle.mem_stack.specs.StackLaws.{loaded_words}
use Rattle.rv64_hart.specs.State.{ArchitecturalState, reset}
use Rattle.rv64_hart.specs.Harts.{hart_at, stopped_from, first_harts}
use Rattle.elf_load.specs.Program.{Program}
use Rattle.ras_firmware.specs.Firmware.{new_firmware}
use Rattle.ras_machine.specs.declared.settings.Settings.{Settings}
use Rattle.ras_machine.specs.Machine.{StackMachine, machine_made}
use Rattle.ras_machine.specs.StateCalls.{with_run}
use Rattle.ras_machine.proofs.HartCount.{first_count}

-- one more element is that of another list
one_more_set : {A : Type 0} (xs ys : List A) (n : ℕ) (x d : A) → n < length xs → n < length ys → take n xs ≡ take n ys → x ≡ slice_index_or ys n d
    → take (n + 1) (slice_set xs n x) ≡ take (n + 1) ys
one_more_set xs ys n x d in_xs in_ys same is = take_more_set xs n x in_xs ∙ rw (same, is) (sym (take_more ys n d in_ys))

-- all are
all_set : {A : Type 0} (xs ys : List A) (n : ℕ) → length xs ≡ length ys → length ys ≤ n → take n xs ≡ take n ys → xs ≡ ys
all_set xs ys n len all same = sym (take_all n xs (omega arith)) ∙ same ∙ take_all n ys all

-- one more element is that of a list to which a function is applied
one_more_mapped : {X Y : Type 0} (f : X → Y) (xs : List X) (ys after : List Y) (n : ℕ) (x d : X) → length ys ≡ length xs → take n ys ≡ take n (map f xs)
    → n < length xs → x ≡ slice_index_or xs n d → after ≡ slice_set ys n (f x) → take (n + 1) after ≡ take (n + 1) (map f xs)
one_more_mapped f xs ys after n x d len same inside is set =
    ap (take (n + 1)) set
    ∙ one_more_set ys (map f xs) n (f x) (f d) (omega arith) (let mapped = length-map xs f in omega arith) same (ap f is ∙ sym (get_or-map f xs n d (f d) inside))

-- the first words of a stack that holds no line are loaded
pub record LoadedTo (words : List ℕ) (n : ℕ) (s : StackLines) : Type 0 where
  pub fresh : s ≡ fresh_stack s.below.below
  pub len : length s.below.below ≡ length words
  pub first : take n s.below.below ≡ take n (loaded_stack words).below.below

pub one_more_loaded : (words : List ℕ) (n v : ℕ) (s after : StackLines) → LoadedTo words n s → n < length words → v ≡ slice_index words n → after ≡ stack_flips.cells.load s n v
    → LoadedTo words (n + 1) after
one_more_loaded words n v s after it inside is loaded =
    let cells = ap (λ (s : StackLines). s.below.below) loaded in
    record {
      fresh = loaded ∙ ap (λ s. stack_flips.cells.load s n v) it.fresh ∙ ap fresh_stack (sym cells);
      len = ap length cells ∙ length-set s.below.below n _ ∙ it.len;
      first = one_more_mapped _ words s.below.below after.below.below n v 0 it.len it.first inside is cells;
    }

pub all_loaded : (words : List ℕ) (n : ℕ) (s : StackLines) → LoadedTo words n s → length words ≤ n → s ≡ loaded_stack words
all_loaded words n s it all =
    let len : length (loaded_stack words).below.below ≡ length words = loaded_words words in
    it.fresh ∙ ap fresh_stack (all_set s.below.below (loaded_stack words).below.below n (it.len ∙ sym len) (omega arith) it.first)

-- the hart of a number among stopped ones, and among those of a machine that starts
stopped_hart : (id n entry i : ℕ) (d : ArchitecturalState) → i < n → slice_index_or (stopped_from id n entry) i d ≡ reset (id + i) entry
stopped_hart id zero entry i d inside = absurd (omega arith)
stopped_hart id (suc n) entry zero d inside = ap (λ id. reset id entry) (omega arith)
stopped_hart id (suc n) entry (suc i) d inside = stopped_hart (id + 1) n entry i d (omega arith) ∙ ap (λ id. reset id entry) (omega arith)

pub hart_behind : (n entry i : ℕ) → 0 < i → i < n → reset i entry ≡ hart_at (first_harts n entry) i
hart_behind n entry zero some inside = absurd (omega arith)
hart_behind n entry (suc i) some inside = sym (stopped_hart 1 (n - 1) entry i (reset (suc i) 0) (omega arith) ∙ ap (λ id. reset id entry) (omega arith))

-- the first harts are as they are first
pub record RestartedTo (harts : List ArchitecturalState) (count entry n : ℕ) : Type 0 where
  pub len : length harts ≡ count
  pub first : take n harts ≡ take n (first_harts count entry)

pub one_more_restarted : (harts after : List ArchitecturalState) (count entry n : ℕ) (h : ArchitecturalState) → RestartedTo harts count entry n → n < count
    → h ≡ hart_at (first_harts count entry) n → after ≡ slice_set harts n h → RestartedTo after count entry (n + 1)
one_more_restarted harts after count entry n h it inside is set = record {
  len = ap length set ∙ length-set harts n h ∙ it.len;
  first =
      ap (take (n + 1)) set
      ∙ one_more_set harts (first_harts count entry) n h (reset n 0) (let len = it.len in omega arith) (let len = first_count count entry (omega arith) in omega arith) it.first is;
}

pub all_restarted : (harts : List ArchitecturalState) (count entry n : ℕ) → RestartedTo harts count entry n → 1 ≤ count → count ≤ n → harts ≡ first_harts count entry
all_restarted harts count entry n it some all =
    let len = first_count count entry some in
    all_set harts (first_harts count entry) n (it.len ∙ sym len) (omega arith) it.first

-- a machine whose parts are as they are first
pub made_again : (m : StackMachine) (image : Program) (settings : Settings) → m.state.shared.harts ≡ first_harts settings.harts image.entry
    → m.state.shared.memory ≡ loaded_stack image.words → m.state.firmware ≡ new_firmware → m.state.console ≡ []
    → with_run settings 0 0 0 None m ≡ machine_made image settings
made_again m image settings harts memory firmware console = rw (harts, memory, firmware, console) refl
