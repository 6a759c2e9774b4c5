-- When the stack stands for words.
use Rattle.std.specs.Prelude.{ℕ}
use Rattle.poison_mem.specs.Level.{InRange}
use Rattle.poison_cache.specs.Standing.{CacheValid, CacheStands}
use Rattle.ecc_memory.specs.Lines.{memory_level}
use Rattle.ecc_memory.specs.Standing.{HasWholeLines, LineStands}
use Rattle.mem_stack.specs.declared.stack.TheConstants.{L1_SETS, L1_WAYS, L2_SETS, L2_WAYS}
use Rattle.mem_stack.specs.Stack.{SecondLines, StackLines, second_level, stack_level}

-- what holds of every reachable second cache, and of every reachable stack
abbrev pub SecondValid : SecondLines → Type 0
SecondValid s = CacheValid L2_SETS L2_WAYS memory_level HasWholeLines s

-- what holds of every reachable state of the stack
abbrev pub StackValid : StackLines → Type 0
StackValid s = CacheValid L1_SETS L1_WAYS second_level SecondValid s

-- what a line stands for in the second cache, and in the stack
abbrev pub SecondStands : SecondLines → ℕ → (ℕ → ℕ) → (ℕ → ℕ) → Type 0
SecondStands s l f q = CacheStands LineStands L2_SETS s l f q

-- and in the stack
abbrev pub StackLineStands : StackLines → ℕ → (ℕ → ℕ) → (ℕ → ℕ) → Type 0
StackLineStands s l f q = CacheStands SecondStands L1_SETS s l f q

-- the stack is a reachable one, and each line stands for the words that f gives, within the flips that q gives
pub record StackStands (s : StackLines) (f q : ℕ → ℕ) : Type 0 where
  pub valid : StackValid s
  pub each : (l : ℕ) → InRange stack_level s l → StackLineStands s l f q
