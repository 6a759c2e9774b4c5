-- The entries of the two caches.
use Rattle.std.specs.Prelude.{ℕ, ◌≡◌, ◌⊎◌, ◌==◌, if◌then◌else◌}
use Rattle.poison_mem.specs.declared.cache_state.Held.{Held}
use Rattle.poison_mem.specs.CacheState.{EntryCalls, HasRoomFor}
use Rattle.poison_cache.specs.Entries.{cache_entries}
use Rattle.mem_stack.specs.declared.stack.TheConstants.{L1_SETS, L1_WAYS, L2_SETS, L2_WAYS}
use Rattle.mem_stack.specs.Stack.{SecondLines, StackLines, second_level, stack_level}

-- level 1 is the first cache, level 2 the second
abbrev pub IsCacheLevel : ℕ → Type 0
IsCacheLevel level = (level ≡ 1) ⊎ (level ≡ 2)

-- how many sets the cache of a level has
abbrev pub sets_of : ℕ → ℕ
sets_of level = if level == 1 then L1_SETS else L2_SETS

-- the entries of the first cache
abbrev pub first_entries : EntryCalls StackLines
first_entries = cache_entries L1_SETS

-- the entries of the second cache
abbrev pub second_entries : EntryCalls SecondLines
second_entries = cache_entries L2_SETS

-- an entry can be appended to the list of its set of the first cache
abbrev pub FirstHasRoomFor : StackLines → Held → Type 0
FirstHasRoomFor s h = HasRoomFor L1_SETS L1_WAYS stack_level first_entries s h

-- and of the second
abbrev pub SecondHasRoomFor : StackLines → Held → Type 0
SecondHasRoomFor s h = HasRoomFor L2_SETS L2_WAYS second_level second_entries s.below h

-- no line is held
abbrev pub forgotten : StackLines → StackLines
forgotten s = (let first = first_entries.forget_all s in record first { below = second_entries.forget_all s.below })
