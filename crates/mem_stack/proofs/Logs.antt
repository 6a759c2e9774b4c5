-- Each cache goes on to log to its own record.
use Rattle.std.proofs.Common.{◌≡◌, ◌∙◌, ℕ, refl}
use Rattle.poison_cache.specs.Below.{IsKeptBelow}
use Rattle.poison_cache.specs.BelowLaws.{cache_get-kept, cache_store-kept}
use Rattle.poison_cache.specs.Cache.{cache_get, cache_put, cache_store}
use Rattle.mem_stack.specs.declared.stack.TheConstants.{L1_SETS, L1_WAYS}
use Rattle.mem_stack.specs.Stack.{SecondLines, StackLines, second_level, stack_level, stack_meaning, LogsToOwnRecords}

abbrev LogsAlike : SecondLines → SecondLines → Type 0
LogsAlike s t = t.log_to ≡ s.log_to

second_logs_alike : IsKeptBelow second_level LogsAlike
unfolding cache_get cache_put
second_logs_alike = record { stays = λ s. refl; joins = λ r s t first second. second ∙ first; get = λ s l. refl; put = λ s l cells. refl }

pub read_logs : (s : StackLines) (l : ℕ) → LogsToOwnRecords s → LogsToOwnRecords (stack_level.get s l).after
unfolding cache_get
read_logs s l logs = (logs.0, cache_get-kept second_level LogsAlike second_logs_alike L1_SETS L1_WAYS s l ∙ logs.1)

pub store_logs : (s : StackLines) (w v mask : ℕ) → LogsToOwnRecords s → LogsToOwnRecords (stack_meaning.store s w v mask).after
unfolding cache_store
store_logs s w v mask logs = (logs.0, cache_store-kept second_level LogsAlike second_logs_alike L1_SETS L1_WAYS s w v mask ∙ logs.1)
