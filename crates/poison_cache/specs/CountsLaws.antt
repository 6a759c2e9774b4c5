-- No read, put or store of a line adds to the flips that a word below counts, and of the calls on words only a flip does.
use Rattle.std.proofs.Common.{ℕ, arith}
use Rattle.poison_mem.specs.Cells.{CellCalls, CellsKeepCounts, CountsNoMore}
use Rattle.poison_mem.specs.Level.{Level, LinesKeepCounts}
use Rattle.poison_cache.specs.Cache.{CachedLines, cache_level, cache_calls, cache_store}
use Rattle.poison_cache.specs.Below.{IsKeptBelow}
use Rattle.poison_cache.specs.BelowLaws.{cache_get-kept, cache_put-kept, cache_store-kept}

module _ {S : Type 0} (level : Level S) (calls : CellCalls S) (counts : LinesKeepCounts level calls.cell) where
  counts_kept : IsKeptBelow level (CountsNoMore calls.cell)
  counts_kept = record {
    stays = λ s w. omega arith;
    joins = λ r s t first second w. let a = first w in let b = second w in omega arith;
    get = counts.get;
    put = counts.put;
  }

  pub cache_lines_keep_counts : (sets ways : ℕ) → LinesKeepCounts (cache_level sets ways level) (cache_calls calls).cell
  cache_lines_keep_counts sets ways = record {
    get = cache_get-kept level (CountsNoMore calls.cell) counts_kept sets ways;
    put = cache_put-kept level (CountsNoMore calls.cell) counts_kept sets ways;
  }

  pub store_counts : (sets ways : ℕ) (s : CachedLines S) (w v mask : ℕ) → CountsNoMore (cache_calls calls).cell s (cache_store sets ways level s w v mask).after
  store_counts sets ways s w v mask = cache_store-kept level (CountsNoMore calls.cell) counts_kept sets ways s w v mask

pub cache_cells_keep_counts : {S : Type 0} (level : Level S) (calls : CellCalls S) → CellsKeepCounts level.words calls
    → (sets ways : ℕ) → CellsKeepCounts (cache_level sets ways level).words (cache_calls calls)
cache_cells_keep_counts level calls keeps sets ways = record {
  load_words = λ s w v. keeps.load_words s.below w v;
  strike_words = λ s w bit. keeps.strike_words s.below w bit;
  scrub_words = λ s w. keeps.scrub_words s.below w;
  set_cell_words = λ s w state. keeps.set_cell_words s.below w state;
  load = λ s w v. keeps.load s.below w v;
  scrub = λ s w. keeps.scrub s.below w;
  strike = λ s w bit k. keeps.strike s.below w bit k;
}
