-- The entries of a cache, as functions of its lists.
use Rattle.std.specs.Prelude.{ℕ, ◌%◌, [], ◌∷◌, ◌++◌, replicate, slice_index_or, slice_set}
use Rattle.poison_mem.specs.CacheState.{EntryCalls}
use Rattle.poison_cache.specs.Cache.{CachedLines}

-- the lists are what the calls on entries see and change, and all else stays
abbrev pub cache_entries : {S : Type 0} → ℕ → EntryCalls (CachedLines S)
cache_entries sets = record {
  listed = λ s set. slice_index_or s.lists set [];
  forget_all = λ s. record s { lists = replicate sets [] };
  place_last = λ s h. record s { lists = slice_set s.lists (h.line % sets) (slice_index_or s.lists (h.line % sets) [] ++ h ∷ []) };
}
