-- No call on a line changes the number of words.
use Rattle.std.proofs.Common.{◌≡◌, ◌∙◌, ℕ, List, refl}
use Rattle.poison_mem.specs.declared.line.Line.{Line}
use Rattle.poison_mem.specs.Level.{Level, LinesKeepWords}
use Rattle.poison_mem.specs.declared.cache_state.Held.{Held}
use Rattle.poison_cache.specs.LogTo.{LogTo}
use Rattle.poison_cache.specs.Cache.{CachedLines, room_in, get_in, put_in, cache_level, cache_store}
use Rattle.poison_cache.specs.Below.{IsKeptBelow}
use Rattle.poison_cache.specs.BelowLaws.{room-kept, get-kept, put-kept, cache_get-kept, cache_put-kept, cache_store-kept}

module _ {S : Type 0} (level : Level S) (keeps_words : LinesKeepWords level) where
  abbrev HasSameWords : S → S → Type 0
  HasSameWords s t = level.words t ≡ level.words s

  words_kept : IsKeptBelow level HasSameWords
  words_kept = record { stays = λ s. refl; joins = λ r s t first second. second ∙ first; get = keeps_words.get; put = keeps_words.put }

  pub room_words : (log_to : LogTo) (ways : ℕ) (entries : List Held) (below : S) → level.words (room_in level log_to ways entries below).below ≡ level.words below
  room_words log_to ways entries below = room-kept level HasSameWords words_kept log_to ways entries below

  pub get_words : (log_to : LogTo) (ways : ℕ) (entries : List Held) (below : S) (l : ℕ) → level.words (get_in level log_to ways entries below l).below ≡ level.words below
  get_words log_to ways entries below l = get-kept level HasSameWords words_kept log_to ways entries below l

  pub put_words : (log_to : LogTo) (ways : ℕ) (entries : List Held) (below : S) (l : ℕ) (cells : Line) → level.words (put_in level log_to ways entries below l cells).below ≡ level.words below
  put_words log_to ways entries below l cells = put-kept level HasSameWords words_kept log_to ways entries below l cells

  pub cache_keeps_words : (sets ways : ℕ) → LinesKeepWords (cache_level sets ways level)
  cache_keeps_words sets ways = record {
    get = cache_get-kept level HasSameWords words_kept sets ways;
    put = cache_put-kept level HasSameWords words_kept sets ways;
  }

  -- nor does a store
  pub store_words : (sets ways : ℕ) (s : CachedLines S) (w v mask : ℕ) → level.words (cache_store sets ways level s w v mask).after.below ≡ level.words s.below
  store_words sets ways s w v mask = cache_store-kept level HasSameWords words_kept sets ways s w v mask
