-- The records file.
use Rattle.std.specs.Prelude.{ℕ, ◌+◌, List, [], length, Option, Some, None}
use Rattle.std.specs.List.{flat_map, range_with_len, slice_get}
use Rattle.poison_mem.specs.declared.event.RecordView.{RecordView}
use Rattle.cper_sections.specs.Record.{record_bytes}

-- the record of a view, where there is one, with an id
abbrev pub record_of : Option RecordView → ℕ → List ℕ
record_of None id = []
record_of (Some view) id = record_bytes view id

-- record k of the file, counted from 0: of view k, with the id k + 1
abbrev pub record_number : List RecordView → ℕ → List ℕ
record_number views k = record_of (slice_get views k) (k + 1)

-- the records of all views, one after the other
abbrev pub file_bytes : List RecordView → List ℕ
file_bytes views = flat_map (record_number views) (range_with_len 0 (length views))
