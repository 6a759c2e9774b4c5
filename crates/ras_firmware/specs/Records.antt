-- What is kept of what is emitted.
use Rattle.std.specs.Prelude.{ℕ, ◌≡◌, ◌+◌, ◌-◌, ◌^◌, ◌<◌, ◌≤◌, min, nat_lt, if◌then◌else◌, List, [], ◌∷◌, ◌++◌, length, take}
use Rattle.poison_mem.specs.declared.event.RecordView.{RecordView}
use Rattle.std.specs.List.{AllByRecursion, fold}
use Rattle.ras_firmware.specs.declared.records.TheConstants.{MOST_RECORDS}
use Rattle.poison_mem.specs.RecordView.{IsListedView}

-- the views that are kept, in order, and the number of those that were left out
pub record KeptState : Type 0 where
  pub views : List RecordView
  pub left_out : ℕ

-- what holds of the emitted records: there are at most so many, and one is left out only where there is none
pub record IsKept (r : KeptState) : Type 0 where
  pub fits : length r.views ≤ MOST_RECORDS
  pub listed : AllByRecursion IsListedView r.views
  pub full : 0 < r.left_out → length r.views ≡ MOST_RECORDS

-- nothing was emitted
abbrev pub no_records : KeptState
no_records = record { views = []; left_out = 0 }

-- one view more is kept while there is room, and else counted; the count stays at its last value
abbrev pub with_view : KeptState → RecordView → KeptState
with_view r view =
    if nat_lt (length r.views) MOST_RECORDS then record r { views = r.views ++ view ∷ [] }
    else record r { left_out = min (r.left_out + 1) (2 ^ 64 - 1) }

-- more views, in order
abbrev pub with_all : KeptState → List RecordView → KeptState
with_all r views = fold with_view r views

-- as many first views as are kept, and the number of the others
abbrev pub first_views : List RecordView → KeptState
first_views views = record {
  views = take MOST_RECORDS views;
  left_out = min (length views - MOST_RECORDS) (2 ^ 64 - 1);
}
