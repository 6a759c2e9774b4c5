-- What a record shows of the events since its last clear (a profile of RERI 1.0, status_i and its rules of overwriting).
use Rattle.std.specs.Prelude.{ℕ, ◌+◌, ◌==◌, Bool, true, false, ◌&&◌, ◌||◌, nat_lt, min, count_by, if◌then◌else◌, List, [], ◌∷◌, Option, Some, None}
use Rattle.std.specs.Option.{option_map}
use Rattle.poison_mem.specs.declared.event.Class.{Class}
use Rattle.poison_mem.specs.declared.event.Class.TheVariants.{Corrected, Deferred, Critical}
use Rattle.poison_mem.specs.declared.event.Event.{Event}
use Rattle.poison_mem.specs.declared.event.RecordView.{RecordView}
use Rattle.reri_bank.specs.declared.record.TheConstants.{MOST_COUNTED}

-- the rank of a class in the rising order CE, UED, UEC
abbrev pub rank : Class → ℕ
rank Corrected = 0
rank Deferred = 1
rank Critical = 2

-- a greater class, or the same class and a greater priority
abbrev pub ranks_above : Event → Event → Bool
ranks_above e k =
    nat_lt (rank k.class) (rank e.class) || (rank e.class == rank k.class && nat_lt k.pri e.pri)

-- the first of the greatest: an event stands before what is kept of those after it
abbrev pub kept_with : Event → Option Event → Event
kept_with e None = e
kept_with e (Some k) = if ranks_above k e then k else e

-- the event that is kept of a list
abbrev pub kept_of : List Event → Option Event
kept_of [] = None
kept_of (e ∷ es) = Some (kept_with e (kept_of es))

-- how many events have a class of this rank
unfoldable pub of_class : ℕ → List Event → ℕ
of_class class es = count_by (λ e. rank e.class == class) es

-- what is shown of events of which one is kept
abbrev pub view_of_events : List Event → Event → RecordView
view_of_events es kept = record {
  kept = kept;
  ce = nat_lt 0 (of_class 0 es);
  ued = nat_lt 0 (of_class 1 es);
  uec = nat_lt 0 (of_class 2 es);
  mo = nat_lt 1 (of_class (rank kept.class) es);
  cec = min (of_class 0 es) MOST_COUNTED;
  ceco = nat_lt MOST_COUNTED (of_class 0 es);
}

-- a record by its events since the last clear
abbrev pub rec_of : List Event → Option RecordView
rec_of es = option_map (view_of_events es) (kept_of es)

-- by one event more: two events of the kept class have come
abbrev pub more_after : RecordView → Class → Bool
more_after v class =
    if nat_lt (rank v.kept.class) (rank class) then false
    else v.mo || rank class == rank v.kept.class

-- the class is CE
abbrev pub is_corrected : Class → Bool
is_corrected class = rank class == 0

-- by one event more: the number of CE, up to the last that fits
abbrev pub count_after : RecordView → Class → ℕ
count_after v class = if is_corrected class && nat_lt v.cec MOST_COUNTED then v.cec + 1 else v.cec

-- by one event more: more CE came than are counted
abbrev pub passed_after : RecordView → Class → Bool
passed_after v class = if is_corrected class && v.cec == MOST_COUNTED then true else v.ceco

-- the running form of `rec_of`: what live registers become by one event more
unfoldable pub with_event : Option RecordView → Event → RecordView
with_event None e = record {
  kept = e;
  ce = rank e.class == 0;
  ued = rank e.class == 1;
  uec = rank e.class == 2;
  mo = false;
  cec = if rank e.class == 0 then 1 else 0;
  ceco = false;
}
with_event (Some v) e = record {
  kept = if ranks_above e v.kept then e else v.kept;
  ce = v.ce || rank e.class == 0;
  ued = v.ued || rank e.class == 1;
  uec = v.uec || rank e.class == 2;
  mo = more_after v e.class;
  cec = count_after v e.class;
  ceco = passed_after v e.class;
}
