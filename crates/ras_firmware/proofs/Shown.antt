-- What firmware's memory shows after any calls.
use Rattle.std.proofs.Common.{◌≡◌, List, [], ◌∷◌, Option, Some, None, refl, ◌∙◌}
use Rattle.std.specs.List.{filter, fold, last_or}
use Rattle.poison_mem.specs.declared.event.RecordView.{RecordView}
use Rattle.ras_firmware.specs.Firmware.{FirmwareCall, LogEvent, SetNow, WriteControl, SetStaged, MarkAll, ClearAll, new_firmware, firmware_after, firmware_run}
use Rattle.ras_firmware.specs.Memory.{FirmMemoryState, polled_after, with_region}
use Rattle.ras_firmware.specs.Sent.{after_calls, rounds, has_views, views_in, last_views}
use Rattle.ras_firmware.specs.declared.firmware.Firmware.{Firmware}

polled_run : (calls : List FirmwareCall) (f : Firmware) → (firmware_run f calls).memory.polled ≡ fold polled_after f.memory.polled (rounds f calls)
polled_run [] f = refl
polled_run (LogEvent e ∷ calls) f = polled_run calls (firmware_after f (LogEvent e))
polled_run (SetNow n ∷ calls) f = polled_run calls (firmware_after f (SetNow n))
polled_run (WriteControl p v ∷ calls) f = polled_run calls (firmware_after f (WriteControl p v))
polled_run (SetStaged p t ∷ calls) f = polled_run calls (firmware_after f (SetStaged p t))
polled_run (MarkAll ∷ calls) f = polled_run calls (firmware_after f MarkAll)
polled_run (ClearAll ∷ calls) f = polled_run calls (firmware_after f ClearAll)

last_shown : (views : List (List RecordView)) (before : List RecordView) → fold polled_after before views ≡ views_in (last_or (Some before) (filter has_views views))
last_shown [] before = refl
last_shown ([] ∷ views) before = last_shown views before
last_shown ((v ∷ vs) ∷ views) before = last_shown views (v ∷ vs)

none_first : (views : List (List RecordView)) → views_in (last_or (Some []) views) ≡ views_in (last_or None views)
none_first [] = refl
none_first (round ∷ views) = refl

pub last_polled : (calls : List FirmwareCall) → (after_calls calls).memory.polled ≡ last_views (rounds new_firmware calls)
last_polled calls = polled_run calls new_firmware ∙ last_shown (rounds new_firmware calls) [] ∙ none_first (filter has_views (rounds new_firmware calls))

region_run : (calls : List FirmwareCall) (f : Firmware) → (firmware_run f calls).memory.region ≡ f.memory.region
region_run [] f = refl
region_run (LogEvent e ∷ calls) f = region_run calls (firmware_after f (LogEvent e))
region_run (SetNow n ∷ calls) f = region_run calls (firmware_after f (SetNow n))
region_run (WriteControl p v ∷ calls) f = region_run calls (firmware_after f (WriteControl p v))
region_run (SetStaged p t ∷ calls) f = region_run calls (firmware_after f (SetStaged p t))
region_run (MarkAll ∷ calls) f = region_run calls (firmware_after f MarkAll)
region_run (ClearAll ∷ calls) f = region_run calls (firmware_after f ClearAll)

pub no_region : (calls : List FirmwareCall) → (after_calls calls).memory.region ≡ None
no_region calls = region_run calls new_firmware

pub polled_stays : (m : FirmMemoryState) (v : Option RecordView) → (with_region m v).polled ≡ m.polled
polled_stays m None = refl
polled_stays m (Some v) = refl

pub region_shown : (m : FirmMemoryState) (v : Option RecordView) → m.region ≡ None → (with_region m v).region ≡ v
region_shown m None h = h
region_shown m (Some v) h = refl
