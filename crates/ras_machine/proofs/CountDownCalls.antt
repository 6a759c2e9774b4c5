-- A count-down of the staged injections is calls of the banks.
use Rattle.std.proofs.Common.{◌≡◌, List, ◌++◌, refl, ap, ◌∙◌}
use Rattle.std.proofs.lemmas.List.Sums.{fold-append}
use Rattle.poison_mem.specs.declared.record_id.RecordId.TheVariants.{Read, Scrub, L1, L2}
use Rattle.reri_bank.specs.BanksState.{BanksState}
use Rattle.reri_bank.specs.StateAt.{state_at}
use Rattle.reri_inject.specs.Inject.{Counted, counted, Rests, Waits, Fires, state_as, each_counted}
use Rattle.ras_firmware.specs.Firmware.{FirmwareCall, firmware_after, firmware_run}
use Rattle.ras_firmware.specs.declared.firmware.Firmware.{Firmware}
use Rattle.ras_machine.specs.CountDowns.{with_banks, calls_as, count_calls}

-- the banks after a count of one record
abbrev read_counted : Counted → BanksState → BanksState
read_counted c b = record { memory = record { kind = b.memory.kind; first = state_as c b.step 0 0 b.memory.first; second = b.memory.second }; caches = b.caches; hart = b.hart; step = b.step }

abbrev scrub_counted : Counted → BanksState → BanksState
scrub_counted c b = record { memory = record { kind = b.memory.kind; first = b.memory.first; second = state_as c b.step 0 1 b.memory.second }; caches = b.caches; hart = b.hart; step = b.step }

abbrev l1_counted : Counted → BanksState → BanksState
l1_counted c b = record { memory = b.memory; caches = record { kind = b.caches.kind; first = state_as c b.step 1 0 b.caches.first; second = b.caches.second }; hart = b.hart; step = b.step }

abbrev l2_counted : Counted → BanksState → BanksState
l2_counted c b = record { memory = b.memory; caches = record { kind = b.caches.kind; first = b.caches.first; second = state_as c b.step 1 1 b.caches.second }; hart = b.hart; step = b.step }

-- its calls change that record alone
run_read : (c : Counted) (w : Firmware) → firmware_run w (calls_as c Read) ≡ with_banks w (read_counted c w.banks)
run_read Rests w = refl
run_read (Waits s) w = refl
run_read (Fires s) w = refl

run_scrub : (c : Counted) (w : Firmware) → firmware_run w (calls_as c Scrub) ≡ with_banks w (scrub_counted c w.banks)
run_scrub Rests w = refl
run_scrub (Waits s) w = refl
run_scrub (Fires s) w = refl

run_l1 : (c : Counted) (w : Firmware) → firmware_run w (calls_as c L1) ≡ with_banks w (l1_counted c w.banks)
run_l1 Rests w = refl
run_l1 (Waits s) w = refl
run_l1 (Fires s) w = refl

run_l2 : (c : Counted) (w : Firmware) → firmware_run w (calls_as c L2) ≡ with_banks w (l2_counted c w.banks)
run_l2 Rests w = refl
run_l2 (Waits s) w = refl
run_l2 (Fires s) w = refl

-- calls that come to this, and then others
run_then : (w done : Firmware) (calls more : List FirmwareCall) → firmware_run w calls ≡ done → firmware_run w (calls ++ more) ≡ firmware_run done more
run_then w done calls more is = fold-append firmware_after w calls more ∙ ap (λ (w : Firmware). firmware_run w more) is

pub run_count : (w : Firmware) → firmware_run w (count_calls w.banks) ≡ with_banks w (each_counted w.banks)
run_count w =
    let c = counted (state_at w.banks Read).staged in
    let d = counted (state_at w.banks Scrub).staged in
    let e = counted (state_at w.banks L1).staged in
    let f = counted (state_at w.banks L2).staged in
    let v : Firmware = with_banks w (read_counted c w.banks) in
    let x : Firmware = with_banks w (scrub_counted d v.banks) in
    let y : Firmware = with_banks w (l1_counted e x.banks) in
    run_then w v (calls_as c Read) _ (run_read c w)
    ∙ run_then v x (calls_as d Scrub) _ (run_scrub d v)
    ∙ run_then x y (calls_as e L1) (calls_as f L2) (run_l1 e x)
    ∙ run_l2 f y
