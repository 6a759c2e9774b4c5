use Rattle.std.proofs.Common.{◌≡◌, ◌-◌, take, drop, ap, ◌∙◌}
use Rattle.ras_bits.specs.declared.map.TheConstants.{FIRMWARE_START, BOOT_REGION_START, BOOT_REGION_LENGTH}
use Rattle.ras_firmware.specs.Memory.{FirmMemoryState, memory_front, region_piece, polled_piece}
use Rattle.ras_firmware.proofs.Pointing.{region_there}
use Rattle.ras_firmware.proofs.Written.{behind}
use Rattle.ras_firmware.proofs.memory.FirmMemory.bytes.Goals as goal

pub returns-clause-region : goal.returns-clause-region
returns-clause-region c =
    let m : FirmMemoryState = record { polled = c.self.inside.polled.items; region = c.self.inside.region } in
    ap (λ b. take BOOT_REGION_LENGTH (drop (BOOT_REGION_START - FIRMWARE_START) b)) (c.as_slice.ensures.value ∙ c.self.invariant.bytes_are)
    ∙ region_there m c.self.invariant.front
    ∙ ap (λ (s : FirmMemoryState). region_piece s.region) c.self.view_is

pub returns-clause-polled : goal.returns-clause-polled
returns-clause-polled c =
    let m = c.self.inside in
    behind _ (memory_front m.region) (polled_piece m.polled.items) c.as_slice.result.now (c.as_slice.ensures.value ∙ c.self.invariant.bytes_are) c.self.invariant.front
    ∙ ap (λ (s : FirmMemoryState). polled_piece s.polled) c.self.view_is
