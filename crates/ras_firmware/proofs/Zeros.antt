-- The blocks of firmware's memory without views.
use Rattle.std.proofs.Common.{◌≡◌, ℕ, ◌+◌, ◌-◌, ◌≤◌, List, [], ◌++◌, None, refl, ap, ◌∙◌, arith}
use Rattle.std.proofs.lemmas.List.{replicate-append-replicate}
use Rattle.byte_fields.specs.Fields.{padded, zeros}
use Rattle.byte_fields.specs.FieldsLaws.{length-zeros}
use Rattle.acpi_tables.proofs.BlockLemmas.{empty_block}
use Rattle.ras_bits.specs.declared.map.TheConstants.{FIRMWARE_START, FIRMWARE_LENGTH, POLLED_BLOCK_START, BOOT_REGION_LENGTH}
use Rattle.ras_firmware.specs.Memory.{views_block, polled_piece, region_piece}

no_views : views_block [] ≡ zeros 20
unfolding views_block
no_views = empty_block [] refl

zeros_more : (n m : ℕ) → zeros n ++ zeros m ≡ zeros (n + m)
unfolding zeros
zeros_more n m = replicate-append-replicate n m 0

-- zeros, padded
padded_zeros : (n : ℕ) (b : List ℕ) → b ≡ zeros 20 → 20 ≤ n → padded n b ≡ zeros n
unfolding padded
padded_zeros n b is fits =
    ap (padded n) is ∙ ap (λ k. zeros 20 ++ zeros (n - k)) (length-zeros 20) ∙ zeros_more 20 (n - 20) ∙ ap zeros (omega arith)

pub zero_polled : polled_piece [] ≡ zeros (FIRMWARE_LENGTH - (POLLED_BLOCK_START - FIRMWARE_START))
unfolding polled_piece
zero_polled = padded_zeros (FIRMWARE_LENGTH - (POLLED_BLOCK_START - FIRMWARE_START)) (views_block []) no_views (omega arith)

pub zero_region : region_piece None ≡ zeros BOOT_REGION_LENGTH
unfolding region_piece
zero_region = padded_zeros BOOT_REGION_LENGTH (views_block []) no_views (omega arith)
