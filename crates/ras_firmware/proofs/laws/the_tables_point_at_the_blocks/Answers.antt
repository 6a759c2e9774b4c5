use Rattle.ras_firmware.proofs.Pointing.{hest_read, hest_points, pointer_points, bert_points}
use Rattle.ras_firmware.proofs.laws.the_tables_point_at_the_blocks.Goals as goal

pub returns : goal.returns
returns c = record { hest = hest_read; address = hest_points; pointer = pointer_points; bert = bert_points }
