use Rattle.std.proofs.Common.{◌∙◌}
use Rattle.ras_firmware.specs.Drain.{fatal_view}
use Rattle.ras_firmware.specs.Sent.{after_calls}
use Rattle.ras_firmware.proofs.Shown.{last_polled, no_region, polled_stays, region_shown}
use Rattle.ras_firmware.proofs.laws.the_memory_shows_the_last_emitted_views.Goals as goal

pub returns : goal.returns
returns c = record {
  polled = last_polled;
  polled_at_stop = λ fatal calls. polled_stays (after_calls calls).memory (fatal_view (after_calls calls).banks fatal) ∙ last_polled calls;
  before = no_region;
  region = λ fatal calls. region_shown (after_calls calls).memory (fatal_view (after_calls calls).banks fatal) (no_region calls);
}
