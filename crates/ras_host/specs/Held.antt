-- How the buffers of a host in memory are kept.
use Rattle.std.specs.Prelude.{◌≡◌, ◌≤◌, ℕ, Vec, vec_len, vec_capacity}
use Rattle.std.specs.declared.alloc.Global.{Global}
use Rattle.ras_host.specs.declared.call_log.CallLog.{CallLog}
use Rattle.ras_host.specs.declared.created.CreatedFiles.{CreatedFiles}

-- the buffers have the room that is left
pub record IsHeld (room used : ℕ) (out err : Vec ℕ Global) (created : CreatedFiles) (log : CallLog) : Type 0 where
  pub in_room : used ≤ room
  pub out_used : vec_len out ≤ used
  pub err_used : vec_len err ≤ used
  pub out_room : room ≤ vec_capacity out
  pub err_room : room ≤ vec_capacity err
  pub created_used : vec_len created.bytes ≤ used
  pub created_room : created.room ≡ room
  pub log_room : log.room ≡ room
