-- How a host in memory is kept.
use Rattle.std.specs.Prelude.{map}
use Rattle.ras_host.specs.Calls.{told_calls}
use Rattle.ras_host.specs.Created.{told_created}
use Rattle.ras_host.specs.Memory.{MemoryState}
use Rattle.ras_host.specs.Stored.{file_of}
use Rattle.ras_host.specs.declared.memory.MemoryHost.TheInside.{Inside}

-- the state that the fields keep
abbrev pub state_of : Inside → MemoryState
state_of h = record {
  files = map file_of h.files.items;
  out = h.out.items;
  err = h.err.items;
  created = told_created h.created;
  calls = told_calls h.log;
  room = h.room;
  used = h.used;
  failing = h.failing.items;
  faults = h.faults;
}
