use Rattle.std.proofs.Common.{lit<}
use Rattle.poison_mem.specs.CacheState.{HasRoomFor}
use Rattle.poison_cache.specs.Cache.{cache_level}
use Rattle.poison_cache.specs.Entries.{cache_entries}
use Rattle.poison_cache.specs.EntriesLaws.{none_of, cache_keeps_entries}
use Rattle.poison_cache.proofs.entries.CacheCacheState.place_last.Goals as goal

pub place_last-requires : goal.place_last-requires
place_last-requires g c =
    let room : HasRoomFor g.row.SETS g.row.WAYS (cache_level g.row.SETS g.row.WAYS g.M.LineMem.level) (cache_entries g.row.SETS) _ c.args.h.now =
    rw (← c.self.view_is) at c.requires in
    (lit< tt, (none_of c.args.h.now.line _ room.absent, room.room))

pub invariant_of-self : goal.invariant_of-self
invariant_of-self g c =
    let room : HasRoomFor g.row.SETS g.row.WAYS (cache_level g.row.SETS g.row.WAYS g.M.LineMem.level) (cache_entries g.row.SETS) _ c.args.h.now =
    rw (← c.self.view_is) at c.requires in
    rw c.place_last.ensures
    ((cache_keeps_entries g.M.LineMem.level g.M.LineMem.valid g.row.SETS g.row.WAYS).placed_valid _ c.args.h.now c.self.invariant room)
