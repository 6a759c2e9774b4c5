use Rattle.poison_cache.specs.Cache.{cache_peek}
use Rattle.poison_cache.proofs.Hits.{none_found, peeked_line}
use Rattle.poison_cache.proofs.cache.CacheLineMem.peek.Goals as goal

pub returns-in-Some : goal.returns-in-Some
unfolding cache_peek
returns-in-Some g c = rw (← c.self.view_is) (peeked_line g.M.LineMem.level _ c.args.l _ _ c.in-Some.ensures)

pub returns-in-None : goal.returns-in-None
unfolding cache_peek
returns-in-None g c = rw (← c.self.view_is) (rw (none_found _ _ c.in-None.ensures) c.peek.ensures)
