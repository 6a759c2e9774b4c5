-- Events that are logged one after another.
use Rattle.std.proofs.Common.{add-one, ◌+◌, ◌*◌, ◌≡◌, ◌∙◌, ℕ, ◌++◌, List, sym, ap}
use Rattle.poison_mem.specs.BusLaws.{logged_append}
use Rattle.poison_mem.specs.declared.line.Line.{Line}
use Rattle.poison_mem.specs.declared.event.Event.{Event}
use Rattle.poison_mem.specs.Line.{cell}
use Rattle.poison_mem.specs.Bus.{logged_all}
use Rattle.poison_cache.specs.LogTo.{LogTo}
use Rattle.poison_cache.specs.Cache.{poison_events, cell_event}

-- a log after two lists of events
pub logged_both : {G : Type 0} (logged : G → Event → G) (log : G) (xs ys : List Event) → logged_all logged (logged_all logged log xs) ys ≡ logged_all logged log (xs ++ ys)
logged_both logged log xs ys = sym (logged_append logged log xs ys)

-- a log after the events of one more cell
pub one_more_logged : {G : Type 0} (logged : G → Event → G) (g h : G) (log_to : LogTo) (l : ℕ) (cells : Line) (n : ℕ)
    → g ≡ logged_all logged h (poison_events log_to l cells n)
    → logged_all logged g (cell_event log_to (8 * l + n) (cell cells n)) ≡ logged_all logged h (poison_events log_to l cells (n + 1))
one_more_logged logged g h log_to l cells n so_far =
    rw add-one (ap (λ x. logged_all logged x (cell_event log_to (8 * l + n) (cell cells n))) so_far ∙ sym (logged_append logged h (poison_events log_to l cells n) (cell_event log_to (8 * l + n) (cell cells n))))
