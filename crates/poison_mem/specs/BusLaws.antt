-- Events in a log, one list after another.
use Rattle.std.specs.Prelude.{◌≡◌, List, [], ◌∷◌, ◌++◌}
use Rattle.std.proofs.Common.{refl}
use Rattle.poison_mem.specs.declared.event.Event.{Event}
use Rattle.poison_mem.specs.Bus.{logged_all}

pub logged_append : {L : Type 0} (logged : L → Event → L) (log : L) (xs ys : List Event)
    → logged_all logged log (xs ++ ys) ≡ logged_all logged (logged_all logged log xs) ys
logged_append logged log [] ys = refl
logged_append logged log (x ∷ xs) ys = logged_append logged (logged log x) xs ys
