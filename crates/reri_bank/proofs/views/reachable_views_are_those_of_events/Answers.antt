use Rattle.reri_bank.proofs.Shown.{shown_reachable}
use Rattle.reri_bank.proofs.Reached.{reached, held_stands}
use Rattle.reri_bank.proofs.views.reachable_views_are_those_of_events.Goals as goal

pub returns-clause-shown : goal.returns-clause-shown
returns-clause-shown c = λ es v led. shown_reachable es v led.pris_fit led.shows

pub returns-clause-reached : goal.returns-clause-reached
returns-clause-reached c = reached

pub returns-clause-stands : goal.returns-clause-stands
returns-clause-stands c = held_stands
