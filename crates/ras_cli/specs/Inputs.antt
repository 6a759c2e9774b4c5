-- What was read, as the program holds it.
use Rattle.ras_machine.specs.Schedule.{Given, given_by}
use Rattle.ras_cli.specs.declared.inputs.Inputs.{Inputs}

-- the input and the schedule
abbrev pub given_in : Inputs → Given
given_in inputs = given_by inputs.input.items inputs.schedule.items
