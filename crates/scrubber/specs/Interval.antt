-- An interval: so many steps, of which one after another follow from step 0 on.
use Rattle.std.specs.Prelude.{ℕ, ◌-◌, ◌%◌, ◌==◌, if◌then◌else◌}

-- how many steps are left of the interval that step `n` is in, that step counted; none where intervals have no steps
abbrev pub left_in : ℕ → ℕ → ℕ
left_in every n = if every == 0 then 0 else every - n % every
