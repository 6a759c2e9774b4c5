-- Which injections of a record are due, by its inject lines in the script's order (a profile of RERI 1.0, control_i with eid).
use Rattle.std.specs.Prelude.{◌≡◌, ℕ, ◌+◌, ◌-◌, ◌≤◌, nat_lt, if◌then◌else◌, List, [], ◌∷◌, ◌++◌, Option, Some, None}
use Rattle.std.specs.List.{AllByRecursion}
use Rattle.std.specs.Option.{option_or}
use Rattle.poison_mem.specs.declared.event.Class.{Class}
use Rattle.reri_bank.specs.declared.state.Staged.{Staged}

-- what a line injects
pub record Injection : Type 0 where
  pub class : Class
  pub addr : ℕ

-- an inject line of a record: in this step it stages the injection, for so many steps
pub record InjectLine : Type 0 where
  pub step : ℕ
  pub delay : ℕ
  pub injection : Injection

-- an injection is due in step n: a line of step s and delay d injects it, s + d is n, and no line behind it has a step below n
pub record IsDue (lines : List InjectLine) (n : ℕ) (injection : Injection) : Type 0 where
  pub before : List InjectLine
  pub line : InjectLine
  pub behind : List InjectLine
  pub among : lines ≡ before ++ line ∷ behind
  pub due : line.step + line.delay ≡ n
  pub injects : line.injection ≡ injection
  pub last : AllByRecursion (λ (l : InjectLine). n ≤ l.step) behind

-- the last line of a step below n
abbrev pub last_below : ℕ → List InjectLine → Option InjectLine
last_below n [] = None
last_below n (l ∷ lines) = option_or (last_below n lines) (if nat_lt l.step n then Some l else None)

-- what a line leaves staged after step n: its injection, unless that was due by then
abbrev pub left_by : ℕ → Option InjectLine → Option Staged
left_by n None = None
left_by n (Some l) =
    if nat_lt n (l.step + l.delay) then Some (record { class = l.injection.class; addr = l.injection.addr; left = l.step + l.delay - n }) else None

-- what waits after step n
abbrev pub staged_in : ℕ → List InjectLine → Option Staged
staged_in n lines = left_by n (last_below (n + 1) lines)
