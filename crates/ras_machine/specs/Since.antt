-- The flips of a word since it was last stored whole.
use Rattle.std.specs.Prelude.{◌≡◌, ℕ, zero, suc, ◌+◌, ◌≤◌, ◌==◌, ◌&&◌, Bool, false, nat_le, nat_lt, List, [], Option, Some, None, count_by, if◌then◌else◌}
use Rattle.std.specs.List.{list_any}
use Rattle.fault_script.specs.declared.lines.Act.{Act}
use Rattle.fault_script.specs.declared.lines.Act.TheVariants.{Flip, Scrub, Inject, Control}
use Rattle.fault_script.specs.declared.lines.ScriptLine.{ScriptLine}
use Rattle.rv64_hart.specs.Outcome.{Outcome, Store, has_room}
use Rattle.ras_machine.specs.Flat.{FlatState, flat_answered, flat_turn, flat_after}
use Rattle.ras_machine.specs.Schedule.{Given}

-- the stores that a step of the flat machine makes: none where the console has no room
abbrev pub stores_of : List ℕ → Outcome → List Store
stores_of console o = if has_room console o.bytes then o.stores else []

-- the stores of step n from this state of the flat machine
abbrev pub stores_in : Given → ℕ → FlatState → List Store
stores_in given n s = stores_of s.console (flat_answered s.ram (flat_turn given n s))

-- one of the stores is of all eight bytes of word w
abbrev pub stores_whole : ℕ → List Store → Bool
stores_whole w stores = list_any (λ store. (store.w == w) && (store.mask == 255)) stores

-- the last step below n in which the flat machine stores word w whole
unfoldable pub last_whole_store : Given → FlatState → ℕ → ℕ → Option ℕ
last_whole_store given start w zero = None
last_whole_store given start w (suc n) =
    if stores_whole w (stores_in given n (flat_after given start n)) then Some n else last_whole_store given start w n

-- the first step whose flips are counted: the one after that, or step 0
abbrev pub step_after : Option ℕ → ℕ
step_after None = 0
step_after (Some n) = n + 1

-- an act flips a bit of word w
abbrev pub is_flip_of : ℕ → Act → Bool
is_flip_of w (Flip u bit) = u == w
is_flip_of w (Scrub u) = false
is_flip_of w (Inject bank rec class delay address) = false
is_flip_of w (Control bank rec value) = false

-- how many lines flip word w in a step from `from` on and below `to`
abbrev pub flips_between : List ScriptLine → ℕ → ℕ → ℕ → ℕ
flips_between lines w from to = count_by (λ line. is_flip_of w line.act && (nat_le from line.step && nat_lt line.step to)) lines

-- the flips of word w since its last whole store, before those of step n
abbrev pub since_before : Given → FlatState → List ScriptLine → ℕ → ℕ → ℕ
since_before given start lines n w = flips_between lines w (step_after (last_whole_store given start w n)) n

-- the flips of word w since its last whole store, those of step n included
abbrev pub since : Given → FlatState → List ScriptLine → ℕ → ℕ → ℕ
since given start lines n w = flips_between lines w (step_after (last_whole_store given start w n)) (n + 1)

-- at most so many lines flip the same word
pub record FlipsAtMost (most : ℕ) (lines : List ScriptLine) : Type 0 where
  pub each : (w : ℕ) → count_by (λ line. is_flip_of w line.act) lines ≤ most

-- the first third flip of a word, in step n and of word w, is told only where three lines or more flip w up to step n
abbrev pub ThirdTold : List ScriptLine → Option (ℕ × ℕ) → Type 0
ThirdTold lines beyond = (n w : ℕ) → beyond ≡ Some (n, w) → 3 ≤ flips_between lines w 0 (n + 1)
