-- What a patrol does.
use Rattle.std.specs.Prelude.{ℕ, zero, suc, ◌+◌, ◌-◌, ◌%◌, ◌==◌, Bool, nat_lt, ◌&&◌, if◌then◌else◌, Option, Some, None}
use Rattle.scrubber.specs.PatrolState.{PatrolState}

-- a patrol from the first word on
abbrev pub new_patrol : ℕ → ℕ → PatrolState
new_patrol every words = record { every = every; words = words; next = 0 }

-- another word is next
abbrev pub moved_to : PatrolState → ℕ → PatrolState
moved_to p next = record { every = p.every; words = p.words; next = next }

-- a patrol is due in the last of each `every` steps
abbrev pub is_due : PatrolState → ℕ → Bool
is_due p n = nat_lt 0 p.every && n % p.every == p.every - 1

-- the word that is then scrubbed
abbrev pub due_at : PatrolState → ℕ → Option ℕ
due_at p n = if is_due p n then Some p.next else None

-- the word that is next so many patrols later: after the last word the first comes
abbrev pub next_after : PatrolState → ℕ → ℕ
next_after p patrols = (p.next + patrols) % p.words

-- the next word is one further on
abbrev pub moved_on : PatrolState → PatrolState
moved_on p = moved_to p (next_after p 1)

-- a patrol after its first `n` steps, where it moves on in each step in which it is due
abbrev pub after_steps : PatrolState → ℕ → PatrolState
after_steps p zero = p
after_steps p (suc n) = let q = after_steps p n in if is_due q n then moved_on q else q
