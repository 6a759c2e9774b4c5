-- The settings of a machine.
use Rattle.std.specs.Prelude.{◌≡◌, ◌≤◌, ◌⊎◌, ℕ, ◌*◌}
use Rattle.ras_bits.specs.declared.map.TheConstants.{WORDS_PER_MIB, MOST_WORDS, LAST_STEP}
use Rattle.ras_machine.specs.declared.settings.Settings.{Settings}
use Rattle.ras_machine.specs.declared.settings.TheConstants.{MOST_HARTS}

-- how many words of eight bytes the RAM has
abbrev pub ram_words : Settings → ℕ
ram_words s = WORDS_PER_MIB * s.ram_mib

-- no interval, or one of steps from 2 on
abbrev pub IsPoll : ℕ → Type 0
IsPoll poll = (poll ≡ 0) ⊎ ((2 ≤ poll) × (poll ≤ LAST_STEP))

-- each setting is in its range
pub record IsInRange (s : Settings) : Type 0 where
  pub some_ram : 1 ≤ s.ram_mib
  pub most_ram : ram_words s ≤ MOST_WORDS
  pub some_harts : 1 ≤ s.harts
  pub few_harts : s.harts ≤ MOST_HARTS
  pub budget : s.budget ≤ LAST_STEP
  pub poll : IsPoll s.poll
  pub patrol : s.patrol ≤ LAST_STEP
