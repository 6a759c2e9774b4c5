-- Reads of the words of a console write, and stores of the bytes of a console read.
use Rattle.std.proofs.Common.{◌≡◌, ℕ, ◌+◌, ◌%◌, List, [], ◌∷◌, ◌++◌, true, false, refl, ap, arith, add-one, take, drop}
use Rattle.std.specs.Int.{w64, to_le_bytes}
use Rattle.poison_mem.specs.Bus.{BusMeaning, logged_all}
use Rattle.poison_mem.specs.declared.event.Event.{Event}
use Rattle.poison_mem.specs.declared.cell.UseKind.{UseKind}
use Rattle.poison_mem.specs.declared.cell.Cell.TheVariants.{Good, Poison}
use Rattle.poison_mem.specs.Asking.{play, Ended, Poisoned}
use Rattle.ras_bits.specs.Map.{word_at}
use Rattle.sbi_calls.specs.declared.stop.GuestStop.TheVariants.{ConsoleFull}
use Rattle.rv64_hart.specs.State.{ArchitecturalState}
use Rattle.rv64_hart.specs.Outcome.{writing, has_room}
use Rattle.rv64_hart.specs.Answers.{answered}
use Rattle.rv64_hart.specs.ConsoleCalls.{bytes_asked, bytes_written, words_touched, part_of, part_stored, parts_stored}
use Rattle.rv64_hart.specs.Step.{scene, stepped, stored, finished, step_of}
use Rattle.rv64_hart.specs.declared.ends.TurnEnd.TheVariants as ends
use Rattle.rv64_hart.specs.declared.ends.Effect.TheVariants.{Nothing}
use Rattle.rv64_hart.proofs.Walks.{step_ended, step_poisoned}

module _ {B L : Type 0} (bus : BusMeaning B) (logged : L → Event → L) where
  -- the next word is poison
  pub asked_poison : (bytes : List ℕ) (w n left : ℕ) (b b' : B) (log log' : L) → n ≡ left + 1
      → Poison ≡ (bus.read b w).cell → b' ≡ (bus.read b w).after → log' ≡ logged_all logged log (bus.read b w).events
      → play bus logged (bytes_asked bytes w n) b log ≡ Poisoned w UseKind.Sbi b' log'
  unfolding bytes_asked
  asked_poison bytes w n left b b' log log' more cell after events = rw (more, add-one left, ← cell, after, events) refl

  -- the next word is good, and its bytes go behind the others
  pub asked_good : (bytes bytes' : List ℕ) (w w' n left value : ℕ) (b b' : B) (log log' : L) → n ≡ left + 1 → w' ≡ w + 1
      → Good value ≡ (bus.read b w).cell → b' ≡ (bus.read b w).after → log' ≡ logged_all logged log (bus.read b w).events
      → bytes' ≡ bytes ++ to_le_bytes w64 value
      → play bus logged (bytes_asked bytes w n) b log ≡ play bus logged (bytes_asked bytes' w' left) b' log'
  unfolding bytes_asked
  asked_good bytes bytes' w w' n left value b b' log log' more next cell after events behind = rw (more, add-one left, next, ← cell, after, events, behind) refl

  -- a console write whose words were read
  pub written_ended : (h : ArchitecturalState) (address n from count : ℕ) (none bytes : List ℕ) (place : ℕ) (console : List ℕ) (b b' : B) (log log' : L)
      → none ≡ [] → from ≡ word_at address → count ≡ words_touched address n
      → play bus logged (bytes_asked none from count) b log ≡ Ended bytes b' log'
      → step_of bus logged (bytes_written h address n) (scene h place console b log)
      ≡ step_of bus logged (writing (answered h n) (take n (drop (address % 8) bytes))) (scene h place console b' log')
  unfolding bytes_written
  written_ended h address n from count none bytes place console b b' log log' empty start is e =
      step_ended bus logged (bytes_asked [] (word_at address) (words_touched address n)) (λ bytes. writing (answered h n) (take n (drop (address % 8) bytes))) bytes h place console b b' log log'
      (rw (← empty, ← start, ← is) e)

  -- what a console that has room for bytes holds after them
  pub writes : (h after after' : ArchitecturalState) (bytes : List ℕ) (place : ℕ) (console console' : List ℕ) (b : B) (log : L)
      → has_room console bytes ≡ true → console' ≡ console ++ bytes → after' ≡ after
      → step_of bus logged (writing after bytes) (scene h place console b log) ≡ stepped (ends.Went Nothing) (scene after' place console' b log)
  unfolding finished
  writes h after after' bytes place console console' b log fits is so = rw (fits, is, so) grind arith

  -- and one that has none
  pub writes_nothing : (h after : ArchitecturalState) (bytes : List ℕ) (place : ℕ) (console console' : List ℕ) (b : B) (log : L)
      → has_room console bytes ≡ false → console' ≡ console
      → step_of bus logged (writing after bytes) (scene h place console b log) ≡ stepped (ends.Stop ConsoleFull) (scene h place console' b log)
  unfolding finished
  writes_nothing h after bytes place console console' b log full is = rw (full, is) refl

  -- a console write that met poison
  pub written_poisoned : (h : ArchitecturalState) (address n from count w : ℕ) (none : List ℕ) (place : ℕ) (console : List ℕ) (b b' : B) (log log' : L)
      → none ≡ [] → from ≡ word_at address → count ≡ words_touched address n
      → play bus logged (bytes_asked none from count) b log ≡ Poisoned w UseKind.Sbi b' log'
      → step_of bus logged (bytes_written h address n) (scene h place console b log)
      ≡ stepped (ends.Poisoned w UseKind.Sbi) (scene h place console b' log')
  unfolding bytes_written
  written_poisoned h address n from count w none place console b b' log log' empty start is e =
      step_poisoned bus logged (bytes_asked [] (word_at address) (words_touched address n)) (λ bytes. writing (answered h n) (take n (drop (address % 8) bytes))) w UseKind.Sbi h place console b b' log log'
      (rw (← empty, ← start, ← is) e)

  -- the store of the next word's part
  pub parts_next : (address : ℕ) (bytes : List ℕ) (w w' n left : ℕ) (b b' : B) (log log' : L) → n ≡ left + 1 → w' ≡ w + 1
      → stored bus logged (part_stored w (part_of address bytes w) ∷ []) b log ≡ (b', log')
      → stored bus logged (parts_stored address bytes w n) b log ≡ stored bus logged (parts_stored address bytes w' left) b' log'
  unfolding parts_stored
  parts_next address bytes w w' n left b b' log log' more next e =
      rw (more, add-one left, next) (ap (λ p. stored bus logged (parts_stored address bytes (w + 1) left) p.0 p.1) e)
