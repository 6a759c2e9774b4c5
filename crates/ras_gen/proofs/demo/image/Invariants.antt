use Rattle.std.proofs.Common.{◌≡◌, take}
use Rattle.std.specs.Int.{to_le_bytes, w32}
use Rattle.std.specs.List.{flat_map}
use Rattle.ras_gen.specs.Demo.{program}
use Rattle.ras_gen.proofs.demo.image.Given as goal

-- the bytes of the words so far
abbrev pub invariant-loop-word : goal.invariant-loop-word
invariant-loop-word l = l.bytes.items ≡ flat_map (to_le_bytes w32) (take l.word-index program)
