use Rattle.std.proofs.Common.{◌∙◌, ap, ◌++◌, codes}
use Rattle.std.proofs.lemmas.List.{append-nil}
use Rattle.ras_numbers.specs.Numbers.{address_text}
use Rattle.ras_numbers.proofs.writing.address.Goals as goal

pub returns : goal.returns
unfolding address_text
returns c = ap (λ digits. codes "0x" ++ digits) (append-nil c.copy_from_slice.new.self ∙ c.copy_from_slice.ensures.after ∙ c.hex_digits.ensures)
