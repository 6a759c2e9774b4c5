use Rattle.std.proofs.Common.{◌≡◌, sym, ◌∙◌, ap, arith, bit_xor, ◌*◌, ◌%◌, ◌^◌}
use Rattle.hsiao_code.specs.Code.{code_bits, fix, column_at, bit_of_syndrome}
use Rattle.hsiao_code.specs.declared.codeword.Decoded.TheVariants.{Clean, Fixed, Bad}
use Rattle.hsiao_code.proofs.Entries.{IsTableEntry, entry_is}
use Rattle.hsiao_code.specs.ReadingLaws.{fix_parts_clean, fix_parts_data, fix_parts_check, fix_parts_bad, clean_law, one_flip_law, two_flips_law}
use Rattle.hsiao_code.proofs.codeword.read_code.Goals as goal

pub returns-in-72 : goal.returns-in-72
returns-in-72 c =
    let entry : IsTableEntry c.syndrome.result (bit_of_syndrome c.syndrome.result) = entry_is c.syndrome.result (omega arith) in
    let exact : Clean c.args.v ≡ fix (code_bits c.args.v c.args.check) = fix_parts_clean c.args.v c.args.check (omega arith) (omega arith) (sym c.syndrome.ensures.by_parts ∙ entry.clean (omega arith)) in
    record { exact = exact; clean = clean_law _ _ _ exact; one_flip = one_flip_law _ _ _ exact; two_flips = two_flips_law _ _ _ exact }

pub returns-in-73 : goal.returns-in-73
returns-in-73 c =
    let entry : IsTableEntry c.syndrome.result (bit_of_syndrome c.syndrome.result) = entry_is c.syndrome.result (omega arith) in
    let exact : Bad ≡ fix (code_bits c.args.v c.args.check) = let none = entry.bad (omega arith) in fix_parts_bad c.args.v c.args.check (omega arith) (omega arith) (λ z. none.0 (c.syndrome.ensures.by_parts ∙ z)) (λ j h e. none.1 j h (e ∙ sym c.syndrome.ensures.by_parts)) in
    record { exact = exact; clean = clean_law _ _ _ exact; one_flip = one_flip_law _ _ _ exact; two_flips = two_flips_law _ _ _ exact }

pub returns-in_default : goal.returns-in_default
returns-in_default c =
    let entry : IsTableEntry c.syndrome.result (bit_of_syndrome c.syndrome.result) = entry_is c.syndrome.result (omega arith) in
    let exact : Fixed (bit_xor c.args.v (1 * 2 ^ c.syndrome_entry.result % 2 ^ 64)) c.syndrome_entry.result ≡ fix (code_bits c.args.v c.args.check) = fix_parts_data c.args.v c.args.check c.syndrome_entry.result (omega arith) (omega arith) (omega arith) (sym c.syndrome.ensures.by_parts ∙ sym (entry.fixed (omega arith)) ∙ ap column_at (sym c.syndrome_entry.ensures)) in
    record { exact = exact; clean = clean_law _ _ _ exact; one_flip = one_flip_law _ _ _ exact; two_flips = two_flips_law _ _ _ exact }

pub returns-in_default-2 : goal.returns-in_default-2
returns-in_default-2 c =
    let entry : IsTableEntry c.syndrome.result (bit_of_syndrome c.syndrome.result) = entry_is c.syndrome.result (omega arith) in
    let exact : Fixed c.args.v c.syndrome_entry.result ≡ fix (code_bits c.args.v c.args.check) = let small = entry.small in fix_parts_check c.args.v c.args.check c.syndrome_entry.result (omega arith) (omega arith) (omega arith) (omega arith) (sym c.syndrome.ensures.by_parts ∙ sym (entry.fixed (omega arith)) ∙ ap column_at (sym c.syndrome_entry.ensures)) in
    record { exact = exact; clean = clean_law _ _ _ exact; one_flip = one_flip_law _ _ _ exact; two_flips = two_flips_law _ _ _ exact }
