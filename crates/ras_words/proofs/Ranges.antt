-- The numbers of options are within their limits.
use Rattle.std.proofs.Common.{◌≡◌, ℕ, ◌≤◌, Bool, true, false, ◌&&◌, cond, Option, Some, None, refl, arith}
use Rattle.std.specs.Prelude.{nat_le, option_and_then}
use Rattle.std.proofs.lemmas.Bool.Decides.{nat_tests}
use Rattle.clap_words.specs.Numbers.{within, number_of_kind}
use Rattle.clap_words.specs.Reading.{WordText}
use Rattle.clap_words.specs.declared.table.Kind.TheVariants.{Number}
use Rattle.clap_words.specs.declared.table.Limit.{Limit}

-- a number between two others
pub record IsBetween (least most n : ℕ) : Type 0 where
  pub low : least ≤ n
  pub high : n ≤ most

pub number_between : (limit : Limit) (text : Option WordText) (n : ℕ) → limit.least ≤ limit.default → limit.default ≤ limit.most
    → number_of_kind (Number limit) text ≡ Some n → IsBetween limit.least limit.most n
number_between limit None n low high is = let same : limit.default ≡ n = cc in record { low = omega arith; high = omega arith }
number_between limit (Some text) n low high is = by_number _ is
  where
    by_test : (m : ℕ) (b : Bool) → (nat_le limit.least m && nat_le m limit.most) ≡ b → cond b (Some m) None ≡ Some n → IsBetween limit.least limit.most n
    by_test m true test is =
        let same : m ≡ n = cc in
        let least : limit.least ≤ m = grind (arith, nat_tests) in
        let most : m ≤ limit.most = grind (arith, nat_tests) in
        record { low = omega arith; high = omega arith }
    by_test m false test is = cc

    by_number : (o : Option ℕ) → option_and_then (within limit) o ≡ Some n → IsBetween limit.least limit.most n
    by_number None is = cc
    by_number (Some m) is = by_test m (nat_le limit.least m && nat_le m limit.most) refl is
