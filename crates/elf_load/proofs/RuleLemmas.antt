-- Headers that lie in the file, and the first that is sought.
use Rattle.std.proofs.Common.{◌≡◌, ℕ, suc, zero, ◌+◌, ◌-◌, ◌*◌, ◌<◌, ◌≤◌, Bool, true, false, cond, ◌==◌, ◌||◌, ◌&&◌, nat_le, List, length, Option, Some, None, Ok, ◌⊎◌, inl, inr, ◌≢◌, refl, ap, ◌∙◌, arith}
use Rattle.std.proofs.lemmas.Grind.{common_steps}
use Rattle.elf_load.specs.Headers.{e_phnum, e_phoff, e_phentsize, HasHeaders}
use Rattle.elf_load.specs.Rules.{headers_fit, first_from, first_sought, is_sought, refusal_of, NoneFound}
use Rattle.elf_load.specs.Memory.{SegmentsFit}
use Rattle.elf_load.specs.declared.rules.Sought.{Sought}
use Rattle.elf_load.specs.declared.rules.Sought.TheVariants as sought
use Rattle.elf_load.proofs.RamLemmas.{same_or_not}

fit : (count len end start n : ℕ) → ((n == 0) || (count == 56 && nat_le end len)) ≡ true → end ≡ start + 56 * n → (k : ℕ) → k < n → start + 56 * k + 56 ≤ len
fit count len end start n h e k small = grind (arith, common_steps)

pub headers_there : (b : List ℕ) → 64 ≤ length b → headers_fit b ≡ true → HasHeaders b
headers_there b whole h = record {
  file = whole;
  header = fit (e_phentsize b) (length b) (e_phoff b + 56 * e_phnum b) (e_phoff b) (e_phnum b) h refl;
}

pub first_next : (test : ℕ → Bool) (k left : ℕ) → 0 < left → test k ≡ false → first_from test k left ≡ first_from test (k + 1) (left - 1)
first_next test k zero h e = absurd (omega arith)
first_next test k (suc left) h e = rw e (ap (first_from test (k + 1)) (let d : left ≡ suc left - 1 = omega arith in d))

pub first_here : (test : ℕ → Bool) (k left : ℕ) → 0 < left → test k ≡ true → first_from test k left ≡ Some k
first_here test k zero h e = absurd (omega arith)
first_here test k (suc left) h e = rw e refl

step_none : (test : ℕ → Bool) (k left j : ℕ) (t : Bool) → test k ≡ t → cond t (Some k) (first_from test (k + 1) left) ≡ None → k ≤ j
    → (first_from test (k + 1) left ≡ None → k + 1 ≤ j → test j ≡ false) → test j ≡ false
step_none test k left j true e h low rest = absurd cc
step_none test k left j false e h low rest = by_equality (same_or_not j k) where
  by_equality : (((j == k) ≡ true) × (j ≡ k)) ⊎ (((j == k) ≡ false) × (j ≢ k)) → test j ≡ false
  by_equality (inl same) = ap test same.1 ∙ e
  by_equality (inr other) = rest h (omega (arith, other.1))

none_within : (test : ℕ → Bool) (k left : ℕ) → first_from test k left ≡ None → (j : ℕ) → k ≤ j → j < k + left → test j ≡ false
none_within test k zero h j low high = absurd (omega arith)
none_within test k (suc left) h j low high =
    step_none test k left j (test k) refl h low (λ rest next. none_within test (k + 1) left rest j next (omega arith))

pub none_from : (test : ℕ → Bool) (n : ℕ) → first_from test 0 n ≡ None → (j : ℕ) → j < n → test j ≡ false
none_from test n h j small = none_within test 0 n h j (omega arith) (omega arith)

-- where a rule is kept, no load header is at fault
pub none_found : (b : List ℕ) (ram_words : ℕ) (wanted : Sought) → refusal_of wanted (first_sought b ram_words wanted) ≡ Ok tt → NoneFound b ram_words wanted
none_found b ram_words sought.Load h = tt
none_found b ram_words sought.FilePart h = none_from (is_sought b ram_words sought.FilePart) (e_phnum b) (by_found (first_sought b ram_words sought.FilePart) h) where
  by_found : (found : Option ℕ) → refusal_of sought.FilePart found ≡ Ok tt → found ≡ None
  by_found None h = refl
  by_found (Some k) h = absurd cc
none_found b ram_words sought.Sizes h = none_from (is_sought b ram_words sought.Sizes) (e_phnum b) (by_found (first_sought b ram_words sought.Sizes) h) where
  by_found : (found : Option ℕ) → refusal_of sought.Sizes found ≡ Ok tt → found ≡ None
  by_found None h = refl
  by_found (Some k) h = absurd cc
none_found b ram_words sought.Outside h = none_from (is_sought b ram_words sought.Outside) (e_phnum b) (by_found (first_sought b ram_words sought.Outside) h) where
  by_found : (found : Option ℕ) → refusal_of sought.Outside found ≡ Ok tt → found ≡ None
  by_found None h = refl
  by_found (Some k) h = absurd cc

pub segments_fit : (b : List ℕ) (ram_words : ℕ) → NoneFound b ram_words sought.FilePart → NoneFound b ram_words sought.Outside → SegmentsFit b ram_words
unfolding is_sought
segments_fit b ram_words parts outsides = record { each = λ k small. record { part = parts k small; inside = outsides k small } }
