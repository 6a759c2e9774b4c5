use Rattle.std.proofs.Common.{ℕ, ◌≤◌, length, sym, subst, rules, tests}
use Rattle.std.proofs.lemmas.Iterator.{YieldsList-from_slice}
use Rattle.std.proofs.lemmas.Iterator.Search.{position_from_yields_List}
use Rattle.fault_script.specs.Scripts.{is_later}
use Rattle.fault_script.proofs.WordLemmas.{found_or_len, within}
use Rattle.fault_script.proofs.scripts.place_behind.Goals as goal

pub returns-clause-value : goal.returns-clause-value
returns-clause-value c = rw c.unwrap_or.ensures (found_or_len (is_later c.args.step) c.args.lines.now c.position.result
    (position_from_yields_List (is_later c.args.step) _ _ c.position.result c.position.ensures.ran (YieldsList-from_slice c.args.lines.now cc) (λ x b q k. search (rules, tests))))

pub returns-clause-within : goal.returns-clause-within
returns-clause-within c =
    let P : ℕ → Type 0 = λ n. n ≤ length c.args.lines.now in
    subst P (sym (returns-clause-value c)) (within (is_later c.args.step) c.args.lines.now)
