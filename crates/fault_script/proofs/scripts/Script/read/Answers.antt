use Rattle.std.proofs.Common.{rules}
use Rattle.std.proofs.lemmas.List.Sorted.{answers_always, IsNonDecreasingBy-from_sort_by_key}
use Rattle.fault_script.specs.Steps.{step_of_line}
use Rattle.fault_script.proofs.SortLemmas.{by_step, moved_fit}
use Rattle.fault_script.proofs.scripts.Script.read.Goals as goal

pub returns-in-Ok-clause-exact : goal.returns-in-Ok-clause-exact
returns-in-Ok-clause-exact c = (
  c.in_ok-lines.lines.items,
  c.in_ok-lines.ensures.exact,
  record {
    rising = IsNonDecreasingBy-from_sort_by_key step_of_line _ c.in-Ok.ensures.sorted (λ a r q k. search rules);
    same = by_step _ _ (c.in-Ok.ensures.stable step_of_line (answers_always _ _ _ (λ f a r q k. search rules)));
  },
)

pub returns-in-Ok-clause-fits : goal.returns-in-Ok-clause-fits
returns-in-Ok-clause-fits c =
    moved_fit c.args.ram_words _ _ c.in_ok-lines.ensures.fits c.in-Ok.ensures.permutation
    (IsNonDecreasingBy-from_sort_by_key step_of_line _ c.in-Ok.ensures.sorted (λ a r q k. search rules))
