use Rattle.std.proofs.Common.{ℕ, ◌∙◌, length, slice_index, sym, ap, subst, arith}
use Rattle.std.specs.List.{AllByRecursion}
use Rattle.mem_stack.specs.Stack.{StackLines, stack_meaning, loaded_stack}
use Rattle.mem_stack.specs.StackLaws.{loaded_words}
use Rattle.mem_stack.specs.StackStands.{StackStands}
use Rattle.fault_script.specs.Fits.{FitsRam}
use Rattle.scrubber.specs.PatrolState.{PatrolState}
use Rattle.rv64_hart.specs.Harts.{HartsState}
use Rattle.ras_machine.proofs.HartCount.{first_count}
use Rattle.ras_machine.proofs.Machines.{made_stays}
use Rattle.ras_machine.proofs.machine.Machine.make.Goals as goal

pub returns-clause-two_runs : goal.returns-clause-two_runs
returns-clause-two_runs c = λ given script fit.
    let stands : (q : ℕ → ℕ) → StackStands (loaded_stack c.args.image.now.words) (slice_index c.args.image.now.words) q =
    rw (c.in_ok-stack.ensures.loaded, c.words.ensures.words) at c.in_ok-stack.ensures.stands in
    let fits : AllByRecursion (FitsRam (length c.args.image.now.words)) script = subst (λ words. AllByRecursion (FitsRam words) script) (sym c.requires.ram) fit.fit in
    rw (
      c.in-Ok.ensures,
      c.new-3.ensures,
      c.new-2.ensures,
      c.in-Ok-make.ensures,
      c.in_ok-shared.ensures,
      c.in_ok-stack.ensures.loaded,
      c.entry.ensures.entry,
      c.words-2.ensures.words,
      c.words.ensures.words,
      c.requires.ram,
    )
    (made_stays c.args.image.now given script c.args.s.now fits c.requires.ram c.requires.range.some_ram stands)

pub invariant_of-result : goal.invariant_of-result
invariant_of-result c = (
  c.requires.range,
  omega arith,
  ap (λ (s : HartsState StackLines). stack_meaning.words s.memory) c.in_ok-shared.ensures
      ∙ ap (λ (s : StackLines). stack_meaning.words s) c.in_ok-stack.ensures.loaded
      ∙ loaded_words c.words.result.now
      ∙ ap (λ words. length words) c.words.ensures.words
      ∙ c.requires.ram,
  ap (λ (p : PatrolState). p.words) c.new-3.ensures ∙ ap (λ words. length words) c.words-2.ensures.words ∙ c.requires.ram,
  ap (λ (s : HartsState StackLines). length s.harts) c.in_ok-shared.ensures ∙ first_count c.args.s.now.harts c.entry.result c.requires.range.some_harts,
  c.new-2.ensures,
  ap (λ (p : PatrolState). p.every) c.new-3.ensures,
  tt,
)
