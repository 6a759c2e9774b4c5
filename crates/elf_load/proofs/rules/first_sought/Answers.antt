use Rattle.std.proofs.Common.{◌≡◌, ◌-◌, ◌+◌, ◌<◌, sym, ◌∙◌, ap, arith}
use Rattle.elf_load.specs.Headers.{e_phnum}
use Rattle.elf_load.specs.Rules.{is_sought, first_from}
use Rattle.elf_load.proofs.RuleLemmas.{first_next, first_here}
use Rattle.elf_load.proofs.rules.first_sought.Goals as goal

pub returns-then-is_sought : goal.returns-then-is_sought
returns-then-is_sought c =
    let more : 0 < e_phnum c.args.b.now - c.loop-k.k = omega arith in
    sym (first_here (is_sought c.args.b.now c.args.ram_words c.args.sought) c.loop-k.k (e_phnum c.args.b.now - c.loop-k.k) more (sym c.is_sought.ensures ∙ c.if-is_sought.true))
    ∙ c.loop-k.invariant

pub loop-k-preserved : goal.loop-k-preserved
loop-k-preserved c =
    let more : 0 < e_phnum c.args.b.now - c.loop-k.k = omega arith in
    let less : e_phnum c.args.b.now - (c.loop-k.k + 1) ≡ e_phnum c.args.b.now - c.loop-k.k - 1 = omega arith in
    ap (first_from (is_sought c.args.b.now c.args.ram_words c.args.sought) (c.loop-k.k + 1)) less
    ∙ sym (first_next (is_sought c.args.b.now c.args.ram_words c.args.sought) c.loop-k.k (e_phnum c.args.b.now - c.loop-k.k) more (sym c.is_sought.ensures ∙ c.if-is_sought.false))
    ∙ c.loop-k.invariant
