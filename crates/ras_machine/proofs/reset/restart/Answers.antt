use Rattle.std.proofs.Common.{◌≤◌, ◌<◌, ◌∙◌, List, length, ap, arith}
use Rattle.mem_stack.specs.Stack.{StackLines}
use Rattle.rv64_hart.specs.State.{ArchitecturalState}
use Rattle.rv64_hart.specs.Harts.{HartsState, first_harts}
use Rattle.ras_machine.proofs.Resets.{one_more_restarted, all_restarted}
use Rattle.ras_machine.proofs.reset.restart.Goals as goal

pub set_hart-requires-clause-number : goal.set_hart-requires-clause-number
set_hart-requires-clause-number c = c.first_hart.ensures.number

pub loop-i-preserved : goal.loop-i-preserved
loop-i-preserved c =
    let count = length c.args.harts.now.harts in
    let inside : c.loop-i.i < count = let less = c.loop-i-test.true in let all = c.count-i-end.ensures.count in omega arith in
    record {
      memory = ap (λ (s : HartsState StackLines). s.memory) c.set_hart.ensures ∙ c.loop-i.invariant.memory;
      first =
          one_more_restarted c.loop-i.harts.harts c.set_hart.new.self.harts count c.args.entry c.loop-i.i c.first_hart.result c.loop-i.invariant.first inside
          (c.first_hart.ensures.hart count inside) (ap (λ (s : HartsState StackLines). s.harts) c.set_hart.ensures);
    }

pub returns : goal.returns
returns c =
    let count = length c.args.harts.now.harts in
    let all : count ≤ c.loop-i.i = let over = c.loop-i-test.false in let all = c.count-i-end.ensures.count in omega arith in
    ap (λ (harts : List ArchitecturalState). record { harts = harts; memory = c.loop-i.harts.memory })
    (all_restarted c.loop-i.harts.harts count c.args.entry c.loop-i.i c.loop-i.invariant.first c.count-i-end.ensures.harts.some all)
    ∙ ap (λ (memory : StackLines). record { harts = first_harts count c.args.entry; memory = memory }) c.loop-i.invariant.memory
