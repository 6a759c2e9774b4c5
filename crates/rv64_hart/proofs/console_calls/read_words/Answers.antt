use Rattle.std.proofs.Common.{ℕ, ◌+◌, ◌-◌, ◌∙◌, arith, rules}
use Rattle.rv64_hart.proofs.Transfers.{asked_poison, asked_good}
use Rattle.rv64_hart.proofs.console_calls.read_words.Goals as goal

pub returns-in-Poison-clause-plays : goal.returns-in-Poison-clause-plays
returns-in-Poison-clause-plays g c =
    let i : ℕ = c.loop-i.i in
    c.loop-i.invariant.left
    ∙ asked_poison g.B.Bus.meaning g.G.EventLog.logged _ (c.args.w + i) (c.args.n - i) (c.args.n - (i + 1)) c.loop-i.bus _ c.loop-i.log _ (omega arith) c.in-Poison.ensures.cell c.in-Poison.ensures.after c.in-Poison.ensures.events

pub loop-i-preserved : goal.loop-i-preserved
loop-i-preserved g c =
    let i : ℕ = c.loop-i.i in
    record {
      left =
          c.loop-i.invariant.left
          ∙ asked_good g.B.Bus.meaning g.G.EventLog.logged _ _ (c.args.w + i) (c.args.w + (i + 1)) (c.args.n - i) (c.args.n - (i + 1)) c.in-Good.value c.loop-i.bus _ c.loop-i.log _ (omega arith) (omega arith) c.in-Good.ensures.cell c.in-Good.ensures.after c.in-Good.ensures.events c.push_word.ensures.items;
      len = search (rules, c.loop-i.invariant.len, c.push_word.ensures.len);
      words = search (rules, c.loop-i.invariant.words);
    }
