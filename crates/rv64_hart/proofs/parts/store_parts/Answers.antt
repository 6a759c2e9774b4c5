use Rattle.std.proofs.Common.{ℕ, ◌+◌, ◌-◌, ◌∙◌, arith, rules}
use Rattle.rv64_hart.proofs.Transfers.{parts_next}
use Rattle.rv64_hart.proofs.parts.store_parts.Goals as goal

pub loop-i-preserved : goal.loop-i-preserved
loop-i-preserved g c =
    let i : ℕ = c.loop-i.i in
    record {
      left =
          c.loop-i.invariant.left
          ∙ parts_next g.B.Bus.meaning g.G.EventLog.logged c.args.address c.args.bytes.now (c.word_at-first.result + i) (c.word_at-first.result + (i + 1)) (c.words_touched-n.result - i) (c.words_touched-n.result - (i + 1)) c.loop-i.bus _ c.loop-i.log _ (omega arith) (omega arith) c.store_part.ensures.stores;
      words = search (rules, c.loop-i.invariant.words);
    }
