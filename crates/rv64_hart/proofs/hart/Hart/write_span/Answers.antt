use Rattle.std.proofs.Common.{◌∙◌, ◌≡◌, true, false, refl, arith}
use Rattle.rv64_hart.specs.Answers.{answered}
use Rattle.rv64_hart.specs.Outcome.{has_room}
use Rattle.rv64_hart.proofs.Transfers.{written_ended, written_poisoned, writes, writes_nothing}
use Rattle.rv64_hart.proofs.hart.Hart.write_span.Goals as goal

pub returns-in-Some : goal.returns-in-Some
returns-in-Some g c = λ place.
    written_poisoned g.B.Bus.meaning g.G.EventLog.logged c.args.self.now c.args.address c.args.n c.word_at-w.result c.words_touched.result c.in-Some.w c.new-bytes.result.items place c.args.con.now c.args.bus.now _ c.args.log.now _
    c.new-bytes.ensures c.word_at-w.ensures.word c.words_touched.ensures c.in-Some.ensures.plays
    ∙ rw c.poisoned.ensures refl

pub returns-then-not-write : goal.returns-then-not-write
returns-then-not-write g c = λ place.
    let full : has_room c.args.con.now c.front-written.result.now ≡ false = grind (arith, c.if-not-write.true, c.write.ensures.fits) in
    written_ended g.B.Bus.meaning g.G.EventLog.logged c.args.self.now c.args.address c.args.n c.word_at-w.result c.words_touched.result c.new-bytes.result.items c.read_words.new.bytes.items place c.args.con.now c.args.bus.now _ c.args.log.now _
    c.new-bytes.ensures c.word_at-w.ensures.word c.words_touched.ensures c.in_default.ensures.plays
    ∙ rw (← c.as_slice.ensures.value, ← c.behind.ensures, ← c.front-written.ensures)
    (writes_nothing g.B.Bus.meaning g.G.EventLog.logged c.args.self.now (answered c.args.self.now c.args.n) c.front-written.result.now place c.args.con.now c.write.new.self _ _ full
    (c.write.ensures.after ∙ rw full refl))

pub returns : goal.returns
returns g c = λ place.
    let fits : has_room c.args.con.now c.front-written.result.now ≡ true = grind (arith, c.if-not-write.false, c.write.ensures.fits) in
    written_ended g.B.Bus.meaning g.G.EventLog.logged c.args.self.now c.args.address c.args.n c.word_at-w.result c.words_touched.result c.new-bytes.result.items c.read_words.new.bytes.items place c.args.con.now c.args.bus.now _ c.args.log.now _
    c.new-bytes.ensures c.word_at-w.ensures.word c.words_touched.ensures c.in_default.ensures.plays
    ∙ rw (← c.as_slice.ensures.value, ← c.behind.ensures, ← c.front-written.ensures)
    (writes g.B.Bus.meaning g.G.EventLog.logged c.args.self.now (answered c.args.self.now c.args.n) c.answer-2.new.self c.front-written.result.now place c.args.con.now c.write.new.self _ _ fits
    (c.write.ensures.after ∙ rw fits refl) c.answer-2.ensures)
