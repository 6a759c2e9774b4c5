use Rattle.std.proofs.Common.{◌≤◌, ◌<◌, ◌++◌, length, arith, refl, ap, ◌∙◌, List}
use Rattle.std.proofs.lemmas.Bool.Decides.{nat_tests}
use Rattle.ras_host.proofs.CallLemmas.{noted_full, noted_unfit, noted_kept, pushed_counted, pushed_few, pushed_named}
use Rattle.ras_host.proofs.call_log.CallLog.note.Goals as goal

pub returns-then-is_full-clause-told : goal.returns-then-is_full-clause-told
returns-then-is_full-clause-told c =
    let full : 64 ≤ length c.args.self.now.made.items = grind (arith, nat_tests, c.is_full.ensures.value, c.is_full.ensures.fits, c.if-is_full.true) in
    noted_full c.args.self.now.room c.args.self.now.made.items c.args.self.now.names.items _ c.args.self.now.count _ full c.saturating_add-self.ensures

pub returns-then-name-self-clause-told : goal.returns-then-name-self-clause-told
returns-then-name-self-clause-told c =
    noted_unfit c.args.self.now.room c.args.self.now.made.items c.args.self.now.names.items _ c.args.self.now.count _ c.args.self.now.named (omega arith) c.saturating_add-self.ensures

pub invariant_of-self-2 : goal.invariant_of-self-2
invariant_of-self-2 c =
    let names = c.append.ensures.items ∙ ap (λ (l : List _). c.args.self.now.names.items ++ l) c.as_bytes.ensures.value in
    record {
      counted = rw c.push.ensures.items (pushed_counted _ _ _ _ c.args.self.now.counted c.args.self.now.few c.saturating_add-self.ensures);
      few = rw c.push.ensures.items (pushed_few _ _ (grind (arith, nat_tests, c.is_full.ensures.value, c.is_full.ensures.fits, c.if-is_full.false, c.args.self.now.few)));
      named = rw (c.push.ensures.items, names) (pushed_named _ _ _ _ c.args.self.now.named refl);
      fits = omega arith;
      reserved = omega arith;
    }

pub returns-clause-told : goal.returns-clause-told
returns-clause-told c =
    let names = c.append.ensures.items ∙ ap (λ (l : List _). c.args.self.now.names.items ++ l) c.as_bytes.ensures.value in
    let few : length c.args.self.now.made.items < 64 = grind (arith, nat_tests, c.is_full.ensures.value, c.is_full.ensures.fits, c.if-is_full.false, c.args.self.now.few) in
    rw (c.push.ensures.items, names) (noted_kept c.args.self.now.room c.args.self.now.made.items _ c.args.self.now.names.items c.args.name.now c.args.self.now.count _ c.args.self.now.named refl few (omega arith) c.saturating_add-self.ensures)
