use Rattle.std.proofs.Common.{◌≡◌, ℕ, ◌+◌, List, ◌++◌, length, drop, subst, sym, ap, ◌∙◌, length-drop, arith}
use Rattle.ras_read.specs.Records.{IsWhole, record_lines, records_text}
use Rattle.ras_read.specs.Files.{IsRefusalOf}
use Rattle.ras_read.proofs.LineLemmas.{rest_at}
use Rattle.ras_read.proofs.TextLemmas.{IsPrinted, all_printed, handed_on, nothing_printed, one_printed, refused_file}
use Rattle.ras_read.proofs.records.records_text.Goals as goal

pub loop-at-init : goal.loop-at-init
loop-at-init c =
    let b = c.args.b.now in
    record {
      inside = omega arith;
      printed = (length b, subst (λ (xs : List ℕ). IsPrinted b 0 xs (length b)) (sym c.new-out.ensures.items) (nothing_printed b));
    }

pub returns-in_err-cper-clause-refused : goal.returns-in_err-cper-clause-refused
returns-in_err-cper-clause-refused c =
    let b = c.args.b.now in
    handed_on c.from_residual.result c.in_err-cper.field-0.0 (IsRefusalOf (records_text b)) c.from_residual.ensures.1
    (refused_file b c.loop-at.at c.loop-at.out.items c.in_err-cper.field-0.0 c.loop-at.invariant.printed c.loop-at-test.true (sym c.in_err-cper.ensures.exact))

pub loop-at-preserved : goal.loop-at-preserved
loop-at-preserved c =
    let b = c.args.b.now in
    let at = c.loop-at.at in
    let r = c.in_ok-cper.cper in
    let whole : IsWhole (drop at b) r = c.in_ok-cper.ensures.whole in
    let front = c.loop-at.out.items in
    let before = c.loop-at.invariant.printed in
    let pushed : c.push_record.new.out.items ≡ front ++ record_lines (drop at b) r =
    c.in_ok-push_record.ensures ∙ ap (λ (xs : List ℕ). front ++ record_lines xs r) (rest_at b at) in
    let next = one_printed b at front before.0 r before.1 c.loop-at-test.true (sym c.in_ok-cper.ensures.exact) whole.some in
    record {
      inside = omega (arith, whole.there, length-drop at b, c.loop-at-test.true);
      printed = (next.0, subst (λ (xs : List ℕ). IsPrinted b (at + r.length) xs next.0) (sym pushed) next.1);
    }

pub returns-clause-text : goal.returns-clause-text
returns-clause-text c =
    let before = c.loop-at.invariant.printed in
    all_printed c.args.b.now c.loop-at.at c.loop-at.out.items before.0 before.1 (let over = c.loop-at-test.false in omega (arith, over))
