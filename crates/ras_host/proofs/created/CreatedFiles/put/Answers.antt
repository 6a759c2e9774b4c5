use Rattle.std.proofs.Common.{◌≡◌, ◌≤◌, ◌<◌, ◌+◌, ◌++◌, length, arith, ap, ◌∙◌, List, ℕ}
use Rattle.std.proofs.lemmas.Bool.Decides.{nat_tests}
use Rattle.ras_host.proofs.CreatedLemmas.{at_end, put_named, put_unnamed, within_named, within_unnamed}
use Rattle.ras_host.proofs.created.CreatedFiles.put.Goals as goal

pub invariant_of-self : goal.invariant_of-self
invariant_of-self c =
    let grown : length c.args.self.now.bytes.items ≤ length c.append-2.new.buffer.items = omega arith in
    let new : c.len.result + length c.args.name.now + length c.args.kept.now ≤ length c.append-2.new.buffer.items = omega arith in
    record {
      within = within_unnamed _ _ (at_end c.len.result c.args.name.now c.args.kept.now c.args.total) c.args.self.now.unnamed c.args.self.now.named.items grown new c.args.self.now.within;
      each_a_byte = omega arith;
      fits = omega arith;
      bytes_reserved = omega arith;
      named_reserved = omega arith;
    }

pub returns-then-is_empty-clause-told : goal.returns-then-is_empty-clause-told
returns-then-is_empty-clause-told c =
    let none : length c.args.name.now ≡ 0 = grind (arith, nat_tests) in
    let items : c.append-2.new.buffer.items ≡ (c.args.self.now.bytes.items ++ c.args.name.now) ++ c.args.kept.now =
    c.append-2.ensures.items ∙ ap (λ (l : List ℕ). l ++ c.args.kept.now) (c.append.ensures.items ∙ ap (λ (l : List ℕ). c.args.self.now.bytes.items ++ l) c.as_bytes.ensures.value) in
    let start : c.len.result ≡ length c.args.self.now.bytes.items = omega arith in
    put_unnamed c.args.self.now.bytes.items c.args.name.now c.args.kept.now _ _ c.args.total c.args.self.now.unnamed c.args.self.now.named.items items start none c.args.self.now.within

pub invariant_of-self-2 : goal.invariant_of-self-2
invariant_of-self-2 c =
    let grown : length c.args.self.now.bytes.items ≤ length c.append-2.new.buffer.items = omega arith in
    let new : c.len.result + length c.args.name.now + length c.args.kept.now ≤ length c.append-2.new.buffer.items = omega arith in
    let some : 0 < length c.args.name.now = grind (arith, nat_tests) in
    record {
      within = rw c.put_first.ensures.items (within_named _ _ (at_end c.len.result c.args.name.now c.args.kept.now c.args.total) c.args.self.now.unnamed c.args.self.now.named.items grown new c.args.self.now.within);
      each_a_byte = omega arith;
      fits = omega arith;
      bytes_reserved = omega arith;
      named_reserved = omega arith;
    }

pub returns-clause-told : goal.returns-clause-told
returns-clause-told c =
    let some : 0 < length c.args.name.now = grind (arith, nat_tests) in
    let items : c.append-2.new.buffer.items ≡ (c.args.self.now.bytes.items ++ c.args.name.now) ++ c.args.kept.now =
    c.append-2.ensures.items ∙ ap (λ (l : List ℕ). l ++ c.args.kept.now) (c.append.ensures.items ∙ ap (λ (l : List ℕ). c.args.self.now.bytes.items ++ l) c.as_bytes.ensures.value) in
    let start : c.len.result ≡ length c.args.self.now.bytes.items = omega arith in
    rw c.put_first.ensures.items
    (put_named c.args.self.now.bytes.items c.args.name.now c.args.kept.now _ _ c.args.total c.args.self.now.unnamed c.args.self.now.named.items items start some c.args.self.now.within)
