use Rattle.std.proofs.Common.{◌≡◌, ◌≢◌, ◌<◌, ◌∙◌, ap, sym, subst, length}
use Rattle.std.specs.Prelude.{List, slice_set}
use Rattle.std.proofs.lemmas.List.{length-set}
use Rattle.rv64_hart.specs.State.{ArchitecturalState}
use Rattle.rv64_hart.specs.Shared.{SharedState}
use Rattle.rv64_hart.specs.Harts.{HartsState, AreHarts}
use Rattle.rv64_hart.proofs.HartsLemmas.{set_acting, set_waiting, set_stays}
use Rattle.rv64_hart.proofs.harts.Harts.set_hart.Goals as goal

pub invariant_of-self : goal.invariant_of-self
invariant_of-self g c =
    let i = c.self.inside in
    let same : c.args.i ≡ i.at = c.if-i-self.true in (
      c.self.invariant.0,
      subst AreHarts (sym (set_acting i.shared.waiting i.at c.args.i i.acting c.args.h same))
          (set_stays (slice_set i.shared.waiting i.at i.acting) c.args.i c.args.h c.self.invariant.1 c.requires.number),
    )

pub invariant_of-self-else-i-self : goal.invariant_of-self-else-i-self
invariant_of-self-else-i-self g c =
    let i = c.self.inside in
    let other : c.args.i ≢ i.at = c.if-i-self.false in
    let waits : c.swap.new.self.waiting ≡ slice_set i.shared.waiting c.args.i c.args.h = ap (λ (s : SharedState g.row.B.Denot). s.waiting) c.swap.ensures.waiting in (
      subst (λ (waiting : List ArchitecturalState). i.at < length waiting) (sym waits) (rw (length-set i.shared.waiting c.args.i c.args.h) c.self.invariant.0),
      subst (λ (waiting : List ArchitecturalState). AreHarts (slice_set waiting i.at i.acting)) (sym waits)
          (subst AreHarts (sym (set_waiting i.shared.waiting i.at c.args.i i.acting c.args.h other))
          (set_stays (slice_set i.shared.waiting i.at i.acting) c.args.i c.args.h c.self.invariant.1 c.requires.number)),
    )

pub returns-then-i-self : goal.returns-then-i-self
returns-then-i-self g c =
    let i = c.self.inside in
    let same : c.args.i ≡ i.at = c.if-i-self.true in
    ap (λ (harts : List ArchitecturalState). record { harts = harts; memory = i.shared.memory }) (set_acting i.shared.waiting i.at c.args.i i.acting c.args.h same)
    ∙ ap (λ (s : HartsState g.row.B.Denot). record { harts = slice_set s.harts c.args.i c.args.h; memory = s.memory }) c.self.view_is

pub returns-else-i-self : goal.returns-else-i-self
returns-else-i-self g c =
    let i = c.self.inside in
    let other : c.args.i ≢ i.at = c.if-i-self.false in
    ap (λ (s : SharedState g.row.B.Denot). record { harts = slice_set s.waiting i.at i.acting; memory = s.memory }) c.swap.ensures.waiting
    ∙ ap (λ (harts : List ArchitecturalState). record { harts = harts; memory = i.shared.memory }) (set_waiting i.shared.waiting i.at c.args.i i.acting c.args.h other)
    ∙ ap (λ (s : HartsState g.row.B.Denot). record { harts = slice_set s.harts c.args.i c.args.h; memory = s.memory }) c.self.view_is
