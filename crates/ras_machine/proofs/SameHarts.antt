-- Harts of two machines, one by one.
use Rattle.std.proofs.Common.{◌≡◌, ℕ, ◌<◌, List, length, arith, subst, ◌∙◌, sym}
use Rattle.std.proofs.lemmas.List.{ext_get_or, get_or_default}
use Rattle.rv64_hart.specs.State.{ArchitecturalState, reset}
use Rattle.rv64_hart.specs.Harts.{hart_at}
use Rattle.ras_machine.specs.Flat.{FlatMachine}
use Rattle.ras_machine.specs.Machine.{StackMachine}
use Rattle.ras_machine.specs.Same.{HaveSameHarts}

-- the first i harts are the same
abbrev pub SameBelow : List ArchitecturalState → List ArchitecturalState → ℕ → Type 0
SameBelow xs ys i = (k : ℕ) → k < i → hart_at xs k ≡ hart_at ys k

-- as many harts, each the same
harts_same : (xs ys : List ArchitecturalState) → length xs ≡ length ys → SameBelow xs ys (length xs) → xs ≡ ys
harts_same xs ys long each = ext_get_or (reset 0 0) xs ys long (λ k below.
    get_or_default xs k (reset 0 0) (reset k 0) below ∙ each k below
    ∙ sym (get_or_default ys k (reset 0 0) (reset k 0) (omega (arith, below, long))))

pub have_same : (m : StackMachine) (f : FlatMachine) (n : ℕ) → n ≡ length m.state.shared.harts → n ≡ length f.state.harts
    → m.state.place ≡ f.state.place → SameBelow m.state.shared.harts f.state.harts n → HaveSameHarts m f
have_same m f n own other place each = record {
  harts = harts_same m.state.shared.harts f.state.harts (sym own ∙ other) (subst (SameBelow m.state.shared.harts f.state.harts) own each);
  place = place;
}
