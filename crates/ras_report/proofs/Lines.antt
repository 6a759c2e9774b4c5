-- Registers and lines of harts, one after the other.
use Rattle.std.proofs.Common.{◌≡◌, ℕ, ◌+◌, ◌++◌, List, refl, sym, ◌∙◌, ap, add-one, append-nil, append_assoc}
use Rattle.rv64_hart.specs.State.{ArchitecturalState, register}
use Rattle.rv64_hart.specs.Harts.{hart_at}
use Rattle.ras_report.specs.Harts.{register_text, registers_to, hart_line, hart_lines}

-- no register
pub registers_none : (hart : ArchitecturalState) (text : List ℕ) → text ≡ text ++ registers_to hart 0
unfolding registers_to
registers_none hart text = sym (append-nil text)

-- one register more
pub registers_more : (hart : ArchitecturalState) (n value : ℕ) (start old new : List ℕ) → new ≡ old ++ register_text (n + 1) value → value ≡ register hart (n + 1)
    → old ≡ start ++ registers_to hart n → new ≡ start ++ registers_to hart (n + 1)
unfolding registers_to
registers_more hart n value start old new is read so_far =
    is ∙ ap (λ (v : ℕ). old ++ register_text (n + 1) v) read ∙ ap (λ (text : List ℕ). text ++ register_text (n + 1) (register hart (n + 1))) so_far
    ∙ append_assoc start (registers_to hart n) (register_text (n + 1) (register hart (n + 1))) ∙ ap (λ (text : List ℕ). start ++ text) step
  where
    step : registers_to hart n ++ register_text (n + 1) (register hart (n + 1)) ≡ registers_to hart (n + 1)
    step = rw (add-one n) refl

-- no line
pub lines_none : (prefix : List ℕ) (harts : List ArchitecturalState) (text : List ℕ) → text ≡ text ++ hart_lines prefix harts 0
unfolding hart_lines
lines_none prefix harts text = sym (append-nil text)

-- one line more
pub lines_more : (prefix : List ℕ) (harts : List ArchitecturalState) (n : ℕ) (hart : ArchitecturalState) (start old new : List ℕ)
    → new ≡ old ++ hart_line prefix n hart → hart ≡ hart_at harts n
    → old ≡ start ++ hart_lines prefix harts n → new ≡ start ++ hart_lines prefix harts (n + 1)
unfolding hart_lines
lines_more prefix harts n hart start old new is read so_far =
    is ∙ ap (λ (h : ArchitecturalState). old ++ hart_line prefix n h) read ∙ ap (λ (text : List ℕ). text ++ hart_line prefix n (hart_at harts n)) so_far
    ∙ append_assoc start (hart_lines prefix harts n) (hart_line prefix n (hart_at harts n)) ∙ ap (λ (text : List ℕ). start ++ text) step
  where
    step : hart_lines prefix harts n ++ hart_line prefix n (hart_at harts n) ≡ hart_lines prefix harts (n + 1)
    step = rw (add-one n) refl
