-- The verdict as a function is the verdict by the rule.
use Rattle.std.proofs.Common.{◌≡◌, ℕ, Bool, true, false, List, ◌∷◌, ◌++◌, Option, Some, None, refl, sym, ◌∙◌, ap, Decides, arith}
use Rattle.std.specs.Int.{from_bool}
use Rattle.std.specs.Prelude.{◌==◌, ◌↔◌, IsTrue, if◌then◌else◌}
use Rattle.std.specs.Cmp.Lexicographic.{pointwise}
use Rattle.std.proofs.lemmas.Slice.Eq.{bytes_eq-Decides, slice_eq-Decides}
use Rattle.std.proofs.lemmas.Bool.Decides.{Decides-eqb, Decides-and, Decides-like, same_from_decides}
use Rattle.ras_bits.specs.BitsLaws.{flag_back}
use Rattle.ras_bits.specs.declared.terms.Mode.{Mode}
use Rattle.ras_bits.specs.declared.terms.Mode.TheVariants.{User, Supervisor}
use Rattle.poison_mem.specs.UseKind.{use_number}
use Rattle.poison_mem.specs.declared.cell.UseKind.{UseKind}
use Rattle.poison_mem.specs.declared.cell.UseKind.TheVariants.{Fetch, Walk, Load, Amo, Sbi}
use Rattle.rv64_hart.specs.Access.{bytes_in}
use Rattle.rv64_hart.specs.State.{ArchitecturalState}
use Rattle.rv64_hart.specs.declared.access.Width.{Width}
use Rattle.rv64_hart.specs.declared.access.Width.TheVariants.{Byte, Halfword, Word, Doubleword}
use Rattle.rv64_hart.specs.declared.reservation.Reservation.{Reservation}
use Rattle.ras_machine.specs.declared.ending.Stop.{Stop}
use Rattle.ras_machine.specs.declared.ending.Stop.TheVariants.{Shutdown, Reboot, Budget, ConsoleFull, Consumed, Injected}
use Rattle.ras_machine.specs.declared.ending.Ending.{Ending}
use Rattle.ras_report.specs.declared.verdicts.Verdict.{Verdict}
use Rattle.ras_report.specs.declared.verdicts.Verdict.TheVariants.{Same, Uncorrected, Silent}
use Rattle.ras_report.specs.Verdicts.{ShownRun, IsVerdict, is_at_error, mode_number, reservation_numbers, csr_numbers, hart_numbers, stop_numbers, same_hart, same_ending, same_shown, verdict_by, verdict_of}

-- ---- what numbers are of

one_flag : (a b : Bool) → from_bool a ≡ from_bool b → a ≡ b
one_flag a b e = sym (flag_back a) ∙ ap (λ (n : ℕ). n == 1) e ∙ flag_back b

abbrev mode_numbered : ℕ → Mode
mode_numbered n = if n == 0 then User else Supervisor

mode_back : (m : Mode) → mode_numbered (mode_number m) ≡ m
mode_back User = refl
mode_back Supervisor = refl

one_mode : (a b : Mode) → mode_number a ≡ mode_number b → a ≡ b
one_mode a b e = sym (mode_back a) ∙ ap mode_numbered e ∙ mode_back b

abbrev width_with : ℕ → Width
width_with n = if n == 1 then Byte else if n == 2 then Halfword else if n == 4 then Word else Doubleword

width_back : (w : Width) → width_with (bytes_in w) ≡ w
width_back Byte = refl
width_back Halfword = refl
width_back Word = refl
width_back Doubleword = refl

one_width : (a b : Width) → bytes_in a ≡ bytes_in b → a ≡ b
one_width a b e = sym (width_back a) ∙ ap width_with e ∙ width_back b

abbrev use_numbered : ℕ → UseKind
use_numbered n = if n == 0 then Fetch else if n == 1 then Walk else if n == 2 then Load else if n == 3 then Amo else Sbi

use_back : (u : UseKind) → use_numbered (use_number u) ≡ u
use_back Fetch = refl
use_back Walk = refl
use_back Load = refl
use_back Amo = refl
use_back Sbi = refl

abbrev stop_of : List ℕ → Stop
stop_of (which ∷ a ∷ b ∷ c ∷ rest) =
    if which == 0 then Shutdown a else if which == 1 then Reboot a else if which == 2 then Budget else if which == 3 then ConsoleFull
    else if which == 4 then Consumed a (use_numbered b) c else Injected a b
stop_of numbers = Budget

stop_back : (s : Stop) → stop_of (stop_numbers s) ≡ s
stop_back (Shutdown reason) = refl
stop_back (Reboot reboot_kind) = refl
stop_back Budget = refl
stop_back ConsoleFull = refl
stop_back (Consumed w use_kind pc) = ap (λ u. Consumed w u pc) (use_back use_kind)
stop_back (Injected bank rec) = refl

one_head : {x y : ℕ} {xs ys : List ℕ} → x ∷ xs ≡ y ∷ ys → x ≡ y
one_head e = cc

one_tail : {x y : ℕ} {xs ys : List ℕ} → x ∷ xs ≡ y ∷ ys → xs ≡ ys
one_tail e = cc

-- ---- endings

one_ending : (a b : Ending) → a.steps ∷ stop_numbers a.stop ≡ b.steps ∷ stop_numbers b.stop → a ≡ b
one_ending a b e =
    let stop : a.stop ≡ b.stop = sym (stop_back a.stop) ∙ ap stop_of (one_tail e) ∙ stop_back b.stop in
    let steps : a.steps ≡ b.steps = one_head e in
    λ i. record { stop = stop i; steps = steps i }

ending_decides : (a b : Ending) → Decides (same_ending a b) (a ≡ b)
ending_decides a b =
    let d = bytes_eq-Decides (a.steps ∷ stop_numbers a.stop) (b.steps ∷ stop_numbers b.stop) in
    (λ h. one_ending a b (d.0 h), λ e. d.1 (ap (λ (x : Ending). x.steps ∷ stop_numbers x.stop) e))

-- ---- harts

record FileSame (a b : ArchitecturalState) (xs ys : List ℕ) : Type 0 where
  file : a.csrs ≡ b.csrs
  rest : xs ≡ ys

one_file : (a b : ArchitecturalState) (xs ys : List ℕ) → csr_numbers a ++ xs ≡ csr_numbers b ++ ys → FileSame a b xs ys
one_file a b xs ys e0 =
    let e1 = one_tail e0 in
    let e2 = one_tail e1 in
    let e3 = one_tail e2 in
    let e4 = one_tail e3 in
    let e5 = one_tail e4 in
    let e6 = one_tail e5 in
    let e7 = one_tail e6 in
    let e8 = one_tail e7 in
    let e9 = one_tail e8 in
    let e10 = one_tail e9 in
    let e11 = one_tail e10 in
    let e12 = one_tail e11 in
    let e13 = one_tail e12 in
    let e14 = one_tail e13 in
    let e15 = one_tail e14 in
    let sie = one_flag a.csrs.status.sie b.csrs.status.sie (one_head e0) in
    let spie = one_flag a.csrs.status.spie b.csrs.status.spie (one_head e1) in
    let spp = one_mode a.csrs.status.spp b.csrs.status.spp (one_head e2) in
    let sum = one_flag a.csrs.status.sum b.csrs.status.sum (one_head e3) in
    let mxr = one_flag a.csrs.status.mxr b.csrs.status.mxr (one_head e4) in
    let ssip = one_flag a.csrs.ssip b.csrs.ssip (one_head e12) in
    record {
      file = λ i. record {
        status = record { sie = sie i; spie = spie i; spp = spp i; sum = sum i; mxr = mxr i };
        sie = one_head e5 i;
        stvec = one_head e6 i;
        scounteren = one_head e7 i;
        sscratch = one_head e8 i;
        sepc = one_head e9 i;
        scause = one_head e10 i;
        stval = one_head e11 i;
        ssip = ssip i;
        satp = one_head e13 i;
        timer = one_head e14 i;
        retired = one_head e15 i;
      };
      rest = one_tail e15;
    }

record HeldSame (a b : Option Reservation) (xs ys : List ℕ) : Type 0 where
  held : a ≡ b
  rest : xs ≡ ys

one_held : (a b : Option Reservation) (xs ys : List ℕ) → reservation_numbers a ++ xs ≡ reservation_numbers b ++ ys → HeldSame a b xs ys
one_held None None xs ys e = record { held = refl; rest = one_tail (one_tail (one_tail e)) }
one_held None (Some r) xs ys e = absurd (omega (arith, one_head e))
one_held (Some r) None xs ys e = absurd (omega (arith, one_head e))
one_held (Some a) (Some b) xs ys e =
    let address : a.address ≡ b.address = one_head (one_tail e) in
    let width : a.width ≡ b.width = one_width a.width b.width (one_head (one_tail (one_tail e))) in
    record { held = λ i. Some (record { address = address i; width = width i }); rest = one_tail (one_tail (one_tail e)) }

one_hart : (a b : ArchitecturalState) → hart_numbers a ≡ hart_numbers b → a ≡ b
one_hart a b e0 =
    let e1 = one_tail e0 in
    let e2 = one_tail e1 in
    let e3 = one_tail e2 in
    let started = one_flag a.started b.started (one_head e1) in
    let mode = one_mode a.mode b.mode (one_head e3) in
    let file = one_file a b (reservation_numbers a.reservation ++ a.registers) (reservation_numbers b.reservation ++ b.registers) (one_tail e3) in
    let held = one_held a.reservation b.reservation a.registers b.registers file.rest in
    λ i. record {
      number = one_head e0 i;
      started = started i;
      pc = one_head e2 i;
      registers = held.rest i;
      mode = mode i;
      csrs = file.file i;
      reservation = held.held i;
    }

hart_decides : (a b : ArchitecturalState) → Decides (same_hart a b) (a ≡ b)
hart_decides a b =
    let d = bytes_eq-Decides (hart_numbers a) (hart_numbers b) in
    (λ h. one_hart a b (d.0 h), λ e. d.1 (ap hart_numbers e))

-- ---- what two runs show

-- the test decides that they show the same
pub same_shown_decides : (a b : ShownRun) → Decides (same_shown a b) (a ≡ b)
unfolding same_shown
same_shown_decides a b = Decides-like (same_shown a b) parts_same same_parts parts
  where
    parts : Decides (same_shown a b) ((a.console ≡ b.console) × ((a.ending ≡ b.ending) × ((a.harts ≡ b.harts) × (a.place ≡ b.place))))
    parts =
        Decides-and _ _ (bytes_eq-Decides a.console b.console)
        (Decides-and _ _ (ending_decides a.ending b.ending)
        (Decides-and _ _ (slice_eq-Decides hart_decides a.harts b.harts (pointwise same_hart a.harts b.harts) refl) (Decides-eqb a.place b.place)))

    same_parts : a ≡ b → (a.console ≡ b.console) × ((a.ending ≡ b.ending) × ((a.harts ≡ b.harts) × (a.place ≡ b.place)))
    same_parts e = (
      ap (λ (s : ShownRun). s.console) e,
      (ap (λ (s : ShownRun). s.ending) e, (ap (λ (s : ShownRun). s.harts) e, ap (λ (s : ShownRun). s.place) e)),
    )

    parts_same : (a.console ≡ b.console) × ((a.ending ≡ b.ending) × ((a.harts ≡ b.harts) × (a.place ≡ b.place))) → a ≡ b
    parts_same p = λ i. record { console = p.0 i; ending = p.1.0 i; harts = p.1.1.0 i; place = p.1.1.1 i }

-- ---- verdicts

-- the function's verdict is that of the rule
pub verdict_is : (a b : ShownRun) → IsVerdict a b (verdict_of a b)
verdict_is a b = by_error (is_at_error a.ending.stop) refl
  where
    by_same : is_at_error a.ending.stop ≡ false → (t : Bool) → same_shown a b ≡ t → IsVerdict a b (verdict_by false t)
    by_same e true h = (e, (same_shown_decides a b).0 h)
    by_same e false h = (e, λ same. let t : same_shown a b ≡ true = (same_shown_decides a b).1 same in cc)

    by_error : (t : Bool) → is_at_error a.ending.stop ≡ t → IsVerdict a b (verdict_by t (same_shown a b))
    by_error true e = e
    by_error false e = by_same e (same_shown a b) refl

-- and there is no other
pub one_verdict : (a b : ShownRun) (v : Verdict) → IsVerdict a b v → v ≡ verdict_of a b
one_verdict a b Uncorrected e = ap (λ (t : Bool). verdict_by t (same_shown a b)) (sym e)
one_verdict a b Same k = ap (verdict_by false) (sym ((same_shown_decides a b).1 k.1)) ∙ ap (λ (t : Bool). verdict_by t (same_shown a b)) (sym k.0)
one_verdict a b Silent k = by (same_shown a b) refl
  where
    by : (t : Bool) → same_shown a b ≡ t → Silent ≡ verdict_of a b
    by true h = absurd (k.1 ((same_shown_decides a b).0 h))
    by false h = ap (verdict_by false) (sym h) ∙ ap (λ (t : Bool). verdict_by t (same_shown a b)) (sym k.0)

-- ---- what the program finds

-- the verdict, of tests that are true exactly where a run stopped at an error, and where two runs show the same
pub judged : (a b : ShownRun) (error same : Bool) (v : Verdict) → v ≡ verdict_by error same → error ≡ is_at_error a.ending.stop
    → (IsTrue same ↔ (a ≡ b)) → v ≡ verdict_of a b
judged a b error same v is at k =
    is ∙ ap (λ (t : Bool). verdict_by t same) at
    ∙ ap (verdict_by (is_at_error a.ending.stop)) (same_from_decides same (same_shown a b) k (same_shown_decides a b))
