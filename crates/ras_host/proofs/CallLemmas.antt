-- The calls that a log keeps.
use Rattle.std.proofs.Common.{◌≡◌, ℕ, suc, ◌+◌, ◌-◌, ◌^◌, ◌≤◌, ◌<◌, min, true, false, cond, List, [], ◌∷◌, ◌++◌, take, drop, length, refl, sym, ◌∙◌, ap, arith, length-append, length-drop, length-take}
use Rattle.std.proofs.Math.Seq.{take-length}
use Rattle.std.proofs.lemmas.Bool.{le-ltb, lt-ltb, le-leb}
use Rattle.std.proofs.lemmas.Bool.Decides.{nat_tests}
use Rattle.std.proofs.lemmas.List.{take-append-le, drop-append-le}
use Rattle.ras_host.specs.Told.{Bytes, HostCall, Told, IsWhole, Appended}
use Rattle.ras_host.specs.Names.{kept_calls, names_len}
use Rattle.ras_host.specs.Calls.{names_of, noted, is_kept, told_calls}
use Rattle.ras_host.specs.declared.call_log.CallLog.{CallLog}
use Rattle.ras_host.specs.declared.call_log.MadeCall.{MadeCall}

abbrev told : List HostCall → ℕ → Told HostCall
told kept total = record { kept = kept; total = total }

abbrev named_call : MadeCall → Bytes → HostCall
named_call m name = record { kind = m.kind; name = name; limit = m.limit }

pub length_kept : (ms : List MadeCall) (names : Bytes) → length (kept_calls ms names) ≡ length ms
length_kept [] names = refl
length_kept (m ∷ ms) names = ap suc (length_kept ms (drop m.name_len names))

pub names_len-append : (ms : List MadeCall) (m : MadeCall) → names_len (ms ++ m ∷ []) ≡ names_len ms + m.name_len
names_len-append [] m = omega arith
names_len-append (n ∷ ms) m = omega (arith, names_len-append ms m)

-- the names in the buffer are as long as it
pub names_of_kept : (ms : List MadeCall) (names : Bytes) → names_len ms ≡ length names → names_of (kept_calls ms names) ≡ length names
names_of_kept [] names h = h
names_of_kept (m ∷ ms) names h =
    let rest : names_len ms ≡ length (drop m.name_len names) = omega (arith, length-drop m.name_len names) in
    let tail = names_of_kept ms (drop m.name_len names) rest in
    omega (arith, length-take m.name_len names, length-drop m.name_len names)

-- one more call, with its name behind the others
pub kept_calls-append : (ms : List MadeCall) (m : MadeCall) (names name : Bytes) → names_len ms ≡ length names → m.name_len ≡ length name
    → kept_calls (ms ++ m ∷ []) (names ++ name) ≡ kept_calls ms names ++ named_call m name ∷ []
kept_calls-append [] m [] name h l = rw (l, take-length) refl
kept_calls-append [] m (x ∷ xs) name h l = absurd (omega arith)
kept_calls-append (n ∷ ms) m names name h l =
    let inside : n.name_len ≤ length names = omega arith in
    let rest : names_len ms ≡ length (drop n.name_len names) = omega (arith, length-drop n.name_len names) in
    rw (take-append-le n.name_len names name inside, drop-append-le n.name_len names name inside)
    (ap (λ l. named_call n (take n.name_len names) ∷ l) (kept_calls-append ms m (drop n.name_len names) name rest l))

-- what a call appends: it is kept or only counted
pub noted_appended : (room : ℕ) (before : Told HostCall) (call : HostCall) → length before.kept ≤ before.total → length before.kept ≤ 64
    → Appended before (noted room before call) (call ∷ [])
noted_appended room before call c f = elim (is_kept room before.kept call) as (λ t. Appended before
    (told (cond t (before.kept ++ call ∷ []) before.kept) (min (before.total + 1) (2 ^ 64 - 1))) (call ∷ [])) [
      | true ↦ record {
        total = refl;
        whole = λ w. record { all = counted (length before.kept) before.total f (sym (length-append before.kept (call ∷ [])) ∙ w.all) };
        kept = λ w. refl;
      }
      | false ↦
          let bad = λ (w : IsWhole (told before.kept (min (before.total + 1) (2 ^ 64 - 1)))). missed (length before.kept) before.total c f w.all in
          record { total = refl; whole = λ w. absurd (bad w); kept = λ w. absurd (bad w) }
    ]
  where
    counted : (k n : ℕ) → k ≤ 64 → k + 1 ≡ min (n + 1) (2 ^ 64 - 1) → k ≡ n
    counted k n f w = omega arith

    missed : (k n : ℕ) → k ≤ n → k ≤ 64 → k ≡ min (n + 1) (2 ^ 64 - 1) → ⊥
    missed k n c f w = omega arith

not_kept : (room : ℕ) (before : Told HostCall) (call : HostCall) (m : ℕ) → is_kept room before.kept call ≡ false → m ≡ min (before.total + 1) (2 ^ 64 - 1)
    → told before.kept m ≡ noted room before call
not_kept room before call m h e = rw (h, e) refl

-- a call that comes when 64 are kept
pub noted_full : (room : ℕ) (ms : List MadeCall) (names : Bytes) (call : HostCall) (n m : ℕ) → 64 ≤ length ms → m ≡ min (n + 1) (2 ^ 64 - 1)
    → told (kept_calls ms names) m ≡ noted room (told (kept_calls ms names) n) call
noted_full room ms names call n m f e =
    let full : 64 ≤ length (kept_calls ms names) = rw (length_kept ms names) f in
    not_kept room (told (kept_calls ms names) n) call m (rw (le-ltb (length (kept_calls ms names)) 64 full) refl) e

-- a call whose name does not fit
pub noted_unfit : (room : ℕ) (ms : List MadeCall) (names : Bytes) (call : HostCall) (n m : ℕ) → names_len ms ≡ length names → room < length names + length call.name
    → m ≡ min (n + 1) (2 ^ 64 - 1) → told (kept_calls ms names) m ≡ noted room (told (kept_calls ms names) n) call
noted_unfit room ms names call n m h u e =
    let over : room < names_of (kept_calls ms names) + length call.name = rw (names_of_kept ms names h) u in
    not_kept room (told (kept_calls ms names) n) call m (grind (arith, nat_tests)) e

-- a call that is kept
pub noted_kept : (room : ℕ) (ms : List MadeCall) (made : MadeCall) (names name : Bytes) (n m : ℕ) → names_len ms ≡ length names → made.name_len ≡ length name
    → length ms < 64 → length names + length name ≤ room → m ≡ min (n + 1) (2 ^ 64 - 1)
    → told (kept_calls (ms ++ made ∷ []) (names ++ name)) m ≡ noted room (told (kept_calls ms names) n) (named_call made name)
noted_kept room ms made names name n m h l f r e =
    let few : length (kept_calls ms names) < 64 = rw (length_kept ms names) f in
    let fits : names_of (kept_calls ms names) + length name ≤ room = rw (names_of_kept ms names h) r in
    rw (kept_calls-append ms made names name h l, lt-ltb (length (kept_calls ms names)) 64 few, le-leb (names_of (kept_calls ms names) + length name) room fits, e) refl

pub pushed_counted : (ms : List MadeCall) (made : MadeCall) (n m : ℕ) → length ms ≤ n → length ms ≤ 64 → m ≡ min (n + 1) (2 ^ 64 - 1) → length (ms ++ made ∷ []) ≤ m
pushed_counted ms made n m c f e = rw (length-append ms (made ∷ [])) (omega arith)

pub pushed_few : (ms : List MadeCall) (made : MadeCall) → length ms < 64 → length (ms ++ made ∷ []) ≤ 64
pushed_few ms made f = rw (length-append ms (made ∷ [])) (omega arith)

pub pushed_named : (ms : List MadeCall) (made : MadeCall) (names name : Bytes) → names_len ms ≡ length names → made.name_len ≡ length name → names_len (ms ++ made ∷ []) ≡ length (names ++ name)
pushed_named ms made names name h l = names_len-append ms made ∙ sym (length-append names name ∙ omega arith)

-- what a log appends for a call
pub log_appended : (log : CallLog) (call : HostCall) → Appended (told_calls log) (noted log.room (told_calls log) call) (call ∷ [])
log_appended log call =
    let same = length_kept log.made.items log.names.items in
    noted_appended log.room (told_calls log) call (rw same log.counted) (rw same log.few)
