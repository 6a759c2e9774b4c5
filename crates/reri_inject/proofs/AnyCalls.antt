-- The banks under any calls.
use Rattle.std.proofs.Common.{◌≡◌, ℕ, ◌+◌, ◌<◌, ◌≤◌, Bool, true, false, cond, List, [], ◌∷◌, ◌++◌, Option, Some, None, sym, subst, ap, ◌∙◌, arith}
use Rattle.std.specs.List.{AllByRecursion}
use Rattle.std.proofs.lemmas.List.{append_assoc, append-nil}
use Rattle.poison_mem.specs.RecordId.{bank_number, record_number}
use Rattle.poison_mem.specs.declared.record_id.RecordId.{RecordId}
use Rattle.reri_bank.specs.declared.state.RecState.{RecState}
use Rattle.reri_bank.specs.declared.state.Staged.{Staged}
use Rattle.reri_bank.specs.Bank.{state_staged}
use Rattle.reri_bank.specs.BanksState.{BanksState}
use Rattle.reri_bank.specs.Banks.{banks_staged}
use Rattle.reri_bank.specs.StateAt.{state_at, is_record}
use Rattle.reri_bank.specs.StateAtLaws.{staged_at}
use Rattle.reri_inject.specs.Due.{Injection, InjectLine, staged_in}
use Rattle.reri_inject.specs.DueLaws.{left_staged, all_append, line_staged, step_counts}
use Rattle.reri_inject.specs.Inject.{counted, staged_now, begun}
use Rattle.reri_inject.specs.CallsLaws.{begun_staged, begun_counts}
use Rattle.reri_inject.specs.Calls.{BanksCall, StageAt, BeginStep, Other, IsCall, last_step, banks_run, lines_of, GoesByLines}

-- the banks under any calls, where some lines were staged before
abbrev GoOn : RecordId → List BanksCall → Type 0
GoOn id calls = (step : ℕ) (before : List InjectLine) (b : BanksState) → AllByRecursion IsCall calls → AllByRecursion (λ (l : InjectLine). l.step ≤ step) before
    → AllByRecursion (λ (l : InjectLine). 1 ≤ l.delay) before → (state_at b id).staged ≡ staged_in step before
    → GoesByLines (before ++ lines_of id step calls) (last_step step calls) id (banks_run step calls b)

after_stage : (id : RecordId) (calls : List BanksCall) → GoOn id calls → (same : Bool) (step delay : ℕ) (i : Injection) (before : List InjectLine) (b after : BanksState) → AllByRecursion IsCall calls → 1 ≤ delay
    → AllByRecursion (λ (l : InjectLine). l.step ≤ step) before → AllByRecursion (λ (l : InjectLine). 1 ≤ l.delay) before → (state_at b id).staged ≡ staged_in step before
    → state_at after id ≡ cond same (state_staged (Some (staged_now i.class delay i.addr)) (state_at b id)) (state_at b id)
    → GoesByLines (before ++ cond same (record { step = step; delay = delay; injection = i } ∷ lines_of id step calls) (lines_of id step calls)) (last_step step calls) id (banks_run step calls after)
after_stage id calls go_on true step delay i before b after called some past delayed staged at =
    let line : InjectLine = record { step = step; delay = delay; injection = i } in
    subst (λ (ls : List InjectLine). GoesByLines ls (last_step step calls) id (banks_run step calls after)) (append_assoc before (line ∷ []) (lines_of id step calls))
    (go_on step (before ++ line ∷ []) after called
    (all_append (λ (l : InjectLine). l.step ≤ step) before (line ∷ []) past (omega arith, tt))
    (all_append (λ (l : InjectLine). 1 ≤ l.delay) before (line ∷ []) delayed (some, tt))
    (ap (λ (s : RecState). s.staged) at ∙ sym (line_staged step delay i before some)))
after_stage id calls go_on false step delay i before b after called some past delayed staged at =
    go_on step before after called past delayed (ap (λ (s : RecState). s.staged) at ∙ staged)

later_past : (step : ℕ) (lines : List InjectLine) → AllByRecursion (λ (l : InjectLine). l.step ≤ step) lines → AllByRecursion (λ (l : InjectLine). l.step ≤ step + 1) lines
later_past step [] h = tt
later_past step (l ∷ lines) h = (omega (arith, h.0), later_past step lines h.1)

goes_on : (id : RecordId) → bank_number id < 2 → (calls : List BanksCall) → GoOn id calls
goes_on id below [] step before b called past delayed staged =
    subst (λ (ls : List InjectLine). GoesByLines ls step id b) (sym (append-nil before)) (record { staged = staged; next = begun_counts before step id b below delayed staged })
goes_on id below (StageAt other delay i ∷ calls) step before b called past delayed staged =
    after_stage id calls (goes_on id below calls) (is_record (bank_number other) (record_number other) id) step delay i before b
    (banks_staged b (bank_number other) (record_number other) (Some (staged_now i.class delay i.addr))) called.1 called.0 past delayed staged
    (staged_at other id (Some (staged_now i.class delay i.addr)) b)
goes_on id below (BeginStep ∷ calls) step before b called past delayed staged =
    goes_on id below calls (step + 1) before (begun (step + 1) b) called.1 (later_past step before past) delayed
    (begun_staged id (step + 1) b below ∙ ap (λ (o : Option Staged). left_staged (counted o)) staged ∙ sym (step_counts step before past))
goes_on id below (Other change ∷ calls) step before b called past delayed staged =
    goes_on id below calls step before (change b) called.1 past delayed (called.0 b id ∙ staged)

pub goes_by_lines : (id : RecordId) (step : ℕ) (calls : List BanksCall) (b : BanksState) → bank_number id < 2 → AllByRecursion IsCall calls → (state_at b id).staged ≡ None
    → GoesByLines (lines_of id step calls) (last_step step calls) id (banks_run step calls b)
goes_by_lines id step calls b below called none = goes_on id below calls step [] b called tt tt none
