-- What the code does to a record is what happens to the lists that it stands for; and what it leaves of its parts.
use Rattle.std.proofs.Common.{◌≡◌, ℕ, Bool, true, false, cond, Option, Some, None, ◌⊎◌, inl, inr, refl, sym, ap, ◌∙◌}
use Rattle.poison_mem.specs.declared.event.Event.{Event}
use Rattle.poison_mem.specs.declared.event.RecordView.{RecordView}
use Rattle.reri_bank.specs.declared.state.RecState.{RecState}
use Rattle.reri_bank.specs.State.{RecordLists, shown, state_logged, lists_logged, state_emptied, state_marked, state_written, control_after}
use Rattle.reri_bank.specs.declared.state.Staged.{Staged}
use Rattle.reri_bank.specs.Record.{with_event}
use Rattle.ras_bits.specs.Bits.{has_bit}
use Rattle.reri_bank.specs.declared.layout.TheConstants.{SINV, SRDP}
use Rattle.reri_bank.specs.RecordLaws.{fold_law}

-- what is shown of a choice
shown_choice : (b : Bool) (r q : RecordLists) (s t : RecState) → shown r ≡ s → shown q ≡ t → shown (cond b r q) ≡ cond b s t
shown_choice true r q s t h k = h
shown_choice false r q s t h k = k

shown_logged : (r : RecordLists) (e : Event) → state_logged (shown r) e ≡ shown (lists_logged r e)
shown_logged r e =
    sym (shown_choice r.control.logging _ r _ (shown r)
    (ap (λ (k : Option RecordView). let s : RecState = record { kept = k; rdip = false; control = r.control; staged = r.staged } in s) (fold_law r.events e)) refl)

pub logged_stands : (s t : RecState) (e : Event) (r : RecordLists) → t ≡ state_logged s e → s ≡ shown r → t ≡ shown (lists_logged r e)
logged_stands s t e r step stands = step ∙ ap (λ (u : RecState). state_logged u e) stands ∙ shown_logged r e

-- nothing but staging changes what is staged
staged_choice : (b : Bool) (s t : RecState) (o : Option Staged) → s.staged ≡ o → t.staged ≡ o → (cond b s t).staged ≡ o
staged_choice true s t o h k = h
staged_choice false s t o h k = k

pub logged_staged : (s : RecState) (e : Event) → (state_logged s e).staged ≡ s.staged
logged_staged s e = staged_choice s.control.logging (record { kept = Some (with_event s.kept e); rdip = false; control = s.control; staged = s.staged }) s s.staged refl refl

pub emptied_staged : (s : RecState) → (state_emptied s).staged ≡ s.staged
emptied_staged s = staged_choice s.rdip (record { kept = None; rdip = false; control = s.control; staged = s.staged }) s s.staged refl refl

pub written_staged : (always_logs : Bool) (s : RecState) (v : ℕ) → (state_written always_logs s v).staged ≡ s.staged
written_staged always_logs s v =
    let set : RecState = record { kept = s.kept; rdip = s.rdip; control = control_after always_logs v; staged = s.staged } in
    let emptied : RecState = cond (has_bit v SINV) (state_emptied set) set in
    let once : emptied.staged ≡ s.staged = staged_choice (has_bit v SINV) (state_emptied set) set s.staged (emptied_staged set) refl in
    staged_choice (has_bit v SRDP) (state_marked emptied) emptied s.staged once once

-- a write leaves what is kept, or empties the record
kept_choice : (b : Bool) (s t : RecState) (o : Option RecordView) → (s.kept ≡ o) ⊎ (s.kept ≡ None) → (t.kept ≡ o) ⊎ (t.kept ≡ None) → ((cond b s t).kept ≡ o) ⊎ ((cond b s t).kept ≡ None)
kept_choice true s t o h k = h
kept_choice false s t o h k = k

pub emptied_kept : (s : RecState) → ((state_emptied s).kept ≡ s.kept) ⊎ ((state_emptied s).kept ≡ None)
emptied_kept s = kept_choice s.rdip (record { kept = None; rdip = false; control = s.control; staged = s.staged }) s s.kept (inr refl) (inl refl)

pub written_kept : (always_logs : Bool) (s : RecState) (v : ℕ) → ((state_written always_logs s v).kept ≡ s.kept) ⊎ ((state_written always_logs s v).kept ≡ None)
written_kept always_logs s v =
    let set : RecState = record { kept = s.kept; rdip = s.rdip; control = control_after always_logs v; staged = s.staged } in
    let emptied : RecState = cond (has_bit v SINV) (state_emptied set) set in
    let once : (emptied.kept ≡ s.kept) ⊎ (emptied.kept ≡ None) = kept_choice (has_bit v SINV) (state_emptied set) set s.kept (emptied_kept set) (inl refl) in
    kept_choice (has_bit v SRDP) (state_marked emptied) emptied s.kept once once
