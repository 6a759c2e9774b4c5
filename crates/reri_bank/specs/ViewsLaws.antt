-- What a record shows names what its events name.
use Rattle.std.proofs.Common.{true, false, cond, Option, Some, None, IfSome, ℕ}
use Rattle.poison_mem.specs.declared.event.Event.{Event}
use Rattle.poison_mem.specs.declared.event.RecordView.{RecordView}
use Rattle.reri_bank.specs.Record.{ranks_above, with_event}
use Rattle.reri_bank.specs.Views.{IsOf}

pub next_names : (bank rec : ℕ) (k : Option RecordView) (e : Event) → IfSome k (λ v. IsOf bank rec v.kept) → IsOf bank rec e → IsOf bank rec (with_event k e).kept
unfolding with_event
next_names bank rec None e h is = is
next_names bank rec (Some v) e h is = (elim (ranks_above e v.kept) as (λ b. IsOf bank rec (cond b e v.kept)) [ true ↦ is | false ↦ h ])
