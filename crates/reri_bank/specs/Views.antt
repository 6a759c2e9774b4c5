-- The views that events can lead to.
use Rattle.std.specs.Prelude.{◌≡◌, ℕ, ◌<◌, ◌^◌, nat_lt, List, Option, Some, IfSome}
use Rattle.std.specs.List.{AllByRecursion}
use Rattle.poison_mem.specs.declared.event.Class.TheVariants.{Corrected}
use Rattle.poison_mem.specs.declared.event.Event.{Event}
use Rattle.poison_mem.specs.declared.event.RecordView.{RecordView}
use Rattle.poison_mem.specs.RecordView.{IsSoundView}
use Rattle.reri_bank.specs.Record.{rec_of}

-- a view is sound, CE is flagged exactly where one is counted, and a kept CE has others beside it exactly where two are counted
pub record IsReachable (v : RecordView) : Type 0 where
  pub sound : IsSoundView v
  pub counted : v.ce ≡ nat_lt 0 v.cec
  pub others : v.kept.class ≡ Corrected → v.mo ≡ nat_lt 1 v.cec

-- an event of a record of a bank
pub record IsOf (bank rec : ℕ) (e : Event) : Type 0 where
  pub bank_is : e.bank ≡ bank
  pub rec_is : e.rec ≡ rec

-- a view's priority fits the status register
abbrev pub PriFits : Option RecordView → Type 0
PriFits v = IfSome v (λ view. view.kept.pri < 4)

-- a view's count of CE fits its field
abbrev pub CountFits : Option RecordView → Type 0
CountFits v = IfSome v (λ view. view.cec < 2 ^ 16)

-- events whose priorities fit are shown by this view
pub record LeadTo (es : List Event) (v : RecordView) : Type 0 where
  pub pris_fit : AllByRecursion (λ (e : Event). e.pri < 4) es
  pub shows : rec_of es ≡ Some v
