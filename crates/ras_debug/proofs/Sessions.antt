-- A session whose reply was emptied before a line.
use Rattle.std.proofs.Common.{◌≡◌, ℕ, List, [], refl, ap}
use Rattle.ras_debug.specs.declared.requests.Request.{Request}
use Rattle.ras_debug.specs.declared.requests.Request.TheVariants as request
use Rattle.ras_debug.specs.Session.{SessionState, replied, requested}

-- what is asked for doesn't depend on the last reply
pub emptied : (asked : Request) (s : SessionState) → requested asked (replied [] s) ≡ requested asked s
emptied request.Nothing s = refl
emptied (request.Step n) s = refl
emptied request.Run s = refl
emptied (request.Break address) s = refl
emptied request.Regs s = refl
emptied (request.Mem w n) s = refl
emptied request.Poison s = refl
emptied (request.Bank bank) s = refl
emptied (request.List address n) s = refl
emptied request.Quit s = refl

-- an empty reply to nothing
pub unasked : (s : SessionState) → s.reply ≡ [] → s ≡ replied [] s
unasked s empty = ap (λ (text : List ℕ). replied text s) empty
