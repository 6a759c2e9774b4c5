-- Where the program finds that an access goes is in RAM, at the address's offset in its page.
use Rattle.std.proofs.Common.{◌≡◌, ℕ, subst}
use Rattle.ras_bits.specs.declared.terms.Access.{Access}
use Rattle.sv39_walk.specs.declared.request.Request.{Request}
use Rattle.sv39_walk.specs.Walking.{Walking, walk}
use Rattle.sv39_walk.specs.WalkingLaws.{at_most_three}
use Rattle.poison_mem.specs.declared.event.Event.{Event}
use Rattle.poison_mem.specs.Bus.{BusMeaning}
use Rattle.poison_mem.specs.Asking.{play}
use Rattle.rv64_hart.specs.declared.locate.Located.{Located}
use Rattle.rv64_hart.specs.declared.locate.Located.TheVariants as found
use Rattle.rv64_hart.specs.Translation.{walked}
use Rattle.rv64_hart.specs.TranslationLaws.{walk_keeps_offset}
use Rattle.rv64_hart.specs.Within.{IsInPage}
use Rattle.rv64_hart.specs.WithinLaws.{walked_within}
use Rattle.rv64_hart.specs.Program.{located_end, IsFoundInPage}
use Rattle.rv64_hart.proofs.Endings.{EndsAs, play_ends}

found_in_page : {B L : Type 0} (words address : ℕ) (result : Located) (b : B) (log : L)
    → EndsAs (IsInPage words address) (located_end result b log) → IsFoundInPage words address result
found_in_page words address (found.At physical) b log fact = fact
found_in_page words address (found.Refused exception) b log fact = tt
found_in_page words address (found.Poisoned w) b log fact = tt

pub walk_found : {B L : Type 0} (bus : BusMeaning B) (logged : L → Event → L) (words : ℕ) (kind : Access) (satp : ℕ) (request : Request) (left : Walking) (result : Located) (b b' : B) (log log' : L)
    → left ≡ walk satp request → play bus logged (walked words kind left) b log ≡ located_end result b' log' → IsFoundInPage words request.va result
walk_found bus logged words kind satp request left result b b' log log' is e =
    found_in_page words request.va result b' log'
    (subst (EndsAs (IsInPage words request.va)) e
    (play_ends bus logged words (IsInPage words request.va) (walked words kind left) 3 b log
    (rw is (walked_within words 3 request.va kind (walk satp request) (at_most_three satp request) (walk_keeps_offset satp request)))))
