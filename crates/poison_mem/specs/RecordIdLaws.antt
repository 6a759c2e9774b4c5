-- A record is named by its own bank and number, and by no other.
use Rattle.std.proofs.Common.{◌≡◌, ℕ, refl, arith}
use Rattle.std.proofs.lemmas.Bool.Decides.{nat_tests}
use Rattle.std.specs.Prelude.{Some}
use Rattle.poison_mem.specs.declared.record_id.RecordId.{RecordId}
use Rattle.poison_mem.specs.declared.record_id.RecordId.TheVariants.{Read, Scrub, L1, L2, Hart}
use Rattle.poison_mem.specs.RecordId.{bank_number, record_number, record_id}

pub named_by_own : (id : RecordId) → record_id (bank_number id) (record_number id) ≡ Some id
named_by_own Read = refl
named_by_own Scrub = refl
named_by_own L1 = refl
named_by_own L2 = refl
named_by_own Hart = refl

pub named_alone : (bank rec : ℕ) (id : RecordId) → record_id bank rec ≡ Some id → (bank ≡ bank_number id) × (rec ≡ record_number id)
named_alone bank rec Read e = grind (arith, nat_tests)
named_alone bank rec Scrub e = grind (arith, nat_tests)
named_alone bank rec L1 e = grind (arith, nat_tests)
named_alone bank rec L2 e = grind (arith, nat_tests)
named_alone bank rec Hart e = grind (arith, nat_tests)
