-- The five error records of the three banks.
use Rattle.std.specs.Prelude.{ℕ, ◌==◌, Bool, false, nat_lt, if◌then◌else◌, Option, Some, None, List, [], ◌∷◌}
use Rattle.poison_mem.specs.declared.record_id.RecordId.{RecordId}
use Rattle.poison_mem.specs.declared.record_id.RecordId.TheVariants.{Read, Scrub, L1, L2, Hart}

-- the number of a record's bank
abbrev pub bank_number : RecordId → ℕ
bank_number Read = 0
bank_number Scrub = 0
bank_number L1 = 1
bank_number L2 = 1
bank_number Hart = 2

-- the number of a record in its bank
abbrev pub record_number : RecordId → ℕ
record_number Read = 0
record_number Scrub = 1
record_number L1 = 0
record_number L2 = 1
record_number Hart = 0

-- the record that a bank and a number name
abbrev pub record_id : ℕ → ℕ → Option RecordId
record_id bank rec =
    if bank == 0 then (if rec == 0 then Some Read else if rec == 1 then Some Scrub else None)
    else if bank == 1 then (if rec == 0 then Some L1 else if rec == 1 then Some L2 else None)
    else if bank == 2 then (if rec == 0 then Some Hart else None)
    else None

-- a bank and a number name a record: banks 0 and 1 have two records, bank 2 has one
abbrev pub names_record : ℕ → ℕ → Bool
names_record bank rec = if bank == 0 then nat_lt rec 2 else if bank == 1 then nat_lt rec 2 else if bank == 2 then rec == 0 else false

-- the five records, by bank and then by record
abbrev pub all_records : List RecordId
all_records = Read ∷ Scrub ∷ L1 ∷ L2 ∷ Hart ∷ []
