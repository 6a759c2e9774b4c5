-- What holds of every turn, by what holds of its parts: translation, an operation at its location, and a call to the firmware.
use Rattle.std.specs.Prelude.{◌≡◌, ℕ, zero, suc, ◌+◌, ◌-◌, ◌/◌, ◌%◌, ◌≤◌, ◌<◌, ◌==◌, ◌&&◌, not, nat_lt, nat_le, min, List, [], ◌∷◌, ◌++◌, take, length, Option, Some, None, Bool, true, false, if◌then◌else◌}
use Rattle.std.specs.Int.{w64, to_le_bytes}
use Rattle.std.proofs.Common.{refl, sym, subst, arith, lit<}
use Rattle.std.proofs.lemmas.Bool.Decides.{nat_tests}
use Rattle.std.proofs.lemmas.List.{length-take}
use Rattle.ras_bits.specs.Bits.{has_bit}
use Rattle.ras_bits.specs.Map.{is_ram, word_at, word_address}
use Rattle.ras_bits.specs.MapLaws.{word_at_lt}
use Rattle.ras_bits.specs.declared.map.TheConstants.{RAM_START}
use Rattle.ras_bits.specs.declared.terms.Access.{Access}
use Rattle.ras_bits.specs.declared.terms.Mode.{Mode}
use Rattle.ras_bits.specs.declared.terms.Mode.TheVariants.{User, Supervisor}
use Rattle.poison_mem.specs.declared.cell.UseKind.{UseKind}
use Rattle.poison_mem.specs.Asking.{Asking, Answer, Ask, ◌>>=◌, AsksWithin}
use Rattle.sbi_calls.specs.declared.call.SbiCall.{SbiCall}
use Rattle.sbi_calls.specs.declared.call.SbiCall.TheVariants as call
use Rattle.sbi_calls.specs.declared.error.SbiError.TheVariants.{InvalidAddress}
use Rattle.sbi_calls.specs.declared.console.TheConstants.{MOST_BYTES}
use Rattle.sbi_calls.specs.declared.stop.GuestStop.TheVariants.{Shutdown, Reboot}
use Rattle.sbi_calls.specs.Console.{lie_in_ram, span_of}
use Rattle.sbi_calls.specs.Extension.{call_of}
use Rattle.sbi_calls.specs.Ipi.{harts_of_mask}
use Rattle.sv39_walk.specs.Walking.{Walking, Done, Fault, Need, walk, NeedsAtMost}
use Rattle.sv39_walk.specs.WalkingLaws.{at_most_three}
use Rattle.rv64_csr.specs.Csrs.{pending_of}
use Rattle.rv64_decode.specs.declared.instr.Instr.{Instr}
use Rattle.rv64_decode.specs.declared.instr.Instr.TheVariants as instr
use Rattle.rv64_decode.specs.declared.instr.CsrOp.{CsrOp}
use Rattle.rv64_decode.specs.declared.instr.LoadOp.{LoadOp}
use Rattle.rv64_decode.specs.Decoding.{row}
use Rattle.rv64_hart.specs.declared.ends.Effect.{Effect}
use Rattle.rv64_hart.specs.declared.ends.Effect.TheVariants.{Start}
use Rattle.rv64_hart.specs.declared.operation.Operation.{Operation}
use Rattle.rv64_hart.specs.declared.operation.Operation.TheVariants as operation
use Rattle.rv64_hart.specs.declared.operation.Exchange.{Exchange}
use Rattle.rv64_hart.specs.declared.traps.Exception.{Exception}
use Rattle.rv64_hart.specs.Answers.{answered, refused}
use Rattle.rv64_hart.specs.Around.{Around}
use Rattle.rv64_hart.specs.State.{ArchitecturalState}
use Rattle.rv64_hart.specs.Access.{is_aligned, instruction_at}
use Rattle.rv64_hart.specs.Outcome.{Outcome, Goes, went, acting}
use Rattle.rv64_hart.specs.Translation.{Location, At, Refused, request_of, walked, located}
use Rattle.rv64_hart.specs.TranslationLaws.{EndsAtOffset, walk_keeps_offset}
use Rattle.rv64_hart.specs.Operations.{atomic_width, width_of, kind_of, is_reserved, loaded, reserved, conditionally_stored, exchanged, performed, performed_at, accessed}
use Rattle.rv64_hart.specs.System.{CsrAccess, csr_accessed, csr_answered, csr_operand, csr_done, returned_in, trap_returned, privileged_in, privileged}
use Rattle.rv64_hart.specs.ConsoleCalls.{words_touched, bytes_asked, bytes_written, parts_stored, bytes_read, with_span}
use Rattle.rv64_hart.specs.HartCalls.{start_asked, status_asked, interrupts_sent}
use Rattle.rv64_hart.specs.Firmware.{byte_asked, reset_asked, served, firmware_called}
use Rattle.rv64_hart.specs.Turn.{jumped, branched, called_in, called, executed, executed_word, fetched_at, instruction_turn, turn_by, turn}
use Rattle.rv64_hart.specs.Within.{StoresWithin, HeldWithin, HasEntry, OutcomeWithin, TurnWithin, IsInPage}
use Rattle.rv64_hart.specs.Program.{IsTouched}

-- ---- any computation

-- what asks for few words asks for no more than many
asks_more : {X : Type 0} (words few many : ℕ) (IsRight : X → Type 0) (m : Asking X)
    → few ≤ many → AsksWithin words few IsRight m → AsksWithin words many IsRight m
asks_more words few many IsRight (Answer x) h fact = fact
asks_more words few many IsRight (Ask w use_kind go_on) h (there, left, next) =
    (there, omega arith, λ value. asks_more words (few - 1) (many - 1) IsRight (go_on value) (omega arith) (next value))

-- two computations, one after the other, ask for as many words as both do
asks_bind : {X Y : Type 0} (words first second most : ℕ) (IsFound : X → Type 0) (IsRight : Y → Type 0) (m : Asking X) (f : X → Asking Y)
    → first + second ≤ most → AsksWithin words first IsFound m → ((x : X) → IsFound x → AsksWithin words second IsRight (f x))
    → AsksWithin words most IsRight (m >>= f)
asks_bind words first second most IsFound IsRight (Answer x) f h fact rest = asks_more words second most IsRight (f x) (omega arith) (rest x fact)
asks_bind words first second most IsFound IsRight (Ask w use_kind go_on) f h (there, left, next) rest =
    (there, omega arith, λ value. asks_bind words (first - 1) second (most - 1) IsFound IsRight (go_on value) f (omega arith) (next value) rest)

either_within : (words most : ℕ) (h : ArchitecturalState) (b : Bool) (m m' : Asking Outcome)
    → TurnWithin words most h m → TurnWithin words most h m' → TurnWithin words most h (if b then m else m')
either_within words most h true m m' holds fails = holds
either_within words most h false m m' holds fails = fails

-- ---- a hart's state

-- it has the same number, is as started, and holds the same reservation
abbrev Stays : ArchitecturalState → ArchitecturalState → Type 0
Stays h after = (after.number ≡ h.number) × (after.started ≡ h.started) × (after.reservation ≡ h.reservation)

either_stays : (h : ArchitecturalState) (b : Bool) (x y : ArchitecturalState) → Stays h x → Stays h y → Stays h (if b then x else y)
either_stays h true x y stays other = stays
either_stays h false x y stays other = other

jumped_stays : (h : ArchitecturalState) (rd target : ℕ) → Stays h (jumped h rd target)
unfolding jumped
jumped_stays h rd target = either_stays h (target % 4 == 0) _ _ (refl, refl, refl) (refl, refl, refl)

branched_stays : (h : ArchitecturalState) (taken : Bool) (target : ℕ) → Stays h (branched h taken target)
unfolding branched
branched_stays h taken target =
    either_stays h taken _ _ (either_stays h (target % 4 == 0) _ _ (refl, refl, refl) (refl, refl, refl)) (refl, refl, refl)

returned_stays : (mode : Mode) (h : ArchitecturalState) (word : ℕ) → Stays h (returned_in mode h word)
returned_stays User h word = (refl, refl, refl)
returned_stays Supervisor h word = (refl, refl, refl)

trap_returned_stays : (h : ArchitecturalState) (word : ℕ) → Stays h (trap_returned h word)
unfolding trap_returned
trap_returned_stays h word = returned_stays h.mode h word

privileged_in_stays : (mode : Mode) (h : ArchitecturalState) (word : ℕ) → Stays h (privileged_in mode h word)
privileged_in_stays User h word = (refl, refl, refl)
privileged_in_stays Supervisor h word = (refl, refl, refl)

privileged_stays : (h : ArchitecturalState) (word : ℕ) → Stays h (privileged h word)
unfolding privileged
privileged_stays h word = privileged_in_stays h.mode h word

csr_answered_stays : (h : ArchitecturalState) (word rd : ℕ) (access : Option CsrAccess) → Stays h (csr_answered h word rd access)
csr_answered_stays h word rd None = (refl, refl, refl)
csr_answered_stays h word rd (Some access) = (refl, refl, refl)

csr_done_stays : (h : ArchitecturalState) (now word : ℕ) (op : CsrOp) (rd number src : ℕ) → Stays h (csr_done h now word op rd number src)
unfolding csr_done
csr_done_stays h now word op rd number src =
    csr_answered_stays h word rd (csr_accessed h.csrs h.mode now op rd number src (csr_operand h op src))

-- an outcome of a state that stays in these parts
kept : (words : ℕ) (h after : ArchitecturalState) (taken : ℕ) (bytes : List ℕ) (effect : Effect) → Stays h after → HasEntry effect
    → OutcomeWithin words h (record { after = after; taken = taken; stores = []; bytes = bytes; ending = Goes effect })
kept words h after taken bytes effect (number, started, reservation) entry = record {
  stores = tt;
  held = λ inside. subst (HeldWithin words) (sym reservation) inside;
  number = number;
  started = started;
  stops = tt;
  effect = entry;
}

-- ---- translation

location_by : (words address physical : ℕ) (exception : Exception) (there : Bool) → (there ≡ true → is_ram words physical ≡ true)
    → physical % 4096 ≡ address % 4096 → IsInPage words address (if there then At physical else Refused exception)
location_by words address physical exception true h offset = (h refl, offset)
location_by words address physical exception false h offset = tt

entry_by : (words most va address : ℕ) (exception : Exception) (there : Bool) (go_on : ℕ → Asking Location) → (there ≡ true → word_at address < words)
    → 0 < most → ((entry : ℕ) → AsksWithin words (most - 1) (IsInPage words va) (go_on entry))
    → AsksWithin words most (IsInPage words va) (if there then Ask (word_at address) UseKind.Walk go_on else Answer (Refused exception))
entry_by words most va address exception true go_on h left next = (h refl, left, next)
entry_by words most va address exception false go_on h left next = tt

-- a walk asks for as many words as it needs entries
pub walked_within : (words most va : ℕ) (kind : Access) (walking : Walking) → NeedsAtMost most walking → EndsAtOffset (va % 4096) walking
    → AsksWithin words most (IsInPage words va) (walked words kind walking)
unfolding walked
walked_within words most va kind (Done physical) needed offset = location_by words va physical _ (is_ram words physical) (λ h. h) offset
walked_within words most va kind (Fault code) needed offset = tt
walked_within words most va kind (Need address go_on) (left, next) offset =
    entry_by words most va address _ (is_ram words address) _ (word_at_lt words address) left
    (λ entry. walked_within words (most - 1) va kind (go_on entry) (next entry) (offset entry))

pub located_within : (words : ℕ) (h : ArchitecturalState) (kind : Access) (address : ℕ)
    → AsksWithin words 3 (IsInPage words address) (located words h kind address)
located_within words h kind address =
    walked_within words 3 address kind (walk h.csrs.satp (request_of h kind address)) (at_most_three h.csrs.satp (request_of h kind address))
    (walk_keeps_offset h.csrs.satp (request_of h kind address))

-- ---- operations

loaded_within : (words : ℕ) (h : ArchitecturalState) (op : LoadOp) (rd physical : ℕ) → is_ram words physical ≡ true
    → TurnWithin words 1 h (loaded h op rd physical)
unfolding loaded
loaded_within words h op rd physical there =
    (word_at_lt words physical there, lit< tt, λ value. kept words h _ 0 [] _ (refl, refl, refl) tt)

reserved_within : (words : ℕ) (h : ArchitecturalState) (wide : Bool) (rd physical : ℕ) → is_ram words physical ≡ true
    → TurnWithin words 1 h (reserved h wide rd physical)
unfolding reserved
reserved_within words h wide rd physical there = (
  word_at_lt words physical there,
  lit< tt,
  λ value. record { stores = tt; held = λ before. there; number = refl; started = refl; stops = tt; effect = tt },
)

conditionally_stored_within : (words : ℕ) (h : ArchitecturalState) (wide : Bool) (rd value physical : ℕ) → is_ram words physical ≡ true
    → TurnWithin words 1 h (conditionally_stored h wide rd value physical)
unfolding conditionally_stored
conditionally_stored_within words h wide rd value physical there =
    either_within words 1 h (is_reserved h.reservation physical (atomic_width wide)) _ _
    (record { stores = (word_at_lt words physical there, tt); held = λ before. tt; number = refl; started = refl; stops = tt; effect = tt })
    (record { stores = tt; held = λ before. tt; number = refl; started = refl; stops = tt; effect = tt })

exchanged_within : (words : ℕ) (h : ArchitecturalState) (x : Exchange) (physical : ℕ) → is_ram words physical ≡ true
    → TurnWithin words 1 h (exchanged h x physical)
unfolding exchanged
exchanged_within words h x physical there = (
  word_at_lt words physical there,
  lit< tt,
  λ value. record { stores = (word_at_lt words physical there, tt); held = λ before. before; number = refl; started = refl; stops = tt; effect = tt },
)

performed_within : (words : ℕ) (h : ArchitecturalState) (op : Operation) (physical : ℕ) → is_ram words physical ≡ true
    → TurnWithin words 1 h (performed h op physical)
unfolding performed
performed_within words h (operation.Load op rd) physical there = loaded_within words h op rd physical there
performed_within words h (operation.Store op value) physical there =
    record { stores = (word_at_lt words physical there, tt); held = λ before. before; number = refl; started = refl; stops = tt; effect = tt }
performed_within words h (operation.LoadReserved wide rd) physical there = reserved_within words h wide rd physical there
performed_within words h (operation.StoreConditional wide rd value) physical there = conditionally_stored_within words h wide rd value physical there
performed_within words h (operation.Atomic exchange) physical there = exchanged_within words h exchange physical there

performed_at_within : (words : ℕ) (h : ArchitecturalState) (op : Operation) (address : ℕ) (location : Location) → IsInPage words address location
    → TurnWithin words 1 h (performed_at h op address location)
performed_at_within words h op address (At physical) (there, offset) = performed_within words h op physical there
performed_at_within words h op address (Refused exception) there = kept words h _ 0 [] _ (refl, refl, refl) tt

-- an operation asks for at most three entries and the word that it goes to
accessed_within : (words : ℕ) (h : ArchitecturalState) (op : Operation) (address : ℕ) → TurnWithin words 4 h (accessed words h op address)
unfolding accessed
accessed_within words h op address =
    either_within words 4 h (is_aligned (width_of op) address) _ _
    (asks_bind words 3 1 4 (IsInPage words address) (OutcomeWithin words h) (located words h (kind_of op) address) (performed_at h op address) (omega arith)
    (located_within words h (kind_of op) address) (performed_at_within words h op address))
    (kept words h _ 0 [] _ (refl, refl, refl) tt)

-- ---- calls to the firmware

-- n words from word w on are asked for, where they are there
bytes_asked_within : (words most : ℕ) (bytes : List ℕ) (w n : ℕ) → n ≤ most → (0 < n → w + n ≤ words)
    → AsksWithin words most (λ bytes. Unit {0}) (bytes_asked bytes w n)
unfolding bytes_asked
bytes_asked_within words most bytes w zero few there = tt
bytes_asked_within words most bytes w (suc n) few there =
    let ends : w + suc n ≤ words = there (omega arith) in (
      omega arith,
      omega arith,
      λ value. bytes_asked_within words (most - 1) (bytes ++ to_le_bytes w64 value) (w + 1) n (omega arith) (λ some. omega arith),
    )

parts_within : (words address : ℕ) (bytes : List ℕ) (w n : ℕ) → (0 < n → w + n ≤ words) → StoresWithin words (parts_stored address bytes w n)
unfolding parts_stored
parts_within words address bytes w zero there = tt
parts_within words address bytes w (suc n) there =
    let ends : w + suc n ≤ words = there (omega arith) in
    (omega arith, parts_within words address bytes (w + 1) n (λ some. omega arith))

pub words_touched_some : (address n : ℕ) → words_touched address (suc n) ≡ (address % 8 + suc n + 7) / 8
words_touched_some address n = grind (arith, nat_tests)

-- bytes in RAM are in words that are there
pub words_fit : (words address n : ℕ) → IsTouched words address n → 0 < words_touched address n → word_at address + words_touched address n ≤ words
words_fit words address zero touched some = omega arith
words_fit words address (suc n) touched some =
    let starts : RAM_START ≤ address = touched.starts (omega arith) in
    let ends : address + suc n ≤ word_address words = touched.ends (omega arith) in
    let count : words_touched address (suc n) ≡ (address % 8 + suc n + 7) / 8 = words_touched_some address n in
    omega arith

words_are_few : (address n : ℕ) → n ≤ MOST_BYTES → words_touched address n ≤ 513
words_are_few address zero few = omega arith
words_are_few address (suc n) few =
    let count : words_touched address (suc n) ≡ (address % 8 + suc n + 7) / 8 = words_touched_some address n in
    omega arith

written_within : (words : ℕ) (h : ArchitecturalState) (address n : ℕ) → IsTouched words address n → n ≤ MOST_BYTES
    → TurnWithin words 513 h (bytes_written h address n)
unfolding bytes_written
written_within words h address n touched few =
    asks_bind words 513 0 513 (λ bytes. Unit {0}) (OutcomeWithin words h) (bytes_asked [] (word_at address) (words_touched address n)) _ (omega arith)
    (bytes_asked_within words 513 [] (word_at address) (words_touched address n) (words_are_few address n few) (words_fit words address n touched))
    (λ bytes _. kept words h _ 0 _ _ (refl, refl, refl) tt)

-- the first of the bytes are in RAM, where all are
pub touched_first : (words address n k : ℕ) → k ≤ n → IsTouched words address n → IsTouched words address k
touched_first words address n k fewer touched = record {
  starts = λ some. touched.starts (omega arith);
  ends = λ some. let ends : address + n ≤ word_address words = touched.ends (omega arith) in omega arith;
}

pub taken_is_few : (n : ℕ) (bytes : List ℕ) → length (take n bytes) ≤ n
taken_is_few n bytes = let e : length (take n bytes) ≡ min n (length bytes) = length-take n bytes in omega arith

read_within : (words : ℕ) (h : ArchitecturalState) (input : List ℕ) (address n : ℕ) → IsTouched words address n
    → TurnWithin words 513 h (bytes_read h input address n)
unfolding bytes_read
read_within words h input address n touched =
    let bytes = take n input in
    record {
      stores =
          parts_within words address bytes (word_at address) (words_touched address (length bytes))
          (words_fit words address (length bytes) (touched_first words address n (length bytes) (taken_is_few n input) touched));
      held = λ before. before;
      number = refl;
      started = refl;
      stops = tt;
      effect = tt;
    }

-- a span is in RAM
touched_by_test : (words n lo : ℕ) → lie_in_ram n lo words ≡ true → IsTouched words lo n
touched_by_test words n lo h = record { starts = λ some. grind (arith, nat_tests); ends = λ some. grind (arith, nat_tests) }

both_right : (a b : Bool) → (a && b) ≡ true → b ≡ true
both_right true b h = h
both_right false b h = cc

span_by : (words most : ℕ) (h : ArchitecturalState) (go_on : ℕ → ℕ → Asking Outcome) (address n : ℕ) (fits : Bool)
    → (fits ≡ true → TurnWithin words most h (go_on address n)) → TurnWithin words most h (with_span h go_on (if fits then Some (address, n) else None))
span_by words most h go_on address n true holds = holds refl
span_by words most h go_on address n false holds = kept words h _ 0 [] _ (refl, refl, refl) tt

span_within : (words most : ℕ) (h : ArchitecturalState) (go_on : ℕ → ℕ → Asking Outcome) (n lo hi : ℕ)
    → ((address count : ℕ) → IsTouched words address count → count ≤ MOST_BYTES → TurnWithin words most h (go_on address count))
    → TurnWithin words most h (with_span h go_on (span_of n lo hi words))
span_within words most h go_on n lo hi each =
    span_by words most h go_on lo (min n MOST_BYTES) ((hi == 0) && lie_in_ram n lo words)
    (λ fits. each lo (min n MOST_BYTES)
    (touched_first words lo n (min n MOST_BYTES) (omega arith) (touched_by_test words n lo (both_right (hi == 0) (lie_in_ram n lo words) fits)))
    (omega arith))

-- a reset stops the machine, but not for a full console
reset_by : (words : ℕ) (h : ArchitecturalState) (kind reason : ℕ) (is_valid is_shutdown : Bool)
    → TurnWithin words 513 h (reset_asked h (if is_valid then (if is_shutdown then Some (Shutdown reason) else Some (Reboot kind)) else None))
reset_by words h kind reason true true =
    record { stores = tt; held = λ before. before; number = refl; started = refl; stops = (λ e. cc, refl, refl, refl, refl); effect = tt }
reset_by words h kind reason true false =
    record { stores = tt; held = λ before. before; number = refl; started = refl; stops = (λ e. cc, refl, refl, refl, refl); effect = tt }
reset_by words h kind reason false is_shutdown = kept words h _ 0 [] _ (refl, refl, refl) tt

byte_within : (words : ℕ) (h : ArchitecturalState) (input : List ℕ) → TurnWithin words 513 h (byte_asked h input)
byte_within words h [] = kept words h _ 0 [] _ (refl, refl, refl) tt
byte_within words h (byte ∷ rest) = kept words h _ 1 [] _ (refl, refl, refl) tt

four_divides : (entry : ℕ) → (entry % 4 == 0) ≡ true → entry % 4 ≡ 0
four_divides entry h = grind (arith, nat_tests)

entry_within : (words : ℕ) (h : ArchitecturalState) (id entry opaque : ℕ) (fits : Bool) → (fits ≡ true → entry % 4 ≡ 0)
    → TurnWithin words 513 h (if not fits then went (refused h InvalidAddress) else acting (answered h 0) (Start id entry opaque))
entry_within words h id entry opaque true aligned = kept words h _ 0 [] _ (refl, refl, refl) (aligned refl)
entry_within words h id entry opaque false aligned = kept words h _ 0 [] _ (refl, refl, refl) tt

start_within : (around : Around) (h : ArchitecturalState) (id entry opaque : ℕ) → TurnWithin around.words 513 h (start_asked around h id entry opaque)
unfolding start_asked
start_within around h id entry opaque =
    let words = around.words in
    either_within words 513 h (not (nat_lt id around.peers.harts)) _ _ (kept words h _ 0 [] _ (refl, refl, refl) tt)
    (either_within words 513 h (has_bit around.peers.started id) _ _ (kept words h _ 0 [] _ (refl, refl, refl) tt)
    (entry_within words h id entry opaque (is_ram words entry && (entry % 4 == 0)) (λ fits. four_divides entry (both_right (is_ram words entry) (entry % 4 == 0) fits))))

status_within : (around : Around) (h : ArchitecturalState) (id : ℕ) → TurnWithin around.words 513 h (status_asked around h id)
unfolding status_asked
status_within around h id =
    either_within around.words 513 h (nat_lt id around.peers.harts) _ _ (kept around.words h _ 0 [] _ (refl, refl, refl) tt)
    (kept around.words h _ 0 [] _ (refl, refl, refl) tt)

interrupts_within : (around : Around) (h : ArchitecturalState) (harts : Option ℕ) → TurnWithin around.words 513 h (interrupts_sent around h harts)
interrupts_within around h None = kept around.words h _ 0 [] _ (refl, refl, refl) tt
interrupts_within around h (Some harts) = kept around.words h _ 0 [] _ (refl, refl, refl) tt

served_within : (around : Around) (h : ArchitecturalState) (call : SbiCall) → TurnWithin around.words 513 h (served around h call)
unfolding served
served_within around h (call.Base function) = kept around.words h _ 0 [] _ (refl, refl, refl) tt
served_within around h (call.Probe extension) = kept around.words h _ 0 [] _ (refl, refl, refl) tt
served_within around h (call.SetTimer time) = kept around.words h _ 0 [] _ (refl, refl, refl) tt
served_within around h (call.LegacyTimer time) = kept around.words h _ 0 [] _ (refl, refl, refl) tt
served_within around h (call.Putchar byte) = kept around.words h _ 0 _ _ (refl, refl, refl) tt
served_within around h call.Getchar = byte_within around.words h around.input
served_within around h call.LegacyShutdown =
    record { stores = tt; held = λ before. before; number = refl; started = refl; stops = (λ e. cc, refl, refl, refl, refl); effect = tt }
served_within around h (call.Reset kind reason) = reset_by around.words h kind reason (nat_le kind 2 && nat_le reason 1) (kind == 0)
served_within around h (call.ConWrite n lo hi) = span_within around.words 513 h (bytes_written h) n lo hi (written_within around.words h)
served_within around h (call.ConRead n lo hi) =
    span_within around.words 513 h (bytes_read h around.input) n lo hi (λ address count touched few. read_within around.words h around.input address count touched)
served_within around h (call.ConByte byte) = kept around.words h _ 0 _ _ (refl, refl, refl) tt
served_within around h (call.HartStart id entry opaque) = start_within around h id entry opaque
served_within around h call.HartStop = kept around.words h _ 0 [] _ (refl, refl, refl) tt
served_within around h (call.HartStatus id) = status_within around h id
served_within around h (call.SendIpi mask base) = interrupts_within around h (harts_of_mask mask base around.peers.harts)
served_within around h call.Unknown = kept around.words h _ 0 [] _ (refl, refl, refl) tt

-- a call to the firmware asks for at most the words of as many bytes as one call takes
firmware_called_within : (around : Around) (h : ArchitecturalState) → TurnWithin around.words 513 h (firmware_called around h)
unfolding firmware_called
firmware_called_within around h = served_within around h (call_of h.registers)

-- ---- every instruction

called_in_within : (around : Around) (h : ArchitecturalState) (mode : Mode) → TurnWithin around.words 513 h (called_in mode around h)
called_in_within around h User = kept around.words h _ 0 [] _ (refl, refl, refl) tt
called_in_within around h Supervisor = firmware_called_within around h

called_within : (around : Around) (h : ArchitecturalState) → TurnWithin around.words 513 h (called around h)
unfolding called
called_within around h = called_in_within around h h.mode

few_accessed : (words : ℕ) (h : ArchitecturalState) (op : Operation) (address : ℕ) → TurnWithin words 513 h (accessed words h op address)
few_accessed words h op address =
    asks_more words 4 513 (OutcomeWithin words h) (accessed words h op address) (omega arith) (accessed_within words h op address)

executed_within : (around : Around) (h : ArchitecturalState) (word : ℕ) (instr : Instr) → TurnWithin around.words 513 h (executed around h word instr)
unfolding executed
executed_within around h word (instr.Lui rd imm) = kept around.words h _ 0 [] _ (refl, refl, refl) tt
executed_within around h word (instr.Auipc rd imm) = kept around.words h _ 0 [] _ (refl, refl, refl) tt
executed_within around h word (instr.Jal rd off) = kept around.words h _ 0 [] _ (jumped_stays h _ _) tt
executed_within around h word (instr.Jalr rd rs1 imm) = kept around.words h _ 0 [] _ (jumped_stays h _ _) tt
executed_within around h word (instr.Branch op rs1 rs2 off) = kept around.words h _ 0 [] _ (branched_stays h _ _) tt
executed_within around h word (instr.Load op rd rs1 imm) = few_accessed around.words h (operation.Load op rd) _
executed_within around h word (instr.Store op rs1 rs2 imm) = few_accessed around.words h (operation.Store op _) _
executed_within around h word (instr.AluImm op rd rs1 imm) = kept around.words h _ 0 [] _ (refl, refl, refl) tt
executed_within around h word (instr.AluWImm op rd rs1 imm) = kept around.words h _ 0 [] _ (refl, refl, refl) tt
executed_within around h word (instr.Alu op rd rs1 rs2) = kept around.words h _ 0 [] _ (refl, refl, refl) tt
executed_within around h word (instr.AluW op rd rs1 rs2) = kept around.words h _ 0 [] _ (refl, refl, refl) tt
executed_within around h word (instr.Mul op rd rs1 rs2) = kept around.words h _ 0 [] _ (refl, refl, refl) tt
executed_within around h word (instr.Fence rd rs1 imm) = kept around.words h _ 0 [] _ (refl, refl, refl) tt
executed_within around h word (instr.FenceI rd rs1 imm) = kept around.words h _ 0 [] _ (refl, refl, refl) tt
executed_within around h word instr.Ecall = called_within around h
executed_within around h word instr.Ebreak = kept around.words h _ 0 [] _ (refl, refl, refl) tt
executed_within around h word instr.Sret = kept around.words h _ 0 [] _ (trap_returned_stays h word) tt
executed_within around h word instr.Wfi = kept around.words h _ 0 [] _ (privileged_stays h word) tt
executed_within around h word (instr.SfenceVma rs1 rs2) = kept around.words h _ 0 [] _ (privileged_stays h word) tt
executed_within around h word (instr.Csr op rd csr src) = kept around.words h _ 0 [] _ (csr_done_stays h around.now word op rd csr src) tt
executed_within around h word (instr.LoadReserved wide aq rl rd rs1) = few_accessed around.words h (operation.LoadReserved wide rd) _
executed_within around h word (instr.StoreCond wide aq rl rd rs1 rs2) = few_accessed around.words h (operation.StoreConditional wide rd _) _
executed_within around h word (instr.Amo op wide aq rl rd rs1 rs2) = few_accessed around.words h (operation.Atomic _) _
executed_within around h word (instr.Illegal x) = kept around.words h _ 0 [] _ (refl, refl, refl) tt

executed_word_within : (around : Around) (h : ArchitecturalState) (word : ℕ) → TurnWithin around.words 513 h (executed_word around h word)
unfolding executed_word
executed_word_within around h word = executed_within around h word (row word)

fetched_at_within : (around : Around) (h : ArchitecturalState) (address : ℕ) (location : Location) → IsInPage around.words address location
    → TurnWithin around.words 514 h (fetched_at around h location)
unfolding fetched_at
fetched_at_within around h address (Refused exception) there = kept around.words h _ 0 [] _ (refl, refl, refl) tt
fetched_at_within around h address (At physical) (there, offset) =
    (word_at_lt around.words physical there, lit< tt, λ value. executed_word_within around h (instruction_at h.pc value))

instruction_turn_within : (around : Around) (h : ArchitecturalState) → TurnWithin around.words 600 h (instruction_turn around h)
unfolding instruction_turn
instruction_turn_within around h =
    asks_bind around.words 3 514 600 (IsInPage around.words h.pc) (OutcomeWithin around.words h) (located around.words h Access.Fetch h.pc) (fetched_at around h) (omega arith)
    (located_within around.words h Access.Fetch h.pc) (fetched_at_within around h h.pc)

turn_by_within : (started : Bool) (interrupt : Option ℕ) (around : Around) (h : ArchitecturalState)
    → TurnWithin around.words 600 h (turn_by started interrupt around h)
turn_by_within false interrupt around h = kept around.words h _ 0 [] _ (refl, refl, refl) tt
turn_by_within true (Some cause) around h = kept around.words h _ 0 [] _ (refl, refl, refl) tt
turn_by_within true None around h = instruction_turn_within around h

-- A turn asks for at most 600 words. Each word that it asks for or stores is there, a reservation stays in RAM, the hart keeps its
-- number and is as started as before, and a stop changes the pc alone.
pub turn_within : (around : Around) (h : ArchitecturalState) → TurnWithin around.words 600 h (turn around h)
unfolding turn
turn_within around h = turn_by_within h.started (pending_of h.csrs around.now h.mode) around h
