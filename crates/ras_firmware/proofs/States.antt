-- The records of the banks, one after the other.
use Rattle.std.proofs.Common.{◌≡◌, ◌≢◌, ℕ, zero, suc, ◌+◌, ◌-◌, ◌<◌, ◌==◌, Bool, true, false, cond, List, [], ◌∷◌, ◌++◌, length, map, take, Option, Some, None, IfSome, is_some, replicate, refl, subst, sym, ap, ◌∙◌, arith}
use Rattle.std.specs.Prelude.{slice_index_or, slice_set}
use Rattle.std.specs.List.{AllByRecursion, filter_map, cons_option, fold}
use Rattle.std.specs.Option.{option_to_list}
use Rattle.std.proofs.lemmas.List.{append-nil, take_more, length-set, get_or-set_same, get_or-set_other}
use Rattle.std.proofs.lemmas.List.Elements.{filter_map-append}
use Rattle.std.proofs.lemmas.List.Sums.{fold_more}
use Rattle.poison_mem.specs.RecordId.{bank_number, record_number, all_records}
use Rattle.poison_mem.specs.declared.event.RecordView.{RecordView}
use Rattle.poison_mem.specs.declared.record_id.RecordId.{RecordId}
use Rattle.poison_mem.specs.declared.record_id.RecordId.TheVariants.{Read, Scrub, L1, L2, Hart}
use Rattle.reri_bank.specs.Bank.{record_at, with_record}
use Rattle.reri_bank.specs.Banks.{bank_at, with_bank}
use Rattle.reri_bank.specs.BankState.{BankState}
use Rattle.reri_bank.specs.BanksState.{BanksState}
use Rattle.reri_bank.specs.State.{state_marked}
use Rattle.reri_bank.specs.StateAt.{state_at}
use Rattle.reri_bank.specs.declared.state.RecState.{RecState}
use Rattle.ras_firmware.specs.Drain.{is_signalled, note_of, marked, emission, cleared, with_state}
use Rattle.ras_firmware.proofs.Views.{all-append}
use Rattle.poison_mem.specs.RecordView.{IsListedView}
use Rattle.ras_firmware.specs.Notes.{Notes, note_at, index_of, IsNote, AreNotes}

-- ---- one record

pub with_state_same : (b : BanksState) (id : RecordId) (f g : RecState → RecState) → f (state_at b id) ≡ g (state_at b id) → with_state b id f ≡ with_state b id g
with_state_same b Read f g h = rw h refl
with_state_same b Scrub f g h = rw h refl
with_state_same b L1 f g h = rw h refl
with_state_same b L2 f g h = rw h refl
with_state_same b Hart f g h = rw h refl

pub with_state_kept : (b : BanksState) (id : RecordId) → with_state b id (λ s. s) ≡ b
with_state_kept b Read = refl
with_state_kept b Scrub = refl
with_state_kept b L1 = refl
with_state_kept b L2 = refl
with_state_kept b Hart = refl

pub state_read : (b : BanksState) (id : RecordId) → record_at (bank_at b (bank_number id)) (record_number id) ≡ state_at b id
state_read b Read = refl
state_read b Scrub = refl
state_read b L1 = refl
state_read b L2 = refl
state_read b Hart = refl

-- the state of a record as the code reads it
pub read_at : (b : BanksState) (id : RecordId) (bank rec : ℕ) (k : BankState) → bank ≡ bank_number id → rec ≡ record_number id → k ≡ bank_at b bank → record_at k rec ≡ state_at b id
read_at b id bank rec k is same at = ap (λ j. record_at j rec) at ∙ ap (λ n. record_at (bank_at b n) rec) is ∙ ap (λ n. record_at (bank_at b (bank_number id)) n) same ∙ state_read b id

-- a change of a record as the code makes it
pub changed_as : (b c : BanksState) (id : RecordId) (bank rec : ℕ) (f : RecState → RecState) → bank ≡ bank_number id → rec ≡ record_number id
    → c ≡ with_bank b bank (λ k. with_record k rec f) → c ≡ with_state b id f
changed_as b c id bank rec f is same h = h ∙ ap (λ n. with_bank b n (λ k. with_record k rec f)) is ∙ ap (λ n. with_bank b (bank_number id) (λ k. with_record k n f)) same

noted_marked : (s : RecState) (n : Option RecordView) → n ≡ note_of s → is_some n ≡ true → state_marked s ≡ marked s
noted_marked s n h some = by_signal (is_signalled s.kept s.control) (ap is_some (sym h) ∙ some)
  where
    by_signal : (b : Bool) → is_some (cond b s.kept None) ≡ true → state_marked s ≡ cond b (state_marked s) s
    by_signal true g = refl
    by_signal false g = cc

unnoted_kept : (s : RecState) (n : Option RecordView) → n ≡ note_of s → is_some n ≡ false → s ≡ marked s
unnoted_kept s n h none = by_kept s.kept refl
  where
    by_signal : (k : Option RecordView) (b : Bool) → s.kept ≡ k → is_some (cond b k None) ≡ false → is_signalled k s.control ≡ b → s ≡ cond b (state_marked s) s
    by_signal k false is g e = refl
    by_signal None true is g e = cc
    by_signal (Some v) true is g e = cc

    by_kept : (k : Option RecordView) → s.kept ≡ k → s ≡ marked s
    by_kept k is = by_signal s.kept (is_signalled s.kept s.control) refl (ap is_some (sym h) ∙ none) refl

pub marked_with : (b c : BanksState) (id : RecordId) (n : Option RecordView) → n ≡ note_of (state_at b id) → is_some n ≡ true → c ≡ with_state b id state_marked → c ≡ with_state b id marked
marked_with b c id n h some is = is ∙ with_state_same b id state_marked marked (noted_marked (state_at b id) n h some)

pub marked_without : (b : BanksState) (id : RecordId) (n : Option RecordView) → n ≡ note_of (state_at b id) → is_some n ≡ false → b ≡ with_state b id marked
marked_without b id n h none = sym (with_state_kept b id) ∙ with_state_same b id (λ s. s) marked (unnoted_kept (state_at b id) n h none)

-- ---- the first of all records

-- the record at a place
abbrev pub nth : ℕ → RecordId
nth i = slice_index_or all_records i Read

-- the banks with the first records changed
abbrev pub changed_first : (RecordId → RecState → RecState) → ℕ → BanksState → BanksState
changed_first change i b = fold (λ c id. with_state c id (change id)) b (take i all_records)

-- a place of all records is read with any default
pub nth_read : (i : ℕ) (d : RecordId) → i < 5 → slice_index_or all_records i d ≡ nth i
nth_read zero d h = refl
nth_read (suc zero) d h = refl
nth_read (suc (suc zero)) d h = refl
nth_read (suc (suc (suc zero))) d h = refl
nth_read (suc (suc (suc (suc zero)))) d h = refl
nth_read (suc (suc (suc (suc (suc n))))) d h = absurd (omega arith)

pub untouched : (change : RecordId → RecState → RecState) (i : ℕ) (b : BanksState) → i < 5 → state_at (changed_first change i b) (nth i) ≡ state_at b (nth i)
untouched change zero b h = refl
untouched change (suc zero) b h = refl
untouched change (suc (suc zero)) b h = refl
untouched change (suc (suc (suc zero))) b h = refl
untouched change (suc (suc (suc (suc zero)))) b h = refl
untouched change (suc (suc (suc (suc (suc n))))) b h = absurd (omega arith)

pub changed_more : (change : RecordId → RecState → RecState) (i : ℕ) (b c d : BanksState) (id : RecordId) → i < 5 → id ≡ nth i → c ≡ changed_first change i b → d ≡ with_state c id (change id)
    → d ≡ changed_first change (i + 1) b
changed_more change i b c d id h is at step =
    step ∙ ap (λ e. with_state e id (change id)) at ∙ ap (λ p. with_state (changed_first change i b) p (change p)) is ∙ sym (fold_more (λ c id. with_state c id (change id)) b all_records i Read h)

-- ---- notes

pub index_is : (i : ℕ) → i < 5 → index_of (nth i) ≡ i
index_is zero h = refl
index_is (suc zero) h = refl
index_is (suc (suc zero)) h = refl
index_is (suc (suc (suc zero))) h = refl
index_is (suc (suc (suc (suc zero)))) h = refl
index_is (suc (suc (suc (suc (suc n))))) h = absurd (omega arith)

index_back : (id : RecordId) → nth (index_of id) ≡ id
index_back Read = refl
index_back Scrub = refl
index_back L1 = refl
index_back L2 = refl
index_back Hart = refl

index_small : (id : RecordId) → index_of id < 5
index_small Read = omega arith
index_small Scrub = omega arith
index_small L1 = omega arith
index_small L2 = omega arith
index_small Hart = omega arith

-- notes with one of a record are notes
pub noted : (notes : Notes) (id : RecordId) (i : ℕ) (v : Option RecordView) → AreNotes notes → i ≡ index_of id → IfSome v (IsNote (bank_number id) (record_number id)) → AreNotes (slice_set notes i v)
noted notes id i v h is note = record {
  count = length-set notes i v ∙ h.count;
  each = λ q. by_index q (index_of q == i) refl;
}
  where
    by_index : (q : RecordId) (b : Bool) → (index_of q == i) ≡ b → IfSome (note_at (slice_set notes i v) q) (IsNote (bank_number q) (record_number q))
    by_index q true e =
        let same : index_of q ≡ i = grind (arith, e) in
        let one : q ≡ id = sym (index_back q) ∙ ap nth (same ∙ is) ∙ index_back id in
        let there : i < length notes = omega (arith, h.count, index_small id, is) in
        subst (λ o. IfSome o (IsNote (bank_number q) (record_number q))) (sym (ap (λ n. slice_index_or (slice_set notes i v) n None) same ∙ get_or-set_same notes i v None there))
        (subst (λ (p : RecordId). IfSome v (IsNote (bank_number p) (record_number p))) (sym one) note)
    by_index q false e =
        let other : index_of q ≢ i = grind (arith, e) in
        subst (λ o. IfSome o (IsNote (bank_number q) (record_number q))) (sym (get_or-set_other notes i (index_of q) v None other)) (h.each q)

-- the notes of the first records, and none of the others
abbrev pub notes_first : ℕ → BanksState → Notes
notes_first i b = map (λ id. note_of (state_at b id)) (take i all_records) ++ replicate (5 - i) None

set_first : (i : ℕ) (b : BanksState) → i < 5 → slice_set (notes_first i b) i (note_of (state_at b (nth i))) ≡ notes_first (i + 1) b
set_first zero b h = refl
set_first (suc zero) b h = refl
set_first (suc (suc zero)) b h = refl
set_first (suc (suc (suc zero))) b h = refl
set_first (suc (suc (suc (suc zero)))) b h = refl
set_first (suc (suc (suc (suc (suc n))))) b h = absurd (omega arith)

pub noted_more : (i : ℕ) (b : BanksState) (notes notes' : Notes) (id : RecordId) (v : Option RecordView) → i < 5 → id ≡ nth i → notes ≡ notes_first i b → v ≡ note_of (state_at b id)
    → notes' ≡ slice_set notes i v → notes' ≡ notes_first (i + 1) b
noted_more i b notes notes' id v h is at note set =
    set ∙ ap (λ l. slice_set l i v) at ∙ ap (λ o. slice_set (notes_first i b) i o) (note ∙ ap (λ p. note_of (state_at b p)) is) ∙ set_first i b h

-- ---- views

as_list : (o : Option RecordView) → option_to_list o ≡ cons_option o []
as_list None = refl
as_list (Some v) = refl

-- what the first records give, and one more
pub given_more : (f : RecordId → Option RecordView) (i : ℕ) (id : RecordId) (xs xs' : List RecordView) (o : Option RecordView) → i < 5 → id ≡ nth i
    → xs ≡ filter_map f (take i all_records) → o ≡ f id → xs' ≡ xs ++ option_to_list o → xs' ≡ filter_map f (take (i + 1) all_records)
given_more f i id xs xs' o h is at gives more =
    more ∙ ap (λ l. l ++ option_to_list o) at
    ∙ ap (λ l. filter_map f (take i all_records) ++ l) (as_list o ∙ ap (λ p. cons_option p []) (gives ∙ ap f is))
    ∙ sym (ap (filter_map f) (take_more all_records i Read h) ∙ filter_map-append f (take i all_records) (nth i ∷ []))

-- a list with no view more, and with one
pub none_given : (xs xs' : List RecordView) (o : Option RecordView) → xs' ≡ xs → o ≡ None → xs' ≡ xs ++ option_to_list o
none_given xs xs' o h k = h ∙ sym (append-nil xs) ∙ ap (λ p. xs ++ option_to_list p) (sym k)

pub some_given : (xs xs' : List RecordView) (o : Option RecordView) (v : RecordView) → xs' ≡ xs ++ v ∷ [] → o ≡ Some v → xs' ≡ xs ++ option_to_list o
some_given xs xs' o v h k = h ∙ ap (λ p. xs ++ option_to_list p) (sym k)

-- ---- the drain's loops

abbrev pub clearing : Notes → RecordId → RecState → RecState
clearing notes id = cleared (note_at notes id)

-- one more record is cleared
pub cleared_more : (notes : Notes) (i : ℕ) (b c d : BanksState) (id : RecordId) (n : Option RecordView) → i < 5 → id ≡ nth i → n ≡ note_at notes id
    → c ≡ changed_first (clearing notes) i b → d ≡ with_state c id (cleared n) → d ≡ changed_first (clearing notes) (i + 1) b
cleared_more notes i b c d id n h is note at step = changed_more (clearing notes) i b c d id h is at (step ∙ ap (λ o. with_state c id (cleared o)) note)

-- what it emits is what it would have emitted first
pub emitted_of : (notes : Notes) (i : ℕ) (b c : BanksState) (id : RecordId) (n o : Option RecordView) → i < 5 → id ≡ nth i → n ≡ note_at notes id
    → c ≡ changed_first (clearing notes) i b → o ≡ emission n (state_at c id) → o ≡ emission (note_at notes id) (state_at b id)
emitted_of notes i b c id n o h is note at gives =
    gives ∙ ap (λ m. emission m (state_at c id)) note
    ∙ ap (λ s. emission (note_at notes id) s) (ap (λ d. state_at d id) at ∙ ap (λ p. state_at (changed_first (clearing notes) i b) p) is ∙ untouched (clearing notes) i b h ∙ ap (λ p. state_at b p) (sym is))

-- a view more that is listed
pub listed_more : (xs ys : List RecordView) (v : RecordView) → ys ≡ xs ++ v ∷ [] → AllByRecursion IsListedView xs → IsListedView v → AllByRecursion IsListedView ys
listed_more xs ys v h all one = subst (AllByRecursion IsListedView) (sym h) (all-append IsListedView xs (v ∷ []) all (one, tt))

-- what a mark notes of a record is what it would have noted first
pub noted_of : (i : ℕ) (b c : BanksState) (id : RecordId) (n : Option RecordView) → i < 5 → id ≡ nth i → c ≡ changed_first (λ id. marked) i b → n ≡ note_of (state_at c id) → n ≡ note_of (state_at b id)
noted_of i b c id n h is at notes =
    notes ∙ ap note_of (ap (λ d. state_at d id) at ∙ ap (λ p. state_at (changed_first (λ id. marked) i b) p) is ∙ untouched (λ id. marked) i b h ∙ ap (λ p. state_at b p) (sym is))
