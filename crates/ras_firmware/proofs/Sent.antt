-- The views that were emitted, by the records that they name.
use Rattle.std.proofs.Common.{◌≡◌, ℕ, ◌+◌, ◌-◌, ◌^◌, ◌<◌, ◌≤◌, min, nat_lt, Bool, true, false, cond, List, [], ◌∷◌, ◌++◌, length, take, Option, Some, None, IfSome, refl, subst, sym, ap, ◌∙◌, arith, length-append, append_assoc}
use Rattle.std.proofs.lemmas.List.{append-nil, take-append-le, take_all, length-take-le}
use Rattle.std.specs.Option.{option_to_list}
use Rattle.poison_mem.specs.declared.event.RecordView.{RecordView}
use Rattle.reri_bank.specs.Views.{IsOf}
use Rattle.reri_bank.specs.StateAt.{is_record}
use Rattle.ras_firmware.specs.Records.{KeptState, with_view, with_all, first_views}
use Rattle.ras_firmware.specs.Sent.{those_of}
use Rattle.poison_mem.specs.RecordId.{bank_number, record_number, all_records}
use Rattle.poison_mem.specs.declared.record_id.RecordId.{RecordId}
use Rattle.poison_mem.specs.declared.record_id.RecordId.TheVariants.{Read, Scrub, L1, L2, Hart}
use Rattle.std.specs.List.{AllByRecursion, cons_option, filter_map, flat_map}
use Rattle.std.proofs.lemmas.List.Elements.{filter-append}
use Rattle.ras_firmware.specs.declared.records.TheConstants.{MOST_RECORDS}
use Rattle.ras_firmware.proofs.Views.{all-append}
use Rattle.std.specs.Prelude.{sum_by}

-- what is shown of a record names it
abbrev pub Named : RecordId → Option RecordView → Type 0
Named q o = IfSome o (λ v. IsOf (bank_number q) (record_number q) v.kept)

-- it names a record
abbrev pub NamesOne : RecordView → Type 0
NamesOne v = (q : RecordId) × IsOf (bank_number q) (record_number q) v.kept

pub those_of-append : (p : RecordId) (xs ys : List RecordView) → those_of p (xs ++ ys) ≡ those_of p xs ++ those_of p ys
those_of-append p xs ys = filter-append (λ (v : RecordView). is_record v.kept.bank v.kept.rec p) xs ys

both_parts : (p : RecordId) (xs ys xs' ys' : List RecordView) → those_of p xs ≡ xs' → those_of p ys ≡ ys' → those_of p (xs ++ ys) ≡ xs' ++ ys'
both_parts p xs ys xs' ys' h k = those_of-append p xs ys ∙ ap (λ l. l ++ those_of p ys) h ∙ ap (λ l. xs' ++ l) k

-- a view of each of these records
given : (RecordId → Option RecordView) → RecordId → RecordId → List RecordView
given f p q = cond (is_record (bank_number q) (record_number q) p) (option_to_list (f q)) []

consed : (o : Option RecordView) (xs : List RecordView) → cons_option o xs ≡ option_to_list o ++ xs
consed None xs = refl
consed (Some v) xs = refl

one_at : (p q : RecordId) (o : Option RecordView) → Named q o → those_of p (option_to_list o) ≡ cond (is_record (bank_number q) (record_number q) p) (option_to_list o) []
one_at p q None h = by_name (is_record (bank_number q) (record_number q) p)
  where
    by_name : (b : Bool) → (let none : List RecordView = [] in none) ≡ cond b [] []
    by_name true = refl
    by_name false = refl
one_at p q (Some v) h = rw (h.bank_is, h.rec_is) refl

parted : (f : RecordId → Option RecordView) → ((q : RecordId) → Named q (f q)) → (p : RecordId) (ids : List RecordId) → those_of p (filter_map f ids) ≡ flat_map (given f p) ids
unfolding given
parted f named p [] = refl
parted f named p (q ∷ ids) = ap (those_of p) (consed (f q) (filter_map f ids)) ∙ both_parts p (option_to_list (f q)) (filter_map f ids) _ _ (one_at p q (f q) (named q)) (parted f named p ids)

-- of one view of each record those of a record are its own
pub each_at : (f : RecordId → Option RecordView) → ((q : RecordId) → Named q (f q)) → (p : RecordId) → those_of p (filter_map f all_records) ≡ option_to_list (f p)
unfolding given
each_at f named p = parted f named p all_records ∙ only p
  where
    only : (r : RecordId) → flat_map (given f r) all_records ≡ option_to_list (f r)
    only Read = append-nil _
    only Scrub = append-nil _
    only L1 = append-nil _
    only L2 = append-nil _
    only Hart = append-nil _

one_placed : (q : RecordId) (o : Option RecordView) → Named q o → AllByRecursion NamesOne (option_to_list o)
one_placed q None h = tt
one_placed q (Some v) h = ((q, h), tt)

pub each_placed : (f : RecordId → Option RecordView) → ((q : RecordId) → Named q (f q)) → (ids : List RecordId) → AllByRecursion NamesOne (filter_map f ids)
each_placed f named [] = tt
each_placed f named (q ∷ ids) =
    subst (AllByRecursion NamesOne) (sym (consed (f q) (filter_map f ids)))
    (all-append NamesOne (option_to_list (f q)) (filter_map f ids) (one_placed q (f q) (named q)) (each_placed f named ids))

-- one view of each record at most
pub few_given : (f : RecordId → Option RecordView) (ids : List RecordId) → length (filter_map f ids) ≤ length ids
few_given f [] = omega arith
few_given f (q ∷ ids) = one_more (f q) (few_given f ids)
  where
    one_more : (o : Option RecordView) → length (filter_map f ids) ≤ length ids → length (cons_option o (filter_map f ids)) ≤ length (q ∷ ids)
    one_more None h = omega (arith, h)
    one_more (Some v) h = omega (arith, h)

more_at : (p : RecordId) (v : RecordView) (vs : List RecordView) → length (those_of p (v ∷ vs)) ≡ length (those_of p vs) + cond (is_record v.kept.bank v.kept.rec p) 1 0
more_at p v vs = by_name (is_record v.kept.bank v.kept.rec p)
  where
    by_name : (b : Bool) → length (cond b (v ∷ those_of p vs) (those_of p vs)) ≡ length (those_of p vs) + cond b 1 0
    by_name true = omega arith
    by_name false = omega arith

one_record : (q : RecordId) (v : RecordView) → IsOf (bank_number q) (record_number q) v.kept → sum_by (λ id. cond (is_record v.kept.bank v.kept.rec id) 1 0) all_records ≡ 1
one_record Read v h = rw (h.bank_is, h.rec_is) refl
one_record Scrub v h = rw (h.bank_is, h.rec_is) refl
one_record L1 v h = rw (h.bank_is, h.rec_is) refl
one_record L2 v h = rw (h.bank_is, h.rec_is) refl
one_record Hart v h = rw (h.bank_is, h.rec_is) refl

pub count_by_record : (vs : List RecordView) → AllByRecursion NamesOne vs → length vs ≡ sum_by (λ id. length (those_of id vs)) all_records
count_by_record [] h = omega arith
count_by_record (v ∷ vs) h =
    let rest = count_by_record vs h.1 in
    let one = one_record h.0.0 v h.0.1 in
    omega (arith, rest, one, more_at Read v vs, more_at Scrub v vs, more_at L1 v vs, more_at L2 v vs, more_at Hart v vs)

-- the first views of as many, and one view more
abbrev first_in : ℕ → ℕ → List RecordView → KeptState
first_in room most vs = record { views = take room vs; left_out = min (length vs - room) most }

abbrev view_in : ℕ → ℕ → KeptState → RecordView → KeptState
view_in room most r view =
    cond (nat_lt (length r.views) room) (record { views = r.views ++ view ∷ []; left_out = r.left_out })
    (record { views = r.views; left_out = min (r.left_out + 1) most })

same_kept : (xs ys : List RecordView) (n m : ℕ) → xs ≡ ys → n ≡ m → (let left : KeptState = record { views = xs; left_out = n } in left) ≡ record { views = ys; left_out = m }
same_kept xs ys n m h k = cc

chosen : (b : Bool) (xs ys : List RecordView) (n m : ℕ) (c : Bool) → b ≡ c
    → (let left : KeptState = cond b (record { views = xs; left_out = n }) (record { views = ys; left_out = m }) in left) ≡ cond c (record { views = xs; left_out = n }) (record { views = ys; left_out = m })
chosen b xs ys n m c h = ap (λ (d : Bool). let r : KeptState = cond d (record { views = xs; left_out = n }) (record { views = ys; left_out = m }) in r) h

one_more_in : (room most : ℕ) (vs : List RecordView) (v : RecordView) → view_in room most (first_in room most vs) v ≡ first_in room most (vs ++ v ∷ [])
one_more_in room most vs v = by_room (nat_lt (length vs) room) refl
  where
    longer : length (vs ++ v ∷ []) ≡ length vs + 1
    longer = length-append vs (v ∷ [])

    by_room : (b : Bool) → nat_lt (length vs) room ≡ b → view_in room most (first_in room most vs) v ≡ first_in room most (vs ++ v ∷ [])
    by_room true h =
        let below : length vs < room = grind arith in
        let all : take room vs ≡ vs = take_all room vs (omega arith) in
        let all_more : take room (vs ++ v ∷ []) ≡ vs ++ v ∷ [] = take_all room (vs ++ v ∷ []) (omega (arith, longer)) in
        let fits : nat_lt (length (take room vs)) room ≡ true = ap (λ xs. nat_lt (length xs) room) all ∙ h in
        chosen (nat_lt (length (take room vs)) room) (take room vs ++ v ∷ []) (take room vs) (min (length vs - room) most) (min (min (length vs - room) most + 1) most) true fits
        ∙ same_kept _ _ _ _ (ap (λ xs. xs ++ v ∷ []) all ∙ sym all_more) (omega (arith, longer, below))
    by_room false h =
        let above : room ≤ length vs = grind arith in
        let first : take room (vs ++ v ∷ []) ≡ take room vs = take-append-le room vs (v ∷ []) above in
        let whole : length (take room vs) ≡ room = length-take-le room vs above in
        let full : nat_lt (length (take room vs)) room ≡ false = ap (λ n. nat_lt n room) whole ∙ grind arith in
        chosen (nat_lt (length (take room vs)) room) (take room vs ++ v ∷ []) (take room vs) (min (length vs - room) most) (min (min (length vs - room) most + 1) most) false full
        ∙ same_kept _ _ _ _ (sym first) (omega (arith, longer, above))

one_more : (vs : List RecordView) (v : RecordView) → with_view (first_views vs) v ≡ first_views (vs ++ v ∷ [])
one_more vs v = one_more_in MOST_RECORDS (2 ^ 64 - 1) vs v

pub with_first : (more vs : List RecordView) → with_all (first_views vs) more ≡ first_views (vs ++ more)
with_first [] vs = ap first_views (sym (append-nil vs))
with_first (v ∷ more) vs =
    ap (λ (r : KeptState). with_all r more) (one_more vs v) ∙ with_first more (vs ++ v ∷ []) ∙ ap first_views (append_assoc vs (v ∷ []) more)
