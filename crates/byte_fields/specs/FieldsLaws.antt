-- What is read of the bytes of a format, wherever it begins and whatever follows it.
use Rattle.std.proofs.Common.{◌≡◌, ℕ, zero, suc, ◌+◌, ◌-◌, ◌<◌, ◌≤◌, ◌^◌, Bool, true, false, ◌&&◌, List, [], ◌∷◌, ◌++◌, length, take, drop, Some, refl, sym, ap, subst, ◌∙◌, append_assoc, arith}
use Rattle.std.specs.Prelude.{nat_le, slice_get}
use Rattle.std.specs.List.{AllByRecursion}
use Rattle.std.proofs.lemmas.Bool.{leb-true}
use Rattle.std.proofs.lemmas.List.{length-append, length-replicate, append-nil, drop-drop, take-append-drop}
use Rattle.std.proofs.Math.Seq.{drop-append_seam, take-append_seam}
use Rattle.byteorder.specs.Numbers.{length-bytes_low_first, little_from-append, little_number-reads_back}
use Rattle.byteorder.specs.Endian.{little_number}
use Rattle.ras_bits.specs.Fields.{number_at}
use Rattle.byte_fields.specs.declared.slot.Slot.{Slot}
use Rattle.byte_fields.specs.Fields.{little, zeros, bytes_at, padded, Content, Number, Bytes, Field, number_field, bytes_field, content_bytes, with_slot, with_slots, laid_out, number_in, bytes_in, StandsAtSlot, fit_between, HasWidth, HaveWidths}

pub length-little : (width value : ℕ) → length (little width value) ≡ width
unfolding little
length-little width value = length-bytes_low_first 0 width value

pub length-zeros : (n : ℕ) → length (zeros n) ≡ n
unfolding zeros
length-zeros n = length-replicate n 0

-- bytes that aren't longer are padded to the length
pub length_padded : (n : ℕ) (b : List ℕ) → length b ≤ n → length (padded n b) ≡ n
unfolding padded
length_padded n b shorter = omega (arith, length-append b (zeros (n - length b)), length-zeros (n - length b))

-- what is padded stands in front
pub padded_before : (n : ℕ) (b rest : List ℕ) → padded n b ++ rest ≡ b ++ (zeros (n - length b) ++ rest)
unfolding padded
padded_before n b rest = append_assoc b (zeros (n - length b)) rest

-- a field is as long as its slot
length_content : (f : Field) (others : Type 0) → HasWidth f.slot.width f.content others → (length (content_bytes f.slot.width f.content) ≡ f.slot.width) × others
length_content f others h = by_content f.slot.width f.content h where
  by_content : (width : ℕ) (content : Content) → HasWidth width content others → (length (content_bytes width content) ≡ width) × others
  by_content width (Number value) h = (length-little width value, h)
  by_content width (Bytes bytes) h = (h.0, h.1)

fits_first : (start offset : ℕ) (others : Bool) → (nat_le start offset && others) ≡ true → (start ≤ offset) × (others ≡ true)
fits_first start offset others h = by_test (nat_le start offset) refl h where
  by_test : (t : Bool) → nat_le start offset ≡ t → (t && others) ≡ true → (start ≤ offset) × (others ≡ true)
  by_test true e h = (leb-true start offset e, h)
  by_test false e h = absurd cc

-- a field that fits ends where its slot does
length_slot : (front : List ℕ) (f : Field) → length front ≤ f.slot.offset → length (content_bytes f.slot.width f.content) ≡ f.slot.width → length (with_slot front f) ≡ f.slot.offset + f.slot.width
length_slot front f fits own =
    omega (arith, own, length_padded f.slot.offset front fits, length-append (padded f.slot.offset front) (content_bytes f.slot.width f.content))

length_slots : (fs : List Field) (front : List ℕ) (start end : ℕ) → length front ≤ start → fit_between start end fs ≡ true → HaveWidths fs → length (with_slots front fs) ≤ end
length_slots [] front start end short fit widths = let ends : start ≤ end = leb-true start end fit in omega arith
length_slots (f ∷ fs) front start end short fit widths =
    let first = fits_first start f.slot.offset (fit_between (f.slot.offset + f.slot.width) end fs) fit in
    let own = length_content f (HaveWidths fs) widths in
    let len = length_slot front f (omega (arith, short, first.0)) own.0 in
    length_slots fs (with_slot front f) (f.slot.offset + f.slot.width) end (omega (arith, len)) first.1 own.1

-- fields that fit take so many bytes
pub length_laid_out : (n : ℕ) (fs : List Field) → fit_between 0 n fs ≡ true → HaveWidths fs → length (laid_out n fs) ≡ n
length_laid_out n fs fit widths = length_padded n (with_slots [] fs) (length_slots fs [] 0 n (omega arith) fit widths)

-- fields go behind what stands in front
record Behind (front whole : List ℕ) : Type 0 where
  pub tail : List ℕ
  pub is : whole ≡ front ++ tail

slots_behind : (fs : List Field) (front : List ℕ) → Behind front (with_slots front fs)
slots_behind [] front = record { tail = []; is = sym (append-nil front) }
slots_behind (f ∷ fs) front =
    let later = slots_behind fs (with_slot front f) in
    let content = content_bytes f.slot.width f.content in
    let own : with_slot front f ≡ front ++ (zeros (f.slot.offset - length front) ++ content) = padded_before f.slot.offset front content in
    let all : with_slots front (f ∷ fs) ≡ front ++ ((zeros (f.slot.offset - length front) ++ content) ++ later.tail) =
    later.is ∙ ap (λ (xs : List ℕ). xs ++ later.tail) own ∙ append_assoc front (zeros (f.slot.offset - length front) ++ content) later.tail in
    record { tail = (zeros (f.slot.offset - length front) ++ content) ++ later.tail; is = all }

-- the first of some fields stands at its slot
first_stands : (f : Field) (fs : List Field) (front rest : List ℕ) → length front ≤ f.slot.offset → length (content_bytes f.slot.width f.content) ≡ f.slot.width
    → StandsAtSlot (with_slots front (f ∷ fs) ++ rest) f
unfolding bytes_at
first_stands f fs front rest fits own =
    let later = slots_behind fs (with_slot front f) in
    let content = content_bytes f.slot.width f.content in
    let head = padded f.slot.offset front in
    let behind = later.tail ++ rest in
    let whole : with_slots front (f ∷ fs) ++ rest ≡ head ++ (content ++ behind) =
    ap (λ (xs : List ℕ). xs ++ rest) later.is ∙ append_assoc (head ++ content) later.tail rest ∙ append_assoc head content behind in
    let there : drop f.slot.offset (with_slots front (f ∷ fs) ++ rest) ≡ content ++ behind =
    ap (λ (n : ℕ). drop n (with_slots front (f ∷ fs) ++ rest)) (sym (length_padded f.slot.offset front fits))
    ∙ ap (drop (length head)) whole ∙ drop-append_seam head (content ++ behind) in
    ap (take f.slot.width) there ∙ ap (λ (w : ℕ). take w (content ++ behind)) (sym own) ∙ take-append_seam content behind

all_stand_from : (fs : List Field) (start end : ℕ) (front rest : List ℕ) → length front ≤ start → fit_between start end fs ≡ true → HaveWidths fs
    → AllByRecursion (StandsAtSlot (with_slots front fs ++ rest)) fs
all_stand_from [] start end front rest short fit widths = tt
all_stand_from (f ∷ fs) start end front rest short fit widths =
    let first = fits_first start f.slot.offset (fit_between (f.slot.offset + f.slot.width) end fs) fit in
    let own = length_content f (HaveWidths fs) widths in
    let len = length_slot front f (omega (arith, short, first.0)) own.0 in
    let here : StandsAtSlot (with_slots front (f ∷ fs) ++ rest) f = first_stands f fs front rest (omega (arith, short, first.0)) own.0 in
    (here, all_stand_from fs (f.slot.offset + f.slot.width) end (with_slot front f) rest (omega (arith, len)) first.1 own.1)

-- every field of a format stands at its slot, whatever follows the format: each field that is read back is so by this law
pub fields_stand : (n : ℕ) (fs : List Field) (rest : List ℕ) → fit_between 0 n fs ≡ true → HaveWidths fs → AllByRecursion (StandsAtSlot (laid_out n fs ++ rest)) fs
fields_stand n fs rest fit widths =
    subst (λ (xs : List ℕ). AllByRecursion (StandsAtSlot xs) fs) (sym (padded_before n (with_slots [] fs) rest))
    (all_stand_from fs 0 n [] (zeros (n - length (with_slots [] fs)) ++ rest) (omega arith) fit widths)

-- so they do where nothing follows it
pub fields_stand_alone : (n : ℕ) (fs : List Field) → fit_between 0 n fs ≡ true → HaveWidths fs → AllByRecursion (StandsAtSlot (laid_out n fs)) fs
fields_stand_alone n fs fit widths = subst (λ (xs : List ℕ). AllByRecursion (StandsAtSlot xs) fs) (append-nil (laid_out n fs)) (fields_stand n fs [] fit widths)

-- a number further on
pub number_further : (width skip at : ℕ) (b : List ℕ) → number_at width (skip + at) b ≡ number_at width at (drop skip b)
unfolding number_at
number_further width skip at b = ap (little_number width) (sym (drop-drop at skip b))

-- bytes further on
pub bytes_further : (n skip at : ℕ) (b : List ℕ) → bytes_at n (skip + at) b ≡ bytes_at n at (drop skip b)
unfolding bytes_at
bytes_further n skip at b = ap (take n) (sym (drop-drop at skip b))

-- what stands behind a format
pub behind_format : (n : ℕ) (fs : List Field) (rest : List ℕ) → fit_between 0 n fs ≡ true → HaveWidths fs → drop n (laid_out n fs ++ rest) ≡ rest
behind_format n fs rest fit widths =
    ap (λ (m : ℕ). drop m (laid_out n fs ++ rest)) (sym (length_laid_out n fs fit widths)) ∙ drop-append_seam (laid_out n fs) rest

-- a format lies in bytes from an offset on, and others behind it
pub record LiesAt (b : List ℕ) (start n : ℕ) (fs : List Field) (rest : List ℕ) : Type 0 where
  pub fit : fit_between 0 n fs ≡ true
  pub widths : HaveWidths fs
  pub there : drop start b ≡ laid_out n fs ++ rest

drop_none : (b : List ℕ) → drop 0 b ≡ b
drop_none [] = refl
drop_none (x ∷ b) = refl

-- a format lies at the front
pub lies_in_front : (b : List ℕ) (n : ℕ) (fs : List Field) (rest : List ℕ) → fit_between 0 n fs ≡ true → HaveWidths fs → b ≡ laid_out n fs ++ rest → LiesAt b 0 n fs rest
lies_in_front b n fs rest fit widths is = record { fit = fit; widths = widths; there = drop_none b ∙ is }

-- what lies behind a format
pub behind_lying : {b : List ℕ} {start n : ℕ} {fs : List Field} {rest : List ℕ} → LiesAt b start n fs rest → drop (start + n) b ≡ rest
behind_lying {b = b} {start = start} {n = n} {fs = fs} {rest = rest} lies =
    ap (λ (k : ℕ). drop k b) (omega arith) ∙ sym (drop-drop n start b) ∙ ap (drop n) lies.there ∙ behind_format n fs rest lies.fit lies.widths

-- a format lies behind another one
pub lies_behind : {b : List ℕ} {start n : ℕ} {before : List Field} (m : ℕ) (fs : List Field) (rest : List ℕ) → LiesAt b start n before (laid_out m fs ++ rest) → fit_between 0 m fs ≡ true → HaveWidths fs
    → LiesAt b (start + n) m fs rest
lies_behind m fs rest lies fit widths = record { fit = fit; widths = widths; there = behind_lying lies }

-- what holds of each field of a format holds of field k
holds_of : (P : Field → Type 0) (fs : List Field) (k : ℕ) (f : Field) → AllByRecursion P fs → slice_get fs k ≡ Some f → P f
holds_of P [] k f all is = absurd cc
holds_of P (g ∷ fs) zero f all is = let same : g ≡ f = cc in subst P same all.0
holds_of P (g ∷ fs) (suc k) f all is = holds_of P fs k f all.1 is

-- field k of a format stands at its slot, wherever the format lies
field_stands : {b : List ℕ} {start n : ℕ} {fs : List Field} {rest : List ℕ} (k : ℕ) (f : Field) → LiesAt b start n fs rest → slice_get fs k ≡ Some f → StandsAtSlot (drop start b) f
field_stands {b = b} {start = start} {n = n} {fs = fs} {rest = rest} k f lies is =
    subst (λ (xs : List ℕ). StandsAtSlot xs f) (sym lies.there) (holds_of (StandsAtSlot (laid_out n fs ++ rest)) fs k f (fields_stand n fs rest lies.fit lies.widths) is)

-- bytes that stand at an offset, with what stands behind them
stands_with : (b : List ℕ) (width at : ℕ) (bytes : List ℕ) → bytes_at width at b ≡ bytes → drop at b ≡ bytes ++ drop width (drop at b)
unfolding bytes_at
stands_with b width at bytes there = sym (take-append-drop width (drop at b)) ∙ ap (λ (xs : List ℕ). xs ++ drop width (drop at b)) there

-- a number is read at its slot
pub number_back : {b : List ℕ} {start n : ℕ} {fs : List Field} {rest : List ℕ} (k : ℕ) (slot : Slot) (value : ℕ) → LiesAt b start n fs rest → slice_get fs k ≡ Some (number_field slot value)
    → value < 256 ^ slot.width → number_in slot start b ≡ value
unfolding number_at little
number_back {b = b} {start = start} k slot value lies is fits =
    number_further slot.width start slot.offset b
    ∙ ap (little_number slot.width) (stands_with (drop start b) slot.width slot.offset (little slot.width value) (field_stands k (number_field slot value) lies is))
    ∙ little_number-reads_back slot.width value (drop slot.width (drop slot.offset (drop start b))) fits

-- bytes are read at their slot
pub bytes_back : {b : List ℕ} {start n : ℕ} {fs : List Field} {rest : List ℕ} (k : ℕ) (slot : Slot) (bytes : List ℕ) → LiesAt b start n fs rest → slice_get fs k ≡ Some (bytes_field slot bytes)
    → bytes_in slot start b ≡ bytes
bytes_back {b = b} {start = start} k slot bytes lies is = bytes_further slot.width start slot.offset b ∙ field_stands k (bytes_field slot bytes) lies is

-- bytes are read at their slot as the number that they are by themselves
pub bytes_as_number : {b : List ℕ} {start n : ℕ} {fs : List Field} {rest : List ℕ} (k : ℕ) (slot : Slot) (bytes : List ℕ) → LiesAt b start n fs rest → slice_get fs k ≡ Some (bytes_field slot bytes)
    → length bytes ≡ slot.width → number_in slot start b ≡ number_at slot.width 0 bytes
unfolding number_at
bytes_as_number {b = b} {start = start} k slot bytes lies is own =
    number_further slot.width start slot.offset b
    ∙ ap (little_number slot.width) (stands_with (drop start b) slot.width slot.offset bytes (field_stands k (bytes_field slot bytes) lies is))
    ∙ little_from-append slot.width bytes (drop slot.width (drop slot.offset (drop start b))) (omega (arith, own))
