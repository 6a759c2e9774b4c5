-- Texts that are printed piece by piece.
use Rattle.std.proofs.Common.{◌≡◌, ℕ, zero, suc, ◌+◌, ◌<◌, ◌≤◌, List, [], ◌++◌, length, drop, Result, IfErr, Ok, Err, refl, sym, ap, subst, ◌∙◌, append_assoc, arith}
use Rattle.std.proofs.lemmas.List.{append-nil}
use Rattle.std.proofs.lemmas.Bool.{le-leb, lt-leb}
use Rattle.std.specs.Result.{IsErrAnd}
use Rattle.ras_bits.specs.Results.{◌>>=◌}
use Rattle.cper_sections.specs.Reading.{record_of}
use Rattle.cper_sections.specs.declared.reading.Cper.{Cper}
use Rattle.ras_read.specs.Records.{bad_at, record_lines, records_from}
use Rattle.ras_read.specs.Files.{IsRefusalOf}
use Rattle.ras_read.specs.declared.refused.ReadRefused.{ReadRefused}
use Rattle.ras_read.specs.declared.refused.ReadRefused.TheVariants as refused

-- what is read, behind what was printed
abbrev pub in_front : List ℕ → Result (List ℕ) ReadRefused → Result (List ℕ) ReadRefused
in_front front (Ok text) = Ok (front ++ text)
in_front front (Err refusal) = Err refusal

-- ---- records, one after the other

-- with no bytes left the text is whole
pub no_more : (left : ℕ) (b : List ℕ) (at : ℕ) (front : List ℕ) → length b ≤ at → in_front front (records_from left b at) ≡ Ok front
unfolding records_from
no_more zero b at front over = ap Ok (append-nil front)
no_more (suc left) b at front over = rw (le-leb _ _ over) (ap Ok (append-nil front))

-- what is left, once more bytes were printed
further : (front lines : List ℕ) (r : Result (List ℕ) ReadRefused)
    → in_front front (r >>= λ text. Ok (lines ++ text)) ≡ in_front (front ++ lines) r
further front lines (Ok text) = ap Ok (sym (append_assoc front lines text))
further front lines (Err refusal) = refl

-- a record is there: it has bytes, and ends in time
record_next : (left : ℕ) (b : List ℕ) (at : ℕ) → at < length b
    → records_from (suc left) b at ≡ (bad_at at (record_of (drop at b)) >>= λ r. records_from left b (at + r.length) >>= λ lines. Ok (record_lines (drop at b) r ++ lines))
unfolding records_from
record_next left b at inside = rw (lt-leb _ _ inside) refl

-- the record at this offset is printed
record_more : (left : ℕ) (b : List ℕ) (at : ℕ) (front : List ℕ) (r : Cper) → at < length b → bad_at at (record_of (drop at b)) ≡ Ok r
    → in_front front (records_from (suc left) b at) ≡ in_front (front ++ record_lines (drop at b) r) (records_from left b (at + r.length))
record_more left b at front r inside read =
    ap (in_front front) (record_next left b at inside ∙ ap (λ (q : Result Cper ReadRefused). q >>= λ r. records_from left b (at + r.length) >>= λ lines. Ok (record_lines (drop at b) r ++ lines)) read)
    ∙ further front (record_lines (drop at b) r) (records_from left b (at + r.length))

-- the record at this offset is refused
record_bad : (left : ℕ) (b : List ℕ) (at : ℕ) (front : List ℕ) (why : ReadRefused) → at < length b → bad_at at (record_of (drop at b)) ≡ Err why
    → in_front front (records_from (suc left) b at) ≡ Err why
record_bad left b at front why inside read =
    ap (in_front front) (record_next left b at inside ∙ ap (λ (q : Result Cper ReadRefused). q >>= λ r. records_from left b (at + r.length) >>= λ lines. Ok (record_lines (drop at b) r ++ lines)) read)

-- ---- what is left of a records file

-- what was printed and the records from an offset on, of which there are at most so many, are the whole text
pub record IsPrinted (b : List ℕ) (at : ℕ) (front : List ℕ) (left : ℕ) : Type 0 where
  pub enough : length b ≤ at + left
  pub whole : in_front front (records_from left b at) ≡ records_from (length b) b 0

-- nothing is printed yet
pub nothing_printed : (b : List ℕ) → IsPrinted b 0 [] (length b)
nothing_printed b = record { enough = omega arith; whole = as_is (records_from (length b) b 0) } where
  as_is : (r : Result (List ℕ) ReadRefused) → in_front [] r ≡ r
  as_is (Ok text) = refl
  as_is (Err refusal) = refl

-- one record more is printed
pub one_printed : (b : List ℕ) (at : ℕ) (front : List ℕ) (left : ℕ) (r : Cper) → IsPrinted b at front left → at < length b
    → bad_at at (record_of (drop at b)) ≡ Ok r → 0 < r.length → (rest : ℕ) × IsPrinted b (at + r.length) (front ++ record_lines (drop at b) r) rest
one_printed b at front zero r printed inside read some = absurd (let enough = printed.enough in omega arith)
one_printed b at front (suc left) r printed inside read some = (
  left,
  record {
    enough = let enough = printed.enough in omega arith;
    whole = sym (record_more left b at front r inside read) ∙ printed.whole;
  },
)

-- the next record is refused
pub refused_next : (b : List ℕ) (at : ℕ) (front : List ℕ) (left : ℕ) (why : ReadRefused) → IsPrinted b at front left → at < length b
    → bad_at at (record_of (drop at b)) ≡ Err why → records_from (length b) b 0 ≡ Err why
refused_next b at front zero why printed inside read = absurd (let enough = printed.enough in omega arith)
refused_next b at front (suc left) why printed inside read = sym printed.whole ∙ record_bad left b at front why inside read

-- all is printed
pub all_printed : (b : List ℕ) (at : ℕ) (front : List ℕ) (left : ℕ) → IsPrinted b at front left → length b ≤ at → records_from (length b) b 0 ≡ Ok front
all_printed b at front left printed over = sym printed.whole ∙ no_more left b at front over

-- ---- refusals

-- a refusal that the reading gives
pub is_refusal : (read : Result (List ℕ) ReadRefused) (why : ReadRefused) → read ≡ Err why → IsRefusalOf read why
is_refusal read refused.Kind e = e
is_refusal read (refused.Bad at refusal) e = e
is_refusal read (refused.Table at refusal) e = e
is_refusal read refused.NoMemory e = tt

-- the refusal that `?` hands on
pub handed_on : {X E : Type 0} (r : Result X E) (why : E) (P : E → Type 0) → IsErrAnd r (λ e. e ≡ why) → P why → IfErr r P
handed_on (Ok x) why P e p = tt
handed_on (Err e) why P same p = subst P (sym same) p

-- the next record is refused, and so is the file
pub refused_file : (b : List ℕ) (at : ℕ) (front : List ℕ) (why : ReadRefused) → ((left : ℕ) × IsPrinted b at front left) → at < length b
    → bad_at at (record_of (drop at b)) ≡ Err why → IsRefusalOf (records_from (length b) b 0) why
refused_file b at front why printed inside read = is_refusal (records_from (length b) b 0) why (refused_next b at front printed.0 why printed.1 inside read)
