-- Reading and writing undo each other.
use Rattle.std.proofs.Common.{◌≡◌, ℕ, ◌^◌, ◌<◌, ◌⊎◌, inl, inr, Option, Some, None, refl, ap, sym, subst, ◌∙◌}
use Rattle.std.specs.Option.{unwrap_or}
use Rattle.rv64_decode.specs.declared.instr.Instr.{Instr}
use Rattle.rv64_decode.specs.declared.instr.Instr.TheVariants.{Illegal}
use Rattle.rv64_decode.specs.Fields.{fields_of, word_of_fields}
use Rattle.rv64_decode.specs.Decoding.{row, row_of}
use Rattle.rv64_decode.specs.Encoding.{OperandsInRange, IsRow, FitsRow, IsItsRow, encoding, fields_for}
use Rattle.rv64_decode.proofs.Numbers.{fields_back, word_back, AreFields_of}
use Rattle.rv64_decode.proofs.Reading.{row_reads}
use Rattle.rv64_decode.proofs.Writing.{row_written, fields_small}

legal_written : (i : Instr) → OperandsInRange i → IsRow i → row (word_of_fields (fields_for i)) ≡ i
unfolding row
legal_written i h l =
    ap (λ f. unwrap_or (row_of f) (Illegal (word_of_fields (fields_for i)))) (fields_back (fields_for i) (fields_small i h))
    ∙ ap (λ o. unwrap_or o (Illegal (word_of_fields (fields_for i)))) (row_written i h l)

pub row_of_written : (i : Instr) → OperandsInRange i → row (word_of_fields (fields_for i)) ≡ i
row_of_written (Illegal word) h = ap row (word_back word h.0) ∙ h.1
row_of_written i h = legal_written i h tt

-- what a read gives, by whether a row fits
pub record IsReadOf (word : ℕ) (i : Instr) : Type 0 where
  pub written : encoding i ≡ word
  pub in_range : OperandsInRange i

pub is_read : (word : ℕ) → word < 2 ^ 32 → IsReadOf word (row word)
unfolding row
is_read word h = go (row_of (fields_of word)) refl
  where
    go : (o : Option Instr) → row_of (fields_of word) ≡ o → IsReadOf word (unwrap_or o (Illegal word))
    go None e = record { written = word_back word h; in_range = (h, ap (λ o. unwrap_or o (Illegal word)) e) }
    go (Some i) e =
        let r = row_reads (fields_of word) i (AreFields_of word h) e in
        record { written = ap word_of_fields r.fields ∙ word_back word h; in_range = r.in_range }

pub written_back : (i : Instr) (word : ℕ) → word < 2 ^ 32 → row word ≡ i → word_of_fields (fields_for i) ≡ word
written_back i word h e = subst (λ j. word_of_fields (fields_for j) ≡ word) e (is_read word h).written

pub row_in_range : (word : ℕ) → word < 2 ^ 32 → OperandsInRange (row word)
row_in_range word h = (is_read word h).in_range

-- what fits a word is its row
fits_is_row : (word : ℕ) (i : Instr) → FitsRow word i → i ≡ row word
fits_is_row word i f = sym (legal_written i f.operands f.is_row) ∙ ap row f.word_is

-- an instruction is of a row, or it is Illegal
legal_or : (i : Instr) → IsRow i ⊎ ((word : ℕ) × (i ≡ Illegal word))
legal_or (Illegal word) = inr (word, refl)
legal_or i = inl tt

not_row : (word : ℕ) (i : Instr) → i ≡ Illegal word → IsRow i → ⊥
not_row word i e h = subst IsRow e h

-- Illegal has the word itself
illegal_word : (word other : ℕ) (i : Instr) → IsReadOf word i → i ≡ Illegal other → i ≡ Illegal word
illegal_word word other i r e =
    let kept : encoding (Illegal other) ≡ other = word_back other (subst OperandsInRange e r.in_range).0 in
    e ∙ ap Illegal (sym kept ∙ ap encoding (sym e) ∙ r.written)

pub row_unique : (word : ℕ) → word < 2 ^ 32 → IsItsRow word (row word)
row_unique word h = go (row word) refl (legal_or (row word)) (is_read word h)
  where
    go : (i : Instr) → row word ≡ i → IsRow i ⊎ ((other : ℕ) × (i ≡ Illegal other)) → IsReadOf word i → IsItsRow word i
    go i e (inl is) r = inl (record { is_row = is; operands = r.in_range; word_is = r.written }, λ j f. fits_is_row word j f ∙ e)
    go i e (inr other) r =
        inr (illegal_word word other.0 i r other.1, λ j f. not_row other.0 j (fits_is_row word j f ∙ e ∙ other.1) f.is_row)

pub row_written_back : (word : ℕ) → word < 2 ^ 32 → encoding (row word) ≡ word
row_written_back word h = (is_read word h).written
