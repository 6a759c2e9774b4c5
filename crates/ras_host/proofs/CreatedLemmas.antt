-- The created files in a buffer that grows.
use Rattle.std.proofs.Common.{◌≡◌, ℕ, ◌+◌, ◌≤◌, ◌<◌, Bool, true, false, cond, List, [], ◌∷◌, ◌++◌, Option, Some, None, take, drop, map, length, refl, sym, arith, subst, length-append, length-drop, append_assoc}
use Rattle.std.specs.Prelude.{◌&&◌, option_map}
use Rattle.std.specs.Str.{bytes_eq}
use Rattle.std.proofs.Math.Seq.{drop-append_seam, take-append_seam, take-length}
use Rattle.std.proofs.lemmas.List.{take-append-le, drop-append-le}
use Rattle.std.proofs.lemmas.Bool.Decides.{nat_tests}
use Rattle.ras_host.specs.Told.{Bytes, Told, created_of}
use Rattle.ras_host.specs.Pieces.{kept_at, file_at, files_at, is_in, are_in, all_in}
use Rattle.ras_host.specs.declared.created.Piece.{Piece}

abbrev told : Bytes → ℕ → Told ℕ
told kept total = record { kept = kept; total = total }

-- a part of the buffer stays where more is appended
part_stays : (b more : Bytes) (at n : ℕ) → at + n ≤ length b → take n (drop at (b ++ more)) ≡ take n (drop at b)
part_stays b more at n h =
    let inside : at ≤ length b = omega arith in
    let rest : n ≤ length (drop at b) = omega (arith, length-drop at b) in
    rw (drop-append-le at b more inside, take-append-le n (drop at b) more rest) refl

in_bounds : (len : ℕ) (p : Piece) → is_in len p ≡ true → p.start + p.name_len + p.kept ≤ len
in_bounds len p h = grind (arith, nat_tests)

pub kept_stays : (b more : Bytes) (p : Piece) → is_in (length b) p ≡ true → kept_at (b ++ more) p ≡ kept_at b p
kept_stays b more p h =
    let bound = in_bounds (length b) p h in
    rw (part_stays b more (p.start + p.name_len) p.kept bound) refl

pub file_stays : (b more : Bytes) (p : Piece) → is_in (length b) p ≡ true → file_at (b ++ more) p ≡ file_at b p
file_stays b more p h =
    let bound = in_bounds (length b) p h in
    let name : p.start + p.name_len ≤ length b = omega arith in
    rw (part_stays b more (p.start + p.name_len) p.kept bound, part_stays b more p.start p.name_len name) refl

both : (a b : Bool) → (a && b) ≡ true → (a ≡ true) × (b ≡ true)
both true b h = (refl, h)
both false b h = (h, absurd (no h))
  where
    no : false ≡ true → ⊥
    no h = cc

pub files_stay : (b more : Bytes) (ps : List Piece) → are_in (length b) ps ≡ true → map (file_at (b ++ more)) ps ≡ map (file_at b) ps
files_stay b more [] h = refl
files_stay b more (p ∷ ps) h =
    let parts = both (is_in (length b) p) (are_in (length b) ps) h in
    rw (file_stays b more p parts.0, files_stay b more ps parts.1) refl

pub in_more : (m n : ℕ) (p : Piece) → m ≤ n → is_in m p ≡ true → is_in n p ≡ true
in_more m n p l h = let bound = in_bounds m p h in grind (arith, nat_tests)

pub are_in_more : (m n : ℕ) (ps : List Piece) → m ≤ n → are_in m ps ≡ true → are_in n ps ≡ true
are_in_more m n [] l h = refl
are_in_more m n (p ∷ ps) l h =
    let parts = both (is_in m p) (are_in m ps) h in
    rw (in_more m n p l parts.0, are_in_more m n ps l parts.1) refl

named_in : (m : ℕ) (u : Option Piece) (ps : List Piece) → all_in m u ps ≡ true → are_in m ps ≡ true
named_in m None ps h = h
named_in m (Some p) ps h = (both (is_in m p) (are_in m ps) h).1

-- a new piece at the end of the buffer
abbrev pub at_end : ℕ → Bytes → Bytes → ℕ → Piece
at_end start name kept total = record { start = start; name_len = length name; kept = length kept; total = total }

kept_new : (b name kept : Bytes) (total : ℕ) → kept_at ((b ++ name) ++ kept) (at_end (length b) name kept total) ≡ told kept total
kept_new b name kept total =
    rw (← length-append b name, drop-append_seam (b ++ name) kept, take-length kept) refl

name_new : (b name kept : Bytes) → take (length name) (drop (length b) ((b ++ name) ++ kept)) ≡ name
name_new b name kept = rw (append_assoc b name kept, drop-append_seam b (name ++ kept), take-append_seam name kept) refl

files_before : (b name kept : Bytes) (ps : List Piece) → are_in (length b) ps ≡ true → map (file_at ((b ++ name) ++ kept)) ps ≡ map (file_at b) ps
files_before b name kept ps h = rw append_assoc (files_stay b (name ++ kept) ps h)

same_under : {A : Type 0} (t : Bool) (x y z : A) → cond t x z ≡ cond t x (cond t y z)
same_under true x y z = refl
same_under false x y z = refl

-- the file of the empty name
unnamed_made : (b name kept : Bytes) (total : ℕ) (u : Option Piece) (ps : List Piece) → length name ≡ 0 → all_in (length b) u ps ≡ true
    → (n : Bytes) → created_of (files_at ((b ++ name) ++ kept) (Some (at_end (length b) name kept total)) ps) n ≡ cond (bytes_eq name n) (Some (told kept total)) (created_of (files_at b u ps) n)
unnamed_made b (x ∷ xs) kept total u ps z h n = absurd (omega arith)
unnamed_made b [] kept total None ps z h n = rw (kept_new b [] kept total, files_before b [] kept ps h) refl
unnamed_made b [] kept total (Some p) ps z h n =
    rw (kept_new b [] kept total, files_before b [] kept ps (both (is_in (length b) p) (are_in (length b) ps) h).1)
    (same_under (bytes_eq [] n) (Some (told kept total)) (Some (kept_at b p)) (created_of (map (file_at b) ps) n))

pub put_unnamed : (b name kept buffer : Bytes) (start total : ℕ) (u : Option Piece) (ps : List Piece) → buffer ≡ (b ++ name) ++ kept → start ≡ length b → length name ≡ 0 → all_in (length b) u ps ≡ true
    → (n : Bytes) → created_of (files_at buffer (Some (at_end start name kept total)) ps) n ≡ cond (bytes_eq name n) (Some (told kept total)) (created_of (files_at b u ps) n)
put_unnamed b name kept buffer start total u ps e f z h n =
    subst (λ (x : Bytes). created_of (files_at x (Some (at_end start name kept total)) ps) n ≡ cond (bytes_eq name n) (Some (told kept total)) (created_of (files_at b u ps) n)) (sym e)
    (subst (λ (x : ℕ). created_of (files_at ((b ++ name) ++ kept) (Some (at_end x name kept total)) ps) n ≡ cond (bytes_eq name n) (Some (told kept total)) (created_of (files_at b u ps) n)) (sym f)
    (unnamed_made b name kept total u ps z h n))

-- a file with a name
named_made : (b name kept : Bytes) (total : ℕ) (u : Option Piece) (ps : List Piece) → 0 < length name → all_in (length b) u ps ≡ true
    → (n : Bytes) → created_of (files_at ((b ++ name) ++ kept) u (at_end (length b) name kept total ∷ ps)) n ≡ cond (bytes_eq name n) (Some (told kept total)) (created_of (files_at b u ps) n)
named_made b [] kept total u ps z h n = absurd (omega arith)
named_made b (x ∷ xs) kept total None ps z h n =
    rw (kept_new b (x ∷ xs) kept total, name_new b (x ∷ xs) kept, files_before b (x ∷ xs) kept ps h) refl
named_made b (x ∷ xs) kept total (Some p) ps z h n =
    let parts = both (is_in (length b) p) (are_in (length b) ps) h in
    let stays : kept_at ((b ++ x ∷ xs) ++ kept) p ≡ kept_at b p = rw append_assoc (kept_stays b ((x ∷ xs) ++ kept) p parts.0) in
    rw (kept_new b (x ∷ xs) kept total, name_new b (x ∷ xs) kept, files_before b (x ∷ xs) kept ps parts.1, stays)
    (either_first n)
  where
    either_first : (n : Bytes) → cond (bytes_eq [] n) (Some (kept_at b p)) (cond (bytes_eq (x ∷ xs) n) (Some (told kept total)) (created_of (map (file_at b) ps) n))
        ≡ cond (bytes_eq (x ∷ xs) n) (Some (told kept total)) (cond (bytes_eq [] n) (Some (kept_at b p)) (created_of (map (file_at b) ps) n))
    either_first [] = refl
    either_first (y ∷ ys) = refl

pub put_named : (b name kept buffer : Bytes) (start total : ℕ) (u : Option Piece) (ps : List Piece) → buffer ≡ (b ++ name) ++ kept → start ≡ length b → 0 < length name → all_in (length b) u ps ≡ true
    → (n : Bytes) → created_of (files_at buffer u (at_end start name kept total ∷ ps)) n ≡ cond (bytes_eq name n) (Some (told kept total)) (created_of (files_at b u ps) n)
put_named b name kept buffer start total u ps e f z h n =
    subst (λ (x : Bytes). created_of (files_at x u (at_end start name kept total ∷ ps)) n ≡ cond (bytes_eq name n) (Some (told kept total)) (created_of (files_at b u ps) n)) (sym e)
    (subst (λ (x : ℕ). created_of (files_at ((b ++ name) ++ kept) u (at_end x name kept total ∷ ps)) n ≡ cond (bytes_eq name n) (Some (told kept total)) (created_of (files_at b u ps) n)) (sym f)
    (named_made b name kept total u ps z h n))

-- the pieces lie in the buffer that has grown
pub within_unnamed : (m n : ℕ) (q : Piece) (u : Option Piece) (ps : List Piece) → m ≤ n → q.start + q.name_len + q.kept ≤ n → all_in m u ps ≡ true → all_in n (Some q) ps ≡ true
within_unnamed m n q u ps l h g =
    let new : is_in n q ≡ true = grind (arith, nat_tests) in
    rw (new, are_in_more m n ps l (named_in m u ps g)) refl

pub within_named : (m n : ℕ) (q : Piece) (u : Option Piece) (ps : List Piece) → m ≤ n → q.start + q.name_len + q.kept ≤ n → all_in m u ps ≡ true → all_in n u (q ∷ ps) ≡ true
within_named m n q None ps l h g =
    let new : is_in n q ≡ true = grind (arith, nat_tests) in
    rw (new, are_in_more m n ps l g) refl
within_named m n q (Some p) ps l h g =
    let new : is_in n q ≡ true = grind (arith, nat_tests) in
    let parts = both (is_in m p) (are_in m ps) g in
    rw (in_more m n p l parts.0, new, are_in_more m n ps l parts.1) refl

-- what is found under the empty name
pub found_unnamed : (b name held : Bytes) (u : Option Piece) (ps : List Piece) (p : Piece) (n : ℕ) → u ≡ Some p → length name ≡ 0 → held ≡ b → n ≡ p.kept
    → Some (take n (drop (p.start + p.name_len) held)) ≡ option_map (λ (t : Told ℕ). t.kept) (created_of (files_at b u ps) name)
found_unnamed b [] held u ps p n h z e f = rw (h, e, f) refl
found_unnamed b (x ∷ xs) held u ps p n h z e f = absurd (omega arith)
