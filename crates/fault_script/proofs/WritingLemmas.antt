-- Texts appended one after the other.
use Rattle.std.proofs.Common.{◌≡◌, ℕ, List, [], ◌++◌, codes, append_assoc}
use Rattle.std.proofs.lemmas.List.{append-nil}

-- the five fields of an injection
pub injection_appended : (out bank rec class delay address behind_record behind_class behind_delay new : List ℕ)
    → behind_record ≡ out ++ (codes " " ++ bank ++ codes " " ++ rec)
    → behind_class ≡ behind_record ++ codes " " ++ class
    → behind_delay ≡ behind_class ++ codes " " ++ delay
    → new ≡ behind_delay ++ codes " " ++ address
    → new ≡ out ++ (codes " " ++ bank ++ (codes " " ++ rec ++ (codes " " ++ class ++ (codes " " ++ delay ++ (codes " " ++ address ++ [])))))
injection_appended out bank rec class delay address behind_record behind_class behind_delay new e1 e2 e3 e4 =
    rw (e4, e3, e2, e1) (simp (append_assoc, append-nil))
