-- Writes, one after the other.
use Rattle.std.proofs.Common.{◌≡◌, ◌≢◌, ℕ, arith, List, [], ◌∷◌, take, refl, sym, inl, inr, subst}
use Rattle.std.specs.Prelude.{Result, Ok, OnErr}
use Rattle.std.specs.Prelude.{Err as Error}
use Rattle.ras_host.specs.Told.{Bytes, Outside, HostAction, Out, Err, Performs}
use Rattle.ras_host.specs.ToldLaws.{performs_then}
use Rattle.ras_words.specs.Run.{RunRequest}
use Rattle.ras_cli.specs.Status.{IsDone}
use Rattle.ras_cli.specs.Plan.{Planned, named_file, pieces}
use Rattle.ras_cli.specs.Reaches.{Made}
use Rattle.ras_cli.specs.Follows.{Cuts, Follows}
use Rattle.ras_cli.proofs.FollowsLemmas.{cut_first, cut_then, cut_more, follows_done, made_cut, made_performs}

-- a write to standard output failed, or one to standard error
pub out_cut : (bytes : Bytes) (rest : List HostAction) (a b : Outside) → ((n : ℕ) × Performs a b (Out (take n bytes) ∷ [])) → Cuts a b (Out bytes ∷ rest)
out_cut bytes rest a b h = cut_first a b (Out bytes) rest (Out (take h.0 bytes) ∷ []) (h.0, refl) h.1

pub err_cut : (bytes : Bytes) (rest : List HostAction) (a b : Outside) → ((n : ℕ) × Performs a b (Err (take n bytes) ∷ [])) → Cuts a b (Err bytes ∷ rest)
err_cut bytes rest a b h = cut_first a b (Err bytes) rest (Err (take h.0 bytes) ∷ []) (h.0, refl) h.1

-- a status for what was done is none for a failed call or for want of memory
pub done_status : (code : ℕ) → IsDone code → (code ≢ 3) × (code ≢ 4)
done_status code (inl e) = (λ x. omega (arith, e, x), λ x. omega (arith, e, x))
done_status code (inr (inl e)) = (λ x. omega (arith, e, x), λ x. omega (arith, e, x))
done_status code (inr (inr e)) = (λ x. omega (arith, e, x), λ x. omega (arith, e, x))

-- all outputs were written
pub done_follows : (a b : Outside) (actions : List HostAction) (code status : ℕ) → IsDone code → status ≡ code → Performs a b actions
    → let plan : Planned = record { code = code; actions = actions } in Follows a b plan status
done_follows a b actions code status done is h =
    let plan : Planned = record { code = code; actions = actions } in
    let none = done_status code done in
    subst (λ (n : ℕ). Follows a b plan n) (sym is) (follows_done a b actions code none.0 none.1 h)

-- what holds holds where there is an error
pub any_error : {T E P : Type 0} (r : Result T E) → P → OnErr r P
any_error (Ok x) h = tt
any_error (Error e) h = h

-- what a run writes, by the piece that failed
module _ (run : RunRequest) (console records tables report : Bytes) where
  pub records_cut : (a b c : Outside) → Performs a b (Out console ∷ []) → Cuts b c (named_file run.records records) → Cuts a c (pieces run console records tables report)
  records_cut a b c out h = cut_then a b c (Out console) _ out (cut_more b c (named_file run.records records) _ h)

  pub tables_cut : (a b c d : Outside) → Performs a b (Out console ∷ []) → Made b c (named_file run.records records) → Cuts c d (named_file run.tables tables) → Cuts a d (pieces run console records tables report)
  tables_cut a b c d out made h =
      cut_then a b d (Out console) _ out (made_cut b c d (named_file run.records records) _ made (cut_more c d (named_file run.tables tables) _ h))

  pub report_cut : (a b c d e : Outside) → Performs a b (Out console ∷ []) → Made b c (named_file run.records records) → Made c d (named_file run.tables tables)
      → ((n : ℕ) × Performs d e (Err (take n report) ∷ [])) → Cuts a e (pieces run console records tables report)
  report_cut a b c d e out made more h =
      cut_then a b e (Out console) _ out
      (made_cut b c e (named_file run.records records) _ made
      (made_cut c d e (named_file run.tables tables) _ more (err_cut report [] d e h)))

  -- and where none did
  pub all_written : (a b c d e : Outside) → Performs a b (Out console ∷ []) → Made b c (named_file run.records records) → Made c d (named_file run.tables tables)
      → Performs d e (Err report ∷ []) → Performs a e (pieces run console records tables report)
  all_written a b c d e out made more h =
      performs_then a b e (Out console) _ out
      (made_performs b c e (named_file run.records records) _ made (made_performs c d e (named_file run.tables tables) _ more h))
