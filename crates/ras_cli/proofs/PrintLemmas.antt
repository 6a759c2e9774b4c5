-- A file that is printed, or refused.
use Rattle.std.proofs.Common.{◌≡◌, ℕ, List, Option, refl, sym, subst}
use Rattle.std.specs.Prelude.{IfSome, Result, Ok}
use Rattle.std.specs.Prelude.{Err as Error}
use Rattle.ras_host.specs.Told.{Bytes, File, Outside}
use Rattle.ras_read.specs.Files.{IsRefusalOf}
use Rattle.ras_read.specs.declared.refused.ReadRefused.{ReadRefused}
use Rattle.ras_read.specs.declared.refused.ReadRefused.TheVariants as refused
use Rattle.ras_cli.specs.declared.status.Exit.TheVariants as exits
use Rattle.ras_cli.specs.Refusals.{file_refused}
use Rattle.ras_cli.specs.Plan.{Planned, carried_out, line_written}
use Rattle.ras_cli.specs.PrintPlan.{printed, text_written}
use Rattle.ras_cli.specs.Follows.{Follows}
use Rattle.ras_cli.proofs.FollowsLemmas.{follows_nothing, if_some_all}

-- want of memory, and nothing done
pub nothing_follows : (files : Option (List File)) (plan : List File → Planned) (a : Outside) (code : ℕ) → code ≡ 4 → IfSome files (λ fs. Follows a a (plan fs) code)
nothing_follows files plan a code e = if_some_all files _ (λ fs. subst (λ (n : ℕ). Follows a a (plan fs) n) (sym e) (follows_nothing a (plan fs)))

-- the text was written
pub text_follows : (files : Option (List File)) (read : Result Bytes ReadRefused) (text : Bytes) (a b : Outside) (code : ℕ) → read ≡ Ok text → Follows a b (text_written text) code
    → IfSome files (λ fs. Follows a b (carried_out (printed read) fs) code)
text_follows files read text a b code e f = if_some_all files _ (λ fs. subst (λ (r : Result Bytes ReadRefused). Follows a b (carried_out (printed r) fs) code) (sym e) f)

-- a refusal for another cause than want of memory
refusal_is : (read : Result Bytes ReadRefused) (refusal : ReadRefused) → ¬ (refusal ≡ refused.NoMemory) → IsRefusalOf read refusal → read ≡ Error refusal
refusal_is read refused.NoMemory other h = absurd (other refl)
refusal_is read refused.Kind other h = h
refusal_is read (refused.Bad at why) other h = h
refusal_is read (refused.Table at why) other h = h

-- its line was written
pub refusal_follows : (files : Option (List File)) (read : Result Bytes ReadRefused) (refusal : ReadRefused) (a b : Outside) (code : ℕ) → ¬ (refusal ≡ refused.NoMemory) → IsRefusalOf read refusal
    → Follows a b (line_written exits.Refused (file_refused refusal)) code → IfSome files (λ fs. Follows a b (carried_out (printed read) fs) code)
refusal_follows files read refusal a b code other h f =
    if_some_all files _ (λ fs. subst (λ (r : Result Bytes ReadRefused). Follows a b (carried_out (printed r) fs) code) (sym (refusal_is read refusal other h)) f)
