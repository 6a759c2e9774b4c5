-- What the calls of clap say, of a command that is a table's.
use Rattle.std.proofs.Common.{◌≡◌, List, [], ◌∷◌, Bool, true, false, refl, ap, ◌∙◌, inl, inr}
use Rattle.std.specs.Prelude.{◌&&◌}
use Rattle.clap.specs.Walk.{Text, rows_of}
use Rattle.clap.specs.Matches.{found_of}
use Rattle.clap.specs.Simple.{App, is_simple, matches_of, HasMatchesOf}
use Rattle.clap.specs.Kinds.{Kinds, HasKind}
use Rattle.clap.specs.Values.{kind_of}
use Rattle.clap.specs.declared.error.Error.{Error}
use Rattle.clap.specs.declared.error.kind.ErrorKind.TheVariants as kind
use Rattle.clap.specs.Faults.{is_free_app, is_simple_and_free}
use Rattle.clap.specs.Simple.{built}
use Rattle.clap.specs.declared.parser.matches.ArgMatches.{ArgMatches}

first_true : (a b : Bool) → (a && b) ≡ true → a ≡ true
first_true true b h = refl
first_true false b h = cc

-- the rows that a parse found
pub rows_are : (app target : App) (ws : List Text) (m : ArgMatches) → app ≡ target → is_simple_and_free target ≡ true → HasMatchesOf app ws m
    → rows_of (found_of m) ≡ matches_of target ws
rows_are app target ws m e free h =
    (h (ap is_simple e ∙ first_true (is_simple target) (is_free_app (built target)) free)).0 ∙ ap (λ a. matches_of a ws) e

pub refused_has_fault : (kinds : Kinds) (e : Error) → HasKind kinds e → ¬ (kind_of e ≡ kind.OutOfMemory) → ¬ (kinds ≡ [])
refused_has_fault [] e (inl h) bad n = bad h
refused_has_fault [] e (inr h) bad n = h
refused_has_fault (k ∷ ks) e h bad n = cc
