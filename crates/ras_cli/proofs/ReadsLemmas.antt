-- Files that are read, and what refuses them.
use Rattle.std.proofs.Common.{◌≡◌, ℕ, ◌≤◌, ◌<◌, arith, true, false, List, [], ◌∷◌, Option, Some, None, length, refl, sym, ◌∙◌, ap, subst, inl, inr}
use Rattle.std.specs.Prelude.{IfSome, Result, Err as Error}
use Rattle.std.proofs.lemmas.Bool.{le-ltb, lt-ltb}
use Rattle.elf_load.specs.Program.{Program, AnswersOrNoMemory}
use Rattle.elf_load.specs.declared.refusals.ElfRefused.{ElfRefused}
use Rattle.elf_load.specs.declared.refusals.ElfRefused.TheVariants as refused
use Rattle.ras_host.specs.Causes.{Rose}
use Rattle.ras_host.specs.Told.{Bytes, File, Outside, HostAction, Read, Performs, bytes_of}
use Rattle.ras_cli.specs.declared.files.FileKind.{FileKind}
use Rattle.ras_cli.specs.declared.status.Exit.TheVariants as exits
use Rattle.ras_cli.specs.Files.{limit_of}
use Rattle.ras_cli.specs.Status.{code_of, IsRefusal}
use Rattle.ras_cli.specs.Refusals.{too_long, image_refused}
use Rattle.ras_cli.specs.Plan.{Plan, Done, Refuse, Planned, line_written, calls_then, carried_out, is_longer, ◌>>=◌, file_plan, named_plan, accepted_image}
use Rattle.ras_cli.specs.Reaches.{ComesTo, Reaches, Stops}
use Rattle.ras_cli.specs.Follows.{Follows, RunEnds}
use Rattle.ras_cli.proofs.Small.{same_cond}
use Rattle.ras_cli.proofs.FollowsLemmas.{follows_nothing, follows_read, if_some_all}
use Rattle.ras_cli.proofs.EndsLemmas.{read_ends, memory_ends}
use Rattle.ras_cli.proofs.PlanLemmas.{reached_same}

-- a file isn't a value
never_done : (file : FileKind) (name : Bytes) (y : Bytes) → file_plan file name ≡ Done y → ⊥
never_done file name y is = cc

-- a file within its limit
pub whole_read : (file : FileKind) (name : Bytes) (a b : Outside) (bytes : Bytes) → IfSome a.files (λ files. (length (bytes_of files name) ≤ limit_of file) × (bytes ≡ bytes_of files name))
    → Performs a b (Read name (limit_of file) ∷ []) → Reaches (file_plan file name) a b bytes
whole_read file name a b bytes got h = record {
  reads = Read name (limit_of file) ∷ [];
  all = (tt, tt);
  made = h;
  comes = told a.files got;
  unread = λ y is. absurd (never_done file name y is);
}
  where
    told : (o : Option (List File)) → IfSome o (λ files. (length (bytes_of files name) ≤ limit_of file) × (bytes ≡ bytes_of files name))
        → IfSome o (λ files. ComesTo (file_plan file name) files (Read name (limit_of file) ∷ []) bytes)
    told None g = tt
    told (Some files) g =
        let fits : is_longer files file name ≡ false = le-ltb (limit_of file) (length (bytes_of files name)) g.0 in
        record { made = ap (λ (l : List HostAction). Read name (limit_of file) ∷ l) (sym (same_cond (is_longer files file name) [])); value = rw fits (ap Some (sym g.1)) }

-- no file is named
pub unnamed_read : (file : FileKind) (name : Option Bytes) (a b : Outside) (bytes : Bytes) → name ≡ None → bytes ≡ [] → b ≡ a → Reaches (named_plan file name) a b bytes
unnamed_read file name a b bytes e h same = reached_same (named_plan file name) a b bytes (ap (named_plan file) e ∙ ap Done (sym h)) same

-- a file that is longer
pub longer_stops : (file : FileKind) (name : Bytes) (a b c : Outside) (first faults now code : ℕ) → IfSome a.files (λ files. limit_of file < length (bytes_of files name))
    → Performs a b (Read name (limit_of file) ∷ []) → first ≤ faults → Follows b c (line_written exits.Refused (too_long file)) code → IsRefusal code → RunEnds b c faults now code
    → Stops (file_plan file name) a c first now code
longer_stops file name a b c first faults now code got h low f is ends = record {
  refusal = is;
  ends = read_ends a b c name (limit_of file) first faults now code h low ends;
  follows = told a.files got;
  valued = λ y same. absurd (never_done file name y same);
}
  where
    told : (o : Option (List File)) → IfSome o (λ files. limit_of file < length (bytes_of files name))
        → IfSome o (λ files. (next : Bytes → Plan Planned) → Follows a c (carried_out (file_plan file name >>= next) files) code)
    told None g = tt
    told (Some files) g = λ next.
        let longer : is_longer files file name ≡ true = lt-ltb (limit_of file) (length (bytes_of files name)) g in
        rw longer (follows_read a b c name (limit_of file) (line_written exits.Refused (too_long file)) code h f)

-- a read that failed
failed_follows : (a b : Outside) (name : Bytes) (limit : ℕ) (rest : Planned) → Performs a b (Read name limit ∷ []) → Follows a b (calls_then (Read name limit ∷ []) rest) (code_of exits.HostFailed)
failed_follows a b name limit rest h = record {
  status = λ no3 no4. absurd (no3 refl);
  whole = λ no3 no4. absurd (no3 refl);
  cut = λ e. (Read name limit ∷ [], inl refl, h);
  stopped = λ e. absurd (omega (arith, e));
}

pub failed_stops : (file : FileKind) (name : Bytes) (a b : Outside) (faults now : ℕ) → Performs a b (Read name (limit_of file) ∷ []) → faults ≤ now → Rose faults now → Stops (file_plan file name) a b faults now (code_of exits.HostFailed)
failed_stops file name a b faults now h later rose = record {
  refusal = inr (inl refl);
  ends = record {
    range = omega arith;
    words = λ e. omega (arith, e);
    refused = λ e. absurd (omega (arith, e));
    unwritten = λ e. absurd (omega (arith, e));
    later = later;
    cause = λ _. rose;
  };
  follows = if_some_all a.files _ (λ files next. failed_follows a b name (limit_of file) _ h);
  valued = λ y is. absurd (never_done file name y is);
}

-- want of memory in a read
pub unread_stops : (file : FileKind) (name : Bytes) (a b : Outside) (faults now : ℕ) → Performs a b (Read name (limit_of file) ∷ []) → faults ≤ now → Stops (file_plan file name) a b faults now (code_of exits.NoMemory)
unread_stops file name a b faults now h later = record {
  refusal = inr (inr refl);
  ends = memory_ends a b faults now (inr (Read name (limit_of file) ∷ [], (tt, tt), h)) later;
  follows = if_some_all a.files _ (λ files next. follows_read a b b name (limit_of file) _ (code_of exits.NoMemory) h (follows_nothing b _));
  valued = λ y is. refl;
}

-- want of memory, and nothing done
pub memory_stops : {X : Type 0} (p : Plan X) (a b : Outside) (faults now : ℕ) → b ≡ a → faults ≤ now → Stops p a b faults now (code_of exits.NoMemory)
memory_stops p a b faults now e later = record {
  refusal = inr (inr refl);
  ends = memory_ends a b faults now (inl e) later;
  follows = if_some_all a.files _ (λ files next. subst (λ (o : Outside). Follows a o (carried_out (p >>= next) files) (code_of exits.NoMemory)) (sym e) (follows_nothing a _));
  valued = λ y is. refl;
}

-- a refusal isn't a value
never_both : {X : Type 0} (line : Bytes) (y : X) → Refuse line ≡ Done y → ⊥
never_both line y is = cc

-- a line that refuses
pub refuse_stops : {X : Type 0} (p : Plan X) (line : Bytes) (a b : Outside) (faults now code : ℕ) → p ≡ Refuse line → Follows a b (line_written exits.Refused line) code → IsRefusal code → RunEnds a b faults now code
    → Stops p a b faults now code
refuse_stops {X} p line a b faults now code e f is ends = record {
  refusal = is;
  ends = ends;
  follows = if_some_all a.files _ (λ files next. subst (λ (q : Plan X). Follows a b (carried_out (q >>= next) files) code) (sym e) f);
  valued = λ y same. absurd (never_both line y (sym e ∙ same));
}

-- an image that is refused for another cause than want of memory
pub image_refuses : (image : Result Program ElfRefused) (refusal : ElfRefused) → ¬ (refusal ≡ refused.NoMemory) → AnswersOrNoMemory image (Error refusal) → accepted_image image ≡ Refuse (image_refused refusal)
image_refuses image refused.NoMemory other h = absurd (other refl)
image_refuses image refusal other h = ap accepted_image h
