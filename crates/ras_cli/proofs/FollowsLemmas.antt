-- A plan is followed call by call.
use Rattle.std.proofs.Common.{◌≡◌, ◌≢◌, ℕ, arith, Bool, true, false, Option, Some, None, List, [], ◌∷◌, ◌++◌, nat_eq, append-nil, append_assoc, refl, sym, ◌∙◌, ap, inl, inr, subst}
use Rattle.std.specs.Prelude.{IfSome, ◌⊎◌}
use Rattle.std.proofs.lemmas.Bool.Decides.{nat_tests}
use Rattle.ras_host.specs.Told.{Bytes, File, Outside, HostCall, host_call_of, calls_of, HostAction, Read, Create, MissCreate, Out, Err, Performs}
use Rattle.ras_host.specs.ToldLaws.{performs_append, performs_then, calls_append}
use Rattle.ras_words.specs.Commands.{command_of}
use Rattle.ras_cli.specs.Refusals.{usage}
use Rattle.ras_cli.specs.declared.status.Exit.TheVariants as exits
use Rattle.ras_cli.specs.Plan.{Planned, calls_then, line_written}
use Rattle.ras_cli.specs.Plans.{planned_by}
use Rattle.ras_cli.specs.Reaches.{Made}
use Rattle.ras_cli.specs.Follows.{IsFailed, IsCut, Cuts, AreReads, IsStopped, IsFront, MakesFront, Follows, WritesLine}

abbrev planned : ℕ → List HostAction → Planned
planned code actions = record { code = code; actions = actions }

three≢four : (a b : ℕ) → a ≡ 3 → b ≡ 4 → a ≡ b → ⊥
three≢four a b p q e = omega (arith, p, q, e)

-- want of memory before any call
pub follows_nothing : (a : Outside) (plan : Planned) → Follows a a plan 4
follows_nothing a plan = record {
  status = λ _ no4. absurd (no4 refl);
  whole = λ _ no4. absurd (no4 refl);
  cut = λ e. absurd (three≢four 3 4 refl refl (sym e));
  stopped = λ _. inl refl;
}

-- reads, and then reads
pub reads_append : (xs ys : List HostAction) → AreReads xs → AreReads ys → AreReads (xs ++ ys)
reads_append [] ys h g = g
reads_append (x ∷ xs) ys h g = (h.0, reads_append xs ys h.1 g)

abbrev Stopped : Outside → Outside → List HostAction → Type 0
Stopped a b actions = (b ≡ a) ⊎ ((done : List HostAction) × IsStopped actions done × Performs a b done)

cut_append : (reads actions done : List HostAction) → IsCut actions done → IsCut (reads ++ actions) (reads ++ done)
cut_append [] actions done h = h
cut_append (x ∷ reads) actions done h = inr (reads ++ done, refl, cut_append reads actions done h)

stopped_append : (a b c : Outside) (reads actions : List HostAction) → AreReads reads → Performs a b reads → Stopped b c actions → Stopped a c (reads ++ actions)
stopped_append a b c reads actions all h (inl e) =
    inr (reads, record { rest = actions; front = refl; reads = all }, subst (λ o. Performs a o reads) (sym e) h)
stopped_append a b c reads actions all h (inr k) =
    inr (
      reads ++ k.0,
      record {
        rest = k.1.rest;
        front = ap (λ (l : List HostAction). reads ++ l) k.1.front ∙ sym (append_assoc reads k.0 k.1.rest);
        reads = reads_append reads k.0 all k.1.reads;
      },
      performs_append a b c reads k.0 h k.2,
    )

-- reads that were made, and then the rest of the plan
pub follows_reads : (a b c : Outside) (reads : List HostAction) (rest : Planned) (code : ℕ) → AreReads reads → Performs a b reads → Follows b c rest code → Follows a c (calls_then reads rest) code
follows_reads a b c reads rest code all h g = record {
  status = g.status;
  whole = λ no3 no4. performs_append a b c reads rest.actions h (g.whole no3 no4);
  cut = λ e. let k = g.cut e in (reads ++ k.0, cut_append reads rest.actions k.0 k.1, performs_append a b c reads k.0 h k.2);
  stopped = λ e. stopped_append a b c reads rest.actions all h (g.stopped e);
}

pub follows_read : (a b c : Outside) (name : Bytes) (limit : ℕ) (rest : Planned) (code : ℕ) → Performs a b (Read name limit ∷ []) → Follows b c rest code → Follows a c (calls_then (Read name limit ∷ []) rest) code
follows_read a b c name limit rest code h g = follows_reads a b c (Read name limit ∷ []) rest code (tt, tt) h g

-- ---- writes, one after the other

-- all of a plan was done
pub follows_done : (a b : Outside) (actions : List HostAction) (code : ℕ) → code ≢ 3 → code ≢ 4 → Performs a b actions → Follows a b (planned code actions) code
follows_done a b actions code no3 no4 h = record {
  status = λ _ _. refl;
  whole = λ _ _. h;
  cut = λ e. absurd (no3 e);
  stopped = λ e. absurd (no4 e);
}

-- a call of it failed
pub follows_cut : (a b : Outside) (actions : List HostAction) (code : ℕ) → Cuts a b actions → Follows a b (planned code actions) 3
follows_cut a b actions code h = record {
  status = λ no3 _. absurd (no3 refl);
  whole = λ no3 _. absurd (no3 refl);
  cut = λ _. h;
  stopped = λ e. absurd (three≢four 3 4 refl refl e);
}

-- the first call failed
pub cut_first : (a b : Outside) (action : HostAction) (actions done : List HostAction) → IsFailed action done → Performs a b done → Cuts a b (action ∷ actions)
cut_first a b action actions done failed h = (done, inl failed, h)

-- the first call was made, and a later one failed
pub cut_then : (a b c : Outside) (action : HostAction) (actions : List HostAction) → Performs a b (action ∷ []) → Cuts b c actions → Cuts a c (action ∷ actions)
cut_then a b c action actions made h = (action ∷ h.0, inr (h.0, refl, h.1), performs_then a b c action h.0 made h.2)

-- one of the first calls failed
pub cut_more : (a b : Outside) (xs ys : List HostAction) → Cuts a b xs → Cuts a b (xs ++ ys)
cut_more a b xs ys h = (h.0, more xs h.0 h.1, h.2)
  where
    more : (xs done : List HostAction) → IsCut xs done → IsCut (xs ++ ys) done
    more [] done cut = absurd cut
    more (x ∷ xs) done (inl failed) = inl failed
    more (x ∷ xs) done (inr k) = inr (k.0, k.1, more xs k.0 k.2)

-- calls were made, and a later one failed
pub cut_behind : (a b c : Outside) (xs ys : List HostAction) → Performs a b xs → Cuts b c ys → Cuts a c (xs ++ ys)
cut_behind a b c xs ys made h = (xs ++ h.0, cut_append xs ys h.0 h.1, performs_append a b c xs h.0 made h.2)

-- the first calls were made, and a later one failed
pub made_cut : (a b c : Outside) (xs ys : List HostAction) → Made a b xs → Cuts b c ys → Cuts a c (xs ++ ys)
made_cut a b c [] ys e h = subst (λ (o : Outside). Cuts o c ys) e h
made_cut a b c (x ∷ xs) ys made h = cut_behind a b c (x ∷ xs) ys made h

-- the first calls were made, and then the others
pub made_performs : (a b c : Outside) (xs ys : List HostAction) → Made a b xs → Performs b c ys → Performs a c (xs ++ ys)
made_performs a b c [] ys e h = subst (λ (o : Outside). Performs o c ys) e h
made_performs a b c (x ∷ xs) ys made h = performs_append a b c (x ∷ xs) ys made h

pub if_some_all : {T : Type 0} (o : Option T) (Q : T → Type 0) → ((x : T) → Q x) → IfSome o Q
if_some_all None Q f = tt
if_some_all (Some x) Q f = f x

pub not_four : (code n : ℕ) → (code ≡ n) ⊎ (code ≡ 3) → n ≢ 4 → code ≢ 4
not_four code n (inl h) no4 e = no4 (sym h ∙ e)
not_four code n (inr h) no4 e = three≢four 3 4 refl refl (sym h ∙ e)

-- words that ask for nothing
pub refused_words : (files : Option (List File)) (words : List Bytes) (a b : Outside) (code : ℕ) → command_of words ≡ None
    → Follows a b (line_written exits.Usage usage) code → IfSome files (λ fs. Follows a b (planned_by words fs) code)
refused_words None words a b code e h = tt
refused_words (Some fs) words a b code e h = rw e h

-- ---- the calls that are made are the first of the plan's

front_all : (plan : Planned) → IsFront plan plan.actions
front_all plan = record { rest = []; front = sym (append-nil (calls_of plan.actions)) }

cut_front : (actions done : List HostAction) → IsCut actions done → (rest : List HostCall) × (calls_of actions ≡ calls_of done ++ rest)
cut_front [] done h = absurd h
cut_front (x ∷ xs) done (inl f) = failed x f
  where
    failed : (x : HostAction) → IsFailed x done → (rest : List HostCall) × (calls_of (x ∷ xs) ≡ calls_of done ++ rest)
    failed (Read name limit) e = (calls_of xs, rw e refl)
    failed (Create name bytes) (inl e) = (calls_of xs, rw e refl)
    failed (Create name bytes) (inr e) = (calls_of xs, rw e.1 refl)
    failed (MissCreate name) e = (calls_of xs, rw e refl)
    failed (Out bytes) e = (calls_of xs, rw e.1 refl)
    failed (Err bytes) e = (calls_of xs, rw e.1 refl)
cut_front (x ∷ xs) done (inr k) =
    let more = cut_front xs k.0 k.2 in
    (more.0, rw k.1 (ap (λ (l : List HostCall). host_call_of x ∷ l) more.1))

pub makes_front : (a b : Outside) (plan : Planned) (code : ℕ) → Follows a b plan code → MakesFront a b plan
makes_front a b plan code f = by_three (nat_eq code 3) refl
  where
    by_four : code ≢ 3 → (t : Bool) → nat_eq code 4 ≡ t → MakesFront a b plan
    by_four no3 true e = by_stop (f.stopped (grind (arith, nat_tests)))
      where
        by_stop : (b ≡ a) ⊎ ((done : List HostAction) × IsStopped plan.actions done × Performs a b done) → MakesFront a b plan
        by_stop (inl same) = inl same
        by_stop (inr k) = inr (k.0, record { rest = calls_of k.1.rest; front = ap calls_of k.1.front ∙ calls_append k.0 k.1.rest }, k.2)
    by_four no3 false e = inr (plan.actions, front_all plan, f.whole no3 (grind (arith, nat_tests)))

    by_three : (t : Bool) → nat_eq code 3 ≡ t → MakesFront a b plan
    by_three true e =
        let k = f.cut (grind (arith, nat_tests)) in
        let r = cut_front plan.actions k.0 k.1 in
        inr (k.0, record { rest = r.0; front = r.1 }, k.2)
    by_three false e = by_four (grind (arith, nat_tests)) (nat_eq code 4) refl

-- the same where the host tells its files
pub all_make_front : (files : Option (List File)) (plan : List File → Planned) (a b : Outside) (code : ℕ)
    → IfSome files (λ fs. Follows a b (plan fs) code) → IfSome files (λ fs. MakesFront a b (plan fs))
all_make_front None plan a b code f = tt
all_make_front (Some fs) plan a b code f = makes_front a b (plan fs) code f

-- a line was written for refused words
pub usage_line : (a b : Outside) (code : ℕ) → Follows a b (line_written exits.Usage usage) code → (code ≡ 1) ⊎ (code ≡ 2) → WritesLine a b
usage_line a b code f (inl e) = ([], usage, tt, f.whole (λ x. omega (arith, x, e)) (λ x. omega (arith, x, e)))
usage_line a b code f (inr e) = ([], usage, tt, f.whole (λ x. omega (arith, x, e)) (λ x. omega (arith, x, e)))
