-- Plans, one after the other.
use Rattle.std.proofs.Common.{◌≡◌, ℕ, ◌≤◌, Bool, true, false, cond, List, [], ◌∷◌, ◌++◌, Option, Some, None, refl, sym, ◌∙◌, ap, subst, append-nil}
use Rattle.std.specs.Prelude.{IfSome}
use Rattle.ras_host.specs.Told.{File, Outside, HostAction, Read, Performs, bytes_of}
use Rattle.ras_host.specs.ToldLaws.{performs_append}
use Rattle.ras_cli.specs.declared.status.Exit.TheVariants as exits
use Rattle.ras_cli.specs.Files.{limit_of}
use Rattle.ras_cli.specs.Refusals.{too_long}
use Rattle.ras_cli.specs.Plan.{Plan, Done, Refuse, Reading, Planned, line_written, calls_then, carried_out, is_longer, ◌>>=◌}
use Rattle.ras_cli.specs.Reaches.{value_in, reads_in, ComesTo, Made, Reaches, Stops}
use Rattle.ras_cli.specs.Follows.{Follows, AreReads, RunEnds}
use Rattle.ras_cli.proofs.FollowsLemmas.{follows_reads, reads_append}
use Rattle.ras_cli.proofs.EndsLemmas.{reads_end, same_ends}

-- ---- a plan, and then what follows its value

-- the value that follows
pub bind_value : {X Y : Type 0} (p : Plan X) (f : X → Plan Y) (files : List File) (x : X) → value_in p files ≡ Some x → value_in (p >>= f) files ≡ value_in (f x) files
bind_value (Done y) f files x e = let same : y ≡ x = cc in ap (λ z. value_in (f z) files) same
bind_value (Refuse line) f files x e = cc
bind_value (Reading file name whole) f files x e = go (is_longer files file name) e (bind_value (whole (bytes_of files name)) f files x)
  where
    go : (b : Bool) → cond b None (value_in (whole (bytes_of files name)) files) ≡ Some x → (value_in (whole (bytes_of files name)) files ≡ Some x → value_in (whole (bytes_of files name) >>= f) files ≡ value_in (f x) files)
        → cond b None (value_in (whole (bytes_of files name) >>= f) files) ≡ value_in (f x) files
    go true e onward = cc
    go false e onward = onward e

-- the reads that follow
pub bind_reads : {X Y : Type 0} (p : Plan X) (f : X → Plan Y) (files : List File) (x : X) → value_in p files ≡ Some x → reads_in (p >>= f) files ≡ reads_in p files ++ reads_in (f x) files
bind_reads (Done y) f files x e = let same : y ≡ x = cc in ap (λ z. reads_in (f z) files) same
bind_reads (Refuse line) f files x e = cc
bind_reads (Reading file name whole) f files x e = ap (λ (l : List HostAction). Read name (limit_of file) ∷ l) (go (is_longer files file name) e (bind_reads (whole (bytes_of files name)) f files x))
  where
    go : (b : Bool) → cond b None (value_in (whole (bytes_of files name)) files) ≡ Some x
        → (value_in (whole (bytes_of files name)) files ≡ Some x → reads_in (whole (bytes_of files name) >>= f) files ≡ reads_in (whole (bytes_of files name)) files ++ reads_in (f x) files)
        → cond b [] (reads_in (whole (bytes_of files name) >>= f) files) ≡ cond b [] (reads_in (whole (bytes_of files name)) files) ++ reads_in (f x) files
    go true e onward = cc
    go false e onward = onward e

-- the calls that follow
pub bind_carried : {X : Type 0} (p : Plan X) (next : X → Plan Planned) (files : List File) (x : X) → value_in p files ≡ Some x
    → calls_then (reads_in p files) (carried_out (next x) files) ≡ carried_out (p >>= next) files
bind_carried (Done y) next files x e = let same : y ≡ x = cc in ap (λ z. carried_out (next z) files) (sym same)
bind_carried (Refuse line) next files x e = cc
bind_carried (Reading file name whole) next files x e = go (is_longer files file name) e (bind_carried (whole (bytes_of files name)) next files x)
  where
    go : (b : Bool) → cond b None (value_in (whole (bytes_of files name)) files) ≡ Some x
        → (value_in (whole (bytes_of files name)) files ≡ Some x → calls_then (reads_in (whole (bytes_of files name)) files) (carried_out (next x) files) ≡ carried_out (whole (bytes_of files name) >>= next) files)
        → calls_then (Read name (limit_of file) ∷ cond b [] (reads_in (whole (bytes_of files name)) files)) (carried_out (next x) files)
        ≡ calls_then (Read name (limit_of file) ∷ []) (cond b (line_written exits.Refused (too_long file)) (carried_out (whole (bytes_of files name) >>= next) files))
    go true e onward = cc
    go false e onward = ap (calls_then (Read name (limit_of file) ∷ [])) (onward e)

-- three plans in order
pub bind_assoc : {X Y : Type 0} (p : Plan X) (f : X → Plan Y) (next : Y → Plan Planned) (files : List File)
    → carried_out (p >>= (λ x. f x >>= next)) files ≡ carried_out ((p >>= f) >>= next) files
bind_assoc (Done x) f next files = refl
bind_assoc (Refuse line) f next files = refl
bind_assoc (Reading file name whole) f next files =
    ap (λ (q : Planned). calls_then (Read name (limit_of file) ∷ []) (cond (is_longer files file name) (line_written exits.Refused (too_long file)) q)) (bind_assoc (whole (bytes_of files name)) f next files)

-- a value that follows a plan follows one that is a value
pub record DoneBoth {X Y : Type 0} (p : Plan X) (f : X → Plan Y) (y : Y) : Type 0 where
  pub x : X
  pub first : p ≡ Done x
  pub then : f x ≡ Done y

done_both : {X Y : Type 0} (p : Plan X) (f : X → Plan Y) (y : Y) → (p >>= f) ≡ Done y → DoneBoth p f y
done_both (Done x) f y e = record { x = x; first = refl; then = e }
done_both (Refuse line) f y e = absurd cc
done_both (Reading file name whole) f y e = absurd cc

same_done : {X : Type 0} (x y : X) → Done x ≡ Done y → x ≡ y
same_done x y e = cc

-- ---- reads that were made

made_then : (a b c : Outside) (xs ys : List HostAction) → Made a b xs → Made b c ys → Made a c (xs ++ ys)
made_then a b c [] ys e g = subst (λ (o : Outside). Made o c ys) e g
made_then a b c (x ∷ xs) [] h e = let P : List HostAction → Type 0 = λ l. Performs a c (x ∷ l) in subst P (sym (append-nil xs)) (subst (λ (o : Outside). Performs a o (x ∷ xs)) (sym e) h)
made_then a b c (x ∷ xs) (y ∷ ys) h g = performs_append a b c (x ∷ xs) (y ∷ ys) h g

made_files : (a b : Outside) (reads : List HostAction) → Made a b reads → b.files ≡ a.files
made_files a b [] e = ap (λ (o : Outside). o.files) e
made_files a b (x ∷ xs) h = h.files

made_follows : (a b c : Outside) (reads : List HostAction) (rest : Planned) (code : ℕ) → AreReads reads → Made a b reads → Follows b c rest code → Follows a c (calls_then reads rest) code
made_follows a b c [] rest code all e f = subst (λ (o : Outside). Follows o c rest code) e f
made_follows a b c (x ∷ xs) rest code all h f = follows_reads a b c (x ∷ xs) rest code all h f

pub made_ends : (a b c : Outside) (reads : List HostAction) (first faults now code : ℕ) → AreReads reads → Made a b reads → first ≤ faults → RunEnds b c faults now code → RunEnds a c first now code
made_ends a b c [] first faults now code all e low ends = same_ends a b c first faults now code e low ends
made_ends a b c (x ∷ xs) first faults now code all h low ends = reads_end a b c (x ∷ xs) first faults now code all h low ends

-- what holds where files are told, before and after
both_told : (before after : Option (List File)) (P Q R : List File → Type 0) → after ≡ before → IfSome before P → IfSome after Q → ((files : List File) → P files → Q files → R files) → IfSome before R
both_told None after P Q R e p q f = tt
both_told (Some files) after P Q R e p q f = let S : Option (List File) → Type 0 = λ o. IfSome o Q in f files p (subst S e q)

-- ---- what follows, and what is refused

-- a value, and nothing read
pub reached_done : {X : Type 0} (a b : Outside) (x : X) → b ≡ a → Reaches (Done x) a b x
reached_done a b x e = record { reads = []; all = tt; made = e; comes = all_told a.files; unread = λ y is. (refl, same_done x y is) }
  where
    all_told : (o : Option (List File)) → IfSome o (λ files. ComesTo (Done x) files [] x)
    all_told None = tt
    all_told (Some files) = record { made = refl; value = refl }

-- a plan that is a value
pub reached_same : {X : Type 0} (p : Plan X) (a b : Outside) (x : X) → p ≡ Done x → b ≡ a → Reaches p a b x
reached_same {X} p a b x e h = let P : Plan X → Type 0 = λ q. Reaches q a b x in subst P (sym e) (reached_done a b x h)

-- a value, and then what it comes to
pub reached_bind : {X Y : Type 0} (p : Plan X) (f : X → Plan Y) (a b c : Outside) (x : X) (y : Y) → Reaches p a b x → Reaches (f x) b c y → Reaches (p >>= f) a c y
reached_bind p f a b c x y r s = record {
  reads = r.reads ++ s.reads;
  all = reads_append r.reads s.reads r.all s.all;
  made = made_then a b c r.reads s.reads r.made s.made;
  comes = both_told a.files b.files _ _ _ (made_files a b r.reads r.made) r.comes s.comes (λ files k h. record {
    made = ap (λ (l : List HostAction). l ++ s.reads) k.made ∙ ap (λ (l : List HostAction). reads_in p files ++ l) h.made ∙ sym (bind_reads p f files x k.value);
    value = bind_value p f files x k.value ∙ h.value;
  });
  unread = λ z is.
      let both = done_both p f z is in
      let first = r.unread both.x both.first in
      let then = s.unread z (ap f first.1 ∙ both.then) in
      (ap (λ (l : List HostAction). l ++ s.reads) first.0 ∙ then.0, then.1);
}

-- a value, and then what is done with it
pub follows_value : {X : Type 0} (p : Plan X) (next : X → Plan Planned) (a b c : Outside) (x : X) (code : ℕ) → Reaches p a b x → IfSome b.files (λ files. Follows b c (carried_out (next x) files) code)
    → IfSome a.files (λ files. Follows a c (carried_out (p >>= next) files) code)
follows_value p next a b c x code r f = both_told a.files b.files _ _ _ (made_files a b r.reads r.made) r.comes f (λ files k h.
    let P : Planned → Type 0 = λ q. Follows a c q code in
    let Q : List HostAction → Type 0 = λ l. Follows a c (calls_then l (carried_out (next x) files)) code in
    subst P (bind_carried p next files x k.value) (subst Q k.made (made_follows a b c r.reads _ code r.all r.made h)))

-- a value, and then a refusal
pub follows_bind : {X Y : Type 0} (p : Plan X) (f : X → Plan Y) (a b c : Outside) (x : X) (first faults now code : ℕ) → Reaches p a b x → first ≤ faults → Stops (f x) b c faults now code → Stops (p >>= f) a c first now code
follows_bind p f a b c x first faults now code r low s = record {
  refusal = s.refusal;
  ends = made_ends a b c r.reads first faults now code r.all r.made low s.ends;
  follows = both_told a.files b.files _ _ _ (made_files a b r.reads r.made) r.comes s.follows (λ files k h next.
      let P : Planned → Type 0 = λ q. Follows a c q code in
      let Q : List HostAction → Type 0 = λ l. Follows a c (calls_then l (carried_out (f x >>= next) files)) code in
      subst P (bind_assoc p f next files)
      (subst P (bind_carried p (λ z. f z >>= next) files x k.value) (subst Q k.made (made_follows a b c r.reads _ code r.all r.made (h next)))));
  valued = λ z is.
      let both = done_both p f z is in
      s.valued z (ap f (r.unread both.x both.first).1 ∙ both.then);
}

-- what a refusal follows
pub stops_follow : {X : Type 0} (p : Plan X) (next : X → Plan Planned) (a b : Outside) (faults now code : ℕ) → Stops p a b faults now code → IfSome a.files (λ files. Follows a b (carried_out (p >>= next) files) code)
stops_follow {X} p next a b faults now code s = told a.files s.follows
  where
    told : (o : Option (List File)) → IfSome o (λ files. (next : X → Plan Planned) → Follows a b (carried_out (p >>= next) files) code) → IfSome o (λ files. Follows a b (carried_out (p >>= next) files) code)
    told None h = tt
    told (Some files) h = h next

-- a refusal is one of whatever was to follow
pub refused_bind : {X Y : Type 0} (p : Plan X) (f : X → Plan Y) (a b : Outside) (faults now code : ℕ) → Stops p a b faults now code → Stops (p >>= f) a b faults now code
refused_bind {X} {Y} p f a b faults now code s = record {
  refusal = s.refusal;
  ends = s.ends;
  follows = all_told a.files s.follows;
  valued = λ z is. let both = done_both p f z is in s.valued both.x both.first;
}
  where
    all_told : (o : Option (List File)) → IfSome o (λ files. (next : X → Plan Planned) → Follows a b (carried_out (p >>= next) files) code)
        → IfSome o (λ files. (next : Y → Plan Planned) → Follows a b (carried_out ((p >>= f) >>= next) files) code)
    all_told None h = tt
    all_told (Some files) h = λ next. let P : Planned → Type 0 = λ q. Follows a b q code in subst P (bind_assoc p f next files) (h (λ x. f x >>= next))
