-- How a run ends over any host.
use Rattle.std.proofs.Common.{◌≡◌, ◌≢◌, ℕ, ◌≤◌, arith, List, [], ◌∷◌, ◌++◌, append_assoc, sym, inl, inr, subst}
use Rattle.std.specs.Prelude.{◌⊎◌}
use Rattle.ras_host.specs.Causes.{Rose}
use Rattle.ras_host.specs.Told.{Bytes, Outside, HostAction, Read, Err, Performs}
use Rattle.ras_host.specs.ToldLaws.{performs_append}
use Rattle.ras_cli.specs.declared.status.Exit.TheVariants as exits
use Rattle.ras_cli.specs.Status.{IsDone}
use Rattle.ras_cli.specs.Plan.{line_written}
use Rattle.ras_cli.specs.Follows.{AreReads, Follows, OnlyReads, WritesLine, RunEnds}
use Rattle.ras_cli.proofs.FollowsLemmas.{not_four, reads_append}

-- reads, and then nothing but reads
reads_then : (a b c : Outside) (reads : List HostAction) → AreReads reads → Performs a b reads → OnlyReads b c → OnlyReads a c
reads_then a b c reads all h (inl e) = inr (reads, all, subst (λ o. Performs a o reads) (sym e) h)
reads_then a b c reads all h (inr k) = inr (reads ++ k.0, reads_append reads k.0 all k.1, performs_append a b c reads k.0 h k.2)

-- reads, and then a line
reads_line : (a b c : Outside) (reads : List HostAction) → AreReads reads → Performs a b reads → WritesLine b c → WritesLine a c
reads_line a b c reads all h k = (
  reads ++ k.0,
  k.1,
  reads_append reads k.0 all k.2,
  subst (λ (l : List HostAction). Performs a c l) (sym (append_assoc reads k.0 (Err k.1 ∷ []))) (performs_append a b c reads (k.0 ++ Err k.1 ∷ []) h k.3),
)

pub rose_later : (first before now : ℕ) → first ≤ before → Rose before now → Rose first now
rose_later first before now h (inl r) = inl (omega arith)
rose_later first before now h (inr r) = inr r

-- a line was written, or the host failed at it
pub line_ends : (a b : Outside) (line : Bytes) (faults now code : ℕ) → Follows a b (line_written exits.Refused line) code → (code ≡ 2) ⊎ (code ≡ 3) → faults ≤ now → (code ≡ 3 → Rose faults now) → RunEnds a b faults now code
line_ends a b line faults now code f either later cause = record {
  range = by_range either;
  words = by_words either;
  refused = λ two. ([], line, tt, f.whole (λ e. omega (arith, e, two)) (λ e. omega (arith, e, two)));
  unwritten = λ four. absurd (not_four code 2 either (λ e. omega (arith, e)) four);
  later = later;
  cause = cause;
}
  where
    by_range : (code ≡ 2) ⊎ (code ≡ 3) → code ≤ 6
    by_range (inl e) = omega arith
    by_range (inr e) = omega arith

    by_words : (code ≡ 2) ⊎ (code ≡ 3) → code ≢ 1
    by_words (inl e) one = omega (arith, e, one)
    by_words (inr e) one = omega (arith, e, one)

-- outputs were written, or the host failed at them
pub outputs_end : (a b : Outside) (faults now wanted code : ℕ) → (code ≡ wanted) ⊎ (code ≡ 3) → IsDone wanted → faults ≤ now → (code ≡ 3 → Rose faults now) → RunEnds a b faults now code
outputs_end a b faults now wanted code either done later cause =
    let p = by_done done either in
    record {
      range = p.0;
      words = λ e. omega (arith, p.1, e);
      refused = λ e. absurd (omega (arith, p.1, e));
      unwritten = λ e. absurd (omega (arith, p.1, e));
      later = later;
      cause = cause;
    }
  where
    by_done : IsDone wanted → (code ≡ wanted) ⊎ (code ≡ 3) → (code ≤ 6) × ((code ≡ 0) ⊎ ((code ≡ 5) ⊎ ((code ≡ 6) ⊎ (code ≡ 3))))
    by_done (inl w) (inl e) = (omega arith, inl (omega arith))
    by_done (inr (inl w)) (inl e) = (omega arith, inr (inl (omega arith)))
    by_done (inr (inr w)) (inl e) = (omega arith, inr (inr (inl (omega arith))))
    by_done w (inr e) = (omega arith, inr (inr (inr e)))

-- want of memory
pub memory_ends : (a b : Outside) (faults now : ℕ) → OnlyReads a b → faults ≤ now → RunEnds a b faults now 4
memory_ends a b faults now reads later = record {
  range = omega arith;
  words = λ e. omega (arith, e);
  refused = λ e. absurd (omega (arith, e));
  unwritten = λ _. reads;
  later = later;
  cause = λ e. absurd (omega (arith, e));
}

-- reads, and then an end
pub reads_end : (a b c : Outside) (reads : List HostAction) (first faults now code : ℕ) → AreReads reads → Performs a b reads → first ≤ faults → RunEnds b c faults now code → RunEnds a c first now code
reads_end a b c reads first faults now code all h low e = record {
  range = e.range;
  words = e.words;
  refused = λ two. reads_line a b c reads all h (e.refused two);
  unwritten = λ four. reads_then a b c reads all h (e.unwritten four);
  later = omega (arith, e.later);
  cause = λ three. rose_later first faults now low (e.cause three);
}

pub read_ends : (a b c : Outside) (name : Bytes) (limit first faults now code : ℕ) → Performs a b (Read name limit ∷ []) → first ≤ faults → RunEnds b c faults now code → RunEnds a c first now code
read_ends a b c name limit first faults now code h low e = reads_end a b c (Read name limit ∷ []) first faults now code (tt, tt) h low e

-- nothing, and then an end
pub same_ends : (a b c : Outside) (first faults now code : ℕ) → b ≡ a → first ≤ faults → RunEnds b c faults now code → RunEnds a c first now code
same_ends a b c first faults now code same low e = subst (λ (o : Outside). RunEnds o c first now code) same (record {
  range = e.range;
  words = e.words;
  refused = e.refused;
  unwritten = e.unwritten;
  later = omega (arith, e.later);
  cause = λ three. rose_later first faults now low (e.cause three);
})

-- a run writes a line only where a file is refused
pub ends_line : (a b : Outside) (faults now code : ℕ) → RunEnds a b faults now code → (code ≡ 1) ⊎ (code ≡ 2) → WritesLine a b
ends_line a b faults now code e (inl one) = absurd (e.words one)
ends_line a b faults now code e (inr two) = e.refused two
