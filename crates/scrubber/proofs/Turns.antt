-- A patrol moves on once in each `every` steps.
use Rattle.std.proofs.Common.{◌≡◌, ℕ, zero, suc, ◌+◌, ◌-◌, ◌*◌, ◌/◌, ◌%◌, ◌==◌, ◌<◌, Bool, true, false, nat_lt, ◌&&◌, cond, refl, subst, sym, ap, ◌∙◌, arith}
use Rattle.std.proofs.Math.Nat.{mod-lt, mod-eq_of_lt, mod-add-mod, zero-div}
use Rattle.std.proofs.lemmas.Nat.{div-mul-add, div-add-mod'}
use Rattle.scrubber.specs.PatrolState.{PatrolState}
use Rattle.scrubber.specs.Patrol.{is_due, next_after, moved_on, after_steps}

-- one step more ends a round exactly in the last step of it
next_round : (n every : ℕ) → 0 < every → (n + 1) / every ≡ n / every + cond (n % every == every - 1) 1 0
next_round n every some = by_last (n / every) (n % every) (div-add-mod' n every) (mod-lt n some) (n % every == every - 1) refl
  where
    by_last : (q r : ℕ) → q * every + r ≡ n → r < every → (b : Bool) → (r == every - 1) ≡ b → (n + 1) / every ≡ q + cond b 1 0
    by_last q r whole below true h =
        let full : n + 1 ≡ (q + 1) * every + 0 = grind arith in
        ap (λ m. m / every) full ∙ div-mul-add (q + 1) every 0 some
    by_last q r whole below false h =
        let more : r + 1 < every = grind arith in
        let part : n + 1 ≡ q * every + (r + 1) = omega (arith, whole) in
        ap (λ m. m / every) part ∙ div-mul-add q every (r + 1) more ∙ omega arith

pub record InTurn (p q : PatrolState) (n : ℕ) : Type 0 where
  pub every : q.every ≡ p.every
  pub words : q.words ≡ p.words
  pub next : q.next ≡ next_after p (n / p.every)

moved : (next words round next' words' round' : ℕ) → next' ≡ (next + round) % words → words' ≡ words → round' ≡ round + 1
    → (next' + 1) % words' ≡ (next + round') % words
moved next words round next' words' round' is same further =
    let one : ((next + round) % words + 1) % words ≡ (next + round + 1) % words = mod-add-mod (next + round) words 1 in
    let left : next + round + 1 ≡ next + round' = omega (arith, further) in
    ap (λ m. (m + 1) % words') is ∙ ap (λ w. ((next + round) % words + 1) % w) same ∙ one ∙ ap (λ m. m % words) left

-- one step more
next_step : (p q : PatrolState) (n : ℕ) → 0 < p.every → InTurn p q n → InTurn p (cond (is_due q n) (moved_on q) q) (n + 1)
next_step p q n some h = by_due (is_due q n) (due_is q.every h.every)
  where
    due_is : (every : ℕ) → every ≡ p.every → (nat_lt 0 every && n % every == every - 1) ≡ (n % p.every == p.every - 1)
    due_is every same = rw same (grind arith)

    by_due : (b : Bool) → b ≡ (n % p.every == p.every - 1) → InTurn p (cond b (moved_on q) q) (n + 1)
    by_due true due = record {
      every = h.every;
      words = h.words;
      next = moved p.next p.words (n / p.every) q.next q.words ((n + 1) / p.every) h.next h.words
          (next_round n p.every some ∙ ap (λ b. n / p.every + cond b 1 0) (sym due));
    }
    by_due false due = record {
      every = h.every;
      words = h.words;
      next = h.next ∙ ap (λ m. next_after p m) (sym (next_round n p.every some ∙ ap (λ b. n / p.every + cond b 1 0) (sym due) ∙ omega arith));
    }

suc_is : (n : ℕ) → n + 1 ≡ suc n
suc_is n = omega arith

pub in_turn : (p : PatrolState) (n : ℕ) → p.next < p.words → 0 < p.every → InTurn p (after_steps p n) n
in_turn p zero within some = record { every = refl; words = refl; next = at_first }
  where
    none : 0 / p.every ≡ 0
    none = zero-div p.every

    at_first : p.next ≡ next_after p (0 / p.every)
    at_first = sym (ap (λ m. next_after p m) none ∙ ap (λ m. m % p.words) (omega arith) ∙ mod-eq_of_lt within)
in_turn p (suc n) within some =
    subst (λ m. InTurn p (after_steps p (suc n)) m) (suc_is n) (next_step p (after_steps p n) n some (in_turn p n within some))
