-- The first step of an interval.
use Rattle.std.proofs.Common.{◌≡◌, ℕ, ◌+◌, ◌-◌, ◌*◌, ◌/◌, ◌%◌, ◌<◌, ◌≤◌, sym, ap, ◌∙◌, arith}
use Rattle.std.proofs.Math.Nat.{mul-mod_left}
use Rattle.std.proofs.lemmas.Nat.{div-add-mod', mod-mul-add}

-- so many steps before a step an interval begins
pub begins : (n every : ℕ) → (n - n % every) % every ≡ 0
begins n every =
    let whole : n - n % every ≡ n / every * every = omega (arith, div-add-mod' n every) in
    ap (λ m. m % every) whole ∙ mul-mod_left (n / every) every

-- a step less than one interval behind a beginning
pub within : (n other every : ℕ) → 0 < every → other % every ≡ 0 → other ≤ n → n - other < every → n - other ≡ n % every
within n other every some begins low near =
    let there : other ≡ other / every * every = omega (arith, div-add-mod' other every) in
    let n_is : n ≡ other / every * every + (n - other) = omega arith in
    sym (ap (λ m. m % every) n_is ∙ mod-mul-add (other / every) every (n - other) near)
