-- Calls of the host behind other calls. A session may write nothing, and that a host is unchanged doesn't say that no action was performed, which
-- says besides that each count that it tells is below 2^64. So the calls are joined to those before them.
use Rattle.std.specs.Prelude.{ℕ, List, ◌++◌}
use Rattle.ras_host.specs.Told.{Outside, HostAction, Performs}
use Rattle.ras_cli.specs.Plan.{Planned, calls_then}
use Rattle.ras_cli.specs.Follows.{AreReads, Cuts, Follows}

-- the actions and nothing else were done, behind whatever was done before
abbrev pub PerformsBehind : Outside → Outside → List HostAction → Type 0
PerformsBehind before after actions =
    (start : Outside) (done : List HostAction) → Performs start before done → Performs start after (done ++ actions)

-- they were done up to one, and nothing else was done
abbrev pub CutsBehind : Outside → Outside → List HostAction → Type 0
CutsBehind before after actions =
    (start : Outside) (done : List HostAction) → Performs start before done → Cuts start after (done ++ actions)

-- the plan was followed, behind whatever was read before
abbrev pub FollowsBehind : Outside → Outside → Planned → ℕ → Type 0
FollowsBehind before after plan code =
    (start : Outside) (reads : List HostAction) → AreReads reads → Performs start before reads → Follows start after (calls_then reads plan) code
