use Rattle.std.proofs.Common.{◌≡◌, drop, map}
use Rattle.clap.specs.Simple.{app_of}
use Rattle.clap_words.specs.Table.{opt_of}
use Rattle.clap_words.specs.TableApp.{named_rule, with_rules}
use Rattle.clap_words.proofs.build.add_options.Given as goal

-- with those that are left it is the whole
abbrev pub invariant-loop-row : goal.invariant-loop-row
invariant-loop-row l = with_rules (map named_rule (map opt_of (drop l.row-index l.rows))) (app_of l.command) ≡ with_rules (map named_rule (map opt_of l.rows)) (app_of l.fn.command)
