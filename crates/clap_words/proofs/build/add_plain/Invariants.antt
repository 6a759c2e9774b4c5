use Rattle.std.proofs.Common.{◌≡◌, drop, map}
use Rattle.clap.specs.Simple.{app_of}
use Rattle.clap_words.specs.TableApp.{plain_rule, with_rules}
use Rattle.clap_words.proofs.build.add_plain.Given as goal

-- with those that are left it is the whole
abbrev pub invariant-loop-name : goal.invariant-loop-name
invariant-loop-name l = with_rules (map plain_rule (map (λ n. n.now) (drop l.name-index l.names))) (app_of l.command) ≡ with_rules (map plain_rule (map (λ n. n.now) l.names)) (app_of l.fn.command)
