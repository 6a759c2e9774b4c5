use Rattle.std.proofs.Common.{◌≡◌, ◌∙◌, ◌*◌, length, replicate, ap, rules, slice_index_or}
use Rattle.std.proofs.lemmas.List.{length-replicate}
use Rattle.poison_cache.specs.declared.ways.Flag.TheVariants.{Empty}
use Rattle.poison_cache.specs.Ranks.{AreNewRanks}
use Rattle.poison_cache.proofs.Updates.{new_are_ranks, empty_sets, empty_lists, all_empty}
use Rattle.poison_cache.proofs.sets.Sets.make.Goals as goal

pub invariant_of-result : goal.invariant_of-result
invariant_of-result g c =
    let n = g.row.SETS * g.row.WAYS in
    let lines : length c.in_ok-lines.lines.items ≡ n = search rules in
    let cells : length c.in_ok-cells.cells.items ≡ n = search rules in
    let flags : c.in_ok-flags.flags.items ≡ replicate n Empty = search rules in
    let ranks : AreNewRanks n g.row.WAYS c.in_ok-ranks.ranks.items = c.in_ok-ranks.ensures in
    empty_sets g.row.SETS g.row.WAYS _ c.requires.sets c.requires.ways c.requires.most
    (record { lines = lines; flags = ap length flags ∙ length-replicate n Empty; ranks = ranks.count; cells = cells })
    (new_are_ranks g.row.SETS g.row.WAYS c.in_ok-ranks.ranks.items c.requires.ways ranks)
    (λ i. ap (λ fs. slice_index_or fs i Empty) flags ∙ all_empty n i)

pub returns : goal.returns
returns g c =
    let n = g.row.SETS * g.row.WAYS in
    let lines : length c.in_ok-lines.lines.items ≡ n = search rules in
    let cells : length c.in_ok-cells.cells.items ≡ n = search rules in
    let flags : c.in_ok-flags.flags.items ≡ replicate n Empty = search rules in
    let ranks : AreNewRanks n g.row.WAYS c.in_ok-ranks.ranks.items = c.in_ok-ranks.ensures in
    empty_lists g.row.SETS g.row.WAYS _ c.requires.sets c.requires.ways c.requires.most
    (record { lines = lines; flags = ap length flags ∙ length-replicate n Empty; ranks = ranks.count; cells = cells })
    (new_are_ranks g.row.SETS g.row.WAYS c.in_ok-ranks.ranks.items c.requires.ways ranks)
    (λ i. ap (λ fs. slice_index_or fs i Empty) flags ∙ all_empty n i)
