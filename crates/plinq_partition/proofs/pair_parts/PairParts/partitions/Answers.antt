use Rattle.std.proofs.Common.{◌≡◌, true, ap, sym, ◌∙◌}
use Rattle.plinq_keyed.specs.Keys.{keys, rises}
use Rattle.plinq_partition.proofs.Promised.{pairs-promised}
use Rattle.plinq_partition.proofs.pair_parts.PairParts.partitions.Goals as goal

pub returns-clause-promised : goal.returns-clause-promised
returns-clause-promised g c =
    let xs = c.args.self.now in
    let rising : rises (keys xs) ≡ true = ap (λ ys. rises (keys ys)) (sym c.self.view_is) ∙ c.self.invariant in
    pairs-promised xs c.args.n c.cut_elements.result rising c.cut_elements.ensures.some c.cut_elements.ensures.cut
