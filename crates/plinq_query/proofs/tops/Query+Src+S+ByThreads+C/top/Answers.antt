-- What is held at the end is the first of all that are ranked.
use Rattle.std.specs.List.{filter_map}
use Rattle.std.proofs.Common.{◌∙◌}
use Rattle.plinq_groups.specs.Topped.{fold_of-top}
use Rattle.plinq_query.proofs.tops.Query+Src+S+ByThreads+C.top.Goals as goal

pub returns-in-Ok-clause-value : goal.returns-in-Ok-clause-value
returns-in-Ok-clause-value g c f makes =
    let t = g.Src.Source.whole c.args.self.source in
    let told = c.in-Ok.ensures.value f makes in
    (c.into_vec.ensures ∙ (told.0 ∙ fold_of-top {T = g.row.K.Denot × g.row.V.Denot} (λ p. p.0) g.K.Ord.cmp c.args.count (filter_map f t.items)), told.1)
