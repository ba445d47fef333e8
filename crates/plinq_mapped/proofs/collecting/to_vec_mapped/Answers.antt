use Rattle.std.proofs.Common.{rules, ◌≡◌, [], subst}
use Rattle.plinq_groups.specs.Mapping.{mapping}
use Rattle.plinq_ops.specs.Answer.{MayAnswer}
use Rattle.plinq_run.specs.Parting.{GivesSome}
use Rattle.plinq_mapped.specs.declared.keep_made.Kept.{Kept}
use Rattle.plinq_mapped.specs.inner.Keeping.{KeepsBy}
use Rattle.plinq_mapped.proofs.MadeOf.{keeps-made, ordered-list}
use Rattle.plinq_mapped.proofs.collecting.to_vec_mapped.Goals as goal

pub returns-clause-made : goal.returns-clause-made
returns-clause-made g c =
    let q = c.args.query.now in
    let makes = g.M.MakeOf.makes c.args.mapping.now.make in
    let IsAnswer = MayAnswer g.L.Lambda.meaning q.ordered q.ops (g.S.Source.whole c.args.source) in
    let nothing : c.new.result.items ≡ [] = search rules in
    let empty : Kept _ = record { items = c.new.result } in
    let h = subst (λ r. GivesSome (mapping makes) KeepsBy IsAnswer _ empty r c.fold_into.new.out) c.in_ok-ending.was c.fold_into.ensures in
    keeps-made makes _ empty c.fold_into.new.out nothing IsAnswer c.in_ok-ending.ending h

pub returns-clause-ordered : goal.returns-clause-ordered
returns-clause-ordered g c = λ ordered.
    let q = c.args.query.now in
    ordered-list (g.M.MakeOf.makes c.args.mapping.now.make) g.L.Lambda.meaning q.ordered q.ops
    (g.S.Source.whole c.args.source) c.fold_into.new.out.items.items c.in_ok-ending.ending ordered (returns-clause-made g c)
