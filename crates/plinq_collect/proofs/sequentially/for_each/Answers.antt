-- The closure is called with the list that one thread has made.
use Rattle.std.specs.Prelude.{◌≡◌, IfErr}
use Rattle.std.proofs.Common.{ap, ◌∙◌, refl, subst}
use Rattle.std.specs.Coded.{Π_prop}
use Rattle.plinq_source.specs.Trace.{ended_trace}
use Rattle.plinq_ops.specs.Sequential.{answer_of}
use Rattle.plinq_collect.specs.Calling.{IsCode}
use Rattle.plinq_collect.proofs.Called.{calls-answer, calls-none, refused-only}
use Rattle.plinq_collect.proofs.sequentially.for_each.Goals as goal

pub visit_all-requires-clause-in_one_way : goal.visit_all-requires-clause-in_one_way
visit_all-requires-clause-in_one_way g c = Π_prop λ f. Π_prop λ x. c.requires.in_one_way f x

pub returns-in-Ok-clause-calls : goal.returns-in-Ok-clause-calls
returns-in-Ok-clause-calls g c =
    let u = answer_of g.L.Lambda.meaning c.args.query.now.ops (g.S.Source.whole c.args.source) in
    let xs = c.as_slice.result.now in
    let is : ended_trace xs c.in-Ok.ending ≡ u = ap (λ ys. ended_trace ys c.in-Ok.ending) c.as_slice.ensures.value ∙ c.in-Ok.ensures in
    calls-answer _ u xs c.in-Ok.ending is _ c.visit_all.result _ c.visit_all.ensures.calls

pub returns-in-Ok-clause-uncalled : goal.returns-in-Ok-clause-uncalled
returns-in-Ok-clause-uncalled g c is = absurd (subst (λ r. IfErr r IsCode) is c.visit_all.ensures.code)

pub returns-in-Ok-clause-memory : goal.returns-in-Ok-clause-memory
returns-in-Ok-clause-memory g c = refused-only c.visit_all.result c.visit_all.ensures.code

pub returns-in-Err-clause-calls : goal.returns-in-Err-clause-calls
returns-in-Err-clause-calls g c =
    calls-none _ (answer_of g.L.Lambda.meaning c.args.query.now.ops (g.S.Source.whole c.args.source)) _ _ c.in-Err.fault c.in-Err.ensures refl
