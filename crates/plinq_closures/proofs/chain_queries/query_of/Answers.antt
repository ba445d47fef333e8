-- Each closure has one answer to each item, so that the steps have one meaning.
use Rattle.std.specs.Prelude.{ℕ, Err}
use Rattle.std.proofs.Common.{refl}
use Rattle.std.specs.Coded.{Coded-set, coded_result, coded_ℕ, coded_bool}
use Rattle.plinq_lambda.specs.Meaning.{Meaning}
use Rattle.plinq_closures.specs.inner.Only.{may_call, only_one}
use Rattle.plinq_closures.specs.Steps.{Agrees}
use Rattle.plinq_closures.proofs.Put.{all_down}
use Rattle.plinq_closures.proofs.chain_queries.query_of.Goals as goal

pub with_steps-requires-clause-called : goal.with_steps-requires-clause-called
with_steps-requires-clause-called g c = may_call c.requires.is_called (g.met.S.Steps.one_call c.args.steps.now c.requires.in_one_way)

pub with_steps-requires-clause-one_map : goal.with_steps-requires-clause-one_map
with_steps-requires-clause-one_map g c at x =
    let s = c.args.steps.now in
    only_one (Coded-set (coded_result g.row.S-Item.coded coded_ℕ)) (g.S.Steps.maps s at x) (g.met.S.Steps.map_gives s c.requires.gives at x)
    (g.met.S.Steps.map_gives_one s c.requires.gives_one at x)

pub with_steps-requires-clause-one_test : goal.with_steps-requires-clause-one_test
with_steps-requires-clause-one_test g c at x =
    let s = c.args.steps.now in
    only_one (Coded-set (coded_result coded_bool coded_ℕ)) (g.S.Steps.tests s at x) (g.met.S.Steps.test_gives s c.requires.gives at x)
    (g.met.S.Steps.test_gives_one s c.requires.gives_one at x)

pub returns-clause-ops : goal.returns-clause-ops
returns-clause-ops g c ops does =
    let s = c.args.steps.now in
    let maps = g.met.S.Steps.map_gives s c.requires.gives in
    let tests = g.met.S.Steps.test_gives s c.requires.gives in
    let m : ℕ → Meaning g.row.S-Item.Denot = λ at. record { map = λ x. (maps at x).0; test = λ x. (tests at x).0; expand = λ x. Err 0 } in
    let is : Agrees (g.S.Steps.maps s) (g.S.Steps.tests s) m = record { map = λ at x. (maps at x).1; test = λ at x. (tests at x).1; expand = λ at x. refl } in
    all_down _ (g.S.Steps.kinds s) m c.in-Some.count c.in-Some.ensures c.in_ok-query.query.ops c.in_ok-query.ensures.begun.0 ops
    (g.met.S.Steps.comes_to s c.requires.gives_one m is ops does) c.with_steps.result (c.with_steps.ensures.ops m is)
