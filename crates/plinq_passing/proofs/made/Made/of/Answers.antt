-- Each closure has one answer to each item, so that one thing is made of each.
use Rattle.std.specs.Coded.{Coded-set, coded_option}
use Rattle.plinq_closures.specs.inner.Only.{may_call, only_one}
use Rattle.plinq_passing.proofs.made.Made.of.Goals as goal

pub invariant_of-result : goal.invariant_of-result
invariant_of-result g c =
    let s = c.args.steps.now in
    record {
      called = may_call c.requires.is_called (g.met.S.Steps.one_call s c.requires.in_one_way);
      one = λ x. only_one (Coded-set (coded_option g.row.S-To.coded)) (g.S.Steps.makes s x) (g.met.S.Steps.makes_some s c.requires.gives x)
          (g.met.S.Steps.makes_one s c.requires.gives_one x);
    }
