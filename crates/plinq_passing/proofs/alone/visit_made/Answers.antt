-- One item, or none.
use Rattle.std.proofs.Common.{rules, ◌≡◌, Some}
use Rattle.plinq_closures.specs.inner.Only.{answer_in}
use Rattle.plinq_passing.proofs.OneByOne.{each-one}
use Rattle.plinq_passing.proofs.alone.visit_made.Goals as goal

pub returns-in-Some : goal.returns-in-Some
returns-in-Some g c =
    let some : answer_in (c.args.made.now.one c.args.x) ≡ Some c.in-Some.y = search rules in
    rw some (each-one g.V.Visits.takes g.V.Visits.refuses c.in-Some.y c.args.by.now c.visit.result c.visit.new.called c.visit.ensures)
