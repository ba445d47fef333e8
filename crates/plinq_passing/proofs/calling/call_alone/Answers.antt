-- The steps make one thing of each item, so whatever function they may be is the one whose items were passed on.
use Rattle.std.specs.Prelude.{Option, None}
use Rattle.std.specs.List.{filter_map}
use Rattle.std.proofs.Common.{◌≡◌, sym, subst}
use Rattle.std.proofs.Math.Path.{fun_ext}
use Rattle.plinq_closures.specs.inner.Only.{answer_in, given-answer}
use Rattle.plinq_passing.specs.Ran.{Ran, told_alone}
use Rattle.plinq_passing.proofs.OneByOne.{ran-alone, alone-told}
use Rattle.plinq_passing.proofs.calling.call_alone.Goals as goal

pub returns : goal.returns
returns g c =
    let made = c.of-made.result in
    let takes = g.V.Visits.takes in
    let refuses = g.V.Visits.refuses in
    let t = g.Src.Source.whole c.args.source in
    record {
      calls = λ f makes.
          let same : (x : g.row.S-From.Denot) → ◌≡◌ {A = Option g.row.S-To.Denot} (answer_in (made.one x)) (f x) =
          λ x. sym (given-answer (made.one x) (f x) (subst (λ s. g.S.Steps.makes s x (f x)) (sym c.of-made.ensures) (makes x))) in
          rw c.told_alone.ensures
          (subst (λ h. Ran takes refuses ⊥ 1 None (filter_map h t.items) t.ending c.args.by.now (told_alone c.visit_alone.result) c.visit_alone.new.by)
          (fun_ext same) (ran-alone takes refuses _ t.ending c.args.by.now c.visit_alone.result c.visit_alone.new.by c.visit_alone.ensures));
      alone = rw c.told_alone.ensures (alone-told c.visit_alone.result);
    }
