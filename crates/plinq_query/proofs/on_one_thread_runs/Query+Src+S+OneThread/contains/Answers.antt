-- An item is left if one is equal.
use Rattle.std.specs.Prelude.{None}
use Rattle.std.proofs.Common.{refl}
use Rattle.plinq_steps.specs.Makes.{passed, makes-passed}
use Rattle.plinq_passing.proofs.OneByOne.{found-alone}
use Rattle.plinq_passing.proofs.Searching.{found-told, any-passed}
use Rattle.plinq_query.proofs.on_one_thread_runs.Query+Src+S+OneThread.contains.Goals as goal

pub returns : goal.returns
returns g c =
    let q = c.args.self in
    let t = g.Src.Source.whole q.source in
    let p : g.row.S-To.Denot → _ = λ y. g.S.To.PartialEq.eq y c.args.item in
    record {
      value = λ f makes.
          rw c.told_found.ensures
          (found-told ⊥ 1 None t _ _ _ (any-passed f p t.items) c.first.result
          (c.first.ensures.value (λ x. passed p (f x)) (λ x. makes-passed (g.S.Steps.makes q.steps x) _ p (λ y. refl) (f x) (makes x))));
      alone = rw c.told_found.ensures (found-alone c.first.result c.first.ensures.alone);
    }
