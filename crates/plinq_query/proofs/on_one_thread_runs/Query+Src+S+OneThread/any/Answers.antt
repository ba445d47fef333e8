-- Some answer is true if some item passes.
use Rattle.std.specs.Prelude.{None}
use Rattle.plinq_steps.specs.Makes.{selected, makes-selected}
use Rattle.plinq_passing.proofs.Searching.{found-same, any-true}
use Rattle.plinq_query.proofs.on_one_thread_runs.Query+Src+S+OneThread.any.Goals as goal

pub returns : goal.returns
returns g c =
    let q = c.args.self in
    let t = g.Src.Source.whole q.source in
    let w = c.select.ensures in
    record {
      value = λ f makes p gives.
          found-same ⊥ 1 None t _ _ _ (any-true f p t.items) c.contains.result
          (rw w.0 at (c.contains.ensures.value (λ x. selected p (f x))
          (λ x. rw (w.1, w.2) (makes-selected (g.S.Steps.makes q.steps x) _ p gives (f x) (makes x)))));
      alone = c.contains.ensures.alone;
    }

pub contains-requires-clause-in_one_way : goal.contains-requires-clause-in_one_way
contains-requires-clause-in_one_way g c κs within = let w = c.select.ensures in rw (w.1, w.2) c.requires.in_one_way

pub contains-requires-clause-gives : goal.contains-requires-clause-gives
contains-requires-clause-gives g c κs within = let w = c.select.ensures in rw (w.1, w.2) c.requires.gives
