use Rattle.std.proofs.Common.{◌≡◌, ◌+◌, drop, Err, ap, sym, ◌∙◌}
use Rattle.std.proofs.Math.ListN.{drop_of_length-le}
use Rattle.serde_json.specs.View.{view, items_view}
use Rattle.plinq_document.specs.Results.{◌>>=◌}
use Rattle.plinq_document.specs.Steps.{with_step_of, with_steps_of, step_result}
use Rattle.plinq_document.proofs.Turns.{with_steps_of-turn}
use Rattle.plinq_document.proofs.steps.with_steps.Goals as goal

pub returns-in-Err : goal.returns-in-Err
returns-in-Err c = λ not_memory.
    let at = c.loop-at.at in
    let q = c.loop-at.query in
    let vs = c.args.steps.now in
    let turn = with_steps_of-turn c.args.version at q vs c.index-steps-at.result c.loop-at-test.true c.index-steps-at.is in
    let step : with_step_of c.args.version q (view c.index-steps-at.result) ≡ Err c.in-Err.why =
    c.in-Err.ensures (λ e. not_memory (c.step_refused.ensures.memory e)) in
    let why = c.step_refused.ensures.other (λ e. not_memory (c.step_refused.ensures.memory e)) in
    c.loop-at.invariant ∙ turn ∙ ap (λ r. step_result at r >>= λ new. with_steps_of c.args.version (at + 1) new (items_view (drop (at + 1) vs))) step
    ∙ ap Err (sym why)

pub loop-at-preserved : goal.loop-at-preserved
loop-at-preserved c =
    let at = c.loop-at.at in
    let q = c.loop-at.query in
    let vs = c.args.steps.now in
    let turn = with_steps_of-turn c.args.version at q vs c.index-steps-at.result c.loop-at-test.true c.index-steps-at.is in
    c.loop-at.invariant ∙ turn ∙ ap (λ r. step_result at r >>= λ new. with_steps_of c.args.version (at + 1) new (items_view (drop (at + 1) vs))) c.in-Ok.ensures

pub returns : goal.returns
returns c =
    c.loop-at.invariant
    ∙ ap (λ ws. with_steps_of c.args.version c.loop-at.at c.loop-at.query (items_view ws)) (drop_of_length-le c.args.steps.now c.loop-at-test.false)
