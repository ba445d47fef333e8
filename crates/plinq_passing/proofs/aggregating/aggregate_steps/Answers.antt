-- The steps make one thing of each item, so whatever function they may be is the one that was folded.
use Rattle.std.specs.Prelude.{ℕ, Some, Option, Result, Ok, MatchResult}
use Rattle.std.specs.List.{filter_map}
use Rattle.std.proofs.Common.{◌≡◌, ap, sym, subst}
use Rattle.plinq_source.specs.declared.ending.Ending.TheVariants.{End}
use Rattle.plinq_aggregate.specs.Folding.{aggregate_value}
use Rattle.plinq_closures.specs.inner.Only.{answer_in, given-answer}
use Rattle.plinq_passing.specs.Told.{HasNone}
use Rattle.plinq_stopping.specs.Asking.{WasStoppedBy}
use Rattle.plinq_passing.proofs.Telling.{told-some, asked-some}
use Rattle.plinq_passing.proofs.aggregating.aggregate_steps.Goals as goal

pub returns-clause-value : goal.returns-clause-value
returns-clause-value g c f makes =
    let made = c.of.result in
    let t = g.Src.Source.whole c.args.source in
    let same : (x : g.row.S-From.Denot) → ◌≡◌ {A = Result (Option g.row.S-To.Denot) ℕ} (Ok (answer_in (made.one x))) (Ok (f x)) =
    λ x. ap Ok (sym (given-answer (made.one x) (f x) (subst (λ s. g.S.Steps.makes s x (f x)) (sym c.of.ensures) (makes x)))) in
    subst (λ r. MatchResult r
    (λ out. (out ≡ aggregate_value (g.A.GrowingAggregator.folding c.args.aggregator) (filter_map f t.items)) × (t.ending ≡ Some End))
    (HasNone (WasStoppedBy g.C.Cancel.asks c.args.settings.token) c.args.settings.degree c.args.settings.growth t)) (sym c.told_of.ensures)
    (told-some _ f same (g.A.GrowingAggregator.folding c.args.aggregator) g.C.Cancel.asks c.args.settings.token c.aggregate_of.new.token t
    c.args.settings.degree c.args.settings.growth c.aggregate_of.result c.aggregate_of.ensures)

pub returns-clause-asked : goal.returns-clause-asked
returns-clause-asked g c =
    let f = g.A.GrowingAggregator.folding c.args.aggregator in
    let some = (g.met.S.Steps g.world.𝓛 g.world.𝓜 g.world.𝓡 ((λ s x. x), (λ x. x), (λ x. x), λ x. x)).makes_some c.args.steps c.requires.gives in
    let made = c.of.result in
    let same : (x : g.row.S-From.Denot) → ◌≡◌ {A = Result (Option g.row.S-To.Denot) ℕ} (Ok (answer_in (made.one x))) (Ok (some x).0) =
    λ x. ap Ok (sym (given-answer (made.one x) (some x).0 (subst (λ s. g.S.Steps.makes s x (some x).0) (sym c.of.ensures) (some x).1))) in
    rw c.told_of.ensures (asked-some _ (λ x. (some x).0) same f g.C.Cancel.asks c.args.settings.token c.aggregate_of.new.token
    (g.Src.Source.whole c.args.source) c.aggregate_of.result c.aggregate_of.ensures)
