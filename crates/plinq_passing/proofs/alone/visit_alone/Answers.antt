-- What is made of one item more.
use Rattle.std.specs.Prelude.{◌≡◌, ◌+◌, ◌++◌, [], Err, take, drop, length}
use Rattle.std.specs.List.{cons_option}
use Rattle.std.proofs.Common.{rules, ◌∙◌, ap, sym}
use Rattle.std.proofs.lemmas.List.{take-append-drop}
use Rattle.plinq_closures.specs.inner.Only.{answer_in}
use Rattle.plinq_merge.specs.declared.delivery_fault.DeliveryFault.TheVariants.{Sink as Refusal}
use Rattle.plinq_merge.specs.Sending.{Leads, IsCutOff}
use Rattle.plinq_source.proofs.Steps.{next_item, at_end, at_refusal}
use Rattle.plinq_passing.proofs.OneByOne.{taken-next, leads-more, leads-all, refuses-one}
use Rattle.plinq_passing.proofs.alone.visit_alone.Goals as goal

pub loop-x-preserved : goal.loop-x-preserved
loop-x-preserved g c =
    let t = g.Src.Source.whole c.args.source in
    let n = g.Src.Source.given c.loop-x.source in
    let i = c.loop-x.invariant in
    let x = c.in-Item.x in
    let next = next_item (g.Src.Source.whole c.loop-x.source) n x (sym c.next.ensures.step ∙ c.in-Item.is) in
    let one : Leads g.V.Visits.takes c.loop-x.by (cons_option (answer_in (c.args.made.now.one x)) []) c.visit_made.new.by = search rules in (
      c.next.ensures.same ∙ i.0,
      leads-more (λ x. answer_in (c.args.made.now.one x)) g.V.Visits.takes g.V.Visits.refuses (take n t.items)
          (take (g.Src.Source.given c.next.new.self) t.items) x c.args.by.now c.loop-x.by c.visit_made.new.by
          (ap (λ m. take m t.items) (c.next.ensures.moved ∙ next.moved) ∙ taken-next _ t n x i.0 next) i.1 one,
    )

pub returns-in_err-visit_made-in-Item : goal.returns-in_err-visit_made-in-Item
returns-in_err-visit_made-in-Item g c =
    let t = g.Src.Source.whole c.args.source in
    let n = g.Src.Source.given c.loop-x.source in
    let i = c.loop-x.invariant in
    let x = c.in-Item.x in
    let next = next_item (g.Src.Source.whole c.loop-x.source) n x (sym c.next.ensures.step ∙ c.in-Item.is) in
    let code = c.in_err-visit_made-in-Item.field-0.0 in
    let err : c.from_residual.result ≡ Err code = search rules in
    let cut : IsCutOff g.V.Visits.takes g.V.Visits.refuses c.loop-x.by (cons_option (answer_in (c.args.made.now.one x)) []) (Refusal code) c.visit_made.new.by =
    search rules in
    rw err
    (refuses-one (λ x. answer_in (c.args.made.now.one x)) g.V.Visits.takes g.V.Visits.refuses t.items (take n t.items) (drop (n + 1) t.items) x
    c.args.by.now c.loop-x.by c.visit_made.new.by code
    (sym (take-append-drop (n + 1) t.items) ∙ ap (λ l. l ++ drop (n + 1) t.items) (taken-next _ t n x i.0 next)) i.1 cut)

pub returns-in-End : goal.returns-in-End
returns-in-End g c =
    let i = c.loop-x.invariant in
    let laws = g.met.Src.Source g.world.𝓛 g.world.𝓜 g.world.𝓡 ((λ s x. x), (λ x. x), (λ x. x), λ x. x) in
    let at =
    at_end (g.Src.Source.whole c.loop-x.source) (g.Src.Source.given c.loop-x.source) (laws.ends c.loop-x.source) (laws.within c.loop-x.source)
    (sym c.next.ensures.step ∙ c.in-End.is) in (
      leads-all (λ x. answer_in (c.args.made.now.one x)) g.V.Visits.takes g.V.Visits.refuses (g.Src.Source.whole c.args.source).items
          (g.Src.Source.given c.loop-x.source) c.args.by.now c.loop-x.by (at.all ∙ ap (λ w. length w.items) i.0) i.1,
      ap (λ w. w.ending) (sym i.0) ∙ at.ends,
    )

pub returns-in-Refused : goal.returns-in-Refused
returns-in-Refused g c =
    let i = c.loop-x.invariant in
    let laws = g.met.Src.Source g.world.𝓛 g.world.𝓜 g.world.𝓡 ((λ s x. x), (λ x. x), (λ x. x), λ x. x) in
    let at =
    at_refusal (g.Src.Source.whole c.loop-x.source) (g.Src.Source.given c.loop-x.source) c.in-Refused.code (laws.within c.loop-x.source)
    (sym c.next.ensures.step ∙ c.in-Refused.is) in (
      leads-all (λ x. answer_in (c.args.made.now.one x)) g.V.Visits.takes g.V.Visits.refuses (g.Src.Source.whole c.args.source).items
          (g.Src.Source.given c.loop-x.source) c.args.by.now c.loop-x.by (at.all ∙ ap (λ w. length w.items) i.0) i.1,
      ap (λ w. w.ending) (sym i.0) ∙ at.ends,
    )
