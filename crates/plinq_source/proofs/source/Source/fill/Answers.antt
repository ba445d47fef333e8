use Rattle.std.proofs.Common.{◌≡◌, ◌∙◌, ◌+◌, length, ap, sym, arith, ◌++◌}
use Rattle.plinq_source.specs.Trace.{step_at}
use Rattle.plinq_source.specs.declared.ending.Ending.TheVariants.{End, Refused}
use Rattle.plinq_source.specs.declared.step.Step.TheVariants.{Item}
use Rattle.plinq_source.proofs.Filling.{filled-more, IsLast, last_items}
use Rattle.plinq_source.proofs.Steps.{next_item, at_end, at_refusal}
use Rattle.plinq_source.proofs.source.Source.fill.Goals as goal

pub loop-filled-preserved : goal.loop-filled-preserved
loop-filled-preserved g c =
    let t = g.Self.Source.whole c.args.self.now in
    let from = g.Self.Source.given c.args.self.now in
    let m = c.loop-filled._filled in
    let i = c.loop-filled.invariant in
    let x = c.in-Item.item in
    let step : step_at t (from + m) ≡ Item x =
    ap (λ w. step_at w (from + m)) (sym i.same) ∙ ap (step_at (g.Self.Source.whole c.loop-filled.self)) (sym i.moved) ∙ sym c.in-Item.ensures.step in
    let inside = (next_item t (from + m) x step).within in
    let few = ap (λ w. length w.items) i.same in
    record {
      same = c.in-Item.ensures.same ∙ i.same;
      filled =
          filled-more t from m c.args.items.now.items c.loop-filled.items.items c.push_reserved.new.self.items x step i.filled c.push_reserved.ensures.items;
      counted = omega (arith, c.push_reserved.ensures.len);
      capacity = c.push_reserved.ensures.capacity ∙ i.capacity;
      moved = omega (arith, c.in-Item.ensures.moved);
      within = omega arith;
    }

last-in-End : (g : _) (c : goal.In-End g)
    → IsLast (g.Self.Source.whole c.args.self.now) (g.Self.Source.given c.args.self.now) c.loop-filled._filled c.args.n End
last-in-End g c =
    let i = c.loop-filled.invariant in
    let at =
    at_end (g.Self.Source.whole c.loop-filled.self) (g.Self.Source.given c.loop-filled.self) (g.met.Self.Source.ends c.loop-filled.self)
    (g.met.Self.Source.within c.loop-filled.self) (sym c.next.ensures.step ∙ c.in-End.is) in
    last_items (g.Self.Source.whole c.args.self.now) (g.Self.Source.given c.args.self.now) c.loop-filled._filled c.args.n End
    (omega (arith, at.all, i.moved, ap (λ w. length w.items) i.same)) (ap (λ w. w.ending) (sym i.same) ∙ at.ends) (omega arith)

pub returns-in-End-clause-filled : goal.returns-in-End-clause-filled
returns-in-End-clause-filled g c =
    c.loop-filled.invariant.filled ∙ ap (λ xs. c.args.items.now.items ++ xs) (sym (last-in-End g c).items)

pub returns-in-End-clause-len : goal.returns-in-End-clause-len
returns-in-End-clause-len g c = omega (arith, c.loop-filled.invariant.counted, (last-in-End g c).count)

pub returns-in-End-clause-moved : goal.returns-in-End-clause-moved
returns-in-End-clause-moved g c =
    let i = c.loop-filled.invariant in
    let at =
    at_end (g.Self.Source.whole c.loop-filled.self) (g.Self.Source.given c.loop-filled.self) (g.met.Self.Source.ends c.loop-filled.self)
    (g.met.Self.Source.within c.loop-filled.self) (sym c.next.ensures.step ∙ c.in-End.is) in
    omega (arith, c.next.ensures.moved, at.moved, i.moved, (last-in-End g c).count)

pub returns-in-End-clause-ending : goal.returns-in-End-clause-ending
returns-in-End-clause-ending g c = (last-in-End g c).ending

last-in-Refused : (g : _) (c : goal.In-Refused g)
    → IsLast (g.Self.Source.whole c.args.self.now) (g.Self.Source.given c.args.self.now) c.loop-filled._filled c.args.n (Refused c.in-Refused.code)
last-in-Refused g c =
    let i = c.loop-filled.invariant in
    let at =
    at_refusal (g.Self.Source.whole c.loop-filled.self) (g.Self.Source.given c.loop-filled.self) c.in-Refused.code
    (g.met.Self.Source.within c.loop-filled.self) (sym c.next.ensures.step ∙ c.in-Refused.is) in
    last_items (g.Self.Source.whole c.args.self.now) (g.Self.Source.given c.args.self.now) c.loop-filled._filled c.args.n (Refused c.in-Refused.code)
    (omega (arith, at.all, i.moved, ap (λ w. length w.items) i.same)) (ap (λ w. w.ending) (sym i.same) ∙ at.ends) (omega arith)

pub returns-in-Refused-clause-filled : goal.returns-in-Refused-clause-filled
returns-in-Refused-clause-filled g c =
    c.loop-filled.invariant.filled ∙ ap (λ xs. c.args.items.now.items ++ xs) (sym (last-in-Refused g c).items)

pub returns-in-Refused-clause-len : goal.returns-in-Refused-clause-len
returns-in-Refused-clause-len g c = omega (arith, c.loop-filled.invariant.counted, (last-in-Refused g c).count)

pub returns-in-Refused-clause-moved : goal.returns-in-Refused-clause-moved
returns-in-Refused-clause-moved g c =
    let i = c.loop-filled.invariant in
    let at =
    at_refusal (g.Self.Source.whole c.loop-filled.self) (g.Self.Source.given c.loop-filled.self) c.in-Refused.code
    (g.met.Self.Source.within c.loop-filled.self) (sym c.next.ensures.step ∙ c.in-Refused.is) in
    omega (arith, c.next.ensures.moved, at.moved, i.moved, (last-in-Refused g c).count)

pub returns-in-Refused-clause-ending : goal.returns-in-Refused-clause-ending
returns-in-Refused-clause-ending g c = (last-in-Refused g c).ending
