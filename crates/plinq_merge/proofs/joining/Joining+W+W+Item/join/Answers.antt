use Rattle.std.proofs.Common.{rules, ◌≡◌, Ok, Err, None, true, false, is_some, is_none, refl, ap, sym, ◌∙◌}
use Rattle.plinq_ops.proofs.Fed.{none-from_is_some}
use Rattle.plinq_reorder.specs.Buffered.{TakesNext, IsAtGap}
use Rattle.plinq_merge.specs.declared.delivery_fault.DeliveryFault.TheVariants.{Memory}
use Rattle.plinq_merge.specs.Shown.{ending_at}
use Rattle.plinq_merge.proofs.Joins.{moved-next, joins-unkept, joins-over, joins-ended, joins-waits}
use Rattle.plinq_merge.proofs.joining.Joining+W+W+Item.join.Goals as goal

pub loop-ending-preserved : goal.loop-ending-preserved
loop-ending-preserved g c =
    let before = c.loop-ending.invariant in
    let none : c.in_ok-ending.ending ≡ None = none-from_is_some _ (search rules) in
    let takes : TakesNext c.loop-ending.self.row.buffer c.in-Some.next c.take_next.new.self = search rules in
    record {
      ready = c.in_ok-ending.ensures.ready (ap Ok none);
      moves = moved-next g.met.W.TakeInto.lawful before.moves takes (rw none at c.in_ok-ending.ensures.made)
          (c.in_ok-ending.ensures.last (ap Ok none));
      keys = λ key. takes.keys key ∙ before.keys key;
    }

pub returns-in_err-part-clause-joins : goal.returns-in_err-part-clause-joins
returns-in_err-part-clause-joins g c =
    let is : c.from_residual.result ≡ Err Memory = search rules in
    rw is (joins-unkept g.met.W.TakeInto.lawful c.args.self.now c.args.offered c.args.out.now c.requires.fresh _ refl)

pub returns-in_err-ending-clause-joins : goal.returns-in_err-ending-clause-joins
returns-in_err-ending-clause-joins g c =
    let is : c.from_residual-in_err-ending.result ≡ Err c.in_err-ending.field-0.0 = search rules in
    rw is (joins-over g.met.W.TakeInto.lawful c.loop-ending.invariant.moves c.requires.fresh c.in_err-ending.ensures.made
    (λ bad. absurd (cc)))

pub returns-then-is_some-clause-joins : goal.returns-then-is_some-clause-joins
returns-then-is_some-clause-joins g c =
    let ends : is_some c.in_ok-ending.ending ≡ true = search rules in
    joins-over g.met.W.TakeInto.lawful c.loop-ending.invariant.moves c.requires.fresh c.in_ok-ending.ensures.made
    (λ is. let none : c.in_ok-ending.ending ≡ None = cc in let bad : false ≡ true = sym (ap is_some none) ∙ ends in cc)

pub returns-then-is_none-clause-joins : goal.returns-then-is_none-clause-joins
returns-then-is_none-clause-joins g c =
    let w = c.loop-ending.self in
    let none : c.in_ok-ending.ending ≡ None = none-from_is_some _ (search rules) in
    let gap : (c.take_next.new.self ≡ w.row.buffer) × IsAtGap w.row.buffer = search rules in
    let still : c.ending-ending.result ≡ None = search rules in
    rw gap.0 (joins-waits g.met.W.TakeInto.lawful c.loop-ending.invariant.moves c.requires.fresh (rw none at c.in_ok-ending.ensures.made)
    (c.in_ok-ending.ensures.last (ap Ok none)) gap.1
    (ap (λ b. ending_at w.row.source_end b.next) (sym gap.0) ∙ sym c.ending-ending.ensures ∙ still) c.loop-ending.invariant.keys)

pub returns-in_default-clause-joins : goal.returns-in_default-clause-joins
returns-in_default-clause-joins g c =
    let w = c.loop-ending.self in
    let none : c.in_ok-ending.ending ≡ None = none-from_is_some _ (search rules) in
    let gap : (c.take_next.new.self ≡ w.row.buffer) × IsAtGap w.row.buffer = search rules in
    let ends : is_none c.ending-ending.result ≡ false = search rules in
    let ending : c.ending-ending.result ≡ ending_at w.row.source_end w.row.buffer.next =
    c.ending-ending.ensures ∙ ap (λ b. ending_at w.row.source_end b.next) gap.0 in
    joins-ended g.met.W.TakeInto.lawful c.loop-ending.invariant.moves c.requires.fresh (rw none at c.in_ok-ending.ensures.made)
    (c.in_ok-ending.ensures.last (ap Ok none)) gap.1
    (rw (c.new.ensures.items, ending) at c.take.ensures.made)
    (λ is. let bad : true ≡ false = sym (ap is_none (c.take.ensures.last is)) ∙ ends in cc)
