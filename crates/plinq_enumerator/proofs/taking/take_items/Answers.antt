-- What fills the list is what was asked for, and its ending gives the tail.
use Rattle.std.proofs.Common.{◌≡◌, ◌-◌, ◌++◌, Bool, true, false, cond, ltb, length, Option, None, refl, ap, ◌∙◌}
use Rattle.plinq_source.specs.Trace.{items_from}
use Rattle.plinq_source.specs.declared.ending.Ending.{Ending}
use Rattle.plinq_keyed.specs.History.{ending_tail}
use Rattle.plinq_enumerator.proofs.taking.take_items.Goals as goal

tail_of_test : (b : Bool) (e : Option Ending) → ending_tail (cond b e None) ≡ cond b (ending_tail e) None
tail_of_test true e = refl
tail_of_test false e = refl

pub returns-clause-taken : goal.returns-clause-taken
returns-clause-taken g c =
    c.fill.ensures.filled ∙ ap (λ xs. xs ++ items_from (g.S.Source.whole c.args.source.now) (g.S.Source.given c.args.source.now) c.args.n) c.requires.empty

pub returns-clause-tail : goal.returns-clause-tail
returns-clause-tail g c =
    let t = g.S.Source.whole c.args.source.now in
    let fewer = ltb (length t.items - g.S.Source.given c.args.source.now) c.args.n in
    c.tail_of.ensures ∙ ap ending_tail c.fill.ensures.ending ∙ tail_of_test fewer t.ending
