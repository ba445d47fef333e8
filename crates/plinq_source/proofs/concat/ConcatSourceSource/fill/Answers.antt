-- The first source fills the list until it ends, and then the second.
use Rattle.std.proofs.Common.{◌∙◌, ◌-◌, ◌++◌, drop, Some, arith, ap, sym, length-drop}
use Rattle.std.proofs.lemmas.List.{append_assoc, length-take}
use Rattle.plinq_source.specs.Concat.{concat}
use Rattle.plinq_source.specs.declared.ending.Ending.TheVariants.{End}
use Rattle.plinq_source.proofs.Filling.{given_ending}
use Rattle.plinq_source.specs.Trace.{items_from}
use Rattle.plinq_source.proofs.Concats.{items_from-second, items_from-across}
use Rattle.plinq_source.proofs.concat.ConcatSourceSource.fill.Goals as goal

pub returns-then-self-clause-filled : goal.returns-then-self-clause-filled
returns-then-self-clause-filled g c =
    let s = c.args.self.now in
    let ended = c.if-self.true in
    let a = g.A.Source.whole s.first in
    let b = g.B.Source.whole s.second in
    c.fill.ensures.filled
    ∙ ap (λ xs. c.args.items.now.items ++ xs) (sym (items_from-second a b (g.A.Source.given s.first) (g.B.Source.given s.second) c.args.n (s.all ended)
    (s.ends ended)))

pub returns-in-Some-End-clause-filled : goal.returns-in-Some-End-clause-filled
returns-in-Some-End-clause-filled g c =
    let s = c.args.self.now in
    let a = g.A.Source.whole s.first in
    let b = g.B.Source.whole s.second in
    let m = g.A.Source.given s.first in
    let n = c.args.n in
    let k = c.len.result - c.len-before.result in
    let before = c.args.items.now.items in
    let ending = given_ending a m n End (sym c.fill-2.ensures.ending ∙ c.in-Some-End.is ∙ ap Some c.in-Some-End.field-0-is) in
    let unasked = s.unasked c.if-self.false in
    let within = g.met.A.Source.within s.first in
    let counted = length-take n (drop m a.items) in
    let left = length-drop m a.items in
    c.fill-in-Some-End.ensures.filled
    ∙ ap (λ xs. xs ++ items_from b (g.B.Source.given s.second) (n - k)) c.fill-2.ensures.filled
    ∙ append_assoc before (items_from a m n) (items_from b (g.B.Source.given s.second) (n - k))
    ∙ ap (λ xs. before ++ xs)
    (ap (λ f. items_from a m n ++ items_from b f (n - k)) unasked
    ∙ sym (items_from-across a b m n k (omega (arith, ending.1, within, counted, left, c.len.ensures, c.len-before.ensures, c.fill-2.ensures.len))
    (omega (arith, counted, left, c.len.ensures, c.len-before.ensures, c.fill-2.ensures.len)) ending.0)
    ∙ ap (λ f. items_from (concat a b) f n) (omega (arith, unasked)))
