use Rattle.std.proofs.Common.{◌≡◌, ◌+◌, ◌∙◌, ◌++◌, ◌∷◌, [], ap, sym, arith, length, map}
use Rattle.std.specs.List.{range_with_len}
use Rattle.std.proofs.lemmas.List.{map-append}
use Rattle.plinq_keyed.specs.Keys.{element_lists}
use Rattle.plinq_partition.specs.Cuts.{cut, cut_place, between}
use Rattle.plinq_partition.proofs.Whole.{cuts-more}
use Rattle.plinq_partition.proofs.even_parts.cut_elements.Goals as goal

pub loop-part-preserved : goal.loop-part-preserved
loop-part-preserved g c =
    let xs = g.E.Elements.elements c.args.elements.now in
    let n = c.args.n in
    let p = c.loop-part.part in
    let old = c.loop-part.parts.items in
    let to : c.place_of-to.result ≡ cut_place (p + 1) (length xs) n = c.place_of-to.ensures.place ∙ ap (λ k. cut_place (p + 1) k n) c.count-count.ensures in
    let here : c.in_ok-stretch.stretch.items ≡ cut xs n p =
    c.in_ok-stretch.ensures
    ∙ ap (λ k. between k c.place_of-to.result xs) c.loop-part.invariant.from
    ∙ ap (λ k. between (cut_place p (length xs) n) k xs) to
    in
    record {
      made = ap element_lists c.push_reserved.ensures.items
          ∙ map-append (λ part. part.items) old (c.in_ok-stretch.stretch ∷ [])
          ∙ ap (λ parts. parts ++ c.in_ok-stretch.stretch.items ∷ []) c.loop-part.invariant.made
          ∙ ap (λ part. map (cut xs n) (range_with_len 0 p) ++ part ∷ []) here
          ∙ sym (cuts-more xs n p);
      counted = omega (arith, c.push_reserved.ensures.len);
      room = omega (arith, c.push_reserved.ensures.capacity);
      from = to;
      within = omega (arith, c.place_of-to.ensures.inside, c.count-count.ensures);
    }
