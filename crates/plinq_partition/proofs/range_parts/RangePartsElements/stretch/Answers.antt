use Rattle.std.proofs.Common.{◌≡◌, ◌<◌, ◌∙◌, ◌∷◌, ◌++◌, [], length, get_or, ap, sym, arith}
use Rattle.plinq_partition.proofs.Indexes.{keyed, length-keyed_from, between-indexes}
use Rattle.plinq_partition.proofs.range_parts.RangePartsElements.stretch.Goals as goal

pub index-requires : goal.index-requires
index-requires g c = omega (arith, length-keyed_from 0 c.args.self.now, ap length c.self.view_is, c.self.inside.values.ok.0)

pub loop-key-preserved : goal.loop-key-preserved
loop-key-preserved g c =
    let xs = c.args.self.now in
    let from = c.args.from in
    let k = c.loop-key.key in
    let x = c.index.result.now in
    let within : k < length xs = omega (arith, length-keyed_from 0 xs) in
    let is : x ≡ get_or xs k x = c.index.ensures ∙ ap (λ ys. get_or ys k x) c.self.view_is in
    record {
      made =
          c.push_reserved.ensures.items ∙ ap (λ ys. ys ++ keyed k x ∷ []) c.loop-key.invariant.made
          ∙ sym (between-indexes from k xs x c.loop-key.auto.key within is);
      counted = omega (arith, c.push_reserved.ensures.len);
      room = omega (arith, c.push_reserved.ensures.capacity);
    }
