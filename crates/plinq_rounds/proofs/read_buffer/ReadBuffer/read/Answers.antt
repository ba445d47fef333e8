use Rattle.std.proofs.Common.{◌≡◌, ◌++◌, length, length-drop, length-take-le, take, take-add, drop, ap, ◌∙◌, arith}
use Rattle.plinq_rounds.proofs.read_buffer.ReadBuffer.read.Goals as goal

pub returns-clause-came : goal.returns-clause-came
returns-clause-came g c =
    let before = c.self.inside.count in
    let n = c.in_ok-count.count in
    let bytes = c.read_after.new.bytes.items in
    let len = c.read_after.new.bytes.ok.0 in
    let within = c.in_ok-count.ensures.within in
    let long = length-drop before bytes in
    let piece : length (take n (drop before bytes)) ≡ n = length-take-le n (drop before bytes) (omega arith) in
    let kept : take before bytes ≡ c.args.self.now = c.read_after.ensures.kept ∙ c.make_room.ensures.kept ∙ c.self.view_is in (
      take n (drop before bytes),
      piece,
      take-add before n bytes ∙ ap (λ xs. xs ++ take n (drop before bytes)) kept,
      c.in_ok-count.ensures.came,
    )
