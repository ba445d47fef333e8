use Rattle.std.proofs.Common.{rules, ◌≡◌, ◌+◌, ◌<◌, ◌^◌, [], ◌++◌, length, arith, ◌∙◌, ap, length-append}
use Rattle.std.proofs.lemmas.List.{nil_from_length}
use Rattle.plinq_run.proofs.Pieces.{folded-piece, folded-all, folded-stopped}
use Rattle.plinq_run.proofs.tasks.FoldChunksTask.work.Goals as goal

-- a piece in which the run stopped
pub returns-then-is_some : goal.returns-then-is_some
returns-then-is_some g c =
    let r = c.in_ok-made-2.made in
    let sum : c.in_ok-count.count ≡ c.loop-rest.count + length r.items.items = search rules in
    let few : c.loop-rest.count + length r.items.items < 2 ^ 63 = omega (arith, sum, c.in_ok-count.ensures.few) in
    folded-stopped _ _ _ _ _ _ _ c.split_at.result.0.now c.split_at.result.1.now _ _ _ _ r _ (search rules) c.in_ok-piece_of.ensures.first
    c.in_ok-piece_of.ensures.items c.in_ok-made-2.ensures (search rules) (search rules) few c.loop-rest.invariant.folded c.in_ok-stopped.ensures

-- a piece that leaves the run open
pub loop-rest-preserved : goal.loop-rest-preserved
loop-rest-preserved g c =
    let block = c.split_at.result.0.now in
    let others = c.split_at.result.1.now in
    let r = c.in_ok-made-2.made in
    let parts : c.loop-rest.rest.now ≡ block ++ others = search rules in
    let sum : c.in_ok-count.count ≡ c.loop-rest.count + length r.items.items = search rules in
    let long : length c.loop-rest.rest.now ≡ length block + length others = ap length parts ∙ length-append block others in
    record {
      folded = rw sum (folded-piece _ _ _ _ _ _ _ block others _ _ _ _ r parts c.in_ok-piece_of.ensures.first c.in_ok-piece_of.ensures.items
          c.in_ok-made-2.ensures (search rules) (search rules) c.loop-rest.invariant.folded);
      few = c.in_ok-count.ensures.few;
      within = omega (arith, long, c.loop-rest.invariant.within);
    }

-- no item is left
pub returns : goal.returns
returns g c =
    let none : c.loop-rest.rest.now ≡ [] = nil_from_length c.loop-rest.rest.now (search rules) in
    folded-all _ _ _ _ _ _ _ _ _ _ none c.loop-rest.invariant.few c.loop-rest.invariant.folded c.in_ok-all.ensures

-- elements that don't expand: what is sent is made of the chunk's result
pub returns-then-not-expands : goal.returns-then-not-expands
returns-then-not-expands g c =
    record { result = c.in_ok-made.made; is = c.in_ok-made.ensures; made = c.in_ok-part.ensures.makes; same = c.in_ok-part.ensures.same }
