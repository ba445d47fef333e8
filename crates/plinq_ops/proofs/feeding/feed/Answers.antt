use Rattle.std.proofs.Common.{rules, arith, ◌≡◌, ◌∷◌, [], ◌++◌, refl, sym}
use Rattle.std.proofs.Math.ListN.{get_or}
use Rattle.plinq_ops.proofs.Through.{through-none, at-op, through-nothing, through-item, through-expansion, through-rest, undecided-rest, through-all}
use Rattle.plinq_ops.proofs.feeding.feed.Goals as goal

pub loop-at-init : goal.loop-at-init
loop-at-init g c = through-none _ _ _ _ c.requires.undecided

pub feed_expansion-requires-clause-undecided : goal.feed_expansion-requires-clause-undecided
feed_expansion-requires-clause-undecided g c =
    (at-op _ (omega (arith, c.loop-at-test.true, c.loop-at.auto.ops)) (sym c.in-Expanding.is) c.loop-at.invariant).undecided

pub returns-in-Expanding : goal.returns-in-Expanding
returns-in-Expanding g c =
    through-expansion _ c.feed_expansion.new.ops c.feed_expansion.new.out.items c.in_ok-ended.ended _
    (omega (arith, c.loop-at-test.true, c.loop-at.auto.ops)) (sym c.in-Expanding.is) refl c.loop-at.invariant
    c.in_ok-ended.ensures

pub returns-in-Nothing : goal.returns-in-Nothing
returns-in-Nothing g c =
    let here =
    at-op {op = get_or c.loop-at.ops c.loop-at.at c.index-ops-at.result} c.index-ops-at.result
    (omega (arith, c.loop-at-test.true, c.loop-at.auto.ops)) refl c.loop-at.invariant in
    through-nothing c.pass.new.op here (rw c.in-Nothing.is at c.pass.ensures.passed) c.pass.ensures.left

pub feed_last-requires-clause-undecided : goal.feed_last-requires-clause-undecided
feed_last-requires-clause-undecided g c =
    let here =
    at-op {op = get_or c.loop-at.ops c.loop-at.at c.index-ops-at.result} c.index-ops-at.result
    (omega (arith, c.loop-at-test.true, c.loop-at.auto.ops)) refl c.loop-at.invariant in
    undecided-rest c.pass.new.op here

pub feed_end-requires-clause-undecided : goal.feed_end-requires-clause-undecided
feed_end-requires-clause-undecided g c =
    let here =
    at-op {op = get_or c.loop-at.ops c.loop-at.at c.index-ops-at.result} c.index-ops-at.result
    (omega (arith, c.loop-at-test.true, c.loop-at.auto.ops)) refl c.loop-at.invariant in
    undecided-rest c.pass.new.op here

pub returns-in-Last : goal.returns-in-Last
returns-in-Last g c =
    let here =
    at-op {op = get_or c.loop-at.ops c.loop-at.at c.index-ops-at.result} c.index-ops-at.result
    (omega (arith, c.loop-at-test.true, c.loop-at.auto.ops)) refl c.loop-at.invariant in
    through-rest _ c.pass.new.op c.feed_last.new.ops _ _ here (rw c.in-Last.is at c.pass.ensures.passed) c.pass.ensures.left
    c.in_ok-ended-in-Last.ensures

pub returns-in-Ends : goal.returns-in-Ends
returns-in-Ends g c =
    let here =
    at-op {op = get_or c.loop-at.ops c.loop-at.at c.index-ops-at.result} c.index-ops-at.result
    (omega (arith, c.loop-at-test.true, c.loop-at.auto.ops)) refl c.loop-at.invariant in
    through-rest _ c.pass.new.op c.feed_end.new.ops _ _ here (rw c.in-Ends.is at c.pass.ensures.passed) c.pass.ensures.left
    c.in_ok-ended-in-Ends.ensures

pub loop-at-preserved : goal.loop-at-preserved
loop-at-preserved g c =
    let here =
    at-op {op = get_or c.loop-at.ops c.loop-at.at c.index-ops-at.result} c.index-ops-at.result
    (omega (arith, c.loop-at-test.true, c.loop-at.auto.ops)) refl c.loop-at.invariant in
    through-item c.pass.new.item c.pass.new.op here (search rules) c.pass.ensures.left

pub returns : goal.returns
returns g c =
    let pushed : c.push.new.self.items ≡ c.loop-at.out.items ++ c.loop-at.item ∷ [] = search rules in
    rw pushed (through-all (omega (arith, c.loop-at-test.false, c.loop-at.auto.ops)) c.loop-at.invariant)
