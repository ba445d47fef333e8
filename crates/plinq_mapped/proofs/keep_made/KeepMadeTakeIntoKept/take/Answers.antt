use Rattle.std.proofs.Common.{rules, ◌≡◌, ◌++◌, Some, None, length, sym, ◌∙◌}
use Rattle.std.specs.Vec.Iter.{into_iter_len, into_iter_items}
use Rattle.std.proofs.lemmas.List.{map-id}
use Rattle.std.proofs.lemmas.Iterator.Adapters.{YieldsList-from_vec}
use Rattle.std.proofs.lemmas.Iterator.Consumers.{YieldsList-so_far, YieldsList-turn, YieldsList-end}
use Rattle.plinq_mapped.proofs.PartLists.{turn-parts, keeps-all, keeps-part, keeps-fault}
use Rattle.plinq_mapped.proofs.keep_made.KeepMadeTakeIntoKept.take.Goals as goal

pub loop-part-preserved : goal.loop-part-preserved
loop-part-preserved g c =
    let ys = c.into_parts-made.result.0.items in
    let o = c.into_parts-made.result.1 in
    let none : o ≡ None = search rules in
    let more : c.append.new.self.items ≡ c.loop-part.out.items.items ++ ys = search rules in
    keeps-part c.args.out.now.items.items c.loop-part.yielded c.loop-part.out.items.items c.loop-part.invariant ys o c.in-Some.part c.into_parts-made.ensures
    c.append.new.self.items more none

pub returns-in-Some-fault-clause-made : goal.returns-in-Some-fault-clause-made
returns-in-Some-fault-clause-made g c =
    let items = c.args.items.items in
    let ps = c.loop-part.yielded in
    let p = c.in-Some.part in
    let ys = c.into_parts-made.result.0.items in
    let o = c.into_parts-made.result.1 in
    let from : into_iter_items c.into_iter-part-iterator.result ≡ items = search rules in
    let many : into_iter_len c.into_iter-part-iterator.result ≡ length items = search rules in
    let yields = YieldsList-from_vec items from many in
    let so_far = sym (map-id ps) ∙ YieldsList-so_far yields ps c.loop-part.part-iterator c.loop-part.yielded_by in
    let turn = YieldsList-turn yields ps c.loop-part.part-iterator c.loop-part.yielded_by c.next.result c.next.new.self p c.in-Some.is c.next.ensures.steps in
    let all = turn-parts ps items p so_far turn.0 turn.1 in
    let some : o ≡ Some c.in-Some-fault.code = search rules in
    let more : c.append.new.self.items ≡ c.loop-part.out.items.items ++ ys = search rules in
    keeps-fault c.args.out.now.items.items ps c.loop-part.out.items.items c.loop-part.invariant ys o p c.into_parts-made.ensures c.append.new.self.items more
    items all.0 all.1 c.args.ending c.in-Some-fault.code some

pub returns-clause-made : goal.returns-clause-made
returns-clause-made g c =
    let items = c.args.items.items in
    let ps = c.loop-part.yielded in
    let from : into_iter_items c.into_iter-part-iterator.result ≡ items = search rules in
    let many : into_iter_len c.into_iter-part-iterator.result ≡ length items = search rules in
    let end =
    YieldsList-end (YieldsList-from_vec items from many) ps c.loop-part.part-iterator c.loop-part.yielded_by c.next.result c.next.new.self c.in-None.is
    c.next.ensures.steps in
    keeps-all c.args.out.now.items.items ps c.loop-part.out.items.items c.loop-part.invariant items c.args.ending (sym (map-id ps) ∙ end.0)
