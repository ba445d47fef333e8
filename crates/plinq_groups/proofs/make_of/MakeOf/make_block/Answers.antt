use Rattle.std.proofs.Common.{rules, ◌≡◌, ◌++◌, ◌+◌, ◌≤◌, [], ◌∷◌, ◌∙◌, sym, ap, take, length, Some, Err}
use Rattle.std.proofs.lemmas.List.{take_more}
use Rattle.plinq_groups.proofs.MadeBlocks.{IsMadeOfAll, made-fault, made-end}
use Rattle.plinq_groups.proofs.make_of.MakeOf.make_block.Given.{Over}
use Rattle.plinq_groups.proofs.make_of.MakeOf.make_block.Goals as goal

-- an item has faulted
faulted : (g : Over) (c : goal.In-Err-Code g)
    → IsMadeOfAll (g.Self.MakeOf.makes c.args.self.now) c.args.made.now.items c.args.block.now c.loop-x.made.items (Some c.in-Err-Code.code)
faulted g c =
    let makes = g.Self.MakeOf.makes c.args.self.now in
    let block = c.args.block.now in
    let i = c.loop-x.x-index in
    let x = c.x-item.result in
    let more : take (i + 1) block ≡ take i block ++ x ∷ [] =
    take_more block i x c.loop-x-test.true ∙ ap (λ y. take i block ++ y ∷ []) (sym c.x-item.is) in
    let is : makes x ≡ Err c.in-Err-Code.code = search rules in
    made-fault makes c.args.made.now.items block i x c.loop-x.made.items more c.loop-x.invariant c.in-Err-Code.code is

pub returns-in-Err-Code-clause-made : goal.returns-in-Err-Code-clause-made
returns-in-Err-Code-clause-made g c = ap (λ p. p.0) (sym (faulted g c))

pub returns-in-Err-Code-clause-fault : goal.returns-in-Err-Code-clause-fault
returns-in-Err-Code-clause-fault g c = ap Some c.in-Err-Code.code-is ∙ ap (λ p. p.1) (sym (faulted g c))

pub returns-clause-made : goal.returns-clause-made
returns-clause-made g c =
    let all : length c.args.block.now ≤ c.loop-x.x-index = search rules in
    ap (λ p. p.0) (sym (made-end (g.Self.MakeOf.makes c.args.self.now) c.args.made.now.items c.args.block.now c.loop-x.x-index c.loop-x.made.items all
    c.loop-x.invariant))

pub returns-clause-fault : goal.returns-clause-fault
returns-clause-fault g c =
    let all : length c.args.block.now ≤ c.loop-x.x-index = search rules in
    ap (λ p. p.1) (sym (made-end (g.Self.MakeOf.makes c.args.self.now) c.args.made.now.items c.args.block.now c.loop-x.x-index c.loop-x.made.items all
    c.loop-x.invariant))
