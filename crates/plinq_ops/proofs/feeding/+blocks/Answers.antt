use Rattle.std.proofs.Common.{rules, arith, length, ◌<◌, ◌≡◌, ◌∷◌, [], ◌++◌, ◌+◌, ◌∙◌, refl, ap, sym, append-nil, take, drop, is_some, true, false, None}
use Rattle.std.proofs.lemmas.List.{take_more, take_all, take-append-drop}
use Rattle.std.proofs.lemmas.Result.{IfOk-weaker}
use Rattle.plinq_source.specs.Trace.{open_trace, ended_trace}
use Rattle.plinq_source.proofs.Followed.{trace_of, followed_by-open_nil}
use Rattle.plinq_source.specs.declared.ending.Ending.TheVariants.{Fault}
use Rattle.plinq_ops.specs.Stage.{some_takes_none}
use Rattle.plinq_ops.specs.Operator.{selected_many}
use Rattle.plinq_ops.specs.Pipeline.{stages_now}
use Rattle.plinq_ops.proofs.Fed.{fed-none, fed-ended_before, undecided-left, none-from_is_some}
use Rattle.plinq_ops.proofs.Through.{through-expansions, goes-next, goes-all, feeds-appended, feeds-through, feeds-followed_by}
use Rattle.plinq_ops.proofs.feeding.+blocks.Goals as goal

pub feed_rest-returns : goal.feed_rest-returns
feed_rest-returns g t c = rw c.in_ok-append_or_take.ensures (feeds-appended c.in_ok-ending.ensures)

pub feed_expansion-returns-in-Ok : goal.feed_expansion-returns-in-Ok
feed_expansion-returns-in-Ok g t c =
    let gives = followed_by-open_nil _ ∙ ap selected_many c.in-Ok.ensures.items in
    IfOk-weaker c.feed_rest.result _ _ (λ e feeds. feeds-through _ (c.args.item ∷ []) None gives refl feeds) c.feed_rest.ensures

pub feed_expansion-returns-in-Err-Code : goal.feed_expansion-returns-in-Err-Code
feed_expansion-returns-in-Err-Code g t c =
    let gives : selected_many ((g.L.Lambda.meaning c.args.f.now).expand c.args.item) ≡ ended_trace [] (Fault c.in-Err-Code.code) = search rules in
    IfOk-weaker c.feed_rest-in-Err-Code.result _ _
    (λ e feeds. feeds-through _ (c.args.item ∷ []) None (followed_by-open_nil _ ∙ gives) refl feeds) (rw c.new.ensures.items at c.feed_rest-in-Err-Code.ensures)

pub feed_expansions-loop-item-init : goal.feed_expansions-loop-item-init
feed_expansions-loop-item-init g t c =
    rw (c.replace-items.ensures.after, c.new.ensures.items) (record { others = refl; fed = fed-none _ [] c.requires.undecided })

pub feed_expansions-feed_expansion-requires : goal.feed_expansions-feed_expansion-requires
feed_expansions-feed_expansion-requires g t c =
    let undecided : some_takes_none (stages_now g.L.Lambda.meaning (drop c.args.from c.loop-item.ops)) ≡ false =
    undecided-left _ _ _ _ _ c.loop-item.invariant.fed in
    search rules

pub feed_block-loop-at-preserved : goal.feed_block-loop-at-preserved
feed_block-loop-at-preserved g t c =
    let within : c.loop-at.at < length c.loop-at.ops = omega (arith, c.loop-at-test.true, c.loop-at.auto.ops) in
    goes-next _ c.pass_block-ending.new.op c.loop-at.block.items c.loop-at.ending c.index-ops-at.result within refl c.pass_block-ending.ensures.passed
    c.pass_block-ending.ensures.left c.loop-at.invariant

pub feed_block-returns-in-Expanding : goal.feed_block-returns-in-Expanding
feed_block-returns-in-Expanding g t c =
    let within : c.loop-at.at < length c.loop-at.ops = omega (arith, c.loop-at-test.true, c.loop-at.auto.ops) in
    IfOk-weaker c.feed_expansions.result _ _
    (λ e feeds. c.loop-at.invariant.goes_on _ _ e (through-expansions _ _ _ within (sym c.in-Expanding.is) refl feeds)) c.feed_expansions.ensures

pub feed_block-returns : goal.feed_block-returns
feed_block-returns g t c = goes-all (omega (arith, c.loop-at-test.false, c.loop-at.auto.ops)) c.loop-at.invariant

pub feed_expansions-returns-then-is_some : goal.feed_expansions-returns-then-is_some
feed_expansions-returns-then-is_some g t c =
    let i = c.loop-item.item-index in
    let items = c.deref-item-items.result.now in
    let x = c.item-item.result in
    let same : items ≡ c.args.block.now.items = search rules in
    let all : items ≡ (take i items ++ x ∷ []) ++ drop (i + 1) items =
    sym (take-append-drop (i + 1) items)
    ∙ ap (λ ys. ys ++ drop (i + 1) items) (take_more items i x c.loop-item-test.true ∙ ap (λ y. take i items ++ y ∷ []) (sym c.item-item.is)) in
    let ends : is_some c.in_ok-ended.ended ≡ true = search rules in
    let feeds = feeds-followed_by c.loop-item.invariant c.in_ok-ended.ensures in
    rw (← same, all) (record {
      others = feeds.others;
      fed = fed-ended_before _ _ _ (open_trace (take i items ++ x ∷ [])) (trace_of (drop (i + 1) items) c.args.ending) [] _ c.in_ok-ended.ended ends feeds.fed;
    })

pub feed_expansions-loop-item-preserved : goal.feed_expansions-loop-item-preserved
feed_expansions-loop-item-preserved g t c =
    let i = c.loop-item.item-index in
    let items = c.deref-item-items.result.now in
    let x = c.item-item.result in
    let more : take (i + 1) items ≡ take i items ++ x ∷ [] =
    take_more items i x c.loop-item-test.true ∙ ap (λ y. take i items ++ y ∷ []) (sym c.item-item.is) in
    let open_still : c.in_ok-ended.ended ≡ None = none-from_is_some _ (search rules) in
    rw more (feeds-followed_by c.loop-item.invariant (rw open_still at c.in_ok-ended.ensures))

pub feed_expansions-returns-then-is_none : goal.feed_expansions-returns-then-is_none
feed_expansions-returns-then-is_none g t c =
    let items = c.deref-item-items.result.now in
    let same : items ≡ c.args.block.now.items = search rules in
    let all : take c.loop-item.item-index items ≡ c.args.block.now.items =
    take_all c.loop-item.item-index items (omega (arith, c.loop-item-test.false)) ∙ same in
    let still_open : c.args.ending ≡ None = none-from_is_some _ c.if-is_none.ensures in
    rw still_open (rw all at c.loop-item.invariant)

pub feed_expansions-returns : goal.feed_expansions-returns
feed_expansions-returns g t c =
    let items = c.deref-item-items.result.now in
    let xs = c.args.block.now.items in
    let same : items ≡ xs = search rules in
    let all : take c.loop-item.item-index items ≡ xs = take_all c.loop-item.item-index items (omega (arith, c.loop-item-test.false)) ∙ same in
    let before = rw all at c.loop-item.invariant in
    IfOk-weaker c.feed_rest.result _ _
    (λ e feeds. rw (← append-nil xs) (feeds-followed_by before (feeds-through _ [] c.args.ending refl refl feeds)))
    (rw c.new-2.ensures.items at c.feed_rest.ensures)

pub feed_expansions-feed_rest-requires : goal.feed_expansions-feed_rest-requires
feed_expansions-feed_rest-requires g t c =
    let undecided : some_takes_none (stages_now g.L.Lambda.meaning (drop c.args.from c.loop-item.ops)) ≡ false =
    undecided-left _ _ _ _ _ c.loop-item.invariant.fed in
    search rules
