use Rattle.std.proofs.Common.{rules, ◌≡◌, ◌≤◌, ◌+◌, ◌-◌, ◌++◌, ◌∷◌, [], All, Some, length, drop, refl, sym, ap, ◌∙◌, subst, arith}
use Rattle.std.proofs.lemmas.List.{append-nil, length-append}
use Rattle.std.proofs.lemmas.List.Elements.{All-nil, All-pop, All-push, All-weaker}
use Rattle.plinq_partition.specs.Partitions.{IsPartitionOf, all_shares, holding_of}
use Rattle.plinq_partition.specs.GivenBack.{common_origin}
use Rattle.plinq_stream.specs.declared.sent.Sent.{Sent}
use Rattle.plinq_stream.specs.Passes.{knowledge_of}
use Rattle.plinq_stream.specs.Streams.{has}
use Rattle.plinq_stream.proofs.Beside.{pass-beside}
use Rattle.plinq_stream.proofs.Numbers.{from-all}
use Rattle.plinq_crew.specs.inner.Handles.{IsHandleOf, AreNumbered}
use Rattle.plinq_crew.specs.Working.{HasClosed, IsOfOne, IsAnsweredBy, HasWorked}
use Rattle.plinq_crew.proofs.Handles.{common_origin-push, drop-push, numbered-pop}
use Rattle.plinq_crew.proofs.SentShares.{closed-push, sent-push, numbers-push}
use Rattle.plinq_crew.proofs.Working.{above-both, answered-before, answered-now}
use Rattle.plinq_crew.proofs.worker.Crew.join_all.Goals as goal

pub loop-handle-preserved : goal.loop-handle-preserved
loop-handle-preserved g c =
    let chunked = c.args.self.now.chunked.now in
    let before = c.loop-handle.partitions.items in
    let left = c.pop.new.self.items in
    let handle = c.in-Some.handle in
    let worked = c.join-worked.result in
    let a = knowledge_of c.loop-handle.pass in
    let b = knowledge_of worked.stream in
    let both = knowledge_of c.join.new.pass in
    let stands = c.loop-handle.invariant in
    let joined = stands.joined in
    let last : c.loop-handle.handles.items ≡ left ++ handle ∷ [] = c.in-Some.ensures.items in
    let popped = All-pop (IsHandleOf chunked c.args.self.now.stream.now) c.loop-handle.handles.items left (Some handle) last stands.handles in
    let numbered = numbered-pop 0 left handle (subst (AreNumbered 0) last stands.numbered) in
    let number : handle.promise.number ≡ length left = (let at : handle.promise.number ≡ 0 + length left = numbered.1 in omega (arith, at)) in
    let next : length c.loop-handle.handles.items ≡ length left + 1 = ap length last ∙ length-append left (handle ∷ []) in
    let pushed : c.push_reserved-in-Some.new.self.items ≡ before ++ worked.partition ∷ [] = c.push_reserved-in-Some.ensures.items in
    let work : HasWorked (length left) (holding_of worked.partition).share worked.fault b =
    subst (λ n. HasWorked n (holding_of worked.partition).share worked.fault b) number c.join-worked.ensures.worked in
    let is = c.join.ensures.both in
    let n = length left in
    let faults = c.note_any.new.self in
    let noted = c.note_any.ensures in
    let old = c.loop-handle.worker_faults in
    let least = length c.loop-handle.handles.items in
    record {
      handles = popped.0;
      numbered = numbered.0;
      some = search rules;
      room = search rules;
      above = above-both a b both is n least next stands.above work.own;
      joined = record {
        count = omega (arith, ap length pushed, length-append before (worked.partition ∷ []), joined.count, next);
        of = rw pushed (All-push (IsPartitionOf chunked) before worked.partition joined.of
            (subst (λ x. IsPartitionOf x worked.partition) popped.1.0 c.join-worked.ensures.of));
        origin = ap common_origin pushed ∙ common_origin-push before worked.partition stands.some ∙ joined.origin;
        pass = c.join.ensures.pass;
        receives = ap (λ k. k.receives) is ∙ joined.receives;
        received = ap (λ k. k.received) is ∙ joined.received;
        answered = subst (All (IsAnsweredBy n both faults)) (sym (ap (drop 1) pushed ∙ drop-push before worked.partition stands.some))
            (All-push (IsAnsweredBy n both faults) (drop 1 before) worked.partition
            (All-weaker (IsAnsweredBy least a old) (IsAnsweredBy n both faults) (answered-before n least next a b both is old faults noted.kept work.own)
            (drop 1 before) joined.answered)
            (answered-now n least next a b both is old faults noted.kept stands.above worked.partition worked.fault noted.noted work));
        sent = subst (λ ps. All (λ s. IsOfOne (all_shares ps) s.item) both.sent) (sym pushed)
            (sent-push before worked.partition a b both is n worked.fault work joined.sent);
        numbers = λ from. numbers-push before worked.partition a b both is n worked.fault work least next (joined.numbers from);
        closed = λ was. subst (λ ps. HasClosed (all_shares ps)) (sym pushed) (closed-push before worked.partition (joined.closed was));
        kept = (λ is. noted.kept.0 (joined.kept.0 is), λ is. noted.kept.1 (joined.kept.1 is));
      };
    }

pub join-requires-clause-other : goal.join-requires-clause-other
join-requires-clause-other g c =
    let stream = c.args.self.now.stream.now in
    let handle = c.in-Some.handle in
    let last = c.in-Some.ensures.items in
    let popped = All-pop (IsHandleOf c.args.self.now.chunked.now stream) c.loop-handle.handles.items _ (Some handle) last c.loop-handle.invariant.handles in
    pass-beside stream handle.promise.given.value c.join-worked.result.stream popped.1.1 c.join-worked.ensures.pass

pub loop-handle-init : goal.loop-handle-init
loop-handle-init g c =
    let first = c.args.first in
    let count = length c.args.handles.items in
    let pushed : c.push_reserved.new.self.items ≡ first ∷ [] = c.push_reserved.ensures.items ∙ ap (λ ps. ps ++ first ∷ []) c.requires.empty in
    let none = c.requires.receiver.sent in
    record {
      handles = c.requires.handles;
      numbered = c.requires.numbered;
      some = search rules;
      room = search rules;
      above = subst (All (λ s. count ≤ s.number)) (sym none) (All-nil (λ (s : Sent _). count ≤ s.number));
      joined = record {
        count = search rules;
        of = search rules;
        origin = search rules;
        pass = c.requires.pass;
        receives = c.requires.receiver.receives;
        received = refl;
        answered =
            (let Is = IsAnsweredBy count (knowledge_of c.args.pass.now) c.args.worker_faults.now in subst (λ ps. All Is (drop 1 ps)) (sym pushed) (All-nil Is));
        sent = subst (All (λ s. IsOfOne (all_shares c.push_reserved.new.self.items) s.item)) (sym none)
            (All-nil (λ (s : Sent _). IsOfOne (all_shares c.push_reserved.new.self.items) s.item));
        numbers = λ from n above near. ap (has n) from ∙ from-all count n (64 - count) above (omega (arith, above, near));
        closed = λ was. subst (λ ps. HasClosed (all_shares ps)) (sym pushed) (subst HasClosed (sym (append-nil (holding_of first).share)) was);
        kept = (λ is. is, λ is. is);
      };
    }
