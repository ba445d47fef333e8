use Rattle.std.proofs.Common.{rules, ◌≡◌, ◌<◌, ◌+◌, ◌++◌, ◌∷◌, [], length, sym, ap, ◌∙◌, subst, arith}
use Rattle.std.proofs.lemmas.List.{length-append}
use Rattle.std.proofs.lemmas.List.Elements.{All-push}
use Rattle.plinq_stream.specs.Passes.{knowledge_of}
use Rattle.plinq_stream.proofs.Numbers.{may-give_number}
use Rattle.plinq_crew.specs.inner.Handles.{IsHandleOf, AreNumbered}
use Rattle.plinq_crew.proofs.Cuts.{equipped-beside}
use Rattle.plinq_crew.proofs.Handles.{numbered-push}
use Rattle.plinq_crew.proofs.Working.{first-handed, rest-handed, handed-receiver}
use Rattle.plinq_crew.proofs.worker.Crew.start_wanted.Goals as goal

pub start-requires-clause-equipped : goal.start-requires-clause-equipped
start-requires-clause-equipped g c κs within =
    equipped-beside c.loop-worker.invariant.equipped c.dynamic.ensures.of.1 (ap (λ h. h.origin) c.dynamic.ensures.new) c.split.ensures.passes.1

pub give_number-requires-clause-first : goal.give_number-requires-clause-first
give_number-requires-clause-first g c =
    let less : c.loop-worker.worker < 64 = search rules in
    may-give_number (knowledge_of c.loop-worker.coordinator.stream) c.loop-worker.worker 64 less c.loop-worker.invariant.numbers
    c.loop-worker.invariant.receiver.sent

pub start-requires-clause-new : goal.start-requires-clause-new
start-requires-clause-new g c κs within =
    let less : c.loop-worker.worker < 64 = search rules in
    record {
      of = c.give_number.ensures.of;
      knows = first-handed c.loop-worker.worker (knowledge_of c.loop-worker.coordinator.stream) (knowledge_of c.give_number.result) less
          c.loop-worker.invariant.numbers c.give_number.ensures.first;
      share = search rules;
    }

pub loop-worker-preserved : goal.loop-worker-preserved
loop-worker-preserved g c =
    let crew = c.args.self.now in
    let handles = c.loop-worker.team.handles.items in
    let stands = c.loop-worker.invariant in
    let knew = knowledge_of c.loop-worker.coordinator.stream in
    let handle = c.in-Some.handle in
    let less : c.loop-worker.worker < 64 = search rules in
    let counted : length handles ≡ c.loop-worker.worker = stands.counted in
    let at : handle.promise.number ≡ c.loop-worker.worker = c.in-Some.ensures.number in
    let number : handle.promise.number ≡ 0 + length handles = omega (arith, at, counted) in
    let pushed : c.push_reserved.new.self.items ≡ handles ++ handle ∷ [] = c.push_reserved.ensures.items in
    let next : length c.push_reserved.new.self.items ≡ c.loop-worker.worker + 1 =
    ap length pushed ∙ length-append handles (handle ∷ []) ∙ ap (λ n. n + 1) counted in
    record {
      equipped = equipped-beside stands.equipped c.dynamic.ensures.of.0 (ap (λ h. h.origin) c.dynamic.ensures.same) c.split.ensures.passes.0;
      same = search rules;
      stream = c.give_number.ensures.pass;
      receiver = handed-receiver c.loop-worker.worker knew (knowledge_of c.give_number.new.pass) stands.receiver c.give_number.ensures.left;
      numbers = rest-handed c.loop-worker.worker knew (knowledge_of c.give_number.new.pass) less stands.numbers c.give_number.ensures.left;
      received = ap (λ k. k.received) c.give_number.ensures.left ∙ stands.received;
      counted = next;
      team = record {
        started = sym next;
        asked = search rules;
        within = search rules;
        room = search rules;
        handles = rw pushed (All-push (IsHandleOf crew.chunked.now crew.stream.now) handles handle stands.team.handles c.in-Some.ensures.handle);
        numbered = subst (AreNumbered 0) (sym pushed) (numbered-push 0 handles handle stands.team.numbered number);
      };
      wanted = stands.wanted;
    }

pub returns-in_default-clause-may : goal.returns-in_default-clause-may
returns-in_default-clause-may g c =
    let less : c.loop-worker.worker < c.loop-worker.coordinator.worker_count.wanted = search rules in
    let stands = c.loop-worker.invariant in
    let count = c.loop-worker.coordinator.worker_count in
    record {
      pass = c.give_number.ensures.pass;
      receiver = handed-receiver c.loop-worker.worker (knowledge_of c.loop-worker.coordinator.stream) (knowledge_of c.give_number.new.pass) stands.receiver
          c.give_number.ensures.left;
      numbers = λ same. absurd (let is : count.started ≡ count.wanted = same in omega (arith, less, stands.counted, stands.team.started, is));
      equipped = equipped-beside stands.equipped c.dynamic.ensures.of.0 (ap (λ h. h.origin) c.dynamic.ensures.same) c.split.ensures.passes.0;
      team = search rules;
      workers = c.requires.may.workers;
    }
