use Rattle.std.proofs.Common.{rules, ◌≡◌, ◌++◌, ◌∷◌, [], subst, arith, length, ap}
use Rattle.std.proofs.lemmas.List.{length_push}
use Rattle.std.proofs.lemmas.List.Elements.{All-push, All-rest}
use Rattle.plinq_partition.specs.GivenBack.{common_origin}
use Rattle.plinq_cli.specs.Rounds.{IsDone, IsOpen}
use Rattle.plinq_cli.proofs.HandedOut.{first-open, less-after}
use Rattle.plinq_cli.proofs.rounds.take_turns.Goals as goal

pub loop-next-preserved-in-Some-2 : goal.loop-next-preserved-in-Some-2
loop-next-preserved-in-Some-2 g c =
    let chunked = c.args.chunked.now in
    let t = common_origin c.args.partitions.items in
    let p = c.in-Some.next in
    let rest = c.pop_front.new.self.items in
    let was : c.loop-next.waiting.items ≡ p ∷ rest = c.in-Some.ensures.items in
    let mine = first-open chunked t p c.loop-next.waiting.items rest was c.loop-next.invariant.waiting in
    let done : IsDone chunked t c.take_once.new.partition =
    subst (λ u. IsDone chunked u c.take_once.new.partition) mine.origin (c.in_ok-take_once.ensures.done (search rules)) in
    let pushed : c.push_reserved.new.self.items ≡ c.loop-next.done.items ++ c.take_once.new.partition ∷ [] = c.push_reserved.ensures.items in
    record {
      waiting = All-rest (IsOpen chunked t) p rest c.loop-next.waiting.items was c.loop-next.invariant.waiting;
      done = rw pushed (All-push (IsDone chunked t) c.loop-next.done.items c.take_once.new.partition c.loop-next.invariant.done done);
      count =
          let a = ap length was in let b = ap length pushed in let k = length_push c.loop-next.done.items c.take_once.new.partition in let
          n = c.loop-next.invariant.count in omega arith;
      room =
          let a = ap length was in let n = c.loop-next.invariant.room in let l = c.push_reserved.ensures.len in let k = c.push_reserved.ensures.capacity in
          omega arith;
    }

pub loop-next-smaller : goal.loop-next-smaller
loop-next-smaller g c =
    let p = c.in-Some.next in
    let rest = c.pop_front.new.self.items in
    let was : c.loop-next.waiting.items ≡ p ∷ rest = c.in-Some.ensures.items in
    let pushed : c.push_back.new.self.items ≡ rest ++ c.take_once.new.partition ∷ [] = search rules in
    let less = (c.in_ok-take_once.ensures.goes_on c.in-None.is).1 in
    less-after p c.take_once.new.partition c.loop-next.waiting.items rest c.push_back.new.self.items was pushed less

pub loop-next-preserved : goal.loop-next-preserved
loop-next-preserved g c =
    let chunked = c.args.chunked.now in
    let t = common_origin c.args.partitions.items in
    let p = c.in-Some.next in
    let rest = c.pop_front.new.self.items in
    let was : c.loop-next.waiting.items ≡ p ∷ rest = c.in-Some.ensures.items in
    let mine = first-open chunked t p c.loop-next.waiting.items rest was c.loop-next.invariant.waiting in
    let pushed : c.push_back.new.self.items ≡ rest ++ c.take_once.new.partition ∷ [] = search rules in
    let further : IsOpen chunked t c.take_once.new.partition =
    subst (λ u. IsOpen chunked u c.take_once.new.partition) mine.origin (c.in_ok-take_once.ensures.goes_on c.in-None.is).0 in
    record {
      waiting =
          rw pushed (All-push (IsOpen chunked t) rest c.take_once.new.partition (All-rest
          (IsOpen chunked t) p rest c.loop-next.waiting.items was c.loop-next.invariant.waiting) further);
      done = c.loop-next.invariant.done;
      count =
          let a = ap length was in let b = ap length pushed in let k = length_push rest c.take_once.new.partition in let n = c.loop-next.invariant.count in
          omega arith;
      room =
          let a = ap length was in let b = ap length pushed in let k = length_push rest c.take_once.new.partition in let n = c.loop-next.invariant.room in
          omega arith;
    }
