use Rattle.std.proofs.Common.{arith, ap}
use Rattle.plinq_stream.proofs.Numbers.{may-give_number}
use Rattle.plinq_merge_tests.proofs.full_queue.a_sender_goes_on_once_the_queue_was_found_empty.Goals as goal

pub give_number-theirs-requires-clause-first : goal.give_number-theirs-requires-clause-first
give_number-theirs-requires-clause-first g c =
    may-give_number _ 0 64 (omega arith) (ap (λ k. k.numbers) c.in-Ok.ensures.first) (ap (λ k. k.sent) c.in-Ok.ensures.first)
