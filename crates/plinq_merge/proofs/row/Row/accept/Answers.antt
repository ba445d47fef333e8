use Rattle.plinq_merge.proofs.MergerWords.{rules, ◌≡◌, [], arith, subst, unwrap_or, open_trace, ByKey, ByArrival, result_trace, end_of_result, Inserts, Row}
use Rattle.plinq_merge.proofs.MergerWords.{TakesIn}
use Rattle.plinq_merge.proofs.Holds.{takes-placed_intervals, takes-inserted, by_arrival-hand}
use Rattle.plinq_merge.proofs.row.Row.accept.Goals as goal

pub returns-then-count-eq0-clause-taken : goal.returns-then-count-eq0-clause-taken
returns-then-count-eq0-clause-taken g c =
    let by_key : c.args.order ≡ ByKey = search rules in
    rw (by_key, c.new.ensures.items)
    (takes-placed_intervals ByKey _ _ _ c.requires.fresh (rw c.if-count-eq0.true c.note_tail.ensures.buffer) c.note_tail.ensures.source_end)

pub returns-in_ok-insert-in-ByKey-clause-taken : goal.returns-in_ok-insert-in-ByKey-clause-taken
returns-in_ok-insert-in-ByKey-clause-taken g c =
    let r = c.args.offered in
    let by_key : c.args.order ≡ ByKey = search rules in
    let turn = c.in_ok-insert-in-ByKey.field-0 in
    let inserts : Inserts c.args.self.now.buffer r.first (end_of_result r) (result_trace r) turn c.insert.new.self = search rules in
    let hand : c.unwrap_or.result ≡ unwrap_or turn (open_trace c.new.result.items) = search rules in
    rw (by_key, hand, c.new.ensures.items)
    (takes-inserted ByKey c.args.self.now r turn (record { buffer = c.insert.new.self; source_end = c.note_tail.new.self.source_end })
    (omega arith) c.requires.fresh inserts c.note_tail.ensures.source_end)

pub returns-then-count-eq0-2-clause-taken : goal.returns-then-count-eq0-2-clause-taken
returns-then-count-eq0-2-clause-taken g c =
    let by_arrival : c.args.order ≡ ByArrival = search rules in
    rw (by_arrival, c.run_ending.ensures)
    (takes-placed_intervals ByArrival _ _ _ c.requires.fresh (rw c.if-count-eq0-2.true c.note_tail.ensures.buffer) c.note_tail.ensures.source_end)

pub returns-in_ok-insert-in-ByArrival-clause-taken : goal.returns-in_ok-insert-in-ByArrival-clause-taken
returns-in_ok-insert-in-ByArrival-clause-taken g c =
    let r = c.args.offered in
    let by_arrival : c.args.order ≡ ByArrival = search rules in
    let turn = c.in_ok-insert-in-ByArrival.field-0 in
    let b' = c.insert-in-ByArrival.new.self in
    let inserts : Inserts c.args.self.now.buffer r.first (end_of_result r) (open_trace []) turn b' = rw (← c.new.ensures.items) (search rules) in
    let after : Row g.row.T.Denot = record { buffer = b'; source_end = c.note_tail.new.self.source_end } in
    rw (by_arrival, c.run_ending.ensures)
    (subst (λ hand. TakesIn ByArrival c.args.self.now r hand after) (by_arrival-hand r c.args.self.now.buffer turn b' inserts)
    (takes-inserted ByArrival c.args.self.now r turn after (omega arith) c.requires.fresh inserts c.note_tail.ensures.source_end))
