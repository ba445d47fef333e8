use Rattle.std.proofs.Common.{rules, ◌≡◌, refl}
use Rattle.plinq_run.proofs.Stopping.{asked-outcome, ok-outcome, decided-outcome, lent-asked}
use Rattle.plinq_run.proofs.cancelling.run_with.Goals as goal

pub returns : goal.returns
returns g c =
    let run = c.run-outcome in
    let last = c.ask_at_last in
    let lent = lent-asked _ _ _ _ _ _ _ g.met.C.Cancel.keeps_told _ _ refl _ _ _ _ refl run.ensures.reports last.ensures.same last.ensures.asked in
    let token : c.token-1.given.0 ≡ last.new.with.token.now = search (rules, lent.same) in
    let sink : c.sink-1.given.0 ≡ last.new.with.sink.now = search (rules, lent.same) in
    let is = asked-outcome g.C.Cancel.asks run.new.sink last.new.with run.new.sink.is_stopped run.result last.result last.ensures.asked in
    record {
      legal = ok-outcome _ run.result last.result is run.ensures.legal;
      decided =
          λ decided. let nothing = run.ensures.decided decided in decided-outcome run.result last.result is nothing
          (search (rules, lent.same, nothing.untouched));
      closed = λ undecided. ok-outcome _ run.result last.result is (run.ensures.closed undecided);
      told = search (rules, lent.same, lent.told);
      reports = (last.new.with.delivered, rw (token, sink) lent.reports);
    }
