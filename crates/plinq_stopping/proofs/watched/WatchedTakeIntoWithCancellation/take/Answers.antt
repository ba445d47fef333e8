use Rattle.std.proofs.Common.{rules, ◌≡◌, false, refl, ◌∙◌, ap}
use Rattle.std.specs.Prelude.{◌||◌}
use Rattle.std.proofs.Math.Bool.{or-false}
use Rattle.plinq_source.specs.Trace.{Trace}
use Rattle.plinq_merge.specs.Cancelling.{IsAsked}
use Rattle.plinq_merge.specs.Lent.{delivery_of}
use Rattle.plinq_stopping.proofs.Delivered.{begun-same, begun-went}
use Rattle.plinq_stopping.proofs.watched.WatchedTakeIntoWithCancellation.take.Goals as goal

pub returns-clause-made : goal.returns-clause-made
returns-clause-made g c =
    let asks = g.C.Cancel.asks in
    let accepts = g.K.Sink.accepts in
    let refuses = g.K.Sink.refuses in
    let w = c.args.out.now in
    let m = c.stops.new.self in
    let w' = c.take.new.out in
    let d = c.args.self.now.made in
    let t : Trace _ = record { items = c.args.items.items; ending = c.args.ending } in
    let lets : c.stops.result ≡ false = search rules in
    let asked : IsAsked asks false (delivery_of w) (delivery_of m) = rw lets at c.stops.ensures.asked in
    let still : m.is_stopped ≡ w.is_stopped = c.stops.ensures.noted ∙ ap (λ b. w.is_stopped || b) lets ∙ or-false w.is_stopped in
    record {
      same = begun-same asks accepts refuses w m w' d t c.take.result c.take.new.self c.stops.ensures.same asked.sink still _ asked.asked c.take.ensures.made;
      went = λ before.
          begun-went asks accepts refuses w m w' d t c.take.result c.take.new.self c.stops.ensures.same asked.sink still _ asked.asked c.take.ensures.made
          w'.is_stopped refl before;
    }
