use Rattle.std.proofs.Common.{refl}
use Rattle.plinq_merge.specs.{Lent.delivery_of, Mergers.AsksEach}
use Rattle.plinq_merge.proofs.Lent.{sends-same, asks-within, asks-told, offers-within}
use Rattle.plinq_merge.proofs.merger.Merger.offer_within.Goals as goal

pub returns : goal.returns
returns g c =
    let m = c.args.self.now in
    let w = c.args.with.now in
    let m' = c.offer_to-answer.new.self in
    let w' = c.offer_to-answer.new.sink in
    let answer = c.offer_to-answer.result in
    let did = c.offer_to-answer.ensures in
    let asked : AsksEach g.C.Cancel.asks g.K.Sink.accepts g.K.Sink.refuses (delivery_of w) c.answer_unless_stopped.result (delivery_of w') =
    rw c.answer_unless_stopped.ensures (asks-within _ _ _ w w' c.requires.unstopped w'.is_stopped answer refl did.sends) in
    record {
      same = sends-same _ _ _ w answer w' did.sends;
      plan = did.plan;
      takes = rw c.answer_unless_stopped.ensures (offers-within _ _ _ w w' c.requires.unstopped g.L.Lambda.meaning m.decided m.joiner.work c.args.offered
          m'.joiner.work m'.joiner.standing m.joiner.standing w'.is_stopped answer refl did.sends did.takes);
      told = asks-told _ _ g.met.C.Cancel.keeps_told _ _ (delivery_of w) _ (delivery_of w') asked;
      asks = asked;
    }
