use Rattle.plinq_merge.proofs.Offers.{nothing-made, offers-joined, sends-joined}
use Rattle.plinq_merge.proofs.merger.Merger.offer_to.Goals as goal

pub returns-clause-takes : goal.returns-clause-takes
returns-clause-takes g c =
    let j = c.offer.new.self in
    let joined = c.offer.ensures in
    offers-joined _ _ _ _ _ _ _ _ _ _ joined.order (λ still. nothing-made g.L.Lambda.meaning j.work.taker (joined.ready still)) _ _ joined.takes

pub returns-clause-sends : goal.returns-clause-sends
returns-clause-sends g c =
    let j = c.offer.new.self in
    sends-joined g.L.Lambda.meaning c.args.self.now.decided c.args.self.now.joiner.work c.args.offered _ _ _ j.work _ j.standing _ _ c.offer.ensures.takes
