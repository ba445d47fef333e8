use Rattle.std.proofs.Common.{◌∙◌, ap}
use Rattle.plinq_keyed.specs.declared.event.Event.TheVariants.{Close}
use Rattle.plinq_keyed.specs.History.{Place}
use Rattle.plinq_enumerator.proofs.Next.{Grown-from_next, next_record-close}
use Rattle.plinq_enumerator.proofs.enumerator.Enumerator.close.Goals as goal

pub invariant_of-self-2 : goal.invariant_of-self-2
invariant_of-self-2 g c =
    let old = c.args.self.now in
    let t = g.S.Source.whole old.source in
    let h = old.records.items in
    let grown =
    Grown-from_next t h c.push.new.self.items c.args.ticket Close _ c.in_ok-push.ensures.items
    (next_record-close t h c.args.ticket old.given old.at) old.legal c.requires.rising in
    record {
      walked = old.walked;
      at = ap (λ (p : Place). p.given) grown.place ∙ old.at;
      shut = ap (λ (p : Place). p.closed) grown.place;
      legal = grown.legal;
    }
