use Rattle.std.proofs.Common.{◌++◌, ap, sym, ◌∙◌}
use Rattle.plinq_tally.specs.Tallies.{counted, one_more}
use Rattle.plinq_tally.proofs.TallyLaws.{keyed-new, keyed-there, shown}
use Rattle.plinq_tally.proofs.tally.Tally.count.Goals as goal

pub returns-in-Some : goal.returns-in-Some
returns-in-Some c =
    keyed-there 1 one_more c.args.text.now c.self.inside.counts.entries c.in-Some.at c.index.result.now (sym c.in-Some.ensures.index) c.index.ensures
    ∙ ap (λ gs. counted gs c.args.text.now) c.self.view_is

pub returns-in_ok-insert-in-None : goal.returns-in_ok-insert-in-None
returns-in_ok-insert-in-None c =
    ap shown c.in_ok-insert-in-None.ensures.entries
    ∙ keyed-new 1 one_more c.args.text.now c.self.inside.counts.entries c.extend_from_slice.new.self (sym c.in-None.ensures.index)
    (c.in_ok-extend_from_slice-in-None.ensures.items ∙ ap (λ x. x ++ c.args.text.now) c.new-key.ensures.items)
    ∙ ap (λ gs. counted gs c.args.text.now) c.self.view_is
