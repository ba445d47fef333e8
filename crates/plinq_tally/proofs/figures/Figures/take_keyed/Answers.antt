use Rattle.std.proofs.Common.{◌++◌, ap, sym, ◌∙◌}
use Rattle.indexmap.specs.IndexMap.{insert_entry, set_value_at}
use Rattle.std.specs.Str.{bytes_eq}
use Rattle.plinq_tally.specs.Figures.{first_figure, with_number}
use Rattle.plinq_tally.specs.Tallies.{keyed}
use Rattle.plinq_tally.proofs.TallyLaws.{keyed-new, keyed-there, shown}
use Rattle.plinq_tally.proofs.figures.Figures.take_keyed.Goals as goal

pub returns-in-Some : goal.returns-in-Some
returns-in-Some c =
    let x = c.args.number.billionths in
    let es = c.self.inside.figures.entries in
    let first = first_figure x in
    let grown = ap (λ f. shown (set_value_at es c.in-Some.at f)) c.with.ensures
    ∙ keyed-there first (with_number x) c.args.key.now es c.in-Some.at c.index.result.now (sym c.in-Some.ensures.index) c.index.ensures in
    ap (λ gs. (c.self.inside.separator, gs)) grown ∙ ap (λ v. (v.0, keyed first (with_number x) v.1 c.args.key.now)) c.self.view_is

pub returns-in_ok-insert-in-None : goal.returns-in_ok-insert-in-None
returns-in_ok-insert-in-None c =
    let x = c.args.number.billionths in
    let es = c.self.inside.figures.entries in
    let first = first_figure x in
    let added = ap shown c.in_ok-insert-in-None.ensures.entries
    ∙ ap (λ f. shown (insert_entry (λ a b. bytes_eq a.items b.items) es c.extend_from_slice.new.self f)) c.of.ensures
    ∙ keyed-new first (with_number x) c.args.key.now es c.extend_from_slice.new.self (sym c.in-None.ensures.index)
    (c.in_ok-extend_from_slice-in-None.ensures.items ∙ ap (λ k. k ++ c.args.key.now) c.new-kept.ensures.items) in
    ap (λ gs. (c.self.inside.separator, gs)) added ∙ ap (λ v. (v.0, keyed first (with_number x) v.1 c.args.key.now)) c.self.view_is
