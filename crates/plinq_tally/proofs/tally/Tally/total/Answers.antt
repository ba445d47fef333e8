use Rattle.std.proofs.Common.{[], ◌+◌, ◌%◌, ◌<◌, length, subst, ap, sym, ◌∙◌}
use Rattle.plinq_tally.proofs.TallyLaws.{is-there, total-more}
use Rattle.plinq_tally.proofs.tally.Tally.total.Goals.{in-Some, in_default}
use Rattle.plinq_tally.proofs.tally.Tally.total.Goals as goal

pub loop-i-preserved : goal.loop-i-preserved
loop-i-preserved c =
    let gs = c.args.self.now in
    let i = c.loop-i.i in
    let within : i < length gs = subst (λ n. i < n) c.len-i-end.ensures c.loop-i-test.true in
    elim c.match-get.branch [
      | in-Some w ↦ w.total-is
          ∙ ap (λ n. (n + w.in-Some.count) % 18446744073709551616) c.loop-i.invariant
          ∙ sym (total-more gs i (w.in-Some.field-0-0.now, w.in-Some.count) (sym w.in-Some.ensures))
      | in_default w ↦ is-there gs i ([], 0) within (sym w.in_default.ensures)
    ]
