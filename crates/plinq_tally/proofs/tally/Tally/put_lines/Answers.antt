use Rattle.std.proofs.Common.{[], ◌++◌, ◌<◌, length, append_assoc, take, subst, ap, sym, ◌∙◌}
use Rattle.plinq_tally.specs.Tallies.{count_line, tally_text}
use Rattle.plinq_tally.proofs.TallyLaws.{is-there, text-more}
use Rattle.plinq_tally.proofs.tally.Tally.put_lines.Goals.{in-Some+in_ok-put_line, in_default}
use Rattle.plinq_tally.proofs.tally.Tally.put_lines.Goals as goal

pub loop-i-preserved : goal.loop-i-preserved
loop-i-preserved c =
    let gs = c.args.self.now in
    let i = c.loop-i.i in
    let out = c.args.out.now.items in
    let within : i < length gs = subst (λ n. i < n) c.len-i-end.ensures c.loop-i-test.true in
    elim c.match-get.branch [
      | in-Some+in_ok-put_line w ↦
          let line = count_line (w.in-Some.text.now, w.in-Some.count) in
          ap (λ v. v.items) w.out-is
          ∙ w.in_ok-put_line.ensures
          ∙ ap (λ b. b ++ line) c.loop-i.invariant
          ∙ append_assoc out (tally_text (take i gs)) line
          ∙ ap (λ b. out ++ b) (sym (text-more gs i (w.in-Some.text.now, w.in-Some.count) (sym w.in-Some.ensures)))
      | in_default w ↦ is-there gs i ([], 0) within (sym w.in_default.ensures)
    ]
