-- nothing is written before all have had a tail, and then the lines of their records
use Rattle.std.proofs.Common.{◌≡◌, false, Some, None, refl, ap, sym, ◌∙◌, subst}
use Rattle.plinq_source.specs.Trace.{IsSourceEnding}
use Rattle.plinq_enumerator.specs.Held.{held_source, held_records}
use Rattle.plinq_document.specs.WalkedSources.{any_whole, any_walked}
use Rattle.plinq_lines.specs.HistoryText.{history_text}
use Rattle.plinq_lines.proofs.WrittenBytes.{appends-as, begins-as}
use Rattle.plinq_arguments.specs.declared.command.Command.TheVariants.{History}
use Rattle.plinq_cli.proofs.Flushed.{serves-begun}
use Rattle.plinq_cli.proofs.JobHistories.{taken-tell}
use Rattle.plinq_cli.proofs.serving.serve_history.Goals as goal

pub unreachable-requires : goal.unreachable-requires
unreachable-requires g c =
    let e = c.in_ok-enumerator.enumerator in
    let records = c.records-records.result.now in
    let tells = taken-tell c.args.job _ c.degree.result (any_whole (held_source e)) (held_records e) records c.job.view_is c.degree.ensures.value
    c.in_ok-enumerator.ensures.origin c.records-records.ensures.value c.in_ok-enumerator.ensures.shares c.records-records.ensures.legal
    c.degree.ensures.within.0
    (any_walked (held_source e)).ends in
    let none : c.args.job.source.ending ≡ None = sym tells.told ∙ (sym c.told_ending.ensures ∙ c.in_default.is) in
    subst IsSourceEnding none tells.ends

pub returns-in_err-write_history-clause-written : goal.returns-in_err-write_history-clause-written
returns-in_err-write_history-clause-written g c =
    let e = c.in_ok-enumerator.enumerator in
    let records = c.records-records.result.now in
    let tells = taken-tell c.args.job _ c.degree.result (any_whole (held_source e)) (held_records e) records c.job.view_is c.degree.ensures.value
    c.in_ok-enumerator.ensures.origin c.records-records.ensures.value c.in_ok-enumerator.ensures.shares c.records-records.ensures.legal
    c.degree.ensures.within.0
    (any_walked (held_source e)).ends in
    let ended : Some c.in-Some.ending ≡ c.args.job.source.ending = sym c.in-Some.is ∙ (c.told_ending.ensures ∙ tells.told) in
    serves-begun false History c.args.job _ _ _ c.args.job.source _ c.from_residual-in_err-write_history.ensures.0 refl (records, tells.history, refl)
    (begins-as _ _ _ _ (ap (history_text records) ended) c.in_err-write_history.ensures)

pub returns-clause-written : goal.returns-clause-written
returns-clause-written g c =
    let e = c.in_ok-enumerator.enumerator in
    let records = c.records-records.result.now in
    let tells = taken-tell c.args.job _ c.degree.result (any_whole (held_source e)) (held_records e) records c.job.view_is c.degree.ensures.value
    c.in_ok-enumerator.ensures.origin c.records-records.ensures.value c.in_ok-enumerator.ensures.shares c.records-records.ensures.legal
    c.degree.ensures.within.0
    (any_walked (held_source e)).ends in
    let ended : Some c.in-Some.ending ≡ c.args.job.source.ending = sym c.in-Some.is ∙ (c.told_ending.ensures ∙ tells.told) in (
      c.args.job.source,
      refl,
      history_text records c.args.job.source.ending,
      (records, tells.history, refl),
      appends-as _ _ _ _ (ap (history_text records) ended) c.in_ok-write_history.ensures,
      sym ended,
    )
