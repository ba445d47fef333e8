-- nothing is written before the partitions are there, and then their lines
use Rattle.std.proofs.Common.{◌≡◌, false, ℕ, ℤ, List, ◌++◌, refl, ap, sym, ◌∙◌, rules}
use Rattle.plinq_source.specs.declared.ending.Ending.{Ending}
use Rattle.plinq_source.specs.Trace.{Trace, ended_trace}
use Rattle.plinq_keyed.specs.declared.keyed.Keyed.{Keyed}
use Rattle.plinq_keyed.specs.declared.properties.KeyProperties.{KeyProperties}
use Rattle.plinq_keyed.specs.Keys.{keyed_from, element_lists}
use Rattle.plinq_partition.specs.Cuts.{cuts}
use Rattle.plinq_ops.specs.Query.{degree_in_force}
use Rattle.plinq_document.specs.Jobs.{JobView}
use Rattle.plinq_lines.specs.AnswerText.{line, ending_words}
use Rattle.plinq_lines.specs.PartsText.{all_true, properties_line, part_lines, parts_text}
use Rattle.plinq_lines.proofs.WrittenBytes.{appends-as, begins-as}
use Rattle.plinq_arguments.specs.declared.command.Command.TheVariants.{Parts}
use Rattle.plinq_cli.proofs.Flushed.{serves-begun, serves-unwritten}
use Rattle.plinq_cli.proofs.serving.serve_parts.Goals as goal

written : (p : KeyProperties) (parts : List (List (Keyed ℤ))) (e : Ending) (items : List ℤ) (n m : ℕ) (t u : Trace ℤ)
    → p ≡ all_true → parts ≡ cuts (keyed_from 0 items) n → n ≡ m → ended_trace items e ≡ t → t ≡ u
    → properties_line p ++ (part_lines 0 parts ++ line (ending_words e)) ≡ parts_text m u
written p parts e items n m t u properties cut same all whole =
    ap (λ q. properties_line q ++ (part_lines 0 parts ++ line (ending_words e))) properties
    ∙ ap (λ ps. properties_line all_true ++ (part_lines 0 ps ++ line (ending_words e))) cut
    ∙ ap (parts_text n) (all ∙ whole)
    ∙ ap (λ k. parts_text k u) same

pub returns-in_err-items-clause-written : goal.returns-in_err-items-clause-written
returns-in_err-items-clause-written g c = serves-unwritten false Parts c.args.job _ _ c.from_residual.ensures.0

pub returns-in_err-partitions-clause-written : goal.returns-in_err-partitions-clause-written
returns-in_err-partitions-clause-written g c = serves-unwritten false Parts c.args.job _ _ c.from_residual-in_err-partitions.ensures.0

pub returns-in_err-write_parts-clause-written : goal.returns-in_err-write_parts-clause-written
returns-in_err-write_parts-clause-written g c =
    let cut : element_lists c.as_slice.result.now ≡ cuts (keyed_from 0 c.in_ok-items.items.items) c.degree.result = search rules in
    let degree : c.degree.result ≡ degree_in_force c.args.job.query.degree =
    c.degree.ensures.value ∙ ap (λ (j : JobView). degree_in_force j.query.degree) c.job.view_is in
    let whole = ap (λ (j : JobView). j.source) c.job.view_is in
    serves-begun false Parts c.args.job _ _ _ c.args.job.source _ c.from_residual-in_err-write_parts.ensures.0 refl refl
    (begins-as _ _ _ _ (written _ _ _ _ _ _ _ _ c.properties.ensures cut degree c.in_ok-items.ensures whole) c.in_err-write_parts.ensures)

pub returns-clause-written : goal.returns-clause-written
returns-clause-written g c =
    let cut : element_lists c.as_slice.result.now ≡ cuts (keyed_from 0 c.in_ok-items.items.items) c.degree.result = search rules in
    let degree : c.degree.result ≡ degree_in_force c.args.job.query.degree =
    c.degree.ensures.value ∙ ap (λ (j : JobView). degree_in_force j.query.degree) c.job.view_is in
    let whole = ap (λ (j : JobView). j.source) c.job.view_is in (
      c.args.job.source,
      refl,
      parts_text (degree_in_force c.args.job.query.degree) c.args.job.source,
      refl,
      appends-as _ _ _ _ (written _ _ _ _ _ _ _ _ c.properties.ensures cut degree c.in_ok-items.ensures whole) c.in_ok-write_parts.ensures,
      sym (ap (λ (t : Trace ℤ). t.ending) (c.in_ok-items.ensures ∙ whole)),
    )
