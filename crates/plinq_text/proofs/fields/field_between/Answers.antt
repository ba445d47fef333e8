use Rattle.std.proofs.Common.{ap, sym, ◌∙◌}
use Rattle.plinq_text.specs.inner.FirstFields.{first_field}
use Rattle.plinq_text.proofs.FieldLaws.{field-from}
use Rattle.plinq_text.proofs.fields.field_between.Goals as goal

pub returns : goal.returns
returns c =
    c.first_field.ensures ∙ ap (first_field c.args.separator) c.from_field.ensures ∙ sym (field-from c.args.separator c.args.index c.args.text.now)
