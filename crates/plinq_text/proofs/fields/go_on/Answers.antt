use Rattle.std.proofs.Common.{◌≡◌, ◌+◌, ◌-◌, arith, ap, sym, ◌∙◌}
use Rattle.plinq_text.specs.Fields.{from_field}
use Rattle.plinq_text.proofs.FieldLaws.{field-on}
use Rattle.plinq_text.proofs.fields.go_on.Goals as goal

pub returns : goal.returns
returns c =
    let s = c.args.separator in
    let last = c.args.last in
    let further = c.args.index - last in
    let on : last + further ≡ c.args.index = omega arith in
    c.from_field-2.ensures
    ∙ ap (from_field s further) c.requires
    ∙ sym (field-on s last further c.args.text.now)
    ∙ ap (λ n. from_field s n c.args.text.now) on
