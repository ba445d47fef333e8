use Rattle.std.proofs.Common.{◌≡◌, ◌+◌, ◌-◌, suc, [], ap, sym, ◌∙◌, arith}
use Rattle.std.proofs.lemmas.Bool.{eqb-true}
use Rattle.std.proofs.lemmas.List.{nil_from_length}
use Rattle.plinq_text.specs.Fields.{from_column}
use Rattle.plinq_text.proofs.FieldLaws.{from_column-nil, from_column-zero, from_column-suc}
use Rattle.plinq_text.proofs.fields.from_column.Goals as goal

pub loop-column-preserved : goal.loop-column-preserved
loop-column-preserved c =
    let byte = c.args.byte in
    let rest = c.loop-column.rest.now in
    let left = c.args.index - (c.loop-column._column + 1) in
    let on : c.args.index - c.loop-column._column ≡ suc left = omega arith in
    c.loop-column.invariant ∙ ap (λ n. from_column byte n rest) on ∙ from_column-suc byte left rest ∙ ap (from_column byte left) (sym c.part_at.ensures.after)

pub returns-then-is_empty : goal.returns-then-is_empty
returns-then-is_empty c =
    let byte = c.args.byte in
    let rest = c.loop-column.rest.now in
    let none : rest ≡ [] = nil_from_length rest (eqb-true _ 0 (sym c.is_empty.ensures ∙ c.if-is_empty.true)) in
    let left = c.args.index - c.loop-column._column in
    none ∙ sym (c.loop-column.invariant ∙ ap (from_column byte left) none ∙ from_column-nil byte left)

pub returns : goal.returns
returns c =
    let rest = c.loop-column.rest.now in
    let over : c.args.index - c.loop-column._column ≡ 0 = omega arith in
    sym (c.loop-column.invariant ∙ ap (λ n. from_column c.args.byte n rest) over ∙ from_column-zero c.args.byte rest)
