use Rattle.std.proofs.Common.{◌≡◌, ◌+◌, ◌-◌, suc, [], drop, ap, sym, ◌∙◌, arith}
use Rattle.std.proofs.lemmas.Bool.{eqb-true}
use Rattle.std.proofs.lemmas.List.{nil_from_length}
use Rattle.plinq_text.specs.Fields.{from_word, place_of, is_blank}
use Rattle.plinq_text.proofs.FieldLaws.{from_word-nil, from_word-zero, from_word-suc}
use Rattle.plinq_text.proofs.LineLaws.{rest-from}
use Rattle.plinq_text.proofs.fields.from_word.Goals as goal

pub loop-word-preserved : goal.loop-word-preserved
loop-word-preserved c =
    let rest = c.loop-word.rest.now in
    let left = c.args.index - (c.loop-word._word + 1) in
    let on : c.args.index - c.loop-word._word ≡ suc left = omega arith in
    c.loop-word.invariant ∙ ap (λ n. from_word n rest) on ∙ from_word-suc left rest ∙ ap (from_word left) (sym (
    rest-from c.word_len.result c.skip_blanks-at.result.now
    ∙ ap (λ n. drop n c.skip_blanks-at.result.now) c.word_len.ensures.value
    ∙ ap (λ t. drop (place_of is_blank t) t) c.skip_blanks-at.ensures))

pub returns-then-is_empty : goal.returns-then-is_empty
returns-then-is_empty c =
    let rest = c.loop-word.rest.now in
    let none : rest ≡ [] = nil_from_length rest (eqb-true _ 0 (sym c.is_empty.ensures ∙ c.if-is_empty.true)) in
    let left = c.args.index - c.loop-word._word in
    none ∙ sym (c.loop-word.invariant ∙ ap (from_word left) none ∙ from_word-nil left)

pub returns : goal.returns
returns c =
    let rest = c.loop-word.rest.now in
    let over : c.args.index - c.loop-word._word ≡ 0 = omega arith in
    c.skip_blanks.ensures ∙ sym (c.loop-word.invariant ∙ ap (λ n. from_word n rest) over ∙ from_word-zero rest)
