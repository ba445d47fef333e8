use Rattle.std.proofs.Common.{◌≡◌, ◌+◌, ◌-◌, take, drop, length-drop, ap, subst, sym, ◌∙◌, arith, add-one, Some, get_or, get_or-drop}
use Rattle.std.proofs.lemmas.Bool.{eqb-true}
use Rattle.memchr.specs.Find.{IsLastByte, is_byte}
use Rattle.plinq_text.specs.Lines.{is_whole}
use Rattle.plinq_text.proofs.LineLaws.{whole-at, whole-nil}
use Rattle.plinq_rounds.proofs.read_buffer.ReadBuffer.whole_lines.Goals as goal

pub returns-in-Some-clause-whole : goal.returns-in-Some-clause-whole
returns-in-Some-clause-whole c =
    let text = c.args.self.now in
    let before = c.self.inside.count - c.args.last in
    let end = c.in-Some.end in
    let same : c.split_at.result.1.now ≡ drop before text = c.split_at.ensures.back ∙ ap (drop before) c.as_slice.ensures in
    let found : IsLastByte (is_byte 10) (drop before text) (Some end) =
    subst (λ t. IsLastByte (is_byte 10) t (Some end)) same (subst (IsLastByte (is_byte 10) c.split_at.result.1.now) c.in-Some.is c.memrchr.ensures) in
    let high = (found.0).high in
    let long = length-drop before text in
    let here : get_or text (before + end) 0 ≡ 10 = sym (get_or-drop before text end 0) ∙ eqb-true _ 10 found.1 in
    ap (λ n. is_whole (take n text)) (add-one (before + end)) ∙ whole-at text (before + end) (omega arith) here

pub returns-in-None-clause-whole : goal.returns-in-None-clause-whole
returns-in-None-clause-whole c = whole-nil
