use Rattle.std.proofs.Common.{◌≡◌, ◌+◌, ◌-◌, suc, length, take, drop, get_or, ap, sym, subst, ◌∙◌, arith, length-drop, get_or-drop, Some}
use Rattle.std.proofs.lemmas.Bool.{eqb-true}
use Rattle.memchr.specs.Find.{IsFirstByte, is_byte}
use Rattle.plinq_text.specs.Lines.{is_whole}
use Rattle.plinq_text.proofs.LineLaws.{rest-from, whole-at, whole-drop}
use Rattle.plinq_rounds.proofs.cutting.block_end.Goals as goal

pub returns-then-rest-size-clause-whole : goal.returns-then-rest-size-clause-whole
returns-then-rest-size-clause-whole c =
    ap is_whole (rest-from c.args.start c.args.text.now) ∙ whole-drop c.args.start c.args.text.now c.requires.whole

pub returns-in-Some-clause-whole : goal.returns-in-Some-clause-whole
returns-in-Some-clause-whole c =
    let start = c.args.start in
    let size = c.args.size in
    let end = c.in-Some.end in
    let rest = drop start c.args.text.now in
    let later = c.split_at-2.result.1.now in
    let later_is : later ≡ drop size rest = c.split_at-2.ensures.back ∙ ap (drop size) c.split_at.ensures.back in
    let found : IsFirstByte (is_byte 10) later (Some end) = subst (IsFirstByte (is_byte 10) later) c.in-Some.is c.memchr.ensures in
    let within = (found.0).high in
    let long = ap length later_is ∙ length-drop size rest in
    let is : get_or rest (size + end) 0 ≡ 10 = sym (get_or-drop size rest end 0) ∙ ap (λ l. get_or l end 0) (sym later_is) ∙ eqb-true _ 10 found.1 in
    let count : start + size + end + 1 - start ≡ suc (size + end) = omega arith in
    ap (λ n. is_whole (take n rest)) count ∙ whole-at rest (size + end) (omega arith) is

pub returns-in-None-clause-whole : goal.returns-in-None-clause-whole
returns-in-None-clause-whole c =
    ap is_whole (rest-from c.args.start c.args.text.now) ∙ whole-drop c.args.start c.args.text.now c.requires.whole
