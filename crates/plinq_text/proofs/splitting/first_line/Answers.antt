use Rattle.std.proofs.Common.{◌≡◌, ◌+◌, ◌<◌, length, length-drop, subst, sym, arith, ◌∙◌, ap, [], ◌∷◌, take, Some, None}
use Rattle.std.proofs.lemmas.List.{nil_from_length}
use Rattle.std.proofs.lemmas.Bool.{eqb-true}
use Rattle.memchr.specs.Find.{IsFirstByte, is_byte}
use Rattle.plinq_text.proofs.LineLaws.{lines-found, lines-missed, lines-nil, rest-from, some-bytes}
use Rattle.plinq_text.specs.Lines.{full_line, lines_of}
use Rattle.plinq_text.proofs.splitting.first_line.Goals as goal

pub returns-in-Some : goal.returns-in-Some
returns-in-Some c =
    let text = c.args.text.now in
    let end = c.in-Some.end in
    let found : IsFirstByte (is_byte 10) text (Some end) = subst (IsFirstByte (is_byte 10) text) c.in-Some.is c.memchr.ensures in
    let within = (found.0).high in
    let rest = rest-from (end + 1) text in
    let short = ap length rest in
    let dropped = length-drop (end + 1) text in
    (lines-found text end found ∙ ap (λ r. full_line (take end text) ∷ lines_of r) (sym rest), omega arith)

pub returns-in-None : goal.returns-in-None
returns-in-None c =
    let none : length c.args.text.now ≡ 0 = eqb-true _ 0 (sym c.is_empty.ensures ∙ c.if-is_empty.true) in
    ap lines_of (nil_from_length c.args.text.now none) ∙ lines-nil

pub returns-in-None-2 : goal.returns-in-None-2
returns-in-None-2 c =
    let text = c.args.text.now in
    let missed : IsFirstByte (is_byte 10) text None = subst (IsFirstByte (is_byte 10) text) c.in-None.is c.memchr.ensures in
    let some : 0 < length text = some-bytes text (sym c.is_empty.ensures ∙ c.if-is_empty.false) in
    (lines-missed text missed some ∙ ap (λ ls. record { text = text; end = [] } ∷ ls) (sym lines-nil), some)
