use Rattle.std.proofs.Common.{◌≡◌, ◌∷◌, length, ap, ◌∙◌, suc, arith, rules}
use Rattle.std.specs.Prelude.{codes}
use Rattle.json.specs.Token.{Token}
use Rattle.serde_json.specs.Data.{string, member, no_members}
use Rattle.plinq_document.proofs.TokenTurns.{value-string, member-read}
use Rattle.plinq_document.proofs.Apart.{text-alone}
use Rattle.plinq_document.proofs.by_tokens.read_text.Goals as goal

pub returns-in-Ok-clause-read : goal.returns-in-Ok-clause-read
returns-in-Ok-clause-read c =
    let text = c.in-String.text.now in
    let r = c.next-2.new.self in
    let first : c.args.reader.now ≡ Token.string text ∷ c.next.new.self = search rules in
    let last : c.next.new.self ≡ Token.end_object ∷ r = search rules in
    let whole : c.args.reader.now ≡ Token.string text ∷ Token.end_object ∷ r = first ∙ ap (λ rest. Token.string text ∷ rest) last in
    let longer : length c.args.reader.now ≡ suc (suc (length r)) = ap length whole in
    let read = value-string 125 c.args.reader.now (Token.end_object ∷ r) text whole in (
      member (codes "text") (string text) no_members,
      member-read c.args.reader.now r (codes "text") (string text) read
          (omega (arith, longer)),
      λ version. text-alone version text ∙ c.in-Ok.ensures.whole,
    )
