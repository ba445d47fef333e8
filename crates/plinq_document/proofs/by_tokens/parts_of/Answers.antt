use Rattle.std.proofs.Common.{◌≡◌, [], ◌∷◌, Some, sym, ap, ◌∙◌, arith, rules}
use Rattle.std.specs.Prelude.{IsUtf8}
use Rattle.json.specs.Token.{Token}
use Rattle.json.specs.Lex.{tokens}
use Rattle.json.specs.Json.{parse_map, value}
use Rattle.serde_json.specs.Data.{object}
use Rattle.serde_json.specs.Read.{of_json, converted, read}
use Rattle.plinq_document.proofs.DocumentText.{json_of-read}
use Rattle.plinq_document.proofs.TokenTurns.{value-object, whole-read}
use Rattle.plinq_document.proofs.by_tokens.parts_of.Goals as goal

pub returns-in-None-clause-read : goal.returns-in-None-clause-read
returns-in-None-clause-read c =
    let text = c.in-Ok.text.now in
    let found = c.in_ok-parts.ensures.read in
    let started : tokens text ≡ Token.begin_object ∷ c.next.new.self = search rules in
    let none : c.read_members.new.reader ≡ [] = search rules in
    let all : converted of_json (value 127 (tokens text)) ≡ Some (object found.0, []) =
    value-object 127 (tokens text) c.next.new.self (omega arith) started ∙ ap (parse_map object) (found.1 ∙ ap (λ r. Some (found.0, r)) none) in
    let utf8 : (text ≡ c.args.bytes.now) × IsUtf8 c.args.bytes.now = c.in-Ok.ensures.cases in
    (found.0, json_of-read c.args.bytes.now (object found.0) utf8.1 (ap read (sym utf8.0) ∙ whole-read (value 127 (tokens text)) (object found.0) all), found.2)
