use Rattle.std.proofs.Common.{◌≡◌, ◌∷◌, rules}
use Rattle.json.specs.Token.{Token}
use Rattle.plinq_document.proofs.TokenTurns.{made-source}
use Rattle.plinq_document.proofs.by_tokens.read_source.Goals as goal

pub returns-clause-read : goal.returns-clause-read
returns-clause-read c =
    let first : c.args.reader.now ≡ Token.begin_object ∷ c.next.new.self = search rules in
    let second : c.next.new.self ≡ Token.key c.in-Key.name.now ∷ c.next-2.new.self = search rules in
    made-source c.args.reader.now c.next.new.self c.next-2.new.self c.read_named.new.reader c.in-Key.name.now c.read_named.result first second
    c.read_named.ensures.read
