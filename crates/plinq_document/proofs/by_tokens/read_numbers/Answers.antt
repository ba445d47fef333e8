use Rattle.std.proofs.Common.{◌≡◌, suc, length, ◌-◌, ◌∷◌, ◌++◌, [], sym, ap, ◌∙◌, arith, rules}
use Rattle.json.specs.Token.{Token}
use Rattle.json.specs.Json.{items, value, parse_map}
use Rattle.json.specs.Reads.{token_of}
use Rattle.serde_json.specs.Read.{converted}
use Rattle.plinq_document.specs.inner.Apart.{numbers_in}
use Rattle.plinq_document.proofs.TokenTurns.{numbers-turn, numbers-over}
use Rattle.plinq_document.proofs.by_tokens.read_numbers.Goals as goal

pub numbers-preserved : goal.numbers-preserved
numbers-preserved c =
    let l = c.numbers in
    let n = l.invariant.0 in
    let r = c.next.new.self in
    let first : l.reader ≡ token_of c.in_ok-text.field-0 ∷ r = grind arith in
    let is : l.reader ≡ Token.number c.in-Number.text.now ∷ r = first ∙ ap (λ t. token_of t ∷ r) c.in-Number.is in
    let shorter : length l.reader ≡ suc (length r) = ap length is in
    let number = c.in_ok-whole_number_of-in-Number in
    let pushed : c.add.new.items.items ≡ l.numbers.items ++ number.field-0 ∷ [] = search rules in
    let turn =
    numbers-turn 124 n l.reader r c.in-Number.text.now _ l.numbers.items number.field-0
    (omega (arith, l.invariant.1, shorter)) is number.ensures.is number.ensures.fits in (
      n - 1,
      omega (arith, l.invariant.1, shorter),
      l.invariant.2 ∙ turn ∙ ap (λ ns. parse_map (λ rest. ns ++ rest) (converted numbers_in (items (value 124) (n - 1) r))) (sym pushed),
      omega (arith, l.invariant.3, shorter),
    )

pub returns-in-EndArray-clause-read : goal.returns-in-EndArray-clause-read
returns-in-EndArray-clause-read c =
    let l = c.numbers in
    let r = c.next.new.self in
    let first : l.reader ≡ token_of c.in_ok-text.field-0 ∷ r = grind arith in
    let is : l.reader ≡ Token.end_array ∷ r = first ∙ ap (λ t. token_of t ∷ r) c.in-EndArray.is in
    l.invariant.2 ∙ numbers-over 124 l.invariant.0 l.reader r l.numbers.items l.invariant.1 is
