use Rattle.std.proofs.Common.{◌≡◌, ◌^◌, ◌<◌, ◌≤◌, ◌∷◌, length, Some, None, Ok, sym, ap, ◌∙◌, arith, rules}
use Rattle.json.specs.Token.{Token}
use Rattle.plinq_document.specs.inner.Apart.{EndsList}
use Rattle.plinq_document.proofs.TokenTurns.{list-read, list-members}
use Rattle.plinq_document.proofs.by_tokens.read_list.Goals as goal

pub returns-in-None-clause-read : goal.returns-in-None-clause-read
returns-in-None-clause-read c =
    let numbers = c.in_ok-numbers.numbers in
    let first : c.args.reader.now ≡ Token.begin_array ∷ c.next.new.self = search rules in
    let few : length numbers.items ≤ 2 ^ 40 = omega (arith, numbers.ok.0) in
    let over : EndsList None c.read_numbers.new.reader c.read_refusal.new.reader = search rules in
    let opened : length c.args.reader.now ≡ length (Token.begin_array ∷ c.next.new.self) = ap length first in
    let shorter : length c.read_numbers.new.reader < length c.args.reader.now = omega (arith, opened, c.in_ok-numbers.ensures.shorter) in
    let read = list-read c.args.reader.now c.next.new.self c.read_numbers.new.reader numbers.items first c.in_ok-numbers.ensures.read in
    let found = list-members None c.args.reader.now c.read_numbers.new.reader c.read_refusal.new.reader read.0 numbers.items read.1 shorter over read.2 few in
    (found.0, found.1, λ version. found.2 version ∙ ap Ok (sym c.new.ensures.whole))

pub returns-in-Some-clause-read : goal.returns-in-Some-clause-read
returns-in-Some-clause-read c =
    let numbers = c.in_ok-numbers.numbers in
    let code = c.in-Some.code in
    let first : c.args.reader.now ≡ Token.begin_array ∷ c.next.new.self = search rules in
    let few : length numbers.items ≤ 2 ^ 40 = omega (arith, numbers.ok.0) in
    let over : EndsList (Some code) c.read_numbers.new.reader c.read_refusal.new.reader = search rules in
    let opened : length c.args.reader.now ≡ length (Token.begin_array ∷ c.next.new.self) = ap length first in
    let shorter : length c.read_numbers.new.reader < length c.args.reader.now = omega (arith, opened, c.in_ok-numbers.ensures.shorter) in
    let read = list-read c.args.reader.now c.next.new.self c.read_numbers.new.reader numbers.items first c.in_ok-numbers.ensures.read in
    let found =
    list-members (Some code) c.args.reader.now c.read_numbers.new.reader c.read_refusal.new.reader read.0 numbers.items read.1 shorter over read.2 few in
    (found.0, found.1, λ version. found.2 version ∙ ap Ok (sym c.refusing.ensures.whole))
