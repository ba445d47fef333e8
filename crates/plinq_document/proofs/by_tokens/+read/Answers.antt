use Rattle.std.proofs.Common.{◌≡◌, ◌-◌, ◌<◌, ◌∷◌, ◌++◌, [], length, Some, None, sym, ap, ◌∙◌, arith, rules}
use Rattle.json.specs.Token.{Token}
use Rattle.json.specs.Json.{parse_map, after_end_array, items, value}
use Rattle.json.specs.Reads.{token_of}
use Rattle.serde_json.specs.Data.{array, number, string}
use Rattle.serde_json.specs.Find.{of_integer}
use Rattle.serde_json.specs.Read.{of_items, converted}
use Rattle.serde_json.specs.View.{view}
use Rattle.serde_json.specs.declared.value.Value.{String, the_lemmas}
use Rattle.serde_json.proofs.Views.{view-Array}
use Rattle.plinq_document.proofs.TokenTurns.{items_before, items-turn, items-over, value-string, value-number, value-list}
use Rattle.plinq_document.proofs.by_tokens.+read.Goals as goal

pub read_items-items-preserved : goal.read_items-items-preserved
read_items-items-preserved t c =
    let l = c.items in
    let n = l.invariant.0 in
    let going : (after_end_array l.reader ≡ None) × (c.take_end_array.new.self ≡ l.reader) = grind arith in
    let v = c.in_ok-item.item in
    let r = c.read_value.new.reader in
    let less : length r < length l.reader = rw (← going.1) c.in_ok-item.ensures.shorter in
    let pushed : c.add.new.items.items ≡ l.found.items ++ v ∷ [] = search rules in
    let turn = items-turn c.args.depth n l.reader r l.found.items v (omega (arith, l.invariant.1)) going.0 (rw (← going.1) c.in_ok-item.ensures.read) in (
      n - 1,
      omega (arith, l.invariant.1),
      l.invariant.2 ∙ turn ∙ ap (λ vs. parse_map (items_before vs) (converted of_items (items (value c.args.depth) (n - 1) r))) (sym pushed),
      omega (arith, l.invariant.3),
    )

pub read_items-returns-clause-read : goal.read_items-returns-clause-read
read_items-returns-clause-read t c =
    let l = c.items in
    l.invariant.2 ∙ items-over c.args.depth l.invariant.0 l.reader c.take_end_array.new.self l.found.items l.invariant.1 (grind arith)

pub read_value-returns-in-Ok-clause-read : goal.read_value-returns-in-Ok-clause-read
read_value-returns-in-Ok-clause-read t c =
    let r = c.next.new.self in
    let first : c.args.reader.now ≡ token_of c.in_ok-text.field-0 ∷ r = grind arith in
    let is : c.args.reader.now ≡ Token.string c.in-String.text.now ∷ r = first ∙ ap (λ k. token_of k ∷ r) c.in-String.is in
    let seen : view (String c.in-Ok.copied) ≡ string c.in-String.text.now = search (rules, the_lemmas) in
    value-string c.args.depth c.args.reader.now r c.in-String.text.now is ∙ ap (λ d. Some (d, r)) (sym seen)

pub read_value-returns-in_ok-whole_number_of-in-Number-clause-read : goal.read_value-returns-in_ok-whole_number_of-in-Number-clause-read
read_value-returns-in_ok-whole_number_of-in-Number-clause-read t c =
    let r = c.next.new.self in
    let first : c.args.reader.now ≡ token_of c.in_ok-text.field-0 ∷ r = grind arith in
    let is : c.args.reader.now ≡ Token.number c.in-Number.text.now ∷ r = first ∙ ap (λ k. token_of k ∷ r) c.in-Number.is in
    let n = of_integer c.in_ok-whole_number_of-in-Number.field-0 in
    let seen : view c.from.result ≡ number n = search rules in
    value-number c.args.depth c.args.reader.now r c.in-Number.text.now n is c.in_ok-whole_number_of-in-Number.ensures.is ∙ ap (λ d. Some (d, r)) (sym seen)

pub read_value-returns-in_ok-read_items-in-BeginArray-clause-read : goal.read_value-returns-in_ok-read_items-in-BeginArray-clause-read
read_value-returns-in_ok-read_items-in-BeginArray-clause-read t c =
    let r = c.next.new.self in
    let first : c.args.reader.now ≡ token_of c.in_ok-text.field-0 ∷ r = grind arith in
    let is : c.args.reader.now ≡ Token.begin_array ∷ r = first ∙ ap (λ k. token_of k ∷ r) c.in-BeginArray.is in
    let found = c.in_ok-read_items-in-BeginArray in
    value-list c.args.depth c.args.reader.now r (omega arith) is ∙ ap (parse_map array) found.ensures.read
    ∙ ap (λ d. Some (d, c.read_items.new.reader)) (sym (view-Array found.field-0))
