use Rattle.std.proofs.Common.{◌≡◌, ◌++◌, true, false, not, ap, sym, ◌∙◌, refl}
use Rattle.plinq_text.specs.Steps.{has, with_text_seen}
use Rattle.plinq_text.proofs.SeenLaws.{has-shown, seen-new, seen-there, shown}
use Rattle.plinq_text.proofs.seen.Seen.see.Goals as goal

pub returns-then-contains-clause-value : goal.returns-then-contains-clause-value
returns-then-contains-clause-value c =
    let text = c.args.text.now in
    let there : true ≡ has c.args.self.now text =
    sym c.if-contains.true ∙ c.contains.ensures ∙ has-shown text c.self.inside.texts.keys ∙ ap (λ seen. has seen text) c.self.view_is in
    ap not there

pub returns-then-contains-clause-kept : goal.returns-then-contains-clause-kept
returns-then-contains-clause-kept c =
    let text = c.args.text.now in
    let there : true ≡ has c.args.self.now text =
    sym c.if-contains.true ∙ c.contains.ensures ∙ has-shown text c.self.inside.texts.keys ∙ ap (λ seen. has seen text) c.self.view_is in
    seen-there c.args.self.now text true (sym there) refl

pub returns-clause-value : goal.returns-clause-value
returns-clause-value c =
    let text = c.args.text.now in
    let none : false ≡ has c.args.self.now text =
    sym c.if-contains.false ∙ c.contains.ensures ∙ has-shown text c.self.inside.texts.keys ∙ ap (λ seen. has seen text) c.self.view_is in
    ap not none

pub returns-clause-kept : goal.returns-clause-kept
returns-clause-kept c =
    let text = c.args.text.now in
    ap shown c.in_ok-insert.ensures.keys
    ∙ seen-new c.self.inside.texts.keys c.extend_from_slice.new.self text
    (c.in_ok-extend_from_slice.ensures.items ∙ ap (λ b. b ++ text) c.new-kept.ensures.items) (sym c.contains.ensures ∙ c.if-contains.false)
    ∙ ap (λ seen. with_text_seen seen text) c.self.view_is
