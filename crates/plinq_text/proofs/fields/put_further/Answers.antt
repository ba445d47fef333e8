use Rattle.std.proofs.Common.{◌≡◌, ◌+◌, ◌++◌, ◌∷◌, [], ℕ, List, take, get_or, ap, sym, ◌∙◌, append_assoc, append-nil}
use Rattle.std.proofs.lemmas.List.{take_more, map-append}
use Rattle.std.proofs.lemmas.Grind.{flat_map-append}
use Rattle.plinq_text.specs.Fields.{field_between, fields, further, glue}
use Rattle.plinq_text.specs.inner.FirstFields.{first_field}
use Rattle.plinq_text.proofs.FieldLaws.{field-from}
use Rattle.plinq_text.proofs.fields.put_further.Goals as goal

pub loop-index-preserved : goal.loop-index-preserved
loop-index-preserved c =
    let s = c.args.separator in
    let text = c.args.text.now in
    let i = c.loop-index.index-index in
    let n = get_or c.args.indexes.now i 0 in
    let before = fields s (take i c.args.indexes.now) text in
    let out = c.args.out.now.items in
    let f : List ℕ → List ℕ = λ t. glue s ∷ t in
    let here : c.first_field.result.now ≡ field_between s n text =
    c.first_field.ensures ∙ ap (first_field s) c.go_on-from.ensures ∙ sym (field-from s n text) in
    let more : further s (fields s (take (i + 1) c.args.indexes.now) text) ≡ further s before ++ glue s ∷ field_between s n text =
    ap (λ ns. further s (fields s ns text)) (take_more c.args.indexes.now i 0 c.loop-index-test.true)
    ∙ ap (further s) (map-append (λ n. field_between s n text) (take i c.args.indexes.now) (n ∷ []))
    ∙ flat_map-append f before (field_between s n text ∷ [])
    ∙ ap (λ b. further s before ++ glue s ∷ b) (append-nil (field_between s n text)) in
    record {
      put = c.in_ok-extend_from_slice.ensures.items
          ∙ ap (λ b. b ++ c.first_field.result.now) c.in_ok-push.ensures.items
          ∙ append_assoc c.loop-index.out.items (c.glue.result ∷ []) c.first_field.result.now
          ∙ ap (λ b. b ++ c.glue.result ∷ c.first_field.result.now) c.loop-index.invariant.put
          ∙ ap (λ g. (out ++ further s before) ++ g ∷ c.first_field.result.now) c.glue.ensures
          ∙ ap (λ t. (out ++ further s before) ++ glue s ∷ t) here
          ∙ append_assoc out (further s before) (glue s ∷ field_between s n text)
          ∙ ap (λ b. out ++ b) (sym more);
      place = c.go_on-from.ensures;
    }
