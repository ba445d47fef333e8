use Rattle.std.proofs.Common.{◌≡◌, ◌==◌, ◌∷◌, true, false, get_or, sym, ap, ◌∙◌, subst, ne_eqb}
use Rattle.std.specs.Prelude.{IfSome, Some}
use Rattle.fast_float.specs.Text.{scan}
use Rattle.serde_json.specs.Find.{of_integer}
use Rattle.serde_json.specs.Read.{number_of, number_from}
use Rattle.plinq_document.proofs.by_tokens.whole_number_of.Goals as goal

pub returns-then-first-eq45-clause-is : goal.returns-then-first-eq45-clause-is
unfolding number_of
returns-then-first-eq45-clause-is c =
    let text : c.args.text.now ≡ 45 ∷ c.in_ok-first.rest.now =
    sym c.as_bytes-bytes.ensures.value ∙ c.in_ok-first.ensures.cases.0 ∙ ap (λ b. b ∷ c.in_ok-first.rest.now) c.if-first-eq45.true in
    let same : number_of c.args.text.now ≡ number_from true c.scan.result = ap number_of text ∙ ap (number_from true) (sym c.scan.ensures.parts) in
    subst (λ o. IfSome c.below_zero.result (λ n. o ≡ Some (of_integer n))) (sym same) c.below_zero.ensures.is

pub returns-else-first-eq45-clause-is : goal.returns-else-first-eq45-clause-is
unfolding number_of
returns-else-first-eq45-clause-is c =
    let s = c.as_bytes-bytes.result.now in
    let unsigned : (get_or s 0 0 == 45) ≡ false =
    ap (λ bs. get_or bs 0 0 == 45) c.in_ok-first.ensures.cases.0 ∙ ne_eqb c.in_ok-first.first.now 45 c.if-first-eq45.false in
    let read : number_from false (scan s) ≡ number_of s = rw unsigned in
    let same : number_of c.args.text.now ≡ number_from false c.scan-else-first-eq45.result =
    ap number_of (sym c.as_bytes-bytes.ensures.value) ∙ sym read ∙ ap (number_from false) (sym c.scan-else-first-eq45.ensures.parts) in
    subst (λ o. IfSome c.not_below_zero.result (λ n. o ≡ Some (of_integer n))) (sym same) c.not_below_zero.ensures.is
