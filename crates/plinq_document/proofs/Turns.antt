-- What one turn of a loop over a document's items comes to.
use Rattle.std.proofs.Common.{◌≡◌, ℕ, ◌+◌, ◌<◌, ℤ, List, [], ◌∷◌, ◌++◌, length, get_or, drop, Option, Some, None, option_map, refl, ap, sym, ◌∙◌, append_assoc}
use Rattle.std.specs.Prelude.{option_and_then}
use Rattle.std.proofs.lemmas.List.{at_drop_more}
use Rattle.serde_json.specs.View.{view, items_view}
use Rattle.serde_json.specs.declared.value.Value.{Value}
use Rattle.plinq_lambda.specs.declared.formula.Formula.{Formula}
use Rattle.plinq_ops.specs.Query.{QueryView}
use Rattle.plinq_document.specs.Results.{◌>>=◌}
use Rattle.plinq_document.specs.declared.version.Version.{Version}
use Rattle.plinq_document.specs.JsonValues.{whole_number}
use Rattle.plinq_document.specs.Sources.{whole_numbers}
use Rattle.plinq_document.specs.Steps.{with_step_of, with_steps_of, step_result}

-- the step at this place is called, and then those after it
pub with_steps_of-turn : (version : Version) (at : ℕ) (q : QueryView Formula) (vs : List Value) (v : Value) → at < length vs → v ≡ get_or vs at v
    → with_steps_of version at q (items_view (drop at vs))
    ≡ (step_result at (with_step_of version q (view v)) >>= λ new. with_steps_of version (at + 1) new (items_view (drop (at + 1) vs)))
with_steps_of-turn version at q vs v within is =
    at_drop_more (λ ws. with_steps_of version at q (items_view ws)) vs at v within
    ∙ ap (λ w. step_result at (with_step_of version q (view w)) >>= λ new. with_steps_of version (at + 1) new (items_view (drop (at + 1) vs))) (sym is)

-- what stands before the numbers that are left, moved past one number
before-one : (ns : List ℤ) (n : ℤ) (left : Option (List ℤ))
    → option_map (λ rest. ns ++ rest) (option_map (λ rest. n ∷ rest) left) ≡ option_map (λ rest. (ns ++ n ∷ []) ++ rest) left
before-one ns n None = refl
before-one ns n (Some rest) = ap Some (sym (append_assoc ns (n ∷ []) rest))

-- the number at this place joins those before it
pub whole_numbers-turn : (ns : List ℤ) (n : ℤ) (i : ℕ) (vs : List Value) (v : Value) → i < length vs → v ≡ get_or vs i v
    → whole_number (view v) ≡ Some n
    → option_map (λ rest. ns ++ rest) (whole_numbers (items_view (drop i vs)))
    ≡ option_map (λ rest. (ns ++ n ∷ []) ++ rest) (whole_numbers (items_view (drop (i + 1) vs)))
whole_numbers-turn ns n i vs v within is number =
    let left = whole_numbers (items_view (drop (i + 1) vs)) in
    ap (option_map (λ rest. ns ++ rest))
    (at_drop_more (λ ws. whole_numbers (items_view ws)) vs i v within
    ∙ ap (λ w. option_and_then (λ m. option_map (λ rest. m ∷ rest) left) (whole_number (view w))) (sym is)
    ∙ ap (option_and_then (λ m. option_map (λ rest. m ∷ rest) left)) number)
    ∙ before-one ns n left
