-- Operators that look at no key: where an element stands makes no difference to them.
use Rattle.std.specs.Prelude.{◌≡◌, ℕ, ◌+◌, ℤ, pos, List, [], ◌∷◌, true, Option, refl}
use Rattle.std.proofs.Common.{◌∙◌, ap}
use Rattle.std.proofs.lemmas.Bool.{and_parts}
use Rattle.plinq_source.specs.declared.ending.Ending.{Ending}
use Rattle.plinq_source.specs.Trace.{Trace, open_trace, followed_by}
use Rattle.plinq_lambda.specs.Meaning.{Meaning}
use Rattle.plinq_ops.specs.declared.op.Op.{Op}
use Rattle.plinq_ops.specs.Fragment.{apply_at, position_after, fragment_at, fragment_of, glued_trace}
use Rattle.plinq_ops.specs.ByKey.{is_keyless, are_keyless}
use Rattle.plinq_ops.proofs.Operators.{apply_at-keyless}

module _ {L T : Type 0} (meaning : L → Meaning T) where
  fragment_at-keyless : (worker : List (Op L)) (p q : ℤ) (t : Trace T) → are_keyless worker ≡ true
      → fragment_at meaning worker p t ≡ fragment_at meaning worker q t
  fragment_at-keyless [] p q t keyless = refl
  fragment_at-keyless (op ∷ ops) p q t keyless =
      let both = and_parts (is_keyless op) (are_keyless ops) keyless in
      fragment_at-keyless ops (position_after op p) (position_after op q) (apply_at meaning op p t) both.1
      ∙ ap (fragment_at meaning ops (position_after op q)) (apply_at-keyless meaning op p q t both.0)

  -- the fragments of items are glued alike from each key on
  pub glued_trace-keyless : (worker : List (Op L)) (j k : ℕ) (xs : List T) (e : Option Ending) → are_keyless worker ≡ true
      → glued_trace meaning worker j xs e ≡ glued_trace meaning worker k xs e
  glued_trace-keyless worker j k [] e keyless = refl
  glued_trace-keyless worker j k (x ∷ xs) e keyless =
      ap (λ u. followed_by u (glued_trace meaning worker (j + 1) xs e)) (fragment_at-keyless worker (pos j) (pos k) (open_trace (x ∷ [])) keyless)
      ∙ ap (followed_by (fragment_of meaning worker k x)) (glued_trace-keyless worker (j + 1) (k + 1) xs e keyless)
