-- What a query of a chain's steps does.
use Rattle.std.specs.Prelude.{◌≡◌, ℕ, suc, ⊤, List, [], ◌∷◌, ◌++◌, map, length, Result, IfOk}
use Rattle.std.proofs.Common.{ap, ◌∙◌, sym, subst, append_assoc}
use Rattle.std.proofs.lemmas.List.{map-append}
use Rattle.plinq_lambda.specs.Meaning.{Meaning}
use Rattle.plinq_ops.specs.declared.op.Op.{Op}
use Rattle.plinq_ops.specs.Query.{QueryView}
use Rattle.plinq_closures.specs.Steps.{over, kind_at, steps_below}
use Rattle.plinq_closures.proofs.Over.{over-over}

-- the operators of the steps below a number: the one just below, and those below that
steps_below-before : {M : Type 0} (kinds : List (Op ⊤)) (m : ℕ → M) (count at : ℕ) → count ≡ suc at
    → over (λ _. m at) (kind_at kinds at) ∷ steps_below kinds m at ≡ steps_below kinds m count
steps_below-before kinds m count at is = ap (λ n. steps_below kinds m n) (sym is)

module _ {L T E : Type 0} (f : L → Meaning T) (kinds : List (Op ⊤)) (m : ℕ → Meaning T) where
  -- a step is put on a query, and then those below it
  pub put_down : (count at : ℕ) → count ≡ suc at → (l : L) → f l ≡ m at → (before after : List (Op L)) → after ≡ before ++ over (λ _. l) (kind_at kinds at) ∷ []
      → (r : Result (QueryView L) E) → IfOk r (λ q. map (over f) q.ops ≡ map (over f) after ++ steps_below kinds m at)
      → IfOk r (λ q. map (over f) q.ops ≡ map (over f) before ++ steps_below kinds m count)
  put_down count at is l same before after put r h =
      let kind = kind_at kinds at in
      subst (λ xs. IfOk r (λ q. map (over f) q.ops ≡ xs))
      (ap (λ ops. map (over f) ops ++ steps_below kinds m at) put
      ∙ (ap (λ ops. ops ++ steps_below kinds m at) (map-append (over f) before (over (λ _. l) kind ∷ []))
      ∙ (append_assoc (map (over f) before) (over f (over (λ _. l) kind) ∷ []) (steps_below kinds m at)
      ∙ (ap (λ op. map (over f) before ++ op ∷ steps_below kinds m at) (over-over f l kind ∙ ap (λ g. over (λ _. g) kind) same)
      ∙ ap (λ ops. map (over f) before ++ ops) (steps_below-before kinds m count at is)))))
      h

  -- all steps were put on a query that had none
  pub all_down : (count : ℕ) → count ≡ length kinds → (begun : List (Op L)) → begun ≡ [] → (ops : List (Op (Meaning T)))
      → steps_below kinds m (length kinds) ≡ ops
      → (r : Result (QueryView L) E) → IfOk r (λ q. map (over f) q.ops ≡ map (over f) begun ++ steps_below kinds m count)
      → IfOk r (λ q. map (over f) q.ops ≡ ops)
  all_down count counted begun none ops come r h =
      subst (λ xs. IfOk r (λ q. map (over f) q.ops ≡ xs))
      (ap (λ b. map (over f) b ++ steps_below kinds m count) none ∙ (ap (λ n. steps_below kinds m n) counted ∙ come)) h
