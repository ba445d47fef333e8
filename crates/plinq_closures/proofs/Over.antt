-- What a query over lambdas answers is what the same query over their meanings does.
use Rattle.std.specs.Prelude.{◌≡◌, refl, ⊤, List, [], ◌∷◌, map}
use Rattle.std.proofs.Common.{ap, ◌∙◌}
use Rattle.plinq_source.specs.Trace.{Trace}
use Rattle.plinq_lambda.specs.Meaning.{Meaning}
use Rattle.plinq_ops.specs.declared.op.Op.{Op}
use Rattle.plinq_ops.specs.declared.op.Op.TheVariants.{Select, Filter, SelectMany, Take, Skip, TakeWhile, SkipWhile, AsUnordered}
use Rattle.plinq_ops.specs.Operator.{stage_of, stages_of}
use Rattle.plinq_ops.specs.Sequential.{answer_of}
use Rattle.plinq_ops.specs.Stage.{seq}
use Rattle.plinq_closures.specs.Steps.{over}

stage_of-over : {L T : Type 0} (meaning : L → Meaning T) (op : Op L) → stage_of meaning op ≡ stage_of (λ f. f) (over meaning op)
stage_of-over meaning (Select l) = refl
stage_of-over meaning (Filter l) = refl
stage_of-over meaning (SelectMany l) = refl
stage_of-over meaning (Take n) = refl
stage_of-over meaning (Skip n) = refl
stage_of-over meaning (TakeWhile l) = refl
stage_of-over meaning (SkipWhile l) = refl
stage_of-over meaning AsUnordered = refl

stages_of-over : {L T : Type 0} (meaning : L → Meaning T) (ops : List (Op L)) → stages_of meaning ops ≡ stages_of (λ f. f) (map (over meaning) ops)
stages_of-over meaning [] = refl
stages_of-over meaning (op ∷ ops) =
    ap (λ s. s ∷ stages_of meaning ops) (stage_of-over meaning op)
    ∙ ap (λ ss. stage_of (λ f. f) (over meaning op) ∷ ss) (stages_of-over meaning ops)

pub answer_of-over : {L T : Type 0} (meaning : L → Meaning T) (ops : List (Op L)) (t : Trace T)
    → answer_of meaning ops t ≡ answer_of (λ f. f) (map (over meaning) ops) t
answer_of-over meaning ops t = ap (λ ss. seq ss t) (stages_of-over meaning ops)

pub over-over : {L M : Type 0} (f : L → M) (l : L) (kind : Op ⊤) → over f (over (λ _. l) kind) ≡ over (λ _. f l) kind
over-over f l (Select u) = refl
over-over f l (Filter u) = refl
over-over f l (SelectMany u) = refl
over-over f l (Take n) = refl
over-over f l (Skip n) = refl
over-over f l (TakeWhile u) = refl
over-over f l (SkipWhile u) = refl
over-over f l AsUnordered = refl
