-- Which answers a query has: the sequential one, and for an ordered query no other.
use Rattle.std.proofs.Common.{◌≡◌, ◌∙◌, refl, ap, true, false, Bool, List, [], ◌∷◌}
use Rattle.std.specs.List.{list_all}
use Rattle.std.proofs.lemmas.Bool.{and_parts}
use Rattle.std.proofs.lemmas.List.Sorted.{IsPermutation-refl}
use Rattle.plinq_source.specs.Trace.{Trace}
use Rattle.plinq_lambda.specs.Meaning.{Meaning}
use Rattle.plinq_ops.specs.declared.op.Op.{Op}
use Rattle.plinq_ops.specs.Stage.{apply}
use Rattle.plinq_ops.specs.Operator.{stage_of}
use Rattle.plinq_ops.specs.Sequential.{answer_of}
use Rattle.plinq_ops.specs.Answer.{IsRearranged, Gives, MayGive, MayGiveAll, Answer, keeps_order}

pub IsRearranged-refl : {T : Type 0} (t : Trace T) → IsRearranged t t
IsRearranged-refl t = record { items = IsPermutation-refl t.items; ending = refl }

-- an operator may give what it does
MayGive-apply : {L T : Type 0} (meaning : L → Meaning T) (op : Op L) (t : Trace T) → MayGive meaning op t (apply (stage_of meaning op) t)
MayGive-apply {L} {T} meaning op t =
    let made : Trace T = apply (stage_of meaning op) t in
    elim (keeps_order op) as (λ v. Gives v made made) [ true ↦ refl | false ↦ IsRearranged-refl made ]

-- operators may give the sequential answer
MayGiveAll-answer : {L T : Type 0} (meaning : L → Meaning T) (ops : List (Op L)) (t : Trace T) → MayGiveAll meaning ops t (answer_of meaning ops t)
MayGiveAll-answer meaning [] t = refl
MayGiveAll-answer meaning (op ∷ ops) t =
    record {
      between = apply (stage_of meaning op) t;
      given = MayGive-apply meaning op t;
      goes_on = MayGiveAll-answer meaning ops
          (apply (stage_of meaning op) t);
    }

-- a query that isn't ordered may answer what it does of its source in any order
pub Answer-rearranged : {L T : Type 0} (meaning : L → Meaning T) (ops : List (Op L)) (t v : Trace T) → IsRearranged t v
    → Answer meaning false ops t (answer_of meaning ops v)
Answer-rearranged meaning ops t v any = record { between = v; given = any; goes_on = MayGiveAll-answer meaning ops v }

-- the sequential answer is one
pub Answer-sequential : {L T : Type 0} (meaning : L → Meaning T) (ordered : Bool) (ops : List (Op L)) (t : Trace T)
    → Answer meaning ordered ops t (answer_of meaning ops t)
Answer-sequential meaning true ops t = MayGiveAll-answer meaning ops t
Answer-sequential meaning false ops t = Answer-rearranged meaning ops t t (IsRearranged-refl t)

-- an operator that keeps the order gives what it does and nothing else
MayGive-only : {L T : Type 0} (meaning : L → Meaning T) (op : Op L) (t u : Trace T) → keeps_order op ≡ true → MayGive meaning op t u
    → u ≡ apply (stage_of meaning op) t
MayGive-only {L} {T} meaning op t u keeps given =
    let made : Trace T = apply (stage_of meaning op) t in
    elim (keeps_order op) as (λ v. v ≡ true → Gives v made u → u ≡ made) [
      | true ↦ λ keeps given. given
      | false ↦ λ keeps given. absurd (let bad : false ≡ true = keeps in cc)
    ] keeps given

-- where all operators keep the order, the sequential answer is the only one
MayGiveAll-only : {L T : Type 0} (meaning : L → Meaning T) (ops : List (Op L)) (t u : Trace T) → list_all keeps_order ops ≡ true
    → MayGiveAll meaning ops t u → u ≡ answer_of meaning ops t
MayGiveAll-only meaning [] t u keeps given = given
MayGiveAll-only meaning (op ∷ ops) t u keeps given =
    let both = and_parts (keeps_order op) (list_all keeps_order ops) keeps in
    MayGiveAll-only meaning ops given.between u both.1 given.goes_on ∙ ap (answer_of meaning ops) (MayGive-only meaning op t given.between both.0 given.given)

-- an ordered query has one answer
pub Answer-only : {L T : Type 0} (meaning : L → Meaning T) (ops : List (Op L)) (t u : Trace T) → list_all keeps_order ops ≡ true
    → Answer meaning true ops t u → u ≡ answer_of meaning ops t
Answer-only meaning ops t u keeps answer = MayGiveAll-only meaning ops t u keeps answer
