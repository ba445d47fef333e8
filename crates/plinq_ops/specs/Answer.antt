-- What a query may answer: where the order isn't kept, any order will do.
use Rattle.std.specs.Prelude.{◌≡◌, List, [], ◌∷◌, Bool, true, false, if◌then◌else◌, IsPermutation}
use Rattle.plinq_source.specs.Trace.{Trace}
use Rattle.plinq_lambda.specs.Meaning.{Meaning}
use Rattle.plinq_ops.specs.declared.op.Op.{Op}
use Rattle.plinq_ops.specs.declared.op.Op.TheVariants.{AsUnordered}
use Rattle.plinq_ops.specs.Stage.{apply}
use Rattle.plinq_ops.specs.Operator.{stage_of}
use Rattle.plinq_ops.specs.Sequential.{answer_of}

-- the same items in any order, and the same ending
pub record IsRearranged {T : Type 0} (t u : Trace T) : Type 0 where
  pub items : IsPermutation t.items u.items
  pub ending : u.ending ≡ t.ending

-- whether an operator keeps the order of what reaches it
abbrev pub keeps_order : {L : Type 0} → Op L → Bool
keeps_order AsUnordered = false
keeps_order _ = true

-- this trace, or where the order isn't kept any rearrangement of it
abbrev pub Gives : {T : Type 0} → Bool → Trace T → Trace T → Type 0
Gives true t u = u ≡ t
Gives false t u = IsRearranged t u

-- what one operator may make of a trace: what it does, and AsUnordered any rearrangement of that
abbrev pub MayGive : {L T : Type 0} → (L → Meaning T) → Op L → Trace T → Trace T → Type 0
MayGive meaning op t u = Gives (keeps_order op) (apply (stage_of meaning op) t) u

-- some trace that is given first, and goes on
pub record IsThrough {T : Type 0} (Given GoesOn : Trace T → Type 0) : Type 0 where
  pub between : Trace T
  pub given : Given between
  pub goes_on : GoesOn between

-- what operators may make of a trace, one after another
abbrev pub MayGiveAll : {L T : Type 0} → (L → Meaning T) → List (Op L) → Trace T → Trace T → Type 0
MayGiveAll meaning [] t u = u ≡ t
MayGiveAll meaning (op ∷ ops) t u = IsThrough (MayGive meaning op t) (λ between. MayGiveAll meaning ops between u)

-- a query without `as_ordered` has an AsUnordered before its first operator
abbrev pub ops_from_source : {L : Type 0} → Bool → List (Op L) → List (Op L)
ops_from_source ordered ops = if ordered then ops else AsUnordered ∷ ops

-- what a query may answer
abbrev pub Answer : {L T : Type 0} → (L → Meaning T) → Bool → List (Op L) → Trace T → Trace T → Type 0
Answer meaning ordered ops t u = MayGiveAll meaning (ops_from_source ordered ops) t u

-- what threads may answer: with `as_ordered` what one thread does, else any answer that the query may have
abbrev pub MayAnswer : {L T : Type 0} → (L → Meaning T) → Bool → List (Op L) → Trace T → Trace T → Type 0
MayAnswer meaning true ops t u = u ≡ answer_of meaning ops t
MayAnswer meaning false ops t u = Answer meaning false ops t u
