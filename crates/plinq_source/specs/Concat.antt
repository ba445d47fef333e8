-- Concatenations: one source, and where it ends another one.
use Rattle.std.specs.Prelude.{◌≡◌, ◌≤◌, ◌+◌, ℕ, ℤ, pos, Bool, true, false, List, [], ◌∷◌, ◌++◌, length, Option, Some, None, refl}
use Rattle.std.proofs.Common.{arith, ap, ◌∙◌, length-append}
use Rattle.plinq_source.specs.Trace.{Trace, ended_trace, open_trace, IsSourceEnding}
use Rattle.plinq_source.specs.declared.ending.Ending.{Ending}
use Rattle.plinq_source.specs.declared.ending.Ending.TheVariants.{End, Refused, Fault}

-- items with an ending, and where that is the end, all of the next trace in its place
abbrev pub concat_from : {T : Type 0} → List T → Option Ending → Trace T → Trace T
concat_from xs None next = open_trace xs
concat_from xs (Some End) next = record { items = xs ++ next.items; ending = next.ending }
concat_from xs (Some (Refused c)) next = ended_trace xs (Refused c)
concat_from xs (Some (Fault c)) next = ended_trace xs (Fault c)

-- the first trace, and where its ending is End the second after it; after a refusal nothing comes
abbrev pub concat : {T : Type 0} → Trace T → Trace T → Trace T
concat first second = concat_from first.items first.ending second

pub concat-row : concat (ended_trace (pos 1 ∷ pos 2 ∷ []) End) (ended_trace (pos 5 ∷ pos 6 ∷ []) End) ≡ ended_trace (pos 1 ∷ pos 2 ∷ pos 5 ∷ pos 6 ∷ []) End
concat-row = refl

-- both end as the second does
pub concat-refused_second : concat (ended_trace [] End) (ended_trace (pos 5 ∷ []) (Refused 1)) ≡ ended_trace (pos 5 ∷ []) (Refused 1)
concat-refused_second = refl

pub concat-refused_at_once : concat {T = ℤ} (ended_trace [] End) (ended_trace [] (Refused 1)) ≡ ended_trace [] (Refused 1)
concat-refused_at_once = refl

-- the second is lost where the first refuses
pub concat-refused_first : concat (ended_trace (pos 1 ∷ []) (Refused 7)) (ended_trace (pos 2 ∷ []) End) ≡ ended_trace (pos 1 ∷ []) (Refused 7)
concat-refused_first = refl

-- it has no more items than both have
pub length-concat : {T : Type 0} (xs : List T) (e : Option Ending) (next : Trace T) → length (concat_from xs e next).items ≤ length xs + length next.items
length-concat xs None next = omega arith
length-concat xs (Some End) next = omega (arith, length-append xs next.items)
length-concat xs (Some (Refused c)) next = omega arith
length-concat xs (Some (Fault c)) next = omega arith

-- it ends as one of both
pub concat-ends : {T : Type 0} (xs : List T) (e : Option Ending) (next : Trace T) → IsSourceEnding e → IsSourceEnding next.ending
    → IsSourceEnding (concat_from xs e next).ending
concat-ends xs None next first second = first
concat-ends xs (Some End) next first second = second
concat-ends xs (Some (Refused c)) next first second = first
concat-ends xs (Some (Fault c)) next first second = first

-- it has all items of the first
within-first : {T : Type 0} (xs : List T) (e : Option Ending) (next : Trace T) → length xs ≤ length (concat_from xs e next).items
within-first xs None next = omega arith
within-first xs (Some End) next = omega (arith, length-append xs next.items)
within-first xs (Some (Refused c)) next = omega arith
within-first xs (Some (Fault c)) next = omega arith

-- and where that ends, all items of both
pub length-concat_end : {T : Type 0} (xs : List T) (e : Option Ending) (next : Trace T) → e ≡ Some End
    → length (concat_from xs e next).items ≡ length xs + length next.items
length-concat_end xs e next is = ap (λ o. length (concat_from xs o next).items) is ∙ length-append xs next.items

-- where the second gives nothing before the end of the first, both have given no more than the items that there are
pub concat-within : {T : Type 0} (xs : List T) (e : Option Ending) (next : Trace T) (m n : ℕ) (first_ended : Bool)
    → (first_ended ≡ false → n ≡ 0) → (first_ended ≡ true → e ≡ Some End)
    → m ≤ length xs → n ≤ length next.items → m + n ≤ length (concat_from xs e next).items
concat-within xs e next m n false unasked ends first second = omega (arith, unasked refl, first, within-first xs e next)
concat-within xs e next m n true unasked ends first second = omega (arith, first, second, length-concat_end xs e next (ends refl))
