-- Answers that may be a fault.
use Rattle.std.specs.Prelude.{◌≡◌, ◌≢◌, Option, Result, Ok, Err, ok_or}
use Rattle.plinq_document.specs.declared.doc_fault.DocFault.{DocFault}
use Rattle.plinq_document.specs.declared.doc_fault.DocFault.TheVariants.{Shape, Memory}

infixl 10 ◌>>=◌
-- what is made of the value, if there is one, else the fault
abbrev pub ◌>>=◌ : {T U E : Type 0} → Result T E → (T → Result U E) → Result U E
Ok x >>= f = f x
Err e >>= f = Err e

infixl 10 ◌>>◌
-- the second answer, if the first is no fault
abbrev pub ◌>>◌ : {T U E : Type 0} → Result T E → Result U E → Result U E
Ok x >> r = r
Err e >> r = Err e

-- the value, or that the document has another shape
abbrev pub or_shape : {T : Type 0} → Option T → Result T DocFault
or_shape o = ok_or o Shape

-- the fault is the meaning's, unless memory ran out
abbrev pub IfMeant : {T : Type 0} → Result T DocFault → DocFault → Type 0
IfMeant meaning e = e ≢ Memory → meaning ≡ Err e
