-- What the operators of the workloads do to an element.
use Rattle.std.specs.Prelude.{ℕ, ◌*◌, ◌/◌, ◌%◌, ◌^◌, ◌==◌, ℤ, pos, Bool, true, not, ◌&&◌, if◌then◌else◌, Result, Ok, Err}
use Rattle.std.specs.Ordering.{int_eq}
use Rattle.std.specs.Int.{w64, cast_unsigned}
use Rattle.plinq_lambda.specs.Meaning.{Meaning}
use Rattle.plinq_lambda.specs.Formula.{formula_meaning}
use Rattle.plinq_bench.specs.declared.work.Cost.{Cost}
use Rattle.plinq_bench.specs.declared.work.Cost.TheVariants.{Fixed, Skewed, Ramp, Late}
use Rattle.plinq_bench.specs.declared.work.Work.{Work}
use Rattle.plinq_bench.specs.declared.work.Work.TheVariants.{Plain, Spin, Keep}
use Rattle.plinq_bench.specs.Spinning.{spin}

-- the turns that an element takes
abbrev pub turns : Cost → ℤ → ℕ
turns (Fixed n) x = n
turns Skewed x = cast_unsigned w64 x % 1000
turns (Ramp n) x = if n == 0 then 0 else cast_unsigned w64 x * 1000 % 2 ^ 64 / n
turns (Late n) x = if not (n / 4 == 0) && (cast_unsigned w64 x % (n / 4) == n / 4 / 2) then n * 178 % 2 ^ 64 else 71

-- the element itself, unless its n turns come out at one number
abbrev pub kept : ℕ → ℤ → Result ℤ ℕ
kept n x = if int_eq (spin x n) (pos 12345) then Err 1 else Ok x

abbrev pub work_element : Work → ℤ → Result ℤ ℕ
work_element (Plain f) x = (formula_meaning f).map x
work_element (Spin cost) x = Ok (spin x (turns cost x))
work_element (Keep n) x = kept n x

abbrev pub work_answer : Work → ℤ → Result Bool ℕ
work_answer (Plain f) x = (formula_meaning f).test x
work_answer (Spin cost) x = Ok true
work_answer (Keep n) x = Ok true

-- no workload expands
abbrev pub work_meaning : Work → Meaning ℤ
work_meaning work = record { map = work_element work; test = work_answer work; expand = λ x. Err 1 }
