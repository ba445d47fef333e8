-- What workers that were started have in common, and partitions that come back.
use Rattle.std.proofs.Common.{◌≡◌, ◌≤◌, ℕ, ◌+◌, List, [], ◌∷◌, ◌++◌, length, drop, refl, arith}
use Rattle.std.specs.declared.thread.PromisedHandle.{PromisedHandle}
use Rattle.plinq_source.specs.declared.source.Source.{Ghosts}
use Rattle.plinq_partition.specs.declared.partition.Partition.{Partition}
use Rattle.plinq_partition.specs.GivenBack.{common_origin}
use Rattle.plinq_crew.specs.declared.handle.WorkerPromise.{WorkerPromise}
use Rattle.plinq_crew.specs.declared.worker.Worked.{Worked}
use Rattle.plinq_crew.specs.inner.Handles.{AreNumbered}

-- what the first of them hands out
pub common_origin-push : {S T : Type 0} {source : Ghosts S T} (ps : List (Partition S T source)) (p : Partition S T source) → 1 ≤ length ps
    → common_origin (ps ++ p ∷ []) ≡ common_origin ps
common_origin-push [] p some = absurd (omega arith)
common_origin-push (q ∷ qs) p some = refl

pub drop-push : {A : Type 0} (xs : List A) (x : A) → 1 ≤ length xs → drop 1 (xs ++ x ∷ []) ≡ drop 1 xs ++ x ∷ []
drop-push [] x some = absurd (omega arith)
drop-push (y ∷ ys) x some = refl

abbrev AHandle : (S T M : Type 0) (source : Ghosts S T) → Type 0
AHandle S T M source = PromisedHandle (Worked S M T source) (WorkerPromise S M T source)

module _ {S T M : Type 0} {source : Ghosts S T} where
  -- one more worker has the next number
  pub numbered-push : (n : ℕ) (handles : List (AHandle S T M source)) (handle : AHandle S T M source) → AreNumbered n handles
      → handle.promise.number ≡ n + length handles → AreNumbered n (handles ++ handle ∷ [])
  numbered-push n [] handle all is = (omega (arith, is), tt)
  numbered-push n (h ∷ handles) handle all is = (all.0, numbered-push (n + 1) handles handle all.1 (omega (arith, is)))

  -- the last worker has the greatest number
  pub numbered-pop : (n : ℕ) (handles : List (AHandle S T M source)) (handle : AHandle S T M source) → AreNumbered n (handles ++ handle ∷ [])
      → AreNumbered n handles × (handle.promise.number ≡ n + length handles)
  numbered-pop n [] handle all = (tt, omega (arith, all.0))
  numbered-pop n (h ∷ handles) handle all = let rest = numbered-pop (n + 1) handles handle all.1 in ((all.0, rest.0), omega (arith, rest.1))
