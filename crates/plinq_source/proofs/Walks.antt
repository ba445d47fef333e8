-- What a source says at a number, by the item that stands there.
use Rattle.std.proofs.Common.{◌≡◌, ℕ, ◌<◌, ◌≤◌, ◌+ℤ◌, ℤ, pos, List, [], length, get_or, Some, replicate, arith, ap, ◌∙◌}
use Rattle.std.proofs.Math.Seq.{drop-cons}
use Rattle.std.proofs.lemmas.List.{get_or-replicate, drop_all}
use Rattle.std.proofs.Math.ListN.{length-replicate}
use Rattle.std.proofs.lemmas.List.FromFn.{length-map-range_with_len, get_or-map-range_with_len}
use Rattle.plinq_source.specs.Trace.{step_at, step_of, ended_trace}
use Rattle.plinq_source.specs.Range.{range_items}
use Rattle.plinq_source.specs.declared.ending.Ending.{Ending}
use Rattle.plinq_source.specs.declared.ending.Ending.TheVariants.{End}
use Rattle.plinq_source.specs.declared.step.Step.TheVariants.{Item}

pub step_at-item : {T : Type 0} (xs : List T) (e : Ending) (n : ℕ) (d : T) → n < length xs → step_at (ended_trace xs e) n ≡ Item (get_or xs n d)
step_at-item xs e n d h = ap (λ ys. step_of ys (Some e)) (drop-cons xs n d h)

pub step_at-end : {T : Type 0} (xs : List T) (e : Ending) (n : ℕ) → length xs ≤ n → step_at (ended_trace xs e) n ≡ step_of [] (Some e)
step_at-end xs e n h = ap (λ ys. step_of ys (Some e)) (drop_all n xs h)

-- a range has as many numbers as it says
pub length-range_items : (start : ℤ) (count : ℕ) → length (range_items start count) ≡ count
length-range_items start count = length-map-range_with_len (λ i. start +ℤ pos i) 0 count

-- a repeat gives its value while there is an item
pub step_at-replicate : (count : ℕ) (value : ℤ) (n : ℕ) → n < count → step_at (ended_trace (replicate count value) End) n ≡ Item value
step_at-replicate count value n h =
    step_at-item (replicate count value) End n value (omega (arith, length-replicate count value)) ∙ ap Item (get_or-replicate count n value value h)

-- a range gives the number that its place says
pub step_at-range : (start : ℤ) (count n : ℕ) → n < count → step_at (ended_trace (range_items start count) End) n ≡ Item (start +ℤ pos n)
step_at-range start count n h =
    step_at-item (range_items start count) End n start (omega (arith, length-range_items start count))
    ∙ ap Item (get_or-map-range_with_len (λ i. start +ℤ pos i) 0 count n n start h (omega arith))
