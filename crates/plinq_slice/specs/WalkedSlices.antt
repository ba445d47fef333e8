-- What each source stands for: all that it gives, and how many items of that it has given.
use Rattle.std.specs.Prelude.{ℕ, map}
use Rattle.std.specs.List.{range_with_len}
use Rattle.std.proofs.Common.{arith}
use Rattle.std.proofs.lemmas.List.FromFn.{length-map-range_with_len}
use Rattle.plinq_source.specs.Trace.{Trace, ended_trace}
use Rattle.plinq_source.specs.Walked.{IsSource}
use Rattle.plinq_source.specs.declared.ending.Ending.TheVariants.{End}
use Rattle.plinq_slice.specs.declared.slice.SliceSource.{SliceSource}
use Rattle.plinq_slice.specs.declared.index.IndexSource.{IndexSource}

-- a slice: its items, and the end
abbrev pub slice_whole : {T : Type 0} → SliceSource T → Trace T
slice_whole s = ended_trace s.items.now End

abbrev pub slice_given : {T : Type 0} → SliceSource T → ℕ
slice_given s = s.next

pub slice_walked : {T : Type 0} (s : SliceSource T) → IsSource (slice_whole s) (slice_given s)
slice_walked s = record { few = s.few; ends = tt; within = s.within }

-- the items of the keys below a count, and the end
abbrev pub index_whole : {F T : Type 0} → (F → ℕ → T) → IndexSource F → Trace T
index_whole items s = ended_trace (map (items s.by) (range_with_len 0 s.count)) End

abbrev pub index_given : {F : Type 0} → IndexSource F → ℕ
index_given s = s.next

pub index_walked : {F T : Type 0} (items : F → ℕ → T) (s : IndexSource F) → IsSource (index_whole items s) (index_given s)
index_walked items s =
    let as_many = length-map-range_with_len (items s.by) 0 s.count in
    record {
      few = omega (arith, s.few, as_many);
      ends = tt;
      within = omega (arith, s.within, as_many);
    }
