-- The growth of a document.
use Rattle.std.specs.Prelude.{ℕ, true, false, Option, Some, None, option_map, option_and_then, Result, Ok, Err, codes}
use Rattle.serde_json.specs.Data.{Data, Items, no_items, item}
use Rattle.serde_json.specs.Find.{as_array, get}
use Rattle.plinq_enumerator.specs.Growing.{GrowthRule, growth_rule}
use Rattle.plinq_enumerator.specs.declared.growth_fault.GrowthFault.{GrowthFault}
use Rattle.plinq_document.specs.JsonValues.{count_of, only_count}
use Rattle.plinq_document.specs.Results.{or_shape}
use Rattle.plinq_document.specs.declared.growth_counts.GrowthCounts.{GrowthCounts}
use Rattle.plinq_document.specs.declared.doc_fault.DocFault.{DocFault}
use Rattle.plinq_document.specs.declared.doc_fault.DocFault.TheVariants.{Growth}

-- the counts after the first two
abbrev pub counts_from : ℕ → ℕ → Items → Option GrowthCounts
counts_from first repeat ds = option_map (λ max. record { first = first; repeat = repeat; max = max; is_given = true }) (only_count ds)

-- the counts after the first
abbrev pub counts_after : ℕ → Items → Option GrowthCounts
counts_after first no_items = None
counts_after first (item d ds) = option_and_then (λ repeat. counts_from first repeat ds) (count_of d)

-- just three counts
abbrev pub three_counts : Items → Option GrowthCounts
three_counts no_items = None
three_counts (item d ds) = option_and_then (λ first. counts_after first ds) (count_of d)

-- the counts under a name that may be omitted, for 1, 3 and 512
abbrev pub counts_or_default : Option Data → Result GrowthCounts DocFault
counts_or_default None = Ok (record { first = 1; repeat = 3; max = 512; is_given = false })
counts_or_default (Some d) = or_shape (option_and_then three_counts (as_array d))

-- the counts under the name "growth"
abbrev pub growth_counts : Data → Result GrowthCounts DocFault
growth_counts d = counts_or_default (get (codes "growth") d)

-- the growth, or what is wrong with the counts
abbrev pub or_growth_fault : Result GrowthRule GrowthFault → Result GrowthRule DocFault
or_growth_fault (Ok rule) = Ok rule
or_growth_fault (Err why) = Err (Growth why)

-- the growth of three counts
abbrev pub growth_of : GrowthCounts → Result GrowthRule DocFault
growth_of counts = or_growth_fault (growth_rule counts.first counts.repeat counts.max)
