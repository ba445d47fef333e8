-- The aggregate of a document.
use Rattle.std.specs.Prelude.{ℕ, List, [], ◌∷◌, Option, Some, None, if◌then◌else◌, option_and_then, Result, Ok, codes}
use Rattle.serde_json.specs.Data.{Data}
use Rattle.serde_json.specs.Find.{as_str, get}
use Rattle.plinq_words.specs.Tables.{beside}
use Rattle.plinq_document.specs.Results.{◌>>=◌, or_shape}
use Rattle.plinq_document.specs.Versions.{has}
use Rattle.plinq_document.specs.declared.version.Version.{Version}
use Rattle.plinq_document.specs.declared.version.Version.TheVariants.{One}
use Rattle.plinq_document.specs.declared.kind.Kind.{Kind}
use Rattle.plinq_document.specs.declared.kind.Kind.TheVariants.{Sum, Count, Min, Max}
use Rattle.plinq_document.specs.declared.doc_fault.DocFault.{DocFault}

-- the aggregates by their words
abbrev pub kinds : List (List ℕ × Kind)
kinds = (codes "sum", Sum) ∷ (codes "count", Count) ∷ (codes "min", Min) ∷ (codes "max", Max) ∷ []

-- the aggregate of this word
abbrev pub kind_word : List ℕ → Option Kind
kind_word = beside kinds

-- the version with which an aggregate came
abbrev pub kind_since : Kind → Version
kind_since Sum = One
kind_since Count = One
kind_since Min = One
kind_since Max = One

-- an aggregate, if the version has it
abbrev pub only_kind_of : Version → Kind → Option Kind
only_kind_of version kind = if has version (kind_since kind) then Some kind else None

-- the aggregate that a value names
abbrev pub aggregate_of : Version → Data → Result Kind DocFault
aggregate_of version d = or_shape (option_and_then (only_kind_of version) (option_and_then kind_word (as_str d)))

-- the aggregate under a name that may be omitted, for none
abbrev pub aggregate_or_none : Version → Option Data → Result (Option Kind) DocFault
aggregate_or_none version None = Ok None
aggregate_or_none version (Some d) = aggregate_of version d >>= λ kind. Ok (Some kind)

-- the aggregate under the name "aggregate"
abbrev pub aggregate_in : Version → Data → Result (Option Kind) DocFault
aggregate_in version d = aggregate_or_none version (get (codes "aggregate") d)
