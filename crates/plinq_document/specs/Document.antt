-- What a document asks for.
use Rattle.std.specs.Prelude.{ℕ, ◌^◌, ◌||◌, ◌&&◌, Bool, true, false, List, [], length, nat_le, if◌then◌else◌, option_and_then, ok_or, Result, Ok, Err, codes, ⊤}
use Rattle.std.specs.Str.{bytes_eq, is_utf8}
use Rattle.serde_json.specs.Data.{Data, Items, Members, no_members, member}
use Rattle.serde_json.specs.Find.{as_array, as_object, get}
use Rattle.serde_json.specs.Read.{read}
use Rattle.plinq_lambda.specs.declared.formula.Formula.{Formula}
use Rattle.plinq_ops.specs.Query.{QueryView}
use Rattle.plinq_document.specs.JsonValues.{items_len}
use Rattle.plinq_document.specs.Results.{◌>>=◌, ◌>>◌, or_shape}
use Rattle.plinq_document.specs.Jobs.{JobView}
use Rattle.plinq_document.specs.Versions.{version_in}
use Rattle.plinq_document.specs.Sources.{source_in}
use Rattle.plinq_document.specs.Growths.{growth_counts, growth_of}
use Rattle.plinq_document.specs.Aggregates.{aggregate_in}
use Rattle.plinq_document.specs.Steps.{with_steps_of}
use Rattle.plinq_settings.specs.declared.settings.Settings.{Settings}
use Rattle.plinq_document.specs.declared.doc_fault.DocFault.{DocFault}
use Rattle.plinq_document.specs.declared.doc_fault.DocFault.TheVariants.{TooLong, NotJson, Shape}

-- a name that a document may have
abbrev pub is_top_name : List ℕ → Bool
is_top_name name = bytes_eq name (codes "version") || bytes_eq name (codes "source") || bytes_eq name (codes "query") || bytes_eq name (codes "growth")
    || bytes_eq name (codes "aggregate")

-- all the names are such
abbrev pub are_top_names : Members → Bool
are_top_names no_members = true
are_top_names (member name d ms) = is_top_name name && are_top_names ms

-- that a document has no other names than these
abbrev pub known_names : Members → Result ⊤ DocFault
known_names ms = if are_top_names ms then Ok tt else Err Shape

-- the document is an object that has no other name
abbrev pub names_check : Data → Result ⊤ DocFault
names_check d = or_shape (as_object d) >>= known_names

-- at most 1,000 steps
abbrev pub few_steps : Items → Result Items DocFault
few_steps ds = if nat_le (items_len ds) 1000 then Ok ds else Err Shape

-- the steps, under the name "query"
abbrev pub steps_in : Data → Result Items DocFault
steps_in d = or_shape (option_and_then as_array (get (codes "query") d)) >>= few_steps

-- a new query on which the settings of the command line were called
abbrev pub new_query : Settings → QueryView Formula
new_query settings = record { ops = []; ordered = false; merge = settings.merge; degree = settings.workers }

-- what a value asks for under the command line's settings, or the first thing that is wrong with it
abbrev pub document_meaning : Settings → Data → Result JobView DocFault
document_meaning settings d = do
  version ← version_in d
  names_check d
  steps ← steps_in d
  counts ← growth_counts d
  aggregate ← aggregate_in version d
  source ← source_in version d
  growth ← growth_of counts
  query ← with_steps_of version 0 (new_query settings) steps
  Ok (record { query = query; source = source; growth = growth; has_growth = counts.is_given; aggregate = aggregate; cancel_after = settings.cancel_after })

-- at most 16,777,216 bytes
abbrev pub length_check : List ℕ → Result ⊤ DocFault
length_check bytes = if nat_le (length bytes) (2 ^ 24) then Ok tt else Err TooLong

-- the value that a JSON text is
abbrev pub json_of : List ℕ → Result Data DocFault
json_of bytes = if is_utf8 bytes then ok_or (read bytes) NotJson else Err NotJson

-- what a text asks for under the command line's settings, or the first thing that is wrong with it
abbrev pub document_of : Settings → List ℕ → Result JobView DocFault
document_of settings bytes = do
  length_check bytes
  d ← json_of bytes
  document_meaning settings d
