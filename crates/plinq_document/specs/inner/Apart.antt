-- A document whose source was read apart from its other members.
use Rattle.std.specs.Prelude.{◌≡◌, ℕ, ℤ, List, ◌∷◌, length, Option, Some, None, IfSome, option_and_then, Result, Ok, codes}
use Rattle.json.specs.Token.{Token}
use Rattle.json.specs.Json as json
use Rattle.json.specs.Json.{items, members, value}
use Rattle.serde_json.specs.Data.{Data, Num, number, Items, Members, no_members}
use Rattle.serde_json.specs.Find.{get_member}
use Rattle.serde_json.specs.Read.{number_of, of_json, of_items, of_members, converted}
use Rattle.plinq_source.specs.Trace.{Trace}
use Rattle.plinq_document.specs.PlainWalked.{plain_whole, plain_given}
use Rattle.plinq_document.specs.Results.{◌>>=◌, ◌>>◌}
use Rattle.plinq_document.specs.Jobs.{JobView}
use Rattle.plinq_document.specs.Versions.{version_in}
use Rattle.plinq_document.specs.Sources.{whole_numbers, code_of, source_of, source_in}
use Rattle.plinq_document.specs.Growths.{growth_counts, growth_of}
use Rattle.plinq_document.specs.Aggregates.{aggregate_in}
use Rattle.plinq_document.specs.Steps.{with_steps_of}
use Rattle.plinq_document.specs.Document.{are_top_names, names_check, steps_in, new_query}
use Rattle.plinq_document.specs.declared.version.Version.{Version}
use Rattle.plinq_document.specs.declared.plain_source.PlainSource.{PlainSource}
use Rattle.plinq_settings.specs.declared.settings.Settings.{Settings}
use Rattle.plinq_document.specs.declared.doc_fault.DocFault.{DocFault}

-- the whole numbers that the items of a JSON list are
abbrev pub numbers_in : json.Items → Option (List ℤ)
numbers_in js = option_and_then whole_numbers (of_items js)

-- the tokens are those of a value, and others after it
abbrev pub Reads : ℕ → List Token → Data → List Token → Type 0
Reads depth ts d rest = converted of_json (value depth ts) ≡ Some (d, rest)

-- those of a list's items and the bracket that closes it
abbrev pub ReadsItems : ℕ → List Token → Items → List Token → Type 0
ReadsItems depth ts ds rest = converted of_items (items (value depth) (length ts) ts) ≡ Some (ds, rest)

-- of items that are whole numbers
abbrev pub ReadsNumbers : ℕ → List Token → List ℤ → List Token → Type 0
ReadsNumbers depth ts ns rest = converted numbers_in (items (value depth) (length ts) ts) ≡ Some (ns, rest)

-- those of an object's members and the brace that closes it
abbrev pub ReadsMembers : ℕ → List Token → Members → List Token → Type 0
ReadsMembers depth ts ms rest = converted (λ js. of_members js no_members) (members (value depth) (length ts) ts) ≡ Some (ms, rest)

-- after a list's numbers the source ends, or has the code with which it refuses
abbrev pub EndsList : Option ℕ → List Token → List Token → Type 0
EndsList None ts rest = ts ≡ Token.end_object ∷ rest
EndsList (Some code) ts rest =
    (s : List ℕ) × (n : Num) × (ts ≡ Token.key (codes "refuse") ∷ Token.number s ∷ Token.end_object ∷ rest) × (number_of s ≡ Some n)
    × (code_of (number n) ≡ Some code)

-- a source is what every version reads of this data
abbrev pub IsSourceOf : PlainSource → Data → Type 0
IsSourceOf s d = (version : Version) → source_of version d ≡ Ok (plain_whole s)

-- nothing is given yet of a source, if there is one
abbrev pub IsFresh : Option PlainSource → Type 0
IsFresh source = IfSome source (λ s. plain_given s ≡ 0)

-- under the name "source" stands the same as beside it, or the source that was read apart
abbrev pub IsUnderSource : Option PlainSource → Members → Members → Type 0
IsUnderSource None ms others = get_member (codes "source") ms ≡ get_member (codes "source") others
IsUnderSource (Some s) ms others = (d : Data) × (get_member (codes "source") ms ≡ Some d) × IsSourceOf s d

-- the members of a document, those that were read beside its source, and the source, if it was read apart
pub record AreApart (source : Option PlainSource) (others ms : Members) : Type 0 where
  pub names : are_top_names ms ≡ are_top_names others
  pub beside : (name : List ℕ) → (name ≡ codes "source" → ⊥) → get_member name ms ≡ get_member name others
  pub under : IsUnderSource source ms others

-- the source that was read apart, else that of the document
abbrev pub source_apart : Option PlainSource → Version → Data → Result (Trace ℤ) DocFault
source_apart None version d = source_in version d
source_apart (Some s) version d = Ok (plain_whole s)

-- what a document asks for whose source may have been read apart
abbrev pub meaning_apart : Settings → Option PlainSource → Data → Result JobView DocFault
meaning_apart settings apart d = do
  version ← version_in d
  names_check d
  steps ← steps_in d
  counts ← growth_counts d
  aggregate ← aggregate_in version d
  source ← source_apart apart version d
  growth ← growth_of counts
  query ← with_steps_of version 0 (new_query settings) steps
  Ok (record { query = query; source = source; growth = growth; has_growth = counts.is_given; aggregate = aggregate; cancel_after = settings.cancel_after })
