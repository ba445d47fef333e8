-- Documents, as values, and what they ask for.
use Rattle.std.specs.Prelude.{◌≡◌, ℕ, ℤ, pos, negsuc, Bool, List, [], ◌∷◌, Option, Some, None, Ok, Err, true, false, map, codes, refl}
use Rattle.serde_json.specs.Data.{Data, null, unsigned, negative, number, string, array, object, no_members, member}
use Rattle.serde_json.specs.View.{items_of}
use Rattle.plinq_source.specs.Trace.{Trace, ended_trace}
use Rattle.plinq_source.specs.declared.ending.Ending.TheVariants.{End, Refused}
use Rattle.plinq_lambda.specs.declared.formula.Formula.TheVariants.{Add, Mul, Mod, Into, Below, Above, Equal, Even, Repeat, UpTo}
use Rattle.plinq_ops.specs.declared.op.Op.TheVariants.{Select, Filter, SelectMany, Take, Skip, TakeWhile, SkipWhile, AsUnordered}
use Rattle.plinq_ops.specs.declared.merge_option.MergeOption.TheVariants.{NotBuffered}
use Rattle.plinq_ops.specs.declared.build_fault.BuildFault.TheVariants.{NotAtSource, MergeTwice, DegreeTwice, DegreeOutOfRange}
use Rattle.plinq_enumerator.specs.declared.growth_fault.GrowthFault.TheVariants.{Zero}
use Rattle.plinq_document.specs.Document.{document_meaning}
use Rattle.plinq_document.specs.Sources.{bound_of, few_together}
use Rattle.plinq_document.specs.Jobs.{JobView}
use Rattle.plinq_document.specs.Formulas.{formula_since}
use Rattle.plinq_document.specs.Aggregates.{kind_since}
use Rattle.plinq_document.specs.Steps.{since, has_step}
use Rattle.plinq_document.specs.declared.step_call.StepCall.TheVariants.{Operator}
use Rattle.plinq_settings.specs.declared.settings.Settings.{Settings}
use Rattle.plinq_document.specs.declared.version.Version.TheVariants.{One, Two}
use Rattle.plinq_document.specs.declared.kind.Kind.{Kind}
use Rattle.plinq_document.specs.declared.kind.Kind.TheVariants.{Sum, Count, Min, Max}
use Rattle.plinq_document.specs.declared.doc_fault.StepFault.TheVariants.{Unknown, Build}
use Rattle.plinq_document.specs.declared.doc_fault.DocFault.TheVariants.{Shape, Version, Source, Growth, Step}

abbrev whole : ℕ → Data
whole n = number (unsigned n)

abbrev word : List ℕ → Data
word bytes = string bytes

abbrev row : List Data → Data
row ds = array (items_of ds)

-- no setting of the command line
abbrev plain : Settings
plain = record { workers = None; merge = None; cancel_after = None }

-- the members in the order of their names
abbrev document : List Data → Data → Data → Data
document steps source version = object (member (codes "query") (row steps) (member (codes "source") source (member (codes "version") version no_members)))

abbrev list_of : List Data → Data
list_of ds = object (member (codes "list") (row ds) no_members)

abbrev range_of : Data → Data → Data
range_of start count = object (member (codes "range") (row (start ∷ count ∷ [])) no_members)

abbrev stepping : List Data → Data
stepping steps = document steps (list_of []) (whole 1)

abbrev as_ordered : Data
as_ordered = row (word (codes "as_ordered") ∷ [])

abbrev select_add_one : Data
select_add_one = row (word (codes "select") ∷ word (codes "add") ∷ whole 1 ∷ [])

-- {"version":1,"source":{"list":[3,1,4]},"query":[["as_ordered"],["select","add",1]]}
pub meaning-example : document_meaning plain (document (as_ordered ∷ select_add_one ∷ []) (list_of (whole 3 ∷ whole 1 ∷ whole 4 ∷ [])) (whole 1))
    ≡ Ok (record {
      query = record { ops = Select (Add (pos 1)) ∷ []; ordered = true; merge = None; degree = None };
      source = ended_trace (pos 3 ∷ pos 1 ∷ pos 4 ∷ []) End;
      growth = record { first = 1; repeat = 3; max = 512 };
      has_growth = false;
      aggregate = None;
      cancel_after = None;
    })
meaning-example = refl

-- {}
pub meaning-empty : document_meaning plain (object no_members) ≡ Err Shape
meaning-empty = refl

-- a version that isn't known comes before a name that isn't
pub meaning-version : document_meaning plain (object (member (codes "version") (whole 3) (member (codes "x") (whole 0) no_members))) ≡ Err Version
meaning-version = refl

-- version 2 has what version 1 has, and asks for a source and a query too
pub meaning-version_two : document_meaning plain (document [] (list_of []) (whole 2)) ≡ document_meaning plain (document [] (list_of []) (whole 1))
meaning-version_two = refl

pub meaning-version_two_alone : document_meaning plain (object (member (codes "version") (whole 2) no_members)) ≡ Err Shape
meaning-version_two_alone = refl

-- {"range":[9223372036854775807,2]}
pub meaning-large : document_meaning plain (document [] (range_of (whole 9223372036854775807) (whole 2)) (whole 1)) ≡ Err Source
meaning-large = refl

-- {"range":[1,-1]}
pub meaning-negative : document_meaning plain (document [] (range_of (whole 1) (number (negative (negsuc 0)))) (whole 1)) ≡ Err Shape
meaning-negative = refl

-- the growth [0,3,512], and [["sort"]]
pub meaning-growth : document_meaning plain (object (member (codes "growth") (row (whole 0 ∷ whole 3 ∷ whole 512 ∷ []))
    (member (codes "query") (row (row (word (codes "sort") ∷ []) ∷ []))
    (member (codes "source") (list_of []) (member (codes "version") (whole 1) no_members))))) ≡ Err (Growth Zero)
meaning-growth = refl

-- the growth [1,3] has a wrong shape, which is looked at before the size of {"range":[0,1099511627777]}
pub meaning-two_counts : document_meaning plain (object (member (codes "growth") (row (whole 1 ∷ whole 3 ∷ []))
    (member (codes "query") (row []) (member (codes "source") (range_of (whole 0) (whole 1099511627777)) (member (codes "version") (whole 1) no_members)))))
    ≡ Err Shape
meaning-two_counts = refl

-- and the growth [0,3,512] is none, which is looked at after it
pub meaning-large_before_growth : document_meaning plain (object
    (member (codes "growth") (row (whole 0 ∷ whole 3 ∷ whole 512 ∷ []))
    (member (codes "query") (row []) (member (codes "source") (range_of (whole 0) (whole 1099511627777)) (member (codes "version") (whole 1) no_members)))))
    ≡ Err Source
meaning-large_before_growth = refl

-- [["sort"]]
pub meaning-unknown : document_meaning plain (stepping (row (word (codes "sort") ∷ []) ∷ [])) ≡ Err (Step 0 Unknown)
meaning-unknown = refl

-- [["select","add",1],["as_ordered"]]
pub meaning-late : document_meaning plain (stepping (select_add_one ∷ as_ordered ∷ [])) ≡ Err (Step 1 (Build NotAtSource))
meaning-late = refl

-- [["with_degree",65]]
pub meaning-degree : document_meaning plain (stepping (row (word (codes "with_degree") ∷ whole 65 ∷ []) ∷ [])) ≡ Err (Step 0 (Build DegreeOutOfRange))
meaning-degree = refl

-- the command line's merge option, and [["with_merge","full"]]
pub meaning-merge_twice : document_meaning (record { workers = None; merge = Some NotBuffered; cancel_after = None })
    (stepping (row (word (codes "with_merge") ∷ word (codes "full") ∷ []) ∷ [])) ≡ Err (Step 0 (Build MergeTwice))
meaning-merge_twice = refl

-- the command line's workers, and [["with_degree",0]]
pub meaning-degree_twice : document_meaning (record { workers = Some 2; merge = None; cancel_after = None })
    (stepping (row (word (codes "with_degree") ∷ whole 0 ∷ []) ∷ [])) ≡ Err (Step 0 (Build DegreeTwice))
meaning-degree_twice = refl

-- ---- aggregates

-- {"version":1,"source":{"list":[]},"query":[]}, and beside these this aggregate
abbrev aggregating : Data → Data
aggregating kind = object (member (codes "aggregate") kind (member (codes "query") (row [])
    (member (codes "source") (list_of []) (member (codes "version") (whole 1) no_members))))

-- what that asks for
abbrev with_aggregate : Option Kind → JobView
with_aggregate kind = record {
  query = record { ops = []; ordered = false; merge = None; degree = None };
  source = ended_trace [] End;
  growth = record { first = 1; repeat = 3; max = 512 };
  has_growth = false;
  aggregate = kind;
  cancel_after = None;
}

-- the growth [1,3,512] of a document is its own, also where it is what one without a growth has
pub meaning-own_growth : document_meaning plain (object (member (codes "growth") (row (whole 1 ∷ whole 3 ∷ whole 512 ∷ []))
    (member (codes "query") (row []) (member (codes "source") (list_of []) (member (codes "version") (whole 1) no_members)))))
    ≡ Ok (record (with_aggregate None) { has_growth = true })
meaning-own_growth = refl

pub meaning-sum : document_meaning plain (aggregating (word (codes "sum"))) ≡ Ok (with_aggregate (Some Sum))
meaning-sum = refl

pub meaning-count : document_meaning plain (aggregating (word (codes "count"))) ≡ Ok (with_aggregate (Some Count))
meaning-count = refl

pub meaning-min : document_meaning plain (aggregating (word (codes "min"))) ≡ Ok (with_aggregate (Some Min))
meaning-min = refl

pub meaning-max : document_meaning plain (aggregating (word (codes "max"))) ≡ Ok (with_aggregate (Some Max))
meaning-max = refl

-- without the name there is none, and null is none of the words
pub meaning-no_aggregate : document_meaning plain (stepping []) ≡ Ok (with_aggregate None)
meaning-no_aggregate = refl

pub meaning-null_aggregate : document_meaning plain (aggregating null) ≡ Err Shape
meaning-null_aggregate = refl

-- a word that isn't known comes before a source that is too large
pub meaning-average : document_meaning plain (object (member (codes "aggregate") (word (codes "average"))
    (member (codes "query") (row []) (member (codes "source") (range_of (whole 0) (whole 1099511627777)) (member (codes "version") (whole 1) no_members)))))
    ≡ Err Shape
meaning-average = refl

-- ---- concatenations

abbrev concat_of_both : Data → Data → Data
concat_of_both first second = object (member (codes "concat") (row (first ∷ second ∷ [])) no_members)

abbrev text_of : List ℕ → Data
text_of bytes = object (member (codes "text") (word bytes) no_members)

abbrev greatest_range : Data
greatest_range = range_of (whole 0) (whole 1099511627776)

abbrev too_large : Data
too_large = range_of (whole 0) (whole 1099511627777)

-- what a document with this source and no step asks for
abbrev all_of : Trace ℤ → JobView
all_of t = record {
  query = record { ops = []; ordered = false; merge = None; degree = None };
  source = t;
  growth = record { first = 1; repeat = 3; max = 512 };
  has_growth = false;
  aggregate = None;
  cancel_after = None;
}

-- {"concat":[{"list":[1,2]},{"range":[5,2]}]}
pub meaning-concat : document_meaning plain (document [] (concat_of_both (list_of (whole 1 ∷ whole 2 ∷ [])) (range_of (whole 5) (whole 2))) (whole 2))
    ≡ Ok (all_of (ended_trace (pos 1 ∷ pos 2 ∷ pos 5 ∷ pos 6 ∷ []) End))
meaning-concat = refl

-- {"concat":[{"list":[1],"refuse":7},{"list":[2]}]}
pub meaning-concat_refused : document_meaning plain (document []
    (concat_of_both (object (member (codes "list") (row (whole 1 ∷ [])) (member (codes "refuse") (whole 7) no_members))) (list_of (whole 2 ∷ []))) (whole 2))
    ≡ Ok (all_of (ended_trace (pos 1 ∷ []) (Refused 7)))
meaning-concat_refused = refl

-- {"concat":[{"list":[]},{"text":"x"}]}
pub meaning-concat_refused_at_once : document_meaning plain (document [] (concat_of_both (list_of []) (text_of (codes "x"))) (whole 2))
    ≡ Ok (all_of (ended_trace [] (Refused 1)))
meaning-concat_refused_at_once = refl

-- version 1 has no concatenation, and none has one inside another
pub meaning-concat_early : document_meaning plain (document [] (concat_of_both (list_of []) (list_of [])) (whole 1)) ≡ Err Shape
meaning-concat_early = refl

pub meaning-concat_inside : document_meaning plain (document [] (concat_of_both (concat_of_both (list_of []) (list_of [])) (list_of [])) (whole 2)) ≡ Err Shape
meaning-concat_inside = refl

-- one source, or three
pub meaning-concat_of_one : document_meaning plain (document [] (object (member (codes "concat") (row (list_of [] ∷ [])) no_members)) (whole 2)) ≡ Err Shape
meaning-concat_of_one = refl

pub meaning-concat_of_three : document_meaning plain (document []
    (object (member (codes "concat") (row (list_of [] ∷ list_of [] ∷ list_of [] ∷ [])) no_members)) (whole 2)) ≡ Err Shape
meaning-concat_of_three = refl

-- each has as many items as a source may have, and so both have too many
pub meaning-concat_large : document_meaning plain (document [] (concat_of_both greatest_range greatest_range) (whole 2)) ≡ Err Source
meaning-concat_large = refl

-- with nothing more it has just few enough
greatest_and_nothing : few_together (bound_of greatest_range) (bound_of (text_of [])) ≡ true
greatest_and_nothing = refl

-- a list that refuses counts by its length
greatest_and_one : few_together (bound_of (object (member (codes "list") (row (whole 1 ∷ [])) (member (codes "refuse") (whole 7) no_members))))
    (bound_of greatest_range) ≡ false
greatest_and_one = refl

-- a text counts by its bytes, of which one is too many here
pub meaning-concat_text : document_meaning plain (document [] (concat_of_both greatest_range (text_of (codes " "))) (whole 2)) ≡ Err Source
meaning-concat_text = refl

-- the shape of the second is looked at before the size of the first
pub meaning-concat_shape : document_meaning plain (document [] (concat_of_both too_large (list_of (null ∷ []))) (whole 2)) ≡ Err Shape
meaning-concat_shape = refl

pub meaning-concat_too_large : document_meaning plain (document [] (concat_of_both too_large (list_of [])) (whole 2)) ≡ Err Source
meaning-concat_too_large = refl

-- ---- SkipWhile

abbrev skip_while : List Data → Data
skip_while ds = row (word (codes "skip_while") ∷ ds)

-- [["as_ordered"],["skip_while","below",5]]
pub meaning-skip_while : document_meaning plain (document (as_ordered ∷ skip_while (word (codes "below") ∷ whole 5 ∷ []) ∷ []) (list_of []) (whole 2))
    ≡ Ok (record {
      query = record { ops = SkipWhile (Below (pos 5)) ∷ []; ordered = true; merge = None; degree = None };
      source = ended_trace [] End;
      growth = record { first = 1; repeat = 3; max = 512 };
      has_growth = false;
      aggregate = None;
      cancel_after = None;
    })
meaning-skip_while = refl

-- version 1 doesn't know [["skip_while","even"]]
pub meaning-skip_while_early : document_meaning plain (stepping (skip_while (word (codes "even") ∷ []) ∷ [])) ≡ Err (Step 0 Unknown)
meaning-skip_while_early = refl

-- without a formula, and with an item after it
pub meaning-skip_while_of_none : document_meaning plain (document (skip_while [] ∷ []) (list_of []) (whole 2)) ≡ Err (Step 0 Unknown)
meaning-skip_while_of_none = refl

pub meaning-skip_while_of_two : document_meaning plain (document (skip_while (word (codes "below") ∷ whole 5 ∷ whole 6 ∷ []) ∷ []) (list_of []) (whole 2))
    ≡ Err (Step 0 Unknown)
meaning-skip_while_of_two = refl

-- two sources have few items together where their bounds add up to exactly 2^40: a list that refuses has its length, a
-- text of one letter the two bytes of that, a repeat its count
abbrev few_beside : ℕ → Data → Bool
few_beside count second = few_together (bound_of (range_of (whole 0) (whole count))) (bound_of second)

abbrev refusing_list_of_one : Data
refusing_list_of_one = object (member (codes "list") (row (whole 9 ∷ [])) (member (codes "refuse") (whole 7) no_members))

abbrev text_of_one_letter : Data
text_of_one_letter = object (member (codes "text") (word (195 ∷ 169 ∷ [])) no_members)

abbrev repeat_of_three : Data
repeat_of_three = object (member (codes "repeat") (row (whole 9 ∷ whole 3 ∷ [])) no_members)

pub few-beside_list : few_beside 1099511627775 refusing_list_of_one ≡ true
few-beside_list = refl

pub few-beside_text : few_beside 1099511627774 text_of_one_letter ≡ true
few-beside_text = refl

pub few-beside_repeat : few_beside 1099511627773 repeat_of_three ≡ true
few-beside_repeat = refl

-- and one more is too many
pub many-beside_list : few_beside 1099511627776 refusing_list_of_one ≡ false
many-beside_list = refl

pub many-beside_text : few_beside 1099511627775 text_of_one_letter ≡ false
many-beside_text = refl

pub many-beside_repeat : few_beside 1099511627774 repeat_of_three ≡ false
many-beside_repeat = refl

-- SkipWhile alone came with version 2
pub operators-since : map since (Select Even ∷ Filter Even ∷ SelectMany Even ∷ Take (pos 1) ∷ Skip (pos 1) ∷ TakeWhile Even ∷ AsUnordered ∷ SkipWhile Even ∷ [])
    ≡ One ∷ One ∷ One ∷ One ∷ One ∷ One ∷ One ∷ Two ∷ []
operators-since = refl

-- every formula and every aggregate came with version 1
pub formulas-since : map formula_since (Add (pos 1) ∷ Mul (pos 1) ∷ Mod (pos 1) ∷ Into (pos 1) ∷ Below (pos 1) ∷ Above (pos 1) ∷ Equal (pos 1) ∷ Even
    ∷ Repeat (pos 1) ∷ UpTo ∷ []) ≡ One ∷ One ∷ One ∷ One ∷ One ∷ One ∷ One ∷ One ∷ One ∷ One ∷ []
formulas-since = refl

pub kinds-since : map kind_since (Sum ∷ Count ∷ Min ∷ Max ∷ []) ≡ One ∷ One ∷ One ∷ One ∷ []
kinds-since = refl

-- a formula that a version has stands in none of its steps that the version lacks
pub a_later_step_of_an_earlier_formula : has_step One (Operator (SkipWhile Even)) ≡ false
a_later_step_of_an_earlier_formula = refl
