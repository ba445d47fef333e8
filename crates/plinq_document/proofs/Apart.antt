-- A document means the same whether or not its source was read apart from its other members.
use Rattle.std.proofs.Common.{◌≡◌, ℕ, ◌^◌, ◌≤◌, ℤ, Bool, true, false, List, length, Option, Some, None, Result, Ok, Err, Ordering, Less, Equal}
use Rattle.std.proofs.Common.{Greater, nat_cmp, is_eq, bytes_eq, true≢false, refl, sym, ap, ◌∙◌, le-leb}
use Rattle.std.specs.Prelude.{◌&&◌, codes, if◌then◌else◌, option_and_then, ⊤}
use Rattle.std.specs.Cmp.Lexicographic.{slice_cmp}
use Rattle.std.specs.Ordering.{match_ordering}
use Rattle.std.proofs.lemmas.Map.Text.{is_eq-slice_cmp}
use Rattle.std.proofs.lemmas.Slice.Eq.{bytes_eq-Decides}
use Rattle.serde_json.specs.Data.{Data, Items, string, array, object, Members, no_members, member, put}
use Rattle.serde_json.specs.Find.{as_array, get_member}
use Rattle.serde_json.proofs.Views.{get_member-put, get_member-put_other}
use Rattle.plinq_source.specs.Trace.{Trace, ended_trace, list_ending}
use Rattle.plinq_document.specs.Results.{◌>>=◌, ◌>>◌, or_shape}
use Rattle.plinq_document.specs.Jobs.{JobView}
use Rattle.plinq_document.specs.JsonValues.{whole_number}
use Rattle.plinq_document.specs.Versions.{version_in, version_numbered}
use Rattle.plinq_document.specs.Growths.{counts_or_default, growth_counts, growth_of}
use Rattle.plinq_document.specs.Aggregates.{aggregate_or_none, aggregate_in}
use Rattle.plinq_document.specs.Steps.{with_steps_of}
use Rattle.plinq_document.specs.Sources.{whole_numbers, code_of, list_source, text_source, source_of, source_in}
use Rattle.plinq_document.specs.Document.{is_top_name, are_top_names, names_check, few_steps, steps_in, new_query, document_meaning}
use Rattle.plinq_document.specs.inner.Apart.{IsSourceOf, IsUnderSource, AreApart, source_apart, meaning_apart}
use Rattle.plinq_document.specs.declared.kind.Kind.{Kind}
use Rattle.plinq_document.specs.declared.growth_counts.GrowthCounts.{GrowthCounts}
use Rattle.plinq_document.specs.declared.version.Version.{Version}
use Rattle.plinq_document.specs.declared.version.Version.TheVariants.{One, Two}
use Rattle.plinq_document.specs.declared.plain_source.PlainSource.{PlainSource}
use Rattle.plinq_settings.specs.declared.settings.Settings.{Settings}
use Rattle.plinq_document.specs.declared.doc_fault.DocFault.{DocFault}
use Rattle.plinq_document.specs.declared.doc_fault.DocFault.TheVariants.{Shape}

-- ---- the names

twice : (b c : Bool) → (b && c) ≡ (b && (b && c))
twice true c = refl
twice false c = refl

exchanged : (a b c : Bool) → (a && (b && c)) ≡ (b && (a && c))
exchanged true true c = refl
exchanged true false c = refl
exchanged false true c = refl
exchanged false false c = refl

same-name : (k l : List ℕ) → slice_cmp nat_cmp k l ≡ Equal → k ≡ l
same-name k l is = (bytes_eq-Decides k l).0 (sym (is_eq-slice_cmp k l) ∙ ap is_eq is)

are_top_names-at : (o : Ordering) (k l : List ℕ) (d e : Data) (ms : Members) → slice_cmp nat_cmp k l ≡ o
    → are_top_names (put k d ms) ≡ (is_top_name k && are_top_names ms)
    → are_top_names (match_ordering o (member k d (member l e ms)) (member l d ms) (member l e (put k d ms)))
    ≡ (is_top_name k && (is_top_name l && are_top_names ms))
are_top_names-at Less k l d e ms is later = refl
are_top_names-at Equal k l d e ms is later =
    twice (is_top_name l) (are_top_names ms) ∙ ap (λ name. is_top_name name && (is_top_name l && are_top_names ms)) (sym (same-name k l is))
are_top_names-at Greater k l d e ms is later = ap (λ b. is_top_name l && b) later ∙ exchanged (is_top_name l) (is_top_name k) (are_top_names ms)

-- a member that is put has one more name to be known
are_top_names-put : (k : List ℕ) (d : Data) (ms : Members) → are_top_names (put k d ms) ≡ (is_top_name k && are_top_names ms)
are_top_names-put k d no_members = refl
are_top_names-put k d (member l e ms) = are_top_names-at _ k l d e ms refl (are_top_names-put k d ms)

-- ---- one more member

-- names that aren't the same bytes differ
pub differ : (a b : List ℕ) → bytes_eq a b ≡ false → a ≡ b → ⊥
differ a b is e = true≢false (sym ((bytes_eq-Decides a b).1 e) ∙ is)

under-put : (source : Option PlainSource) (k : List ℕ) (d : Data) (others ms : Members) → (codes "source" ≡ k → ⊥) → IsUnderSource source ms others
    → IsUnderSource source (put k d ms) (put k d others)
under-put None k d others ms other under = get_member-put_other _ k d ms other ∙ under ∙ sym (get_member-put_other _ k d others other)
under-put (Some s) k d others ms other under = (under.0, get_member-put_other _ k d ms other ∙ under.1, under.2)

beside-put : (name k : List ℕ) (d : Data) (others ms : Members) (b : Bool) → bytes_eq name k ≡ b → get_member name ms ≡ get_member name others
    → get_member name (put k d ms) ≡ get_member name (put k d others)
beside-put name k d others ms true is same =
    let e : name ≡ k = (bytes_eq-Decides name k).0 is in
    rw e (get_member-put k d ms ∙ sym (get_member-put k d others))
beside-put name k d others ms false is same =
    get_member-put_other name k d ms (differ name k is) ∙ same ∙ sym (get_member-put_other name k d others (differ name k is))

-- a member of another name is put beside
pub AreApart-other : (source : Option PlainSource) (k : List ℕ) (d : Data) (others ms : Members) → (k ≡ codes "source" → ⊥)
    → AreApart source others ms → AreApart source (put k d others) (put k d ms)
AreApart-other source k d others ms other apart = record {
  names = are_top_names-put k d ms ∙ ap (λ b. is_top_name k && b) apart.names ∙ sym (are_top_names-put k d others);
  beside = λ name not_source. beside-put name k d others ms _ refl (apart.beside name not_source);
  under = under-put source k d others ms (λ e. other (sym e)) apart.under;
}

-- the source is put apart
pub AreApart-source : (before : Option PlainSource) (s : PlainSource) (d : Data) (others ms : Members) → IsSourceOf s d → AreApart before others ms
    → AreApart (Some s) others (put (codes "source") d ms)
AreApart-source before s d others ms is apart = record {
  names = are_top_names-put (codes "source") d ms ∙ apart.names;
  beside = λ name not_source. get_member-put_other name (codes "source") d ms not_source ∙ apart.beside name not_source;
  under = (d, get_member-put (codes "source") d ms, is);
}

-- ---- the meaning

-- what the parts of a document ask for
abbrev meaning_of : Settings → Result Version DocFault → Result ⊤ DocFault → Result Items DocFault → Result GrowthCounts DocFault
    → (Version → Result (Option Kind) DocFault) → (Version → Result (Trace ℤ) DocFault) → Result JobView DocFault
meaning_of settings version_is names_are steps_are counts_are aggregate_is source_is = do
  version ← version_is
  names_are
  steps ← steps_are
  counts ← counts_are
  aggregate ← aggregate_is version
  source ← source_is version
  growth ← growth_of counts
  query ← with_steps_of version 0 (new_query settings) steps
  Ok (record { query = query; source = source; growth = growth; has_growth = counts.is_given; aggregate = aggregate; cancel_after = settings.cancel_after })

same-by_version : (settings : Settings) (v : Result Version DocFault) (names : Result ⊤ DocFault) (steps : Result Items DocFault)
    (counts : Result GrowthCounts DocFault) (k l : Version → Result (Option Kind) DocFault) → ((version : Version) → k version ≡ l version)
    → (f g : Version → Result (Trace ℤ) DocFault) → ((version : Version) → f version ≡ g version)
    → meaning_of settings v names steps counts k f ≡ meaning_of settings v names steps counts l g
same-by_version settings (Ok version) names steps counts k l kinds f g sources =
    ap (λ kind. meaning_of settings (Ok version) names steps counts (λ v. kind) f) (kinds version)
    ∙ ap (λ source. meaning_of settings (Ok version) names steps counts l (λ v. source)) (sources version)
same-by_version settings (Err e) names steps counts k l kinds f g sources = refl

source-apart : (source : Option PlainSource) (others ms : Members) → IsUnderSource source ms others → (version : Version)
    → source_in version (object ms) ≡ source_apart source version (object others)
source-apart None others ms under version = ap (λ o. or_shape o >>= source_of version) under
source-apart (Some s) others ms under version = ap (λ o. or_shape o >>= source_of version) under.1 ∙ under.2 version

-- a list of whole numbers is the same source in every version, alone and with a code
pub list-alone : (version : Version) (d : Data) → source_of version (object (member (codes "list") d no_members)) ≡ list_source None d
list-alone One d = refl
list-alone Two d = refl

pub list-refusing : (version : Version) (d e : Data) (code : ℕ) → code_of e ≡ Some code
    → source_of version (object (member (codes "list") d (member (codes "refuse") e no_members))) ≡ list_source (Some code) d
list-refusing One d e code is = ap (λ o. or_shape o >>= λ n. list_source (Some n) d) is
list-refusing Two d e code is = ap (λ o. or_shape o >>= λ n. list_source (Some n) d) is

pub list_source-numbers : (refusal : Option ℕ) (ds : Items) (ns : List ℤ) → whole_numbers ds ≡ Some ns → length ns ≤ 2 ^ 40
    → list_source refusal (array ds) ≡ Ok (ended_trace ns (list_ending refusal))
list_source-numbers refusal ds ns is few = rw (is, le-leb _ _ few) refl

-- a text is the same source in every version
pub text-alone : (version : Version) (text : List ℕ) → source_of version (object (member (codes "text") (string text) no_members)) ≡ text_source text
text-alone One text = refl
text-alone Two text = refl

-- a document means what its parts do
pub document_meaning-apart : (settings : Settings) (source : Option PlainSource) (others ms : Members) → AreApart source others ms
    → document_meaning settings (object ms) ≡ meaning_apart settings source (object others)
document_meaning-apart settings source others ms apart =
    let version =
    ap (λ o. or_shape (option_and_then whole_number o) >>= version_numbered) (apart.beside (codes "version")
    (differ (codes "version") (codes "source") refl)) in
    let names = ap (λ b. if b then Ok tt else Err Shape) apart.names in
    let steps = ap (λ o. or_shape (option_and_then as_array o) >>= few_steps) (apart.beside (codes "query") (differ (codes "query") (codes "source") refl)) in
    let counts = ap counts_or_default (apart.beside (codes "growth") (differ (codes "growth") (codes "source") refl)) in
    let aggregate : (version : Version) → aggregate_in version (object ms) ≡ aggregate_in version (object others) =
    λ version. ap (aggregate_or_none version) (apart.beside (codes "aggregate") (differ (codes "aggregate") (codes "source") refl)) in
    let a = object ms in
    let b = object others in
    let kinds : Version → Result (Option Kind) DocFault = λ version. aggregate_in version a in
    let sources : Version → Result (Trace ℤ) DocFault = λ version. source_in version a in
    ap (λ v. meaning_of settings v (names_check a) (steps_in a) (growth_counts a) kinds sources) version
    ∙ ap (λ n. meaning_of settings (version_in b) n (steps_in a) (growth_counts a) kinds sources) names
    ∙ ap (λ s. meaning_of settings (version_in b) (names_check b) s (growth_counts a) kinds sources) steps
    ∙ ap (λ g. meaning_of settings (version_in b) (names_check b) (steps_in b) g kinds sources) counts
    ∙ same-by_version settings (version_in b) (names_check b) (steps_in b) (growth_counts b) kinds (λ version. aggregate_in version b) aggregate
    sources (λ version. source_apart source version b) (source-apart source others ms apart.under)
