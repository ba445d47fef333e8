-- What one turn of a loop over tokens comes to.
use Rattle.std.proofs.Common.{◌≡◌, ℕ, suc, ◌-◌, ◌^◌, ◌<◌, ◌≤◌, ℤ, List, [], ◌∷◌, ◌++◌, length, Option, Some, None, Ok, option_map, refl, ap, sym, ◌∙◌}
use Rattle.std.proofs.Common.{append_assoc, append-nil, arith}
use Rattle.std.specs.Prelude.{option_and_then, codes, IfSome}
use Rattle.json.specs.Token.{Token}
use Rattle.json.specs.Json as json
use Rattle.json.specs.Json.{parse_map, after_end_array, read_key, items, members, value}
use Rattle.json.proofs.Grammar.{value_is, value-begin_array, value-begin_object, items_end, items_more, members_end, members_more}
use Rattle.serde_json.specs.Data.{Num, Data, number, string, array, object, Items, no_items, item, Members, no_members, member, put}
use Rattle.serde_json.specs.Find.{as_i64}
use Rattle.serde_json.specs.Read.{number_of, of_json, of_items, of_members, converted}
use Rattle.serde_json.specs.View.{view, items_view}
use Rattle.serde_json.specs.declared.value.Value.{Value}
use Rattle.plinq_source.specs.Trace.{ended_trace, list_ending}
use Rattle.plinq_document.specs.Sources.{whole_numbers, list_source, source_of}
use Rattle.plinq_document.specs.declared.version.Version.{Version}
use Rattle.plinq_document.proofs.Apart.{list-alone, list-refusing, list_source-numbers}
use Rattle.plinq_document.specs.inner.Apart.{numbers_in, Reads, ReadsMembers, EndsList, IsSourceOf}
use Rattle.plinq_document.specs.declared.plain_source.PlainSource.{PlainSource}

-- ---- what was read, converted

beside-rest : {A B : Type 0} (g : A → B) (r : List Token) (x : Option A) → option_map (λ b. (b, r)) (option_map g x) ≡ parse_map g (option_map (λ a. (a, r)) x)
beside-rest g r None = refl
beside-rest g r (Some a) = refl

-- what is made of the parts is converted as they are
converted-made : {A X B C : Type 0} (f : A → Option B) (part : X → Option C) (made : X → A) (g : C → B) → ((x : X) → f (made x) ≡ option_map g (part x))
    → (o : Option (X × List Token)) → converted f (parse_map made o) ≡ parse_map g (converted part o)
converted-made f part made g same None = refl
converted-made f part made g same (Some p) = ap (option_map (λ b. (b, p.1))) (same p.0) ∙ beside-rest g p.1 (part p.0)

pub converted-array : (o : Option (json.Items × List Token)) → converted of_json (parse_map json.array o) ≡ parse_map array (converted of_items o)
converted-array = converted-made of_json of_items json.array array (λ js. refl)

pub converted-object : (o : Option (json.Members × List Token))
    → converted of_json (parse_map json.object o) ≡ parse_map object (converted (λ js. of_members js no_members) o)
converted-object = converted-made of_json (λ js. of_members js no_members) json.object object (λ js. refl)

abbrev the-first : {A : Type 0} → A → Option A → A
the-first a None = a
the-first a (Some b) = b

same-rest : {B : Type 0} (r s : List Token) (x : Option B) (b : B) → option_map {U = B × List Token} (λ y. (y, r)) x ≡ Some (b, s) → (r ≡ s) × (x ≡ Some b)
same-rest r s None b e = absurd (cc)
same-rest r s (Some y) b e = let same = ap (the-first (y, r)) e in (ap (λ p. p.1) same, ap (λ p. Some p.0) same)

-- a conversion that gives something was one of something
pub converted-some : {A B : Type 0} (f : A → Option B) (o : Option (A × List Token)) (b : B) (r : List Token) → converted f o ≡ Some (b, r)
    → (a : A) × (o ≡ Some (a, r)) × (f a ≡ Some b)
converted-some f None b r e = absurd (cc)
converted-some f (Some p) b r e = let both = same-rest p.1 r (f p.0) b e in (p.0, ap (λ s. Some (p.0, s)) both.0, both.1)

-- a whole text that reads as a value, and nothing after it
pub whole-read : (o : Option (json.Json × List Token)) (d : Data) → converted of_json o ≡ Some (d, [])
    → option_and_then of_json (option_and_then (λ p. json.if_last p.0 p.1) o) ≡ Some d
whole-read o d e = let j = converted-some of_json o d [] e in ap (λ q. option_and_then of_json (option_and_then (λ p. json.if_last p.0 p.1) q)) j.1 ∙ j.2

-- a number's token is its number
pub value-number : (depth : ℕ) (ts r : List Token) (s : List ℕ) (num : Num) → ts ≡ Token.number s ∷ r → number_of s ≡ Some num
    → converted of_json (value depth ts) ≡ Some (number num, r)
value-number depth ts r s num first is = ap (converted of_json) (ap (value depth) first ∙ value_is depth _) ∙ rw is

-- a text's token is its text
pub value-string : (depth : ℕ) (ts r : List Token) (s : List ℕ) → ts ≡ Token.string s ∷ r → converted of_json (value depth ts) ≡ Some (string s, r)
value-string depth ts r s first = ap (converted of_json) (ap (value depth) first ∙ value_is depth _)

-- the bracket that opens a list is followed by its items
pub value-list : (depth : ℕ) (ts r : List Token) → 0 < depth → ts ≡ Token.begin_array ∷ r
    → converted of_json (value depth ts) ≡ parse_map array (converted of_items (items (value (depth - 1)) (length r) r))
value-list depth ts r some first =
    ap (converted of_json) (ap (value depth) first ∙ value-begin_array depth r some) ∙ converted-array (items (value (depth - 1)) (length r) r)

-- the brace that opens an object is followed by its members
pub value-object : (depth : ℕ) (ts r : List Token) → 0 < depth → ts ≡ Token.begin_object ∷ r
    → converted of_json (value depth ts) ≡ parse_map object (converted (λ js. of_members js no_members) (members (value (depth - 1)) (length r) r))
value-object depth ts r some first =
    ap (converted of_json) (ap (value depth) first ∙ value-begin_object depth r some) ∙ converted-object (members (value (depth - 1)) (length r) r)

-- ---- items

of_items-item : (j : json.Json) (d : Data) (js : json.Items) → of_json j ≡ Some d → of_items (json.item j js) ≡ option_map (item d) (of_items js)
of_items-item j d js is = rw is refl

abbrev pub items_before : List Value → Items → Items
items_before [] rest = rest
items_before (v ∷ vs) rest = item (view v) (items_before vs rest)

pub items_before-none : (vs : List Value) → items_before vs no_items ≡ items_view vs
items_before-none [] = refl
items_before-none (v ∷ vs) = ap (item (view v)) (items_before-none vs)

items_before-one : (vs : List Value) (v : Value) (rest : Items) → items_before vs (item (view v) rest) ≡ items_before (vs ++ v ∷ []) rest
items_before-one [] v rest = refl
items_before-one (w ∷ vs) v rest = ap (item (view w)) (items_before-one vs v rest)

joined-item : (vs : List Value) (v : Value) (o : Option (Items × List Token))
    → parse_map (items_before vs) (parse_map (item (view v)) o) ≡ parse_map (items_before (vs ++ v ∷ [])) o
joined-item vs v None = refl
joined-item vs v (Some p) = ap (λ ds. Some (ds, p.1)) (items_before-one vs v p.0)

-- nothing stands before what is read at first
pub none-before : {A : Type 0} (o : Option (A × List Token)) → o ≡ parse_map (λ a. a) o
none-before None = refl
none-before (Some p) = refl

-- a value joins those before it
pub items-turn : (depth k : ℕ) (ts r : List Token) (vs : List Value) (v : Value) → 0 < k → after_end_array ts ≡ None
    → converted of_json (value depth ts) ≡ Some (view v, r)
    → parse_map (items_before vs) (converted of_items (items (value depth) k ts)) ≡ parse_map (items_before (vs ++ v ∷ []))
    (converted of_items (items (value depth) (k - 1) r))
items-turn depth k ts r vs v some going read =
    let j = converted-some of_json (value depth ts) (view v) r read in
    ap (λ o. parse_map (items_before vs) (converted of_items o)) (items_more (value depth) k ts r j.0 some going j.1)
    ∙ ap (parse_map (items_before vs)) (converted-made of_items of_items (json.item j.0) (item (view v)) (λ js. of_items-item j.0 (view v) js j.2) _)
    ∙ joined-item vs v _

-- the bracket that closes a list ends its items
pub items-over : (depth k : ℕ) (ts r : List Token) (vs : List Value) → length ts ≤ k → after_end_array ts ≡ Some r
    → parse_map (items_before vs) (converted of_items (items (value depth) k ts)) ≡ Some (items_view vs, r)
items-over depth k ts r vs enough over =
    ap (λ o. parse_map (items_before vs) (converted of_items o)) (items_end (value depth) k ts r enough over)
    ∙ ap (λ ds. Some (ds, r)) (items_before-none vs)

-- ---- numbers

numbers_in-item : (s : List ℕ) (num : Num) (n : ℤ) (js : json.Items) → number_of s ≡ Some num → as_i64 num ≡ Some n
    → numbers_in (json.item (json.number s) js) ≡ option_map (λ ns. n ∷ ns) (numbers_in js)
numbers_in-item s num n js is fits = rw is (by (of_items js))
  where
    by : (o : Option Items) → option_and_then whole_numbers (option_map (item (number num)) o) ≡ option_map (λ ns. n ∷ ns) (option_and_then whole_numbers o)
    by None = refl
    by (Some ds) = rw fits refl

joined-number : (ns : List ℤ) (n : ℤ) (o : Option (List ℤ × List Token))
    → parse_map (λ rest. ns ++ rest) (parse_map (λ rest. n ∷ rest) o) ≡ parse_map (λ rest. (ns ++ n ∷ []) ++ rest) o
joined-number ns n None = refl
joined-number ns n (Some p) = ap (λ rest. Some (rest, p.1)) (sym (append_assoc ns (n ∷ []) p.0))

-- a number's token joins the numbers before it
pub numbers-turn : (depth k : ℕ) (ts r : List Token) (s : List ℕ) (num : Num) (ns : List ℤ) (n : ℤ) → 0 < k → ts ≡ Token.number s ∷ r
    → number_of s ≡ Some num → as_i64 num ≡ Some n
    → parse_map (λ rest. ns ++ rest) (converted numbers_in (items (value depth) k ts)) ≡ parse_map (λ rest. (ns ++ n ∷ []) ++ rest)
    (converted numbers_in (items (value depth) (k - 1) r))
numbers-turn depth k ts r s num ns n some first is fits =
    let going : after_end_array ts ≡ None = ap after_end_array first in
    let valued : value depth ts ≡ Some (json.number s, r) = ap (value depth) first ∙ value_is depth _ in
    ap (λ o. parse_map (λ rest. ns ++ rest) (converted numbers_in o)) (items_more (value depth) k ts r (json.number s) some going valued)
    ∙ ap (parse_map (λ rest. ns ++ rest)) (converted-made numbers_in numbers_in (json.item (json.number s)) (λ rest. n ∷ rest)
    (λ js. numbers_in-item s num n js is fits) _)
    ∙ joined-number ns n _

-- the bracket that closes a list ends its numbers
pub numbers-over : (depth k : ℕ) (ts r : List Token) (ns : List ℤ) → length ts ≤ k → ts ≡ Token.end_array ∷ r
    → parse_map (λ rest. ns ++ rest) (converted numbers_in (items (value depth) k ts)) ≡ Some (ns, r)
numbers-over depth k ts r ns enough first =
    ap (λ o. parse_map (λ rest. ns ++ rest) (converted numbers_in o)) (items_end (value depth) k ts r enough (ap after_end_array first))
    ∙ ap (λ all. Some (all, r)) (append-nil ns)

-- the items of numbers that were read
pub numbers-items : (js : json.Items) (ns : List ℤ) → numbers_in js ≡ Some ns → (ds : Items) × (of_items js ≡ Some ds) × (whole_numbers ds ≡ Some ns)
numbers-items js ns e = by (of_items js) e
  where
    by : (o : Option Items) → option_and_then whole_numbers o ≡ Some ns → (ds : Items) × (o ≡ Some ds) × (whole_numbers ds ≡ Some ns)
    by None e = absurd (cc)
    by (Some ds) e = (ds, refl, e)

-- ---- members

of_members-member : (k : List ℕ) (j : json.Json) (d : Data) (old : Members) → of_json j ≡ Some d → (o : Option (json.Members × List Token))
    → converted (λ js. of_members js old) (parse_map (json.member k j) o) ≡ converted (λ js. of_members js (put k d old)) o
of_members-member k j d old is None = refl
of_members-member k j d old is (Some p) = rw is refl

-- a member is put beside those before it
pub members-turn : (depth k : ℕ) (ts s r : List Token) (name : List ℕ) (d : Data) (old : Members) → 0 < k → read_key ts ≡ Some (Some name, s)
    → converted of_json (value depth s) ≡ Some (d, r)
    → converted (λ js. of_members js old) (members (value depth) k ts) ≡ converted (λ js. of_members js (put name d old)) (members (value depth) (k - 1) r)
members-turn depth k ts s r name d old some named read =
    let j = converted-some of_json (value depth s) d r read in
    ap (converted (λ js. of_members js old)) (members_more (value depth) k name ts s r j.0 some named j.1) ∙ of_members-member name j.0 d old j.2 _

-- the brace that closes an object ends its members
pub members-over : (depth k : ℕ) (ts r : List Token) (old : Members) → length ts ≤ k → read_key ts ≡ Some (None, r)
    → converted (λ js. of_members js old) (members (value depth) k ts) ≡ Some (old, r)
members-over depth k ts r old enough over = ap (converted (λ js. of_members js old)) (members_end (value depth) k ts r enough over)

-- the only member of an object
pub member-read : (ts r : List Token) (name : List ℕ) (d : Data) → Reads 125 ts d (Token.end_object ∷ r) → length r < length ts
    → ReadsMembers 125 (Token.key name ∷ ts) (member name d no_members) r
member-read ts r name d read shorter =
    members-turn 125 (length (Token.key name ∷ ts)) (Token.key name ∷ ts) ts (Token.end_object ∷ r) name d no_members (omega arith) refl read
    ∙ members-over 125 (length (Token.key name ∷ ts) - 1) (Token.end_object ∷ r) r (member name d no_members) (omega (arith, shorter)) refl

-- a list of numbers
pub list-read : (ts list_left r : List Token) (ns : List ℤ) → ts ≡ Token.begin_array ∷ list_left
    → converted numbers_in (items (value 124) (length list_left) list_left) ≡ Some (ns, r)
    → (ds : Items) × (converted of_json (value 125 ts) ≡ Some (array ds, r)) × (whole_numbers ds ≡ Some ns)
list-read ts list_left r ns first read =
    let js = converted-some numbers_in (items (value 124) (length list_left) list_left) ns r read in
    let is = numbers-items js.0 ns js.2 in
    let all : converted of_items (items (value 124) (length list_left) list_left) ≡ Some (is.0, r) = ap (converted of_items) js.1 ∙ rw is.1 in
    (is.0, value-list 125 ts list_left (omega arith) first ∙ ap (parse_map array) all, is.2)

list-members-after : (refusal : Option ℕ) (ts left r : List Token) (ds : Items) → Reads 125 ts (array ds) left → length left < length ts
    → EndsList refusal left r
    → (ms : Members) × ReadsMembers 125 (Token.key (codes "list") ∷ ts) ms r × ((version : Version) → source_of version (object ms)
    ≡ list_source refusal (array ds))
list-members-after None ts left r ds read shorter over =
    let fewer : length left ≡ suc (length r) = ap length over in (
      member (codes "list") (array ds) no_members,
      member-read ts r (codes "list") (array ds) (read ∙ ap (λ rest. Some (array ds, rest)) over)
          (omega (arith, shorter, fewer)),
      λ version. list-alone version (array ds),
    )
list-members-after (Some code) ts left r ds read shorter over =
    let s = over.0 in
    let n = over.1 in
    let listed = member (codes "list") (array ds) no_members in
    let after = Token.number s ∷ Token.end_object ∷ r in
    let fewer : length left ≡ suc (suc (suc (length r))) = ap length over.2 in
    let all = length (Token.key (codes "list") ∷ ts) in (
      member (codes "list") (array ds) (member (codes "refuse") (number n) no_members),
      members-turn 125 all (Token.key (codes "list") ∷ ts) ts left (codes "list") (array ds) no_members (omega arith) refl read
          ∙ members-turn 125 (all - 1) left after (Token.end_object ∷ r) (codes "refuse") (number n) listed (omega (arith, shorter)) (ap read_key over.2)
          (value-number 125 after (Token.end_object ∷ r) s n refl over.3)
          ∙ members-over 125 (all - 1 - 1) (Token.end_object ∷ r) r (put (codes "refuse") (number n) listed) (omega (arith, shorter, fewer)) refl,
      λ version. list-refusing version (array ds) (number n) code over.4,
    )

-- a list's numbers, and how it ends, as the members of a source
pub list-members : (refusal : Option ℕ) (ts left r : List Token) (ds : Items) (ns : List ℤ) → Reads 125 ts (array ds) left → length left < length ts
    → EndsList refusal left r → whole_numbers ds ≡ Some ns → length ns ≤ 2 ^ 40
    → (ms : Members) × ReadsMembers 125 (Token.key (codes "list") ∷ ts) ms r × ((version : Version) → source_of version (object ms)
    ≡ Ok (ended_trace ns (list_ending refusal)))
list-members refusal ts left r ds ns read shorter over is few =
    let found = list-members-after refusal ts left r ds read shorter over in
    (found.0, found.1, λ version. found.2 version ∙ list_source-numbers refusal ds ns is few)

-- a source that was read after its first name, as the object that has it
pub made-source : (ts name_left left r : List Token) (name : List ℕ) (source : Option PlainSource) → ts ≡ Token.begin_object ∷ name_left
    → name_left ≡ Token.key name ∷ left
    → IfSome source (λ s. (ms : Members) × ReadsMembers 125 (Token.key name ∷ left) ms r × IsSourceOf s (object ms))
    → IfSome source (λ s. (d : Data) × Reads 126 ts d r × IsSourceOf s d)
made-source ts name_left left r name None first second found = tt
made-source ts name_left left r name (Some s) first second found =
    let whole : ts ≡ Token.begin_object ∷ Token.key name ∷ left = first ∙ ap (λ rest. Token.begin_object ∷ rest) second in
    (object found.0, value-object 126 ts (Token.key name ∷ left) (omega arith) whole ∙ ap (parse_map object) found.1, found.2)
