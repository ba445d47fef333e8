-- What the words of a command line ask for, from what `clap` found in them.
use Rattle.std.proofs.Common.{◌≡◌, ◌∙◌, ℕ, ◌≤◌, ◌<◌, List, [], ◌∷◌, Bool, true, false, Option, Some, None, Result, Ok, Err, is_some, map, refl, sym}
use Rattle.std.proofs.Common.{ap, ap₂, subst, codes, inl, inr, arith}
use Rattle.std.specs.Borrow.{Bor}
use Rattle.std.specs.Prelude.{MatchResult, option_map, option_and_then, find, nat_le, if◌then◌else◌, not, ◌&&◌}
use Rattle.std.specs.List.{list_all}
use Rattle.std.specs.Str.Parse.{ParsesUnsigned, digits_value, without_leading_plus}
use Rattle.clap.specs.Words.{AddsSubcommand, App, HasKind, HasMatchesOf, IsAmong, Row, Shape, Text, app_of, fault_of, first_value, found_of}
use Rattle.clap.specs.Words.{is_simple_and_free, is_simple, kind_of, one_text, rows_of, ReadsOne, subcommand_of, subcommand_rows_of, with_subcommand}
use Rattle.clap.specs.Kinds.{Kinds, check_kinds, or_else}
use Rattle.clap.specs.Simple.{argument_words, built, rows_at, entered, label_of, names_of}
use Rattle.clap.specs.Walk.{Held, Names, answers_to, finished, nothing_held, settled, stop_after, walk, walk_from}
use Rattle.clap.specs.Faults.{check_fault, defaults_fault, entered_fault, level_fault, settle_fault, walk_fault}
use Rattle.clap.specs.ValueTests.{is_unsigned_in}
use Rattle.clap.specs.declared.builder.value_parser.ValueParser.{ValueParser}
use Rattle.clap.specs.declared.builder.value_parser.ValueParser.TheVariants as parser
use Rattle.clap.specs.declared.builder.command.Command.{Command as ClapCommand}
use Rattle.clap.specs.declared.error.Error.{Error}
use Rattle.clap.specs.declared.error.kind.ErrorKind.{ErrorKind}
use Rattle.clap.specs.declared.error.kind.ErrorKind.TheVariants.{OutOfMemory, ValueValidation}
use Rattle.clap.specs.declared.parser.matches.ArgMatches.{ArgMatches}
use Rattle.clap.proofs.WalkLemmas.{both, first_value-rows, one_text-rows}
use Rattle.clap.proofs.ValueTestLemmas.{accepts-Accepts, Accepts-accepts}
use Rattle.plinq_words.specs.Tables.{beside}
use Rattle.plinq_ops.specs.MergeWords.{merge_named}
use Rattle.plinq_settings.specs.Degrees.{degree_of}
use Rattle.plinq_ops.specs.Query.{is_degree}
use Rattle.std.proofs.lemmas.Bool.{le-leb}
use Rattle.std.proofs.lemmas.Bool.Decides.{nat_tests}
use Rattle.plinq_arguments.specs.Arguments.{AddsItsShape, IsAsked, IsAskedBy, IsAuto, IsRefusedBy, Refuses, RefusesBy, TakesOnly}
use Rattle.plinq_arguments.specs.Arguments.{numbers, arguments_in, arguments_of, arguments_with, command_names}
use Rattle.plinq_arguments.specs.Arguments.{auto_words, cores_of, flag_words, plain_of}
use Rattle.plinq_arguments.specs.Arguments.{kinds_of, cancel_in, cancel_of, merge_of, merge_words, plinq_app, with_command, workers_in, workers_of}
use Rattle.plinq_arguments.specs.declared.arguments.Arguments.{Arguments}

-- the program's command line is one of which `clap` reports the matches and the faults
pub is_plain : (w q : ValueParser) → is_simple_and_free (plinq_app w q) ≡ true
is_plain w q = refl

pub is_simple_line : (w q : ValueParser) → is_simple (plinq_app w q) ≡ true
is_simple_line w q = refl

-- the merge option of the text that was found
pub merge_read : (m : ArgMatches) (o : Option Text) → o ≡ first_value (found_of m) (codes "merge")
    → option_and_then merge_named o ≡ merge_of (rows_of (found_of m))
merge_read m o is = ap (option_and_then merge_named) (is ∙ first_value-rows (found_of m) (codes "merge"))

-- whether as many workers as cores are asked for, and elements alone
pub cores_read : (m : ArgMatches) (o : Option Text) → o ≡ first_value (found_of m) (codes "workers")
    → option_and_then (beside auto_words) o ≡ cores_of (rows_of (found_of m))
cores_read m o is = ap (option_and_then (beside auto_words)) (is ∙ first_value-rows (found_of m) (codes "workers"))

pub plain_read : (m : ArgMatches) (o : Option Text) → o ≡ first_value (found_of m) (codes "plain")
    → option_and_then (beside flag_words) o ≡ plain_of (rows_of (found_of m))
plain_read m o is = ap (option_and_then (beside flag_words)) (is ∙ first_value-rows (found_of m) (codes "plain"))

text_read : (m : ArgMatches) (o : Option Text) → one_text (found_of m) (codes "workers") ≡ o → workers_of (rows_of (found_of m)) ≡ option_and_then workers_in o
text_read m o is = ap (option_and_then workers_in) (sym (one_text-rows (found_of m) (codes "workers")) ∙ is)

in_range : (E : Type 0) (t : Text) (n : ℕ) → ParsesUnsigned {E = E} 64 10 t (Ok n) → 1 ≤ n → n ≤ 64 → workers_in t ≡ Some n
in_range E t n h low high =
    let value : digits_value 10 (without_leading_plus t) ≡ n = sym h.1 in
    let accepted : is_unsigned_in 1 64 t ≡ true = Accepts-accepts false (parser.Unsigned 1 64) t (h.0.0, h.0.1, rw value low, rw value high) in
    rw (accepted, value) refl

out_of_range : (E : Type 0) (t : Text) (n : ℕ) → ParsesUnsigned {E = E} 64 10 t (Ok n) → (1 ≤ n → n ≤ 64 → ⊥) → workers_in t ≡ None
out_of_range E t n h not_in = go (is_unsigned_in 1 64 t) refl
  where
    go : (b : Bool) → is_unsigned_in 1 64 t ≡ b → (if b then Some (digits_value 10 (without_leading_plus t)) else None) ≡ None
    go true e =
        let a = accepts-Accepts false (parser.Unsigned 1 64) t e in
        absurd (not_in (rw h.1 a.2) (rw h.1 a.3))
    go false e = refl

no_number : (E : Type 0) (t : Text) (e : E) → ParsesUnsigned {E = E} 64 10 t (Err e) → workers_in t ≡ None
no_number E t e h = go (is_unsigned_in 1 64 t) refl
  where
    go : (b : Bool) → is_unsigned_in 1 64 t ≡ b → (if b then Some (digits_value 10 (without_leading_plus t)) else None) ≡ None
    go true is =
        let a = accepts-Accepts false (parser.Unsigned 1 64) t is in
        absurd (h (a.0, a.1))
    go false is = refl

-- a number that was read is the degree, if it is one
parsed : (E : Type 0) (t : Text) (n : ℕ) → ParsesUnsigned {E = E} 64 10 t (Ok n) → workers_in t ≡ degree_of n
parsed E t n h = go (is_degree n) refl
  where
    go : (b : Bool) → is_degree n ≡ b → workers_in t ≡ (if b then Some n else None)
    go true e =
        let low : 1 ≤ n = grind (arith, nat_tests) in
        let high : n ≤ 64 = grind (arith, nat_tests) in
        in_range E t n h low high
    go false e = out_of_range E t n h (λ low high. grind (arith, nat_tests))

read_one : (E : Type 0) (G : Text → Result ℕ E → Type 0) (t : Text) (r : Option ℕ) → ((x : Result ℕ E) → G t x → ParsesUnsigned 64 10 t x)
    → ReadsOne G t r → workers_in t ≡ option_and_then degree_of r
read_one E G t None parses h = no_number E t h.0 (parses (Err h.0) h.1)
read_one E G t (Some n) parses h = parsed E t n (parses (Ok n) h)

-- the degree that is asked for, from what was read
pub workers_read : (m : ArgMatches) (E : Type 0) (G : Text → Result ℕ E → Type 0) (r : Option ℕ)
    → ((t : Text) (x : Result ℕ E) → G t x → ParsesUnsigned 64 10 t x)
    → (one_text (found_of m) (codes "workers") ≡ None → r ≡ None)
    → ((t : Text) → one_text (found_of m) (codes "workers") ≡ Some t → ReadsOne G t r)
    → workers_of (rows_of (found_of m)) ≡ option_and_then degree_of r
workers_read m E G r parses none value = go (one_text (found_of m) (codes "workers")) refl
  where
    go : (o : Option Text) → one_text (found_of m) (codes "workers") ≡ o → workers_of (rows_of (found_of m)) ≡ option_and_then degree_of r
    go None e = text_read m None e ∙ sym (ap (option_and_then degree_of) (none e))
    go (Some t) e = text_read m (Some t) e ∙ read_one E G t r (parses t) (value t e)

-- a command that is plain has no global argument
pub third-false : (a b c d : Bool) → (a && (not b && (not c && d))) ≡ true → c ≡ false
third-false a b false d is = refl
third-false true true true d is = cc
third-false true false true d is = cc
third-false false b true d is = cc

-- ---- the number of batches

-- a number of batches after which a run can be cancelled
abbrev pub few_batches : ℕ → Option ℕ
few_batches n = if nat_le n 4294967295 then Some n else None

pub few-some : (n : ℕ) → n ≤ 4294967295 → few_batches n ≡ Some n
few-some n few = rw (le-leb n 4294967295 few) refl

pub few-none : (n : ℕ) → 4294967295 < n → few_batches n ≡ None
few-none n many = go (nat_le n 4294967295) refl
  where
    go : (b : Bool) → nat_le n 4294967295 ≡ b → (if b then Some n else None) ≡ None
    go true e = let few : n ≤ 4294967295 = grind (arith, nat_tests) in absurd (omega (arith, few, many))
    go false e = refl

cancel_in_range : (E : Type 0) (t : Text) (n : ℕ) → ParsesUnsigned {E = E} 64 10 t (Ok n) → n ≤ 4294967295 → cancel_in t ≡ Some n
cancel_in_range E t n h high =
    let value : digits_value 10 (without_leading_plus t) ≡ n = sym h.1 in
    let low : 0 ≤ n = omega arith in
    let accepted : is_unsigned_in 0 4294967295 t ≡ true = Accepts-accepts false (parser.Unsigned 0 4294967295) t (h.0.0, h.0.1, rw value low, rw value high) in
    rw (accepted, value) refl

cancel_out_of_range : (E : Type 0) (t : Text) (n : ℕ) → ParsesUnsigned {E = E} 64 10 t (Ok n) → (n ≤ 4294967295 → ⊥) → cancel_in t ≡ None
cancel_out_of_range E t n h not_in = go (is_unsigned_in 0 4294967295 t) refl
  where
    go : (b : Bool) → is_unsigned_in 0 4294967295 t ≡ b → (if b then Some (digits_value 10 (without_leading_plus t)) else None) ≡ None
    go true e = let a = accepts-Accepts false (parser.Unsigned 0 4294967295) t e in absurd (not_in (rw h.1 a.3))
    go false e = refl

cancel_no_number : (E : Type 0) (t : Text) (e : E) → ParsesUnsigned {E = E} 64 10 t (Err e) → cancel_in t ≡ None
cancel_no_number E t e h = go (is_unsigned_in 0 4294967295 t) refl
  where
    go : (b : Bool) → is_unsigned_in 0 4294967295 t ≡ b → (if b then Some (digits_value 10 (without_leading_plus t)) else None) ≡ None
    go true is = let a = accepts-Accepts false (parser.Unsigned 0 4294967295) t is in absurd (h (a.0, a.1))
    go false is = refl

cancel_parsed : (E : Type 0) (t : Text) (n : ℕ) → ParsesUnsigned {E = E} 64 10 t (Ok n) → cancel_in t ≡ few_batches n
cancel_parsed E t n h = go (nat_le n 4294967295) refl
  where
    go : (b : Bool) → nat_le n 4294967295 ≡ b → cancel_in t ≡ (if b then Some n else None)
    go true e = let high : n ≤ 4294967295 = grind (arith, nat_tests) in cancel_in_range E t n h high
    go false e = cancel_out_of_range E t n h (λ high. grind (arith, nat_tests))

cancel_read_one : (E : Type 0) (G : Text → Result ℕ E → Type 0) (t : Text) (r : Option ℕ) → ((x : Result ℕ E) → G t x → ParsesUnsigned 64 10 t x)
    → ReadsOne G t r → cancel_in t ≡ option_and_then few_batches r
cancel_read_one E G t None parses h = cancel_no_number E t h.0 (parses (Err h.0) h.1)
cancel_read_one E G t (Some n) parses h = cancel_parsed E t n (parses (Ok n) h)

cancel_text_read : (m : ArgMatches) (o : Option Text) → one_text (found_of m) (codes "cancel-after") ≡ o
    → cancel_of (rows_of (found_of m)) ≡ option_and_then cancel_in o
cancel_text_read m o is = ap (option_and_then cancel_in) (sym (one_text-rows (found_of m) (codes "cancel-after")) ∙ is)

-- the number that is asked for, from what was read
pub cancel_read : (m : ArgMatches) (E : Type 0) (G : Text → Result ℕ E → Type 0) (r : Option ℕ)
    → ((t : Text) (x : Result ℕ E) → G t x → ParsesUnsigned 64 10 t x)
    → (one_text (found_of m) (codes "cancel-after") ≡ None → r ≡ None)
    → ((t : Text) → one_text (found_of m) (codes "cancel-after") ≡ Some t → ReadsOne G t r)
    → cancel_of (rows_of (found_of m)) ≡ option_and_then few_batches r
cancel_read m E G r parses none value = go (one_text (found_of m) (codes "cancel-after")) refl
  where
    go : (o : Option Text) → one_text (found_of m) (codes "cancel-after") ≡ o → cancel_of (rows_of (found_of m)) ≡ option_and_then few_batches r
    go None e = cancel_text_read m None e ∙ sym (ap (option_and_then few_batches) (none e))
    go (Some t) e = cancel_text_read m (Some t) e ∙ cancel_read_one E G t r (parses t) (value t e)

-- ---- where `clap` takes the words, they ask for something

last_empty : (a b : Kinds) → or_else a b ≡ [] → b ≡ []
last_empty [] b e = e
last_empty (k ∷ ks) b e = cc

wants_subcommand : (help needed wants : Bool) → needed ≡ true → check_kinds help needed wants ≡ [] → false ≡ true
wants_subcommand true needed wants is e = cc
wants_subcommand false true wants is e = cc
wants_subcommand false false wants is e = is

has_subcommand : (s : Shape) (rows : List Row) (has : Bool) → s.subcommand_required ≡ true → check_fault s rows has ≡ [] → has ≡ true
has_subcommand s rows true needed e = refl
has_subcommand s rows false needed e = wants_subcommand _ s.subcommand_required _ needed e

map_some : {A B : Type 0} (f : A → B) (o : Option A) → is_some o ≡ true → is_some (option_map f o) ≡ true
map_some f None is = is
map_some f (Some x) is = refl

abbrev has_name : Shape → Bool
has_name s = is_some (beside (command_names []) s.name)

abbrev Named : Option Shape → List Text → Type 0
Named found words = is_some (option_map (λ s. rows_at s words) found) ≡ true
    → is_some (option_and_then arguments_in (option_map (λ s. rows_at s words) found)) ≡ true

named_here : (s : Shape) (words : List Text) → has_name s ≡ true → Named (Some s) words
named_here s words known is = map_some (arguments_with (rows_at s words).1) (beside (command_names []) s.name) known

named : (subs : List Shape) (p : Shape → Bool) (words : List Text) → list_all has_name subs ≡ true → Named (find p subs) words
named [] p words all = λ is. is
named (s ∷ subs) p words all = go (p s) (named_here s words (both _ _ all).0) (named subs p words (both _ _ all).1)
  where
    go : (b : Bool) → Named (Some s) words → Named (find p subs) words → Named (if b then Some s else find p subs) words
    go true here rest = here
    go false here rest = rest

entered_named : (w q : ValueParser) (stop : Option (Text × List Text)) → is_some (entered (built (plinq_app w q)) stop) ≡ true
    → is_some (option_and_then arguments_in (entered (built (plinq_app w q)) stop)) ≡ true
entered_named w q None is = is
entered_named w q (Some met) is = named (built (plinq_app w q)).subs (λ s. answers_to met.0 (label_of s)) met.1 refl is

level_enters : (s : Shape) (names : Names) (h : Held) (words : List Text) (has : Bool) (below : Kinds) → s.subcommand_required ≡ true
    → level_fault s names h words has below ≡ [] → has ≡ true
level_enters s names h words has below needed none =
    let end = (walk s.rules names h words).held in
    let checks = check_fault s (finished s.rules end) has in
    let defaults = defaults_fault (settled s.rules end).rows s.rules in
    let settling = settle_fault s.rules s.args_override_self end in
    let after_walk : or_else below (or_else settling (or_else defaults checks)) ≡ [] =
    last_empty (walk_fault s names (walk_from h) words) (or_else below (or_else settling (or_else defaults checks))) none in
    let after_level : or_else settling (or_else defaults checks) ≡ [] = last_empty below (or_else settling (or_else defaults checks)) after_walk in
    let after_settling : or_else defaults checks ≡ [] = last_empty settling (or_else defaults checks) after_level in
    has_subcommand s (finished s.rules end) has needed (last_empty defaults checks after_settling)

pub asks : (w q : ValueParser) (words : List Text) → kinds_of w q words ≡ [] → is_some (arguments_of w q words) ≡ true
asks w q words none =
    let app = built (plinq_app w q) in
    let stop = stop_after app.top.rules (names_of app) (argument_words (plinq_app w q) words) in
    entered_named w q stop
    (level_enters app.top (names_of app) nothing_held (argument_words (plinq_app w q) words) (is_some (entered app stop)) (entered_fault app stop) refl none)

-- ---- the program's command line

-- just these words are taken
pub takes_only : (texts : List Text) (q : ValueParser) (names : Bor (List (Bor (List ℕ)))) → q ≡ parser.Names names
    → map (λ name. name.now) names.now ≡ texts → TakesOnly texts q
takes_only texts q names is words = subst (TakesOnly texts) (sym is) words

-- one more subcommand
pub added : (old sub new : ClapCommand) (app sub_app : App) → AddsItsShape sub × (app_of sub ≡ sub_app) → AddsSubcommand old sub new → app_of old ≡ app
    → app_of new ≡ with_command app sub_app
added old sub new app sub_app has adds was = has.0 old new adds ∙ ap₂ with_subcommand was (ap (λ (a : App). a.top) has.1)

-- ---- the words, from a parse that succeeds and from one that fails

-- what the subcommand asks for is what the words ask for
pub asked : (w q : ValueParser) (app : App) (words : List Text) (m : ArgMatches) (r : Option Arguments) → app ≡ plinq_app w q → HasMatchesOf app words m
    → r ≡ option_and_then arguments_in (subcommand_rows_of m) → arguments_of w q words ≡ r
asked w q app words m r is has chosen =
    sym (ap (λ (a : App). option_and_then arguments_in (subcommand_of a words)) is)
    ∙ (ap (option_and_then arguments_in) (sym (has (ap is_simple is ∙ is_simple_line w q)).1) ∙ sym chosen)

-- no fault in the words
pub no_fault : (w q : ValueParser) (app : App) (words : List Text) → app ≡ plinq_app w q → (is_simple_and_free app ≡ true → fault_of app words ≡ [])
    → kinds_of w q words ≡ []
no_fault w q app words is none = sym (ap (λ (a : App). fault_of a words) is) ∙ none (ap is_simple_and_free is ∙ is_plain w q)

-- words without a fault ask for something
pub never_nothing : (w q : ValueParser) (words : List Text) (r : Option Arguments) → arguments_of w q words ≡ r → r ≡ None → kinds_of w q words ≡ [] → ⊥
never_nothing w q words r is nothing none =
    let bad : false ≡ true = sym (ap is_some (is ∙ nothing)) ∙ asks w q words none in
    cc

-- an error of the parse
pub refused : (w q : ValueParser) (app : App) (words : List Text) (r : Result Arguments Error) (x e : Error) → TakesOnly merge_words q → app ≡ plinq_app w q
    → (is_simple_and_free app ≡ true → HasKind (fault_of app words) e) → r ≡ Err x → x ≡ e
    → MatchResult r (IsAskedBy w words) (λ f. RefusesBy w words (kind_of f))
refused w q app words r x e takes is fails err from =
    subst (λ (y : Result Arguments Error). MatchResult y (IsAskedBy w words) (λ f. RefusesBy w words (kind_of f))) (sym (err ∙ ap Err from))
    (go (fails (ap is_simple_and_free is ∙ is_plain w q)))
  where
    go : HasKind (fault_of app words) e → RefusesBy w words (kind_of e)
    go h = elim h [
      | inl memory ↦ inl memory
      | inr among ↦ inr (q, takes, subst (λ (a : App). IsAmong (kind_of e) (fault_of a words)) is among)
    ]

-- ---- a number of workers, or the word in its place

-- memory isn't a value
no_memory : (kind : ErrorKind) → kind ≡ ValueValidation → kind ≡ OutOfMemory → ⊥
no_memory kind value memory = let bad : ValueValidation ≡ OutOfMemory = sym value ∙ memory in cc

-- words that are refused, unless memory ran out
refused_so : (w : ValueParser) (words : List Text) (kind : ErrorKind) → RefusesBy w words kind → (kind ≡ OutOfMemory → ⊥) → IsRefusedBy w words kind
refused_so w words kind (inl memory) none = absurd (none memory)
refused_so w words kind (inr refusal) none = refusal

-- they are refused for a value of theirs
refused_value : (w : ValueParser) (words : List Text) (kind : ErrorKind) → w ≡ numbers → RefusesBy w words kind → kind ≡ ValueValidation
    → IsRefusedBy numbers words kind
refused_value w words kind is refuses value =
    refused_so numbers words kind (subst (λ x. RefusesBy x words kind) is refuses) (no_memory kind value)

pub asked_number : (w : ValueParser) (words : List Text) (arguments : Arguments) → w ≡ numbers → IsAskedBy w words arguments → IsAsked words arguments
asked_number w words arguments is taken = inl (subst (λ x. IsAskedBy x words arguments) is taken)

pub refused_otherwise : (w : ValueParser) (words : List Text) (kind : ErrorKind) → w ≡ numbers → RefusesBy w words kind → (kind ≡ ValueValidation → ⊥)
    → Refuses words kind
refused_otherwise w words kind is refuses other = go (subst (λ x. RefusesBy x words kind) is refuses)
  where
    go : RefusesBy numbers words kind → Refuses words kind
    go (inl memory) = inl memory
    go (inr refusal) = inr (refusal, λ value. absurd (other value))

pub asked_word : (w v : ValueParser) (words : List Text) (kind : ErrorKind) (arguments : Arguments) → w ≡ numbers → RefusesBy w words kind
    → kind ≡ ValueValidation → IsAuto v → IsAskedBy v words arguments → IsAsked words arguments
asked_word w v words kind arguments is refuses value auto taken =
    inr (subst (IsRefusedBy numbers words) value (refused_value w words kind is refuses value), (v, auto, taken))

pub refused_word : (w v : ValueParser) (words : List Text) (kind other : ErrorKind) → w ≡ numbers → RefusesBy w words kind → kind ≡ ValueValidation
    → IsAuto v → RefusesBy v words other → (other ≡ OutOfMemory → ⊥) → Refuses words kind
refused_word w v words kind other is refuses value auto again none =
    inr (refused_value w words kind is refuses value, λ same. (v, auto, other, refused_so v words other again none))
