-- What the steps of a query make of lines.
use Rattle.std.specs.Prelude.{ℕ, zero, suc, ◌-◌, ◌==◌, nat_eq, ◌||◌, ◌&&◌, Bool, true, false, not, if◌then◌else◌, List, [], ◌∷◌, ◌++◌, take}
use Rattle.std.specs.Prelude.{drop, map, filter, Option, Some, None, is_some, option_map, option_and_then, string_bytes, ℤ, int_lt, ◌+◌, nat_lt, length}
use Rattle.std.specs.Ordering.{int_eq}
use Rattle.std.specs.List.{starts_with, ends_with, prefix_len, take_while, list_any}
use Rattle.std.specs.Str.{bytes_eq}
use Rattle.memchr.specs.Find.{first_of, matches}
use Rattle.plinq_text.specs.declared.line_step.Field.{Field}
use Rattle.plinq_text.specs.declared.line_step.Fields.{Fields}
use Rattle.plinq_text.specs.declared.line_step.LineStep.{LineStep}
use Rattle.plinq_text.specs.declared.line_step.LineStep.TheVariants.{Filter, Select, Take, Skip, TakeWhile, SkipWhile, Distinct, Check, Failed}
use Rattle.plinq_text.specs.declared.line_test.LineTest.{LineTest}
use Rattle.plinq_text.specs.declared.line_test.TestKind.{TestKind}
use Rattle.plinq_text.specs.declared.line_test.TestKind.TheVariants.{Contains, StartsWith, EndsWith, Is, Matches, IsNumber, Below, Above, Equal}
use Rattle.plinq_text.specs.declared.line_test.TestKind.TheVariants.{ShorterThan, LongerThan, HasLength}
use Rattle.plinq_text.specs.Fields.{field_of, fields_of}
use Rattle.plinq_text.specs.Numbers.{number_of}
use Rattle.plinq_text.specs.Patterns.{pattern_finds}
use Rattle.plinq_text.specs.Lines.{Line, lines_of, written}

-- whether these bytes stand somewhere in a text
abbrev pub contains : List ℕ → List ℕ → Bool
contains bytes text = is_some (first_of (matches text bytes 0))

-- whether there is a number that passes
abbrev pub number_passes : (ℤ → Bool) → Option ℤ → Bool
number_passes test None = false
number_passes test (Some x) = test x

-- whether bytes compare so with a text
abbrev pub compares : TestKind → List ℕ → List ℕ → Bool
compares Contains wanted bytes = contains wanted bytes
compares StartsWith wanted bytes = starts_with nat_eq bytes wanted
compares EndsWith wanted bytes = ends_with nat_eq bytes wanted
compares Is wanted bytes = bytes_eq bytes wanted
compares Matches pattern bytes = pattern_finds pattern bytes
compares IsNumber wanted bytes = is_some (number_of bytes)
compares (Below n) wanted bytes = number_passes (λ x. int_lt x n.billionths) (number_of bytes)
compares (Above n) wanted bytes = number_passes (λ x. int_lt n.billionths x) (number_of bytes)
compares (Equal n) wanted bytes = number_passes (λ x. int_eq x n.billionths) (number_of bytes)
compares (ShorterThan n) wanted bytes = nat_lt (length bytes) n
compares (LongerThan n) wanted bytes = nat_lt n (length bytes)
compares (HasLength n) wanted bytes = length bytes == n

-- what a test looks at: a field of a text, or all of it
abbrev pub subject : Option Field → List ℕ → List ℕ
subject None text = text
subject (Some f) text = field_of f text

-- whether a text passes a test
abbrev pub passes : LineTest → List ℕ → Bool
passes t text =
    let holds = compares t.kind (string_bytes t.text) (subject t.field text) in
    if t.negated then not holds else holds

-- what of a text must be new: fields of it, or all of it
abbrev pub key_of : Option Fields → List ℕ → List ℕ
key_of None text = text
key_of (Some f) text = fields_of f text

-- whether a text is among those that came before
abbrev pub has : List (List ℕ) → List ℕ → Bool
has seen text = list_any (bytes_eq text) seen

-- they, and this text
abbrev pub with_text_seen : List (List ℕ) → List ℕ → List (List ℕ)
with_text_seen seen text = if has seen text then seen else seen ++ text ∷ []

-- the lines whose keys didn't come before
unfoldable pub distinct : Option Fields → List (List ℕ) → List Line → List Line
distinct key seen [] = []
distinct key seen (l ∷ ls) =
    if has seen (key_of key l.text)
    then distinct key seen ls
    else l ∷ distinct key (seen ++ key_of key l.text ∷ []) ls

-- a line with another text
abbrev pub with_text : Line → List ℕ → Line
with_text l text = record { text = text; end = l.end }

-- what a step makes of lines
abbrev pub apply : LineStep → List Line → List Line
apply (Filter t) ls = filter (λ l. passes t l.text) ls
apply (Select f) ls = map (λ l. with_text l (fields_of f l.text)) ls
apply (Take n) ls = take n ls
apply (Skip n) ls = drop n ls
apply (TakeWhile t) ls = take_while (λ l. passes t l.text) ls
apply (SkipWhile t) ls = drop (prefix_len (λ l. passes t l.text) ls) ls
apply (Distinct k) ls = distinct k.key k.seen ls
apply (Check t) ls = take_while (λ l. passes t l.text) ls
apply Failed ls = []

-- what steps make of lines, one after another
unfoldable pub answer : List LineStep → List Line → List Line
answer [] ls = ls
answer (s ∷ ss) ls = answer ss (apply s ls)

-- what is written of a text
abbrev pub answer_text : List LineStep → List ℕ → List ℕ
answer_text ss text = written (answer ss (lines_of text))

-- what a step makes of the text of one line, if the line passes
abbrev pub does : LineStep → List ℕ → Option (List ℕ)
does (Filter t) text = if passes t text then Some text else None
does (Select f) text = Some (fields_of f text)
does (Take zero) text = None
does (Take (suc n)) text = Some text
does (Skip zero) text = Some text
does (Skip (suc n)) text = None
does (TakeWhile t) text = if passes t text then Some text else None
does (SkipWhile t) text = if passes t text then None else Some text
does (Distinct k) text = if has k.seen (key_of k.key text) then None else Some text
does (Check t) text = if passes t text then Some text else None
does Failed text = None

-- what is left of a step once a line of this text came to it
abbrev pub after_one : LineStep → List ℕ → LineStep
after_one (Filter t) text = Filter t
after_one (Select f) text = Select f
after_one (Take n) text = Take (n - 1)
after_one (Skip n) text = Skip (n - 1)
after_one (TakeWhile t) text = if passes t text then TakeWhile t else Take 0
after_one (SkipWhile t) text = if passes t text then SkipWhile t else Skip 0
after_one (Distinct k) text = Distinct (record { key = k.key; seen = with_text_seen k.seen (key_of k.key text) })
after_one (Check t) text = if passes t text then Check t else Failed
after_one Failed text = Failed

-- what a row of steps makes of the text of one line, if the line passes
unfoldable pub row_does : List LineStep → List ℕ → Option (List ℕ)
row_does [] text = Some text
row_does (s ∷ ss) text = option_and_then (row_does ss) (does s text)

-- what is left of a row of steps once a line came to it
abbrev pub later : List LineStep → (List ℕ → List LineStep) → Option (List ℕ) → List LineStep
later ss after None = ss
later ss after (Some text) = after text

unfoldable pub row_after : List LineStep → List ℕ → List LineStep
row_after [] text = []
row_after (s ∷ ss) text = after_one s text ∷ later ss (row_after ss) (does s text)

-- what is left of a row of steps after lines
unfoldable pub left : List LineStep → List Line → List LineStep
left ss [] = ss
left ss (l ∷ ls) = left (row_after ss l.text) ls

-- what becomes of a line whose text becomes this, if anything
abbrev pub made_line : (List ℕ → Option (List ℕ)) → Line → Option Line
made_line f l = option_map (with_text l) (f l.text)

-- whether a step is a Take that has nothing left to take, or a check that a line failed
abbrev pub takes_none : LineStep → Bool
takes_none (Take n) = n == 0
takes_none (Filter t) = false
takes_none (Select f) = false
takes_none (Skip n) = false
takes_none (TakeWhile t) = false
takes_none (SkipWhile t) = false
takes_none (Distinct k) = false
takes_none (Check t) = false
takes_none Failed = true

-- whether no line more can come out of these steps
abbrev pub is_over : List LineStep → Bool
is_over [] = false
is_over (s ∷ ss) = takes_none s || is_over ss

-- whether a step is a check that a line failed
abbrev pub is_failed : LineStep → Bool
is_failed (Filter t) = false
is_failed (Select f) = false
is_failed (Take n) = false
is_failed (Skip n) = false
is_failed (TakeWhile t) = false
is_failed (SkipWhile t) = false
is_failed (Distinct k) = false
is_failed (Check t) = false
is_failed Failed = true

-- whether a line failed a check while a line could still come out of the steps after it
abbrev pub has_failed : List LineStep → Bool
has_failed [] = false
has_failed (s ∷ ss) = (is_failed s && not (is_over ss)) || has_failed ss

-- how many lines come before the first that fails a check, if one does
unfoldable pub bad_line : List LineStep → List Line → Option ℕ
bad_line ss [] = None
bad_line ss (l ∷ ls) = if has_failed (row_after ss l.text) then Some 0 else option_map (λ n. n + 1) (bad_line (row_after ss l.text) ls)

-- a line's text and what ends it, if there is a text
abbrev pub bytes_of : Option (List ℕ) → List ℕ → List ℕ
bytes_of None end = []
bytes_of (Some text) end = text ++ end
