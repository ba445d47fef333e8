-- Worked rows of lines, fields and steps.
use Rattle.std.specs.Prelude.{◌≡◌, refl, [], ◌∷◌, ◌++◌, None, Some, codes, true, false}
use Rattle.memchr.specs.Find.{first_of, matches_from}
use Rattle.plinq_text.specs.declared.line_step.LineStep.TheVariants.{Take, Skip}
use Rattle.plinq_text.specs.declared.line_step.Separator.TheVariants.{Blanks, Byte}
use Rattle.plinq_text.specs.Lines.{full_line, lines_of, is_whole}
use Rattle.plinq_text.specs.Fields.{column, fields, from_column, from_word, joined, rest, word}
use Rattle.plinq_text.specs.Steps.{answer, answer_text, contains, distinct, left, row_after}

two_lines : lines_of (codes "a\nb") ≡ full_line (codes "a") ∷ record { text = codes "b"; end = [] } ∷ []
unfolding lines_of
two_lines = refl

an_empty_line : lines_of (codes "\n\n") ≡ full_line [] ∷ full_line [] ∷ []
unfolding lines_of
an_empty_line = refl

a_carriage_return_stays : lines_of (codes "a\r\n") ≡ full_line (codes "a\r") ∷ []
unfolding lines_of
a_carriage_return_stays = refl

whole : is_whole (codes "a\nb\n") ≡ true
unfolding is_whole
whole = refl

not_whole : is_whole (codes "a\nb") ≡ false
unfolding is_whole
not_whole = refl

second_column : column 44 1 (codes "a,,c") ≡ []
unfolding column
second_column = refl

third_column : column 44 2 (codes "a,,c") ≡ codes "c"
unfolding column
third_column = refl

too_few_columns : column 44 3 (codes "a,,c") ≡ []
unfolding column
too_few_columns = refl

first_word : word 0 (codes " \tab c\r") ≡ codes "ab"
unfolding word
first_word = refl

last_word : word 1 (codes " \tab c\r") ≡ codes "c"
unfolding word
last_word = refl

too_few_words : word 2 (codes " ab c ") ≡ []
unfolding word
too_few_words = refl

found : contains (codes "kf") (codes "diskfull") ≡ true
unfolding matches_from first_of
found = refl

not_found : contains (codes "ks") (codes "diskfull") ≡ false
unfolding matches_from first_of
not_found = refl

fields_in_their_order : joined (Byte 44) (fields (Byte 44) (2 ∷ 0 ∷ []) (codes "a,b,c")) ≡ codes "c,a"
unfolding column
fields_in_their_order = refl

words_by_one_space : joined Blanks (fields Blanks (0 ∷ 1 ∷ 5 ∷ []) (codes "\tab  c")) ≡ codes "ab c "
unfolding word
words_by_one_space = refl

a_field_and_the_rest : joined (Byte 44) (fields (Byte 44) (0 ∷ []) (codes "a,b,c") ++ rest (Byte 44) (Some 1) (codes "a,b,c")) ≡ codes "a,b,c"
unfolding column from_column
a_field_and_the_rest = refl

the_rest_as_it_is : joined Blanks (rest Blanks (Some 1) (codes "a  b  c ")) ≡ codes "b  c "
unfolding from_word
the_rest_as_it_is = refl

no_rest : joined Blanks (rest Blanks (Some 3) (codes "a b")) ≡ []
unfolding from_word
no_rest = refl

all_but_the_first : answer_text (Skip 1 ∷ []) (codes "a\nb\nc") ≡ codes "b\nc"
unfolding lines_of answer
all_but_the_first = refl

each_line_once : distinct None [] (lines_of (codes "a\nb\na\n\nb\n\n")) ≡ lines_of (codes "a\nb\n\n")
unfolding lines_of distinct
each_line_once = refl

but_what_came_before : distinct None (codes "b" ∷ []) (lines_of (codes "a\nb\n")) ≡ lines_of (codes "a\n")
unfolding lines_of distinct
but_what_came_before = refl

two_of_three : answer_text (Take 2 ∷ []) (codes "a\nb\nc") ≡ codes "a\nb\n"
unfolding lines_of answer
two_of_three = refl

what_is_left : left (Skip 1 ∷ Take 2 ∷ []) (lines_of (codes "a\nb\n")) ≡ Skip 0 ∷ Take 1 ∷ []
unfolding lines_of left row_after
what_is_left = refl
