-- What steps make of lines, line by line and part by part.
use Rattle.std.proofs.Common.{◌≡◌, ℕ, zero, suc, ◌+◌, ◌-◌, ◌==◌, ◌||◌, Bool, true, false, cond, List, [], ◌∷◌, ◌++◌, take, drop, filter, map}
use Rattle.std.proofs.Common.{Option, Some, None, option_map, refl, sym, ap, ◌∙◌, arith}
use Rattle.std.specs.List.{cons_option, prefix_len, take_while}
use Rattle.std.proofs.lemmas.List.Sums.{take_while-cons}
use Rattle.plinq_text.specs.declared.line_test.LineTest.{LineTest}
use Rattle.std.specs.Option.{option_and_then}
use Rattle.std.proofs.Math.Seq.{take-nil, drop-nil}
use Rattle.std.proofs.lemmas.Bool.{eqb-true}
use Rattle.plinq_text.specs.declared.line_step.LineStep.{LineStep}
use Rattle.plinq_text.specs.declared.line_step.LineStep.TheVariants.{Filter, Select, Take, Skip, TakeWhile, SkipWhile, Distinct, Check, Failed}
use Rattle.plinq_text.specs.declared.line_step.Fields.{Fields}
use Rattle.plinq_text.specs.Fields.{fields_of}
use Rattle.plinq_text.specs.Lines.{Line, AreFull, written}
use Rattle.plinq_text.specs.Steps.{distinct, has, key_of, with_text_seen}
use Rattle.plinq_text.specs.Steps.{passes, with_text, apply, answer, does, after_one, later, row_does, row_after, left, made_line, is_over, bytes_of}
use Rattle.plinq_text.proofs.FieldLaws.{is_text-fields}

kept-one : (b : Bool) (l : Line) (rest : List Line) → cond b (l ∷ rest) rest ≡ cons_option (option_map (with_text l) (cond b (Some l.text) None)) rest
kept-one true l rest = refl
kept-one false l rest = refl

taken-while : (b : Bool) (t : LineTest) (l : Line) (ls : List Line) → cond b (l ∷ take_while (λ m. passes t m.text) ls) []
    ≡ cons_option (option_map (with_text l) (cond b (Some l.text) None)) (apply (cond b (TakeWhile t) (Take 0)) ls)
taken-while true t l ls = refl
taken-while false t l ls = refl

checked : (b : Bool) (t : LineTest) (l : Line) (ls : List Line) → cond b (l ∷ take_while (λ m. passes t m.text) ls) []
    ≡ cons_option (option_map (with_text l) (cond b (Some l.text) None)) (apply (cond b (Check t) Failed) ls)
checked true t l ls = refl
checked false t l ls = refl

skipped-while : (b : Bool) (t : LineTest) (l : Line) (ls : List Line) → drop (cond b (1 + prefix_len (λ m. passes t m.text) ls) 0) (l ∷ ls)
    ≡ cons_option (option_map (with_text l) (cond b None (Some l.text))) (apply (cond b (SkipWhile t) (Skip 0)) ls)
skipped-while true t l ls =
    let on : 1 + prefix_len (λ m. passes t m.text) ls ≡ suc (prefix_len (λ m. passes t m.text) ls) = omega arith in ap (λ n. drop n (l ∷ ls)) on
skipped-while false t l ls = refl

distinct-nil : (key : Option Fields) (seen : List (List ℕ)) → distinct key seen [] ≡ []
unfolding distinct
distinct-nil key seen = refl

distinct-cons : (key : Option Fields) (seen : List (List ℕ)) (l : Line) (ls : List Line) → distinct key seen (l ∷ ls)
    ≡ cons_option (option_map (with_text l) (cond (has seen (key_of key l.text)) None (Some l.text)))
    (distinct key (with_text_seen seen (key_of key l.text)) ls)
unfolding distinct
distinct-cons key seen l ls = by (has seen (key_of key l.text))
  where
    by : (b : Bool) → cond b (distinct key seen ls) (l ∷ distinct key (seen ++ key_of key l.text ∷ []) ls)
        ≡ cons_option (option_map (with_text l) (cond b None (Some l.text))) (distinct key (cond b seen (seen ++ key_of key l.text ∷ [])) ls)
    by true = refl
    by false = refl

apply-cons : (s : LineStep) (l : Line) (ls : List Line) → apply s (l ∷ ls) ≡ cons_option (made_line (does s) l) (apply (after_one s l.text) ls)
apply-cons (Filter t) l ls = kept-one (passes t l.text) l (filter (λ m. passes t m.text) ls)
apply-cons (Select f) l ls = refl
apply-cons (Take zero) l ls = refl
apply-cons (Take (suc n)) l ls = let on : n ≡ suc n - 1 = omega arith in ap (λ m. l ∷ take m ls) on
apply-cons (Skip zero) l ls = refl
apply-cons (Skip (suc n)) l ls = let on : n ≡ suc n - 1 = omega arith in ap (λ m. drop m ls) on
apply-cons (TakeWhile t) l ls = take_while-cons (λ m. passes t m.text) l ls ∙ taken-while (passes t l.text) t l ls
apply-cons (SkipWhile t) l ls = skipped-while (passes t l.text) t l ls
apply-cons (Distinct k) l ls = distinct-cons k.key k.seen l ls
apply-cons (Check t) l ls = take_while-cons (λ m. passes t m.text) l ls ∙ checked (passes t l.text) t l ls
apply-cons Failed l ls = refl

apply-nil : (s : LineStep) → apply s [] ≡ []
apply-nil (Filter t) = refl
apply-nil (Select f) = refl
apply-nil (Take n) = take-nil n
apply-nil (Skip n) = drop-nil n
apply-nil (TakeWhile t) = refl
apply-nil (SkipWhile t) = refl
apply-nil (Distinct k) = distinct-nil k.key k.seen
apply-nil (Check t) = refl
apply-nil Failed = refl

pub answer-nil : (ss : List LineStep) → answer ss [] ≡ []
unfolding answer
answer-nil [] = refl
answer-nil (s ∷ ss) = ap (answer ss) (apply-nil s) ∙ answer-nil ss

-- the first line, and then the others
pub answer-cons : (ss : List LineStep) (l : Line) (ls : List Line) → answer ss (l ∷ ls) ≡ cons_option (made_line (row_does ss) l)
    (answer (row_after ss l.text) ls)
unfolding answer row_does row_after
answer-cons [] l ls = refl
answer-cons (s ∷ ss) l ls = ap (answer ss) (apply-cons s l ls) ∙ by (λ text. answer-cons ss (with_text l text) (apply (after_one s l.text) ls)) (does s l.text)
  where
    by : ((text : List ℕ) → answer ss (with_text l text ∷ apply (after_one s l.text) ls)
        ≡ cons_option (made_line (row_does ss) (with_text l text)) (answer (row_after ss text) (apply (after_one s l.text) ls))) → (o : Option (List ℕ))
        → answer ss (cons_option (option_map (with_text l) o) (apply (after_one s l.text) ls))
        ≡ cons_option (option_map (with_text l) (option_and_then (row_does ss) o)) (answer (after_one s l.text ∷ later ss (row_after ss) o) ls)
    by each None = refl
    by each (Some text) = each text

more : (o : Option Line) (xs ys : List Line) → cons_option o (xs ++ ys) ≡ cons_option o xs ++ ys
more None xs ys = refl
more (Some x) xs ys = refl

-- lines part by part: what is left of the steps goes on
pub answer-append : (ss : List LineStep) (a b : List Line) → answer ss (a ++ b) ≡ answer ss a ++ answer (left ss a) b
unfolding left
answer-append ss [] b = ap (λ xs. xs ++ answer ss b) (sym (answer-nil ss))
answer-append ss (l ∷ a) b =
    answer-cons ss l (a ++ b)
    ∙ ap (cons_option (made_line (row_does ss) l)) (answer-append (row_after ss l.text) a b)
    ∙ more (made_line (row_does ss) l) _ _
    ∙ ap (λ xs. xs ++ answer (left (row_after ss l.text) a) b) (sym (answer-cons ss l a))

pub left-append : (ss : List LineStep) (a b : List Line) → left ss (a ++ b) ≡ left (left ss a) b
unfolding left
left-append ss [] b = refl
left-append ss (l ∷ a) b = left-append (row_after ss l.text) a b

-- steps in two parts
pub answer-split : (w c : List LineStep) (ls : List Line) → answer (w ++ c) ls ≡ answer c (answer w ls)
unfolding answer
answer-split [] c ls = refl
answer-split (s ∷ w) c ls = answer-split w c (apply s ls)

-- once a Take has nothing left, nothing comes
pub answer-over : (ss : List LineStep) → is_over ss ≡ true → (ls : List Line) → answer ss ls ≡ []
unfolding answer
answer-over [] is ls = absurd (cc)
answer-over (Take n ∷ ss) is ls = by (λ rest. answer-over ss rest (take n ls)) (n == 0) refl is
  where
    by : (is_over ss ≡ true → answer ss (take n ls) ≡ []) → (b : Bool) → (n == 0) ≡ b → (b || is_over ss) ≡ true → answer ss (take n ls) ≡ []
    by over true none is = let zero_is : n ≡ 0 = eqb-true n 0 none in ap (λ m. answer ss (take m ls)) zero_is ∙ answer-nil ss
    by over false none is = over is
answer-over (Filter t ∷ ss) is ls = answer-over ss is (filter (λ l. passes t l.text) ls)
answer-over (Select f ∷ ss) is ls = answer-over ss is (map (λ l. with_text l (fields_of f l.text)) ls)
answer-over (Skip n ∷ ss) is ls = answer-over ss is (drop n ls)
answer-over (TakeWhile t ∷ ss) is ls = answer-over ss is (take_while (λ l. passes t l.text) ls)
answer-over (SkipWhile t ∷ ss) is ls = answer-over ss is (drop (prefix_len (λ l. passes t l.text) ls) ls)
answer-over (Distinct k ∷ ss) is ls = answer-over ss is (distinct k.key k.seen ls)
answer-over (Check t ∷ ss) is ls = answer-over ss is (take_while (λ l. passes t l.text) ls)
answer-over (Failed ∷ ss) is ls = answer-nil ss

-- full lines stay full
full-filter : (p : Line → Bool) (ls : List Line) → AreFull ls → AreFull (filter p ls)
unfolding AreFull
full-filter p [] full = tt
full-filter p (l ∷ ls) full = by (p l) (full-filter p ls full.2)
  where
    by : (b : Bool) → AreFull (filter p ls) → AreFull (cond b (l ∷ filter p ls) (filter p ls))
    by true rest = (full.0, full.1, rest)
    by false rest = rest

full-select : (f : _) (ls : List Line) → AreFull ls → AreFull (map (λ l. with_text l (fields_of f l.text)) ls)
unfolding AreFull
full-select f [] full = tt
full-select f (l ∷ ls) full = (is_text-fields f l.text full.0, full.1, full-select f ls full.2)

full-take : (n : ℕ) (ls : List Line) → AreFull ls → AreFull (take n ls)
unfolding AreFull
full-take zero ls full = tt
full-take (suc n) [] full = tt
full-take (suc n) (l ∷ ls) full = (full.0, full.1, full-take n ls full.2)

full-drop : (n : ℕ) (ls : List Line) → AreFull ls → AreFull (drop n ls)
unfolding AreFull
full-drop zero ls full = full
full-drop (suc n) [] full = tt
full-drop (suc n) (l ∷ ls) full = full-drop n ls full.2

full-distinct : (key : Option Fields) (seen : List (List ℕ)) (ls : List Line) → AreFull ls → AreFull (distinct key seen ls)
unfolding AreFull distinct
full-distinct key seen [] full = tt
full-distinct key seen (l ∷ ls) full =
    by (has seen (key_of key l.text)) (full-distinct key seen ls full.2) (full-distinct key (seen ++ key_of key l.text ∷ []) ls full.2)
  where
    by : (b : Bool) → AreFull (distinct key seen ls) → AreFull (distinct key (seen ++ key_of key l.text ∷ []) ls)
        → AreFull (cond b (distinct key seen ls) (l ∷ distinct key (seen ++ key_of key l.text ∷ []) ls))
    by true same more = same
    by false same more = (full.0, full.1, more)

pub full-answer : (ss : List LineStep) (ls : List Line) → AreFull ls → AreFull (answer ss ls)
unfolding answer AreFull
full-answer [] ls full = full
full-answer (Filter t ∷ ss) ls full = full-answer ss _ (full-filter _ ls full)
full-answer (Select f ∷ ss) ls full = full-answer ss _ (full-select f ls full)
full-answer (Take n ∷ ss) ls full = full-answer ss _ (full-take n ls full)
full-answer (Skip n ∷ ss) ls full = full-answer ss _ (full-drop n ls full)
full-answer (TakeWhile t ∷ ss) ls full = full-answer ss _ (full-take (prefix_len (λ l. passes t l.text) ls) ls full)
full-answer (SkipWhile t ∷ ss) ls full = full-answer ss _ (full-drop (prefix_len (λ l. passes t l.text) ls) ls full)
full-answer (Distinct k ∷ ss) ls full = full-answer ss _ (full-distinct k.key k.seen ls full)
full-answer (Check t ∷ ss) ls full = full-answer ss _ (full-take (prefix_len (λ l. passes t l.text) ls) ls full)
full-answer (Failed ∷ ss) ls full = full-answer ss [] tt

-- what is written of a line and of the others
pub written-cons : (o : Option (List ℕ)) (l : Line) (ls : List Line) → written
    (cons_option (option_map (with_text l) o) ls) ≡ bytes_of o l.end ++ written ls
written-cons None l ls = refl
written-cons (Some text) l ls = refl

pub left-nil : (ss : List LineStep) → left ss [] ≡ ss
unfolding left
left-nil ss = refl

pub left-cons : (ss : List LineStep) (l : Line) (ls : List Line) → left ss (l ∷ ls) ≡ left (row_after ss l.text) ls
unfolding left
left-cons ss l ls = refl

pub left-none : (ls : List Line) → left [] ls ≡ []
unfolding left row_after
left-none [] = refl
left-none (l ∷ ls) = left-none ls
