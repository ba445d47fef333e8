-- Steps that stay as they are.
use Rattle.std.proofs.Common.{◌≡◌, ◌<◌, get_or, length, ℕ, zero, suc, ◌+◌, Bool, true, false, cond, if◌then◌else◌, List, [], ◌∷◌, ◌++◌, take, Option, Some}
use Rattle.std.proofs.Common.{None}
use Rattle.std.proofs.Common.{option_map, refl, sym, ap, ◌∙◌, arith, append_assoc}
use Rattle.std.proofs.Math.Bool.{true≢false}
use Rattle.std.specs.List.{cons_option, prefix_len}
use Rattle.std.specs.Option.{option_and_then}
use Rattle.std.proofs.lemmas.Bool.{and_from, and_parts, eqb-true}
use Rattle.std.proofs.lemmas.Option.{none-some, same_Some}
use Rattle.plinq_text.specs.declared.line_step.LineStep.{LineStep}
use Rattle.plinq_text.specs.declared.line_step.LineStep.TheVariants.{Filter, Select, Take, Skip, TakeWhile, SkipWhile, Distinct, Check, Failed}
use Rattle.plinq_text.specs.declared.ready.ReadyStep.{ReadyStep}
use Rattle.plinq_text.specs.inner.Ready.{IsLineMade, does_ready, row_ready}
use Rattle.plinq_text.specs.Lines.{Line, written}
use Rattle.plinq_text.specs.Steady.{AreMade, are_steady, is_steady, made_steady, row_steady, stays, steady_lines, steady_one, then_row, with_line}
use Rattle.plinq_text.specs.Steps.{after_one, answer, does, later, left, bytes_of, row_after, row_does, with_text}
use Rattle.plinq_text.proofs.StepLaws.{answer-cons, answer-nil, left-cons, left-nil, written-cons}

-- a step that stays as it is
stays-same : (s : LineStep) (text : List ℕ) → stays s text ≡ true → after_one s text ≡ s
stays-same (Filter t) text is = refl
stays-same (Select f) text is = refl
stays-same (Take n) text is = let none : n ≡ 0 = eqb-true n 0 is in ap Take (omega arith)
stays-same (Skip n) text is = let none : n ≡ 0 = eqb-true n 0 is in ap Skip (omega arith)
stays-same (TakeWhile t) text is = ap (λ b. cond b (TakeWhile t) (Take 0)) is
stays-same (SkipWhile t) text is = ap (λ b. cond b (SkipWhile t) (Skip 0)) is
stays-same (Distinct k) text is = absurd (cc)
stays-same (Check t) text is = ap (λ b. cond b (Check t) Failed) is
stays-same Failed text is = refl

-- what a row makes of a text by which no step of it changes
pub row-stays : (ss : List LineStep) (text : List ℕ) (o : Option (List ℕ)) → row_steady ss text ≡ Some o
    → (row_does ss text ≡ o) × (row_after ss text ≡ ss)
unfolding row_steady row_does row_after
row-stays [] text o is = (same_Some _ _ is, refl)
row-stays (s ∷ ss) text o is = by (λ t made. row-stays ss t o made) (stays s text) refl (does s text) is
  where
    on : ((t : List ℕ) → row_steady ss t ≡ Some o → (row_does ss t ≡ o) × (row_after ss t ≡ ss)) → (d : Option (List ℕ)) → after_one s text ≡ s
        → then_row (row_steady ss) (Some d) ≡ Some o
        → (option_and_then (row_does ss) d ≡ o) × (after_one s text ∷ later ss (row_after ss) d ≡ s ∷ ss)
    on each None same made = (same_Some _ _ made, ap (λ x. x ∷ ss) same)
    on each (Some t) same made =
        let rest = each t made in
        (rest.0, ap (λ x. x ∷ row_after ss t) same ∙ ap (λ x. s ∷ x) rest.1)

    by : ((t : List ℕ) → row_steady ss t ≡ Some o → (row_does ss t ≡ o) × (row_after ss t ≡ ss)) → (b : Bool) → stays s text ≡ b
        → (d : Option (List ℕ)) → then_row (row_steady ss) (if b then Some d else None) ≡ Some o
        → (option_and_then (row_does ss) d ≡ o) × (after_one s text ∷ later ss (row_after ss) d ≡ s ∷ ss)
    by each true stay d made = on each d (stays-same s text stay) made
    by each false stay d made = absurd (none-some _ made)

-- a row in front of others
pub row-first : (w c : List LineStep) (text : List ℕ) (o : Option (List ℕ)) → row_steady w text ≡ Some o
    → row_after (w ++ c) text ≡ w ++ later c (row_after c) o
unfolding row_steady row_after
row-first [] c text o is = ap (later c (row_after c)) (same_Some _ _ is)
row-first (s ∷ w) c text o is = by (λ t made. row-first w c t o made) (stays s text) refl (does s text) is
  where
    on : ((t : List ℕ) → row_steady w t ≡ Some o → row_after (w ++ c) t ≡ w ++ later c (row_after c) o) → (d : Option (List ℕ))
        → after_one s text ≡ s → then_row (row_steady w) (Some d) ≡ Some o
        → after_one s text ∷ later (w ++ c) (row_after (w ++ c)) d ≡ s ∷ (w ++ later c (row_after c) o)
    on each None same made = ap (λ x. x ∷ (w ++ c)) same ∙ ap (λ x. s ∷ (w ++ later c (row_after c) x)) (same_Some _ _ made)
    on each (Some t) same made = ap (λ x. x ∷ row_after (w ++ c) t) same ∙ ap (λ x. s ∷ x) (each t made)

    by : ((t : List ℕ) → row_steady w t ≡ Some o → row_after (w ++ c) t ≡ w ++ later c (row_after c) o) → (b : Bool) → stays s text ≡ b
        → (d : Option (List ℕ)) → then_row (row_steady w) (if b then Some d else None) ≡ Some o
        → after_one s text ∷ later (w ++ c) (row_after (w ++ c)) d ≡ s ∷ (w ++ later c (row_after c) o)
    by each true stay d made = on each d (stays-same s text stay) made
    by each false stay d made = absurd (none-some _ made)

-- of lines of which something is made something is made of the first and of the others
pub record FirstMade (f : List ℕ → Option (Option (List ℕ))) (l : Line) (ls ms : List Line) : Type 0 where
  pub first : Option (List ℕ)
  pub others : List Line
  pub first_is : f l.text ≡ Some first
  pub others_are : made_steady f ls ≡ Some others
  pub all : ms ≡ cons_option (option_map (with_text l) first) others

pub first-made : (f : List ℕ → Option (Option (List ℕ))) (l : Line) (ls ms : List Line) → made_steady f (l ∷ ls) ≡ Some ms → FirstMade f l ls ms
first-made f l ls ms is = by (f l.text) refl (made_steady f ls) refl is
  where
    by : (a : Option (Option (List ℕ))) → f l.text ≡ a → (b : Option (List Line)) → made_steady f ls ≡ b → with_line l a b ≡ Some ms → FirstMade f l ls ms
    by None one b rest made = absurd (none-some _ made)
    by (Some o) one None rest made = absurd (none-some _ made)
    by (Some o) one (Some others) rest made =
        record { first = o; others = others; first_is = one; others_are = rest; all = sym (same_Some _ _ made) }

-- the answer of steps that stay as they are
pub steady-answer : (ss : List LineStep) (ls ms : List Line) → steady_lines ss ls ≡ Some ms → answer ss ls ≡ ms
steady-answer ss [] ms is = answer-nil ss ∙ same_Some _ _ is
steady-answer ss (l ∷ ls) ms is =
    let m = first-made (row_steady ss) l ls ms is in
    let row = row-stays ss l.text m.first m.first_is in
    answer-cons ss l ls
    ∙ ap (λ o. cons_option (option_map (with_text l) o) (answer (row_after ss l.text) ls)) row.0
    ∙ ap (λ x. cons_option (option_map (with_text l) m.first) (answer x ls)) row.1
    ∙ ap (cons_option (option_map (with_text l) m.first)) (steady-answer ss ls m.others m.others_are)
    ∙ sym m.all

-- of steps in two parts, of which the first stay, the first and what is left of the others are left
pub steady-left : (w c : List LineStep) (ls ms : List Line) → steady_lines w ls ≡ Some ms → left (w ++ c) ls ≡ w ++ left c ms
steady-left w c [] ms is = left-nil (w ++ c) ∙ ap (λ x. w ++ x) (sym (left-nil c)) ∙ ap (λ x. w ++ left c x) (same_Some _ _ is)
steady-left w c (l ∷ ls) ms is =
    let m = first-made (row_steady w) l ls ms is in
    left-cons (w ++ c) l ls
    ∙ ap (λ x. left x ls) (row-first w c l.text m.first m.first_is)
    ∙ by m.first m.others (λ d. steady-left w d ls m.others m.others_are)
    ∙ ap (λ x. w ++ left c x) (sym m.all)
  where
    by : (o : Option (List ℕ)) (others : List Line) → ((d : List LineStep) → left (w ++ d) ls ≡ w ++ left d others)
        → left (w ++ later c (row_after c) o) ls ≡ w ++ left c (cons_option (option_map (with_text l) o) others)
    by None others each = each c
    by (Some text) others each = each (row_after c text) ∙ ap (λ x. w ++ x) (sym (left-cons c (with_text l text) others))

-- lines part by part
pub steady-append : (f : List ℕ → Option (Option (List ℕ))) (a b ms ns : List Line) → made_steady f a ≡ Some ms → made_steady f b ≡ Some ns
    → made_steady f (a ++ b) ≡ Some (ms ++ ns)
steady-append f [] b ms ns first rest = rest ∙ ap (λ x. Some (x ++ ns)) (same_Some _ _ first)
steady-append f (l ∷ a) b ms ns first rest =
    let m = first-made f l a ms first in
    ap (λ x. with_line l x (made_steady f (a ++ b))) m.first_is
    ∙ ap (with_line l (Some m.first)) (steady-append f a b m.others ns m.others_are rest)
    ∙ ap Some (more (option_map (with_text l) m.first) m.others ∙ ap (λ x. x ++ ns) (sym m.all))
  where
    more : (o : Option Line) (xs : List Line) → cons_option o (xs ++ ns) ≡ cons_option o xs ++ ns
    more None xs = refl
    more (Some x) xs = refl

-- the first steps that are steady
pub are_steady-take : (ss : List LineStep) → are_steady (take (prefix_len is_steady ss) ss) ≡ true
are_steady-take [] = refl
are_steady-take (s ∷ ss) = by (are_steady-take ss) (is_steady s) refl
  where
    by : are_steady (take (prefix_len is_steady ss) ss) ≡ true → (b : Bool) → is_steady s ≡ b → are_steady
        (take (cond b (1 + prefix_len is_steady ss) 0) (s ∷ ss)) ≡ true
    by rest false is = refl
    by rest true is = let on : 1 + prefix_len is_steady ss ≡ suc (prefix_len is_steady ss) = omega arith in
        ap (λ n. are_steady (take n (s ∷ ss))) on ∙ and_from _ _ is rest

-- each of steady steps is
pub own-steady : (ss : List LineStep) (i : ℕ) (s : LineStep) → are_steady ss ≡ true → i < length ss → is_steady (get_or ss i s) ≡ true
own-steady [] i s are within = absurd (omega (within, arith))
own-steady (x ∷ ss) zero s are within = (and_parts _ _ are).0
own-steady (x ∷ ss) (suc i) s are within = own-steady ss i s (and_parts _ _ are).1 (omega (within, arith))

-- ready steps, with one more
row_steady-push : (ss : List LineStep) (s : LineStep) (text : List ℕ) → row_steady (ss ++ s ∷ []) text ≡ then_row (steady_one s) (row_steady ss text)
unfolding row_steady
row_steady-push [] s text = last (steady_one s text)
  where
    last : (o : Option (Option (List ℕ))) → then_row (row_steady []) o ≡ o
    last None = refl
    last (Some None) = refl
    last (Some (Some t)) = refl
row_steady-push (r ∷ ss) s text = by (λ t. row_steady-push ss s t) (steady_one r text)
  where
    by : ((t : List ℕ) → row_steady (ss ++ s ∷ []) t ≡ then_row (steady_one s) (row_steady ss t)) → (o : Option (Option (List ℕ)))
        → then_row (row_steady (ss ++ s ∷ [])) o ≡ then_row (steady_one s) (then_row (row_steady ss) o)
    by each None = refl
    by each (Some None) = refl
    by each (Some (Some t)) = each t

row_ready-push : (ss : List ReadyStep) (s : ReadyStep) (text : List ℕ) → row_ready (ss ++ s ∷ []) text ≡ then_row (does_ready s) (row_ready ss text)
unfolding row_ready
row_ready-push [] s text = last (does_ready s text)
  where
    last : (o : Option (Option (List ℕ))) → then_row (row_ready []) o ≡ o
    last None = refl
    last (Some None) = refl
    last (Some (Some t)) = refl
row_ready-push (r ∷ ss) s text = by (λ t. row_ready-push ss s t) (does_ready r text)
  where
    by : ((t : List ℕ) → row_ready (ss ++ s ∷ []) t ≡ then_row (does_ready s) (row_ready ss t)) → (o : Option (Option (List ℕ)))
        → then_row (row_ready (ss ++ s ∷ [])) o ≡ then_row (does_ready s) (then_row (row_ready ss) o)
    by each None = refl
    by each (Some None) = refl
    by each (Some (Some t)) = each t

pub row_nil : (text : List ℕ) → row_ready [] text ≡ row_steady [] text
unfolding row_ready row_steady
row_nil text = refl

-- steps that agree on each text, each with one step more
pub rows-agree : (rs : List ReadyStep) (ss : List LineStep) (r : ReadyStep) (s : LineStep) → ((text : List ℕ) → row_ready rs text ≡ row_steady ss text)
    → ((text : List ℕ) → does_ready r text ≡ steady_one s text) → (text : List ℕ) → row_ready (rs ++ r ∷ []) text ≡ row_steady (ss ++ s ∷ []) text
rows-agree rs ss r s rows one text =
    row_ready-push rs r text ∙ ap (then_row (does_ready r)) (rows text) ∙ by (row_steady ss text) ∙ sym (row_steady-push ss s text)
  where
    by : (o : Option (Option (List ℕ))) → then_row (does_ready r) o ≡ then_row (steady_one s) o
    by None = refl
    by (Some None) = refl
    by (Some (Some t)) = one t

-- what rows make that agree on each text
pub rows-make : (rs : List ReadyStep) (ss : List LineStep) → ((text : List ℕ) → row_ready rs text ≡ row_steady ss text) → (ls : List Line)
    → made_steady (row_ready rs) ls ≡ steady_lines ss ls
rows-make rs ss rows [] = refl
rows-make rs ss rows (l ∷ ls) =
    ap (λ o. with_line l o (made_steady (row_ready rs) ls)) (rows l.text) ∙ ap (with_line l (row_steady ss l.text)) (rows-make rs ss rows ls)

-- a line more, by which no step changes
pub line-made : (l : Line) (o : Option (Option (List ℕ))) (later : Option (List Line)) (out mid new : List ℕ) (stay : Bool)
    → IsLineMade o l.end out mid true → AreMade later mid new stay → AreMade (with_line l o later) out new stay
line-made l None later out mid new stay line rest = absurd (true≢false line)
line-made l (Some made) None out mid new stay line rest = rest
line-made l (Some made) (Some ls) out mid new stay line rest = (
  rest.0,
  rest.1
      ∙ ap (λ b. b ++ written ls) line.1
      ∙ append_assoc out (bytes_of made l.end) (written ls)
      ∙ ap (λ b. out ++ b) (sym (written-cons made l ls)),
)

-- a line by which one does
pub line-changes : (l : Line) (o : Option (Option (List ℕ))) (later : Option (List Line)) (out mid new : List ℕ)
    → IsLineMade o l.end out mid false → AreMade (with_line l o later) out new false
line-changes l None later out mid new line = refl
line-changes l (Some made) later out mid new line = absurd (true≢false (sym line.0))
