-- How a text breaks into lines.
use Rattle.std.proofs.Common.{append_assoc, subst, ◌≡◌, ◌≢◌, ℕ, zero, suc, ◌+◌, ◌<◌, ◌==◌, Bool, true, false, cond, not, ◌&&◌, List, [], ◌∷◌}
use Rattle.std.proofs.Common.{◌++◌, length, take, drop, get_or, refl, sym, ap, ◌∙◌, arith}
use Rattle.std.proofs.Common.{Some, None, add-one, ◌-◌, take_all, length-drop}
use Rattle.std.proofs.lemmas.Bool.{cond-true, cond-false, eq-eqb, ne_eqb, eqb-true}
use Rattle.memchr.specs.Find.{IsFirstByte, is_byte}
use Rattle.plinq_text.specs.Lines.{Line, full_line, grown, lines_of, written, is_whole, is_text, AreFull}

-- the first line ends at the first line feed
pub lines-at : (text : List ℕ) (k : ℕ) → k < length text → get_or text k 0 ≡ 10 → ((j : ℕ) → j < k → get_or text j 0 ≢ 10)
    → lines_of text ≡ full_line (take k text) ∷ lines_of (drop (suc k) text)
unfolding lines_of
lines-at [] k lt is before = absurd (omega arith)
lines-at (b ∷ rest) zero lt is before = cond-true _ _ _ (eq-eqb b 10 is)
lines-at (b ∷ rest) (suc k) lt is before =
    cond-false _ _ _ (ne_eqb b 10 (before 0 (omega arith)))
    ∙ ap (grown b) (lines-at rest k (omega arith) is (λ j l. before (suc j) (omega arith)))

-- or at the end
pub lines-none : (b : ℕ) (rest : List ℕ) → ((j : ℕ) → j < length (b ∷ rest) → get_or (b ∷ rest) j 0 ≢ 10)
    → lines_of (b ∷ rest) ≡ record { text = b ∷ rest; end = [] } ∷ []
unfolding lines_of
lines-none b [] none = cond-false _ _ _ (ne_eqb b 10 (none 0 (omega arith)))
lines-none b (c ∷ rest) none =
    cond-false _ _ _ (ne_eqb b 10 (none 0 (omega arith)))
    ∙ ap (grown b) (lines-none c rest (λ j l. none (suc j) (omega arith)))

pub lines-nil : lines_of [] ≡ []
unfolding lines_of
lines-nil = refl

grows : (c : ℕ) (t : Bool) (ls : List Line) → cond t (full_line [] ∷ ls) (grown c ls) ≡ [] → ⊥
grows c true ls is = cc
grows c false [] is = cc
grows c false (l ∷ ls) is = cc

-- there is a line where there is a byte
some-lines : (c : ℕ) (rest : List ℕ) → lines_of (c ∷ rest) ≡ [] → ⊥
unfolding lines_of
some-lines c rest is = grows c (c == 10) (lines_of rest) is

grown-append : (b : ℕ) (ls ms : List Line) → (c : ℕ) (rest : List ℕ) → lines_of (c ∷ rest) ≡ ls → grown b (ls ++ ms) ≡ grown b ls ++ ms
unfolding lines_of
grown-append b (l ∷ ls) ms c rest is = refl
grown-append b [] ms c rest is = absurd (some-lines c rest is)

choose : {A : Type 0} (b : Bool) {x y x' y' : A} → x ≡ x' → y ≡ y' → cond b x y ≡ cond b x' y'
choose true p q = p
choose false p q = q

-- lines break after a line feed
pub lines-append : (a b : List ℕ) → is_whole a ≡ true → lines_of (a ++ b) ≡ lines_of a ++ lines_of b
unfolding lines_of is_whole
lines-append [] b whole = refl
lines-append (x ∷ []) b whole = cond-true _ _ _ whole ∙ sym (ap (λ ls. ls ++ lines_of b) (cond-true _ _ _ whole))
lines-append (x ∷ y ∷ rest) b whole =
    let inner = lines-append (y ∷ rest) b whole in
    by (x == 10) inner
  where
    by : (t : Bool) → lines_of ((y ∷ rest) ++ b) ≡ lines_of (y ∷ rest) ++ lines_of b
        → cond t (full_line [] ∷ lines_of ((y ∷ rest) ++ b)) (grown x (lines_of ((y ∷ rest) ++ b)))
        ≡ cond t (full_line [] ∷ lines_of (y ∷ rest)) (grown x (lines_of (y ∷ rest))) ++ lines_of b
    by true inner = ap (λ ls. full_line [] ∷ ls) inner
    by false inner = ap (grown x) inner ∙ grown-append x (lines_of (y ∷ rest)) (lines_of b) y rest refl

-- a whole text has full lines
grown-full : (b : ℕ) (ls : List Line) → (b == 10) ≡ false → (c : ℕ) (rest : List ℕ) → lines_of (c ∷ rest) ≡ ls → AreFull ls → AreFull (grown b ls)
unfolding AreFull lines_of
grown-full b (l ∷ ls) other c rest is full = (ap (λ t. not t && is_text l.text) other ∙ full.0, full.1, full.2)
grown-full b [] other c rest is full = absurd (some-lines c rest is)

pub full-lines : (a : List ℕ) → is_whole a ≡ true → AreFull (lines_of a)
unfolding lines_of is_whole AreFull
full-lines [] whole = tt
full-lines (x ∷ []) whole = subst AreFull (sym (cond-true _ _ _ whole)) (refl, refl, tt)
full-lines (x ∷ y ∷ rest) whole =
    let inner = full-lines (y ∷ rest) whole in
    by (x == 10) refl inner
  where
    by : (t : Bool) → (x == 10) ≡ t → AreFull (lines_of (y ∷ rest)) → AreFull (cond t (full_line [] ∷ lines_of (y ∷ rest)) (grown x (lines_of (y ∷ rest))))
    by true is inner = (refl, refl, inner)
    by false is inner = grown-full x (lines_of (y ∷ rest)) is y rest refl inner

-- the line of a text and a line feed
lines-text : (text rest : List ℕ) → is_text text ≡ true → lines_of (text ++ 10 ∷ rest) ≡ full_line text ∷ lines_of rest
unfolding lines_of
lines-text [] rest is = refl
lines-text (b ∷ text) rest is = by (b == 10) is (lines-text text rest)
  where
    by : (t : Bool) → (not t && is_text text) ≡ true → (is_text text ≡ true → lines_of (text ++ 10 ∷ rest) ≡ full_line text ∷ lines_of rest)
        → cond t (full_line [] ∷ lines_of (text ++ 10 ∷ rest)) (grown b (lines_of (text ++ 10 ∷ rest))) ≡ full_line (b ∷ text) ∷ lines_of rest
    by true is later = absurd (cc)
    by false is later = ap (grown b) (later is)

-- full lines are those of what is written of them
pub lines-written : (ls : List Line) → AreFull ls → lines_of (written ls) ≡ ls
unfolding AreFull
lines-written [] full = lines-nil
lines-written (l ∷ ls) full =
    ap (λ e. lines_of ((l.text ++ e) ++ written ls)) full.1
    ∙ ap lines_of (append_assoc l.text (10 ∷ []) (written ls))
    ∙ lines-text l.text (written ls) full.0
    ∙ ap (λ ms. full_line l.text ∷ ms) (lines-written ls full.2)
    ∙ ap (λ e. record { text = l.text; end = e } ∷ ls) (sym full.1)

-- the same by what a search for a line feed finds
pub lines-found : (text : List ℕ) (k : ℕ) → IsFirstByte (is_byte 10) text (Some k) → lines_of text ≡ full_line (take k text) ∷ lines_of (drop (k + 1) text)
lines-found text k found =
    rw add-one (lines-at text k (found.0).high (eqb-true _ 10 found.1)
    (λ j l is. (found.0).before j (omega arith) l (eq-eqb _ 10 is)))

pub lines-missed : (text : List ℕ) → IsFirstByte (is_byte 10) text None → 0 < length text → lines_of text ≡ record { text = text; end = [] } ∷ []
lines-missed [] missed some = absurd (omega arith)
lines-missed (b ∷ rest) missed some = lines-none b rest (λ j l is. missed j (omega arith) l (eq-eqb _ 10 is))

-- what a slice from a place on has
pub rest-from : (n : ℕ) (text : List ℕ) → take (length text - n) (drop n text) ≡ drop n text
rest-from n text = take_all (length text - n) (drop n text) (omega (arith, length-drop n text))

pub some-bytes : (text : List ℕ) → (length text == 0) ≡ false → 0 < length text
some-bytes [] is = absurd (cc)
some-bytes (b ∷ rest) is = omega arith

-- a text of whole lines from a place on has whole lines, but for the first
pub whole-drop : (n : ℕ) (text : List ℕ) → is_whole text ≡ true → is_whole (drop n text) ≡ true
unfolding is_whole
whole-drop zero text whole = whole
whole-drop (suc n) [] whole = whole
whole-drop (suc zero) (b ∷ []) whole = refl
whole-drop (suc (suc n)) (b ∷ []) whole = refl
whole-drop (suc n) (b ∷ c ∷ rest) whole = whole-drop n (c ∷ rest) whole

-- a text up to a line feed has whole lines
pub whole-at : (text : List ℕ) (n : ℕ) → n < length text → get_or text n 0 ≡ 10 → is_whole (take (suc n) text) ≡ true
unfolding is_whole
whole-at [] n lt is = absurd (omega arith)
whole-at (b ∷ rest) zero lt is = eq-eqb b 10 is
whole-at (b ∷ []) (suc n) lt is = absurd (omega arith)
whole-at (b ∷ c ∷ rest) (suc n) lt is = whole-at (c ∷ rest) n (omega arith) is

pub whole-nil : is_whole [] ≡ true
unfolding is_whole
whole-nil = refl

-- two texts of whole lines
pub whole-append : (a b : List ℕ) → is_whole a ≡ true → is_whole b ≡ true → is_whole (a ++ b) ≡ true
unfolding is_whole
whole-append [] b p q = q
whole-append (x ∷ []) [] p q = p
whole-append (x ∷ []) (y ∷ b) p q = q
whole-append (x ∷ y ∷ rest) b p q = whole-append (y ∷ rest) b p q
