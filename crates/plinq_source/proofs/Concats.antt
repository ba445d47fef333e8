-- What a concatenation says: what its first source says, and from the end of that on what its second says.
use Rattle.std.proofs.Common.{◌≡◌, ℕ, ◌+◌, ◌-◌, ◌≤◌, ◌++◌, length, take, drop, Some, arith, ap, sym, ◌∙◌, length-append, length-drop}
use Rattle.std.proofs.Math.Seq.{drop-append-add, take-append-add}
use Rattle.std.proofs.lemmas.List.{drop-append-le, take_all}
use Rattle.plinq_source.specs.Trace.{Trace, step_of, step_at, given_after, items_from}
use Rattle.plinq_source.specs.Concat.{concat_from, concat}
use Rattle.plinq_source.specs.declared.ending.Ending.TheVariants.{End}
use Rattle.plinq_source.proofs.Followed.{trace_of}

-- the end of the first: from there on the second answers
pub concat-end : {T : Type 0} (a b : Trace T) → a.ending ≡ Some End → concat a b ≡ trace_of (a.items ++ b.items) b.ending
concat-end a b ends = ap (λ e. concat_from a.items e b) ends

pub step_at-second : {T : Type 0} (a b : Trace T) (m n : ℕ) → m ≡ length a.items → a.ending ≡ Some End → step_at (concat a b) (m + n) ≡ step_at b n
step_at-second a b m n all ends =
    ap (λ t. step_at t (m + n)) (concat-end a b ends)
    ∙ ap (λ k. step_of (drop (k + n) (a.items ++ b.items)) b.ending) all
    ∙ ap (λ xs. step_of xs b.ending) (drop-append-add a.items b.items n)

pub given_after-second : {T : Type 0} (a b : Trace T) (m n : ℕ) → m ≡ length a.items → a.ending ≡ Some End
    → given_after (concat a b) (m + n) ≡ m + given_after b n
given_after-second a b m n all ends =
    omega (arith, all, ap (λ t. length t.items) (concat-end a b ends), length-append a.items b.items)

-- asked for several: once the first has ended, the second gives them
pub items_from-second : {T : Type 0} (a b : Trace T) (g m n : ℕ) → g ≡ length a.items → a.ending ≡ Some End
    → items_from (concat a b) (g + m) n ≡ items_from b m n
items_from-second a b g m n all ends =
    ap (λ t. items_from t (g + m) n) (concat-end a b ends)
    ∙ ap (λ k. take n (drop (k + m) (a.items ++ b.items))) all
    ∙ ap (take n) (drop-append-add a.items b.items m)

-- the last of the first, and then from the start of the second
pub items_from-across : {T : Type 0} (a b : Trace T) (g n k : ℕ) → g + k ≡ length a.items → k ≤ n → a.ending ≡ Some End
    → items_from (concat a b) g n ≡ items_from a g n ++ items_from b 0 (n - k)
items_from-across a b g n k all within ends =
    let rest = drop g a.items in
    let left : length rest ≡ k = omega (arith, length-drop g a.items, all) in
    let as_many : n ≡ length rest + (n - k) = omega (arith, left, within) in
    ap (λ t. items_from t g n) (concat-end a b ends)
    ∙ ap (take n) (drop-append-le g a.items b.items (omega (arith, all)))
    ∙ ap (λ j. take j (rest ++ b.items)) as_many
    ∙ take-append-add rest b.items (n - k)
    ∙ ap (λ xs. xs ++ take (n - k) b.items) (sym (take_all n rest (omega (arith, left, within))))
