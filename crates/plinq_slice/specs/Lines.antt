-- The lines of a text, and then the end.
use Rattle.std.specs.Prelude.{◌≡◌, refl, ℕ, List, [], ◌∷◌, length, get_or, None, Some, map}
use Rattle.std.proofs.Common.{arith, ap, ◌∙◌}
use Rattle.std.specs.Borrow.{Bor}
use Rattle.std.specs.Str.Lines.{lines}
use Rattle.plinq_source.specs.declared.ending.Ending.TheVariants.{End}
use Rattle.plinq_source.specs.Trace.{Trace, ended_trace, open_trace}

-- the items lend these lines
pub record IsOfLines (text : List ℕ) (t : Trace (Bor (List ℕ))) : Type 0 where
  pub items : map (λ line. line.now) t.items ≡ lines text
  pub ending : t.ending ≡ Some End

-- ---- worked rows: of two lines, a with its newline, b with its carriage return and newline

abbrev text : List ℕ
text = 97 ∷ 10 ∷ 98 ∷ 13 ∷ 10 ∷ []

two_lines : lines text ≡ (97 ∷ []) ∷ (98 ∷ []) ∷ []
two_lines = refl

no_lines : lines [] ≡ []
no_lines = refl

empty_lines : lines (10 ∷ 10 ∷ []) ≡ [] ∷ [] ∷ []
empty_lines = refl

module _ (a b : Bor (List ℕ)) (is_a : a.now ≡ 97 ∷ []) (is_b : b.now ≡ 98 ∷ []) where
  both_lines : IsOfLines text (ended_trace (a ∷ b ∷ []) End)
  both_lines = record { items = ap (λ x. x ∷ b.now ∷ []) is_a ∙ ap (λ y. (97 ∷ []) ∷ y ∷ []) is_b; ending = refl }

  -- not the first alone, nor in another order, nor without an end
  first_line : IsOfLines text (ended_trace (a ∷ []) End) → ⊥
  first_line is = omega (arith, ap length is.items)

  lines_the_other_way : IsOfLines text (ended_trace (b ∷ a ∷ []) End) → ⊥
  lines_the_other_way is =
      let first : get_or b.now 0 0 ≡ 97 = ap (λ xs. get_or (get_or xs 0 []) 0 0) is.items in
      let here : get_or b.now 0 0 ≡ 98 = ap (λ xs. get_or xs 0 0) is_b in
      omega (arith, first, here)

  lines_without_end : IsOfLines text (open_trace (a ∷ b ∷ [])) → ⊥
  lines_without_end is = absurd (let bad : None ≡ Some End = is.ending in cc)
