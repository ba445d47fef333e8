-- What is made of a block's items, one after another.
use Rattle.std.specs.Prelude.{◌≡◌, ℕ, ◌+◌, ◌≤◌, List, [], ◌∷◌, ◌++◌, take, drop, length, Option, Some, None, Result, Err}
use Rattle.std.specs.List.{fold}
use Rattle.std.proofs.Common.{sym, ◌∙◌, ap}
use Rattle.std.proofs.lemmas.List.{take-append-drop, take_all}
use Rattle.std.proofs.lemmas.List.Sums.{fold-append}
use Rattle.plinq_groups.specs.Mapping.{mapping, mapped_items, mapped_items-from, with_made, stopped}

module _ {T B : Type 0} (makes : T → Result (Option B) ℕ) (old : List B) (block : List T) where
  -- this was made of the first so many, and they ended with this code if they have one
  abbrev pub IsMadeAt : ℕ → List B → Option ℕ → Type 0
  IsMadeAt i ys e = fold (mapping makes).update (old, None) (take i block) ≡ (ys, e)

  -- and this of all
  abbrev pub IsMadeOfAll : List B → Option ℕ → Type 0
  IsMadeOfAll ys e = ◌≡◌ {A = List B × Option ℕ} (old ++ (mapped_items makes block).0, (mapped_items makes block).1) (ys, e)

  module _ (i : ℕ) (x : T) (ys : List B) (more : take (i + 1) block ≡ take i block ++ x ∷ []) (before : IsMadeAt i ys None) where
    -- one item more
    pub made-turn : (r : Result (Option B) ℕ) → makes x ≡ r → IsMadeAt (i + 1) (with_made ys None r).0 (with_made ys None r).1
    made-turn r is =
        ap (fold (mapping makes).update (old, None)) more
        ∙ fold-append (mapping makes).update (old, None) (take i block) (x ∷ [])
        ∙ ap (λ a. with_made a.0 a.1 (makes x)) before
        ∙ ap (with_made ys None) is

    -- an item that faults is the last
    pub made-fault : (code : ℕ) → makes x ≡ Err code → IsMadeOfAll ys (Some code)
    made-fault code is =
        sym (mapped_items-from makes block old)
        ∙ ap (fold (mapping makes).update (old, None)) (sym (take-append-drop (i + 1) block))
        ∙ fold-append (mapping makes).update (old, None) (take (i + 1) block) (drop (i + 1) block)
        ∙ ap (λ a. fold (mapping makes).update a (drop (i + 1) block)) (made-turn (Err code) is)
        ∙ stopped makes ys code (drop (i + 1) block)

  -- no item is left
  pub made-end : (i : ℕ) (ys : List B) → length block ≤ i → IsMadeAt i ys None → IsMadeOfAll ys None
  made-end i ys all is =
      sym (mapped_items-from makes block old) ∙ ap (fold (mapping makes).update (old, None)) (sym (take_all i block all)) ∙ is
