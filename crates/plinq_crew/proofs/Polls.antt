-- One poll more.
use Rattle.std.specs.Prelude.{◌≡◌, List, [], ◌∷◌, ◌++◌, Bool, true, false, All, refl}
use Rattle.std.specs.List.{FoldsTo}
use Rattle.std.proofs.Common.{sym, ◌∙◌, ap, subst, append_assoc, append-nil, true≢false}
use Rattle.std.proofs.lemmas.Fn.{FoldsTo-push}
use Rattle.std.proofs.lemmas.List.Elements.{All-nil, All-cons, All-head, All-tail}
use Rattle.plinq_crew.specs.Polls.{HasAccepted}

module _ {X Y : Type 0} {Step : Y → X → Y → Type 0} {before : List X} {y : Y} where
  -- nothing came
  pub took-none : (wants_close : Bool) {received : List X} {wants_close' : Bool} {z : Y} → (wants_close ≡ true → wants_close' ≡ true)
      → HasAccepted Step before y received wants_close z → HasAccepted Step before y received wants_close' z
  took-none true stays h =
      record { taken = h.taken; left = h.left; came = h.came; steps = h.steps; all = λ open-now. absurd (true≢false (sym (stays refl) ∙ open-now)) }
  took-none false stays h = record { taken = h.taken; left = h.left; came = h.came; steps = h.steps; all = λ _. h.all refl }

  -- this came: it is taken in by a step, unless the source was closed
  took-one : (received : List X) (wants_close : Bool) (z : Y) (x : X) (z' : Y) → (wants_close ≡ false → Step z x z') → (wants_close ≡ true → z' ≡ z)
      → HasAccepted Step before y received wants_close z → HasAccepted Step before y (received ++ x ∷ []) wants_close z'
  took-one received false z x z' step keeps h =
      record {
        taken = h.taken ++ x ∷ [];
        left = [];
        came = ap (λ xs. xs ++ x ∷ []) (h.came ∙ ap (λ l. before ++ (h.taken ++ l)) (h.all refl) ∙ ap (λ l. before ++ l) (append-nil h.taken))
            ∙ append_assoc before h.taken (x ∷ [])
            ∙ ap (λ l. before ++ l) (sym (append-nil (h.taken ++ x ∷ [])));
        steps = FoldsTo-push Step y h.taken z x z' h.steps (step refl);
        all = λ _. refl;
      }
  took-one received true z x z' step keeps h =
      record {
        taken = h.taken;
        left = h.left ++ x ∷ [];
        came = ap (λ xs. xs ++ x ∷ []) h.came
            ∙ append_assoc before (h.taken ++ h.left) (x ∷ [])
            ∙ ap (λ l. before ++ l) (append_assoc h.taken h.left (x ∷ []));
        steps = subst (FoldsTo Step y h.taken) (sym (keeps refl)) h.steps;
        all = λ open-now. absurd (let bad : true ≡ false = open-now in cc);
      }

  -- the same, of what is known of it afterwards
  pub took-more : {received received' : List X} {wants_close wants_close' : Bool} {z z' : Y} → HasAccepted Step before y received wants_close z → (x : X)
      → received' ≡ received ++ x ∷ [] → wants_close' ≡ wants_close → (wants_close ≡ false → Step z x z') → (wants_close ≡ true → z' ≡ z)
      → HasAccepted Step before y received' wants_close' z'
  took-more {received} {received'} {wants_close} {wants_close'} {z} {z'} h x came same step keeps =
      subst (λ xs. HasAccepted Step before y xs wants_close' z') (sym came)
      (subst (λ b. HasAccepted Step before y (received ++ x ∷ []) b z') (sym same) (took-one received wants_close z x z' step keeps h))

-- steps with things of which more is known
module _ {X Y : Type 0} (Step Step' : Y → X → Y → Type 0) (P : X → Type 0) (on : (y : Y) (x : X) (y' : Y) → P x → Step y x y' → Step' y x y') where
  all-first : (xs ys : List X) → All P (xs ++ ys) → All P xs
  all-first [] ys all = All-nil P
  all-first (x ∷ xs) ys all = All-cons P x xs (All-head P x (xs ++ ys) all) (all-first xs ys (All-tail P x (xs ++ ys) all))

  steps-such : (y : Y) (xs : List X) (z : Y) → All P xs → FoldsTo Step y xs z → FoldsTo Step' y xs z
  steps-such y [] z all steps = steps
  steps-such y (x ∷ xs) z all (m, step, steps) = (m, on y x m (All-head P x xs all) step, steps-such m xs z (All-tail P x xs all) steps)

  pub accepted-such : (y : Y) (received : List X) (wants_close : Bool) (z : Y) → All P received → HasAccepted Step [] y received wants_close z
      → HasAccepted Step' [] y received wants_close z
  accepted-such y received wants_close z all h =
      record {
        taken = h.taken;
        left = h.left;
        came = h.came;
        steps = steps-such y h.taken z (all-first h.taken h.left (subst (All P) h.came all)) h.steps;
        all = h.all;
      }
