-- What becomes of what was made, part by part, where a list keeps it.
use Rattle.std.specs.Prelude.{◌≡◌, ⊤, ℕ, List, [], ◌∷◌, ◌++◌, length, Option, Some, None, Result, Ok, Err, refl}
use Rattle.std.proofs.Common.{arith, sym, ◌∙◌, ap, subst, append-nil, append_assoc}
use Rattle.plinq_source.specs.declared.ending.Ending.{Ending}
use Rattle.plinq_source.specs.declared.ending.Ending.TheVariants.{End, Fault}
use Rattle.plinq_source.specs.Trace.{Trace, open_trace, ended_trace, followed_by}
use Rattle.plinq_source.proofs.Followed.{trace_of, followed_by-ended}
use Rattle.plinq_merge.specs.declared.delivery_fault.DeliveryFault.{DeliveryFault}
use Rattle.plinq_merge.specs.declared.delivery_fault.DeliveryFault.TheVariants.{Memory, Sink}
use Rattle.plinq_merge.specs.Taking.{IsTaking}
use Rattle.plinq_mapped.specs.declared.keep_made.KeepMade.{KeepMade}
use Rattle.plinq_mapped.specs.declared.keep_made.Kept.{Kept}
use Rattle.plinq_mapped.specs.Making.{parts_joined, parts-append, parts-past}

module _ {B : Type 0} where
  -- the list has all that was made, which ends so; or there was no room
  abbrev pub Keeps : List B → Trace B → Result (Option Ending) DeliveryFault → List B → Type 0
  Keeps xs u (Ok e) ys = (u.ending ≡ e) × (ys ≡ xs ++ u.items)
  Keeps xs u (Err Memory) ys = ⊤
  Keeps xs u (Err (Sink code)) ys = ⊥

  abbrev pub KeepsBy : KeepMade B → Kept B → Trace (List B × Option ℕ) → Result (Option Ending) DeliveryFault → KeepMade B → Kept B → Type 0
  KeepsBy d x t r d' x' = Keeps x.items.items (parts_joined t.items t.ending) r x'.items.items

  -- one after another
  pub keeps-after : (xs : List B) (u : Trace B) (ys : List B) (v : Trace B) (r : Result (Option Ending) DeliveryFault) (zs : List B) → Keeps xs u (Ok None) ys
      → Keeps ys v r zs → Keeps xs (followed_by u v) r zs
  keeps-after xs u ys v (Ok e) zs first second =
      let is : open_trace u.items ≡ u = ap (trace_of u.items) (sym first.0) in
      subst (λ w. Keeps xs (followed_by w v) (Ok e) zs) is (second.0, second.1 ∙ ap (λ l. l ++ v.items) first.1 ∙ append_assoc xs u.items v.items)
  keeps-after xs u ys v (Err Memory) zs first second = tt
  keeps-after xs u ys v (Err (Sink code)) zs first second = second

  keeps-ends : (xs : List B) (u : Trace B) (e : Ending) (ys : List B) (rest : Trace B) → Keeps xs u (Ok (Some e)) ys
      → Keeps xs (followed_by u rest) (Ok (Some e)) ys
  keeps-ends xs u e ys rest is = subst (λ w. Keeps xs w (Ok (Some e)) ys) (sym (followed_by-ended u rest e is.0)) is

  keeps-breaks : (xs : List B) (u v : Trace B) (fault : DeliveryFault) (ys : List B) → Keeps xs u (Err fault) ys → Keeps xs v (Err fault) ys
  keeps-breaks xs u v Memory ys is = tt
  keeps-breaks xs u v (Sink code) ys is = is

  pub keeps-lawful : IsTaking KeepsBy
  keeps-lawful =
      record {
        begins = λ d x. (refl, sym (append-nil x.items.items));
        goes_on = λ d x ps d1 x1 t r d2 x2 first second.
            subst (λ u. Keeps x.items.items u r x2.items.items) (sym (parts-append ps t.items t.ending))
            (keeps-after x.items.items (parts_joined ps None) x1.items.items (parts_joined t.items t.ending) r x2.items.items first second);
        ends = λ d x t e d' x' rest is.
            parts-past (λ u. Keeps x.items.items u (Ok (Some e)) x'.items.items) t.items t.ending rest
            (λ v. keeps-ends x.items.items (parts_joined t.items t.ending) e x'.items.items v is) is;
        breaks = λ d x t fault d' x' rest is.
            keeps-breaks x.items.items (parts_joined t.items t.ending)
            (parts_joined (followed_by t rest).items (followed_by t rest).ending) fault x'.items.items is;
        stops = λ d x ps d' x' rest is. tt;
      }

-- ---- worked rows

kept_up_to_a_fault : Keeps {B = ℕ} (1 ∷ []) (ended_trace (2 ∷ []) (Fault 7)) (Ok (Some (Fault 7))) (1 ∷ 2 ∷ [])
kept_up_to_a_fault = (refl, refl)

kept_as_if_well : Keeps {B = ℕ} (1 ∷ []) (ended_trace (2 ∷ []) (Fault 7)) (Ok (Some End)) (1 ∷ 2 ∷ []) → ⊥
kept_as_if_well kept = let same = kept.0 in absurd (cc)

one_is_forgotten : Keeps {B = ℕ} (1 ∷ []) (open_trace (2 ∷ [])) (Ok None) (1 ∷ []) → ⊥
one_is_forgotten kept = absurd (omega (arith, ap length kept.1))

-- a list refuses nothing
refused_with_3 : Keeps {B = ℕ} (1 ∷ []) (open_trace (2 ∷ [])) (Err (Sink 3)) (1 ∷ []) → ⊥
refused_with_3 kept = absurd kept
