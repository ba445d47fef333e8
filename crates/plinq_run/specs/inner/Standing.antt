-- Accumulators that stand for the parts of an answer, one after another.
use Rattle.std.specs.Prelude.{List, [], ◌∷◌, ◌++◌, ⊤, Option, Some, None, Result, Ok, Err, refl}
use Rattle.std.specs.List.{fold}
use Rattle.std.proofs.Common.{sym, ◌∙◌, ap, subst, append_assoc, append-nil}
use Rattle.std.proofs.lemmas.List.Sums.{fold-append}
use Rattle.plinq_source.specs.declared.ending.Ending.{Ending}
use Rattle.plinq_source.specs.Trace.{Trace, open_trace, continued_by, followed_by}
use Rattle.plinq_aggregate.specs.Folding.{Folding, fold_of, IsFolding}
use Rattle.plinq_merge.specs.declared.delivery_fault.DeliveryFault.{DeliveryFault}
use Rattle.plinq_merge.specs.declared.delivery_fault.DeliveryFault.TheVariants.{Memory}
use Rattle.plinq_merge.specs.Taking.{IsTaking}
use Rattle.plinq_run.specs.Parting.{StandFor, IsFolded, WasGiven}

module _ {T A O : Type 0} (f : Folding T A O) where
  pub stand-none : StandFor f [] []
  stand-none before = ap (fold_of f) (sym (append-nil before))

  pub stand-append : (xs ys : List T) (us vs : List A) → StandFor f xs us → StandFor f ys vs → StandFor f (xs ++ ys) (us ++ vs)
  stand-append xs ys us vs first second before =
      fold-append f.combine (fold_of f before) us vs
      ∙ ap (λ a. fold f.combine a vs) (first before)
      ∙ second (before ++ xs)
      ∙ ap (fold_of f) (append_assoc before xs ys)

  continued_by-folded : (xs : List T) (us : List A) (e : Option Ending) (t : Trace T) (u : Trace A) → StandFor f xs us → IsFolded f t u
      → IsFolded f (continued_by xs e t) (continued_by us e u)
  continued_by-folded xs us None t u first second = record { items = stand-append xs t.items us u.items first second.items; ending = second.ending }
  continued_by-folded xs us (Some e) t u first second = record { items = first; ending = refl }

  pub followed_by-folded : (t t' : Trace T) (u u' : Trace A) → IsFolded f t u → IsFolded f t' u' → IsFolded f (followed_by t t') (followed_by u u')
  followed_by-folded t t' u u' first second =
      subst (λ e. IsFolded f (followed_by t t') (continued_by u.items e u')) (sym first.ending)
      (continued_by-folded t.items u.items t.ending t' u' first.items second)

  -- one accumulator stands for all of a trace
  abbrev pub as_one : Trace T → Trace A
  as_one t = record { items = fold_of f t.items ∷ []; ending = t.ending }

  pub as_one-folded : IsFolding f → (t : Trace T) → IsFolded f t (as_one t)
  as_one-folded lawful t = record { items = λ before. lawful.joins before t.items; ending = refl }

-- the taker has ended or broken off
abbrev pub IsOver : Result (Option Ending) DeliveryFault → Type 0
IsOver (Ok None) = ⊥
IsOver (Ok (Some e)) = ⊤
IsOver (Err fault) = ⊤

module _ {T A U W O : Type 0} (f : Folding T A U) (lawful : IsFolding f)
    (made : W → O → Trace A → Result (Option Ending) DeliveryFault → W → O → Type 0) (taking : IsTaking made) where
  -- nothing was given, since memory ran out
  pub given-none : (u : Trace T) (a : W) (x : O) → WasGiven f made u a x (Err Memory) x
  given-none u a x = record { parts = as_one f u; folds = as_one-folded f lawful u; last = a; taken = taking.stops a x [] a x (as_one f u) (taking.begins a x) }

  -- what ended or broke off did so of whatever comes after it
  past : (how : Result (Option Ending) DeliveryFault) (a : W) (x : O) (v : Trace A) (b : W) (y : O) (rest : Trace A) → IsOver how
      → made a x v how b y → made a x (followed_by v rest) how b y
  past (Ok None) a x v b y rest over is = absurd over
  past (Ok (Some e)) a x v b y rest over is = taking.ends a x v e b y rest is
  past (Err fault) a x v b y rest over is = taking.breaks a x v fault b y rest is

  pub given-past : (how : Result (Option Ending) DeliveryFault) (u : Trace T) (a : W) (x : O) (y : O) (rest : Trace T) → IsOver how
      → WasGiven f made u a x how y → WasGiven f made (followed_by u rest) a x how y
  given-past how u a x y rest over given =
      record {
        parts = followed_by given.parts (as_one f rest);
        folds = followed_by-folded f u rest given.parts (as_one f rest) given.folds (as_one-folded f lawful rest);
        last = given.last;
        taken = past how a x given.parts given.last y (as_one f rest) over given.taken;
      }

  -- what follows accumulators that were taken
  pub given-after : (how : Result (Option Ending) DeliveryFault) (xs : List T) (us : List A) (u : Trace T) (a : W) (x : O) (b : W) (y z : O)
      → StandFor f xs us → made a x (open_trace us) (Ok None) b y
      → WasGiven f made u b y how z → WasGiven f made (followed_by (open_trace xs) u) a x how z
  given-after how xs us u a x b y z stand first second =
      record {
        parts = followed_by (open_trace us) second.parts;
        folds = continued_by-folded f xs us None u second.parts stand second.folds;
        last = second.last;
        taken = taking.goes_on a x us b y second.parts how second.last z first second.taken;
      }

  -- or nothing more was given, since memory ran out
  pub given-stops : (xs : List T) (us : List A) (u : Trace T) (a : W) (x : O) (b : W) (y : O) → StandFor f xs us → made a x (open_trace us) (Ok None) b y
      → WasGiven f made (followed_by (open_trace xs) u) a x (Err Memory) y
  given-stops xs us u a x b y stand first = given-after (Err Memory) xs us u a x b y y stand first (given-none u b y)
