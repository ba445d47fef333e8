-- Items that go through operators, and are given on folded block by block.
use Rattle.std.specs.Prelude.{◌≡◌, List, [], ◌∷◌, ◌++◌, Bool, not, ◌&&◌, Option, Some, None, Result, Ok, Err, refl}
use Rattle.std.proofs.Common.{sym, ◌∙◌, ap, subst}
use Rattle.plinq_source.specs.declared.ending.Ending.{Ending}
use Rattle.plinq_source.specs.Trace.{Trace, open_trace, followed_by}
use Rattle.plinq_source.proofs.Followed.{trace_of, followed_by-followed_by}
use Rattle.plinq_lambda.specs.Meaning.{Meaning}
use Rattle.plinq_aggregate.specs.Folding.{Folding, fold_of, IsFolding}
use Rattle.plinq_ops.specs.Stage.{Stage, seq, seq_after, some_takes_none}
use Rattle.plinq_ops.specs.Feeding.{IsFed}
use Rattle.plinq_ops.specs.Pipeline.{stages}
use Rattle.plinq_ops.proofs.Stages.{seq-followed_by}
use Rattle.plinq_merge.specs.declared.delivery_fault.DeliveryFault.{DeliveryFault}
use Rattle.plinq_merge.specs.declared.delivery_fault.DeliveryFault.TheVariants.{Memory}
use Rattle.plinq_merge.specs.Merging.{GoesOn}
use Rattle.plinq_merge.specs.Taking.{IsTaking}
use Rattle.plinq_run.specs.declared.fold_blocks.FoldBlocks.{FoldBlocks}
use Rattle.plinq_run.specs.Parting.{StandFor, WasGiven}
use Rattle.plinq_run.specs.inner.Standing.{IsOver, stand-none, stand-append, as_one-folded, given-none, given-past, given-after, given-stops}

-- no operator has ended the answer, and the taker of accumulators can take more
abbrev pub can_fold : {L T F W : Type 0} → (L → Meaning T) → (W → Bool) → FoldBlocks L F W → Bool
can_fold meaning can_take d = not (some_takes_none (stages meaning d.pipeline)) && can_take d.inner

module _ {T A U W O : Type 0} (f : Folding T A U) (made : W → O → Trace A → Result (Option Ending) DeliveryFault → W → O → Type 0) where
  -- the trace gave `out`, which was taken folded, and more may follow
  pub record FoldsOn (now : List (Stage T)) (a : W) (x : O) (t : Trace T) (now' : List (Stage T)) (b : W) (y : O) : Type 0 where
    pub out : List T
    pub on : GoesOn now t out None now'
    pub parts : List A
    pub stand : StandFor f out parts
    pub taken : made a x (open_trace parts) (Ok None) b y

  -- or what it gives was taken folded, and that ended or broke off
  abbrev pub Passes : List (Stage T) → W → O → Trace T → Result (Option Ending) DeliveryFault → List (Stage T) → W → O → Type 0
  Passes now a x t (Ok None) now' b y = FoldsOn now a x t now' b y
  Passes now a x t (Ok (Some e)) now' b y = WasGiven f made (seq now t) a x (Ok (Some e)) y
  Passes now a x t (Err fault) now' b y = WasGiven f made (seq now t) a x (Err fault) y

-- by the same aggregator
pub record Made {L F T A U W O : Type 0} (meaning : L → Meaning T) (folding : F → Folding T A U)
    (made : W → O → Trace A → Result (Option Ending) DeliveryFault → W → O → Type 0)
    (d : FoldBlocks L F W) (x : O) (t : Trace T) (how : Result (Option Ending) DeliveryFault) (d' : FoldBlocks L F W) (y : O) : Type 0 where
  pub same : d'.aggregator ≡ d.aggregator
  pub passes : Passes (folding d.aggregator.now) made (stages meaning d.pipeline) d.inner x t how (stages meaning d'.pipeline) d'.inner y

abbrev pub MadeBy : {L F T A U W O : Type 0} → (L → Meaning T) → (F → Folding T A U) → (W → O → Trace A → Result (Option Ending) DeliveryFault → W → O → Type 0)
    → FoldBlocks L F W → O → Trace T → Result (Option Ending) DeliveryFault → FoldBlocks L F W → O → Type 0
MadeBy meaning folding made d x t how d' y = Made meaning folding made d x t how d' y

module _ {T A U W O : Type 0} (f : Folding T A U) (lawful : IsFolding f)
    (made : W → O → Trace A → Result (Option Ending) DeliveryFault → W → O → Type 0) (taking : IsTaking made) where
  passes-begins : (now : List (Stage T)) (a : W) (x : O) → FoldsOn f made now a x (open_trace []) now a x
  passes-begins now a x = record { out = []; on = record { answers = λ rest. refl }; parts = []; stand = stand-none f; taken = taking.begins a x }

  -- what was given before an answer's rest
  given-on : (how : Result (Option Ending) DeliveryFault) (now : List (Stage T)) (a : W) (x : O) (xs : List T)
      (now1 : List (Stage T)) (b : W) (y : O) (t : Trace T) (z : O)
      → FoldsOn f made now a x (open_trace xs) now1 b y → WasGiven f made (seq now1 t) b y how z
      → WasGiven f made (seq now (followed_by (open_trace xs) t)) a x how z
  given-on how now a x xs now1 b y t z first second =
      subst (λ u. WasGiven f made u a x how z) (sym (first.on.answers t))
      (given-after f lawful made taking how first.out first.parts (seq now1 t) a x b y z first.stand first.taken second)

  passes-goes_on : (now : List (Stage T)) (a : W) (x : O) (xs : List T) (now1 : List (Stage T)) (b : W) (y : O) (t : Trace T)
      (how : Result (Option Ending) DeliveryFault) (now2 : List (Stage T)) (c : W) (z : O)
      → FoldsOn f made now a x (open_trace xs) now1 b y → Passes f made now1 b y t how now2 c z
      → Passes f made now a x (followed_by (open_trace xs) t) how now2 c z
  passes-goes_on now a x xs now1 b y t (Ok None) now2 c z first second =
      record {
        out = first.out ++ second.out;
        on = record {
          answers = λ rest.
              ap (seq now) (followed_by-followed_by (open_trace xs) t rest)
              ∙ first.on.answers (followed_by t rest)
              ∙ ap (followed_by (open_trace first.out)) (second.on.answers rest)
              ∙ sym (followed_by-followed_by (open_trace first.out) (open_trace second.out) (seq now2 rest));
        };
        parts = first.parts ++ second.parts;
        stand = stand-append f first.out second.out first.parts second.parts first.stand second.stand;
        taken = taking.goes_on a x first.parts b y (open_trace second.parts) (Ok None) c z first.taken second.taken;
      }
  passes-goes_on now a x xs now1 b y t (Ok (Some e)) now2 c z first second = given-on (Ok (Some e)) now a x xs now1 b y t z first second
  passes-goes_on now a x xs now1 b y t (Err fault) now2 c z first second = given-on (Err fault) now a x xs now1 b y t z first second

  -- what is over is so of whatever comes after it
  passes-past : (how : Result (Option Ending) DeliveryFault) (now : List (Stage T)) (a : W) (x : O) (t rest : Trace T) (y : O) → IsOver how
      → WasGiven f made (seq now t) a x how y → WasGiven f made (seq now (followed_by t rest)) a x how y
  passes-past how now a x t rest y over given =
      subst (λ u. WasGiven f made u a x how y) (sym (seq-followed_by now t rest))
      (given-past f lawful made taking how (seq now t) a x y (seq (seq_after now t) rest) over given)

  passes-stops : (now : List (Stage T)) (a : W) (x : O) (xs : List T) (now' : List (Stage T)) (b : W) (y : O) (rest : Trace T)
      → FoldsOn f made now a x (open_trace xs) now' b y
      → WasGiven f made (seq now (followed_by (open_trace xs) rest)) a x (Err Memory) y
  passes-stops now a x xs now' b y rest on =
      subst (λ u. WasGiven f made u a x (Err Memory) y) (sym (on.on.answers rest))
      (given-stops f lawful made taking on.out on.parts (seq now' rest) a x b y on.stand on.taken)

  fed-answer : (now now' : List (Stage T)) (t : Trace T) (out : List T) (e : Option Ending) → IsFed now t [] out now' e → seq now t ≡ trace_of out e
  fed-answer now now' t out e fed =
      let items = fed.items in let told = fed.told in
      ap (λ xs. trace_of xs (seq now t).ending) (sym items) ∙ ap (trace_of out) (sym told)

  given-fed : (how : Result (Option Ending) DeliveryFault) (now now' : List (Stage T)) (t : Trace T) (out : List T) (e : Option Ending)
      (a : W) (x : O) (b : W) (y : O) → IsFed now t [] out now' e
      → made a x (trace_of (fold_of f out ∷ []) e) how b y → WasGiven f made (seq now t) a x how y
  given-fed how now now' t out e a x b y fed is =
      subst (λ u. WasGiven f made u a x how y) (sym (fed-answer now now' t out e fed))
      (record { parts = trace_of (fold_of f out ∷ []) e; folds = as_one-folded f lawful (trace_of out e); last = b; taken = is })

  -- what came out of items that were fed was taken as one accumulator
  pub passes-all : (how : Result (Option Ending) DeliveryFault) (now now' : List (Stage T)) (t : Trace T) (out : List T)
      (e : Option Ending) (a : W) (x : O) (b : W) (y : O) → IsFed now t [] out now' e → (how ≡ Ok None → e ≡ None)
      → made a x (trace_of (fold_of f out ∷ []) e) how b y → Passes f made now a x t how now' b y
  passes-all (Ok None) now now' t out e a x b y fed last is =
      let none : e ≡ None = last refl in
      let open_fed : IsFed now t [] out now' None = subst (IsFed now t [] out now') none fed in
      record {
        out = out;
        on = record {
          answers = λ rest.
              seq-followed_by now t rest
              ∙ ap (λ u. followed_by u (seq (seq_after now t) rest)) (fed-answer now now' t out None open_fed)
              ∙ ap (λ left. followed_by (open_trace out) (seq left rest)) (sym (open_fed.left refl));
        };
        parts = fold_of f out ∷ [];
        stand = λ before. lawful.joins before out;
        taken = subst (λ o. made a x (trace_of (fold_of f out ∷ []) o) (Ok None) b y) none is;
      }
  passes-all (Ok (Some g)) now now' t out e a x b y fed last is = given-fed (Ok (Some g)) now now' t out e a x b y fed is
  passes-all (Err fault) now now' t out e a x b y fed last is = given-fed (Err fault) now now' t out e a x b y fed is

-- nothing was given on, since memory ran out
pub made-none : {L F T A U W O : Type 0} (meaning : L → Meaning T) (folding : F → Folding T A U) → ((a : F) → IsFolding (folding a))
    → (made : W → O → Trace A → Result (Option Ending) DeliveryFault → W → O → Type 0) → IsTaking made → (d d' : FoldBlocks L F W) (x : O) (t : Trace T)
    → (how : Result (Option Ending) DeliveryFault) → how ≡ Err Memory → d'.aggregator ≡ d.aggregator → MadeBy meaning folding made d x t how d' x
made-none meaning folding lawful made taking d d' x t how is same =
    let none = given-none (folding d.aggregator.now) (lawful d.aggregator.now) made taking (seq (stages meaning d.pipeline) t) d.inner x in
    rw is (record { same = same; passes = none })

-- one trace after another
pub made-lawful : {L F T A U W O : Type 0} (meaning : L → Meaning T) (folding : F → Folding T A U) → ((a : F) → IsFolding (folding a))
    → (made : W → O → Trace A → Result (Option Ending) DeliveryFault → W → O → Type 0) → IsTaking made → IsTaking (MadeBy meaning folding made)
made-lawful meaning folding lawful made taking =
    record {
      begins = λ d x.
          record {
            same = refl;
            passes = passes-begins (folding d.aggregator.now) (lawful d.aggregator.now) made taking (stages meaning d.pipeline) d.inner x;
          };
      goes_on = λ d x xs d1 y t how d2 z first second.
          record {
            same = second.same ∙ first.same;
            passes = passes-goes_on (folding d.aggregator.now) (lawful d.aggregator.now) made taking (stages meaning d.pipeline) d.inner x
                xs (stages meaning d1.pipeline) d1.inner y t how (stages meaning d2.pipeline) d2.inner z
                first.passes
                (subst (λ g. Passes (folding g.now) made (stages meaning d1.pipeline) d1.inner y t how (stages meaning d2.pipeline) d2.inner z)
                first.same second.passes);
          };
      ends = λ d x t e d' y rest is.
          record {
            same = is.same;
            passes = passes-past (folding d.aggregator.now) (lawful d.aggregator.now) made taking (Ok (Some e))
                (stages meaning d.pipeline) d.inner x t rest y tt is.passes;
          };
      breaks = λ d x t fault d' y rest is.
          record {
            same = is.same;
            passes = passes-past (folding d.aggregator.now) (lawful d.aggregator.now) made taking (Err fault)
                (stages meaning d.pipeline) d.inner x t rest y tt is.passes;
          };
      stops = λ d x xs d' y rest is.
          record {
            same = is.same;
            passes = passes-stops (folding d.aggregator.now) (lawful d.aggregator.now) made taking (stages meaning d.pipeline) d.inner x
                xs (stages meaning d'.pipeline) d'.inner y rest is.passes;
          };
    }
