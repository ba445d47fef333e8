-- An item on its way through the operators, one after another.
use Rattle.std.specs.Prelude.{◌≡◌, ℕ, ◌+◌, ◌<◌, ◌≤◌, List, [], ◌∷◌, ◌++◌, length, take, drop, Bool, true, false, ◌||◌, Option, None, refl}
use Rattle.std.proofs.Common.{sym, ◌∙◌, ap, arith, append_assoc, add-one}
use Rattle.std.proofs.Math.ListN.{get_or, set}
use Rattle.std.proofs.lemmas.List.{drop_more, take_more, set_split, take_more_set, drop-set-lt, drop_all, take-append-drop, length-take-le, take_at, drop_at}
use Rattle.plinq_source.specs.declared.ending.Ending.{Ending}
use Rattle.plinq_source.specs.Trace.{Trace, open_trace, followed_by}
use Rattle.plinq_source.proofs.Followed.{trace_of}
use Rattle.plinq_lambda.specs.Meaning.{Meaning}
use Rattle.plinq_ops.specs.declared.stage_state.StageState.{StageState}
use Rattle.plinq_ops.specs.Stage.{Stage, apply, stage_after, takes_none, some_takes_none}
use Rattle.plinq_ops.specs.Feeding.{IsFed}
use Rattle.plinq_ops.specs.Operator.{state_stage}
use Rattle.plinq_ops.specs.Pipeline.{stages_now}
use Rattle.plinq_ops.specs.inner.FeedingFrom.{FeedsStages}
use Rattle.plinq_ops.proofs.Fed.{fed-through, fed-none, fed-followed_by}

-- an item x that has become y on its way through the first i operators, which are as in `now`: whatever the rest makes of y,
-- all make of x
pub record IsThrough {L T : Type 0} (meaning : L → Meaning T) (ops : List (StageState L)) (x : T) (before out : List T)
    (i : ℕ) (now : List (StageState L)) (y : T) : Type 0 where
  pub same : out ≡ before
  pub undecided : some_takes_none (stages_now meaning (drop i now)) ≡ false
  pub goes_on : (rest : List (StageState L)) (after : List T) (e : Option Ending)
      → IsFed (stages_now meaning (drop i now)) (open_trace (y ∷ [])) out after (stages_now meaning rest) e
      → IsFed (stages_now meaning ops) (open_trace (x ∷ [])) before after (stages_now meaning (take i now ++ rest)) e

-- y before operator i: whatever the operators after it make of what it gives for y, all make of x
pub record IsAt {L T : Type 0} (meaning : L → Meaning T) (ops : List (StageState L)) (x : T) (before out : List T)
    (i : ℕ) (op : StageState L) (now : List (StageState L)) (y : T) : Type 0 where
  pub same : out ≡ before
  pub within : i < length now
  pub takes_some : takes_none (state_stage meaning op) ≡ false
  pub undecided : some_takes_none (stages_now meaning (drop (i + 1) now)) ≡ false
  pub passed : (t : Trace T) (op' : StageState L) (rest : List (StageState L)) (after : List T) (e : Option Ending)
      → t ≡ apply (state_stage meaning op) (open_trace (y ∷ []))
      → state_stage meaning op' ≡ stage_after (state_stage meaning op) (y ∷ [])
      → IsFed (stages_now meaning (drop (i + 1) now)) t out after (stages_now meaning rest) e
      → IsFed (stages_now meaning ops) (open_trace (x ∷ [])) before after (stages_now meaning (take i now ++ op' ∷ rest)) e

first_false : (a b : Bool) → (a || b) ≡ false → a ≡ false
first_false true b none = absurd (cc)
first_false false b none = refl

second_false : (a b : Bool) → (a || b) ≡ false → b ≡ false
second_false true b none = absurd (cc)
second_false false b none = none

-- before the first operator
pub through-none : {L T : Type 0} (meaning : L → Meaning T) (ops : List (StageState L)) (x : T) (before : List T)
    → some_takes_none (stages_now meaning ops) ≡ false → IsThrough meaning ops x before before 0 ops x
through-none meaning ops x before undecided =
    record {
      same = refl;
      undecided = undecided;
      goes_on = λ rest after e fed. fed;
    }

-- all operators have let the item through
pub through-all : {L T : Type 0} {meaning : L → Meaning T} {ops : List (StageState L)} {x : T} {before out : List T} {i : ℕ} {now : List (StageState L)} {y : T}
    → length now ≤ i → IsThrough meaning ops x before out i now y
    → IsFed (stages_now meaning ops) (open_trace (x ∷ [])) before (out ++ y ∷ []) (stages_now meaning now) None
through-all {L} {T} {meaning} {ops} {x} {before} {out} {i} {now} {y} past through =
    let none : drop i now ≡ [] = drop_all i now past in
    let fed : IsFed (stages_now meaning (drop i now)) (open_trace (y ∷ [])) out (out ++ y ∷ []) (stages_now meaning (drop i now)) None =
    rw none (record { items = refl; told = refl; left = λ goes_on. refl }) in
    rw (take-append-drop i now) at (through.goes_on (drop i now) (out ++ y ∷ []) None fed)

-- at the next operator
pub at-op : {L T : Type 0} {meaning : L → Meaning T} {ops : List (StageState L)} {x : T} {before out : List T} {i : ℕ} {op : StageState L}
    {now : List (StageState L)} {y : T}
    (d : StageState L) → i < length now → op ≡ get_or now i d → IsThrough meaning ops x before out i now y
    → IsAt meaning ops x before out i op now y
at-op {L} {T} {meaning} {ops} {x} {before} {out} {i} {op} {now} {y} d within is through =
    let here : drop i now ≡ op ∷ drop (i + 1) now = drop_more now i d within ∙ ap (λ o. o ∷ drop (i + 1) now) (sym is) in
    let undecided = rw here at through.undecided in
    record {
      same = through.same;
      within = within;
      takes_some = first_false _ _ undecided;
      undecided = second_false _ _ undecided;
      passed = λ t op' rest after e gives stage_after fed.
          through.goes_on (op' ∷ rest) after e
          (rw here
          (fed-through (state_stage meaning op) (state_stage meaning op') (y ∷ []) None t (stages_now meaning (drop (i + 1) now))
          (stages_now meaning rest) out after e (sym gives) (sym stage_after) fed));
    }

-- the operator gives one item
pub through-item : {L T : Type 0} {meaning : L → Meaning T} {ops : List (StageState L)} {x : T} {before out : List T} {i : ℕ} {op : StageState L}
    {now : List (StageState L)} {y : T}
    (y' : T) (op' : StageState L) → IsAt meaning ops x before out i op now y
    → open_trace (y' ∷ []) ≡ apply (state_stage meaning op) (open_trace (y ∷ [])) → state_stage meaning op' ≡ stage_after (state_stage meaning op) (y ∷ [])
    → IsThrough meaning ops x before out (i + 1) (set now i op') y'
through-item {L} {T} {meaning} {ops} {x} {before} {out} {i} {op} {now} y' op' here gives stage_after =
    let others : drop (i + 1) (set now i op') ≡ drop (i + 1) now = drop-set-lt (i + 1) now i op' (omega arith) in
    record {
      same = here.same;
      undecided = rw others here.undecided;
      goes_on = λ rest after e fed.
          rw (take_more_set now i op' here.within, append_assoc (take i now) (op' ∷ []) rest)
          (here.passed (open_trace (y' ∷ [])) op' rest after e gives stage_after (rw others at fed));
    }

-- a list of which the first items are known
whole : {A : Type 0} (xs ys : List A) (i : ℕ) (x : A) → take (i + 1) ys ≡ take i xs ++ x ∷ [] → ys ≡ take i xs ++ x ∷ drop (i + 1) ys
whole xs ys i x front = sym (take-append-drop (i + 1) ys) ∙ ap (λ zs. zs ++ drop (i + 1) ys) front ∙ append_assoc (take i xs) (x ∷ []) (drop (i + 1) ys)

-- a SelectMany, with the operators after it, makes this of the item
pub through-expansion : {L T : Type 0} {meaning : L → Meaning T} {ops : List (StageState L)} {x : T} {before out : List T} {i : ℕ} {op : StageState L}
    {now : List (StageState L)} {y : T}
    (s : Stage T) (now' : List (StageState L)) (after : List T) (e : Option Ending) (d : StageState L)
    → i < length now → op ≡ get_or now i d → state_stage meaning op ≡ s → IsThrough meaning ops x before out i now y
    → FeedsStages meaning (s ∷ []) (i + 1) now now' (open_trace (y ∷ [])) out after e
    → IsFed (stages_now meaning ops) (open_trace (x ∷ [])) before after (stages_now meaning now') e
through-expansion {L} {T} {meaning} {ops} {x} {before} {out} {i} {op} {now} {y} s now' after e d within is expands through feeds =
    let here : drop i now ≡ op ∷ drop (i + 1) now = drop_more now i d within ∙ ap (λ o. o ∷ drop (i + 1) now) (sym is) in
    let front : take (i + 1) now' ≡ take i now ++ op ∷ [] = feeds.others ∙ take_more now i d within ∙ ap (λ o. take i now ++ o ∷ []) (sym is) in
    rw (whole now now' i op front)
    (through.goes_on (op ∷ drop (i + 1) now') after e (rw (here, expands) feeds.fed))

-- the operators once one is as it is now
set-parts : {L : Type 0} (now : List (StageState L)) (i : ℕ) (op : StageState L) → i < length now → set now i op ≡ take i now ++ op ∷ drop (i + 1) now
set-parts now i op within = rw add-one (set_split now i op within)

-- the operator gives nothing
pub through-nothing : {L T : Type 0} {meaning : L → Meaning T} {ops : List (StageState L)} {x : T} {before out : List T} {i : ℕ} {op : StageState L}
    {now : List (StageState L)} {y : T}
    (op' : StageState L) → IsAt meaning ops x before out i op now y
    → open_trace [] ≡ apply (state_stage meaning op) (open_trace (y ∷ [])) → state_stage meaning op' ≡ stage_after (state_stage meaning op) (y ∷ [])
    → IsFed (stages_now meaning ops) (open_trace (x ∷ [])) before out (stages_now meaning (set now i op')) None
through-nothing {L} {T} {meaning} {ops} {x} {before} {out} {i} {op} {now} op' here gives stage_after =
    rw (set-parts now i op' here.within)
    (here.passed (open_trace []) op' (drop (i + 1) now) out None gives stage_after (fed-none (stages_now meaning (drop (i + 1) now)) out here.undecided))

-- what the operator gives has gone through those after it
pub through-rest : {L T : Type 0} {meaning : L → Meaning T} {ops : List (StageState L)} {x : T} {before out : List T} {i : ℕ} {op : StageState L}
    {now : List (StageState L)} {y : T}
    (t : Trace T) (op' : StageState L) (now' : List (StageState L)) (after : List T) (e : Option Ending) → IsAt meaning ops x before out i op now y
    → t ≡ apply (state_stage meaning op) (open_trace (y ∷ [])) → state_stage meaning op' ≡ stage_after (state_stage meaning op) (y ∷ [])
    → FeedsStages meaning [] (i + 1) (set now i op') now' t out after e
    → IsFed (stages_now meaning ops) (open_trace (x ∷ [])) before after (stages_now meaning now') e
through-rest {L} {T} {meaning} {ops} {x} {before} {out} {i} {op} {now} t op' now' after e here gives stage_after feeds =
    let others : drop (i + 1) (set now i op') ≡ drop (i + 1) now = drop-set-lt (i + 1) now i op' (omega arith) in
    rw (whole now now' i op' (feeds.others ∙ take_more_set now i op' here.within)) (here.passed t op' (drop (i + 1) now') after e gives stage_after
    (rw others at feeds.fed))

-- and they take what it gives
pub undecided-rest : {L T : Type 0} {meaning : L → Meaning T} {ops : List (StageState L)} {x : T} {before out : List T} {i : ℕ} {op : StageState L}
    {now : List (StageState L)} {y : T}
    (op' : StageState L) → IsAt meaning ops x before out i op now y → some_takes_none (stages_now meaning (drop (i + 1) (set now i op'))) ≡ false
undecided-rest {L} {T} {meaning} {ops} {x} {before} {out} {i} {op} {now} op' here =
    let others : drop (i + 1) (set now i op') ≡ drop (i + 1) now = drop-set-lt (i + 1) now i op' (omega arith) in
    rw others here.undecided

-- ---- a block, from an operator on

-- the operators from one on, where it is as it is now, and all before it are as they were
drop-one : {A : Type 0} (xs ys : List A) (i : ℕ) (x : A) → i < length xs → take (i + 1) ys ≡ take i xs ++ x ∷ [] → drop i ys ≡ x ∷ drop (i + 1) ys
drop-one xs ys i x within front =
    ap (drop i) (whole xs ys i x front) ∙ drop_at (take i xs) (x ∷ drop (i + 1) ys) i (length-take-le i xs (omega (arith, within)))

take-one : {A : Type 0} (xs ys : List A) (i : ℕ) (x : A) → i < length xs → take (i + 1) ys ≡ take i xs ++ x ∷ [] → take i ys ≡ take i xs
take-one xs ys i x within front =
    ap (take i) (whole xs ys i x front) ∙ take_at (take i xs) (x ∷ drop (i + 1) ys) i (length-take-le i xs (omega (arith, within)))

-- what an operator makes of the items goes on through those after it
pub through-first : {L T : Type 0} {meaning : L → Meaning T} {ops ops' : List (StageState L)} {i : ℕ} {t : Trace T} {before after : List T} {e : Option Ending}
    (op op' : StageState L) (xs : List T) (told : Option Ending) (d : StageState L) → i < length ops → op ≡ get_or ops i d
    → t ≡ apply (state_stage meaning op) (trace_of xs told) → state_stage meaning op' ≡ stage_after (state_stage meaning op) xs
    → FeedsStages meaning [] (i + 1) (set ops i op') ops' t before after e → FeedsStages meaning [] i ops ops' (trace_of xs told) before after e
through-first {L} {T} {meaning} {ops} {ops'} {i} {t} {before} {after} {e} op op' xs told d within is gives stage_after feeds =
    let here : drop i ops ≡ op ∷ drop (i + 1) ops = drop_more ops i d within ∙ ap (λ o. o ∷ drop (i + 1) ops) (sym is) in
    let rest : drop (i + 1) (set ops i op') ≡ drop (i + 1) ops = drop-set-lt (i + 1) ops i op' (omega arith) in
    let front : take (i + 1) ops' ≡ take i ops ++ op' ∷ [] = feeds.others ∙ take_more_set ops i op' within in
    record {
      others = take-one ops ops' i op' within front;
      fed = rw (here, drop-one ops ops' i op' within front)
          (fed-through (state_stage meaning op) (state_stage meaning op') xs told t (stages_now meaning (drop (i + 1) ops))
          (stages_now meaning (drop (i + 1) ops')) before after e (sym gives) (sym stage_after) (rw rest at feeds.fed));
    }

-- a SelectMany stays as it is before the operators after it
pub through-expansions : {L T : Type 0} {meaning : L → Meaning T} {ops ops' : List (StageState L)} {i : ℕ} {t : Trace T} {before after : List T}
    {e : Option Ending} (op : StageState L) (s : Stage T) (d : StageState L) → i < length ops → op ≡ get_or ops i d → state_stage meaning op ≡ s
    → FeedsStages meaning (s ∷ []) (i + 1) ops ops' t before after e → FeedsStages meaning [] i ops ops' t before after e
through-expansions {L} {T} {meaning} {ops} {ops'} {i} op s d within is expands feeds =
    let here : drop i ops ≡ op ∷ drop (i + 1) ops = drop_more ops i d within ∙ ap (λ o. o ∷ drop (i + 1) ops) (sym is) in
    let front : take (i + 1) ops' ≡ take i ops ++ op ∷ [] = feeds.others ∙ take_more ops i d within ∙ ap (λ o. take i ops ++ o ∷ []) (sym is) in
    record { others = take-one ops ops' i op within front; fed = rw (here, drop-one ops ops' i op within front, expands) feeds.fed }

-- a trace t that has become u on its way through the operators from place `from` to i, which are as in `now`: whatever the rest make of u,
-- all make of t
pub record GoesThrough {L T : Type 0} (meaning : L → Meaning T) (from : ℕ) (ops : List (StageState L)) (t : Trace T) (i : ℕ) (now : List (StageState L))
    (u : Trace T) : Type 0 where
  pub undecided : some_takes_none (stages_now meaning (drop i now)) ≡ false
  pub goes_on : (ops' : List (StageState L)) (after : List T) (e : Option Ending)
      → FeedsStages meaning [] i now ops' u [] after e → FeedsStages meaning [] from ops ops' t [] after e

module _ {L T : Type 0} {meaning : L → Meaning T} {from i : ℕ} {ops now : List (StageState L)} {t u : Trace T} where
  -- one operator more
  pub goes-next : (op op' : StageState L) (xs : List T) (told : Option Ending) (d : StageState L) → i < length now → op ≡ get_or now i d
      → u ≡ apply (state_stage meaning op) (trace_of xs told) → state_stage meaning op' ≡ stage_after (state_stage meaning op) xs
      → GoesThrough meaning from ops t i now (trace_of xs told) → GoesThrough meaning from ops t (i + 1) (set now i op') u
  goes-next op op' xs told d within is gives stage_after through =
      let here : drop i now ≡ op ∷ drop (i + 1) now = drop_more now i d within ∙ ap (λ o. o ∷ drop (i + 1) now) (sym is) in
      let others : drop (i + 1) (set now i op') ≡ drop (i + 1) now = drop-set-lt (i + 1) now i op' (omega arith) in
      record {
        undecided = rw others (second_false _ _ (rw here at through.undecided));
        goes_on = λ ops' after e feeds. through.goes_on ops' after e (through-first op op' xs told d within is gives stage_after feeds);
      }

  -- all operators have let the trace through
  pub goes-all : length now ≤ i → GoesThrough meaning from ops t i now u → FeedsStages meaning [] from ops now t [] u.items u.ending
  goes-all past through =
      let none : drop i now ≡ [] = drop_all i now past in
      through.goes_on now u.items u.ending (record { others = refl; fed = rw none (record { items = refl; told = refl; left = λ open_still. refl }) })

module _ {L T : Type 0} {meaning : L → Meaning T} {i : ℕ} {ops ops' : List (StageState L)} {before after : List T} {e : Option Ending} where
  -- what came out stands after other items
  pub feeds-appended : {t : Trace T} → FeedsStages meaning [] i ops ops' t [] after e → FeedsStages meaning [] i ops ops' t before (before ++ after) e
  feeds-appended feeds =
      let fed = feeds.fed in
      record { others = feeds.others; fed = record { items = ap (λ xs. before ++ xs) fed.items; told = fed.told; left = fed.left } }

  -- a stage that stays as it is gives the operators this in the place of the items and their ending
  pub feeds-through : {t : Trace T} (s : Stage T) (xs : List T) (told : Option Ending) → apply s (trace_of xs told) ≡ t → stage_after s xs ≡ s
      → FeedsStages meaning [] i ops ops' t before after e → FeedsStages meaning (s ∷ []) i ops ops' (trace_of xs told) before after e
  feeds-through s xs told gives stays feeds = record { others = feeds.others; fed = fed-through s s xs told _ _ _ before after e gives stays feeds.fed }

  -- what is fed after a trace that left the run open
  pub feeds-followed_by : {first : List (Stage T)} {now : List (StageState L)} {between : List T} {a b : Trace T}
      → FeedsStages meaning first i ops now a before between None
      → FeedsStages meaning first i now ops' b between after e → FeedsStages meaning first i ops ops' (followed_by a b) before after e
  feeds-followed_by {first} {now} {between} {a} {b} one next =
      record { others = next.others ∙ one.others; fed = fed-followed_by _ _ _ a b before between after e one.fed next.fed }
