-- What a chain answers is what its query does.
use Rattle.std.specs.Prelude.{◌≡◌, ⊤, ℕ, ℤ, List, [], ◌∷◌, ◌++◌, None, Bool, true, false, not, Option, is_some, Result, Ok, Err, map, MatchResult, pos}
use Rattle.std.proofs.Common.{refl, ap, ◌∙◌, sym, subst}
use Rattle.std.proofs.lemmas.List.{map-append}
use Rattle.plinq_source.specs.declared.ending.Ending.{Ending}
use Rattle.plinq_source.specs.Trace.{Trace, ended_trace}
use Rattle.plinq_lambda.specs.Meaning.{Meaning}
use Rattle.plinq_ops.specs.declared.merge_option.MergeOption.{MergeOption}
use Rattle.plinq_ops.specs.declared.merge_option.MergeOption.TheVariants.{AutoBuffered}
use Rattle.plinq_ops.specs.declared.op.Op.{Op}
use Rattle.plinq_ops.specs.declared.op.Op.TheVariants.{Take, Skip}
use Rattle.plinq_ops.specs.Answer.{MayAnswer}
use Rattle.plinq_ops.specs.Query.{merge_in_force}
use Rattle.plinq_ops.specs.Sequential.{answer_of}
use Rattle.plinq_run.specs.declared.aggregate_fault.AggregateFault.{AggregateFault}
use Rattle.plinq_run.specs.declared.aggregate_fault.AggregateFault.TheVariants.{Ended, Run}
use Rattle.plinq_run.specs.declared.run_fault.RunFault.{RunFault}
use Rattle.plinq_run.specs.declared.run_fault.RunFault.TheVariants.{Memory}
use Rattle.plinq_run.specs.Runs.{cause_of}
use Rattle.plinq_collect.proofs.Gathered.{not-item}
use Rattle.plinq_collect.specs.Calling.{CallsSome, CallsAll, NoRoomOrRefused}
use Rattle.plinq_collect.specs.ItemFoldings.{first_of, has_item, has_none}
use Rattle.plinq_collect.specs.Telling.{GathersSome, IsShort, LacksRoom, TellsSome}
use Rattle.plinq_closures.specs.declared.chain_fault.ChainFault.{ChainFault}
use Rattle.plinq_closures.specs.declared.chain_fault.ChainFault.TheVariants.{Build, Ended as IsEnded, Run as IsRun}
use Rattle.plinq_closures.specs.Asked.{LacksRoomAlone, LacksRoomOrRefused}
use Rattle.plinq_closures.specs.Asked.{HasCalled, HasCalledAll, HasNone, Tells, chain_answer, is_there, negated, chain_outcome}
use Rattle.plinq_closures.specs.Steps.{over}
use Rattle.plinq_closures.proofs.Over.{answer_of-over}

-- what a query may answer that keeps its source's order is what its chain does
only-answer : {L T : Type 0} (f : L → Meaning T) (ordered : Bool) → ordered ≡ true → (ops : List (Op L)) (does : List (Op (Meaning T)))
    → map (over f) ops ≡ does
    → (t u : Trace T) → MayAnswer f ordered ops t u → u ≡ answer_of (λ m. m) does t
only-answer f true is ops does same t u may = may ∙ (answer_of-over f ops t ∙ ap (λ xs. answer_of (λ m. m) xs t) same)
only-answer f false is ops does same t u may = absurd (let bad : false ≡ true = is in cc)

gathers-answer : {L T : Type 0} (f : L → Meaning T) (ordered : Bool) → ordered ≡ true → (ops : List (Op L)) (does : List (Op (Meaning T)))
    → map (over f) ops ≡ does
    → (merge : Option MergeOption) → merge ≡ None → (t : Trace T) (xs : List T) (e : Ending)
    → GathersSome (merge_in_force merge) (MayAnswer f ordered ops t) xs e
    → GathersSome AutoBuffered (λ u. u ≡ answer_of (λ m. m) does t) xs e
gathers-answer f ordered is ops does same merge none t xs e h =
    subst (λ o. GathersSome o (λ u. u ≡ answer_of (λ m. m) does t) xs e) (ap merge_in_force none) (record {
      answer = h.answer;
      may = only-answer f ordered is ops does same t h.answer h.may;
      gathered = h.gathered;
    })

pub vec-answer : {L T V : Type 0} (workers : ℕ) (f : L → Meaning T) (ordered : Bool) → ordered ≡ true → (merge : Option MergeOption) → merge ≡ None
    → (ops : List (Op L)) (does : List (Op (Meaning T))) → map (over f) ops ≡ does → (t : Trace T) (items : V → List T) (r : Result (V × Ending) RunFault)
    → MatchResult r (λ it. GathersSome (merge_in_force merge) (MayAnswer f ordered ops t) (items it.0) it.1) IsShort
    → MatchResult (chain_outcome r) (λ it. GathersSome AutoBuffered (λ u. u ≡ answer_of (λ m. m) does t) (items it.0) it.1) (HasNone workers)
vec-answer workers f ordered is merge none ops does same t items (Ok it) h = gathers-answer f ordered is ops does same merge none t (items it.0) it.1 h
vec-answer workers f ordered is merge none ops does same t items (Err fault) short = short

pub tells-answer : {L T O : Type 0} (workers : ℕ) (tell : List T → O) (f : L → Meaning T) (ordered : Bool) → ordered ≡ true
    → (ops : List (Op L)) (does : List (Op (Meaning T))) → map (over f) ops ≡ does
    → (t : Trace T) (r : Result O AggregateFault) → TellsSome tell (MayAnswer f ordered ops t) r
    → Tells workers tell (answer_of (λ m. m) does t) (chain_answer r)
tells-answer workers tell f ordered is ops does same t (Ok out) (u, may, value, well) =
    let it = only-answer f ordered is ops does same t u may in (value ∙ ap (λ v. tell v.items) it, ap (λ v. v.ending) (sym it) ∙ well)
tells-answer workers tell f ordered is ops does same t (Err (Ended e)) (u, may, ending, bad) =
    let it = only-answer f ordered is ops does same t u may in (ap (λ v. v.ending) (sym it) ∙ ending, bad)
tells-answer workers tell f ordered is ops does same t (Err (Run fault)) short = short

-- the first of its items, by a take of one
pub tells-first : {L T : Type 0} (workers : ℕ) (f : L → Meaning T) (ordered : Bool) → ordered ≡ true
    → (ops : List (Op L)) (does : List (Op (Meaning T))) → map (over f) ops ≡ does
    → (t : Trace T) (r : Result (Option T) AggregateFault) → TellsSome first_of (MayAnswer f ordered (ops ++ Take (pos 1) ∷ []) t) r
    → Tells workers first_of (answer_of (λ m. m) (does ++ Take (pos 1) ∷ []) t) (chain_answer r)
tells-first workers f ordered is ops does same t r tells =
    tells-answer workers first_of f ordered is (ops ++ Take (pos 1) ∷ []) (does ++ Take (pos 1) ∷ [])
    (map-append (over f) ops (Take (pos 1) ∷ []) ∙ ap (λ xs. xs ++ Take (pos 1) ∷ []) same) t r tells

there-first : {T : Type 0} (xs : List T) → is_some (first_of xs) ≡ has_item xs
there-first [] = refl
there-first (x ∷ xs) = refl

pub tells-there : {T : Type 0} (workers : ℕ) (u : Trace T) (r : Result (Option T) ChainFault) → Tells workers first_of u r
    → Tells workers has_item u (is_there r)
tells-there workers u (Ok first) (value, well) = (ap is_some value ∙ there-first u.items, well)
tells-there workers u (Err (IsEnded e)) so = so
tells-there workers u (Err (Build fault)) so = so
tells-there workers u (Err (IsRun fault)) so = so

pub tells-none : {T : Type 0} (workers : ℕ) (u : Trace T) (r : Result Bool ChainFault) → Tells workers has_item u r → Tells workers has_none u (negated r)
tells-none workers u (Ok is) (value, well) = (ap not value ∙ not-item u.items, well)
tells-none workers u (Err (IsEnded e)) so = so
tells-none workers u (Err (Build fault)) so = so
tells-none workers u (Err (IsRun fault)) so = so

-- the item at a place, by a skip and a take of one
pub tells-placed : {L T : Type 0} (workers : ℕ) (f : L → Meaning T) (ordered : Bool) → ordered ≡ true
    → (ops : List (Op L)) (does : List (Op (Meaning T))) → map (over f) ops ≡ does
    → (place : ℤ) (t : Trace T) (r : Result (Option T) AggregateFault)
    → TellsSome first_of (MayAnswer f ordered ((ops ++ Skip place ∷ []) ++ Take (pos 1) ∷ []) t) r
    → Tells workers first_of (answer_of (λ m. m) ((does ++ Skip place ∷ []) ++ Take (pos 1) ∷ []) t) (chain_answer r)
tells-placed workers f ordered is ops does same place t r tells =
    tells-first workers f ordered is (ops ++ Skip place ∷ []) (does ++ Skip place ∷ [])
    (map-append (over f) ops (Skip place ∷ []) ∙ ap (λ xs. xs ++ Skip place ∷ []) same) t r tells

has-called : {F T : Type 0} {workers : ℕ} (Step : F → T → Result ⊤ ℕ → F → Type 0) (u : Trace T) (by : F) (r : Result Ending RunFault) (g : F)
    → CallsSome Step AutoBuffered (λ v. v ≡ u) by r g → HasCalled workers Step u by (chain_outcome r) g
has-called Step u by (Ok e) g h = record { calls = h }
has-called Step u by (Err fault) g h = record { calls = h }

-- what a closure was called with
pub called-answer : {L F T : Type 0} {workers : ℕ} (Step : F → T → Result ⊤ ℕ → F → Type 0) (f : L → Meaning T) (ordered : Bool) → ordered ≡ true
    → (merge : Option MergeOption) → merge ≡ None
    → (ops : List (Op L)) (does : List (Op (Meaning T))) → map (over f) ops ≡ does
    → (t : Trace T) (by : F) (r : Result Ending RunFault) (outcome : Result Ending ChainFault) (g : F)
    → outcome ≡ chain_outcome r → CallsSome Step (merge_in_force merge) (MayAnswer f ordered ops t) by r g
    → HasCalled workers Step (answer_of (λ m. m) does t) by outcome g
called-answer {workers = workers} Step f ordered is merge none ops does same t by r outcome g is_outcome h =
    let calls = subst (λ o. CallsSome Step o (λ u. u ≡ answer_of (λ m. m) does t) by r g) (ap merge_in_force none) (record {
      answer = h.answer;
      may = only-answer f ordered is ops does same t h.answer h.may;
      calls = h.calls;
      all = h.all;
    }) in
    subst (λ it. HasCalled workers Step (answer_of (λ m. m) does t) by it g) (sym is_outcome) (has-called Step (answer_of (λ m. m) does t) by r g calls)

-- on one thread
pub vec-sequentially : {L T V : Type 0} (workers : ℕ) (f : L → Meaning T) (ops : List (Op L)) (does : List (Op (Meaning T))) → map (over f) ops ≡ does
    → (t : Trace T) (items : V → List T) (r : Result (V × Ending) RunFault)
    → MatchResult r (λ it. ended_trace (items it.0) it.1 ≡ answer_of f ops t) (λ fault. fault ≡ Memory)
    → MatchResult (chain_outcome r) (λ it. ended_trace (items it.0) it.1 ≡ answer_of (λ m. m) does t) (HasNone workers)
vec-sequentially workers f ops does same t items (Ok it) h = h ∙ only-answer f true refl ops does same t (answer_of f ops t) refl
vec-sequentially workers f ops does same t items (Err fault) short = ap cause_of short

has-called_all : {F T : Type 0} {workers : ℕ} (Step : F → T → Result ⊤ ℕ → F → Type 0) (u : Trace T) (by : F) (r : Result Ending RunFault) (g : F)
    → CallsAll Step u by r g → HasCalledAll workers Step u by (chain_outcome r) g
has-called_all Step u by (Ok e) g h = record { calls = h }
has-called_all Step u by (Err fault) g h = record { calls = h }

pub called-sequentially : {L F T : Type 0} {workers : ℕ} (Step : F → T → Result ⊤ ℕ → F → Type 0) (f : L → Meaning T) (ops : List (Op L))
    (does : List (Op (Meaning T)))
    → map (over f) ops ≡ does
    → (t : Trace T) (by : F) (r : Result Ending RunFault) (outcome : Result Ending ChainFault) (g : F) → outcome ≡ chain_outcome r
    → CallsAll Step (answer_of f ops t) by r g
    → HasCalledAll workers Step (answer_of (λ m. m) does t) by outcome g
called-sequentially {workers = workers} Step f ops does same t by r outcome g is_outcome h =
    subst (λ it. HasCalledAll workers Step (answer_of (λ m. m) does t) by it g) (sym is_outcome) (has-called_all Step (answer_of (λ m. m) does t) by r g
    (subst (λ u. CallsAll Step u by r g) (only-answer f true refl ops does same t (answer_of f ops t) refl) h))

-- a fault is passed on as it is
pub lacks-run : {O : Type 0} (P : O → Type 0) (r : Result O RunFault) → MatchResult r P (λ fault. fault ≡ Memory)
    → LacksRoomAlone (chain_outcome r)
lacks-run P (Ok out) h = tt
lacks-run P (Err fault) lacks = lacks

pub lacks-answer : {O : Type 0} (r : Result O AggregateFault) → LacksRoom r → LacksRoomAlone (chain_answer r)
lacks-answer (Ok out) lacks = tt
lacks-answer (Err (Ended e)) lacks = tt
lacks-answer (Err (Run fault)) lacks = lacks

pub lacks-there : {T : Type 0} (r : Result (Option T) ChainFault) → LacksRoomAlone r → LacksRoomAlone (is_there r)
lacks-there (Ok first) lacks = tt
lacks-there (Err (Build fault)) lacks = tt
lacks-there (Err (IsEnded e)) lacks = tt
lacks-there (Err (IsRun fault)) lacks = lacks

pub lacks-called : (r : Result Ending RunFault) → NoRoomOrRefused r → LacksRoomOrRefused (chain_outcome r)
lacks-called (Ok e) lacks = tt
lacks-called (Err fault) lacks = lacks

pub no-room : {O : Type 0} (r : Result O RunFault) → chain_outcome r ≡ Err (IsRun Memory) → r ≡ Err Memory
no-room (Ok out) is = absurd cc
no-room (Err fault) is = cc

pub lacks-negated : (r : Result Bool ChainFault) → LacksRoomAlone r → LacksRoomAlone (negated r)
lacks-negated (Ok is) lacks = tt
lacks-negated (Err fault) lacks = lacks
