-- What an ordered run delivers, by the definitions that proofs use and by those of the headline.
use Rattle.plinq_run.proofs.RunWords.{◌≡◌, refl, ℕ, List, [], ◌∷◌, ◌++◌, nat_le, length, if◌then◌else◌, Bool, true, Option, Some, None}
use Rattle.plinq_run.proofs.RunWords.{Result, Ok, Err, arith, ap, sym, ◌∙◌, append_assoc, append-nil, nat_tests, Ending, End, Trace, ended_trace}
use Rattle.plinq_run.proofs.RunWords.{followed_by, Meaning, MergeOption, Op, MayAnswer, batches, batches_from, stages_of, answer_of, seq, Report}
use Rattle.plinq_run.proofs.RunWords.{RunFault, Sink, Cancelled, reported_ending, Reports, Runs}
use Rattle.std.specs.Prelude.{pos, negsuc}
use Rattle.plinq_ops.specs.declared.merge_option.MergeOption.TheVariants.{NotBuffered, FullyBuffered}
use Rattle.plinq_ops.specs.declared.op.Op.TheVariants.{Select, Filter, SelectMany, Take, Skip, TakeWhile, SkipWhile, AsUnordered}
use Rattle.plinq_ops.specs.{Batches.full_batches, Batches.held_back, Batches.last_batch, Query.merge_in_force, SkipWhile.skipped_from, SkipWhile.skipped_while}
use Rattle.plinq_ops.specs.{Stage.joined_pieces, Stage.taken_trace, Stage.apply}
use Rattle.plinq_ops.specs.Operator.{selected_piece, filtered_piece, selected_many, taken_while, stage_of}
use Rattle.plinq_merge.specs.Sending.{TakesBeginning}
use Rattle.plinq_run.specs.Headline.{before, or_fault, each, does, answers, in_batches, handed_over, HasDelivered}
use Rattle.plinq_run.proofs.Stopping.{reports-runs}

-- ---- operators

module _ {T : Type 0} where
  skips_while : (r : Result Bool ℕ) (xs : List T) (e : Option Ending) (rest : Trace T)
      → skipped_from r xs e rest ≡ or_fault r (λ passes. if passes then rest else record { items = xs; ending = e })
  skips_while (Ok true) xs e rest = refl
  skips_while answer xs e rest = refl

  -- where each piece, followed by what comes of the later items, is what an item gives
  joined_pieces-each : {A : Type 0} (asks : T → Result A ℕ) (gives : T → A → Trace T → Trace T → Trace T) (piece : T → Result A ℕ → Trace T)
      → ((x : T) (r : Result A ℕ) (here rest : Trace T) → followed_by (piece x r) rest ≡ or_fault r (λ answer. gives x answer here rest))
      → (xs : List T) (e : Option Ending) → joined_pieces (λ x. piece x (asks x)) xs e ≡ each asks gives xs e
  joined_pieces-each asks gives piece same [] e = refl
  joined_pieces-each asks gives piece same (x ∷ xs) e =
      ap (followed_by (piece x (asks x))) (joined_pieces-each asks gives piece same xs e) ∙ same x (asks x) (record { items = x ∷ xs; ending = e }) _

  skipped-each : (test : T → Result Bool ℕ) (xs : List T) (e : Option Ending)
      → skipped_while test xs e ≡ each test (λ x passes here rest. if passes then rest else here) xs e
  skipped-each test [] e = refl
  skipped-each test (x ∷ xs) e =
      ap (skipped_from (test x) (x ∷ xs) e) (skipped-each test xs e) ∙ skips_while (test x) (x ∷ xs) e _

  none-taken_trace : (t : Trace T) → taken_trace 0 t ≡ ended_trace [] End
  none-taken_trace t = let all : nat_le 0 (length t.items) ≡ true = grind (arith, nat_tests) in rw all refl

  module _ {L : Type 0} (meaning : L → Meaning T) where
    applied : (op : Op L) (t : Trace T) → apply (stage_of meaning op) t ≡ does meaning op t
    applied (Select f) t =
        joined_pieces-each _ _ (λ x r. selected_piece r) (λ x. elim [ Ok y ↦ λ here rest. refl | Err code ↦ λ here rest. refl ]) t.items t.ending
    applied (Filter f) t =
        joined_pieces-each _ (λ x passes here rest. if passes then before (x ∷ []) rest else rest) (λ x r. filtered_piece r x)
        (λ x. elim [ Ok true ↦ λ here rest. refl | _ ↦ λ here rest. refl ]) t.items t.ending
    applied (SelectMany f) t =
        joined_pieces-each _ _ (λ x r. selected_many r) (λ x. elim [ Ok ys ↦ λ here rest. refl | Err code ↦ λ here rest. refl ]) t.items t.ending
    applied (TakeWhile f) t =
        joined_pieces-each _ (λ x passes here rest. if passes then before (x ∷ []) rest else ended_trace [] End) (λ x r. taken_while r x)
        (λ x. elim [ Ok true ↦ λ here rest. refl | _ ↦ λ here rest. refl ]) t.items t.ending
    applied (SkipWhile f) t = skipped-each (meaning f).test t.items t.ending
    applied (Take (pos n)) t = refl
    applied (Take (negsuc n)) t = none-taken_trace t
    applied (Skip (pos n)) t = refl
    applied (Skip (negsuc n)) t = refl
    applied AsUnordered t = refl

    pub answers-same : (ops : List (Op L)) (t : Trace T) → answer_of meaning ops t ≡ answers meaning ops t
    answers-same [] t = refl
    answers-same (op ∷ ops) t = ap (λ u. seq (stages_of meaning ops) u) (applied op t) ∙ answers-same ops (does meaning op t)

  -- ---- batches

  -- what is in hand at the end of a trace
  abbrev in_hand : List T → List (List T)
  in_hand [] = []
  in_hand (x ∷ xs) = (x ∷ xs) ∷ []

  cut_up : (n : ℕ) (hand xs : List T) → in_batches n hand xs ≡ full_batches (Some n) hand xs ++ in_hand (held_back (Some n) hand xs)
  cut_up n [] [] = refl
  cut_up n (y ∷ ys) [] = refl
  cut_up n hand (x ∷ xs) = grind (arith, cut_up n [] xs, cut_up n (hand ++ x ∷ []) xs)

  -- where more may come, what is in hand isn't handed over yet
  abbrev kept : List T → Option Ending → List (List T)
  kept xs None = in_hand xs
  kept xs (Some e) = []

  last : (n : ℕ) (xs : List T) (e : Option Ending) → in_hand xs ≡ last_batch (Some n) xs e ++ kept xs e
  last n [] (Some e) = refl
  last n (x ∷ xs) (Some End) = refl
  last n xs e = refl

  -- the batches are all that is handed over, or the beginning of it where more may come
  pub record IsBeginning (option : Option MergeOption) (u : Trace T) : Type 0 where
    pub more : List (List T)
    pub parts : handed_over option u.items u.ending ≡ batches (merge_in_force option) u ++ more
    pub all : (e : Ending) → u.ending ≡ Some e → more ≡ []

  by_size : (n : ℕ) (u : Trace T) → in_batches n [] u.items ≡ batches_from (Some n) [] u ++ kept (held_back (Some n) [] u.items) u.ending
  by_size n u =
      rw (cut_up n [] u.items, last n (held_back (Some n) [] u.items) u.ending) (sym (append_assoc (full_batches (Some n) [] u.items) _ _))

  -- without a size no batch is ever full
  none-full : (hand xs : List T) → full_batches None hand xs ≡ []
  none-full hand [] = refl
  none-full hand (x ∷ xs) = none-full (hand ++ x ∷ []) xs

  all-held : (hand xs : List T) → held_back None hand xs ≡ hand ++ xs
  all-held hand [] = sym (append-nil hand)
  all-held hand (x ∷ xs) = all-held (hand ++ x ∷ []) xs ∙ append_assoc hand (x ∷ []) xs

  at_end : (xs : List T) (e : Option Ending) → handed_over (Some FullyBuffered) xs e ≡ last_batch None xs e
  at_end [] (Some e) = refl
  at_end (x ∷ xs) (Some End) = refl
  at_end xs e = refl

  whole : (u : Trace T) → handed_over (Some FullyBuffered) u.items u.ending ≡ batches_from None [] u ++ []
  whole u = at_end u.items u.ending ∙ rw (none-full [] u.items, all-held [] u.items) (sym (append-nil _))

  begins : (option : Option MergeOption) (u : Trace T) → IsBeginning option u
  begins (Some NotBuffered) u = record { more = _; parts = by_size 1 u; all = λ e is. ap (kept (held_back (Some 1) [] u.items)) is }
  begins (Some FullyBuffered) u = record { more = []; parts = whole u; all = λ e is. refl }
  begins option u = record { more = _; parts = by_size 16 u; all = λ e is. ap (kept (held_back (Some 16) [] u.items)) is }

  -- ---- runs

  module _ {K : Type 0} (accepts : K → List T → K → Type 0) (option : Option MergeOption) (u : Trace T) (s s' : K) where
    first-of : TakesBeginning accepts s (batches (merge_in_force option) u) s' → TakesBeginning accepts s (handed_over option u.items u.ending) s'
    first-of (first, rest, parts, leads) =
        let b = begins option u in (first, rest ++ b.more, b.parts ∙ ap (λ zs. zs ++ b.more) parts ∙ append_assoc first rest b.more, leads)

    runs-delivered : (refuses : K → List T → ℕ → K → Type 0) (r : Result Report RunFault)
        → Runs accepts refuses (merge_in_force option) u s s' (reported_ending r)
        → HasDelivered accepts refuses option u s s' r
    runs-delivered refuses (Ok report) h =
        let b = begins option u in
        (h.ending, rw (b.parts, b.all report.ending h.ending, append-nil (batches (merge_in_force option) u)) h.delivered)
    runs-delivered refuses (Err (Sink code)) (first, next, rest, between, parts, leads, refused) =
        let b = begins option u in
        (first, next, rest ++ b.more, between, b.parts ∙ ap (λ zs. zs ++ b.more) parts ∙ append_assoc first (next ∷ rest) b.more, leads, refused)
    runs-delivered refuses (Err Cancelled) h = absurd h
    runs-delivered refuses (Err fault) h = first-of h

-- an ordered run has delivered what one thread answers
pub ordered-delivered : {L T K : Type 0} (meaning : L → Meaning T) (accepts : K → List T → K → Type 0) (refuses : K → List T → ℕ → K → Type 0)
    (option : Option MergeOption) (ordered : Bool) (ops : List (Op L)) (t : Trace T) (s s' : K)
    (r : Result Report RunFault) → ordered ≡ true → Reports accepts refuses (merge_in_force option) (MayAnswer meaning ordered ops) t s s' r
    → HasDelivered accepts refuses option (answers meaning ops t) s s' r
ordered-delivered meaning accepts refuses option ordered ops t s s' r is h =
    runs-delivered accepts option (answers meaning ops t) s s' refuses r
    (reports-runs accepts refuses (merge_in_force option) (MayAnswer meaning true ops) t s s' (answers meaning ops t) r
    (λ u may. may ∙ answers-same meaning ops t) (rw is at h))
