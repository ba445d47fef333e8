-- From the items that a worker fed to the answer of its chunk.
use Rattle.std.specs.Prelude.{◌≡◌, ℕ, suc, ◌+◌, ◌≤◌, ◌<◌, ◌==◌, pos, List, [], ◌∷◌, ◌++◌, length, take, drop, nat_lt, true, false, cond, Option, Some}
use Rattle.std.specs.Prelude.{None, is_some, MatchBool, refl}
use Rattle.std.specs.List.{list_any}
use Rattle.std.proofs.Common.{sym, ◌∙◌, ap, arith, append-nil, append_assoc}
use Rattle.std.proofs.lemmas.Bool.{lt-leb, le-leb}
use Rattle.std.proofs.lemmas.Bool.Decides.{nat_tests}
use Rattle.std.proofs.lemmas.List.{take-append-drop, length-take-le}
use Rattle.plinq_source.specs.declared.ending.Ending.{Ending}
use Rattle.plinq_source.specs.declared.ending.Ending.TheVariants.{End}
use Rattle.plinq_source.specs.Trace.{Trace, open_trace, ended_trace, followed_by}
use Rattle.plinq_lambda.specs.Meaning.{Meaning}
use Rattle.plinq_ops.specs.declared.op.Op.{Op}
use Rattle.plinq_ops.specs.declared.frag_end.FragEnd.{FragEnd}
use Rattle.plinq_ops.specs.declared.frag_end.FragEnd.TheVariants.{End as EndsHere, Dropped}
use Rattle.plinq_ops.specs.declared.fragments.Fragment.{Fragment}
use Rattle.plinq_ops.specs.Stage.{Stage, seq, seq_after, some_takes_none}
use Rattle.plinq_ops.specs.Feeding.{is_empty_take, IsFed}
use Rattle.plinq_ops.specs.ByKey.{is_by_key, left_at}
use Rattle.plinq_ops.specs.Pipeline.{PipelineView, IsReached, stages}
use Rattle.plinq_ops.specs.Fragment.{fragment_of, glued_trace}
use Rattle.plinq_ops.specs.Chunk.{IsWorkerEnding, IsToldBy, IsFragment, IsStop, ChunkAnswer, no_more, dropped_at, before_answer, chunk_answer}
use Rattle.plinq_ops.specs.Chunk.{stop_over, AfterItems}
use Rattle.plinq_ops.proofs.Open.{open-from_continued, open_after, items-continued_by}
use Rattle.plinq_ops.proofs.Answered.{answer-of_none}
use Rattle.plinq_ops.proofs.ByKey.{fragment_of-keyed, left_at-next, stages-reached}
use Rattle.plinq_ops.proofs.Glue.{glued_trace-keyed}
use Rattle.plinq_ops.proofs.Worker.{seq-ending}

-- an item that was fed to a worker part at its key gives its fragment, and leaves what is left at the next key
pub record IsFragmentFed {L T : Type 0} (meaning : L → Meaning T) (worker : List (Op L)) (key : ℕ) (x : T) (before after : List T) (ss : List (Stage T))
    (ending : Option Ending) : Type 0 where
  pub items : after ≡ before ++ (fragment_of meaning worker key x).items
  pub told : ending ≡ (fragment_of meaning worker key x).ending
  pub sound : IsWorkerEnding ending
  pub left : ending ≡ None → ss ≡ left_at meaning worker (pos (key + 1))

pub fed-fragment : {L T : Type 0} (meaning : L → Meaning T) (worker : List (Op L)) (key : ℕ) (x : T) (before after : List T) (ss ss' : List (Stage T))
    (ending : Option Ending)
    → ss ≡ left_at meaning worker (pos key) → is_by_key worker ≡ true → list_any is_empty_take worker ≡ false
    → IsFed ss (open_trace (x ∷ [])) before after ss' ending
    → IsFragmentFed meaning worker key x before after ss' ending
fed-fragment {L} {T} meaning worker key x before after ss ss' ending is keyed some fed =
    let t : Trace T = open_trace (x ∷ []) in
    let same : seq ss t ≡ fragment_of meaning worker key x = ap (λ stages. seq stages t) is ∙ sym (fragment_of-keyed meaning worker key x keyed some) in
    let sound : IsWorkerEnding (seq (left_at meaning worker (pos key)) t).ending = seq-ending meaning worker (pos key) t tt in
    let told : ending ≡ (seq (left_at meaning worker (pos key)) t).ending = fed.told ∙ ap (λ stages. (seq stages t).ending) is in
    record {
      items = fed.items ∙ ap (λ u. before ++ u.items) same;
      told = fed.told ∙ ap (λ u. u.ending) same;
      sound = rw told sound;
      left = λ goes_on. fed.left goes_on ∙ ap (λ stages. seq_after stages t) is ∙ left_at-next meaning worker key x keyed some (sym told ∙ goes_on);
    }

-- where a Take has none left at a key, the run ends there
fragment_of-over : {L T : Type 0} (meaning : L → Meaning T) (worker : List (Op L)) (key : ℕ) (x : T) → is_by_key worker ≡ true
    → list_any is_empty_take worker ≡ false
    → some_takes_none (left_at meaning worker (pos key)) ≡ true → fragment_of meaning worker key x ≡ ended_trace [] End
fragment_of-over meaning worker key x keyed some over =
    fragment_of-keyed meaning worker key x keyed some ∙ answer-of_none (left_at meaning worker (pos key)) (open_trace (x ∷ [])) over

-- the fragment of an element at whose key a Take has none left
pub fragment-over : {L T : Type 0} (meaning : L → Meaning T) (worker : List (Op L)) (key : ℕ) (x : T) (f : Fragment T) → is_by_key worker ≡ true
    → list_any is_empty_take worker ≡ false
    → some_takes_none (left_at meaning worker (pos key)) ≡ true → f.items.items ≡ [] → f.ending ≡ EndsHere → IsFragment (fragment_of meaning worker key x) f
fragment-over meaning worker key x f keyed some over none ends =
    rw (fragment_of-over meaning worker key x keyed some over) (record { items = none; ending = rw ends refl })

-- an item whose key the cut doesn't reach
pub chunk_answer-cons : {L T : Type 0} (meaning : L → Meaning T) (worker : List (Op L)) (cut key : ℕ) (x : T) (xs : List T) → key ≤ cut
    → chunk_answer meaning worker cut key (x ∷ xs) ≡ before_answer key (fragment_of meaning worker key x).items (fragment_of meaning worker key x).ending
    (chunk_answer meaning worker cut (key + 1) xs)
chunk_answer-cons meaning worker cut key x xs within = rw (lt-leb (suc cut) key (omega arith))

-- an item whose key is above it
chunk_answer-above : {L T : Type 0} (meaning : L → Meaning T) (worker : List (Op L)) (cut key : ℕ) (x : T) (xs : List T) → cut < key
    → chunk_answer meaning worker cut key (x ∷ xs) ≡ dropped_at key
chunk_answer-above meaning worker cut key x xs above = rw (le-leb (suc cut) key (omega arith))

-- there the rest is dropped
pub after-dropped : {L T : Type 0} (meaning : L → Meaning T) (worker : List (Op L)) (cut key : ℕ) (x : T) (xs before out : List T) (all : ChunkAnswer T)
    → cut < key
    → AfterItems before out (chunk_answer meaning worker cut key (x ∷ xs)) all
    → (out ≡ before ++ all.trace.items) × (all.stop ≡ Some key) × (all.dropped ≡ true)
after-dropped meaning worker cut key x xs before out all above past =
    let here = chunk_answer-above meaning worker cut key x xs above in
    (sym (past.items ∙ ap (λ a. out ++ a.trace.items) here ∙ append-nil out), past.stop ∙ ap (λ a. a.stop) here, past.dropped ∙ ap (λ a. a.dropped) here)

-- a chunk that begins where a Take has none left
pub stop-over : {L T : Type 0} (meaning : L → Meaning T) (worker : List (Op L)) (cut key : ℕ) (xs : List T) → is_by_key worker ≡ true
    → list_any is_empty_take worker ≡ false
    → some_takes_none (left_at meaning worker (pos key)) ≡ true
    → ((chunk_answer meaning worker cut key xs).trace.items ≡ []) × IsStop (chunk_answer meaning worker cut key xs) (stop_over cut key (length xs))
stop-over meaning worker cut key [] keyed some over = (refl, (refl, refl, refl))
stop-over {L} {T} meaning worker cut key (x ∷ xs) keyed some over =
    let rest : ChunkAnswer T = chunk_answer meaning worker cut (key + 1) xs in
    let f : Trace T = fragment_of meaning worker key x in
    let ends : f ≡ ended_trace [] End = fragment_of-over meaning worker key x keyed some over in
    let ended_so : (t : Trace T) → t ≡ ended_trace [] End
    → ((before_answer key t.items t.ending rest).trace.items ≡ []) × IsStop (before_answer key t.items t.ending rest)
    (Some (record { key = key; ending = EndsHere })) =
    λ t is. rw is (refl, (refl, refl)) in
    let filled : (length (x ∷ xs) == 0) ≡ false = grind (arith, nat_tests) in
    rw filled
    (elim (nat_lt cut key) as (λ v. ((cond v (dropped_at key) (before_answer key f.items f.ending rest)).trace.items ≡ [])
    × IsStop (cond v (dropped_at key) (before_answer key f.items f.ending rest)) (Some (record { key = key; ending = cond v Dropped EndsHere }))) [
      | true ↦ (refl, (refl, refl))
      | false ↦ ended_so f ends
    ])

-- also where no more is known of the items than that there are some
pub after-rest_dropped : {L T : Type 0} (meaning : L → Meaning T) (worker : List (Op L)) (cut key : ℕ) (xs before out : List T) (all : ChunkAnswer T)
    → 0 < length xs → cut < key
    → AfterItems before out (chunk_answer meaning worker cut key xs) all → (out ≡ before ++ all.trace.items) × (all.stop ≡ Some key) × (all.dropped ≡ true)
after-rest_dropped meaning worker cut key [] before out all some above past = absurd (omega arith)
after-rest_dropped meaning worker cut key (x ∷ xs) before out all some above past = after-dropped meaning worker cut key x xs before out all above past

-- the items that the cut reaches leave the run open: the rest stands after what they give
pub after-open : {L T : Type 0} (meaning : L → Meaning T) (worker : List (Op L)) (cut key next : ℕ) (xs ys : List T) → next ≡ key + length xs
    → (0 < length xs → next ≤ cut + 1)
    → (glued_trace meaning worker key xs None).ending ≡ None
    → AfterItems [] (glued_trace meaning worker key xs None).items (chunk_answer meaning worker cut next ys) (chunk_answer meaning worker cut key (xs ++ ys))
after-open meaning worker cut key next [] ys is within is_open =
    let same : next ≡ key = is ∙ (let e : key + 0 ≡ key = omega arith in e) in
    rw same (record { items = refl; ending = refl; dropped = refl; stop = refl })
after-open {L} {T} meaning worker cut key next (x ∷ xs) ys is within is_open =
    let f : Trace T = fragment_of meaning worker key x in
    let g : Trace T = glued_trace meaning worker (key + 1) xs None in
    let a : ChunkAnswer T = chunk_answer meaning worker cut (key + 1) (xs ++ ys) in
    let rest : ChunkAnswer T = chunk_answer meaning worker cut next ys in
    let reaches : next ≤ cut + 1 = within (omega arith) in
    let first_open : f.ending ≡ None = open-from_continued f.items f.ending g is_open in
    let others : AfterItems [] g.items rest a =
    after-open meaning worker cut (key + 1) next xs ys (omega (arith, is)) (λ some. reaches) (open_after f.items f.ending g first_open is_open) in
    let here : chunk_answer meaning worker cut key (x ∷ (xs ++ ys)) ≡ before_answer key f.items None a =
    chunk_answer-cons meaning worker cut key x (xs ++ ys) (omega (arith, is, reaches)) ∙ ap (λ e. before_answer key f.items e a) first_open in
    let out : (followed_by f g).items ≡ f.items ++ g.items = items-continued_by f.items f.ending g first_open in
    record {
      items =
          ap (λ b. b.trace.items) here ∙ ap (λ zs. f.items ++ zs) others.items ∙ sym (append_assoc f.items g.items rest.trace.items)
          ∙ ap (λ zs. zs ++ rest.trace.items) (sym out);
      ending = ap (λ b. b.trace.ending) here ∙ others.ending;
      dropped = ap (λ b. b.dropped) here ∙ others.dropped;
      stop = ap (λ b. b.stop) here ∙ others.stop;
    }

-- so it is where as many items as the cut reaches were fed as a block, and left the run open
pub after-block : {L T : Type 0} (meaning : L → Meaning T) (worker : List (Op L)) (cut key n : ℕ) (items block filled out : List T)
    (p : PipelineView L) (ss' : List (Stage T))
    → is_by_key worker ≡ true → list_any is_empty_take worker ≡ false
    → n ≤ length items → (0 < n → key + n ≤ cut + 1) → block ≡ take n items → filled ≡ block → IsReached meaning worker key p
    → some_takes_none (stages meaning p) ≡ false
    → IsFed (stages meaning p) (open_trace filled) [] out ss' None
    → AfterItems [] out (chunk_answer meaning worker cut (key + n) (drop n items)) (chunk_answer meaning worker cut key items)
after-block {L} {T} meaning worker cut key n items block filled out p ss' keyed some most within front copied reached undecided fed =
    let ss : List (Stage T) = stages meaning p in
    let xs : List T = take n items in
    let begins : ss ≡ left_at meaning worker (pos key) = stages-reached meaning worker key p reached in
    let same : glued_trace meaning worker key xs None ≡ seq ss (open_trace filled) =
    glued_trace-keyed meaning worker key xs None keyed some (ap some_takes_none (sym begins) ∙ undecided)
    ∙ ap (λ stages. seq stages (open_trace xs)) (sym begins) ∙ ap (λ zs. seq ss (open_trace zs)) (sym (copied ∙ front)) in
    let gives : (glued_trace meaning worker key xs None).items ≡ out = ap (λ t. t.items) same ∙ sym fed.items in
    let long : length xs ≡ n = length-take-le n items most in
    let past =
    after-open meaning worker cut key (key + n) xs (drop n items) (omega (arith, long)) (λ some. within (omega (arith, long)))
    (ap (λ t. t.ending) same ∙ sym fed.told) in
    rw (gives, take-append-drop) at past

-- no item is left
pub after-none : {L T : Type 0} (meaning : L → Meaning T) (worker : List (Op L)) (cut next : ℕ) (ys before out : List T) (all : ChunkAnswer T) → ys ≡ []
    → AfterItems before out (chunk_answer meaning worker cut next ys) all → (out ≡ before ++ all.trace.items) × IsStop all None
after-none meaning worker cut next ys before out all none past =
    let here : chunk_answer meaning worker cut next ys ≡ no_more = ap (chunk_answer meaning worker cut next) none in (
      sym (past.items ∙ ap (λ a. out ++ a.trace.items) here ∙ append-nil out),
      (past.stop ∙ ap (λ a. a.stop) here, past.dropped ∙ ap (λ a. a.dropped) here, past.ending ∙ ap (λ a. a.trace.ending) here),
    )

-- the fragment leaves the run open: it stands with the items before
pub after-more : {L T : Type 0} (meaning : L → Meaning T) (worker : List (Op L)) (cut key : ℕ) (x : T) (xs before out out' : List T)
    (all : ChunkAnswer T) (ss : List (Stage T))
    → key ≤ cut
    → AfterItems before out (chunk_answer meaning worker cut key (x ∷ xs)) all → IsFragmentFed meaning worker key x out out' ss None
    → AfterItems before out' (chunk_answer meaning worker cut (key + 1) xs) all
after-more {L} {T} meaning worker cut key x xs before out out' all ss within past fed =
    let f : Trace T = fragment_of meaning worker key x in
    let rest : ChunkAnswer T = chunk_answer meaning worker cut (key + 1) xs in
    let here : chunk_answer meaning worker cut key (x ∷ xs) ≡ before_answer key f.items None rest =
    chunk_answer-cons meaning worker cut key x xs within ∙ ap (λ e. before_answer key f.items e rest) (sym fed.told) in
    record {
      items =
          past.items ∙ ap (λ a. out ++ a.trace.items) here ∙ sym (append_assoc out f.items rest.trace.items)
          ∙ ap (λ zs. zs ++ rest.trace.items) (sym fed.items);
      ending = past.ending ∙ ap (λ a. a.trace.ending) here;
      dropped = past.dropped ∙ ap (λ a. a.dropped) here;
      stop = past.stop ∙ ap (λ a. a.stop) here;
    }

-- the fragment ends the run: the answer is what is out then
pub record IsStoppedBy {T : Type 0} (key : ℕ) (before out : List T) (ending : Option Ending) (all : ChunkAnswer T) : Type 0 where
  pub items : out ≡ before ++ all.trace.items
  pub ends : all.trace.ending ≡ ending
  pub dropped : all.dropped ≡ false
  pub stop : all.stop ≡ Some key

pub after-stop : {L T : Type 0} (meaning : L → Meaning T) (worker : List (Op L)) (cut key : ℕ) (x : T) (xs before out out' : List T)
    (all : ChunkAnswer T) (ss : List (Stage T)) (ending : Option Ending)
    → key ≤ cut → is_some ending ≡ true → AfterItems before out (chunk_answer meaning worker cut key (x ∷ xs)) all
    → IsFragmentFed meaning worker key x out out' ss ending
    → IsStoppedBy key before out' ending all
after-stop meaning worker cut key x xs before out out' all ss None within ends past fed = absurd (let bad : false ≡ true = ends in cc)
after-stop {L} {T} meaning worker cut key x xs before out out' all ss (Some e) within ends past fed =
    let f : Trace T = fragment_of meaning worker key x in
    let rest : ChunkAnswer T = chunk_answer meaning worker cut (key + 1) xs in
    let here : chunk_answer meaning worker cut key (x ∷ xs) ≡ before_answer key f.items (Some e) rest =
    chunk_answer-cons meaning worker cut key x xs within ∙ ap (λ o. before_answer key f.items o rest) (sym fed.told) in
    record {
      items = fed.items ∙ sym (past.items ∙ ap (λ a. out ++ a.trace.items) here);
      ends = past.ending ∙ ap (λ a. a.trace.ending) here;
      dropped = past.dropped ∙ ap (λ a. a.dropped) here;
      stop = past.stop ∙ ap (λ a. a.stop) here;
    }

-- it is reported so
pub told-stop : {T : Type 0} (key : ℕ) (before out : List T) (ending : Option Ending) (all : ChunkAnswer T) (told : FragEnd)
    → IsStoppedBy key before out ending all → IsToldBy told ending
    → MatchBool all.dropped (told ≡ Dropped) (IsToldBy told all.trace.ending)
told-stop key before out ending all told stopped is = rw (stopped.dropped, stopped.ends) is
