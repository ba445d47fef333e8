-- Fragments glue to what the worker part gives for the whole, and chunks one after another glue to the whole.
use Rattle.std.specs.Prelude.{◌≡◌, ℕ, suc, ◌+◌, ◌≤◌, pos, List, [], ◌∷◌, ◌++◌, length, true, false, Option, Some, None, refl}
use Rattle.std.specs.List.{list_any}
use Rattle.std.proofs.Common.{sym, ◌∙◌, ap, inl, inr, arith}
use Rattle.std.proofs.lemmas.Bool.{lt-leb}
use Rattle.plinq_source.specs.declared.ending.Ending.{Ending}
use Rattle.plinq_source.specs.Trace.{Trace, open_trace, followed_by, continued_by}
use Rattle.plinq_source.proofs.Followed.{trace_of, followed_by-ended, followed_by-followed_by}
use Rattle.plinq_lambda.specs.Meaning.{Meaning}
use Rattle.plinq_ops.specs.declared.op.Op.{Op}
use Rattle.plinq_ops.specs.Stage.{Stage, apply, seq, seq_after, some_takes_none}
use Rattle.plinq_ops.specs.Operator.{stage_of, stages_of}
use Rattle.plinq_ops.specs.Sequential.{answer_of}
use Rattle.plinq_ops.specs.declared.order.Order.{Order}
use Rattle.plinq_ops.specs.Feeding.{is_empty_take}
use Rattle.plinq_ops.specs.ByKey.{is_by_key, left_at}
use Rattle.plinq_ops.specs.Plan.{known_at_source, worker_part, after_part}
use Rattle.plinq_ops.specs.Fragment.{fragment_of, glued_trace, glue}
use Rattle.plinq_ops.specs.Chunk.{ChunkAnswer, before_answer, chunk_answer}
use Rattle.plinq_ops.proofs.Stages.{seq-followed_by}
use Rattle.plinq_ops.proofs.Open.{none-or_ending, seq-nothing, some-where_open, seq_after-open}
use Rattle.plinq_ops.proofs.Counts.{some_takes_none-stages_of}
use Rattle.plinq_ops.proofs.Parts.{worker-after, worker_part-by_key, parts-undecided}
use Rattle.plinq_ops.proofs.ByKey.{fragment_of-keyed, left_at-next, left_at-start}

-- the glued fragments of items from a key on are what is left of the operators there makes of them
pub glued_trace-keyed : {L T : Type 0} (meaning : L → Meaning T) (worker : List (Op L)) (key : ℕ) (xs : List T) (e : Option Ending)
    → is_by_key worker ≡ true → list_any is_empty_take worker ≡ false
    → some_takes_none (left_at meaning worker (pos key)) ≡ false → glued_trace meaning worker key xs e ≡ seq (left_at meaning worker (pos key)) (trace_of xs e)
glued_trace-keyed meaning worker key [] e keyed some undecided = sym (seq-nothing (left_at meaning worker (pos key)) e undecided)
glued_trace-keyed {L} {T} meaning worker key (x ∷ xs) e keyed some undecided =
    let ss : List (Stage T) = left_at meaning worker (pos key) in
    let first : Trace T = seq ss (open_trace (x ∷ [])) in
    let rest : Trace T = seq (seq_after ss (open_trace (x ∷ []))) (trace_of xs e) in
    let others : followed_by first (glued_trace meaning worker (key + 1) xs e) ≡ followed_by first rest =
    elim (none-or_ending first.ending) [
      | inl is_open ↦
          let next = left_at-next meaning worker key x keyed some is_open in
          let undecided_next : some_takes_none (left_at meaning worker (pos (key + 1))) ≡ false =
          ap some_takes_none (sym next) ∙ some-where_open (seq_after ss (open_trace (x ∷ []))) (seq_after-open ss (open_trace (x ∷ [])) is_open) in
          ap (followed_by first) (glued_trace-keyed meaning worker (key + 1) xs e keyed some undecided_next ∙ ap (λ left. seq left (trace_of xs e)) (sym next))
      | inr ends ↦ followed_by-ended first (glued_trace meaning worker (key + 1) xs e) ends.0 ends.1 ∙ sym (followed_by-ended first rest ends.0 ends.1)
    ] in
    ap (λ t. followed_by t (glued_trace meaning worker (key + 1) xs e)) (fragment_of-keyed meaning worker key x keyed some)
    ∙ others
    ∙ sym (seq-followed_by ss (open_trace (x ∷ [])) (trace_of xs e))

-- the glued fragments of a whole trace are what the operators make of it
pub glue-keyed : {L T : Type 0} (meaning : L → Meaning T) (worker : List (Op L)) (t : Trace T) → is_by_key worker ≡ true → list_any is_empty_take worker ≡ false
    → glue meaning worker t ≡ answer_of meaning worker t
glue-keyed meaning worker t keyed some =
    let all = left_at-start meaning worker in
    glued_trace-keyed meaning worker 0 t.items t.ending keyed some (ap some_takes_none all ∙ sym (some_takes_none-stages_of meaning worker) ∙ some)
    ∙ ap (λ ss. seq ss t) all

pub seq-append : {L T : Type 0} (meaning : L → Meaning T) (before after : List (Op L)) (t : Trace T)
    → seq (stages_of meaning (before ++ after)) t ≡ seq (stages_of meaning after) (seq (stages_of meaning before) t)
seq-append meaning [] after t = refl
seq-append meaning (op ∷ before) after t = seq-append meaning before after (apply (stage_of meaning op) t)

-- the split law: the operators' answer is the after part's answer on the glued fragments of the worker part
pub answer_of-split : {L T : Type 0} (meaning : L → Meaning T) (order : Order) (ops : List (Op L)) (t : Trace T) → list_any is_empty_take ops ≡ false
    → answer_of meaning ops t ≡ answer_of meaning (after_part order ops) (glue meaning (worker_part order ops) t)
answer_of-split meaning order ops t some =
    ap (λ both. answer_of meaning both t) (sym (worker-after (known_at_source order) ops))
    ∙ seq-append meaning (worker_part order ops) (after_part order ops) t
    ∙ ap (seq (stages_of meaning (after_part order ops))) (sym (glue-keyed meaning (worker_part order ops) t (worker_part-by_key order ops)
    (parts-undecided order ops some).0))

-- chunks one after another glue to the whole
pub glued_trace-append : {L T : Type 0} (meaning : L → Meaning T) (worker : List (Op L)) (key : ℕ) (xs ys : List T) (e : Option Ending)
    → glued_trace meaning worker key (xs ++ ys) e ≡ followed_by (glued_trace meaning worker key xs None) (glued_trace meaning worker (key + length xs) ys e)
glued_trace-append meaning worker key [] ys e = ap (λ k. glued_trace meaning worker k ys e) (omega arith)
glued_trace-append meaning worker key (x ∷ xs) ys e =
    ap (followed_by (fragment_of meaning worker key x))
    (glued_trace-append meaning worker (key + 1) xs ys e
    ∙ ap (λ k. followed_by (glued_trace meaning worker (key + 1) xs None) (glued_trace meaning worker k ys e))
    (let same : (key + 1) + length xs ≡ key + length (x ∷ xs) = omega arith in same))
    ∙ sym (followed_by-followed_by (fragment_of meaning worker key x) (glued_trace meaning worker (key + 1) xs None)
    (glued_trace meaning worker (key + length (x ∷ xs)) ys e))

before_answer-trace : {T : Type 0} (key : ℕ) (xs : List T) (e : Option Ending) (a : ChunkAnswer T)
    → (before_answer key xs e a).trace ≡ continued_by xs e a.trace
before_answer-trace key xs None a = refl
before_answer-trace key xs (Some e) a = refl

-- a chunk whose keys the cut doesn't reach gives its glued fragments
pub chunk_answer-uncut : {L T : Type 0} (meaning : L → Meaning T) (worker : List (Op L)) (cut key : ℕ) (xs : List T) → key + length xs ≤ cut + 1
    → (chunk_answer meaning worker cut key xs).trace ≡ glued_trace meaning worker key xs None
chunk_answer-uncut meaning worker cut key [] within = refl
chunk_answer-uncut {L} {T} meaning worker cut key (x ∷ xs) within =
    let f : Trace T = fragment_of meaning worker key x in
    let rest : ChunkAnswer T = chunk_answer meaning worker cut (key + 1) xs in
    rw (lt-leb (suc cut) key (omega arith))
    (before_answer-trace key f.items f.ending rest ∙ ap (continued_by f.items f.ending) (chunk_answer-uncut meaning worker cut (key + 1) xs (omega arith)))
