use Rattle.std.proofs.Common.{◌≡◌, ◌+◌, ◌%◌, ℕ, List, Ok, Err, false, arith, length, length-append, ◌++◌, true, take, drop, refl, ap, sym, subst}
use Rattle.std.proofs.Common.{◌∙◌, take-append-drop}
use Rattle.std.specs.Io.KnownBytes.{Consumes, IsAtEnd}
use Rattle.plinq_text.specs.Lines.{is_whole, lines_of}
use Rattle.plinq_text.specs.Steady.{has_check}
use Rattle.plinq_text.specs.StepPatterns.{ArePatternsOf}
use Rattle.plinq_rounds.specs.declared.lines_fault.LinesFault.TheVariants.{Memory, Read}
use Rattle.plinq_rounds.specs.Streams.{AnswersLines, Passes, fails}
use Rattle.plinq_rounds.proofs.PassLaws.{err-is, ok-is}
use Rattle.plinq_rounds.proofs.Streaming.{Streamed, none-streamed, read-more}
use Rattle.plinq_rounds.proofs.Streaming.{streamed-broke, streamed-ends, streamed-fails, streamed-on, streamed-over}
use Rattle.plinq_rounds.proofs.stream.answer_lines.Goals as goal

pub loop-init : goal.loop-init
loop-init g c = record {
  streamed = subst (λ held. Streamed c.args.steps.now (g.I.Read.remaining c.args.reader.now) (g.I.Read.remaining c.args.reader.now)
      (g.W.Write.contents c.args.out.now) (g.W.Write.contents c.args.out.now) held c.args.steps.now 0)
      (sym c.clear.ensures) (none-streamed c.args.steps.now _ _);
  came = tt {0};
  patterns = c.in-Ok.ensures;
}

pub returns-in_default : goal.returns-in_default
returns-in_default g c =
    streamed-fails (Unit {0}) (none-streamed c.args.steps.now (g.I.Read.remaining c.args.reader.now) (g.W.Write.contents c.args.out.now)) Memory refl

pub returns-then-is_over : goal.returns-then-is_over
returns-then-is_over g c = streamed-over c.loop.invariant.streamed (sym c.is_over.ensures ∙ c.if-is_over.true) (tt {0})

pub returns-in-Err : goal.returns-in-Err
returns-in-Err g c = streamed-fails (Unit {0}) c.loop.invariant.streamed c.in-Err.fault c.in-Err.ensures.failed

pub returns-then-count-eq0 : goal.returns-then-count-eq0
returns-then-count-eq0 g c =
    let came = c.in-Ok-read_unless.ensures.came in
    let held : c.as_slice-then-count-eq0.result.now ≡ c.loop.buffer ++ came.0 = c.as_slice-then-count-eq0.ensures ∙ came.2 in
    let read = read-more c.loop.invariant.streamed (g.I.Read.remaining c.read_unless.new.reader) came.0 c.as_slice-then-count-eq0.result.now came.3 held in
    let answers = streamed-ends read (g.W.Write.contents c.answer_last-outcome.new.out) c.answer_last-outcome.new.steps c.answer_last-outcome.result
    (c.in-Ok-read_unless.ensures.ended c.if-count-eq0.true) c.answer_last-outcome.ensures in
    subst (λ r. AnswersLines c.args.steps.now (g.I.Read.remaining c.args.reader.now) (g.W.Write.contents c.args.out.now)
    (g.W.Write.contents c.answer_last-outcome.new.out) r c.answer_last-outcome.new.steps) (sym c.ends_behind.ensures) answers

pub returns-in-Err-answer_whole : goal.returns-in-Err-answer_whole
returns-in-Err-answer_whole g c =
    let came = c.in-Ok-read_unless.ensures.came in
    let held = c.read_unless.new.self in
    let whole = c.whole_lines-whole.result in
    let first : c.front-in-loop.result.now ≡ take whole held = c.front-in-loop.ensures in
    let parts : held ≡ c.front-in-loop.result.now ++ drop whole held = sym (take-append-drop whole held) ∙ ap (λ b. b ++ drop whole held) (sym first) in
    let are_lines : is_whole c.front-in-loop.result.now ≡ true = ap is_whole first ∙ c.whole_lines-whole.ensures.whole in
    let read = read-more c.loop.invariant.streamed (g.I.Read.remaining c.read_unless.new.reader) came.0 held came.3 came.2 in
    let broke = streamed-broke (Unit {0}) read c.front-in-loop.result.now (drop whole held) (g.W.Write.contents c.answer_whole.new.out)
    c.in-Err-answer_whole.fault parts are_lines c.in-Err-answer_whole.ensures.passes in
    subst (λ f. AnswersLines {A = Unit {0}} c.args.steps.now (g.I.Read.remaining c.args.reader.now) (g.W.Write.contents c.args.out.now)
    (g.W.Write.contents c.answer_whole.new.out) (Err f) c.answer_whole.new.steps) (sym c.behind-in-Err-answer_whole.ensures) broke

pub returns-in-Err-hold : goal.returns-in-Err-hold
returns-in-Err-hold g c =
    let came = c.in-Ok-read_unless.ensures.came in
    let held = c.read_unless.new.self in
    let whole = c.whole_lines-whole.result in
    let read = read-more c.loop.invariant.streamed (g.I.Read.remaining c.read_unless.new.reader) came.0 held came.3 came.2 in
    streamed-fails (Unit {0}) read c.in-Err-hold.fault c.in-Err-hold.ensures.failed

pub returns-in-Err-outcome : goal.returns-in-Err-outcome
returns-in-Err-outcome g c =
    let came = c.in-Ok-read_unless.ensures.came in
    let held = c.read_unless.new.self in
    let whole = c.whole_lines-whole.result in
    let read = read-more c.loop.invariant.streamed (g.I.Read.remaining c.read_unless.new.reader) came.0 held came.3 came.2 in
    let first : c.front.result.now ≡ take whole held = c.front.ensures in
    let parts : held ≡ c.front.result.now ++ drop whole held = sym (take-append-drop whole held) ∙ ap (λ b. b ++ drop whole held) (sym first) in
    let are_lines : is_whole c.front.result.now ≡ true = ap is_whole first ∙ c.whole_lines-whole.ensures.whole in
    let out = g.W.Write.contents c.answer_beside-read.new.out in
    let steps = c.answer_beside-read.new.steps in
    let passes = subst (λ r. Passes {A = Unit {0}} c.loop.steps (lines_of c.front.result.now) (g.W.Write.contents c.loop.out) out r steps)
    c.in-Err-outcome.is c.answer_beside-read.ensures.passes in
    let broke = streamed-broke (Unit {0}) read c.front.result.now (drop whole held) out c.in-Err-outcome.fault parts are_lines passes in
    subst (λ f. AnswersLines {A = Unit {0}} c.args.steps.now (g.I.Read.remaining c.args.reader.now) (g.W.Write.contents c.args.out.now)
    out (Err f) steps) (sym c.behind.ensures) broke

pub returns-then-is_over-2 : goal.returns-then-is_over-2
returns-then-is_over-2 g c =
    let came = c.in-Ok-read_unless.ensures.came in
    let held = c.read_unless.new.self in
    let whole = c.whole_lines-whole.result in
    let read = read-more c.loop.invariant.streamed (g.I.Read.remaining c.read_unless.new.reader) came.0 held came.3 came.2 in
    let first : c.front.result.now ≡ take whole held = c.front.ensures in
    let parts : held ≡ c.front.result.now ++ drop whole held = sym (take-append-drop whole held) ∙ ap (λ b. b ++ drop whole held) (sym first) in
    let are_lines : is_whole c.front.result.now ≡ true = ap is_whole first ∙ c.whole_lines-whole.ensures.whole in
    let steps = c.answer_beside-read.new.steps in
    let out = g.W.Write.contents c.answer_beside-read.new.out in
    let answered = c.answer_beside-read.result.1 in
    let passes : Passes {A = Unit {0}} c.loop.steps (lines_of c.front.result.now) (g.W.Write.contents c.loop.out) out (Ok (tt {0})) steps =
    subst (λ r. Passes {A = Unit {0}} c.loop.steps (lines_of c.front.result.now) (g.W.Write.contents c.loop.out) out r steps) c.in-Ok-outcome.is
    c.answer_beside-read.ensures.passes in
    let again : c.front-in-Ok-outcome.result.now ≡ c.front.result.now = c.front-in-Ok-outcome.ensures ∙ sym c.front.ensures in
    let count : has_check steps ≡ true → c.counted-lines.result ≡ (c.loop.lines + length (lines_of c.front.result.now)) % 18446744073709551616 =
    λ has. c.counted-lines.ensures has ∙ ap (λ t. (c.loop.lines + length (lines_of t)) % 18446744073709551616) again in
    let on = streamed-on read c.front.result.now (drop whole held) steps out (tt {0}) c.counted-lines.result parts are_lines passes count in
    streamed-over on (sym c.is_over-in-Ok-outcome.ensures ∙ c.if-is_over-2.true) (tt {0})

pub returns-in-Err-read : goal.returns-in-Err-read
returns-in-Err-read g c =
    let came = c.in-Ok-read_unless.ensures.came in
    let held = c.read_unless.new.self in
    let whole = c.whole_lines-whole.result in
    let read = read-more c.loop.invariant.streamed (g.I.Read.remaining c.read_unless.new.reader) came.0 held came.3 came.2 in
    let first : c.front.result.now ≡ take whole held = c.front.ensures in
    let parts : held ≡ c.front.result.now ++ drop whole held = sym (take-append-drop whole held) ∙ ap (λ b. b ++ drop whole held) (sym first) in
    let are_lines : is_whole c.front.result.now ≡ true = ap is_whole first ∙ c.whole_lines-whole.ensures.whole in
    let steps = c.answer_beside-read.new.steps in
    let out = g.W.Write.contents c.answer_beside-read.new.out in
    let answered = c.answer_beside-read.result.1 in
    let passes : Passes {A = Unit {0}} c.loop.steps (lines_of c.front.result.now) (g.W.Write.contents c.loop.out) out (Ok (tt {0})) steps =
    subst (λ r. Passes {A = Unit {0}} c.loop.steps (lines_of c.front.result.now) (g.W.Write.contents c.loop.out) out r steps) c.in-Ok-outcome.is
    c.answer_beside-read.ensures.passes in
    let again : c.front-in-Ok-outcome.result.now ≡ c.front.result.now = c.front-in-Ok-outcome.ensures ∙ sym c.front.ensures in
    let count : has_check steps ≡ true → c.counted-lines.result ≡ (c.loop.lines + length (lines_of c.front.result.now)) % 18446744073709551616 =
    λ has. c.counted-lines.ensures has ∙ ap (λ t. (c.loop.lines + length (lines_of t)) % 18446744073709551616) again in
    let on = streamed-on read c.front.result.now (drop whole held) steps out (tt {0}) c.counted-lines.result parts are_lines passes count in
    streamed-fails (Unit {0}) on c.in-Err-read.fault
    (err-is (λ fault. fails fault ≡ false) c.answer_beside-read.result.0 c.in-Err-read.fault c.in-Err-read.is c.answer_beside-read.ensures.failed)

pub loop-preserved-in-Ok-read : goal.loop-preserved-in-Ok-read
loop-preserved-in-Ok-read g c =
    let came = c.in-Ok-read_unless.ensures.came in
    let held = c.read_unless.new.self in
    let whole = c.whole_lines-whole.result in
    let read = read-more c.loop.invariant.streamed (g.I.Read.remaining c.read_unless.new.reader) came.0 held came.3 came.2 in
    let first : c.front.result.now ≡ take whole held = c.front.ensures in
    let parts : held ≡ c.front.result.now ++ drop whole held = sym (take-append-drop whole held) ∙ ap (λ b. b ++ drop whole held) (sym first) in
    let are_lines : is_whole c.front.result.now ≡ true = ap is_whole first ∙ c.whole_lines-whole.ensures.whole in
    let steps = c.answer_beside-read.new.steps in
    let out = g.W.Write.contents c.answer_beside-read.new.out in
    let answered = c.answer_beside-read.result.1 in
    let passes : Passes {A = Unit {0}} c.loop.steps (lines_of c.front.result.now) (g.W.Write.contents c.loop.out) out (Ok (tt {0})) steps =
    subst (λ r. Passes {A = Unit {0}} c.loop.steps (lines_of c.front.result.now) (g.W.Write.contents c.loop.out) out r steps) c.in-Ok-outcome.is
    c.answer_beside-read.ensures.passes in
    let again : c.front-in-Ok-outcome.result.now ≡ c.front.result.now = c.front-in-Ok-outcome.ensures ∙ sym c.front.ensures in
    let count : has_check steps ≡ true → c.counted-lines.result ≡ (c.loop.lines + length (lines_of c.front.result.now)) % 18446744073709551616 =
    λ has. c.counted-lines.ensures has ∙ ap (λ t. (c.loop.lines + length (lines_of t)) % 18446744073709551616) again in
    let on = streamed-on read c.front.result.now (drop whole held) steps out (tt {0}) c.counted-lines.result parts are_lines passes count in
    let result = c.answer_beside-read.result.0 in
    let reader = g.I.Read.remaining c.answer_beside-read.new.reader in
    let next = c.answer_beside-read.new.next in
    let n = c.in-Ok-read.count in
    let more = ok-is (λ k. (piece : List ℕ) × (length piece ≡ k) × (next ≡ c.hold.new.self ++ piece)
    × Consumes (g.I.Read.remaining c.read_unless.new.reader) reader piece) result n c.in-Ok-read.is c.answer_beside-read.ensures.came in
    let ended = ok-is (λ k. k ≡ 0 → IsAtEnd reader) result n c.in-Ok-read.is c.answer_beside-read.ensures.ended in
    let kept : c.hold.new.self ≡ drop whole held = c.in_default-hold.ensures.held ∙ c.back.ensures in
    let after : c.swap.new.x ≡ drop whole held ++ more.0 = c.swap.ensures.x_after ∙ more.2 ∙ ap (λ b. b ++ more.0) kept in
    let long : length c.swap.new.x ≡ length (drop whole held) + length more.0 = ap length after ∙ length-append (drop whole held) more.0 in
    let size : length more.0 ≡ n = more.1 in
    record {
      streamed = read-more on reader more.0 c.swap.new.x more.3 after;
      came = (omega (long, size, arith), ended);
      patterns = subst (ArePatternsOf steps) {x = c.as_slice-then-count-ge-BESIDE_BYTES.result.now} c.as_slice-then-count-ge-BESIDE_BYTES.ensures.value
          (ok-is (λ _. ArePatternsOf steps c.as_slice-then-count-ge-BESIDE_BYTES.result.now) answered (tt {0}) c.in-Ok-outcome.is
          c.answer_beside-read.ensures.kept);
    }

pub loop-preserved : goal.loop-preserved
loop-preserved g c =
    let came = c.in-Ok-read_unless.ensures.came in
    let held = c.read_unless.new.self in
    let whole = c.whole_lines-whole.result in
    let first : c.front-in-loop.result.now ≡ take whole held = c.front-in-loop.ensures in
    let parts : held ≡ c.front-in-loop.result.now ++ drop whole held = sym (take-append-drop whole held) ∙ ap (λ b. b ++ drop whole held) (sym first) in
    let are_lines : is_whole c.front-in-loop.result.now ≡ true = ap is_whole first ∙ c.whole_lines-whole.ensures.whole in
    let read = read-more c.loop.invariant.streamed (g.I.Read.remaining c.read_unless.new.reader) came.0 held came.3 came.2 in
    let again : c.front-in-Ok-answer_whole.result.now ≡ c.front-in-loop.result.now = c.front-in-Ok-answer_whole.ensures ∙ sym c.front-in-loop.ensures in
    let count : has_check c.answer_whole.new.steps ≡ true
    → c.counted-lines-in-Ok-answer_whole.result ≡ (c.loop.lines + length (lines_of c.front-in-loop.result.now)) % 18446744073709551616 =
    λ has. c.counted-lines-in-Ok-answer_whole.ensures has ∙ ap (λ t. (c.loop.lines + length (lines_of t)) % 18446744073709551616) again in
    let on = streamed-on read c.front-in-loop.result.now (drop whole held) c.answer_whole.new.steps (g.W.Write.contents c.answer_whole.new.out)
    c.in-Ok-answer_whole.field-0 c.counted-lines-in-Ok-answer_whole.result parts are_lines c.in-Ok-answer_whole.ensures.passes count in
    record {
      streamed = subst (λ held. Streamed c.args.steps.now (g.I.Read.remaining c.args.reader.now) (g.I.Read.remaining c.read_unless.new.reader)
          (g.W.Write.contents c.args.out.now) (g.W.Write.contents c.answer_whole.new.out) held c.answer_whole.new.steps
          c.counted-lines-in-Ok-answer_whole.result)
          (sym c.drop_front.ensures) on;
      came = tt {0};
      patterns = subst (ArePatternsOf c.answer_whole.new.steps) {x = c.as_slice-in-loop.result.now} c.as_slice-in-loop.ensures.value
          c.in-Ok-answer_whole.ensures.kept;
    }

pub returns : goal.returns
returns g c = streamed-fails (Unit {0}) c.loop.invariant.streamed Read refl
