use Rattle.std.proofs.Common.{◌≡◌, ◌+◌, ◌%◌, ◌++◌, ℕ, List, None, false, true, arith, length, length-append, take, drop, ap, sym, subst, ◌∙◌, take-append-drop}
use Rattle.std.specs.Io.KnownBytes.{Consumes, IsAtEnd}
use Rattle.std.specs.List.{fold}
use Rattle.plinq_text.specs.Lines.{is_whole, lines_of}
use Rattle.plinq_text.specs.Steady.{has_check}
use Rattle.plinq_text.specs.StepPatterns.{ArePatternsOf}
use Rattle.plinq_text.specs.Steps.{answer, bad_line, left}
use Rattle.plinq_rounds.specs.inner.Rounds.{RoundEnds}
use Rattle.plinq_rounds.specs.Streams.{fails}
use Rattle.plinq_rounds.specs.Tallying.{FindsBad, TakesLines, ended}
use Rattle.plinq_rounds.proofs.PassLaws.{err-is, ok-is, still-ok}
use Rattle.plinq_rounds.proofs.TallyingLaws.{Tallied, ended-whole, more-read, none-found, none-tallied, tallied-broke, tallied-ends, tallied-on, tallied-over}
use Rattle.plinq_rounds.proofs.tallying.tally_lines.Goals as goal

pub loop-init : goal.loop-init
loop-init g c = record {
  tallied = subst (λ held. Tallied g.T.TakeLines.after c.args.steps.now (g.I.Read.remaining c.args.reader.now) (g.I.Read.remaining c.args.reader.now)
      c.args.taker.now c.args.taker.now held c.args.steps.now 0)
      (sym c.clear.ensures) (none-tallied g.T.TakeLines.after c.args.steps.now _ _);
  came = tt {0};
  patterns = c.in-Ok.ensures;
}

pub returns-then-is_over : goal.returns-then-is_over
returns-then-is_over g c = tallied-over c.loop.invariant.tallied (sym c.is_over.ensures ∙ c.if-is_over.true) (tt {0})

pub returns-in-Err-end_line : goal.returns-in-Err-end_line
returns-in-Err-end_line g c = none-found _ _ c.in-Err-end_line.fault c.in-Err-end_line.ensures.failed

pub tally_round-outcome-requires-clause-whole : goal.tally_round-outcome-requires-clause-whole
tally_round-outcome-requires-clause-whole g c = λ κs here.
    ap is_whole (c.as_slice-in-Ok-end_line.ensures ∙ c.in-Ok-end_line.ensures.ended) ∙ ended-whole c.read_unless.new.self

pub returns-in-Ok-end_line : goal.returns-in-Ok-end_line
returns-in-Ok-end_line g c =
    let came = c.in-Ok-read_unless.ensures.came in
    let held = c.read_unless.new.self in
    let text : c.as_slice-in-Ok-end_line.result.now ≡ ended held = c.as_slice-in-Ok-end_line.ensures ∙ c.in-Ok-end_line.ensures.ended in
    let read = more-read c.loop.invariant.tallied (g.I.Read.remaining c.read_unless.new.reader) came.0 held came.3 came.2 in
    let round = c.tally_round-outcome.result in
    let ends = tallied-ends read c.tally_round-outcome.new.taker c.tally_round-outcome.new.steps round
    (c.in-Ok-read_unless.ensures.ended c.if-count-eq0.true)
    (still-ok round (λ _ takes. takes ∙ ap (λ b. fold g.T.TakeLines.after c.loop.taker (answer c.loop.steps (lines_of b))) text)
    c.tally_round-outcome.ensures.takes)
    (still-ok round (λ _ rest. rest ∙ ap (λ b. left c.loop.steps (lines_of b)) text) c.tally_round-outcome.ensures.left)
    (subst (λ b. RoundEnds (bad_line c.loop.steps (lines_of b)) round) text c.tally_round-outcome.ensures.bad) in
    subst (λ r. TakesLines g.T.TakeLines.after c.args.steps.now (g.I.Read.remaining c.args.reader.now) c.args.taker.now c.tally_round-outcome.new.taker r
    c.tally_round-outcome.new.steps) (sym c.ends_behind.ensures) ends

pub returns-in-Err-tally_round : goal.returns-in-Err-tally_round
returns-in-Err-tally_round g c =
    let came = c.in-Ok-read_unless.ensures.came in
    let held = c.read_unless.new.self in
    let whole = c.whole_lines-whole.result in
    let first : c.front-in-loop.result.now ≡ take whole held = c.front-in-loop.ensures in
    let parts : held ≡ c.front-in-loop.result.now ++ drop whole held = sym (take-append-drop whole held) ∙ ap (λ b. b ++ drop whole held) (sym first) in
    let are_lines : is_whole c.front-in-loop.result.now ≡ true = ap is_whole first ∙ c.whole_lines-whole.ensures.whole in
    let read = more-read c.loop.invariant.tallied (g.I.Read.remaining c.read_unless.new.reader) came.0 held came.3 came.2 in
    subst (FindsBad c.args.steps.now (g.I.Read.remaining c.args.reader.now)) (sym c.behind-in-Err-tally_round.ensures)
    (tallied-broke read c.front-in-loop.result.now (drop whole held) c.in-Err-tally_round.fault parts are_lines c.in-Err-tally_round.ensures.bad)

pub returns-in-Err-hold : goal.returns-in-Err-hold
returns-in-Err-hold g c = none-found _ _ c.in-Err-hold.fault c.in-Err-hold.ensures.failed

pub returns-in-Err-outcome : goal.returns-in-Err-outcome
returns-in-Err-outcome g c =
    let came = c.in-Ok-read_unless.ensures.came in
    let held = c.read_unless.new.self in
    let whole = c.whole_lines-whole.result in
    let read = more-read c.loop.invariant.tallied (g.I.Read.remaining c.read_unless.new.reader) came.0 held came.3 came.2 in
    let first : c.front.result.now ≡ take whole held = c.front.ensures in
    let parts : held ≡ c.front.result.now ++ drop whole held = sym (take-append-drop whole held) ∙ ap (λ b. b ++ drop whole held) (sym first) in
    let are_lines : is_whole c.front.result.now ≡ true = ap is_whole first ∙ c.whole_lines-whole.ensures.whole in
    let ends = subst (λ r. RoundEnds (bad_line c.loop.steps (lines_of c.front.result.now)) r) c.in-Err-outcome.is c.tally_beside-read.ensures.bad in
    subst (FindsBad c.args.steps.now (g.I.Read.remaining c.args.reader.now)) (sym c.behind.ensures)
    (tallied-broke read c.front.result.now (drop whole held) c.in-Err-outcome.fault parts are_lines ends)

pub returns-then-is_over-2 : goal.returns-then-is_over-2
returns-then-is_over-2 g c =
    let came = c.in-Ok-read_unless.ensures.came in
    let held = c.read_unless.new.self in
    let whole = c.whole_lines-whole.result in
    let read = more-read c.loop.invariant.tallied (g.I.Read.remaining c.read_unless.new.reader) came.0 held came.3 came.2 in
    let first : c.front.result.now ≡ take whole held = c.front.ensures in
    let parts : held ≡ c.front.result.now ++ drop whole held = sym (take-append-drop whole held) ∙ ap (λ b. b ++ drop whole held) (sym first) in
    let are_lines : is_whole c.front.result.now ≡ true = ap is_whole first ∙ c.whole_lines-whole.ensures.whole in
    let steps = c.tally_beside-read.new.steps in
    let taker = c.tally_beside-read.new.taker in
    let taken = c.tally_beside-read.result.1 in
    let lines = lines_of c.front.result.now in
    let takes = ok-is (λ _. taker ≡ fold g.T.TakeLines.after c.loop.taker (answer c.loop.steps lines)) taken (tt {0}) c.in-Ok-outcome.is
    c.tally_beside-read.ensures.takes in
    let rest = ok-is (λ _. steps ≡ left c.loop.steps lines) taken (tt {0}) c.in-Ok-outcome.is c.tally_beside-read.ensures.left in
    let good : bad_line c.loop.steps lines ≡ None =
    subst (λ r. RoundEnds (bad_line c.loop.steps lines) r) c.in-Ok-outcome.is c.tally_beside-read.ensures.bad in
    let again : c.front-in-Ok-outcome.result.now ≡ c.front.result.now = c.front-in-Ok-outcome.ensures ∙ sym c.front.ensures in
    let count : has_check steps ≡ true → c.counted-lines.result ≡ (c.loop.lines + length lines) % 18446744073709551616 =
    λ has. c.counted-lines.ensures has ∙ ap (λ t. (c.loop.lines + length (lines_of t)) % 18446744073709551616) again in
    let on = tallied-on read c.front.result.now (drop whole held) taker steps c.counted-lines.result parts are_lines takes rest good count in
    tallied-over on (sym c.is_over-in-Ok-outcome.ensures ∙ c.if-is_over-2.true) (tt {0})

pub returns-in-Err-read : goal.returns-in-Err-read
returns-in-Err-read g c =
    none-found _ _ c.in-Err-read.fault
    (err-is (λ fault. fails fault ≡ false) c.tally_beside-read.result.0 c.in-Err-read.fault c.in-Err-read.is c.tally_beside-read.ensures.failed)

pub loop-preserved-in-Ok-read : goal.loop-preserved-in-Ok-read
loop-preserved-in-Ok-read g c =
    let came = c.in-Ok-read_unless.ensures.came in
    let held = c.read_unless.new.self in
    let whole = c.whole_lines-whole.result in
    let read = more-read c.loop.invariant.tallied (g.I.Read.remaining c.read_unless.new.reader) came.0 held came.3 came.2 in
    let first : c.front.result.now ≡ take whole held = c.front.ensures in
    let parts : held ≡ c.front.result.now ++ drop whole held = sym (take-append-drop whole held) ∙ ap (λ b. b ++ drop whole held) (sym first) in
    let are_lines : is_whole c.front.result.now ≡ true = ap is_whole first ∙ c.whole_lines-whole.ensures.whole in
    let steps = c.tally_beside-read.new.steps in
    let taker = c.tally_beside-read.new.taker in
    let taken = c.tally_beside-read.result.1 in
    let lines = lines_of c.front.result.now in
    let takes = ok-is (λ _. taker ≡ fold g.T.TakeLines.after c.loop.taker (answer c.loop.steps lines)) taken (tt {0}) c.in-Ok-outcome.is
    c.tally_beside-read.ensures.takes in
    let rest = ok-is (λ _. steps ≡ left c.loop.steps lines) taken (tt {0}) c.in-Ok-outcome.is c.tally_beside-read.ensures.left in
    let good : bad_line c.loop.steps lines ≡ None =
    subst (λ r. RoundEnds (bad_line c.loop.steps lines) r) c.in-Ok-outcome.is c.tally_beside-read.ensures.bad in
    let again : c.front-in-Ok-outcome.result.now ≡ c.front.result.now = c.front-in-Ok-outcome.ensures ∙ sym c.front.ensures in
    let count : has_check steps ≡ true → c.counted-lines.result ≡ (c.loop.lines + length lines) % 18446744073709551616 =
    λ has. c.counted-lines.ensures has ∙ ap (λ t. (c.loop.lines + length (lines_of t)) % 18446744073709551616) again in
    let on = tallied-on read c.front.result.now (drop whole held) taker steps c.counted-lines.result parts are_lines takes rest good count in
    let result = c.tally_beside-read.result.0 in
    let reader = g.I.Read.remaining c.tally_beside-read.new.reader in
    let next = c.tally_beside-read.new.next in
    let n = c.in-Ok-read.count in
    let more = ok-is (λ k. (piece : List ℕ) × (length piece ≡ k) × (next ≡ c.hold.new.self ++ piece)
    × Consumes (g.I.Read.remaining c.read_unless.new.reader) reader piece) result n c.in-Ok-read.is c.tally_beside-read.ensures.came in
    let ended = ok-is (λ k. k ≡ 0 → IsAtEnd reader) result n c.in-Ok-read.is c.tally_beside-read.ensures.ended in
    let kept : c.hold.new.self ≡ drop whole held = c.in_default-hold.ensures.held ∙ c.back.ensures in
    let after : c.swap.new.x ≡ drop whole held ++ more.0 = c.swap.ensures.x_after ∙ more.2 ∙ ap (λ b. b ++ more.0) kept in
    let long : length c.swap.new.x ≡ length (drop whole held) + length more.0 = ap length after ∙ length-append (drop whole held) more.0 in
    let size : length more.0 ≡ n = more.1 in
    record {
      tallied = more-read on reader more.0 c.swap.new.x more.3 after;
      came = (omega (long, size, arith), ended);
      patterns = subst (ArePatternsOf steps) {x = c.as_slice-then-count-ge-BESIDE_BYTES.result.now} c.as_slice-then-count-ge-BESIDE_BYTES.ensures.value
          (ok-is (λ _. ArePatternsOf steps c.as_slice-then-count-ge-BESIDE_BYTES.result.now) taken (tt {0}) c.in-Ok-outcome.is
          c.tally_beside-read.ensures.kept);
    }

pub loop-preserved : goal.loop-preserved
loop-preserved g c =
    let came = c.in-Ok-read_unless.ensures.came in
    let held = c.read_unless.new.self in
    let whole = c.whole_lines-whole.result in
    let first : c.front-in-loop.result.now ≡ take whole held = c.front-in-loop.ensures in
    let parts : held ≡ c.front-in-loop.result.now ++ drop whole held = sym (take-append-drop whole held) ∙ ap (λ b. b ++ drop whole held) (sym first) in
    let are_lines : is_whole c.front-in-loop.result.now ≡ true = ap is_whole first ∙ c.whole_lines-whole.ensures.whole in
    let read = more-read c.loop.invariant.tallied (g.I.Read.remaining c.read_unless.new.reader) came.0 held came.3 came.2 in
    let again : c.front-in-Ok-tally_round.result.now ≡ c.front-in-loop.result.now = c.front-in-Ok-tally_round.ensures ∙ sym c.front-in-loop.ensures in
    let count : has_check c.tally_round.new.steps ≡ true
    → c.counted-lines-in-Ok-tally_round.result ≡ (c.loop.lines + length (lines_of c.front-in-loop.result.now)) % 18446744073709551616 =
    λ has. c.counted-lines-in-Ok-tally_round.ensures has ∙ ap (λ t. (c.loop.lines + length (lines_of t)) % 18446744073709551616) again in
    let on = tallied-on read c.front-in-loop.result.now (drop whole held) c.tally_round.new.taker c.tally_round.new.steps
    c.counted-lines-in-Ok-tally_round.result parts are_lines
    c.in-Ok-tally_round.ensures.takes c.in-Ok-tally_round.ensures.left c.in-Ok-tally_round.ensures.bad count in
    record {
      tallied = subst (λ held. Tallied g.T.TakeLines.after c.args.steps.now (g.I.Read.remaining c.args.reader.now) (g.I.Read.remaining c.read_unless.new.reader)
          c.args.taker.now c.tally_round.new.taker held c.tally_round.new.steps c.counted-lines-in-Ok-tally_round.result)
          (sym c.drop_front.ensures) on;
      came = tt {0};
      patterns = subst (ArePatternsOf c.tally_round.new.steps) {x = c.as_slice-in-loop.result.now} c.as_slice-in-loop.ensures.value
          c.in-Ok-tally_round.ensures.kept;
    }
