use Rattle.std.proofs.Common.{◌≡◌, ◌<◌, ℕ, List, length, take, ap, sym, subst, arith}
use Rattle.std.proofs.lemmas.List.{length-take-le}
use Rattle.std.specs.Io.KnownBytes.{Consumes}
use Rattle.plinq_cli.proofs.Known.{Consumes-none, Consumes-append, Consumes-append-none, Consumes-end}
use Rattle.plinq_cli.proofs.input.read_pieces.Goals as goal

pub loop-init : goal.loop-init
loop-init g c =
    let told = g.R.Read.remaining c.args.reader.now in
    let P : List ℕ → Type 0 = λ w. Consumes told told w in
    record {
      read = subst P (sym c.new-bytes.ensures.items) (Consumes-none told);
      each = omega arith;
      few = omega (arith, c.new-bytes.ensures.len);
    }

pub loop-preserved : goal.loop-preserved
loop-preserved g c =
    let P : List ℕ → Type 0 = λ w. Consumes (g.R.Read.remaining c.args.reader.now) (g.R.Read.remaining c.read_piece.new.reader) w in
    let taken : length (take c.in_ok-count.count c.read_piece.new.piece) ≡ c.in_ok-count.count = length-take-le _ _ c.in_ok-count.ensures.within in
    let grown = c.in_ok-extend_from_slice.ensures.len in
    record {
      read = subst P (sym c.in_ok-extend_from_slice.ensures.items) (Consumes-append _ _ _ _ _ c.loop.invariant.read c.in_ok-count.ensures.consumed);
      each = omega (arith, grown, taken);
      few = omega (arith, grown, taken);
    }

pub returns-then-count-eq0-clause-bytes : goal.returns-then-count-eq0-clause-bytes
returns-then-count-eq0-clause-bytes g c =
    let room : 0 < length c.read_piece.new.piece = omega arith in
    Consumes-end _ _ _
    (Consumes-append-none _ _ _ _ _ c.loop.invariant.read c.in_ok-count.ensures.consumed (ap (λ n. take n c.read_piece.new.piece) c.if-count-eq0.true))
    (c.in_ok-count.ensures.ended (c.if-count-eq0.true, room))

pub returns-then-count-eq0-clause-end : goal.returns-then-count-eq0-clause-end
returns-then-count-eq0-clause-end g c = let room : 0 < length c.read_piece.new.piece = omega arith in c.in_ok-count.ensures.ended (c.if-count-eq0.true, room)

pub returns-then-count-eq0-clause-few : goal.returns-then-count-eq0-clause-few
returns-then-count-eq0-clause-few g c = c.loop.invariant.few
