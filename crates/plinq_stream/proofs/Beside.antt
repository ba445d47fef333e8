-- Passes of one stream.
use Rattle.std.proofs.Common.{◌∙◌}
use Rattle.plinq_stream.specs.declared.stream.Stream.{Stream}
use Rattle.plinq_stream.specs.declared.stream_pass.StreamPass.{StreamPass}
use Rattle.plinq_stream.specs.Passes.{IsPassOf, IsBeside}

module _ {T C : Type 0} (stream : Stream T C) (p q : StreamPass T) where
  pub pass-beside : IsPassOf stream p → IsBeside p q → IsPassOf stream q
  pass-beside first second = (second.0 ∙ first.0, second.1)
