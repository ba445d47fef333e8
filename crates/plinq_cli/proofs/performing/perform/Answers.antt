-- what the words ask for is done
use Rattle.std.proofs.Common.{map, inl, inr, subst}
use Rattle.std.specs.String.{string_bytes}
use Rattle.clap.specs.Words.{kind_of}
use Rattle.plinq_arguments.specs.Arguments.{IsAsked, Refuses}
use Rattle.plinq_cli.proofs.performing.perform.Goals as goal

pub returns-in-Ok-clause-written : goal.returns-in-Ok-clause-written
returns-in-Ok-clause-written g c =
    let asked = subst (λ words. IsAsked (map string_bytes words) c.in-Ok.arguments) c.as_slice.ensures.value c.in-Ok.ensures in
    inl (c.in-Ok.arguments, asked, c.carry_out.ensures.written)

pub returns-in-Ok-clause-silent : goal.returns-in-Ok-clause-silent
returns-in-Ok-clause-silent g c =
    let asked = subst (λ words. IsAsked (map string_bytes words) c.in-Ok.arguments) c.as_slice.ensures.value c.in-Ok.ensures in
    inr (c.in-Ok.arguments, asked, c.carry_out.ensures.silent)

pub returns-clause-written : goal.returns-clause-written
returns-clause-written g c =
    let kind = kind_of c.in-Err.refusal in
    let refuses = subst (λ words. Refuses (map string_bytes words) kind) c.as_slice.ensures.value c.in-Err.ensures in
    inr (kind, refuses, c.show.ensures.shown)
