-- What some command lines ask for.
use Rattle.std.proofs.Common.{◌≡◌, true, false, ℕ, List, [], ◌∷◌, Some, None, refl, codes}
use Rattle.std.specs.Borrow.{Bor}
use Rattle.clap.specs.declared.builder.value_parser.ValueParser.{ValueParser}
use Rattle.clap.specs.declared.builder.value_parser.ValueParser.TheVariants as parser
use Rattle.clap.specs.declared.error.kind.ErrorKind.TheVariants.{DisplayHelp, DisplayVersion, MissingSubcommand}
use Rattle.clap.specs.declared.error.kind.ErrorKind.TheVariants.{UnknownArgument, ValueValidation, InvalidSubcommand}
use Rattle.clap.proofs.OnLiterals.{clap_on_literals}
use Rattle.plinq_ops.specs.declared.merge_option.MergeOption.TheVariants.{FullyBuffered}
use Rattle.plinq_arguments.specs.Arguments.{arguments_of, kinds_of, numbers}
use Rattle.plinq_arguments.specs.declared.command.Command.TheVariants.{Run, Seq, Plan}

plain_run : (q : ValueParser)
    → arguments_of numbers q (codes "plinq" ∷ codes "run" ∷ [])
    ≡ Some (record { command = Run; settings = record { workers = None; merge = None; cancel_after = None }; cores = false; plain = false })
unfolding clap_on_literals
plain_run q = refl

both_options : (q : ValueParser)
    → arguments_of numbers q (codes "plinq" ∷ codes "plan" ∷ codes "--workers=3" ∷ codes "--merge" ∷ codes "full" ∷ [])
    ≡ Some (record { command = Plan; settings = record { workers = Some 3; merge = Some FullyBuffered; cancel_after = None }; cores = false; plain = false })
unfolding clap_on_literals
both_options q = refl

cancelled_after_two : (q : ValueParser)
    → arguments_of numbers q (codes "plinq" ∷ codes "run" ∷ codes "--cancel-after" ∷ codes "2" ∷ [])
    ≡ Some (record { command = Run; settings = record { workers = None; merge = None; cancel_after = Some 2 }; cores = false; plain = false })
unfolding clap_on_literals
cancelled_after_two q = refl

only_run_is_cancelled : (q : ValueParser) → kinds_of numbers q (codes "plinq" ∷ codes "seq" ∷ codes "--cancel-after" ∷ codes "1" ∷ []) ≡ UnknownArgument ∷ []
unfolding clap_on_literals
only_run_is_cancelled q = refl

taken : (q : ValueParser) → kinds_of numbers q (codes "plinq" ∷ codes "seq" ∷ codes "--workers" ∷ codes "64" ∷ []) ≡ []
unfolding clap_on_literals
taken q = refl

too_many_workers : (q : ValueParser) → kinds_of numbers q (codes "plinq" ∷ codes "seq" ∷ codes "--workers" ∷ codes "65" ∷ []) ≡ ValueValidation ∷ []
unfolding clap_on_literals
too_many_workers q = refl

no_command : (q : ValueParser) → kinds_of numbers q (codes "plinq" ∷ []) ≡ MissingSubcommand ∷ []
unfolding clap_on_literals
no_command q = refl

wants_help : (q : ValueParser) → kinds_of numbers q (codes "plinq" ∷ codes "--help" ∷ []) ≡ DisplayHelp ∷ []
unfolding clap_on_literals
wants_help q = refl

wants_the_version : (q : ValueParser) → kinds_of numbers q (codes "plinq" ∷ codes "--version" ∷ []) ≡ DisplayVersion ∷ []
unfolding clap_on_literals
wants_the_version q = refl

a_command_has_no_version : (q : ValueParser) → kinds_of numbers q (codes "plinq" ∷ codes "run" ∷ codes "--version" ∷ []) ≡ UnknownArgument ∷ []
unfolding clap_on_literals
a_command_has_no_version q = refl

unknown_command : (q : ValueParser) → kinds_of numbers q (codes "plinq" ∷ codes "walk" ∷ []) ≡ UnknownArgument ∷ InvalidSubcommand ∷ []
unfolding clap_on_literals
unknown_command q = refl

a_word_is_no_number : (q : ValueParser) → kinds_of numbers q (codes "plinq" ∷ codes "run" ∷ codes "--workers" ∷ codes "auto" ∷ []) ≡ ValueValidation ∷ []
unfolding clap_on_literals
a_word_is_no_number q = refl

as_many_as_cores : (names : Bor (List (Bor (List ℕ)))) (q : ValueParser)
    → arguments_of (parser.Names names) q (codes "plinq" ∷ codes "run" ∷ codes "--workers=auto" ∷ [])
    ≡ Some (record { command = Run; settings = record { workers = None; merge = None; cancel_after = None }; cores = true; plain = false })
unfolding clap_on_literals
as_many_as_cores names q = refl

elements_alone : (q : ValueParser)
    → arguments_of numbers q (codes "plinq" ∷ codes "seq" ∷ codes "--plain" ∷ [])
    ≡ Some (record { command = Seq; settings = record { workers = None; merge = None; cancel_after = None }; cores = false; plain = true })
unfolding clap_on_literals
elements_alone q = refl

a_plan_has_no_elements : (q : ValueParser) → kinds_of numbers q (codes "plinq" ∷ codes "plan" ∷ codes "--plain" ∷ []) ≡ UnknownArgument ∷ []
unfolding clap_on_literals
a_plan_has_no_elements q = refl
