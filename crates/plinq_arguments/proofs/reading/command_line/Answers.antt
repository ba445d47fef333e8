use Rattle.std.proofs.Common.{rules, ◌≡◌, ap, map, List, ℕ}
use Rattle.std.specs.Borrow.{Bor}
use Rattle.std.proofs.lemmas.Result.{IfOk-weaker}
use Rattle.clap.specs.declared.builder.value_parser.ValueParser.TheVariants as parser
use Rattle.plinq_arguments.specs.Arguments.{merge_words, run_app, seq_app}
use Rattle.plinq_arguments.proofs.Asked.{added, takes_only}
use Rattle.plinq_arguments.proofs.reading.command_line.Goals as goal

pub returns : goal.returns
returns c =
    let q = c.from-merge.result in
    let words_are : map (λ name. name.now) c.as_slice.result.now ≡ merge_words = ap (map (λ (name : Bor (List ℕ)). name.now)) c.as_slice.ensures in
    let parser_is : q ≡ parser.Names c.as_slice.result = search rules in
    let run = added _ _ _ _ (run_app c.args.workers q) c.in_ok-run_command.ensures c.in_ok-with_run.ensures c.bare_command.ensures in
    let both = added _ _ _ _ (seq_app c.args.workers q) c.in_ok-seq_command.ensures c.in_ok-with_seq.ensures run in
    IfOk-weaker c.with_subcommand-3.result _ _
    (λ line h. (q, takes_only merge_words q c.as_slice.result parser_is words_are, search (rules, both, h)))
    c.with_subcommand-3.ensures
