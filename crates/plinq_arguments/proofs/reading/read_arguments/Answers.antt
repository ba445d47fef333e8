-- a number of workers, or the word in its place
use Rattle.std.proofs.Common.{rules, ◌≡◌, List, ℕ, ap, map}
use Rattle.std.specs.Borrow.{Bor}
use Rattle.std.specs.String.{string_bytes}
use Rattle.clap.specs.Words.{kind_of}
use Rattle.clap.specs.declared.builder.value_parser.ValueParser.TheVariants as parser
use Rattle.clap.specs.declared.error.kind.ErrorKind.TheVariants.{OutOfMemory, ValueValidation}
use Rattle.plinq_arguments.specs.Arguments.{IsAuto, auto_words}
use Rattle.plinq_arguments.proofs.Asked.{asked_number, asked_word, refused_otherwise, refused_word, takes_only}
use Rattle.plinq_arguments.proofs.reading.read_arguments.Goals as goal

pub returns-in-Ok : goal.returns-in-Ok
returns-in-Ok c = asked_number c.unsigned.result (map string_bytes c.args.words.now) c.in-Ok.arguments c.unsigned.ensures c.in-Ok.ensures

pub returns-then-ne : goal.returns-then-ne
returns-then-ne c =
    let other : kind_of c.in-Err.refusal ≡ ValueValidation → ⊥ = search rules in
    refused_otherwise c.unsigned.result (map string_bytes c.args.words.now) (kind_of c.in-Err.refusal) c.unsigned.ensures c.in-Err.ensures other

pub returns-in-Ok-read_by : goal.returns-in-Ok-read_by
returns-in-Ok-read_by c =
    let value : kind_of c.in-Err.refusal ≡ ValueValidation = search rules in
    let parser_is : c.from.result ≡ parser.Names c.as_slice.result = search rules in
    let words_are : map (λ name. name.now) c.as_slice.result.now ≡ map (λ named. named.0) auto_words =
    ap (map (λ (name : Bor (List ℕ)). name.now)) c.as_slice.ensures in
    let auto : IsAuto c.from.result = takes_only (map (λ named. named.0) auto_words) c.from.result c.as_slice.result parser_is words_are in
    asked_word c.unsigned.result c.from.result (map string_bytes c.args.words.now) (kind_of c.in-Err.refusal) c.in-Ok-read_by.arguments
    c.unsigned.ensures c.in-Err.ensures value auto c.in-Ok-read_by.ensures

pub returns-in-Err-2 : goal.returns-in-Err-2
returns-in-Err-2 c =
    let value : kind_of c.in-Err.refusal ≡ ValueValidation = search rules in
    let parser_is : c.from.result ≡ parser.Names c.as_slice.result = search rules in
    let words_are : map (λ name. name.now) c.as_slice.result.now ≡ map (λ named. named.0) auto_words =
    ap (map (λ (name : Bor (List ℕ)). name.now)) c.as_slice.ensures in
    let auto : IsAuto c.from.result = takes_only (map (λ named. named.0) auto_words) c.from.result c.as_slice.result parser_is words_are in
    let room : kind_of c.in-Err-read_by.other ≡ OutOfMemory → ⊥ = search rules in
    refused_word c.unsigned.result c.from.result (map string_bytes c.args.words.now) (kind_of c.in-Err.refusal) (kind_of c.in-Err-read_by.other)
    c.unsigned.ensures c.in-Err.ensures value auto c.in-Err-read_by.ensures room
