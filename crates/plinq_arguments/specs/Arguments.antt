-- What a command line asks for, in the words of `clap`.
use Rattle.std.specs.Prelude.{◌≡◌, ◌⊎◌, ℕ, List, [], ◌∷◌, Option, Some, None, map, codes, option_map, option_and_then}
use Rattle.std.specs.Prelude.{if◌then◌else◌, Bool, true, false, unwrap_or}
use Rattle.std.specs.Str.Parse.{digits_value, without_leading_plus}
use Rattle.clap.specs.Words.{AddsSubcommand, App, IsAmong, Row, Rule, Text, app_of, fault_of, first_of, new_app, new_rule, one_of, shape_of, subcommand_of}
use Rattle.clap.specs.Words.{with_rule, with_subcommand}
use Rattle.clap.specs.Kinds.{Kinds}
use Rattle.clap.specs.Simple.{on_top}
use Rattle.clap.specs.ValueTests.{is_unsigned_in}
use Rattle.clap.specs.declared.builder.command.Command.{Command as ClapCommand}
use Rattle.clap.specs.declared.builder.value_parser.ValueParser.{ValueParser}
use Rattle.clap.specs.declared.builder.value_parser.ValueParser.TheVariants as parser
use Rattle.clap.specs.declared.error.kind.ErrorKind.{ErrorKind}
use Rattle.clap.specs.declared.error.kind.ErrorKind.TheVariants.{OutOfMemory, ValueValidation}
use Rattle.clap.specs.declared.builder.action.ArgAction.TheVariants.{SetTrue}
use Rattle.plinq_ops.specs.declared.merge_option.MergeOption.{MergeOption}
use Rattle.plinq_words.specs.Tables.{beside}
use Rattle.plinq_ops.specs.MergeWords.{merge_name, merge_named, merge_options}
use Rattle.plinq_arguments.specs.declared.arguments.Arguments.{Arguments}
use Rattle.plinq_arguments.specs.declared.command.Command.{Command}
use Rattle.plinq_arguments.specs.declared.command.Command.TheVariants.{Run, Seq, Plan, Parts, History}

-- the words of the merge option
abbrev pub merge_words : List Text
merge_words = map merge_name merge_options

-- the option takes just these words
abbrev pub TakesOnly : List Text → ValueParser → Type 0
TakesOnly words (parser.Names names) = map (λ name. name.now) names.now ≡ words
TakesOnly words _ = ⊥

-- what `--workers` takes: a number from 1 to 64
abbrev pub numbers : ValueParser
numbers = parser.Unsigned 1 64

-- or a word in its place, for as many as there are cores
abbrev pub auto_words : List (Text × Bool)
auto_words = (codes "auto", true) ∷ []

-- `--workers`, of which the values pass this parser
abbrev pub workers_rule : ValueParser → Rule
workers_rule workers = record (new_rule (codes "workers")) {
  long = Some (codes "workers");
  value_names = 1;
  parser = Some workers;
}

-- `--plain`, a flag
abbrev pub plain_rule : Rule
plain_rule = record (new_rule (codes "plain")) { long = Some (codes "plain"); action = Some SetTrue }

-- `--merge`, of which the words pass this parser
abbrev pub merge_rule : ValueParser → Rule
merge_rule words = record (new_rule (codes "merge")) {
  long = Some (codes "merge");
  value_names = 1;
  parser = Some words;
}

-- `--cancel-after`, a number of batches
abbrev pub cancel_rule : Rule
cancel_rule = record (new_rule (codes "cancel-after")) {
  long = Some (codes "cancel-after");
  value_names = 1;
  parser = Some (parser.Unsigned 0 4294967295);
}

-- a subcommand of this name, which has the two options of the settings that all have
abbrev pub subcommand_app : ValueParser → ValueParser → Text → App
subcommand_app workers words name = with_rule (with_rule (new_app name) (workers_rule workers)) (merge_rule words)

-- the five: `run` and `seq` have a flag, and `run` can be cancelled
abbrev pub run_app : ValueParser → ValueParser → App
run_app workers words = with_rule (with_rule (subcommand_app workers words (codes "run")) plain_rule) cancel_rule

abbrev pub seq_app : ValueParser → ValueParser → App
seq_app workers words = with_rule (subcommand_app workers words (codes "seq")) plain_rule

abbrev pub plan_app : ValueParser → ValueParser → App
plan_app workers words = subcommand_app workers words (codes "plan")

abbrev pub parts_app : ValueParser → ValueParser → App
parts_app workers words = subcommand_app workers words (codes "parts")

abbrev pub history_app : ValueParser → ValueParser → App
history_app workers words = subcommand_app workers words (codes "history")

-- a command that adds all that it has as a subcommand of another
abbrev pub AddsItsShape : ClapCommand → Type 0
AddsItsShape sub = (old new : ClapCommand) → AddsSubcommand old sub new → app_of new ≡ with_subcommand (app_of old) (shape_of sub)

-- the program, of which the words need a subcommand, and `help` isn't one; it has a version
abbrev pub bare_app : App
bare_app = on_top (λ s. record s { disable_help_subcommand = true; subcommand_required = true; has_version = true }) (new_app (codes "plinq"))

-- the program with one more subcommand
abbrev pub with_command : App → App → App
with_command app sub = with_subcommand app sub.top

-- the program with its five subcommands
abbrev pub plinq_app : ValueParser → ValueParser → App
plinq_app workers words =
    let with_two : App = with_command (with_command bare_app (run_app workers words)) (seq_app workers words) in
    with_command (with_command (with_command with_two (plan_app workers words)) (parts_app workers words)) (history_app workers words)

-- the commands by the names of the subcommands, with what the matches of these ask for beside the settings: nothing yet
abbrev pub command_names : List Row → List (Text × Command)
command_names rows = (codes "run", Run) ∷ (codes "seq", Seq) ∷ (codes "plan", Plan) ∷ (codes "parts", Parts) ∷ (codes "history", History) ∷ []

-- the number from 1 to 64 that a text writes
abbrev pub workers_in : Text → Option ℕ
workers_in text = if is_unsigned_in 1 64 text then Some (digits_value 10 (without_leading_plus text)) else None

-- the degree that the matches of a subcommand ask for
abbrev pub workers_of : List Row → Option ℕ
workers_of rows = option_and_then workers_in (one_of (codes "workers") rows)

-- the merge option that they ask for
abbrev pub merge_of : List Row → Option MergeOption
merge_of rows = option_and_then merge_named (first_of (codes "merge") rows)

-- the number of batches that a text writes
abbrev pub cancel_in : Text → Option ℕ
cancel_in text = if is_unsigned_in 0 4294967295 text then Some (digits_value 10 (without_leading_plus text)) else None

-- after how many batches they ask to cancel a run
abbrev pub cancel_of : List Row → Option ℕ
cancel_of rows = option_and_then cancel_in (one_of (codes "cancel-after") rows)

-- whether they ask for as many workers as cores
abbrev pub cores_of : List Row → Option Bool
cores_of rows = option_and_then (beside auto_words) (first_of (codes "workers") rows)

-- what a flag is set to, in `clap`'s words
abbrev pub flag_words : List (Text × Bool)
flag_words = (codes "true", true) ∷ (codes "false", false) ∷ []

-- whether they ask for elements alone
abbrev pub plain_of : List Row → Option Bool
plain_of rows = option_and_then (beside flag_words) (first_of (codes "plain") rows)

-- a command with the settings of its subcommand's matches
abbrev pub arguments_with : List Row → Command → Arguments
arguments_with rows command = record {
  command = command;
  settings =
      record { workers = workers_of rows; merge = merge_of rows; cancel_after = cancel_of rows };
  cores = unwrap_or (cores_of rows) false;
  plain = unwrap_or (plain_of rows) false;
}

-- what a subcommand and its matches ask for
abbrev pub arguments_in : Text × List Row → Option Arguments
arguments_in met = option_map (arguments_with met.1) (beside (command_names met.1) met.0)

-- what the words ask for, if the values of `--workers` are those that pass a parser
abbrev pub arguments_of : ValueParser → ValueParser → List Text → Option Arguments
arguments_of workers parser words = option_and_then arguments_in (subcommand_of (plinq_app workers parser) words)

-- the kinds of what `clap` shows where the words ask for nothing
abbrev pub kinds_of : ValueParser → ValueParser → List Text → Kinds
kinds_of workers parser words = fault_of (plinq_app workers parser) words

-- the command line is the program's
abbrev pub IsPlinq : ValueParser → App → Type 0
IsPlinq workers app = (parser : ValueParser) × TakesOnly merge_words parser × (app ≡ plinq_app workers parser)

-- `clap` takes the words, and this is what they ask for
abbrev pub IsAskedBy : ValueParser → List Text → Arguments → Type 0
IsAskedBy workers words arguments = (parser : ValueParser) × TakesOnly merge_words parser
    × (kinds_of workers parser words ≡ []) × (arguments_of workers parser words ≡ Some arguments)

-- it doesn't take them, and shows something of this kind
abbrev pub IsRefusedBy : ValueParser → List Text → ErrorKind → Type 0
IsRefusedBy workers words kind = (parser : ValueParser) × TakesOnly merge_words parser × IsAmong kind (kinds_of workers parser words)

-- memory ran out, or the words are refused
abbrev pub RefusesBy : ValueParser → List Text → ErrorKind → Type 0
RefusesBy workers words kind = (kind ≡ OutOfMemory) ⊎ IsRefusedBy workers words kind

-- the parser takes the word for as many workers as cores, and nothing else
abbrev pub IsAuto : ValueParser → Type 0
IsAuto workers = TakesOnly (map (λ named. named.0) auto_words) workers

-- the words ask for this where `--workers` takes a number, or, if a value of them isn't one, where it takes the word
abbrev pub IsAsked : List Text → Arguments → Type 0
IsAsked words arguments = IsAskedBy numbers words arguments
    ⊎ (IsRefusedBy numbers words ValueValidation × ((word : ValueParser) × IsAuto word × IsAskedBy word words arguments))

-- memory ran out, or they are refused where `--workers` takes a number, and if for a value, where it takes the word as well
abbrev pub Refuses : List Text → ErrorKind → Type 0
Refuses words kind = (kind ≡ OutOfMemory)
    ⊎ (IsRefusedBy numbers words kind
    × (kind ≡ ValueValidation → (word : ValueParser) × IsAuto word × (other : ErrorKind) × IsRefusedBy word words other))
