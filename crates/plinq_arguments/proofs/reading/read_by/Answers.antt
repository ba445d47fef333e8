use Rattle.std.proofs.Common.{rules, ◌≡◌, Some, None, map}
use Rattle.std.specs.String.{string_bytes}
use Rattle.std.proofs.lemmas.Result.{err_from_is_err_and}
use Rattle.clap.specs.Words.{app_of}
use Rattle.plinq_arguments.proofs.Asked.{asked, never_nothing, no_fault, refused}
use Rattle.plinq_arguments.proofs.reading.read_by.Goals as goal

pub returns-in_err-matches : goal.returns-in_err-matches
returns-in_err-matches c =
    let app = c.in_ok-app.ensures in
    let p = err_from_is_err_and c.from_residual-in_err-matches.result c.from_residual-in_err-matches.ensures.1 in
    refused c.args.workers app.0 (app_of c.in_ok-app.app) (map string_bytes c.args.words.now) _ p.0 c.in_err-matches.field-0.0 app.1 app.2
    c.in_err-matches.ensures.kinds
    p.1 p.2

pub returns-in-Some : goal.returns-in-Some
returns-in-Some c =
    let app = c.in_ok-app.ensures in
    let words = map string_bytes c.args.words.now in
    let chosen_is : c.chosen.result ≡ Some c.in-Some.arguments = search rules in (
      app.0,
      app.1,
      no_fault c.args.workers app.0 (app_of c.in_ok-app.app) words app.2 c.in_ok-matches.ensures.kinds,
      asked c.args.workers app.0 (app_of c.in_ok-app.app) words c.in_ok-matches.matches (Some c.in-Some.arguments) app.2
          c.in_ok-matches.ensures.ok.2 (search rules),
    )

pub returns : goal.returns
returns c =
    let app = c.in_ok-app.ensures in
    let words = map string_bytes c.args.words.now in
    let nothing : c.chosen.result ≡ None = search rules in
    absurd (never_nothing c.args.workers app.0 words c.chosen.result
    (asked c.args.workers app.0 (app_of c.in_ok-app.app) words c.in_ok-matches.matches c.chosen.result app.2 c.in_ok-matches.ensures.ok.2
    c.chosen.ensures) nothing
    (no_fault c.args.workers app.0 (app_of c.in_ok-app.app) words app.2 c.in_ok-matches.ensures.kinds))
