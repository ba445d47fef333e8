use Rattle.std.proofs.Common.{◌≡◌, ◌∙◌, true, ap, codes}
use Rattle.clap.specs.Words.{app_of, new_app}
use Rattle.clap.specs.Simple.{app_of_fields, on_top}
use Rattle.plinq_arguments.proofs.reading.bare_command.Goals as goal

pub returns : goal.returns
returns c =
    let versioned : app_of c.version.result ≡ on_top (λ s. record s { has_version = true }) (new_app (codes "plinq")) =
    ap app_of_fields c.version.ensures
    ∙ ap (on_top (λ s. record s { has_version = true })) (ap app_of_fields c.about.ensures ∙ c.new.ensures.app) in
    let helped : app_of c.after_help.result ≡ on_top (λ s. record s { has_version = true }) (new_app (codes "plinq")) =
    ap app_of_fields c.after_help.ensures ∙ (ap app_of_fields c.override_usage.ensures ∙ versioned) in
    let unhelped : app_of c.disable_help_subcommand.result
    ≡ on_top (λ s. record s { disable_help_subcommand = true; has_version = true }) (new_app (codes "plinq")) =
    ap app_of_fields c.disable_help_subcommand.ensures ∙ ap (on_top (λ s. record s { disable_help_subcommand = true })) helped in
    ap app_of_fields c.subcommand_required.ensures ∙ ap (on_top (λ s. record s { subcommand_required = true })) unhelped
