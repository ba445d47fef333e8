use Rattle.std.proofs.Common.{◌≡◌, Ok, sym, ap, ◌∙◌, subst}
use Rattle.std.specs.Prelude.{MatchResult}
use Rattle.serde_json.specs.View.{members_view}
use Rattle.serde_json.proofs.Views.{view-Object}
use Rattle.plinq_document.specs.Results.{IfMeant}
use Rattle.plinq_document.specs.inner.Apart.{meaning_apart}
use Rattle.plinq_document.proofs.Apart.{document_meaning-apart}
use Rattle.plinq_document.proofs.document.job_of_parts.Goals as goal

pub returns : goal.returns
returns c = λ ms apart.
    let parts = c.args.parts in
    let same =
    document_meaning-apart c.args.settings parts.source (members_view parts.others.entries) ms apart
    ∙ ap (meaning_apart c.args.settings parts.source) (sym (view-Object parts.others)) in
    subst (λ meaning. MatchResult c.job_of.result (λ job. meaning ≡ Ok job) (IfMeant meaning)) (sym same) c.job_of.ensures
