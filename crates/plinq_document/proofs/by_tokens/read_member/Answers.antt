use Rattle.std.proofs.Common.{◌≡◌, true, false, bytes_eq, string_bytes, sym, ap, ◌∙◌, subst, rules}
use Rattle.std.specs.Prelude.{codes, Some}
use Rattle.std.proofs.lemmas.Slice.Eq.{bytes_eq-Decides}
use Rattle.serde_json.specs.Data.{put}
use Rattle.serde_json.specs.View.{view, members_view}
use Rattle.serde_json.proofs.Views.{members_view-insert_entry}
use Rattle.plinq_document.specs.inner.Apart.{AreApart}
use Rattle.plinq_document.proofs.Apart.{differ, AreApart-source, AreApart-other}
use Rattle.plinq_document.proofs.by_tokens.read_member.Goals as goal

pub returns-then-eq-clause-read : goal.returns-then-eq-clause-read
returns-then-eq-clause-read c = λ ms apart.
    let same : bytes_eq c.args.name.now (codes "source") ≡ true = search rules in
    let named : c.args.name.now ≡ codes "source" = (bytes_eq-Decides c.args.name.now (codes "source")).0 same in
    let found = c.in_ok-read_source.ensures.read in
    let others = members_view c.args.parts.now.others.entries in (
      found.0,
      found.1,
      subst (λ name. AreApart (Some c.in_ok-read_source.field-0) others (put name found.0 ms)) (sym named)
          (AreApart-source _ c.in_ok-read_source.field-0 found.0 others ms found.2 apart),
    )

pub returns-clause-read : goal.returns-clause-read
returns-clause-read c = λ ms apart.
    let other : bytes_eq c.args.name.now (codes "source") ≡ false = search rules in
    let name = c.args.name.now in
    let d = view c.in_ok-value.value in
    let others = members_view c.args.parts.now.others.entries in
    let copied : string_bytes c.in-Ok.name ≡ name = search rules in
    let inserted : members_view c.insert.new.self.entries ≡ put name d others =
    ap members_view c.in-Ok-insert.ensures.entries ∙ members_view-insert_entry c.args.parts.now.others.entries c.in-Ok.name c.in_ok-value.value
    ∙ ap (λ k. put k d others) copied in (
      d,
      c.in_ok-value.ensures.read,
      subst (λ now. AreApart c.args.parts.now.source now (put name d ms)) (sym inserted)
          (AreApart-other _ name d others ms (differ name (codes "source") other) apart),
    )
