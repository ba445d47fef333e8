use Rattle.std.proofs.Common.{◌≡◌, ◌∷◌, true, bytes_eq, sym, subst, rules}
use Rattle.std.specs.Prelude.{IfSome, codes}
use Rattle.std.proofs.lemmas.Slice.Eq.{bytes_eq-Decides}
use Rattle.json.specs.Token.{Token}
use Rattle.serde_json.specs.Data.{Members, object}
use Rattle.plinq_document.specs.inner.Apart.{ReadsMembers, IsSourceOf}
use Rattle.plinq_document.proofs.by_tokens.read_named.Goals as goal

pub returns-then-eq-clause-read : goal.returns-then-eq-clause-read
returns-then-eq-clause-read c =
    let name = c.args.name.now in
    let same : bytes_eq name (codes "list") ≡ true = search rules in
    subst (λ n. IfSome c.read_list.result (λ s. (ms : Members) × ReadsMembers 125 (Token.key n ∷ c.args.reader.now) ms c.read_list.new.reader
    × IsSourceOf s (object ms)))
    (sym ((bytes_eq-Decides name (codes "list")).0 same)) c.read_list.ensures.read

pub returns-then-eq-2-clause-read : goal.returns-then-eq-2-clause-read
returns-then-eq-2-clause-read c =
    let name = c.args.name.now in
    let same : bytes_eq name (codes "text") ≡ true = search rules in
    subst (λ n. IfSome c.read_text.result (λ s. (ms : Members) × ReadsMembers 125 (Token.key n ∷ c.args.reader.now) ms c.read_text.new.reader
    × IsSourceOf s (object ms)))
    (sym ((bytes_eq-Decides name (codes "text")).0 same)) c.read_text.ensures.read
