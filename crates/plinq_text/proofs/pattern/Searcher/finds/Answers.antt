use Rattle.std.proofs.Common.{◌≡◌, IfSome, option_map, ap, sym, subst, ◌∙◌}
use Rattle.plinq_text.specs.Patterns.{pattern_finds}
use Rattle.plinq_text.proofs.PatternLaws.{says, still-finds}
use Rattle.plinq_text.proofs.pattern.Searcher.finds.Goals as goal

pub invariant_of-self-inside-2 : goal.invariant_of-self-inside-2
invariant_of-self-inside-2 c = (
  ap (option_map (λ _. tt {0})) (sym c.in-Some.is) ∙ c.self.inside.has_one,
  (
    still-finds c.self.inside.pattern.now c.self.inside.matcher c.in-Some.matcher c.is_match.new.self c.in-Some.is c.is_match.ensures.same
        c.self.inside.finds,
    tt {0},
  ),
)

pub returns-clause-value : goal.returns-clause-value
returns-clause-value c =
    subst (λ pattern. IfSome pattern (λ p. c.is_match.result ≡ pattern_finds p c.args.text.now)) c.self.view_is
    (says c.self.inside.pattern.now c.self.inside.matcher c.in-Some.matcher c.is_match.result c.args.text.now c.in-Some.is c.self.inside.finds
    c.is_match.ensures.found (λ k. (c.type_inv.text k).fits))
