use Rattle.std.proofs.Common.{◌≡◌, Some, option_map, ap, sym, ◌∙◌}
use Rattle.regex.specs.Bytes.{regex_source}
use Rattle.plinq_text.proofs.PatternLaws.{made-to-find}
use Rattle.plinq_text.proofs.pattern.Searcher.new.Goals as goal

pub invariant_of-result : goal.invariant_of-result
invariant_of-result c =
    let has : c.args.pattern.now ≡ Some (regex_source c.in-Some.regex) = sym c.pattern.view_is ∙ ap (option_map regex_source) c.in-Some.is in (
      sym (ap (option_map (λ _. tt {0})) has),
      (
        made-to-find c.args.pattern.now c.pattern.inside.regex c.in-Some.regex c.in_ok-matcher-in-Some.field-0 c.pattern.inside.compiled c.in-Some.is has
            c.in_ok-matcher-in-Some.ensures.pattern,
        tt {0},
      ),
    )
