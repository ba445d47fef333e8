use Rattle.std.proofs.Common.{rules, [], refl, sym, ap, ◌∙◌, subst}
use Rattle.plinq_merge.specs.Joiners.{HasJoined}
use Rattle.plinq_merge.proofs.Joins.{begun-joined}
use Rattle.plinq_crew.specs.Conducting.{Conducts}
use Rattle.plinq_run.specs.{inner.Merged.AcceptsInto, inner.Merged.HasBrokenOff, declared.run_fault.RunFault.TheVariants.Memory}
use Rattle.plinq_run.proofs.Merged.{none-broken, conducts-same, reported-run}
use Rattle.plinq_run.proofs.planning.run_crew.Goals as goal

pub returns-in_default : goal.returns-in_default
returns-in_default g c =
    let made = g.W.TakeInto.made in
    let IsPart = g.J.RunSpec.is_result in
    let order = c.args.crew.now.plan.now.order in
    let x = c.args.out.now in
    let last = c.conduct.new.consumer in
    let same = subst (Conducts (AcceptsInto made) IsPart c.args.crew.now c.args.context _ last) c.in_default.is c.conduct.ensures in
    let lent = conducts-same made IsPart c.args.crew.now c.args.context _ last c.conduct.result c.conduct.ensures in
    subst (λ z. HasBrokenOff made IsPart order c.args.taker x Memory z) (sym (ap (λ z. z.out.now) same) ∙ search rules)
    (none-broken made g.met.W.TakeInto.lawful IsPart order c.args.taker x Memory refl)

pub returns : goal.returns
returns g c =
    let made = g.W.TakeInto.made in
    let lawful = g.met.W.TakeInto.lawful in
    let IsPart = g.J.RunSpec.is_result in
    let crew = c.args.crew.now in
    let a = c.args.taker in
    let x = c.args.out.now in
    let j = c.new.result in
    let last = c.conduct.new.consumer in
    let back = subst (Conducts (AcceptsInto made) IsPart crew c.args.context _ last) c.in-Ok.is c.conduct.ensures in
    let lent = conducts-same made IsPart crew c.args.context _ last c.conduct.result c.conduct.ensures in
    let begun = subst (λ b. HasJoined made b x j x []) c.new.ensures.taker (begun-joined made lawful j x c.new.ensures.still c.new.ensures.nothing) in
    reported-run made lawful IsPart crew c.args.context a x _ last refl (search rules, search rules) (c.new.ensures.order, begun) refl
    c.finish.result c.finish.ensures back
