use Rattle.std.proofs.Common.{rules, ◌≡◌, ◌≤◌, ◌^◌, length, refl, sym, subst}
use Rattle.plinq_cut.specs.OfPlan.{AreStopKeys}
use Rattle.plinq_partition.specs.Partitions.{holding_of}
use Rattle.plinq_crew.specs.Results.{IsPart}
use Rattle.plinq_run.specs.inner.Conducted.{HaveShared}
use Rattle.plinq_run.proofs.Merged.{none-broken}
use Rattle.plinq_run.proofs.run_request.RunRequest.conduct_plan.Goals as goal

pub run_crew-requires-clause-ready : goal.run_crew-requires-clause-ready
run_crew-requires-clause-ready g c lifetimes outlive =
    let meaning = g.Q.Lambda.Lambda.meaning in
    let plan = c.args.self.plan.now in
    let makes = g.P.Task.makes c.args.task.now in
    let may = c.requires.may in
    let origin : (holding_of c.in-Ok-new.partition).origin ≡ g.Q.Source.Source.whole c.args.self.source = search rules in
    record {
      equipped = record {
        of = c.in-Ok-new.ensures.of;
        few = subst (λ t. length t.items ≤ 2 ^ 40) (sym origin)
            ((g.met.Q.Source.Source g.world.𝓛 g.world.𝓜 g.world.𝓡 (λ s a. a, λ a. a, λ a. a, λ a. a)).few c.args.self.source);
        undecided = may.begins.plan;
        parts = λ r is. may.carries r (subst (λ t. IsPart meaning makes plan t r) origin is);
        sent = λ r is. subst (λ t. IsPart meaning makes plan t r) (sym origin) (may.carried r is);
        sees = c.in-Ok.ensures.pass;
        stop_keys = subst (λ t. AreStopKeys meaning plan t g.J.RunSpec.stops_at) (sym origin) may.stop_keys;
      };
      stream_of = c.in-Ok-new-2.ensures.pass;
      knows = c.in-Ok-new-2.ensures.first;
      workers = may.begins.workers;
    }

pub returns-in_default : goal.returns-in_default
returns-in_default g c = none-broken g.W.TakeInto.made g.met.W.TakeInto.lawful _ _ _ _ _ refl

pub returns-in_default-new : goal.returns-in_default-new
returns-in_default-new g c = none-broken g.W.TakeInto.made g.met.W.TakeInto.lawful _ _ _ _ _ refl

pub returns-in_default-new-2 : goal.returns-in_default-new-2
returns-in_default-new-2 g c = none-broken g.W.TakeInto.made g.met.W.TakeInto.lawful _ _ _ _ _ refl

pub returns-in-Ok-run_crew : goal.returns-in-Ok-run_crew
returns-in-Ok-run_crew g c =
    let origin : (holding_of c.in-Ok-new.partition).origin ≡ g.Q.Source.Source.whole c.args.self.source = search rules in
    let made = c.in-Ok-run_crew.ensures in
    (subst (λ t. HaveShared t c.in-Ok-new.chunked c.in-Ok-run_crew.ended.partitions.items) origin made.shared, made.taken)
