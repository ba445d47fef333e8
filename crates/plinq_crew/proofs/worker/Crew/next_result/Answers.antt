use Rattle.std.proofs.Common.{sym, subst, ◌∙◌}
use Rattle.plinq_partition.specs.Partitions.{holding_of}
use Rattle.plinq_crew.specs.Working.{HasTakenChunk}
use Rattle.plinq_crew.proofs.Cuts.{cut-read, stop-stop_key}
use Rattle.plinq_crew.proofs.TakenResults.{result-from_taken}
use Rattle.plinq_crew.proofs.Working.{taken-result, taken-part}
use Rattle.plinq_crew.proofs.worker.Crew.next_result.Goals as goal

pub cut_off-requires-clause-stop_key : goal.cut_off-requires-clause-stop_key
cut_off-requires-clause-stop_key g c key kept stop =
    let meaning = g.L.Lambda.meaning in
    let plan = c.args.self.now.plan.now in
    let t = (holding_of c.args.partition.now).origin in
    let cut = c.cut_now-cut.result in
    let of = c.in_ok-part.ensures in
    let is = cut-read meaning plan t g.J.RunSpec.stops_at c.requires.stop_keys cut c.cut_now-cut.ensures.cut in
    let made = result-from_taken meaning plan _ _ _ cut c.in_ok-chunk.chunk of.result is c.cut_now-cut.ensures.uncut c.in_ok-chunk.ensures.taken of.is in
    stop-stop_key meaning plan t g.J.RunSpec.stops_at c.requires.stop_keys of.result key made (λ dropped. kept (of.same.ending ∙ dropped))
    (sym of.same.stop ∙ stop)

pub returns-clause-next : goal.returns-clause-next
returns-clause-next g c =
    let meaning = g.L.Lambda.meaning in
    let plan = c.args.self.now.plan.now in
    let before = holding_of c.args.partition.now in
    let of = c.in_ok-part.ensures in
    let is = cut-read meaning plan before.origin g.J.RunSpec.stops_at c.requires.stop_keys _ c.cut_now-cut.ensures.cut in
    let taken =
    taken-part _ _ of.result c.in_ok-part.part (taken-result meaning _ _ _ _ _ c.in_ok-chunk.chunk of.result c.in_ok-chunk.ensures.taken of.is) of.same in
    record {
      is = record {
        result = of.result;
        is = result-from_taken meaning plan _ _ _ _ c.in_ok-chunk.chunk of.result is c.cut_now-cut.ensures.uncut c.in_ok-chunk.ensures.taken of.is;
        made = of.made;
        same = of.same;
      };
      taken = subst (λ h. HasTakenChunk before.share h.share c.in_ok-part.part) (sym c.reuse.ensures.same) taken;
    }

pub returns-clause-of : goal.returns-clause-of
returns-clause-of g c = c.reuse.ensures.of c.args.self.now.chunked.now c.take_up_to.ensures.of
