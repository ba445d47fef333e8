-- What workers know of the cut that they share.
use Rattle.std.specs.Prelude.{◌≡◌, ◌≢◌, ◌≤◌, ◌^◌, ℕ, ◌==◌, ◌||◌, Bool, true, Some, length}
use Rattle.std.proofs.Common.{sym, ◌∙◌, ap, subst}
use Rattle.plinq_source.specs.declared.source.Source.{Ghosts}
use Rattle.plinq_source.specs.Trace.{Trace}
use Rattle.plinq_lambda.specs.Meaning.{Meaning}
use Rattle.plinq_ops.specs.declared.frag_end.FragEnd.TheVariants.{Dropped}
use Rattle.plinq_ops.specs.declared.plan.Plan.{Plan}
use Rattle.plinq_ops.specs.declared.results.ChunkResult.{ChunkResult}
use Rattle.plinq_ops.specs.Cut.{no_cut, is_cut}
use Rattle.plinq_ops.proofs.Rows.{stop-ends}
use Rattle.plinq_cut.specs.declared.cut_pass.CutPass.{CutPass}
use Rattle.plinq_cut.specs.declared.cut_word.CutWord.{CutWord}
use Rattle.plinq_cut.specs.Cutting.{is_cut_of}
use Rattle.plinq_cut.specs.Passes.{IsPassOf}
use Rattle.plinq_partition.specs.declared.chunked.Chunked.{Chunked}
use Rattle.plinq_partition.specs.declared.partition.Partition.{Partition}
use Rattle.plinq_partition.specs.Partitions.{IsPartitionOf, holding_of}
use Rattle.plinq_cut.specs.OfPlan.{AreStopKeys}
use Rattle.plinq_crew.specs.Equipped.{IsEquipped}
use Rattle.plinq_crew.specs.Results.{IsResult, IsPart}

module _ {L T : Type 0} (meaning : L → Meaning T) (plan : Plan L) (t : Trace T) (stops_at : ℕ → Bool) (are : AreStopKeys meaning plan t stops_at) where
  -- a cut that was read is one of the source
  pub cut-read : (cut : ℕ) → is_cut_of stops_at cut ≡ true → is_cut meaning plan.worker.now t.items cut ≡ true
  cut-read cut is = ap (λ b. (cut == no_cut) || b) (sym (are cut)) ∙ is

  -- the key at which a result stopped that dropped nothing ends the run
  pub stop-stop_key : (r : ChunkResult T) (key : ℕ) → IsResult meaning plan t r → r.ending ≢ Dropped → r.stop ≡ Some key → stops_at key ≡ true
  stop-stop_key r key is kept stop = are key ∙ stop-ends meaning plan.worker.now t r key is.offer kept stop

module _ {L S T M E : Type 0} {source : Ghosts S T} {meaning : L → Meaning T} {makes : ChunkResult T → ChunkResult M → Type 0}
    {MaySend : ChunkResult M → Type 0} {stops_at : ℕ → Bool} {plan : Plan L} {chunked : Chunked S T source} {cut : CutWord E}
    {own partition : Partition S T source} {mine pass : CutPass} where
  -- what a worker is started with stands beside what another was started with
  pub equipped-beside : IsEquipped meaning makes MaySend stops_at plan chunked cut own mine → IsPartitionOf chunked partition
      → (holding_of partition).origin ≡ (holding_of own).origin → IsPassOf cut pass → IsEquipped meaning makes MaySend stops_at plan chunked cut partition pass
  equipped-beside h of at is =
      record {
        of = of;
        few = subst (λ t. length t.items ≤ 2 ^ 40) (sym at) h.few;
        undecided = h.undecided;
        parts = λ r x. h.parts r (subst (λ t. IsPart meaning makes plan t r) at x);
        sent = λ r x. subst (λ t. IsPart meaning makes plan t r) (sym at) (h.sent r x);
        sees = is;
        stop_keys = subst (λ t. AreStopKeys meaning plan t stops_at) (sym at) h.stop_keys;
      }
