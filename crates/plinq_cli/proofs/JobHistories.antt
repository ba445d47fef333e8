-- What partitions have left that took in turn, as the history of a job.
use Rattle.std.proofs.Common.{◌≡◌, ℕ, ℤ, ◌≤◌, List, ap, sym, ◌∙◌, subst}
use Rattle.plinq_source.specs.Trace.{Trace, IsSourceEnding}
use Rattle.plinq_keyed.specs.declared.record.Record.{Record}
use Rattle.plinq_keyed.specs.History.{IsLegalHistory}
use Rattle.plinq_enumerator.specs.Growing.{GrowthRule}
use Rattle.plinq_ops.specs.Query.{degree_in_force}
use Rattle.plinq_document.specs.Jobs.{JobView}
use Rattle.plinq_cli.specs.Rounds.{AreShares, IsHistory, told_ending}
use Rattle.plinq_cli.proofs.ToldEnding.{told_ending-shares}

-- records are a history of a job that says how its source ends
pub record Tells (job : JobView) (rs : List Record) : Type 0 where
  pub history : IsHistory (degree_in_force job.query.degree) job.growth job.source rs
  pub told : told_ending rs ≡ job.source.ending
  pub ends : IsSourceEnding job.source.ending

-- the records do that which partitions left that took in turn, of an enumerator that began with the source
pub taken-tell : (job inside : JobView) (n : ℕ) (t : Trace ℤ) (h rs : List Record) → inside ≡ job → n ≡ degree_in_force inside.query.degree
    → t ≡ inside.source → rs ≡ h
    → AreShares n inside.growth h → IsLegalHistory t h → 1 ≤ n → IsSourceEnding t.ending → Tells job rs
taken-tell job inside n t h rs is degree whole same left legal some ends =
    let by_degree : n ≡ degree_in_force job.query.degree = degree ∙ ap (λ (j : JobView). degree_in_force j.query.degree) is in
    let grows : inside.growth ≡ job.growth = ap (λ (j : JobView). j.growth) is in
    let source : t ≡ job.source = whole ∙ ap (λ (j : JobView). j.source) is in
    let shares : AreShares n job.growth rs =
    subst (λ (k : GrowthRule). AreShares n k rs) grows (subst (λ (l : List Record). AreShares n inside.growth l) (sym same) left) in
    record {
      history = record {
        left = subst (λ (m : ℕ). AreShares m job.growth rs) by_degree shares;
        legal = subst (λ (u : Trace ℤ). IsLegalHistory u rs) source (subst (λ (l : List Record). IsLegalHistory t l) (sym same) legal);
      };
      told = ap told_ending same ∙ (told_ending-shares n inside.growth t h some ends left legal ∙ ap (λ (u : Trace ℤ). u.ending) source);
      ends = subst (λ (u : Trace ℤ). IsSourceEnding u.ending) source ends;
    }
