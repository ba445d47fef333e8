-- Partitions that take in turn: at the start, in a turn, and when all are done.
use Rattle.std.proofs.Common.{◌≡◌, ℕ, suc, ◌<◌, ◌≤◌, List, [], ◌∷◌, ◌++◌, length, map, refl, ap, sym, ◌∙◌, arith, subst}
use Rattle.std.specs.List.{flat_map}
use Rattle.std.specs.Prelude.{All}
use Rattle.std.proofs.lemmas.List.{length-map}
use Rattle.std.proofs.lemmas.List.Elements.{All-nil, All-cons, All-head, All-tail, All-same}
use Rattle.plinq_source.specs.declared.source.Source.{Ghosts}
use Rattle.plinq_source.specs.Trace.{Trace, IsSourceEnding}
use Rattle.plinq_keyed.specs.declared.record.Record.{Record}
use Rattle.plinq_enumerator.specs.Growing.{GrowthRule}
use Rattle.plinq_ticket.specs.Weights.{total}
use Rattle.plinq_ticket.specs.Shares.{in_ticket_order}
use Rattle.plinq_ticket.proofs.Weights.{total-append}
use Rattle.plinq_partition.specs.declared.chunked.Chunked.{Chunked}
use Rattle.plinq_partition.specs.declared.partition.Partition.{Partition}
use Rattle.plinq_partition.specs.Partitions.{Holding, IsPartitionOf, AreNew, AreMadeFrom, growth_of, holding_of, new_beside, all_shares}
use Rattle.plinq_partition.specs.GivenBack.{common_origin}
use Rattle.plinq_cli.specs.Rounds.{AreShares, EachUntilTail, IsOpen, IsDone, left_of, end_of_requests}

module _ {S T : Type 0} {source : Ghosts S T} where
  new-open : (chunked : Chunked S T source) (a : Holding T) (q : Partition S T source) → IsSourceEnding a.origin.ending → IsPartitionOf chunked q
      → holding_of q ≡ new_beside a → IsOpen chunked a.origin q
  new-open chunked a q ends of same =
      let none : (holding_of q).share ≡ [] = ap (λ (h : Holding T). h.share) same in
      let start : end_of_requests 0 ((holding_of q).share) ≡ 0 = ap (end_of_requests 0) none in
      record {
        ends = ends;
        of = of;
        origin = ap (λ (h : Holding T). h.origin) same;
        asks = rw none tt;
        requests = ap (λ (h : Holding T). h.requests) same ∙ sym (ap length none);
        within = omega arith;
      }

  all-new-open : (chunked : Chunked S T source) (a : Holding T) (qs : List (Partition S T source)) → IsSourceEnding a.origin.ending
      → All (IsPartitionOf chunked) qs → AreNew a qs → All (IsOpen chunked a.origin) qs
  all-new-open chunked a [] ends of new = All-nil (IsOpen chunked a.origin)
  all-new-open chunked a (q ∷ qs) ends of new =
      All-cons (IsOpen chunked a.origin) q qs (new-open chunked a q ends (All-head (IsPartitionOf chunked) q qs of) new.0)
      (all-new-open chunked a qs ends (All-tail (IsPartitionOf chunked) q qs of) new.1)

  -- partitions that are made of one that was given nothing have had no tail yet
  pub all-made-open : (chunked : Chunked S T source) (a : Holding T) (qs : List (Partition S T source)) → IsSourceEnding a.origin.ending
      → All (IsPartitionOf chunked) qs → AreMadeFrom (new_beside a) qs
      → All (IsOpen chunked (common_origin qs)) qs × (common_origin qs ≡ a.origin)
  all-made-open chunked a [] ends of made = absurd made
  all-made-open chunked a (q ∷ qs) ends of made =
      let first = new-open chunked a q ends (All-head (IsPartitionOf chunked) q qs of) made.0 in
      let rest = all-new-open chunked a qs ends (All-tail (IsPartitionOf chunked) q qs of) made.1 in
      let origin : (holding_of q).origin ≡ a.origin = first.origin in
      (subst (λ (t : Trace T). All (IsOpen chunked t) (q ∷ qs)) (sym origin) (All-cons (IsOpen chunked a.origin) q qs first rest), origin)

  -- a turn of the first of some partitions, which goes after the others
  pub less-after : (p q : Partition S T source) (old rest new : List (Partition S T source)) → old ≡ p ∷ rest → new ≡ rest ++ q ∷ [] → left_of q < left_of p
      → total (λ x. suc (left_of x)) new < total (λ x. suc (left_of x)) old
  less-after p q old rest new was is less =
      let before = ap (total (λ (x : Partition S T source). suc (left_of x))) was in
      let past = ap (total (λ (x : Partition S T source). suc (left_of x))) is in
      let both = total-append (λ (x : Partition S T source). suc (left_of x)) rest (q ∷ []) in
      omega arith

  pub first-open : (chunked : Chunked S T source) (t : Trace T) (p : Partition S T source) (old rest : List (Partition S T source)) → old ≡ p ∷ rest
      → All (IsOpen chunked t) old → IsOpen chunked t p
  first-open chunked t p old rest was all = All-head (IsOpen chunked t) p rest (All-same (IsOpen chunked t) (p ∷ rest) old (sym was) all)

  -- ---- all are done

  pub done-origin : (chunked : Chunked S T source) (t : Trace T) (ps : List (Partition S T source)) → 1 ≤ length ps → All (IsDone chunked t) ps
      → common_origin ps ≡ t
  done-origin chunked t [] some all = absurd (omega arith)
  done-origin chunked t (p ∷ ps) some all = (All-head (IsDone chunked t) p ps all).origin

  joined-shares : (ps : List (Partition S T source)) → all_shares ps ≡ flat_map (λ share. share) (map (λ p. (holding_of p).share) ps)
  joined-shares [] = refl
  joined-shares (p ∷ ps) = ap (λ rs. (holding_of p).share ++ rs) (joined-shares ps)

  each-done : (chunked : Chunked S T source) (t : Trace T) (ps : List (Partition S T source)) → All (IsDone chunked t) ps
      → EachUntilTail (growth_of chunked) (map (λ p. (holding_of p).share) ps)
  each-done chunked t [] all = tt
  each-done chunked t (p ∷ ps) all = ((All-head (IsDone chunked t) p ps all).asks, each-done chunked t ps (All-tail (IsDone chunked t) p ps all))

  pub done-shares : (chunked : Chunked S T source) (t : Trace T) (n : ℕ) (g : GrowthRule) (ps : List (Partition S T source)) (h : List Record)
      → length ps ≡ n → growth_of chunked ≡ g → All (IsDone chunked t) ps
      → h ≡ in_ticket_order (all_shares ps) → AreShares n g h
  done-shares chunked t n g ps h count grows all history = record {
    shares = map (λ p. (holding_of p).share) ps;
    count = length-map ps _ ∙ count;
    each = rw (← grows) (each-done chunked t ps all);
    history = history ∙ ap in_ticket_order (joined-shares ps);
  }
