use Rattle.std.proofs.Common.{rules, ◌≡◌, ◌≤◌, ◌<◌, false, true, length, arith, ◌∙◌, sym, ap, get_or, take}
use Rattle.std.specs.List.{insert}
use Rattle.std.specs.Ordering.{is_lt}
use Rattle.plinq_groups.specs.Topped.{with_ranked, with_top}
use Rattle.plinq_groups.proofs.Ranking.{stands-later, stands-here, stands-last, stays-top}
use Rattle.plinq_groups.proofs.top.TopGrowingAggregator.update.Goals as goal
use Rattle.plinq_groups.proofs.top.TopGrowingAggregator.update.Goals.{then-loop-at-test+else-not-is_lt, else-loop-at-test, then-at-self+in_ok-insert}
use Rattle.plinq_groups.proofs.top.TopGrowingAggregator.update.Goals.{else-at-self}

pub loop-at-preserved : goal.loop-at-preserved
loop-at-preserved g c =
    let rank = g.F.RankOf.ranks c.args.self.now.rank in
    let cmp = g.F.Rank.Ord.cmp in
    let ys = c.acc.inside.items.items in
    let i = c.loop-at.at in
    let y = c.index.result.now in
    let small : i < length ys = search rules in
    let is : y ≡ get_or ys i y = search rules in
    let keeps : is_lt (cmp (rank y) (rank c.args.x)) ≡ false =
    ap is_lt (ap (λ r. cmp r (rank c.args.x)) (sym c.rank_of.ensures) ∙ ap (cmp c.rank_of.result) (sym c.rank_of-rank.ensures) ∙ sym c.cmp.ensures)
    ∙ sym c.is_lt.ensures ∙ c.if-not-is_lt.true in
    record { within = omega (arith, small); is = stands-later rank cmp ys c.args.x y i small is keeps c.loop-at.invariant.is }

pub returns : goal.returns
returns g c =
    let rank = g.F.RankOf.ranks c.args.self.now.rank in
    let cmp = g.F.Rank.Ord.cmp in
    let ys = c.acc.inside.items.items in
    let i = c.loop-at.at in
    let x = c.args.x in
    let n = c.args.self.now.count in
    let stands : with_ranked rank cmp ys x ≡ insert ys i x = elim c.loop-at-test.branch [
      | then-loop-at-test+else-not-is_lt w ↦
          let y = w.index.result.now in
          let small : i < length ys = search rules in
          let is : y ≡ get_or ys i y = search rules in
          let lesser : is_lt (cmp (rank y) (rank x)) ≡ true =
          ap is_lt (ap (λ r. cmp r (rank x)) (sym w.rank_of.ensures) ∙ ap (cmp w.rank_of.result) (sym c.rank_of-rank.ensures) ∙ sym w.cmp.ensures)
          ∙ sym w.is_lt.ensures ∙ w.if-not-is_lt.false in
          stands-here rank cmp ys x y i small is lesser c.loop-at.invariant.is
      | else-loop-at-test w ↦
          let end : length ys ≤ i = search rules in
          stands-last rank cmp ys x i end c.loop-at.invariant.is
    ] in
    let within : i ≤ length ys = c.loop-at.invariant.within in
    let cut : c.truncate.new.self.items ≡ with_top rank cmp n ys x = elim c.if-at-self.branch [
      | then-at-self+in_ok-insert w ↦
          let put : w.insert.new.self.items ≡ insert ys i x = search rules in
          c.truncate.ensures.items ∙ ap (λ (v : _). take n v.items) w.items-is ∙ ap (take n) (put ∙ sym stands)
      | else-at-self w ↦
          let after : n ≤ i = search rules in
          c.truncate.ensures.items ∙ ap (λ (v : _). take n v.items) w.items-is ∙ stays-top rank cmp n ys x i after within stands
    ] in
    cut ∙ ap (λ l. with_top rank cmp n l x) c.acc.view_is
