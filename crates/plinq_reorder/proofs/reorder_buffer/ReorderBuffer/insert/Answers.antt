use Rattle.std.proofs.Common.{rules, ◌≡◌, ◌||◌, refl, ◌∙◌, ap, sym, subst}
use Rattle.plinq_reorder.specs.Intervals.{is_within, are_apart, insert}
use Rattle.plinq_reorder.specs.Buffered.{Buffered, IsFresh, TakesNext, with_interval, is_taken}
use Rattle.plinq_reorder.proofs.Insert.{apart-inserted, taken-with_interval, inserts-next}
use Rattle.plinq_reorder.proofs.reorder_buffer.ReorderBuffer.insert.Goals as goal

pub invariant_of-self : goal.invariant_of-self
invariant_of-self g c =
    let b : Buffered g.row.P.Denot = record { next = c.self.inside.next; held = c.self.inside.held.entries } in
    let fresh : IsFresh b c.args.first c.args.end = subst (λ v. IsFresh v c.args.first c.args.end) (sym c.self.view_is) c.requires.fresh in
    (inserts-next b c.args.first c.args.end c.args.payload c.self.invariant c.if-first-self.true c.requires.some fresh).1

pub returns-then-first-self-clause-inserts : goal.returns-then-first-self-clause-inserts
returns-then-first-self-clause-inserts g c =
    let b : Buffered g.row.P.Denot = record { next = c.self.inside.next; held = c.self.inside.held.entries } in
    let fresh : IsFresh b c.args.first c.args.end = subst (λ v. IsFresh v c.args.first c.args.end) (sym c.self.view_is) c.requires.fresh in (
      refl,
      subst (λ v. TakesNext (with_interval v c.args.first c.args.end c.args.payload) c.args.payload (record b { next = c.args.end })) c.self.view_is
          (inserts-next b c.args.first c.args.end c.args.payload c.self.invariant c.if-first-self.true c.requires.some fresh).0,
    )

pub invariant_of-self-2 : goal.invariant_of-self-2
invariant_of-self-2 g c =
    let b : Buffered g.row.P.Denot = record { next = c.self.inside.next; held = c.self.inside.held.entries } in
    let fresh : IsFresh b c.args.first c.args.end = subst (λ v. IsFresh v c.args.first c.args.end) (sym c.self.view_is) c.requires.fresh in
    let is : c.insert.new.self.entries ≡ insert b.held c.args.first c.args.end c.args.payload = search rules in
    ap (are_apart b.next) is ∙ apart-inserted b c.args.first c.args.end c.args.payload c.self.invariant c.requires.some fresh

pub returns-clause-keys : goal.returns-clause-keys
returns-clause-keys g c = λ key.
    let b : Buffered g.row.P.Denot = record { next = c.self.inside.next; held = c.self.inside.held.entries } in
    let fresh : IsFresh b c.args.first c.args.end = subst (λ v. IsFresh v c.args.first c.args.end) (sym c.self.view_is) c.requires.fresh in
    let is : c.insert.new.self.entries ≡ insert b.held c.args.first c.args.end c.args.payload = search rules in
    ap (λ qs. is_taken (record b { held = qs }) key) is
    ∙ subst (λ v. is_taken (with_interval b c.args.first c.args.end c.args.payload) key ≡ is_taken v key || is_within c.args.first c.args.end key)
    c.self.view_is
    (taken-with_interval b c.args.first c.args.end c.args.payload key c.self.invariant c.requires.some fresh)
