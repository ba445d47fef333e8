use Rattle.std.proofs.Common.{rules, ◌≡◌, ◌++◌, ◌∷◌, [], subst, arith, inl, inr}
use Rattle.std.specs.Ordering.{nat_cmp}
use Rattle.std.specs.BTreeMap.Range.{entries_between}
use Rattle.std.specs.declared.ops.Bound.TheVariants.{Unbounded, Excluded}
use Rattle.std.proofs.lemmas.Bool.{or_left, lt-ltb, le-ltb, cases_lt}
use Rattle.plinq_reorder.specs.Buffered.{Buffered, IsFresh, Overlaps}
use Rattle.plinq_reorder.proofs.Keys.{within-from}
use Rattle.plinq_reorder.proofs.Overlaps.{fresh-none, fresh-last, overlaps-last}
use Rattle.plinq_reorder.proofs.reorder_buffer.ReorderBuffer.overlaps.Goals as goal

pub returns-then-first-self : goal.returns-then-first-self
returns-then-first-self g c =
    let b : Buffered g.row.P.Denot = record { next = c.self.inside.next; held = c.self.inside.held.entries } in
    subst (λ v. Overlaps v c.args.first c.args.end) c.self.view_is (
      c.args.first,
      within-from c.args.first c.args.end c.args.first (omega arith) c.if-end-first.false,
      or_left _ _
          (lt-ltb c.args.first b.next c.if-first-self.true),
    )

pub returns-in-None : goal.returns-in-None
returns-in-None g c =
    let b : Buffered g.row.P.Denot = record { next = c.self.inside.next; held = c.self.inside.held.entries } in
    let none : entries_between nat_cmp Unbounded (Excluded c.args.end) b.held ≡ [] = search rules in
    subst (λ v. IsFresh v c.args.first c.args.end) c.self.view_is (fresh-none b c.args.first c.args.end c.if-first-self.false none)

pub returns-in-Some : goal.returns-in-Some
returns-in-Some g c =
    let b : Buffered g.row.P.Denot = record { next = c.self.inside.next; held = c.self.inside.held.entries } in
    let last = c.in-Some.last.now in
    let some : entries_between nat_cmp Unbounded (Excluded c.args.end) b.held ≡ c.next_back.new.self ++ (c.in-Some.field-0-0.now, last) ∷ [] = search rules in
    elim (cases_lt c.args.first last.end) [
      | inl w ↦ rw (lt-ltb c.args.first last.end w)
          (subst (λ v. Overlaps v c.args.first c.args.end) c.self.view_is (overlaps-last b c.args.first c.args.end c.next_back.new.self
          (c.in-Some.field-0-0.now, last) c.self.invariant c.if-end-first.false some w))
      | inr w ↦ rw (le-ltb c.args.first last.end w)
          (subst (λ v. IsFresh v c.args.first c.args.end) c.self.view_is (fresh-last b c.args.first c.args.end c.next_back.new.self
          (c.in-Some.field-0-0.now, last) c.self.invariant c.if-first-self.false some w))
    ]
