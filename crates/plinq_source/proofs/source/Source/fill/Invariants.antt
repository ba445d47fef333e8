use Rattle.std.proofs.Common.{◌≡◌, ◌+◌, ◌++◌, ◌≤◌, length, vec_len, vec_capacity}
use Rattle.plinq_source.specs.Trace.{items_from}
use Rattle.plinq_source.proofs.source.Source.fill.Given as goal

abbrev pub invariant-loop-filled : goal.invariant-loop-filled
invariant-loop-filled g l = record {
  same : g.Self.Source.whole l.self ≡ g.Self.Source.whole l.initial.self;
  filled : l.items.items ≡ l.initial.items.items ++ items_from (g.Self.Source.whole l.initial.self) (g.Self.Source.given l.initial.self) l._filled;
  counted : vec_len l.items ≡ vec_len l.initial.items + l._filled;
  capacity : vec_capacity l.items ≡ vec_capacity l.initial.items;
  moved : g.Self.Source.given l.self ≡ g.Self.Source.given l.initial.self + l._filled;
  within : g.Self.Source.given l.initial.self + l._filled ≤ length (g.Self.Source.whole l.initial.self).items;
}
