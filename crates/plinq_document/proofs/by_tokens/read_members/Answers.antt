use Rattle.std.proofs.Common.{◌≡◌, ◌-◌, length, Some, None, refl, sym, ◌∙◌, subst, arith}
use Rattle.json.specs.Json.{read_key}
use Rattle.json.proofs.Grammar.{read_key-shorter}
use Rattle.serde_json.specs.Data.{no_members, put}
use Rattle.serde_json.specs.View.{members_view}
use Rattle.plinq_document.specs.inner.Apart.{AreApart}
use Rattle.plinq_document.proofs.TokenTurns.{members-turn, members-over}
use Rattle.plinq_document.proofs.by_tokens.read_members.Goals as goal

pub members-init : goal.members-init
members-init c =
    let none : AreApart None no_members no_members = record { names = refl; beside = λ name other. refl; under = refl } in
    (length c.args.reader.now, no_members, omega arith, refl, subst (λ es. AreApart None (members_view es) no_members) (sym c.new.ensures.empty) none, tt)

pub members-preserved : goal.members-preserved
members-preserved c =
    let l = c.members in
    let n = l.invariant.0 in
    let ms = l.invariant.1 in
    let k = c.in-Some.name.now in
    let s = c.next_key.new.self in
    let named : read_key l.reader ≡ Some (Some k, s) = grind arith in
    let done = c.in_ok-read_member.ensures in
    let found = done.read ms l.invariant.4 in
    let less = read_key-shorter l.reader (Some k) s named in
    let lesser = done.shorter in (
      n - 1,
      put k found.0 ms,
      omega (arith, l.invariant.2, less, lesser),
      l.invariant.3 ∙ members-turn 126 n l.reader s c.read_member.new.reader k found.0 ms (omega (arith, l.invariant.2, less)) named found.1,
      found.2,
      done.fresh l.invariant.5,
    )

pub returns-clause-read : goal.returns-clause-read
returns-clause-read c =
    let l = c.members in
    let over : read_key l.reader ≡ Some (None, c.next_key.new.self) = grind arith in
    (l.invariant.1, l.invariant.3 ∙ members-over 126 l.invariant.0 l.reader c.next_key.new.self l.invariant.1 l.invariant.2 over, l.invariant.4)
