-- Laws on how one trace follows another.
use Rattle.std.specs.Prelude.{◌≡◌, List, [], Option, Some, None, refl}
use Rattle.std.proofs.Common.{ap, sym, ◌∙◌, append_assoc, append-nil}
use Rattle.plinq_source.specs.declared.ending.Ending.{Ending}
use Rattle.plinq_source.specs.Trace.{Trace, open_trace, continued_by, followed_by}

-- a trace by its parts
abbrev pub trace_of : {T : Type 0} → List T → Option Ending → Trace T
trace_of xs e = record { items = xs; ending = e }

pub continued_by-open_nil : {T : Type 0} (xs : List T) (e : Option Ending) → continued_by xs e (open_trace []) ≡ trace_of xs e
continued_by-open_nil xs None = ap open_trace (append-nil xs)
continued_by-open_nil xs (Some e) = refl

-- nothing more changes nothing
pub followed_by-open_nil : {T : Type 0} (t : Trace T) → followed_by t (open_trace []) ≡ t
followed_by-open_nil t = continued_by-open_nil t.items t.ending

pub continued_by-continued_by : {T : Type 0} (xs : List T) (e : Option Ending) (ys : List T) (f : Option Ending) (c : Trace T)
    → followed_by (continued_by xs e (trace_of ys f)) c ≡ continued_by xs e (continued_by ys f c)
continued_by-continued_by xs None ys None c = ap (λ zs. trace_of zs c.ending) (append_assoc xs ys c.items)
continued_by-continued_by xs None ys (Some f) c = refl
continued_by-continued_by xs (Some e) ys f c = refl

-- three traces one after another, however they are put together
pub followed_by-followed_by : {T : Type 0} (a b c : Trace T) → followed_by (followed_by a b) c ≡ followed_by a (followed_by b c)
followed_by-followed_by a b c = continued_by-continued_by a.items a.ending b.items b.ending c

-- a trace that has ended stays as it is
pub followed_by-ended : {T : Type 0} (a b : Trace T) (e : Ending) → a.ending ≡ Some e → followed_by a b ≡ a
followed_by-ended a b e is =
    let f : Option Ending → Trace _ = λ o. continued_by a.items o b in
    ap f is ∙ ap (trace_of a.items) (sym is)
