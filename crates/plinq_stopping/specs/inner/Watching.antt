-- A taker that asks a token before it takes anything: it takes what another one does, until the token returns true.
use Rattle.std.specs.Prelude.{◌≡◌, refl, ℕ, List, [], ◌∷◌, ◌++◌, Bool, true, false, Option, Some, None, Result, Ok, Err}
use Rattle.std.proofs.Common.{◌∙◌}
use Rattle.plinq_source.specs.declared.ending.Ending.{Ending}
use Rattle.plinq_source.specs.Trace.{Trace, open_trace, followed_by}
use Rattle.plinq_merge.specs.declared.delivery_fault.DeliveryFault.{DeliveryFault}
use Rattle.plinq_merge.specs.declared.delivery_fault.DeliveryFault.TheVariants.{Memory, Sink}
use Rattle.plinq_merge.specs.declared.with_cancellation.WithCancellation.{WithCancellation}
use Rattle.plinq_merge.specs.Lent.{AreSame}
use Rattle.plinq_merge.specs.inner.Sent.{leads-append}
use Rattle.plinq_merge.specs.Taking.{IsTaking}
use Rattle.plinq_stopping.specs.Asking.{Lets, HasLet, HasStopped}

module _ {C : Type 0} (asks : C → ℕ → Bool → C → Type 0) where
  pub lets-none : (c : C) → Lets asks c c
  lets-none c = ([], refl)

  pub lets-on : (c m c' : C) → Lets asks c m → Lets asks m c' → Lets asks c c'
  lets-on c m c' first second = (first.0 ++ second.0, leads-append (λ a n b. asks a n false b) c first.0 second.0 m c' first.1 second.1)

  -- one that was asked at least once was asked
  pub let-weaker : (c c' : C) → HasLet asks c c' → Lets asks c c'
  let-weaker c c' has =
      lets-on c has.before c' has.first (has.number ∷ has.rest.0, (has.after, has.asked, has.rest.1))

  pub stopped-after : (c m c' : C) → Lets asks c m → HasStopped asks m c' → HasStopped asks c c'
  stopped-after c m c' first has =
      record { before = has.before; first = lets-on c m has.before first has.first; number = has.number; asked = has.asked }

module _ {C : Type 0} (asks : C → ℕ → Bool → C → Type 0) where
  -- what a sink refuses comes after the token was asked
  abbrev pub LetsFor : Result (Option Ending) DeliveryFault → C → C → Type 0
  LetsFor (Ok end) = Lets asks
  LetsFor (Err Memory) = Lets asks
  LetsFor (Err (Sink code)) = HasLet asks

  pub lets-after : (r : Result (Option Ending) DeliveryFault) (c m c' : C) → Lets asks c m → LetsFor r m c' → LetsFor r c c'
  lets-after (Ok end) c m c' first second = lets-on asks c m c' first second
  lets-after (Err Memory) c m c' first second = lets-on asks c m c' first second
  lets-after (Err (Sink code)) c m c' first second =
      record {
        before = second.before;
        first = lets-on asks c m second.before first second.first;
        number = second.number;
        after = second.after;
        asked = second.asked;
        rest = second.rest;
      }

  pub lets-all : (r : Result (Option Ending) DeliveryFault) (c c' : C) → HasLet asks c c' → LetsFor r c c'
  lets-all (Ok end) c c' has = let-weaker asks c c' has
  lets-all (Err Memory) c c' has = let-weaker asks c c' has
  lets-all (Err (Sink code)) c c' has = has

  pub lets-weaker : (r : Result (Option Ending) DeliveryFault) (c c' : C) → LetsFor r c c' → Lets asks c c'
  lets-weaker (Ok end) c c' lets = lets
  lets-weaker (Err Memory) c c' lets = lets
  lets-weaker (Err (Sink code)) c c' has = let-weaker asks c c' has

  -- asked at first
  pub let-first : (c : C) (number : ℕ) (m c' : C) → asks c number false m → Lets asks m c' → HasLet asks c c'
  let-first c number m c' asked rest =
      record { before = c; first = lets-none asks c; number = number; after = m; asked = asked; rest = rest }

module _ {C W K T : Type 0} (asks : C → ℕ → Bool → C → Type 0) (made : W → K → Trace T → Result (Option Ending) DeliveryFault → W → K → Type 0) where
  -- the token stopped it, after the other one had taken a beginning; or it let it take all
  abbrev pub Went : Bool → C → W → K → Trace T → Result (Option Ending) DeliveryFault → C → W → K → Type 0
  Went true c a x t r c' b y = (HasStopped asks c c') × ((code : ℕ) × (r ≡ Err (Sink code))) × made a x t (Err Memory) b y
  Went false c a x t r c' b y = (LetsFor asks r c c') × made a x t r b y

-- the other taker is in this one
module _ {C V W K T : Type 0} (asks : C → ℕ → Bool → C → Type 0) (inner : V → W)
    (made : W → K → Trace T → Result (Option Ending) DeliveryFault → W → K → Type 0) where
  pub record Watches (v : V) (w : WithCancellation C K) (t : Trace T) (r : Result (Option Ending) DeliveryFault) (v' : V)
      (w' : WithCancellation C K) : Type 0 where
    pub same : AreSame w w'
    pub went : w.is_stopped ≡ false → Went asks made w'.is_stopped w.token.now (inner v) w.sink.now t r w'.token.now (inner v') w'.sink.now

  same-on : (w m w' : WithCancellation C K) → AreSame w m → AreSame m w' → AreSame w w'
  same-on w m w' first second = record { token = second.token ∙ first.token; sink = second.sink ∙ first.sink }

  module _ (taking : IsTaking made) where
    went-none : (stopped : Bool) → stopped ≡ false → (c : C) (a : W) (x : K) → Went asks made stopped c a x (open_trace []) (Ok None) c a x
    went-none true is c a x = absurd (cc)
    went-none false is c a x = (lets-none asks c, taking.begins a x)

    -- it goes on after what it was let take
    went-next : (stopped : Bool) (c m c' : C) (a : W) (x : K) (xs : List T) (b : W) (y : K) (t : Trace T) (r : Result (Option Ending) DeliveryFault) (d : W)
        (z : K)
        → Lets asks c m → made a x (open_trace xs) (Ok None) b y → Went asks made stopped m b y t r c' d z
        → Went asks made stopped c a x (followed_by (open_trace xs) t) r c' d z
    went-next true c m c' a x xs b y t r d z first taken second =
        (stopped-after asks c m c' first second.0, second.1, taking.goes_on a x xs b y t (Err Memory) d z taken second.2)
    went-next false c m c' a x xs b y t r d z first taken second =
        (lets-after asks r c m c' first second.0, taking.goes_on a x xs b y t r d z taken second.1)

    went-on : (before stopped : Bool) (c m c' : C) (a : W) (x : K) (xs : List T) (b : W) (y : K) (t : Trace T) (r : Result (Option Ending) DeliveryFault)
        (d : W)
        (z : K)
        → Went asks made before c a x (open_trace xs) (Ok None) m b y → (before ≡ false → Went asks made stopped m b y t r c' d z)
        → Went asks made stopped c a x (followed_by (open_trace xs) t) r c' d z
    went-on true stopped c m c' a x xs b y t r d z first second = let bad = first.1.1 in absurd (cc)
    went-on false stopped c m c' a x xs b y t r d z first second =
        went-next stopped c m c' a x xs b y t r d z first.0 first.1 (second refl)

    went-ends : (stopped : Bool) (c c' : C) (a : W) (x : K) (t : Trace T) (e : Ending) (b : W) (y : K) (rest : Trace T)
        → Went asks made stopped c a x t (Ok (Some e)) c' b y → Went asks made stopped c a x (followed_by t rest) (Ok (Some e)) c' b y
    went-ends true c c' a x t e b y rest is = let bad = is.1.1 in absurd (cc)
    went-ends false c c' a x t e b y rest is = (is.0, taking.ends a x t e b y rest is.1)

    went-breaks : (stopped : Bool) (c c' : C) (a : W) (x : K) (t : Trace T) (fault : DeliveryFault) (b : W) (y : K) (rest : Trace T)
        → Went asks made stopped c a x t (Err fault) c' b y → Went asks made stopped c a x (followed_by t rest) (Err fault) c' b y
    went-breaks true c c' a x t fault b y rest is = (is.0, is.1, taking.breaks a x t Memory b y rest is.2)
    went-breaks false c c' a x t fault b y rest is = (is.0, taking.breaks a x t fault b y rest is.1)

    went-stops : (stopped : Bool) (c c' : C) (a : W) (x : K) (xs : List T) (b : W) (y : K) (rest : Trace T)
        → Went asks made stopped c a x (open_trace xs) (Ok None) c' b y → Went asks made stopped c a x (followed_by (open_trace xs) rest) (Err Memory) c' b y
    went-stops true c c' a x xs b y rest is = let bad = is.1.1 in absurd (cc)
    went-stops false c c' a x xs b y rest is = (is.0, taking.stops a x xs b y rest is.1)

    pub watches-lawful : IsTaking Watches
    watches-lawful =
        record {
          begins = λ v w.
              record {
                same = record { token = refl; sink = refl };
                went = λ still. went-none w.is_stopped still w.token.now (inner v) w.sink.now;
              };
          goes_on = λ v w xs v1 w1 t r v2 w2 first second.
              record {
                same = same-on w w1 w2 first.same second.same;
                went = λ still. went-on w1.is_stopped w2.is_stopped w.token.now w1.token.now w2.token.now (inner v) w.sink.now xs (inner v1) w1.sink.now t r
                    (inner v2) w2.sink.now (first.went still) second.went;
              };
          ends = λ v w t e v' w' rest is.
              record {
                same = is.same;
                went = λ still. went-ends w'.is_stopped w.token.now w'.token.now (inner v) w.sink.now t e (inner v') w'.sink.now rest (is.went still);
              };
          breaks = λ v w t fault v' w' rest is.
              record {
                same = is.same;
                went = λ still. went-breaks w'.is_stopped w.token.now w'.token.now (inner v) w.sink.now t fault (inner v') w'.sink.now rest (is.went still);
              };
          stops = λ v w xs v' w' rest is.
              record {
                same = is.same;
                went = λ still. went-stops w'.is_stopped w.token.now w'.token.now (inner v) w.sink.now xs (inner v') w'.sink.now rest (is.went still);
              };
        }
