-- What the taker has taken, and which offers a row or a joiner stands for, with one offer more.
use Rattle.plinq_merge.proofs.MergerWords.{◌≡◌, ℕ, ◌<◌, List, [], ◌∷◌, ◌++◌, true, false, ◌||◌, nat_lt, Option, Some, None, Result, Ok, Err, refl, option_or}
use Rattle.plinq_merge.proofs.MergerWords.{sym, ◌∙◌, ap, inl, inr, arith, or_from, All-nil, Ending, Trace, open_trace, followed_by, trace_of}
use Rattle.plinq_merge.proofs.MergerWords.{followed_by-followed_by, followed_by-open_nil, Order, ChunkResult, end_of_result, told_at, is_within, Buffered}
use Rattle.plinq_merge.proofs.MergerWords.{IsFresh, TakesNext, IsAtGap, DeliveryFault, NoMemory, Row, MergeFault, Memory, Sink, Twice, More, Yes, No}
use Rattle.plinq_merge.proofs.MergerWords.{JoinerState, Open, Decided, HasFailed, ending_at, merged_trace, rest_of, Waits, Joins, JoinsOfferAt}
use Rattle.plinq_merge.proofs.MergerWords.{delivery_fault_of, placed_intervals, Interval}
use Rattle.std.specs.Prelude.{◌⊎◌}
use Rattle.std.proofs.lemmas.Bool.{le-ltb}
use Rattle.plinq_reorder.specs.Buffered.{is_taken}
use Rattle.plinq_merge.specs.declared.{joining.Joining.Joining, joiner.Joiner.Joiner}
use Rattle.plinq_merge.specs.{Taking.IsTaking, inner.Moving.HasMoved, Shown.at_once}
use Rattle.plinq_merge.specs.Joiners.{taker_of, order_of, WaitsFor, has_decided, ending_of, JoinsOffer, HasJoinedAt, HasJoined}
use Rattle.plinq_merge.specs.{declared.merge_fault.MergeFault.TheVariants.Gap, OfferedKeys.AreNew, Offering.is_decided, Offering.finish_result}
use Rattle.plinq_merge.proofs.Holds.{is_offered-append, merged_trace-holds, holds-next, takes-placed_intervals, rest-gap}

module _ {T : Type 0} where
  -- where the next key is missing, all that the offers merge to was taken
  merged_trace-waits : {order : Order} {row : Row T} {offers : List (ChunkResult T)} (waits : Waits order row offers)
      → merged_trace order offers ≡ open_trace waits.out
  merged_trace-waits waits = rw (merged_trace-holds waits.holds, waits.nothing) (followed_by-open_nil (open_trace waits.out))

  -- a row in which nothing is waits for no offers
  pub begun-waits : (order : Order) (row : Row T) → row.buffer ≡ record { next = 0; held = [] } → row.source_end ≡ None → Waits order row []
  begun-waits order row empty untold =
      let none = All-nil (λ (p : Interval (Trace T)). p.0 < row.buffer.next) in
      record {
        out = [];
        holds = record { done = []; placed = rw empty refl; is_row = rw empty refl; before = none; source_end = sym untold; gave = refl };
        keys = λ key. rw empty (sym (or_from (nat_lt key 0) false (le-ltb key 0 (omega arith)) refl));
        missing = rw empty refl;
        nothing = rw (empty, untold) refl;
      }

  open-is : (t : Trace T) → t.ending ≡ None → t ≡ open_trace t.items
  open-is t none = ap (trace_of t.items) none

module _ {W O T : Type 0} {made : W → O → Trace T → Result (Option Ending) DeliveryFault → W → O → Type 0} (lawful : IsTaking made) where
  -- after an open trace that was taken
  taken-after : {a b c : W} {x y z : O} {t u all : Trace T} {r : Result (Option Ending) DeliveryFault} → t.ending ≡ None → made a x t (Ok None) b y
      → made b y u r c z → all ≡ followed_by t u → made a x all r c z
  taken-after {t} none first second is = rw (is, open-is t none) (lawful.goes_on _ _ t.items _ _ _ _ _ _ (rw (open-is t none) at first) second)

  -- an answer that has ended, or broke off, is that of whatever comes after
  taken-over : {a b : W} {x y : O} {t : Trace T} (rest : Trace T) (r : Result (Option Ending) DeliveryFault) → (r ≡ Ok None → ⊥) → made a x t r b y
      → made a x (followed_by t rest) r b y
  taken-over rest (Ok None) over taken = absurd (over refl)
  taken-over rest (Ok (Some e)) over taken = lawful.ends _ _ _ e _ _ rest taken
  taken-over rest (Err fault) over taken = lawful.breaks _ _ _ fault _ _ rest taken

  module _ {w : Joining W T} {r : ChunkResult T} {y : O} {hand : Trace T} {w1 : Joining W T} {y1 : O} (moved : HasMoved made w r y hand w1 y1) where
    -- what was in hand was taken and is open, and the interval under the next key comes
    pub moved-next : {buffer : Buffered (Trace T)} {q : Trace T} {a : W} {n : ℕ} {z : O} → TakesNext w1.row.buffer q buffer
        → made w1.taker y1 hand (Ok None) a z → hand.ending ≡ None
        → HasMoved made w r y q (record w1 { row = record w1.row { buffer = buffer }; taker = a; items = n }) z
    moved-next takes taken none =
        let all : open_trace (moved.items ++ hand.items) ≡ followed_by (open_trace moved.items) hand = ap (trace_of (moved.items ++ hand.items)) (sym none) in
        record {
          items = moved.items ++ hand.items;
          taken = taken-after refl moved.taken taken all;
          order = moved.order;
          holds = λ offers gone h. rw (all, ← followed_by-followed_by gone (open_trace moved.items) hand) (holds-next takes (moved.holds offers gone h));
        }

    -- ---- a result of new keys was joined

    module _ (fresh : IsFresh w.row.buffer r.first (end_of_result r)) where
      module _ {result : Result (Option Ending) DeliveryFault} {w' : Joining W T} {y' : O} where
        joins-moved : made w1.taker y1 (followed_by hand (rest_of w1.row)) result w'.taker y'
            → (result ≡ Ok None → (offers : List (ChunkResult T)) → Waits w.order w.row offers → Waits w'.order w'.row (offers ++ r ∷ []))
            → Joins made w r y result w' y'
        joins-moved taken waits =
            let left : Trace T = followed_by hand (rest_of w1.row) in
            record {
              gained = followed_by (open_trace moved.items) left;
              taken = lawful.goes_on w.taker y moved.items w1.taker y1 left result w'.taker y' moved.taken taken;
              are_new = λ offers before key within. before.keys key ∙ fresh key within;
              grows = λ offers before. rw (merged_trace-waits before) (merged_trace-holds (moved.holds offers (open_trace before.out) before.holds)
                  ∙ followed_by-followed_by (followed_by (open_trace before.out) (open_trace moved.items)) hand (rest_of w1.row)
                  ∙ followed_by-followed_by (open_trace before.out) (open_trace moved.items) left);
              waits = waits;
            }

        -- what was in hand ended the answer, or broke it off
        pub joins-over : made w1.taker y1 hand result w'.taker y' → (result ≡ Ok None → ⊥) → Joins made w r y result w' y'
        joins-over taken over = joins-moved (taken-over (rest_of w1.row) result over taken) (λ none. absurd (over none))

        -- at a gap the source's ending came after it
        pub joins-ended : {a : W} {z : O} → made w1.taker y1 hand (Ok None) a z → hand.ending ≡ None → IsAtGap w1.row.buffer
            → made a z (trace_of [] (ending_at w1.row.source_end w1.row.buffer.next)) result w'.taker y' → (result ≡ Ok None → ⊥)
            → Joins made w r y result w' y'
        joins-ended taken none gap last over = joins-moved (taken-after none taken (rw (rest-gap w1.row gap) last) refl) (λ is. absurd (over is))

      -- or more may follow, and the row waits for it
      pub joins-waits : {a : W} {n : ℕ} {z : O} → made w1.taker y1 hand (Ok None) a z → hand.ending ≡ None → IsAtGap w1.row.buffer
          → ending_at w1.row.source_end w1.row.buffer.next ≡ None
          → ((key : ℕ) → is_taken w1.row.buffer key ≡ is_taken w.row.buffer key || is_within r.first (end_of_result r) key)
          → Joins made w r y (Ok None) (record w1 { taker = a; items = n }) z
      joins-waits taken none gap still keys =
          let nothing : rest_of w1.row ≡ open_trace [] = rest-gap w1.row gap ∙ ap (trace_of []) still in
          joins-moved (rw (nothing, followed_by-open_nil hand) taken) (λ is_open offers before. rw moved.order (record {
            out = (before.out ++ moved.items) ++ hand.items;
            holds = rw (open-is hand none) at (moved.holds offers (open_trace before.out) before.holds);
            keys = λ key. is_offered-append offers r key ∙ ap (λ v. v || is_within r.first (end_of_result r) key) (before.keys key) ∙ sym (keys key);
            missing = gap.missing;
            nothing = nothing;
          }))

  -- it couldn't be kept
  pub joins-unkept : (w : Joining W T) (r : ChunkResult T) (y : O) → IsFresh w.row.buffer r.first (end_of_result r) → (w' : Joining W T) → w'.taker ≡ w.taker
      → Joins made w r y (Err NoMemory) w' y
  joins-unkept w r y fresh w' same =
      let held : Buffered (Trace T) = record w.row.buffer { held = placed_intervals w.order w.row.buffer.held r } in
      let kept : Row T = record { buffer = held; source_end = option_or w.row.source_end (told_at (end_of_result r) r.tail) } in
      let hand : Trace T = at_once w.order r in
      let begun = lawful.begins w.taker y in
      let takes = takes-placed_intervals w.order w.row r kept fresh refl refl in
      let moved : HasMoved made w r y hand (record w { row = kept }) y =
      record { items = []; taken = begun; order = refl; holds = λ offers gone h. rw (followed_by-open_nil gone) (takes offers gone h) } in
      joins-moved moved fresh (rw same (lawful.stops w.taker y [] w.taker y (followed_by hand (rest_of kept)) begun)) (λ bad. absurd (cc))

-- the offers so far, or these and one more, of which no key was offered before
abbrev pub AreOneMore : {T : Type 0} → List (ChunkResult T) → ChunkResult T → List (ChunkResult T) → Type 0
AreOneMore offers r offers' = (offers' ≡ offers) ⊎ ((offers' ≡ offers ++ r ∷ []) × AreNew offers r)

module _ {W O T : Type 0} (made : W → O → Trace T → Result (Option Ending) DeliveryFault → W → O → Type 0) where
  module _ (a : W) (x : O) where
    cases-at : {P : Type 0} (w : Joining W T) (standing : JoinerState) (y : O) (offers : List (ChunkResult T)) → HasJoinedAt made a x w standing y offers
        → (is_decided standing ≡ false → finish_result standing ≡ Err Gap → Waits w.order w.row offers
        → made a x (merged_trace w.order offers) (Ok None) w.taker y → P)
        → ((e : Ending) → is_decided standing ≡ true → finish_result standing ≡ Ok e → made a x (merged_trace w.order offers) (Ok (Some e)) w.taker y → P) → P
    cases-at w Open y offers joined still ended = still refl refl joined.0 joined.1
    cases-at w (Decided e) y offers joined still ended = ended e refl refl joined
    cases-at w HasFailed y offers joined still ended = absurd joined

    -- its answer is open, or has ended
    pub joined-cases : {P : Type 0} (j : Joiner W T) (y : O) (offers : List (ChunkResult T)) → HasJoined made a x j y offers
        → (has_decided j ≡ false → ending_of j ≡ Err Gap → WaitsFor j offers → made a x (merged_trace (order_of j) offers) (Ok None) (taker_of j) y → P)
        → ((e : Ending) → has_decided j ≡ true → ending_of j ≡ Ok e → made a x (merged_trace (order_of j) offers) (Ok (Some e)) (taker_of j) y → P) → P
    joined-cases j y offers joined still ended = cases-at j.work j.standing y offers joined still ended

    module _ (lawful : IsTaking made) where
      -- what waits for more may have broken off there for lack of memory
      pub joined-stopped : (j : Joiner W T) (y : O) (offers : List (ChunkResult T)) → WaitsFor j offers
          → made a x (merged_trace (order_of j) offers) (Ok None) (taker_of j) y
          → made a x (merged_trace (order_of j) offers) (Err NoMemory) (taker_of j) y
      joined-stopped j y offers waits before =
          let is = merged_trace-waits waits in
          rw (is, ← followed_by-open_nil (open_trace waits.out)) (lawful.stops a x waits.out (taker_of j) y (open_trace []) (rw is at before))

      module _ (w w' : Joining W T) (standing' : JoinerState) (r : ChunkResult T) (y y' : O) (offers : List (ChunkResult T)) (same : w'.order ≡ w.order) where
        -- where an offer is taken in, the answer is open or has ended; where it is refused, the taker broke off what is merged then
        abbrev LeavesAt : Result More MergeFault → List (ChunkResult T) → Type 0
        LeavesAt (Ok more) all = HasJoinedAt made a x w' standing' y' all
        LeavesAt (Err fault) all = (last : W) × made a x (merged_trace w.order all) (Err (delivery_fault_of fault)) last y'

        abbrev more : List (ChunkResult T)
        more = offers ++ r ∷ []

        -- with one offer more the taker has taken what they merge to then
        grown : {how : Result (Option Ending) DeliveryFault} {order : Order} → order ≡ w.order → HasJoinedAt made a x w Open y offers
            → Joins made w r y how w' y' → made a x (merged_trace order more) how w'.taker y'
        grown is joined joins =
            taken-after lawful (ap (λ t. t.ending) (merged_trace-waits joined.0)) joined.1 joins.taken
            (ap (λ o. merged_trace o more) is ∙ joins.grows offers joined.0)

        offered-at : (standing : JoinerState) (result : Result More MergeFault) → HasJoinedAt made a x w standing y offers
            → JoinsOfferAt made w standing r y result w' standing' y' → (all : List (ChunkResult T)) × AreOneMore offers r all × LeavesAt result all
        offered-at Open (Ok Yes) joined o =
            (more, inr (refl, o.1.are_new offers joined.0), rw o.0 (o.1.waits refl offers joined.0, grown same joined o.1))
        offered-at Open (Ok No) joined o = (more, inr (refl, o.2.are_new offers joined.0), rw o.1 (grown same joined o.2))
        offered-at Open (Err Memory) joined o = (more, inr (refl, o.1.are_new offers joined.0), (w'.taker, grown refl joined o.1))
        offered-at Open (Err (Sink code)) joined o = (more, inr (refl, o.1.are_new offers joined.0), (w'.taker, grown refl joined o.1))
        offered-at Open (Err Twice) joined o =
            (offers, inl refl, (w.taker, rw o.2 (joined-stopped (record { work = w; standing = Open }) y offers joined.0 joined.1)))
        offered-at Open (Err fault) joined o = absurd o
        offered-at (Decided e) (Ok more) joined o = (offers, inl refl, rw (o.2, o.1, o.3) joined)
        offered-at (Decided e) (Err fault) joined o = absurd (let bad : Err fault ≡ Ok No = o.0 in cc)
        offered-at HasFailed result joined o = absurd joined

      module _ (j : Joiner W T) (r : ChunkResult T) (y : O) where
        -- an offer that was taken in
        pub takes-joined : (more : More) (j' : Joiner W T) (y' : O) (offers : List (ChunkResult T)) → order_of j' ≡ order_of j
            → HasJoined made a x j y offers → JoinsOffer made j r y (Ok more) j' y'
            → (offers' : List (ChunkResult T)) × AreOneMore offers r offers' × HasJoined made a x j' y' offers'
        takes-joined more j' y' offers same joined o = offered-at j.work j'.work j'.standing r y y' offers same j.standing (Ok more) joined o

        -- one that was refused
        pub takes-broken : (fault : MergeFault) (j' : Joiner W T) (y' : O) (offers : List (ChunkResult T)) → order_of j' ≡ order_of j
            → HasJoined made a x j y offers → JoinsOffer made j r y (Err fault) j' y' → (offers' : List (ChunkResult T)) × AreOneMore offers r offers'
            × ((last : W) × made a x (merged_trace (order_of j) offers') (Err (delivery_fault_of fault)) last y')
        takes-broken fault j' y' offers same joined o = offered-at j.work j'.work j'.standing r y y' offers same j.standing (Err fault) joined o

  module _ (lawful : IsTaking made) where
    -- nothing was offered to a new joiner
    pub begun-joined : (j : Joiner W T) (x : O) → j.standing ≡ Open → WaitsFor j [] → HasJoined made (taker_of j) x j x []
    begun-joined j x still waits = rw still (waits, lawful.begins (taker_of j) x)

-- where nothing was offered or taken yet
pub ruleset beginning = (begun-waits)
