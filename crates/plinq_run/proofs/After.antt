-- A token that counts batches lets just so many pass.
use Rattle.plinq_run.proofs.RunWords.{◌≡◌, ℕ, ◌+◌, ◌<◌, ◌≤◌, List, [], ◌∷◌, ◌++◌, length, take, true, false, nat_le, Result, Ok, Err, sym, ◌∙◌, ap, subst, refl}
use Rattle.plinq_run.proofs.RunWords.{arith, nat_tests, Trace, MergeOption, batches, Delivery, Passes, leads-map, Report, RunFault, Cancelled, RunsWith}
use Rattle.std.proofs.{Math.Seq.take-append_seam, lemmas.List.length-append}
use Rattle.plinq_merge.specs.{declared.cancel_after.CancelAfter.CancelAfter, Cancelling.IsStopped, Sending.Leads, Tokens.AsksAfter, Tokens.most_of}
use Rattle.plinq_run.specs.Stopping.{StopsAfter}

module _ {K T : Type 0} (accepts : K → List T → K → Type 0) where
  -- where some batches passed, each counts, and the last of them was within the number
  record HavePassed (d : Delivery CancelAfter K) (n : ℕ) (d' : Delivery CancelAfter K) : Type 0 where
    counts : d'.delivered ≡ d.delivered + n
    within : d'.delivered ≤ most_of d.token
    most : most_of d'.token ≡ most_of d.token

  have-passed : (d : Delivery CancelAfter K) (bs : List (List T)) (d' : Delivery CancelAfter K) → most_of d.token ≤ 18446744073709551615
      → d.delivered ≤ most_of d.token
      → Leads (Passes AsksAfter accepts) d bs d' → HavePassed d (length bs) d'
  have-passed d [] d' small within leads =
      let same : d' ≡ d = leads in rw same (record { counts = omega arith; within = within; most = refl })
  have-passed d (b ∷ bs) d' small within (m, step, leads) =
      let asked = step.asked in
      let before : nat_le (most_of d.token) d.delivered ≡ false = sym asked.is in
      let under : d.delivered < most_of d.token = grind (arith, nat_tests) in
      let counts : m.delivered ≡ d.delivered + 1 = omega (arith, step.counts, under, small) in
      let most : most_of m.token ≡ most_of d.token = asked.most in
      let on = have-passed m bs d' (omega (arith, small, most)) (omega (arith, counts, under, most)) leads in
      record { counts = omega (arith, on.counts, counts); within = omega (arith, on.within, most); most = on.most ∙ most }

  pub sinks : (d : Delivery CancelAfter K) (bs : List (List T)) (d' : Delivery CancelAfter K) → Leads (Passes AsksAfter accepts) d bs d'
      → Leads accepts d.sink bs d'.sink
  sinks = leads-map (λ (x : Delivery CancelAfter K). x.sink) (Passes AsksAfter accepts) accepts (λ d b d' passes. passes.taken)

  -- where the token stops a delivery from its beginning on, the number was delivered
  pub stopped-number : (d : Delivery CancelAfter K) (bs : List (List T)) (d' : Delivery CancelAfter K) → d.delivered ≡ 0
      → most_of d.token ≤ 18446744073709551615
      → (h : IsStopped AsksAfter accepts d bs d') → length h.sent ≡ most_of d.token
  stopped-number d bs d' start small h =
      let on = have-passed d h.sent h.last small (omega (arith, start)) h.leads in
      let over : nat_le (most_of h.last.token) h.last.delivered ≡ true = sym h.stops.asked.is in
      let reached : most_of h.last.token ≤ h.last.delivered = grind (arith, nat_tests) in
      omega (arith, on.counts, on.within, on.most, reached, start)

  module _ (refuses : K → List T → ℕ → K → Type 0) (option : MergeOption) (u : Trace T) (d d' : Delivery CancelAfter K) (start : d.delivered ≡ 0)
      (small : most_of d.token ≤ 18446744073709551615) where
    pub stops-after : (r : Result Report RunFault) → RunsWith AsksAfter accepts refuses option u d d' r
        → StopsAfter accepts (most_of d.token) (batches option u) d.sink d'.sink r
    stops-after (Ok report) (last, run, lets) =
        let on = have-passed d (batches option u) last small (omega (arith, start)) run.delivered in
        let open_ : nat_le (most_of last.token) last.delivered ≡ false = sym lets.asked.is in
        let under : last.delivered < most_of last.token = grind (arith, nat_tests) in
        let leads = subst (Leads accepts d.sink (batches option u)) (sym lets.sink) (sinks d (batches option u) last run.delivered) in
        (omega (arith, on.counts, on.most, under, start), leads)
    stops-after (Err Cancelled) h =
        let number = stopped-number d (batches option u) d' start small h in
        let first : take (most_of d.token) (batches option u) ≡ h.sent =
        ap (take (most_of d.token)) h.parts ∙ ap (λ n. take n (h.sent ++ h.rest)) (sym number) ∙ take-append_seam h.sent h.rest in
        let size : length (batches option u) ≡ length h.sent + length h.rest = ap length h.parts ∙ length-append h.sent h.rest in
        (omega (arith, size, number), rw (first, h.stops.sink) (sinks d h.sent h.last h.leads))
    stops-after (Err fault) h = tt
