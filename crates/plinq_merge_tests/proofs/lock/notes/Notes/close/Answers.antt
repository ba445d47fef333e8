use Rattle.std.proofs.Common.{◌≡◌, ℕ, [], ◌∷◌, ◌++◌, Some, ap, sym, ◌∙◌}
use Rattle.plinq_source.specs.Trace.{Trace, ended_trace}
use Rattle.plinq_source.specs.declared.ending.Ending.TheVariants.{End}
use Rattle.plinq_keyed.specs.declared.event.Event.TheVariants.{Close}
use Rattle.plinq_keyed.specs.declared.tail.Tail.TheVariants.{Closed}
use Rattle.plinq_keyed.specs.History.{Place, place_after, start, is_legal_history, next_record}
use Rattle.plinq_keyed.proofs.Legal.{place_after-append, IsLegalHistory-append}
use Rattle.plinq_merge_tests.proofs.lock.notes.Notes.close.Goals as goal

pub invariant_of-self-2 : goal.invariant_of-self-2
invariant_of-self-2 c =
    let t : Trace ℕ = ended_trace [] End in
    let old = c.args.self.now in
    let h = old.records.items in
    let k = c.args.ticket in
    let next : c.push_reserved.new.self.items ≡ h ++ next_record t h k Close ∷ [] =
    c.push_reserved.ensures.items
    ∙ ap (λ xs. xs ++ record { ticket = k; asked = Close; first = 0; count = 0; tail = Some Closed } ∷ []) c.in_ok-reserve.ensures.items
    ∙ ap (λ f. h ++ record { ticket = k; asked = Close; first = f; count = 0; tail = Some Closed } ∷ []) (sym old.at) in
    record {
      at = ap (λ xs. (place_after t start xs).given) next ∙ ap (λ (p : Place). p.given) (place_after-append t start h (next_record t h k Close)) ∙ old.at;
      legal = ap (is_legal_history t) next ∙ IsLegalHistory-append t h k Close old.legal c.requires;
    }
