-- The lines of batches that a sink got one after another.
use Rattle.std.proofs.Common.{◌≡◌, ℤ, List, [], ◌∷◌, ◌++◌, ap, sym, subst, ◌∙◌}
use Rattle.std.specs.List.{flat_map}
use Rattle.std.specs.Io.KnownBytes.{Appends}
use Rattle.std.proofs.KnownBytes.{Appends-nil, Appends-trans}
use Rattle.std.proofs.lemmas.Grind.{flat_map-append}
use Rattle.plinq_merge.specs.declared.merge_fault.MergeFault.{MergeFault}
use Rattle.plinq_merge.specs.declared.merge_fault.MergeFault.TheVariants.{Memory, Sink, Twice, Gap, Failed, Cancelled}
use Rattle.plinq_merge.specs.Sending.{Leads}
use Rattle.plinq_merge.specs.Mergers.{StopsShort}
use Rattle.plinq_lines.specs.LineSink.{Lines, TakesLine, RefusesLine}
use Rattle.plinq_lines.specs.AnswerText.{batch_line}
use Rattle.plinq_lines.specs.Written.{AppendsBeginning}
use Rattle.plinq_lines.proofs.WrittenBytes.{begins-all, begins-as, begins-append, begins-after}

leads-lines : (s s' : Lines) (bs : List (List ℤ)) → Leads TakesLine s bs s' → Appends s.bytes s'.bytes (flat_map batch_line bs)
leads-lines s s' [] h = let P : Lines → Type 0 = λ x. Appends s.bytes x.bytes [] in subst P (sym h) (Appends-nil s.bytes)
leads-lines s s' (b ∷ bs) (m, taken, leads) =
    Appends-trans s.bytes m.bytes s'.bytes (batch_line b) (flat_map batch_line bs) taken.line (leads-lines m s' bs leads)

leads-writer : (s s' : Lines) (bs : List (List ℤ)) → Leads TakesLine s bs s' → s'.writer ≡ s.writer
leads-writer s s' [] h = ap (λ (x : Lines). x.writer) h
leads-writer s s' (b ∷ bs) (m, taken, leads) = leads-writer m s' bs leads ∙ taken.writer

-- all of them were taken
pub taken-lines : (s s' : Lines) (bs : List (List ℤ)) → Leads TakesLine s bs s' → Appends s.bytes s'.bytes (flat_map batch_line bs) × (s'.writer ≡ s.writer)
taken-lines s s' bs leads = (leads-lines s s' bs leads, leads-writer s s' bs leads)

-- the first of them were taken
sent-lines : (s s' : Lines) (bs sent rest : List (List ℤ)) → bs ≡ sent ++ rest → Leads TakesLine s sent s'
    → AppendsBeginning s.bytes s'.bytes (flat_map batch_line bs) × (s'.writer ≡ s.writer)
sent-lines s s' bs sent rest is leads =
    let all = sym (ap (flat_map batch_line) is ∙ flat_map-append batch_line sent rest) in (
      begins-as s.bytes s'.bytes _ _ all (begins-append s.bytes s'.bytes _ _ (begins-all s.bytes s'.bytes _ (leads-lines s s' sent leads))),
      leads-writer s s' sent leads,
    )

pub short-lines : (s s' : Lines) (bs : List (List ℤ)) (fault : MergeFault) → StopsShort TakesLine RefusesLine s bs fault s'
    → AppendsBeginning s.bytes s'.bytes (flat_map batch_line bs) × (s'.writer ≡ s.writer)
short-lines s s' bs Memory (sent, rest, is, leads) = sent-lines s s' bs sent rest is leads
short-lines s s' bs (Sink code) (sent, b, rest, m, is, leads, refused) =
    let all = sym (ap (flat_map batch_line) is ∙ flat_map-append batch_line sent (b ∷ rest)) in
    let begun = begins-append m.bytes s'.bytes (batch_line b) (flat_map batch_line rest) refused.begun in (
      begins-as s.bytes s'.bytes _ _ all (begins-after s.bytes m.bytes s'.bytes _ _ (leads-lines s m sent leads) begun),
      refused.writer ∙ leads-writer s m sent leads,
    )
short-lines s s' bs Twice (sent, rest, is, leads) = sent-lines s s' bs sent rest is leads
short-lines s s' bs Gap (sent, rest, is, leads) = sent-lines s s' bs sent rest is leads
short-lines s s' bs Failed (sent, rest, is, leads) = sent-lines s s' bs sent rest is leads
short-lines s s' bs Cancelled (sent, rest, is, leads) = sent-lines s s' bs sent rest is leads
