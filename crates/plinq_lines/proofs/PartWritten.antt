-- A text that is written piece by piece: what is written of it, and what is left.
use Rattle.std.proofs.Common.{◌≡◌, ℕ, List, [], ◌++◌, Result, refl, ap, sym, ◌∙◌, append_assoc, append-nil}
use Rattle.std.specs.Io.KnownBytes.{Appends}
use Rattle.std.specs.Result.{IsErr}
use Rattle.plinq_lines.specs.Written.{AppendsBeginning, Writes}
use Rattle.std.proofs.KnownBytes.{Appends-nil, Appends-trans}
use Rattle.plinq_lines.proofs.WrittenBytes.{Bytes, appends-as, begins-as, begins-append, begins-after, writes-as, writes-at_err, writes-after}

-- a first part of the whole text is written, and this part is left
pub record PartWritten (start now : Bytes) (left whole : List ℕ) : Type 0 where
  pub done : List ℕ
  pub written : Appends start now done
  pub parts : done ++ left ≡ whole

pub none-written : (start : Bytes) (whole : List ℕ) → PartWritten start start whole whole
none-written start whole = record { done = []; written = Appends-nil start; parts = refl }

-- a piece more is written
pub piece-written : {start now : Bytes} {left whole : List ℕ} (new : Bytes) (piece rest : List ℕ) → PartWritten start now left whole
    → left ≡ piece ++ rest → Appends now new piece → PartWritten start new rest whole
piece-written new piece rest p is h = record {
  done = p.done ++ piece;
  written = Appends-trans _ _ _ p.done piece p.written h;
  parts = append_assoc p.done piece rest ∙ (ap (λ text. p.done ++ text) (sym is) ∙ p.parts);
}

-- nothing is left
pub all-written : {start now : Bytes} {left whole : List ℕ} → PartWritten start now left whole → left ≡ [] → Appends start now whole
all-written p none = appends-as _ _ _ _ (sym (append-nil p.done) ∙ ap (λ text. p.done ++ text) (sym none) ∙ p.parts) p.written

-- the writer failed at a piece, and the function answers that by a `?`
pub piece-failed : {A E : Type 0} {start now : Bytes} {left whole : List ℕ} (new : Bytes) (r : Result A E) (piece rest : List ℕ)
    → PartWritten start now left whole → left ≡ piece ++ rest → IsErr r → AppendsBeginning now new piece → Writes start new r whole
piece-failed new r piece rest p is failed h =
    writes-at_err _ _ r _ failed
    (begins-as _ _ _ _ (ap (λ text. p.done ++ text) (sym is) ∙ p.parts) (begins-after _ _ _ p.done _ p.written (begins-append _ _ piece rest h)))

-- the last call writes all that is left, or fails at it
pub rest-writes : {A E : Type 0} {start now : Bytes} {left whole : List ℕ} (new : Bytes) (r : Result A E) (rest : List ℕ)
    → PartWritten start now left whole → left ≡ rest → Writes now new r rest → Writes start new r whole
rest-writes new r rest p is h =
    writes-as _ _ r _ _ (ap (λ text. p.done ++ text) (sym is) ∙ p.parts) (writes-after _ _ _ r p.done rest p.written h)
