-- What a sink of lines has taken of batches, by what was written of their lines.
use Rattle.std.proofs.Common.{◌≡◌, ℕ, ◌+◌, ◌-◌, ◌≤◌, ℤ, List, [], ◌∷◌, ◌++◌, length, take, Bool, true, false, Some, None, arith, refl, ap, sym, ◌∙◌}
use Rattle.std.proofs.Common.{append_assoc, append-nil, nat_le}
use Rattle.std.specs.List.{flat_map}
use Rattle.std.specs.Io.KnownBytes.{Appends, append_known}
use Rattle.std.proofs.KnownBytes.{Appends-nil}
use Rattle.std.proofs.Math.Seq.{take-append-add}
use Rattle.std.proofs.lemmas.Bool.Decides.{nat_tests}
use Rattle.std.proofs.lemmas.List.{take-append-le}
use Rattle.plinq_merge.specs.declared.delivery_fault.DeliveryFault.TheVariants.{Sink}
use Rattle.plinq_merge.specs.Sending.{Leads, IsCutOff}
use Rattle.plinq_lines.specs.LineSink.{Lines, TakesLine, RefusesLine, known_since, StaysKnown, write_failed}
use Rattle.plinq_lines.specs.AnswerText.{batch_line}
use Rattle.plinq_lines.specs.Written.{AppendsBeginning}
use Rattle.plinq_lines.proofs.WrittenBytes.{Bytes, appends-as}

-- ---- what is known of a writer's bytes, in between

appends-first : (a : Bytes) (x : List ℕ) → Appends a (append_known a x) x
appends-first None x = tt
appends-first (Some bytes) x = refl

appends-rest : (a c : Bytes) (x y : List ℕ) → Appends a c (x ++ y) → Appends (append_known a x) c y
appends-rest None c x y h = tt
appends-rest (Some bytes) None x y h = absurd h
appends-rest (Some bytes) (Some all) x y h = h ∙ sym (append_assoc bytes x y)

pub since-appends : (start a b : Bytes) (x : List ℕ) → StaysKnown start a → Appends a b x → Appends (known_since start a) (known_since start b) x
since-appends None a b x stays h = tt
since-appends (Some first) None b x stays h = absurd stays
since-appends (Some first) (Some now) b x stays h = h

pub since-begins : (start a b : Bytes) (x : List ℕ) → StaysKnown start a → AppendsBeginning a b x
    → AppendsBeginning (known_since start a) (known_since start b) x
since-begins start a b x stays h = (h.0, since-appends start a b (take h.0 x) stays h.1)

-- ---- all lines are written

abbrev after-line : Lines → List ℤ → Lines
after-line s b = record { bytes = append_known s.bytes (batch_line b); writer = s.writer }

takes-first : (s : Lines) (b : List ℤ) → TakesLine s b (after-line s b)
takes-first s b = record { line = appends-first s.bytes (batch_line b); writer = refl }

lines-lead : (s s' : Lines) (b : List ℤ) (bs : List (List ℤ)) → Appends s.bytes s'.bytes (flat_map batch_line (b ∷ bs)) → s'.writer ≡ s.writer
    → Leads TakesLine s (b ∷ bs) s'
lines-lead s s' b [] h same = (s', record { line = appends-as _ _ _ _ (append-nil (batch_line b)) h; writer = same }, refl)
lines-lead s s' b (d ∷ ds) h same = (
  after-line s b,
  takes-first s b,
  lines-lead (after-line s b) s' d ds (appends-rest s.bytes s'.bytes (batch_line b) (flat_map batch_line (d ∷ ds)) h) same,
)

pub all-taken : (s s' : Lines) (all : List (List ℤ)) (b : List ℤ) (bs : List (List ℤ)) → all ≡ b ∷ bs
    → Appends s.bytes s'.bytes (flat_map batch_line all) → s'.writer ≡ s.writer → Leads TakesLine s all s'
all-taken s s' all b bs is h same = rw is (lines-lead s s' b bs (rw is at h) same)

-- ---- a beginning of them is written: whole lines, and a beginning of the next

-- the beginning ends within the first line
cut-first : (s s' : Lines) (b : List ℤ) (bs : List (List ℤ)) (n : ℕ) → Appends s.bytes s'.bytes (take n (batch_line b)) → s'.writer ≡ s.writer
    → IsCutOff TakesLine RefusesLine s (b ∷ bs) (Sink write_failed) s'
cut-first s s' b bs n h same = ([], b, bs, s, refl, refl, record { code_is = refl; begun = (n, h); writer = same })

take-beyond : (x y : List ℕ) (n : ℕ) → length x ≤ n → take n (x ++ y) ≡ x ++ take (n - length x) y
take-beyond x y n beyond =
    let is : n ≡ length x + (n - length x) = omega (arith, beyond) in
    ap (λ m. take m (x ++ y)) is ∙ take-append-add x y (n - length x)

is-within : (m n : ℕ) → nat_le m n ≡ true → m ≤ n
is-within m n is = grind (arith, nat_tests)

is-beyond : (m n : ℕ) → nat_le m n ≡ false → n ≤ m
is-beyond m n is = grind (arith, nat_tests)

-- within the first line, or in the others
cut-either : (s s' : Lines) (b : List ℤ) (bs : List (List ℤ)) (n : ℕ) (is_within : Bool) → nat_le n (length (batch_line b)) ≡ is_within
    → Appends s.bytes s'.bytes (take n (batch_line b ++ flat_map batch_line bs)) → s'.writer ≡ s.writer
    → (Appends (append_known s.bytes (batch_line b)) s'.bytes (take (n - length (batch_line b)) (flat_map batch_line bs))
    → IsCutOff TakesLine RefusesLine (after-line s b) bs (Sink write_failed) s')
    → IsCutOff TakesLine RefusesLine s (b ∷ bs) (Sink write_failed) s'
cut-either s s' b bs n true is h same others =
    cut-first s s' b bs n (appends-as _ _ _ _ (take-append-le n (batch_line b) (flat_map batch_line bs) (is-within n (length (batch_line b)) is)) h) same
cut-either s s' b bs n false is h same others =
    let rest : List ℕ = take (n - length (batch_line b)) (flat_map batch_line bs) in
    let moved : Appends s.bytes s'.bytes (batch_line b ++ rest) =
    appends-as _ _ _ _ (take-beyond (batch_line b) (flat_map batch_line bs) n (is-beyond n (length (batch_line b)) is)) h in
    let cut = others (appends-rest s.bytes s'.bytes (batch_line b) rest moved) in
    (b ∷ cut.0, cut.1, cut.2, cut.3, ap (λ cs. b ∷ cs) cut.4, (after-line s b, takes-first s b, cut.5), cut.6)

lines-cut : (s s' : Lines) (b : List ℤ) (bs : List (List ℤ)) (n : ℕ) → Appends s.bytes s'.bytes (take n (flat_map batch_line (b ∷ bs))) → s'.writer ≡ s.writer
    → IsCutOff TakesLine RefusesLine s (b ∷ bs) (Sink write_failed) s'
lines-cut s s' b [] n h same = cut-first s s' b [] n (appends-as _ _ _ _ (ap (take n) (append-nil (batch_line b))) h) same
lines-cut s s' b (d ∷ ds) n h same =
    cut-either s s' b (d ∷ ds) n (nat_le n (length (batch_line b))) refl h same (λ left. lines-cut (after-line s b) s' d ds
    (n - length (batch_line b)) left same)

pub first-taken : (s s' : Lines) (all : List (List ℤ)) (b : List ℤ) (bs : List (List ℤ)) → all ≡ b ∷ bs
    → AppendsBeginning s.bytes s'.bytes (flat_map batch_line all) → s'.writer ≡ s.writer → IsCutOff TakesLine RefusesLine s all (Sink write_failed) s'
first-taken s s' all b bs is h same =
    let begun : AppendsBeginning s.bytes s'.bytes (flat_map batch_line (b ∷ bs)) = rw is at h in
    rw is (lines-cut s s' b bs begun.0 begun.1 same)

-- nothing is written
pub none-taken : (s : Lines) (all : List (List ℤ)) (b : List ℤ) (bs : List (List ℤ)) → all ≡ b ∷ bs → IsCutOff TakesLine RefusesLine s all (Sink write_failed) s
none-taken s all b bs is = rw is (cut-first s s b bs 0 (Appends-nil s.bytes) refl)
