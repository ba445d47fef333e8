-- Writes one after another.
use Rattle.std.proofs.Common.{◌≡◌, ℕ, ◌+◌, ◌-◌, ◌≤◌, min, List, ◌++◌, length, take, drop, Option, Result, Ok, Err, arith, ap, sym, subst, ◌∙◌, length-drop}
use Rattle.std.specs.Io.KnownBytes.{Appends}
use Rattle.std.proofs.KnownBytes.{Appends-trans}
use Rattle.std.specs.Result.{IsErr}
use Rattle.std.proofs.lemmas.Result.{MatchResult-from_err}
use Rattle.std.proofs.Math.Seq.{take-append-add, take-length, take-add}
use Rattle.std.proofs.lemmas.List.{take-append-le, take_min}
use Rattle.plinq_lines.specs.Written.{AppendsBeginning, Writes}

-- a word for known bytes that names what it speaks of, so that a proof finds it
abbrev pub Bytes : Type 0
Bytes = Option (List ℕ)

pub appends-as : (a b : Bytes) (x y : List ℕ) → x ≡ y → Appends a b x → Appends a b y
appends-as a b x y e h = let P : List ℕ → Type 0 = λ s. Appends a b s in subst P e h

range-to_end : (bs : List ℕ) (i : ℕ) → take (length bs - i) (drop i bs) ≡ drop i bs
range-to_end bs i = ap (λ n. take n (drop i bs)) (sym (length-drop i bs)) ∙ take-length (drop i bs)

-- the first i bytes, and then n of those after them
pub appends-piece : (a b c : Bytes) (bs : List ℕ) (i n w : ℕ) → w ≡ i + n → Appends a b (take i bs)
    → Appends b c (take n (take (length bs - i) (drop i bs))) → Appends a c (take w bs)
appends-piece a b c bs i n w e h k =
    appends-as a c _ _ (ap (λ s. take i bs ++ take n s) (range-to_end bs i) ∙ (sym (take-add i n bs) ∙ ap (λ m. take m bs) (sym e)))
    (Appends-trans a b c _ _ h k)

pub within-piece : (bs : List ℕ) (i n w : ℕ) → w ≡ i + n → i ≤ length bs → n ≤ length (take (length bs - i) (drop i bs)) → w ≤ length bs
within-piece bs i n w e h k =
    let few : n ≤ length bs - i = (let P : ℕ → Type 0 = λ m. n ≤ m in subst P (ap length (range-to_end bs i) ∙ length-drop i bs) k) in
    omega arith

-- ---- writes in a row, the last of which may have failed

pub begins-all : (a b : Bytes) (x : List ℕ) → Appends a b x → AppendsBeginning a b x
begins-all a b x h = (length x, appends-as a b x _ (sym (take-length x)) h)

pub begins-as : (a b : Bytes) (x y : List ℕ) → x ≡ y → AppendsBeginning a b x → AppendsBeginning a b y
begins-as a b x y e h = let P : List ℕ → Type 0 = λ s. AppendsBeginning a b s in subst P e h

take-min-append : (x y : List ℕ) (n : ℕ) → take (min n (length x)) (x ++ y) ≡ take n x
take-min-append x y n = take-append-le (min n (length x)) x y (omega arith) ∙ take_min n x

-- a beginning of x is one of x with more after it
pub begins-append : (a b : Bytes) (x y : List ℕ) → AppendsBeginning a b x → AppendsBeginning a b (x ++ y)
begins-append a b x y h =
    (min h.0 (length x), appends-as a b (take h.0 x) _ (sym (take-min-append x y h.0)) h.1)

-- x, and then a beginning of y
pub begins-after : (a b c : Bytes) (x y : List ℕ) → Appends a b x → AppendsBeginning b c y → AppendsBeginning a c (x ++ y)
begins-after a b c x y h k =
    (length x + k.0, appends-as a c _ _ (sym (take-append-add x y k.0)) (Appends-trans a b c x (take k.0 y) h k.1))

-- x, and then all or a beginning of y, as the last call says
pub writes-after : {A E : Type 0} (a b c : Bytes) (r : Result A E) (x y : List ℕ) → Appends a b x → Writes b c r y → Writes a c r (x ++ y)
writes-after a b c (Ok v) x y h k = Appends-trans a b c x y h k
writes-after a b c (Err e) x y h k = begins-after a b c x y h k

-- at the exit of a `?`
pub writes-at_err : {A E : Type 0} (a b : Bytes) (r : Result A E) (bytes : List ℕ) → IsErr r → AppendsBeginning a b bytes → Writes a b r bytes
writes-at_err a b r bytes failed h = MatchResult-from_err r _ _ failed (λ _. h)

pub writes-as : {A E : Type 0} (a b : Bytes) (r : Result A E) (x y : List ℕ) → x ≡ y → Writes a b r x → Writes a b r y
writes-as a b r x y e h = let P : List ℕ → Type 0 = λ s. Writes a b r s in subst P e h
