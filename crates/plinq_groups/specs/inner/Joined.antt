-- Groups that hold lists of items, joined: it doesn't matter which groups are joined first.
use Rattle.std.specs.Prelude.{◌≡◌, refl, Bool, true, false, cond, ◌||◌, ⊤, List, [], ◌∷◌, ◌++◌}
use Rattle.std.specs.List.{fold}
use Rattle.std.specs.Cmp.{IsEquivalence}
use Rattle.std.proofs.Common.{sym, ◌∙◌, ap, subst, append_assoc, true≢false}
use Rattle.plinq_groups.specs.Groups.{placed_groups}

module _ {K T : Type 0} (eq : K → K → Bool) where
  -- the group of its key has its items after those that it had
  abbrev pub joined_groups : List (K × List T) → K × List T → List (K × List T)
  joined_groups gs h = placed_groups eq h.0 h.1 (λ xs. xs ++ h.1) gs

  -- a group has this key
  abbrev has : List (K × List T) → K → Bool
  has [] k = false
  has (g ∷ gs) k = eq k g.0 || has gs k

  -- no group has this key
  abbrev Lacks : List (K × List T) → K → Type 0
  Lacks [] k = ⊤
  Lacks (g ∷ gs) k = (eq k g.0 ≡ false) × Lacks gs k

  -- no two have the same key
  abbrev AreDistinct : List (K × List T) → Type 0
  AreDistinct [] = ⊤
  AreDistinct (g ∷ gs) = Lacks gs g.0 × AreDistinct gs

  pub joined_groups-here : (g h : K × List T) (gs : List (K × List T)) → eq h.0 g.0 ≡ true → joined_groups (g ∷ gs) h ≡ (g.0, g.1 ++ h.1) ∷ gs
  joined_groups-here g h gs is = ap (λ b. cond b ((g.0, g.1 ++ h.1) ∷ gs) (g ∷ joined_groups gs h)) is

  pub joined_groups-later : (g h : K × List T) (gs : List (K × List T)) → eq h.0 g.0 ≡ false → joined_groups (g ∷ gs) h ≡ g ∷ joined_groups gs h
  joined_groups-later g h gs is = ap (λ b. cond b ((g.0, g.1 ++ h.1) ∷ gs) (g ∷ joined_groups gs h)) is

  module _ (lawful : IsEquivalence eq) where
    -- two groups of one key, one after the other or as one
    twice-at : (g : K × List T) (gs : List (K × List T)) (h z : K × List T) → eq z.0 h.0 ≡ true
        → joined_groups gs (h.0, h.1 ++ z.1) ≡ joined_groups (joined_groups gs h) z
        → (b : Bool) → eq h.0 g.0 ≡ b → joined_groups (g ∷ gs) (h.0, h.1 ++ z.1) ≡ joined_groups (joined_groups (g ∷ gs) h) z
    twice-at g gs h z same rest true is =
        joined_groups-here g (h.0, h.1 ++ z.1) gs is
        ∙ ap (λ l. (g.0, l) ∷ gs) (sym (append_assoc g.1 h.1 z.1))
        ∙ sym (ap (λ x. joined_groups x z) (joined_groups-here g h gs is) ∙ joined_groups-here (g.0, g.1 ++ h.1) z gs (lawful.congr z.0 h.0 g.0 same ∙ is))
    twice-at g gs h z same rest false is =
        joined_groups-later g (h.0, h.1 ++ z.1) gs is
        ∙ ap (λ x. g ∷ x) rest
        ∙ sym (ap (λ x. joined_groups x z) (joined_groups-later g h gs is) ∙ joined_groups-later g z (joined_groups gs h) (lawful.congr z.0 h.0 g.0 same ∙ is))

    twice : (gs : List (K × List T)) (h z : K × List T) → eq z.0 h.0 ≡ true → joined_groups gs (h.0, h.1 ++ z.1) ≡ joined_groups (joined_groups gs h) z
    twice [] h z same = sym (joined_groups-here (h.0, h.1) z [] same)
    twice (g ∷ gs) h z same = twice-at g gs h z same (twice gs h z same) (eq h.0 g.0) refl

    -- a group of a key that is there, and one of another key, in either order
    swap-at : (g : K × List T) (gs : List (K × List T)) (z h : K × List T) → eq z.0 h.0 ≡ false → has (g ∷ gs) z.0 ≡ true
        → (has gs z.0 ≡ true → joined_groups (joined_groups gs z) h ≡ joined_groups (joined_groups gs h) z)
        → (b : Bool) → eq z.0 g.0 ≡ b → (c : Bool) → eq h.0 g.0 ≡ c → joined_groups (joined_groups (g ∷ gs) z) h ≡ joined_groups (joined_groups (g ∷ gs) h) z
    swap-at g gs z h apart there rest true is true too =
        absurd (true≢false (sym (lawful.congr z.0 g.0 h.0 is ∙ lawful.symm g.0 h.0 ∙ too) ∙ apart))
    swap-at g gs z h apart there rest true is false too =
        ap (λ x. joined_groups x h) (joined_groups-here g z gs is)
        ∙ joined_groups-later (g.0, g.1 ++ z.1) h gs too
        ∙ sym (ap (λ x. joined_groups x z) (joined_groups-later g h gs too) ∙ joined_groups-here g z (joined_groups gs h) is)
    swap-at g gs z h apart there rest false is true too =
        ap (λ x. joined_groups x h) (joined_groups-later g z gs is)
        ∙ joined_groups-here g h (joined_groups gs z) too
        ∙ sym (ap (λ x. joined_groups x z) (joined_groups-here g h gs too) ∙ joined_groups-later (g.0, g.1 ++ h.1) z gs is)
    swap-at g gs z h apart there rest false is false too =
        ap (λ x. joined_groups x h) (joined_groups-later g z gs is)
        ∙ joined_groups-later g h (joined_groups gs z) too
        ∙ ap (λ x. g ∷ x) (rest (sym (ap (λ b. b || has gs z.0) is) ∙ there))
        ∙ sym (ap (λ x. joined_groups x z) (joined_groups-later g h gs too) ∙ joined_groups-later g z (joined_groups gs h) is)

    swap : (gs : List (K × List T)) (z h : K × List T) → eq z.0 h.0 ≡ false → has gs z.0 ≡ true
        → joined_groups (joined_groups gs z) h ≡ joined_groups (joined_groups gs h) z
    swap [] z h apart there = absurd (true≢false (sym there))
    swap (g ∷ gs) z h apart there = swap-at g gs z h apart there (swap gs z h apart) (eq z.0 g.0) refl (eq h.0 g.0) refl

    -- a key that is there stays
    stays-at : (g : K × List T) (gs : List (K × List T)) (h : K × List T) (k : K) → has (g ∷ gs) k ≡ true
        → (has gs k ≡ true → has (joined_groups gs h) k ≡ true)
        → (b : Bool) → eq h.0 g.0 ≡ b → (c : Bool) → eq k g.0 ≡ c → has (joined_groups (g ∷ gs) h) k ≡ true
    stays-at g gs h k there rest true is c first = ap (λ x. has x k) (joined_groups-here g h gs is) ∙ there
    stays-at g gs h k there rest false is true first = ap (λ x. has x k) (joined_groups-later g h gs is) ∙ ap (λ b. b || has (joined_groups gs h) k) first
    stays-at g gs h k there rest false is false first =
        ap (λ x. has x k) (joined_groups-later g h gs is) ∙ ap (λ b. b || has (joined_groups gs h) k) first ∙ rest (sym (ap (λ b. b || has gs k) first) ∙ there)

    stays : (gs : List (K × List T)) (h : K × List T) (k : K) → has gs k ≡ true → has (joined_groups gs h) k ≡ true
    stays [] h k there = absurd (true≢false (sym there))
    stays (g ∷ gs) h k there = stays-at g gs h k there (stays gs h k) (eq h.0 g.0) refl (eq k g.0) refl

    -- the key of a group that was joined is there
    comes-at : (g : K × List T) (gs : List (K × List T)) (h : K × List T) (k : K) → eq k h.0 ≡ true → has (joined_groups gs h) k ≡ true
        → (b : Bool) → eq h.0 g.0 ≡ b → has (joined_groups (g ∷ gs) h) k ≡ true
    comes-at g gs h k same rest true is = ap (λ x. has x k) (joined_groups-here g h gs is) ∙ ap (λ b. b || has gs k) (lawful.congr k h.0 g.0 same ∙ is)
    comes-at g gs h k same rest false is =
        ap (λ x. has x k) (joined_groups-later g h gs is) ∙ ap (λ b. b || has (joined_groups gs h) k) (lawful.congr k h.0 g.0 same ∙ is) ∙ rest

    comes : (gs : List (K × List T)) (h : K × List T) (k : K) → eq k h.0 ≡ true → has (joined_groups gs h) k ≡ true
    comes [] h k same = ap (λ b. b || false) same
    comes (g ∷ gs) h k same = comes-at g gs h k same (comes gs h k same) (eq h.0 g.0) refl

    -- groups of other keys may come before or after
    passes : (hs gs : List (K × List T)) (z : K × List T) → Lacks hs z.0 → has gs z.0 ≡ true
        → fold joined_groups (joined_groups gs z) hs ≡ joined_groups (fold joined_groups gs hs) z
    passes [] gs z apart there = refl
    passes (h ∷ hs) gs z apart there = ap (λ x. fold joined_groups x hs) (swap gs z h apart.0 there)
        ∙ passes hs (joined_groups gs h) z apart.1 (stays gs h z.0 there)

    lacks-same : (hs : List (K × List T)) (k z : K) → eq z k ≡ true → Lacks hs k → Lacks hs z
    lacks-same [] k z same lacks = tt
    lacks-same (h ∷ hs) k z same lacks = (lawful.congr z k h.0 same ∙ lacks.0, lacks-same hs k z same lacks.1)

    -- the groups of what follows, and one group more
    through-at : (h : K × List T) (hs gs : List (K × List T)) (z : K × List T) → AreDistinct (h ∷ hs)
        → fold joined_groups (joined_groups gs h) (joined_groups hs z) ≡ joined_groups (fold joined_groups (joined_groups gs h) hs) z
        → (b : Bool) → eq z.0 h.0 ≡ b → fold joined_groups gs (joined_groups (h ∷ hs) z) ≡ joined_groups (fold joined_groups gs (h ∷ hs)) z
    through-at h hs gs z distinct rest true is =
        ap (λ x. fold joined_groups gs x) (joined_groups-here h z hs is)
        ∙ ap (λ x. fold joined_groups x hs) (twice gs h z is)
        ∙ passes hs (joined_groups gs h) z (lacks-same hs h.0 z.0 is distinct.0) (comes gs h z.0 is)
    through-at h hs gs z distinct rest false is = ap (λ x. fold joined_groups gs x) (joined_groups-later h z hs is) ∙ rest

    through : (hs gs : List (K × List T)) (z : K × List T) → AreDistinct hs
        → fold joined_groups gs (joined_groups hs z) ≡ joined_groups (fold joined_groups gs hs) z
    through [] gs z distinct = refl
    through (h ∷ hs) gs z distinct = through-at h hs gs z distinct (through hs (joined_groups gs h) z distinct.1) (eq z.0 h.0) refl

    lacks-joined_groups-at : (h : K × List T) (hs : List (K × List T)) (z : K × List T) (k : K) → eq k z.0 ≡ false → Lacks (h ∷ hs) k
        → Lacks (joined_groups hs z) k
        → (b : Bool) → eq z.0 h.0 ≡ b → Lacks (joined_groups (h ∷ hs) z) k
    lacks-joined_groups-at h hs z k apart lacks rest true is = subst (λ x. Lacks x k) (sym (joined_groups-here h z hs is)) (lacks.0, lacks.1)
    lacks-joined_groups-at h hs z k apart lacks rest false is = subst (λ x. Lacks x k) (sym (joined_groups-later h z hs is)) (lacks.0, rest)

    lacks-joined_groups : (hs : List (K × List T)) (z : K × List T) (k : K) → eq k z.0 ≡ false → Lacks hs k → Lacks (joined_groups hs z) k
    lacks-joined_groups [] z k apart lacks = (apart, tt)
    lacks-joined_groups (h ∷ hs) z k apart lacks = lacks-joined_groups-at h hs z k apart lacks (lacks-joined_groups hs z k apart lacks.1) (eq z.0 h.0) refl

    distinct-joined_groups-at : (h : K × List T) (hs : List (K × List T)) (z : K × List T) → AreDistinct (h ∷ hs) → AreDistinct (joined_groups hs z)
        → (b : Bool) → eq z.0 h.0 ≡ b → AreDistinct (joined_groups (h ∷ hs) z)
    distinct-joined_groups-at h hs z distinct rest true is = subst AreDistinct (sym (joined_groups-here h z hs is)) (distinct.0, distinct.1)
    distinct-joined_groups-at h hs z distinct rest false is =
        subst AreDistinct (sym (joined_groups-later h z hs is)) (lacks-joined_groups hs z h.0 (lawful.symm h.0 z.0 ∙ is) distinct.0, rest)

    distinct-joined_groups : (hs : List (K × List T)) (z : K × List T) → AreDistinct hs → AreDistinct (joined_groups hs z)
    distinct-joined_groups [] z distinct = (tt, tt)
    distinct-joined_groups (h ∷ hs) z distinct = distinct-joined_groups-at h hs z distinct (distinct-joined_groups hs z distinct.1) (eq z.0 h.0) refl

    all-through : (zs hs gs : List (K × List T)) → AreDistinct hs
        → fold joined_groups gs (fold joined_groups hs zs) ≡ fold joined_groups (fold joined_groups gs hs) zs
    all-through [] hs gs distinct = refl
    all-through (z ∷ zs) hs gs distinct =
        all-through zs (joined_groups hs z) gs (distinct-joined_groups hs z distinct) ∙ ap (λ x. fold joined_groups x zs) (through hs gs z distinct)

    -- groups that were joined first are joined as one after another
    pub joins-apart : (gs zs : List (K × List T)) → fold joined_groups gs (fold joined_groups [] zs) ≡ fold joined_groups gs zs
    joins-apart gs zs = all-through zs [] gs tt
