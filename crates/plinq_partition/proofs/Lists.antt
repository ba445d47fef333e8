-- Partitions in lists: those that are made from one, and those that are given back.
use Rattle.std.proofs.Common.{◌≡◌, ℕ, List, [], ◌∷◌, ◌++◌, get_or, set, refl, sym, ap, ◌∙◌, append_assoc, subst, Option, Some}
use Rattle.std.proofs.lemmas.List.{append-nil}
use Rattle.plinq_source.specs.declared.source.Source.{Ghosts}
use Rattle.plinq_source.specs.Trace.{Trace, open_trace}
use Rattle.plinq_partition.specs.declared.partition.Partition.{Partition}
use Rattle.plinq_enumerator.specs.declared.enumerator.Enumerator.{Enumerator}
use Rattle.plinq_ticket.specs.declared.pass.Token.{Token}
use Rattle.plinq_ticket.specs.declared.ticket_lock.TicketLock.{TicketLock}
use Rattle.plinq_ticket.specs.Passes.{pass_origin, pass_share}
use Rattle.plinq_partition.specs.PartitionRecords.{share_at, origin_at, IsAt, IsPassAt}
use Rattle.plinq_partition.specs.Partitions.{Holding, holding_of, new_beside, AreNew, AreMadeFrom, all_shares}
use Rattle.plinq_partition.specs.GivenBack.{first_origin, common_origin}

module _ {S T : Type 0} {source : Ghosts S T} where
  pub made-first : (a : Holding T) (qs : List (Partition S T source)) (d : Partition S T source) → AreMadeFrom a qs → holding_of (get_or qs 0 d) ≡ a
  made-first a [] d made = absurd made
  made-first a (q ∷ qs) d made = made.0

  -- the first one changes, and has what it had
  pub made-set : (a : Holding T) (qs : List (Partition S T source)) (q : Partition S T source) → AreMadeFrom a qs → holding_of q ≡ a
      → AreMadeFrom a (set qs 0 q)
  made-set a [] q made same = absurd made
  made-set a (x ∷ qs) q made same = (same, made.1)

  new-more : (a : Holding T) (qs : List (Partition S T source)) (q : Partition S T source) → AreNew a qs → holding_of q ≡ new_beside a → AreNew a (qs ++ q ∷ [])
  new-more a [] q new one = (one, tt)
  new-more a (x ∷ qs) q new one = (new.0, new-more a qs q new.1 one)

  -- one more
  pub made-more : (a : Holding T) (qs : List (Partition S T source)) (q : Partition S T source) → AreMadeFrom a qs → holding_of q ≡ new_beside a
      → AreMadeFrom a (qs ++ q ∷ [])
  made-more a [] q made one = absurd made
  made-more a (x ∷ qs) q made one = (made.0, new-more a qs q made.1 one)

  pub all_shares-last : (ps : List (Partition S T source)) (p : Partition S T source) → all_shares (ps ++ p ∷ []) ≡ all_shares ps ++ share_at p.pass
  all_shares-last [] p = append-nil (share_at p.pass)
  all_shares-last (x ∷ ps) p = ap (λ rs. share_at x.pass ++ rs) (all_shares-last ps p) ∙ sym (append_assoc (share_at x.pass) (all_shares ps) (share_at p.pass))

  pub first_origin-last : (t : Trace T) (ps : List (Partition S T source)) (p : Partition S T source)
      → first_origin t (ps ++ p ∷ []) ≡ first_origin (holding_of p).origin ps
  first_origin-last t [] p = refl
  first_origin-last t (x ∷ ps) p = refl

  pub at-some : (lock : TicketLock (Enumerator S T source) T) (n : ℕ) (o : Option (Token (Enumerator S T source) T)) (q : Token (Enumerator S T source) T)
      → o ≡ Some q → IsAt lock n o → IsPassAt lock n q
  at-some lock n o q e at = subst (λ x. IsAt lock n x) e at

  -- The records and the origin that a pass has taken in of the partitions after the rest
  pub record IsGathered (ps rest : List (Partition S T source)) (q : Token (Enumerator S T source) T) : Type 0 where
    pub shares : all_shares rest ++ pass_share q ≡ all_shares ps
    pub origin : first_origin (pass_origin q) rest ≡ common_origin ps

  pub gathered-last : (ps rest : List (Partition S T source)) (p : Partition S T source) (q : Token (Enumerator S T source) T) → ps ≡ rest ++ p ∷ []
      → p.pass ≡ Some q → IsGathered ps rest q
  gathered-last ps rest p q e there = record {
    shares = ap (λ rs. all_shares rest ++ rs) (sym (ap share_at there)) ∙ sym (all_shares-last rest p) ∙ sym (ap all_shares e);
    origin = ap (λ t. first_origin t rest) (sym (ap origin_at there)) ∙ sym (first_origin-last (open_trace []) rest p) ∙ sym (ap common_origin e);
  }

  pub gathered-next : (ps rest less : List (Partition S T source)) (p : Partition S T source) (q r s : Token (Enumerator S T source) T)
      → IsGathered ps rest r → rest ≡ less ++ p ∷ [] → p.pass ≡ Some q
      → pass_share s ≡ pass_share q ++ pass_share r → pass_origin s ≡ pass_origin q → IsGathered ps less s
  gathered-next ps rest less p q r s gathered e there shares origin = record {
    shares = ap (λ rs. all_shares less ++ rs) (shares ∙ ap (λ rs. rs ++ pass_share r) (sym (ap share_at there)))
        ∙ sym (append_assoc (all_shares less) (share_at p.pass) (pass_share r))
        ∙ ap (λ rs. rs ++ pass_share r) (sym (all_shares-last less p) ∙ sym (ap all_shares e))
        ∙ gathered.shares;
    origin = ap (λ t. first_origin t less) (origin ∙ sym (ap origin_at there))
        ∙ sym (first_origin-last (pass_origin r) less p)
        ∙ sym (ap (first_origin (pass_origin r)) e)
        ∙ gathered.origin;
  }

  pub gathered-all : (ps rest : List (Partition S T source)) (q : Token (Enumerator S T source) T) → IsGathered ps rest q → rest ≡ []
      → (pass_share q ≡ all_shares ps) × (pass_origin q ≡ common_origin ps)
  gathered-all ps rest q gathered none =
      (ap (λ qs. all_shares qs ++ pass_share q) (sym none) ∙ gathered.shares, ap (first_origin (pass_origin q)) (sym none) ∙ gathered.origin)
