use Rattle.std.proofs.Common.{◌≡◌, ◌∙◌, ◌+◌, ◌-◌, ◌++◌, ◌∷◌, [], ap, sym, length, arith, true, false, Some, None, cond, ltb}
use Rattle.plinq_keyed.specs.declared.event.Event.TheVariants.{Ask}
use Rattle.plinq_keyed.specs.declared.tail.Tail.TheVariants.{Closed}
use Rattle.plinq_source.specs.Trace.{items_from}
use Rattle.plinq_keyed.specs.History.{Place, place_after, start, is_legal_history, ending_tail}
use Rattle.plinq_enumerator.proofs.Next.{record_of, Grown-from_next, next_record-closed, next_record-open, next_place-closed, next_place-open}
use Rattle.plinq_enumerator.proofs.enumerator.Enumerator.ask_into.Goals as goal

pub invariant_of-self-then-self : goal.invariant_of-self-then-self
invariant_of-self-then-self g c =
    let old = c.args.self.now in
    let t = g.S.Source.whole old.source in
    let h = old.records.items in
    let k = c.args.ticket in
    let n = c.args.n in
    let shut : (place_after t start h).closed ≡ true = old.shut ∙ c.if-self.true in
    let r = record_of k (Ask n) old.given 0 (Some Closed) in
    let added : c.push_reserved.new.self.items ≡ h ++ r ∷ [] = c.push_reserved.ensures.items ∙ ap (λ xs. xs ++ r ∷ []) c.in_ok-reserve.ensures.items in
    let grown =
    Grown-from_next t h c.push_reserved.new.self.items k (Ask n) r added (next_record-closed t h k n old.given old.at shut) old.legal c.requires.rising in
    let place = grown.place ∙ next_place-closed t (place_after t start h) n shut in
    record {
      walked = old.walked;
      at = ap (λ (p : Place). p.given) place ∙ old.at;
      shut = ap (λ (p : Place). p.closed) place ∙ old.shut;
      legal = grown.legal;
    }

pub invariant_of-self-2 : goal.invariant_of-self-2
invariant_of-self-2 g c =
    let old = c.args.self.now in
    let t = g.S.Source.whole old.source in
    let h = old.records.items in
    let k = c.args.ticket in
    let n = c.args.n in
    let g0 = old.given in
    let m = c.len-count.result in
    let tail = c.take_items-tail.result in
    let same : g.S.Source.whole c.take_items-tail.new.source ≡ t = c.take_items-tail.ensures.same in
    let shut : (place_after t start h).closed ≡ false = old.shut ∙ c.if-self.false in
    let taken : c.take_items-tail.new.items.items ≡ items_from t g0 n = c.take_items-tail.ensures.taken ∙ ap (λ f. items_from t f n) old.walked in
    let counted : m ≡ length (items_from t g0 n) = omega (arith, c.len-count.ensures, c.take_items-tail.ensures.counted, ap length taken) in
    let tailed : tail ≡ cond (ltb (length t.items - g0) n) (ending_tail t.ending) None =
    c.take_items-tail.ensures.tail ∙ ap (λ f. cond (ltb (length t.items - f) n) (ending_tail t.ending) None) old.walked in
    let r = record_of k (Ask n) g0 m tail in
    let added : c.push_reserved-2.new.self.items ≡ h ++ r ∷ [] = c.push_reserved-2.ensures.items ∙ ap (λ xs. xs ++ r ∷ []) c.in_ok-reserve-3.ensures.items in
    let grown =
    Grown-from_next t h c.push_reserved-2.new.self.items k (Ask n) r added (next_record-open t h k n g0 m tail old.at shut counted tailed) old.legal
    c.requires.rising in
    let moved : (place_after t start c.push_reserved-2.new.self.items).given ≡ g0 + m =
    ap (λ (p : Place). p.given) grown.place
    ∙ next_place-open t (place_after t start h) n shut
    ∙ ap (λ f. f + length (items_from t f n)) old.at
    ∙ ap (λ x. g0 + x) (sym counted) in
    record {
      walked =
          c.take_items-tail.ensures.moved ∙ ap (λ f. f + length c.take_items-tail.new.items.items) old.walked
          ∙ ap (λ x. g0 + x) (ap length taken ∙ sym counted);
      at = ap (λ w. (place_after w start c.push_reserved-2.new.self.items).given) same ∙ moved;
      shut = ap (λ w. (place_after w start c.push_reserved-2.new.self.items).closed) same ∙ ap (λ (p : Place). p.closed) grown.place ∙ old.shut;
      legal = ap (λ w. is_legal_history w c.push_reserved-2.new.self.items) same ∙ grown.legal;
    }
