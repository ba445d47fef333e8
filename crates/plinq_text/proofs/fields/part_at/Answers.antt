use Rattle.std.proofs.Common.{◌+◌, length, subst, sym, ap, ◌∙◌, take, take_all, drop, le_refl, arith}
use Rattle.std.proofs.lemmas.List.{drop_all}
use Rattle.memchr.specs.Find.{IsFirstByte, is_byte}
use Rattle.plinq_text.proofs.LineLaws.{rest-from}
use Rattle.plinq_text.proofs.FieldLaws.{place-found, place-missed}
use Rattle.plinq_text.proofs.fields.part_at.Goals as goal

pub returns-in-Some : goal.returns-in-Some
returns-in-Some c =
    let text = c.args.text.now in
    let place = place-found c.args.byte text c.in-Some.end (subst (IsFirstByte (is_byte c.args.byte) text) c.in-Some.is c.memchr.ensures) in
    record {
      before = ap (λ n. take n text) (sym place);
      after = rest-from (c.in-Some.end + 1) text ∙ ap (λ n. drop (n + 1) text) (sym place);
    }

pub returns-in-None : goal.returns-in-None
returns-in-None c =
    let text = c.args.text.now in
    let place = place-missed c.args.byte text (subst (IsFirstByte (is_byte c.args.byte) text) c.in-None.is c.memchr.ensures) in
    record {
      before = sym (ap (λ n. take n text) place ∙ take_all (length text) text (le_refl (length text)));
      after = sym (ap (λ n. drop (n + 1) text) place ∙ drop_all (length text + 1) text (omega arith));
    }
