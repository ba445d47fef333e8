use Rattle.std.proofs.Common.{◌≡◌, IfOk, option_map, ap, subst₂, ◌∙◌}
use Rattle.plinq_text.specs.Numbers.{number_of}
use Rattle.plinq_tally.specs.Figures.{figured_number, key_in, number_in}
use Rattle.plinq_tally.proofs.figures.Figures.take_line.Goals as goal

pub returns : goal.returns
returns c =
    let byte = c.args.self.now.0 in
    let text = c.args.text.now in
    let same : c.self.inside.separator ≡ byte = ap (λ v. v.0) c.self.view_is in
    let before : c.part_at-parts.result.before.now ≡ number_in byte text = c.part_at-parts.ensures.before ∙ ap (λ b. number_in b text) same in
    let after : c.part_at-parts.result.after.now ≡ key_in byte text = c.part_at-parts.ensures.after ∙ ap (λ b. key_in b text) same in
    let number : option_map (λ n. n.billionths) c.number_of.result ≡ number_of (number_in byte text) = c.number_of.ensures ∙ ap number_of before in
    subst₂ (λ n k. IfOk c.take_number.result (λ _. c.take_number.new.self ≡ (byte, figured_number n k c.args.self.now.1))) number after
    c.take_number.ensures
