-- What a value of each source stands for: all that it gives, and how many items of that it has given.
use Rattle.std.specs.Prelude.{ℕ, ◌+◌, ◌≤◌, ◌^◌, ◌+ℤ◌, ℤ, pos, length, replicate}
use Rattle.std.proofs.Common.{arith}
use Rattle.std.proofs.Math.ListN.{length-replicate}
use Rattle.std.proofs.lemmas.List.FromFn.{length-map-range_with_len}
use Rattle.plinq_source.specs.Trace.{Trace, ended_trace, list_ending, list_ending-ends, IsSourceEnding}
use Rattle.plinq_source.specs.Text.{tokens, refusal, text_trace, given_at}
use Rattle.plinq_source.specs.Range.{range_items}
use Rattle.plinq_source.specs.Concat.{concat, length-concat, concat-ends, concat-within}
use Rattle.plinq_source.specs.inner.Values.{few-values}
use Rattle.plinq_source.specs.declared.ending.Ending.TheVariants.{End}
use Rattle.plinq_source.specs.declared.source.Source.{Ghosts}
use Rattle.plinq_source.specs.declared.list.ListSource.{ListSource}
use Rattle.plinq_source.specs.declared.text.TextSource.{TextSource}
use Rattle.plinq_source.specs.declared.range.RangeSource.{RangeSource}
use Rattle.plinq_source.specs.declared.repeat.RepeatSource.{RepeatSource}
use Rattle.plinq_source.specs.declared.concat.ConcatSource.{ConcatSource}

-- a source has few items, it ends or refuses, and has given no more items than it has
pub record IsSource {T : Type 0} (whole : Trace T) (given : ℕ) : Type 0 where
  pub few : length whole.items ≤ 2 ^ 40
  pub ends : IsSourceEnding whole.ending
  pub within : given ≤ length whole.items

-- a list: its items, and the end or its refusal
abbrev pub list_whole : {T : Type 0} → ListSource T → Trace T
list_whole s = ended_trace s.items.items (list_ending s.refusal)

abbrev pub list_given : {T : Type 0} → ListSource T → ℕ
list_given s = s.next

pub list_walked : {T : Type 0} (s : ListSource T) → IsSource (list_whole s) (list_given s)
list_walked s = record {
  few = s.few;
  ends = list_ending-ends s.refusal;
  within = s.within;
}

-- a text: its numbers, and the end or the refusal of a token
abbrev pub text_whole : TextSource → Trace ℤ
text_whole s = text_trace s.text.items

abbrev pub text_given : TextSource → ℕ
text_given s = given_at s.text.items s.at

pub text_walked : (s : TextSource) → IsSource (text_whole s) (text_given s)
text_walked s = record {
  few = omega (arith, s.few, few-values s.text.items);
  ends = list_ending-ends (refusal (tokens s.text.items));
  within = omega arith;
}

-- a range: its numbers, and the end
abbrev pub range_whole : RangeSource → Trace ℤ
range_whole s = ended_trace (range_items s.start s.count) End

abbrev pub range_given : RangeSource → ℕ
range_given s = s.next

pub range_walked : (s : RangeSource) → IsSource (range_whole s) (range_given s)
range_walked s =
    let as_many = length-map-range_with_len (λ i. s.start +ℤ pos i) 0 s.count in
    record {
      few = omega (arith, s.few, as_many);
      ends = tt;
      within = omega (arith, s.within, as_many);
    }

-- a repeat: its value as often as it says, and the end
abbrev pub repeat_whole : RepeatSource → Trace ℤ
repeat_whole s = ended_trace (replicate s.count s.value) End

abbrev pub repeat_given : RepeatSource → ℕ
repeat_given s = s.next

pub repeat_walked : (s : RepeatSource) → IsSource (repeat_whole s) (repeat_given s)
repeat_walked s =
    let as_many = length-replicate s.count s.value in
    record {
      few = omega (arith, s.few, as_many);
      ends = tt;
      within = omega (arith, s.within, as_many);
    }

-- a concatenation: its first source, and where that ends its second
abbrev pub concat_whole : {A B T : Type 0} {first : Ghosts A T} {second : Ghosts B T} → ConcatSource T A B first second → Trace T
concat_whole {A} {B} {T} {first} {second} s = concat (first.whole s.first) (second.whole s.second)

abbrev pub concat_given : {A B T : Type 0} {first : Ghosts A T} {second : Ghosts B T} → ConcatSource T A B first second → ℕ
concat_given {A} {B} {T} {first} {second} s = first.given s.first + second.given s.second

pub concat_walked : {A B T : Type 0} {first : Ghosts A T} {second : Ghosts B T} (s : ConcatSource T A B first second)
    → ((a : A) → IsSource (first.whole a) (first.given a)) → ((b : B) → IsSource (second.whole b) (second.given b))
    → IsSource (concat_whole s) (concat_given s)
concat_walked {A} {B} {T} {first} {second} s first_walked second_walked =
    let xs = (first.whole s.first).items in
    let e = (first.whole s.first).ending in
    let next = second.whole s.second in
    let a = first_walked s.first in
    let b = second_walked s.second in
    record {
      few = omega (arith, s.few, length-concat xs e next);
      ends = concat-ends xs e next a.ends b.ends;
      within = concat-within xs e next (first.given s.first) (second.given s.second) s.first_ended s.unasked s.ends a.within b.within;
    }
