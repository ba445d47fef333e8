use Rattle.std.proofs.Common.{◌≡◌, ◌++◌, take}
use Rattle.plinq_text.specs.Fields.{fields, from_field, further}
use Rattle.plinq_text.proofs.fields.put_further.Given as goal

abbrev pub invariant-loop-index : goal.invariant-loop-index
invariant-loop-index l = record {
  put : l.out.items ≡ l.fn.out.items ++ further l.separator (fields l.separator (take l.index-index l.indexes) l.text);
  place : l.from ≡ from_field l.separator l.last l.text;
}
