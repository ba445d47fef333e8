use Rattle.plinq_sorted.proofs.OneOrder.{one-order}
use Rattle.plinq_sorted.proofs.laws.there_is_one_order.Goals as goal

pub returns : goal.returns
returns g c = λ rank xs ys zs first second. one-order rank g.K.Ord.cmp g.met.K.Ord.total xs ys zs first second
