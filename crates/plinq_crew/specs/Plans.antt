-- Plans that need workers.
use Rattle.std.specs.Prelude.{◌≡◌, true, false}
use Rattle.std.specs.List.{list_any}
use Rattle.plinq_ops.specs.declared.order.Order.TheVariants.{ByArrival}
use Rattle.plinq_ops.specs.declared.plan.Plan.{Plan}
use Rattle.plinq_ops.specs.ByKey.{are_keyless, is_by_key}
use Rattle.plinq_ops.specs.Feeding.{is_empty_take}

-- workers are needed: no operator takes nothing
pub record IsUndecided {L : Type 0} (plan : Plan L) : Type 0 where
  pub keyed : is_by_key plan.worker.now ≡ true
  pub worker : list_any is_empty_take plan.worker.now ≡ false
  pub after : list_any is_empty_take plan.after.now ≡ false
  pub undecided : plan.decided ≡ false
  pub keyless : plan.order ≡ ByArrival → are_keyless plan.worker.now ≡ true
