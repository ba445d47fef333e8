use Rattle.plinq_crew.proofs.task.Task.work.Goals as goal

-- what is sent is made of the chunk's result
pub returns : goal.returns
returns g c = record { result = c.in_ok-made.made; is = c.in_ok-made.ensures; made = c.in_ok-part.ensures.makes; same = c.in_ok-part.ensures.same }
