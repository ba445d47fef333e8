use Rattle.plinq_query.proofs.count_of.has_few.Goals as goal

pub returns : goal.returns
returns g c = (g.met.S.Source g.world.𝓛 g.world.𝓜 g.world.𝓡 ((λ s x. x), (λ x. x), (λ x. x), λ x. x)).few c.args._source.now
