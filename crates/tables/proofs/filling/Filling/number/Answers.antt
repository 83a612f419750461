use Rattle.tables.proofs.Numbered.{numbered}
use Rattle.tables.proofs.filling.Filling.number.Goals as goal

pub returns-in-None-clause-told : goal.returns-in-None-clause-told
returns-in-None-clause-told g c = numbered g.E.Spotted.begins g.E.Spotted.spans c.args.text.now c.args.entry c.args.self.now c.push.new.self c.in-None.ensures c.push.result c.push.ensures.told
