use Rattle.draft.proofs.Shape.{draft_shaped}
use Rattle.draft.proofs.draft.Draft.shape.Goals as goal

pub returns-clause-tree : goal.returns-clause-tree
returns-clause-tree c = draft_shaped c.args.self.now
