use Rattle.draft.specs.Drafted.{borrowed}
use Rattle.draft.proofs.Held.{read_is_held}
use Rattle.draft.proofs.draft.Draft.text.Goals as goal

pub returns-clause-meaning : goal.returns-clause-meaning
returns-clause-meaning c =
    let d = c.args.self.now in
    read_is_held d.text.now (borrowed d) d.counts d.reading
