-- What a draft is a draft of.
use Rattle.draft.specs.declared.draft.Draft.{Draft}
use Rattle.grammar.specs.Judged.{Lent, lent, held}
use Rattle.notation.specs.Tables.{Tables}

-- the tables that it borrows
abbrev pub borrowed : Draft → Lent
borrowed d = lent d.names.now d.kinds.now d.nodes.now

-- the grammar in them
abbrev pub drafted : Draft → Tables
drafted d = held d.text.now d.counts (borrowed d)
