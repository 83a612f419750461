-- The shape of a draft's tables, as its text was read.
use Rattle.std.proofs.Common.{arith}
use Rattle.draft.specs.Drafted.{borrowed, drafted}
use Rattle.draft.specs.declared.draft.Draft.{Draft}
use Rattle.draft.proofs.Held.{draft_is_read}
use Rattle.grammar.specs.Judged.{limits_of}
use Rattle.grammar.specs.Source.{grammar_tokens, grammar_ending}
use Rattle.notation.proofs.Proved.{tables_well_formed}
use Rattle.notation.specs.Shaped.{IsWellFormed}

pub draft_shaped : (d : Draft) → IsWellFormed (drafted d)
draft_shaped d = tables_well_formed (limits_of (borrowed d)) (grammar_tokens d.text.now) (grammar_ending d.text.now) (drafted d) (omega arith) (draft_is_read d)
