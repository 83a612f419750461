-- A draft's tables, as they were judged.
use Rattle.std.proofs.Common.{◌≡◌, ℕ, List}
use Rattle.draft.specs.Drafted.{borrowed, drafted}
use Rattle.draft.specs.Reading.{Reading}
use Rattle.draft.specs.declared.draft.Draft.{Draft}
use Rattle.grammar.specs.Filled.{outcome}
use Rattle.grammar.specs.Judged.{Lent, limits_of, held, GrammarHeld}
use Rattle.grammar.specs.Source.{grammar_tokens, grammar_ending}
use Rattle.grammar.specs.declared.judging.Counts.{Counts}
use Rattle.notation.proofs.Judging.{read_is_right, right_is_read}
use Rattle.notation.specs.Reading.{read}

module _ (text : List ℕ) (t : Lent) (c : Counts) where
  pub held_is_read : GrammarHeld text t c → Reading text t c
  held_is_read g = record { short = g.short; all_read = right_is_read (limits_of t) (grammar_tokens text) (grammar_ending text) (held text c t) g.right; used = g.used }

  pub read_is_held : Reading text t c → GrammarHeld text t c
  read_is_held r = record { short = r.short; right = read_is_right (limits_of t) (grammar_tokens text) (grammar_ending text) (held text c t) r.all_read; used = r.used }

pub draft_is_read : (d : Draft) → outcome d.text.now (limits_of (borrowed d)) ≡ read (drafted d)
draft_is_read d = d.reading.all_read
