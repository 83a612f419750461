-- What reading a text leaves in the tables.
use Rattle.std.specs.Prelude.{◌≡◌, ℕ, ◌≤◌, ◌⊎◌, List, [], length}
use Rattle.grammar.specs.Forest.{Clean}
use Rattle.grammar.specs.Sound.{zero_name, zero_spelling}
use Rattle.lexer.specs.declared.vocabulary.Spelling.{Spelling}
use Rattle.tables.specs.Filling.{entries}
use Rattle.tables.specs.Nodes.{Nodes, zero_node}
use Rattle.tables.specs.declared.filling.Filling.{Filling}
use Rattle.tables.specs.declared.name.Name.{Name}
use Rattle.grammar.specs.Judged.{Lent, lent, limits_of, held, AllUsed, AsLong}
use Rattle.grammar.specs.Refusals.{RefusedAs}
use Rattle.grammar.specs.Source.{grammar_tokens, grammar_ending}
use Rattle.grammar.specs.declared.judging.Counts.{Counts}
use Rattle.grammar.specs.declared.refusal.Refusal.{Refusal}
use Rattle.grammar.specs.declared.refusal.Refusal.TheVariants.{TooLong}
use Rattle.notation.specs.Reading.{Limits, Outcome, read, reading}
use Rattle.token.specs.Refusals.{IsTooLong}
use Rattle.token.specs.declared.refusal.TooLong.{TooLong as TooLongTold}

-- the tables behind the entries
abbrev pub behind : Filling Name 64 → Filling Spelling 120 → Nodes → Lent
behind names kinds nodes = lent names.table.now kinds.table.now nodes.table.now

-- there is no entry yet, and every place is 0
pub record Fresh (names : Filling Name 64) (kinds : Filling Spelling 120) (nodes : Nodes) : Type 0 where
  pub no_name : entries names ≡ []
  pub no_kind : entries kinds ≡ []
  pub no_node : entries nodes ≡ []
  pub names_clean : Clean names zero_name
  pub kinds_clean : Clean kinds zero_spelling
  pub nodes_clean : Clean nodes zero_node

abbrev pub outcome : List ℕ → Limits → Outcome
outcome text L = reading L (grammar_tokens text) (grammar_ending text)

pub record Filled (text : List ℕ) (before after : Lent) (c : Counts) : Type 0 where
  pub short : length text ≤ 32768
  pub all_read : outcome text (limits_of before) ≡ read (held text c after)
  pub used : AllUsed c after
  pub long : AsLong before after

-- the text is too long, or its reading is refused
abbrev pub WhyNot : List ℕ → Limits → Refusal → Type 0
WhyNot text L e = ((x : TooLongTold) × (e ≡ TooLong x) × IsTooLong text x) ⊎ ((length text ≤ 32768) × RefusedAs e (outcome text L))

pub record Unfilled (text : List ℕ) (before after : Lent) (e : Refusal) : Type 0 where
  pub why : WhyNot text (limits_of before) e
  pub long : AsLong before after
