-- The parts of a reading: tokens in front, tables behind, and the roots that wait between them.
use Rattle.std.specs.Prelude.{◌≡◌, ℕ, List}
use Rattle.grammar.specs.Trees.{Forest}
use Rattle.grammar.specs.declared.parser.Parser.{Parser}
use Rattle.grammar.specs.declared.words.Words.{Words}
use Rattle.lexer.specs.declared.vocabulary.Spelling.{Spelling}
use Rattle.tables.specs.declared.filling.Filling.{Filling}
use Rattle.tables.specs.declared.name.Name.{Name}

-- whose the tokens and tables are, by the ghost names of their loans
pub record Lenders : Type 0 where
  pub words : ℕ
  pub names : ℕ
  pub kinds : ℕ
  pub nodes : ℕ

pub record Reader : Type 0 where
  pub words : Words
  pub names : Filling Name 64
  pub kinds : Filling Spelling 120
  pub forest : Forest
  pub lenders : Lenders

abbrev pub roots : Parser → List ℕ
roots p = p.waiting.items

abbrev pub forest : Parser → Forest
forest p = record { nodes = p.nodes.now; roots = p.waiting.items }

-- all that a parser holds
abbrev pub reader : Parser → Reader
reader p = record {
  words = p.words.now;
  names = p.names.now;
  kinds = p.kinds.now;
  forest = forest p;
  lenders = record { words = p.words.ghost_name; names = p.names.ghost_name; kinds = p.kinds.ghost_name; nodes = p.nodes.ghost_name };
}

-- the same but for the forest
abbrev pub with_forest : Reader → Forest → Reader
with_forest r f = record { words = r.words; names = r.names; kinds = r.kinds; forest = f; lenders = r.lenders }

-- the same but for the names
abbrev pub with_names : Reader → Filling Name 64 → Reader
with_names r n = record { words = r.words; names = n; kinds = r.kinds; forest = r.forest; lenders = r.lenders }

-- the tables are those that were lent
pub record SameLoans (before after : Parser) : Type 0 where
  pub words : after.words.ghost_name ≡ before.words.ghost_name
  pub names : after.names.ghost_name ≡ before.names.ghost_name
  pub kinds : after.kinds.ghost_name ≡ before.kinds.ghost_name
  pub nodes : after.nodes.ghost_name ≡ before.nodes.ghost_name
  pub names_table : after.names.now.table.ghost_name ≡ before.names.now.table.ghost_name
  pub kinds_table : after.kinds.now.table.ghost_name ≡ before.kinds.now.table.ghost_name
  pub nodes_table : after.nodes.now.table.ghost_name ≡ before.nodes.now.table.ghost_name
