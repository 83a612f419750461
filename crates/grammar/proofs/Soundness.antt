-- What a parser holds by its type, and the same of a reader.
use Rattle.std.proofs.Common.{ℕ, ◌<◌, ◌≤◌, List, length, arith, length-take}
use Rattle.grammar.specs.Forest.{nodes_of, roots_of, limit_of, Clean}
use Rattle.grammar.specs.Parts.{forest}
use Rattle.grammar.specs.Sound.{zero_name, zero_spelling}
use Rattle.grammar.specs.Trees.{Forest}
use Rattle.grammar.specs.declared.parser.Parser.{Parser}
use Rattle.lexer.specs.declared.vocabulary.Spelling.{Spelling}
use Rattle.notation.specs.Statements.{Each}
use Rattle.tables.specs.Nodes.{Nodes, zero_node}
use Rattle.tables.specs.declared.filling.Filling.{Filling}
use Rattle.tables.specs.declared.name.Name.{Name}

-- what holds between two calls: each root that waits is a node of its own, and unused places are 0
pub record Healthy (f : Forest) : Type 0 where
  pub fit : length (nodes_of f) ≤ limit_of f
  pub few : length (roots_of f) ≤ length (nodes_of f)
  pub small : Each (λ n. n < 1024) (roots_of f)
  pub clean : Clean f.nodes zero_node

-- unused places are 0, and each root that waits is a node of its own
pub record Sound (names : Filling Name 64) (kinds : Filling Spelling 120) (nodes : Nodes) (roots : List ℕ) : Type 0 where
  pub names_clean : Clean names zero_name
  pub kinds_clean : Clean kinds zero_spelling
  pub healthy : Healthy (record { nodes = nodes; roots = roots })

pub healthy : (p : Parser) → Healthy (forest p)
healthy p =
    let t = p.nodes.now in
    record { fit = omega (arith, length-take t.count t.table.now, t.within, t.few); few = p.few; small = p.small; clean = p.nodes_clean }

pub sound : (p : Parser) → Sound p.names.now p.kinds.now p.nodes.now p.waiting.items
sound p = record { names_clean = p.names_clean; kinds_clean = p.kinds_clean; healthy = healthy p }
