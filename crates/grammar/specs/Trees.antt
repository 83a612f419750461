-- The trees of a rule that is being read.
use Rattle.std.specs.Prelude.{ℕ, List}
use Rattle.tables.specs.Nodes.{Nodes}

-- the nodes made so far, and the roots that wait for their parent
pub record Forest : Type 0 where
  pub nodes : Nodes
  pub roots : List ℕ
