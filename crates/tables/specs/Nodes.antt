-- Nodes, and rows of them.
use Rattle.std.specs.Prelude.{◌≡◌, ℕ, ◌<◌, ◌≤◌, List, [], ◌∷◌, length, ◌≢◌}
use Rattle.notation.specs.Tables.{add, link}
use Rattle.tables.specs.Filling.{entries, room, RestKept}
use Rattle.tables.specs.declared.filling.Filling.{Filling}
use Rattle.tables.specs.declared.full.Full.{Full}
use Rattle.tree.specs.declared.class.Class.{Class}
use Rattle.tree.specs.declared.class.Class.TheVariants.{Empty}
use Rattle.tree.specs.declared.node.Node.{Node}

abbrev pub Nodes : Type 0
Nodes = Filling Node 1024

-- the node that stands in an unused place
abbrev pub zero_node : Node
zero_node = record { class = Empty; value = 0; first = 0; next = 0 }

-- one more node, with that number
pub record NodeMade (c : Class) (v f : ℕ) (before after : Nodes) (n : ℕ) : Type 0 where
  pub number : n ≡ length (entries before)
  pub nodes : entries after ≡ add c v f (entries before)
  pub kept : RestKept before after
  pub fits : length (entries after) ≤ room before

-- nodes, and the number of the one that was made last
pub record Made : Type 0 where
  pub nodes : List Node
  pub at : ℕ

-- a node of that class over a row of nodes; a row of one is its own, and one of none an empty node
abbrev pub over_row : Class → List ℕ → List Node → Made
over_row c [] ns = record { nodes = add Empty 0 1024 ns; at = length ns }
over_row c (n ∷ []) ns = record { nodes = ns; at = n }
over_row c (n ∷ m ∷ rest) ns = record { nodes = add c 0 n (link (n ∷ m ∷ rest) ns); at = length (link (n ∷ m ∷ rest) ns) }

pub record RowEnded (c : Class) (row : List ℕ) (before after : Nodes) (n : ℕ) : Type 0 where
  pub number : n ≡ (over_row c row (entries before)).at
  pub nodes : entries after ≡ (over_row c row (entries before)).nodes
  pub kept : RestKept before after
  pub fits : (length row ≢ 1) → length (entries after) ≤ room before

pub record RowRefused (c : Class) (row : List ℕ) (before after : Nodes) (e : Full) : Type 0 where
  pub full : room before < length (over_row c row (entries before)).nodes
  pub told : e.limit ≡ room before
  pub nodes : entries after ≡ link row (entries before)
  pub kept : RestKept before after
