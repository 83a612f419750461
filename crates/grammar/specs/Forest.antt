-- The trees of a rule that is being read.
use Rattle.std.specs.Prelude.{◌≡◌, ℕ, ◌-◌, ◌<◌, ◌≤◌, List, [], ◌∷◌, ◌++◌, length, take, drop, replicate, Some, None, Option}
use Rattle.grammar.specs.Trees.{Forest}
use Rattle.grammar.specs.declared.opened.Opened.{Opened}
use Rattle.grammar.specs.declared.piece.Bracket.{Bracket}
use Rattle.grammar.specs.declared.piece.Bracket.TheVariants as bracket_is
use Rattle.notation.specs.Tables.{add}
use Rattle.tables.specs.Filling.{entries, room}
use Rattle.tables.specs.Nodes.{Made, over_row}
use Rattle.tables.specs.declared.filling.Filling.{Filling}
use Rattle.tables.specs.declared.full.Full.{Full}
use Rattle.tree.specs.declared.class.Class.{Class}
use Rattle.tree.specs.declared.class.Class.TheVariants as class_is
use Rattle.tree.specs.declared.node.Node.{Node}

abbrev pub nodes_of : Forest → List Node
nodes_of f = entries f.nodes

abbrev pub roots_of : Forest → List ℕ
roots_of f = f.roots

-- how many nodes there can be
abbrev pub limit_of : Forest → ℕ
limit_of f = room f.nodes

-- which table it is, and how long: whose by the ghost name of its loan
pub record Place : Type 0 where
  pub long : ℕ
  pub whose : ℕ

abbrev pub place : {E : Type 0} {L : ℕ} → Filling E L → Place
place t = record { long = length t.table.now; whose = t.table.ghost_name }

-- every place past the entries has this value
abbrev pub Clean : {E : Type 0} {L : ℕ} → Filling E L → E → Type 0
Clean t zero = drop t.count t.table.now ≡ replicate (length t.table.now - t.count) zero

-- the table is the same, and as long as it was
abbrev pub SamePlace : Forest → Forest → Type 0
SamePlace before after = place after.nodes ≡ place before.nodes

-- the roots from an index on have a parent, or are one root that stays so
pub record Reduced (c : Class) (from : ℕ) (before after : Forest) (n : ℕ) : Type 0 where
  pub number : n ≡ (over_row c (drop from (roots_of before)) (nodes_of before)).at
  pub nodes : nodes_of after ≡ (over_row c (drop from (roots_of before)) (nodes_of before)).nodes
  pub fewer : roots_of after ≡ take from (roots_of before)
  pub fits : length (nodes_of after) ≤ limit_of before
  pub own : length (roots_of after) < length (nodes_of after)
  pub small : n < 1024
  pub place : SamePlace before after

pub record Unreduced (c : Class) (from : ℕ) (before after : Forest) (e : Full) : Type 0 where
  pub full : limit_of before < length (over_row c (drop from (roots_of before)) (nodes_of before)).nodes
  pub told : e.limit ≡ limit_of before
  pub place : SamePlace before after

-- the node over branches that end at a mark: a rule's, or a bracket's
abbrev pub over_group : Option Bracket → Made → Made
over_group None M = M
over_group (Some bracket_is.Round) M = M
over_group (Some bracket_is.Square) M = record { nodes = add class_is.Optional 0 M.at M.nodes; at = length M.nodes }
over_group (Some bracket_is.Curly) M = record { nodes = add class_is.Repetition 0 M.at M.nodes; at = length M.nodes }

-- the branches that have ended, and the items of the last one
abbrev pub over_branches : (ended items : List ℕ) → List Node → Made
over_branches ended items ns =
    let M : Made = over_row class_is.Chain items ns in
    over_row class_is.Alternative (ended ++ M.at ∷ []) M.nodes

pub record BranchEnded (begin : ℕ) (before after : Forest) : Type 0 where
  pub nodes : nodes_of after ≡ (over_row class_is.Chain (drop begin (roots_of before)) (nodes_of before)).nodes
  pub more : roots_of after ≡ take begin (roots_of before) ++ (over_row class_is.Chain (drop begin (roots_of before)) (nodes_of before)).at ∷ []
  pub fits : length (nodes_of after) ≤ limit_of before
  pub place : SamePlace before after

pub record BranchFull (begin : ℕ) (before after : Forest) (e : Full) : Type 0 where
  pub full : limit_of before < length (over_row class_is.Chain (drop begin (roots_of before)) (nodes_of before)).nodes
  pub told : e.limit ≡ limit_of before
  pub place : SamePlace before after

abbrev pub over_inside : Option Bracket → ℕ → Forest → Made
over_inside c n f = over_group c (record { nodes = nodes_of f; at = n })

pub record Bracketed (c : Option Bracket) (inside : ℕ) (before after : Forest) (n : ℕ) : Type 0 where
  pub number : n ≡ (over_inside c inside before).at
  pub nodes : nodes_of after ≡ (over_inside c inside before).nodes
  pub same_roots : roots_of after ≡ roots_of before
  pub fits : length (nodes_of after) ≤ limit_of before
  pub own : length (roots_of after) < length (nodes_of after)
  pub small : n < 1024
  pub place : SamePlace before after

pub record Unbracketed (c : Option Bracket) (inside : ℕ) (before after : Forest) (e : Full) : Type 0 where
  pub full : limit_of before < length (over_inside c inside before).nodes
  pub told : e.limit ≡ limit_of before
  pub place : SamePlace before after

-- what branches and their mark come to
abbrev pub grouped : Opened → Forest → Made
grouped o f = over_group o.closing (over_branches (drop o.from (take o.begin (roots_of f))) (drop o.begin (roots_of f)) (nodes_of f))

pub record Finished (o : Opened) (before after : Forest) (n : ℕ) : Type 0 where
  pub number : n ≡ (grouped o before).at
  pub nodes : nodes_of after ≡ (grouped o before).nodes
  pub fewer : roots_of after ≡ take o.from (roots_of before)
  pub fits : length (nodes_of after) ≤ limit_of before
  pub own : length (roots_of after) < length (nodes_of after)
  pub small : n < 1024
  pub place : SamePlace before after

pub record Unfinished (o : Opened) (before after : Forest) (e : Full) : Type 0 where
  pub full : limit_of before < length (grouped o before).nodes
  pub told : e.limit ≡ limit_of before
  pub place : SamePlace before after

-- a node has been made, or there was no room for it
pub record MadeOne (c : Class) (v f : ℕ) (before after : Forest) (n : ℕ) : Type 0 where
  pub number : n ≡ length (nodes_of before)
  pub nodes : nodes_of after ≡ add c v f (nodes_of before)
  pub same_roots : roots_of after ≡ roots_of before
  pub room : length (nodes_of before) < limit_of before
  pub place : SamePlace before after

pub record MadeNone (before after : Forest) (e : Full) : Type 0 where
  pub full : limit_of before ≤ length (nodes_of before)
  pub told : e.limit ≡ limit_of before
  pub place : SamePlace before after
