-- What each node is worth by what the others are: one equation for each node, their solutions and the least one.
use Rattle.std.specs.Prelude.{◌≡◌, ℕ, zero, suc, ◌+◌, ◌<◌, List, [], ◌∷◌, length, replicate, slice_index, slice_index_or, slice_set}
use Rattle.tree.specs.declared.class.Class.{Class}
use Rattle.tree.specs.declared.class.Class.TheVariants.{Empty, Token, Name, Chain, Alternative, Optional, Repetition}
use Rattle.tree.specs.declared.node.Node.{Node}
use Rattle.tree.specs.Tree.{node, children}
use Rattle.yields.specs.Weighing.{Weighing, Below}

module _ {V : Type 0} (w : Weighing V) where
  -- one after the other
  abbrev pub chained : (ℕ → V) → List ℕ → V
  chained f [] = w.empty
  chained f (c ∷ cs) = w.«then» (f c) (chained f cs)

  -- one of them
  abbrev pub joined : (ℕ → V) → List ℕ → V
  joined f [] = w.nothing
  joined f (c ∷ cs) = w.either (f c) (joined f cs)

  -- the value of a node of class k, by the values f of the others
  abbrev pub by_class : List Node → List ℕ → (ℕ → V) → ℕ → Class → V
  by_class ns rs f n Empty = w.empty
  by_class ns rs f n Token = w.kind (node ns n).value
  by_class ns rs f n Name = f (slice_index rs (node ns n).value)
  by_class ns rs f n Chain = chained f (children ns n)
  by_class ns rs f n Alternative = joined f (children ns n)
  by_class ns rs f n Optional = w.either w.empty (f (node ns n).first)
  by_class ns rs f n Repetition = w.either w.empty (f (node ns n).first)

  abbrev pub equation : List Node → List ℕ → (ℕ → V) → ℕ → V
  equation ns rs f n = by_class ns rs f n (node ns n).class

  -- f is a solution: each node has its equation's value
  pub record Solves (ns : List Node) (rs : List ℕ) (f : ℕ → V) : Type 0 where
    pub at : (n : ℕ) → n < length ns → equation ns rs f n ≡ f n

  -- no value lies below its equation's
  pub record Closed (ns : List Node) (rs : List ℕ) (f : ℕ → V) : Type 0 where
    pub at : (n : ℕ) → n < length ns → Below w (equation ns rs f n) (f n)

  -- f is a solution, and lies below each other one
  pub record Least (ns : List Node) (rs : List ℕ) (f : ℕ → V) : Type 0 where
    pub solves : Solves ns rs f
    pub least : (g : ℕ → V) → Closed ns rs g → (n : ℕ) → n < length ns → Below w (f n) (g n)

  -- what a table has at a place
  abbrev pub entry : List V → ℕ → V
  entry table i = slice_index_or table i w.nothing

  -- the heights of a table, together
  abbrev pub heights : List V → ℕ
  heights [] = 0
  heights (x ∷ xs) = w.height x + heights xs

  -- what holds of a table that began with nothing everywhere, whichever entries were replaced by their equations' values
  pub record Rising (ns : List Node) (rs : List ℕ) (table : List V) : Type 0 where
    pub long : length table ≡ length ns
    pub fits : (i : ℕ) → w.Fits (entry table i)
    pub rises : (n : ℕ) → n < length ns → Below w (entry table n) (equation ns rs (entry table) n)
    pub under : (g : ℕ → V) → Closed ns rs g → (n : ℕ) → n < length ns → Below w (entry table n) (g n)

  -- Reached table: from nothing everywhere, by replacing entries by their equations' values, in any order
  pub data Reached (ns : List Node) (rs : List ℕ) : List V → Type 0 where
    start : Reached ns rs (replicate (length ns) w.nothing)
    replace : {table : List V} (n : ℕ) → n < length ns → Reached ns rs table → Reached ns rs (slice_set table n (equation ns rs (entry table) n))

  -- each of the first k entries replaced in turn, in place
  abbrev pub sweep : List Node → List ℕ → List V → ℕ → List V
  sweep ns rs table zero = table
  sweep ns rs table (suc k) = slice_set (sweep ns rs table k) k (equation ns rs (entry (sweep ns rs table k)) k)

  -- k rounds over all nodes, from nothing everywhere
  abbrev pub rounds : List Node → List ℕ → ℕ → List V
  rounds ns rs zero = replicate (length ns) w.nothing
  rounds ns rs (suc k) = sweep ns rs (rounds ns rs k) (length ns)
