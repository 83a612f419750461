-- The tables of a grammar, as reading makes them.
use Rattle.std.specs.Prelude.{ℕ, zero, suc, cond, List, [], ◌∷◌, ◌++◌, slice_set}
use Rattle.std.proofs.Math.Option.{Option, none, some}
use Rattle.std.specs.Str.{bytes_eq}
use Rattle.notation.specs.Tokens.{Spot}
use Rattle.tree.specs.Tree.{node}
use Rattle.tree.specs.declared.class.Class.{Class}
use Rattle.tree.specs.declared.node.Node.{Node}

-- a name: how it is written, where it stands first, and the root of its rule
pub record Entry : Type 0 where
  pub first : Spot
  pub root : Option ℕ

pub record Tables : Type 0 where
  pub names : List Entry
  pub kinds : List Spot
  pub nodes : List Node

abbrev pub no_tables : Tables
no_tables = record { names = []; kinds = []; nodes = [] }

-- the number of the first that is written so, or how many there are
abbrev pub find_name : List ℕ → List Entry → ℕ
find_name w [] = 0
find_name w (e ∷ es) = cond (bytes_eq e.first.bytes w) 0 (suc (find_name w es))

abbrev pub find_kind : List ℕ → List Spot → ℕ
find_kind w [] = 0
find_kind w (e ∷ es) = cond (bytes_eq e.bytes w) 0 (suc (find_kind w es))

-- with this one, unless one is written so already
abbrev pub with_name : Spot → List Entry → List Entry
with_name s [] = record { first = s; root = none } ∷ []
with_name s (e ∷ es) = cond (bytes_eq e.first.bytes s.bytes) (e ∷ es) (e ∷ with_name s es)

abbrev pub with_kind : Spot → List Spot → List Spot
with_kind s [] = s ∷ []
with_kind s (e ∷ es) = cond (bytes_eq e.bytes s.bytes) (e ∷ es) (e ∷ with_kind s es)

-- the root of name i is n
abbrev pub with_root : ℕ → ℕ → List Entry → List Entry
with_root i n [] = []
with_root zero n (e ∷ es) = record { first = e.first; root = some n } ∷ es
with_root (suc i) n (e ∷ es) = e ∷ with_root i n es

-- one more node, with no sibling yet
abbrev pub add : Class → ℕ → ℕ → List Node → List Node
add c v f ns = ns ++ (record { class = c; value = v; first = f; next = 1024 } ∷ [])

-- m is the next sibling of n
abbrev pub join : ℕ → ℕ → List Node → List Node
join n m ns = slice_set ns n (let x : Node = node ns n in record { class = x.class; value = x.value; first = x.first; next = m })

-- each is the next sibling of the one before it
abbrev pub link : List ℕ → List Node → List Node
link [] ns = ns
link (n ∷ []) ns = ns
link (n ∷ m ∷ rest) ns = join n m (link (m ∷ rest) ns)
