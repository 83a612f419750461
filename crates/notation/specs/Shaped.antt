-- What the tables of a grammar look like, whatever text they come from.
use Rattle.std.specs.Prelude.{◌≡◌, ℕ, zero, suc, ◌<◌, ◌≤◌, ◌⊎◌, List, [], ◌∷◌, ◌++◌, length}
use Rattle.std.proofs.Math.Option.{Option, none, some}
use Rattle.tree.specs.Tree.{node, children}
use Rattle.notation.specs.Tokens.{SourceToken, Ending}
use Rattle.notation.specs.Syntax.{Rule}
use Rattle.notation.specs.Tables.{Entry, Tables, find_name}
use Rattle.notation.specs.Reading.{Limits, read, reading}
use Rattle.notation.specs.Statements.{Each, TextOf}
use Rattle.tree.specs.declared.class.Class.{Class}
use Rattle.tree.specs.declared.class.Class.TheVariants.{Empty, Token, Name, Chain, Alternative, Optional, Repetition}
use Rattle.tree.specs.declared.node.Node.{Node}

abbrev pub In : ℕ → List ℕ → Type 0
In n [] = ⊥
In n (x ∷ xs) = (x ≡ n) ⊎ In n xs

-- each is more than the one before it
abbrev pub Rising : List ℕ → Type 0
Rising [] = Unit {0}
Rising (c ∷ []) = Unit {0}
Rising (c ∷ d ∷ cs) = (c < d) × Rising (d ∷ cs)

abbrev pub first_of : List ℕ → ℕ
first_of [] = 1024
first_of (c ∷ cs) = c

-- the next sibling of each is the one after it, and the last has none
abbrev pub Linked : List Node → List ℕ → Type 0
Linked ns [] = Unit {0}
Linked ns (c ∷ cs) = ((node ns c).next ≡ first_of cs) × Linked ns cs

-- how many children a node has
abbrev pub Arity : Class → ℕ → Type 0
Arity Empty n = n ≡ 0
Arity Token n = n ≡ 0
Arity Name n = n ≡ 0
Arity Chain n = 2 ≤ n
Arity Alternative n = 2 ≤ n
Arity Optional n = n ≡ 1
Arity Repetition n = n ≡ 1

-- a token's value is a kind, a name's a name, and any other's 0
abbrev pub Valued : (names kinds : ℕ) → Class → ℕ → Type 0
Valued n k Empty v = v ≡ 0
Valued n k Token v = (1 ≤ v) × (v ≤ k)
Valued n k Name v = v < n
Valued n k Chain v = v ≡ 0
Valued n k Alternative v = v ≡ 0
Valued n k Optional v = v ≡ 0
Valued n k Repetition v = v ≡ 0

-- the root of name k
abbrev pub root_at : List Entry → ℕ → Option ℕ
root_at [] k = none
root_at (e ∷ es) zero = e.root
root_at (e ∷ es) (suc k) = root_at es k

-- the node at i, by its children
pub record NodeRight (T : Tables) (i : ℕ) : Type 0 where
  pub below : Each (λ c. c < i) (children T.nodes i)
  pub rising : Rising (children T.nodes i)
  pub first_is : (node T.nodes i).first ≡ first_of (children T.nodes i)
  pub linked : Linked T.nodes (children T.nodes i)
  pub counted : Arity (node T.nodes i).class (length (children T.nodes i))
  pub valued : Valued (length T.names) (length T.kinds) (node T.nodes i).class (node T.nodes i).value

-- what holds of the nodes and the roots of all tables
pub record IsWellFormed (T : Tables) : Type 0 where
  pub fits : length T.nodes ≤ 1024
  pub nodes_right : (i : ℕ) → i < length T.nodes → NodeRight T i
  -- a node is a root or a child, and that of one only
  pub owned : (j : ℕ) → j < length T.nodes
      → ((k : ℕ) × (root_at T.names k ≡ some j)) ⊎ ((i : ℕ) × (i < length T.nodes) × In j (children T.nodes i))
  pub one_parent : (i j c : ℕ) → i < length T.nodes → j < length T.nodes → In c (children T.nodes i) → In c (children T.nodes j) → i ≡ j
  pub no_parent : (k r i : ℕ) → root_at T.names k ≡ some r → i < length T.nodes → In r (children T.nodes i) → ⊥
  pub one_name : (j k r : ℕ) → root_at T.names j ≡ some r → root_at T.names k ≡ some r → j ≡ k
  -- each name has a root in range, without a sibling
  pub rooted : (k : ℕ) → k < length T.names → (r : ℕ) × (root_at T.names k ≡ some r) × (r < length T.nodes) × ((node T.nodes r).next ≡ 1024)
  -- the last node is a root
  pub last_root : (k m : ℕ) × (root_at T.names k ≡ some m) × (length T.nodes ≡ suc m)

abbrev pub TablesWellFormed : Type 0
TablesWellFormed =
    (L : Limits) (ts : List SourceToken) (e : Ending) (T : Tables) → L.nodes ≤ 1024 → reading L ts e ≡ read T → IsWellFormed T

-- the last node is the root of the last rule
abbrev pub LastRuleLast : Type 0
LastRuleLast =
    (L : Limits) (ts : List SourceToken) (e : Ending) (T : Tables) (front : List Rule) (r : Rule) → reading L ts e ≡ read T → TextOf ts (front ++ (r ∷ []))
    → (m : ℕ) × (root_at T.names (find_name r.head.bytes T.names) ≡ some m) × (length T.nodes ≡ suc m)
