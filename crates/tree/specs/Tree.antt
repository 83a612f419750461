-- The numbers of classes; the nodes of a tree and their children.
use Rattle.std.specs.Prelude.{true, false, List, [], ◌∷◌, ℕ, zero, suc, ltb, length, get_or}
use Rattle.tree.specs.declared.class.Class.{Class}
use Rattle.tree.specs.declared.class.Class.TheVariants.{Empty, Token, Name, Chain, Alternative, Optional, Repetition}
use Rattle.tree.specs.declared.node.Node.{Node}

abbrev pub class_number : Class → ℕ
class_number Empty = 0
class_number Token = 1
class_number Name = 2
class_number Chain = 3
class_number Alternative = 4
class_number Optional = 5
class_number Repetition = 6

abbrev pub no_node : Node
no_node = record { class = Empty; value = 0; first = 1024; next = 1024 }

abbrev pub node : List Node → ℕ → Node
node ns i = get_or ns i no_node

-- i and the siblings after it; the number that falls bounds how many
abbrev pub siblings : List Node → ℕ → ℕ → List ℕ
siblings ns zero i = []
siblings ns (suc f) i = elim (ltb i (length ns)) [ true ↦ i ∷ siblings ns f (node ns i).next | false ↦ [] ]

abbrev pub children : List Node → ℕ → List ℕ
children ns n = siblings ns (length ns) (node ns n).first
