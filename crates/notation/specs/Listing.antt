-- The tables of a grammar, listed from its syntax alone.
use Rattle.std.specs.Prelude.{◌≡◌, ℕ, suc, ◌+◌, ◌-◌, true, false, List, [], ◌∷◌, ◌++◌, length}
use Rattle.std.proofs.Math.Option.{Option, none, some}
use Rattle.std.specs.Str.{bytes_eq}
use Rattle.notation.specs.Tokens.{round, square, curly, Spot, SourceToken, Ending}
use Rattle.notation.specs.Syntax.{Item, named, literal, group, Sequence, nothing, item, Branches, last, either, Rule, spell}
use Rattle.notation.specs.Tables.{Entry, Tables, find_kind}
use Rattle.notation.specs.Numbering.{numbering}
use Rattle.notation.specs.Reading.{Limits, read, reading}
use Rattle.notation.specs.Statements.{TextOf, names_in, kinds_in}
use Rattle.tree.specs.declared.class.Class.{Class}
use Rattle.tree.specs.declared.class.Class.TheVariants.{Empty, Token, Name, Chain, Alternative, Optional, Repetition}
use Rattle.tree.specs.declared.node.Node.{Node}

-- How many nodes a part has. A name, a class word or a spelling has one; square and curly brackets have one over those of their inside;
-- a sequence of no item has one, and one of two or more items has one over theirs; so have two or more sequences parted by |.
abbrev mutual
  pub size_item : Item → ℕ
  size_item (named s) = 1
  size_item (literal k s) = 1
  size_item (group round s inside t) = size_branches inside
  size_item (group square s inside t) = size_branches inside + 1
  size_item (group curly s inside t) = size_branches inside + 1

  pub size_items : Sequence → ℕ
  size_items nothing = 0
  size_items (item x xs) = size_item x + size_items xs

  pub size_sequence : Sequence → ℕ
  size_sequence nothing = 1
  size_sequence (item x nothing) = size_item x
  size_sequence (item x (item y more)) = size_item x + size_items (item y more) + 1

  pub size_parts : Branches → ℕ
  size_parts (last xs) = size_sequence xs
  size_parts (either xs s more) = size_sequence xs + size_parts more

  pub size_branches : Branches → ℕ
  size_branches (last xs) = size_sequence xs
  size_branches (either xs s more) = size_sequence xs + size_parts more + 1

-- The nodes of a part are numbered one after another from base on, and its root is the last of them.
abbrev pub root_node : ℕ → ℕ → ℕ
root_node base size = base + size - 1

-- the root of the first item, 1024 for none; the root of the first sequence
abbrev pub first_item : Sequence → ℕ → ℕ
first_item nothing base = 1024
first_item (item x xs) base = root_node base (size_item x)

abbrev pub first_part : Branches → ℕ → ℕ
first_part (last xs) base = root_node base (size_sequence xs)
first_part (either xs s more) base = root_node base (size_sequence xs)

-- class, value, first child, next sibling
abbrev pub node_of : Class → ℕ → ℕ → ℕ → Node
node_of c v f n = record { class = c; value = v; first = f; next = n }

-- The nodes of a part; next is the sibling after its root, 1024 for none.
-- So  b [ c ] |  from 0 on has  0 b, next 2;  1 c;  2 Optional, first 1;  3 Chain, first 0, next 4;  4 Empty;  5 Alternative, first 3.
module _ (name_number kind_number : List ℕ → ℕ) where
  abbrev mutual
    pub nodes_item : Item → ℕ → ℕ → List Node
    nodes_item (named s) base next = node_of Name (name_number s.bytes) 1024 next ∷ []
    nodes_item (literal k s) base next = node_of Token (kind_number s.bytes) 1024 next ∷ []
    nodes_item (group round s inside t) base next = nodes_branches inside base next
    nodes_item (group square s inside t) base next =
        nodes_branches inside base 1024 ++ (node_of Optional 0 (root_node base (size_branches inside)) next ∷ [])
    nodes_item (group curly s inside t) base next =
        nodes_branches inside base 1024 ++ (node_of Repetition 0 (root_node base (size_branches inside)) next ∷ [])

    -- items one after another, the sibling of each the next
    pub nodes_items : Sequence → ℕ → List Node
    nodes_items nothing base = []
    nodes_items (item x xs) base = nodes_item x base (first_item xs (base + size_item x)) ++ nodes_items xs (base + size_item x)

    pub nodes_sequence : Sequence → ℕ → ℕ → List Node
    nodes_sequence nothing base next = node_of Empty 0 1024 next ∷ []
    nodes_sequence (item x nothing) base next = nodes_item x base next
    nodes_sequence (item x (item y more)) base next =
        nodes_item x base (first_item (item y more) (base + size_item x)) ++ nodes_items (item y more) (base + size_item x)
        ++ (node_of Chain 0 (root_node base (size_item x)) next ∷ [])

    -- sequences one after another, the sibling of each the next
    pub nodes_parts : Branches → ℕ → List Node
    nodes_parts (last xs) base = nodes_sequence xs base 1024
    nodes_parts (either xs s more) base =
        nodes_sequence xs base (first_part more (base + size_sequence xs)) ++ nodes_parts more (base + size_sequence xs)

    pub nodes_branches : Branches → ℕ → ℕ → List Node
    nodes_branches (last xs) base next = nodes_sequence xs base next
    nodes_branches (either xs s more) base next =
        nodes_sequence xs base (first_part more (base + size_sequence xs)) ++ nodes_parts more (base + size_sequence xs)
        ++ (node_of Alternative 0 (root_node base (size_sequence xs)) next ∷ [])

  -- the bodies of the rules, one after another
  abbrev pub nodes_rules : List Rule → ℕ → List Node
  nodes_rules [] base = []
  nodes_rules (r ∷ rs) base = nodes_branches r.body base 1024 ++ nodes_rules rs (base + size_branches r.body)

-- the root of the rule of this name, of the last one if there are more
abbrev pub root_of : List ℕ → List Rule → ℕ → Option ℕ
root_of w [] base = none
root_of w (r ∷ rs) base =
    elim (root_of w rs (base + size_branches r.body)) [
      | some n ↦ some n
      | none ↦ elim (bytes_eq r.head.bytes w) [ true ↦ some (root_node base (size_branches r.body)) | false ↦ none ]
    ]

-- each name with the root of its rule
abbrev pub entries : List Rule → List Spot → List Entry
entries rules [] = []
entries rules (s ∷ ss) = record { first = s; root = root_of s.bytes rules 0 } ∷ entries rules ss

-- Names and kinds are listed and numbered as they first appear, names from 0 and kinds from 1.
abbrev pub listing : List Rule → Tables
listing rules =
    let names : List Spot = names_in (spell rules) in
    let kinds : List Spot = kinds_in (spell rules) in
    record {
      names = entries rules names;
      kinds = kinds;
      nodes = nodes_rules (λ w. find_kind w names) (λ w. suc (find_kind w kinds)) rules 0;
    }

-- The numbering of rules is their listing.
abbrev pub NumberingListed : Type 0
NumberingListed = (rules : List Rule) → numbering rules ≡ listing rules

-- how many nodes the bodies of the rules have
abbrev pub size_rules : List Rule → ℕ
size_rules [] = 0
size_rules (r ∷ rs) = size_branches r.body + size_rules rs

-- The numbering has as many nodes as the bodies.
abbrev pub NodesSized : Type 0
NodesSized = (rules : List Rule) → length (numbering rules).nodes ≡ size_rules rules

-- Tables that reading gives are the listing of the one text that the tokens are.
abbrev pub ReadingLists : Type 0
ReadingLists =
    (L : Limits) (ts : List SourceToken) (e : Ending) (T : Tables) → reading L ts e ≡ read T
    → (rules : List Rule) × TextOf ts rules × (T ≡ listing rules) × ((others : List Rule) → TextOf ts others → others ≡ rules)
