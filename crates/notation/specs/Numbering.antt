-- The tables of a text: its nodes are numbered as they are completed.
use Rattle.std.specs.Prelude.{ℕ, suc, List, [], ◌∷◌, ◌++◌, length}
use Rattle.notation.specs.Tokens.{Bracket, round, square, curly, Spot}
use Rattle.notation.specs.Syntax.{Item, named, literal, group, Sequence, nothing, item, Branches, last, either, Rule}
use Rattle.notation.specs.Tables.{Tables, no_tables, find_name, find_kind, with_name, with_kind, with_root, add, link}
use Rattle.tree.specs.declared.class.Class.{Class}
use Rattle.tree.specs.declared.class.Class.TheVariants.{Empty, Token, Name, Chain, Alternative, Optional, Repetition}
use Rattle.tree.specs.declared.node.Node.{Node}

-- tables, and the number of the node made last
pub record Made : Type 0 where
  pub tables : Tables
  pub at : ℕ

-- a node of this class over the nodes ns, the first of which is f
abbrev pub make : Class → ℕ → ℕ → List Node → Tables → Made
make c v f ns T =
    record { tables = record { names = T.names; kinds = T.kinds; nodes = add c v f ns }; at = length ns }

abbrev pub name_known : Spot → Tables → Tables
name_known s T = record { names = with_name s T.names; kinds = T.kinds; nodes = T.nodes }

-- a name in a sequence
abbrev pub make_name : Spot → Tables → Made
make_name s T =
    make Name (find_name s.bytes T.names) 1024 T.nodes (name_known s T)

-- a class word or a quoted spelling; kinds are numbered from 1
abbrev pub make_token : Spot → Tables → Made
make_token s T =
    make Token (suc (find_kind s.bytes T.kinds)) 1024 T.nodes (record { names = T.names; kinds = with_kind s T.kinds; nodes = T.nodes })

-- the end of a sequence of these nodes
abbrev pub end_sequence : List ℕ → Tables → Made
end_sequence [] T = make Empty 0 1024 T.nodes T
end_sequence (n ∷ []) T = record { tables = T; at = n }
end_sequence (n ∷ m ∷ rest) T = make Chain 0 n (link (n ∷ m ∷ rest) T.nodes) T

-- the end of branches of these nodes
abbrev pub end_branches : List ℕ → Tables → Made
end_branches [] T = record { tables = T; at = 0 }
end_branches (n ∷ []) T = record { tables = T; at = n }
end_branches (n ∷ m ∷ rest) T = make Alternative 0 n (link (n ∷ m ∷ rest) T.nodes) T

-- the end of a group whose inside is node n
abbrev pub end_group : Bracket → Made → Made
end_group round M = M
end_group square M = make Optional 0 M.at M.tables.nodes M.tables
end_group curly M = make Repetition 0 M.at M.tables.nodes M.tables

-- where reading stands within branches: the nodes of the sequences ended, and of the items of the sequence begun
pub record Level : Type 0 where
  pub ended : List ℕ
  pub items : List ℕ

abbrev pub no_level : Level
no_level = record { ended = []; items = [] }

abbrev pub one_more : Level → ℕ → Level
one_more l n = record { ended = l.ended; items = l.items ++ (n ∷ []) }

abbrev pub next_branch : Level → ℕ → Level
next_branch l n = record { ended = l.ended ++ (n ∷ []); items = [] }

-- at | : the sequence is ended
abbrev pub end_branch : Level → Tables → Made
end_branch l T = end_sequence l.items T

-- at a closing mark: the sequence and the branches are ended
abbrev pub end_level : Level → Tables → Made
end_level l T =
    let M : Made = end_branch l T in
    end_branches (l.ended ++ (M.at ∷ [])) M.tables

-- tables, and the nodes of a sequence
pub record Listed : Type 0 where
  pub tables : Tables
  pub items : List ℕ

abbrev mutual
  pub number_item : Item → Tables → Made
  number_item (named s) T = make_name s T
  number_item (literal k s) T = make_token s T
  number_item (group b s inside t) T = end_group b (number_branches inside no_level T)

  -- the nodes of the items, after those that were there
  pub number_sequence : Sequence → List ℕ → Tables → Listed
  number_sequence nothing ns T = record { tables = T; items = ns }
  number_sequence (item x xs) ns T =
      let M : Made = number_item x T in number_sequence xs (ns ++ (M.at ∷ [])) M.tables

  pub number_branches : Branches → Level → Tables → Made
  number_branches (last xs) l T =
      let S : Listed = number_sequence xs l.items T in
      end_level (record { ended = l.ended; items = S.items }) S.tables
  number_branches (either xs s more) l T =
      let S : Listed = number_sequence xs l.items T in
      let M : Made = end_sequence S.items S.tables in
      number_branches more (next_branch l M.at) M.tables

-- the rule of name i has the root that was made last
abbrev pub rule_ended : ℕ → Made → Tables
rule_ended i M =
    record { names = with_root i M.at M.tables.names; kinds = M.tables.kinds; nodes = M.tables.nodes }

abbrev pub number_rule : Rule → Tables → Tables
number_rule r T =
    rule_ended (find_name r.head.bytes T.names) (number_branches r.body no_level (name_known r.head T))

abbrev pub number_rules : List Rule → Tables → Tables
number_rules [] T = T
number_rules (r ∷ rs) T = number_rules rs (number_rule r T)

abbrev pub numbering : List Rule → Tables
numbering rs = number_rules rs no_tables
