-- The syntax of the notation, and how it is written in tokens.
use Rattle.std.specs.Prelude.{◌≡◌, ◌≢◌, List, [], ◌∷◌, ◌++◌}
use Rattle.notation.specs.Tokens.{Bracket, Spot, Terminal, Token, name, terminal, arrow, bar, semi, opening, closing}

mutual
  -- a name; a class word or a quoted spelling; branches in brackets
  pub data Item : Type 0 where
    named : Spot → Item
    literal : Terminal → Spot → Item
    group : Bracket → Spot → Branches → Spot → Item

  -- any number of items
  pub data Sequence : Type 0 where
    nothing : Sequence
    item : Item → Sequence → Sequence

  -- one or more sequences parted by |
  pub data Branches : Type 0 where
    last : Sequence → Branches
    either : Sequence → Spot → Branches → Branches

-- a name, ->, branches and ;
pub record Rule : Type 0 where
  pub head : Spot
  pub becomes : Spot
  pub body : Branches
  pub stop : Spot

abbrev mutual
  pub spell_item : Item → List Token
  spell_item (named s) = name s ∷ []
  spell_item (literal k s) = terminal k s ∷ []
  spell_item (group b s inside t) = opening b s ∷ (spell_branches inside ++ (closing b t ∷ []))

  pub spell_sequence : Sequence → List Token
  spell_sequence nothing = []
  spell_sequence (item x xs) = spell_item x ++ spell_sequence xs

  pub spell_branches : Branches → List Token
  spell_branches (last xs) = spell_sequence xs
  spell_branches (either xs s more) = spell_sequence xs ++ (bar s ∷ spell_branches more)

abbrev pub spell_rule : Rule → List Token
spell_rule r = name r.head ∷ arrow r.becomes ∷ (spell_branches r.body ++ (semi r.stop ∷ []))

abbrev pub spell : List Rule → List Token
spell [] = []
spell (r ∷ rs) = spell_rule r ++ spell rs

-- a text is one or more rules
pub record Text (ts : List Token) (rules : List Rule) : Type 0 where
  pub some_rule : rules ≢ []
  pub spelled : spell rules ≡ ts
