-- How many nodes each token of a text completes, from the syntax alone.
use Rattle.std.specs.Prelude.{◌≡◌, ℕ, suc, ◌+◌, ◌<◌, ◌≤◌, List, [], ◌∷◌, ◌++◌, length, take, sum}
use Rattle.notation.specs.Tokens.{Bracket, round, square, curly, Token, SourceToken, Ending}
use Rattle.notation.specs.Syntax.{Item, named, literal, group, Sequence, nothing, item, Branches, last, either, Rule, spell}
use Rattle.notation.specs.Reading.{Limits, nodes_full, refused, reading}
use Rattle.notation.specs.Statements.{TextOf, nodes_made}
use Rattle.notation.specs.Listing.{size_rules}

-- How many nodes a part has over those of its parts. A sequence of no item has the empty node, one of one item none, and one of two or more
-- items their chain; branches have the alternative if they are two or more sequences; square brackets have an option, curly ones a repetition.
abbrev pub own_sequence : Sequence → ℕ
own_sequence nothing = 1
own_sequence (item x nothing) = 0
own_sequence (item x (item y more)) = 1

abbrev pub own_branches : Branches → ℕ
own_branches (last xs) = 0
own_branches (either xs s more) = 1

abbrev pub own_group : Bracket → ℕ
own_group round = 0
own_group square = 1
own_group curly = 1

-- How many nodes each token completes, in the order of the tokens. A name in a body, a class word and a spelling complete their own node.
-- A sequence's node is completed by the token after the sequence: |, or the mark after the branches, a closing bracket or ;.
-- That mark completes beside the node of the last sequence those of the branches and of the brackets, as many as marked says.
-- So  a -> b [ c ] | ;  completes  0 0 1 0 1 1 1 2:  b;  c;  the option;  the chain of b and the option;  the empty node and the alternative.
abbrev mutual
  pub completes_item : Item → List ℕ
  completes_item (named s) = 1 ∷ []
  completes_item (literal k s) = 1 ∷ []
  completes_item (group b s inside t) = 0 ∷ completes_branches inside (own_branches inside + own_group b)

  pub completes_items : Sequence → List ℕ
  completes_items nothing = []
  completes_items (item x xs) = completes_item x ++ completes_items xs

  -- branches and the mark after them
  pub completes_branches : Branches → (marked : ℕ) → List ℕ
  completes_branches (last xs) marked = completes_items xs ++ ((own_sequence xs + marked) ∷ [])
  completes_branches (either xs s more) marked = completes_items xs ++ (own_sequence xs ∷ completes_branches more marked)

-- a rule's name, its arrow, its branches and ;
abbrev pub completes_rule : Rule → List ℕ
completes_rule r = 0 ∷ 0 ∷ completes_branches r.body (own_branches r.body)

abbrev pub completes : List Rule → List ℕ
completes [] = []
completes (r ∷ rs) = completes_rule r ++ completes rs

-- how many nodes the first k tokens complete
abbrev pub completed : List Rule → ℕ → ℕ
completed rules k = sum (take k (completes rules))

-- H. The nodes that reading has made after some tokens of a text are those that these tokens complete.
abbrev pub NodesCompleted : Type 0
NodesCompleted = (rules : List Rule) (before after : List Token) → spell rules ≡ before ++ after → nodes_made before ≡ completed rules (length before)

-- There is a number for each token, and all of them together are the nodes that the rules have.
abbrev pub EachCompletes : Type 0
EachCompletes = (rules : List Rule) → length (completes rules) ≡ length (spell rules)

abbrev pub AllCompleted : Type 0
AllCompleted = (rules : List Rule) → completed rules (length (spell rules)) ≡ size_rules rules

-- So refusal 8 is told at the first token with which the text that the tokens begin has completed more nodes than the limit allows.
pub record LimitPassed (L : Limits) (ts : List SourceToken) : Type 0 where
  pub before : List SourceToken
  pub token : SourceToken
  pub after : List SourceToken
  pub parted : ts ≡ before ++ (token ∷ after)
  pub more : List SourceToken
  pub rules : List Rule
  pub text : TextOf (before ++ (token ∷ more)) rules
  pub within : completed rules (length before) ≤ L.nodes
  pub past : L.nodes < completed rules (suc (length before))

abbrev pub NodesPassed : Type 0
NodesPassed = (L : Limits) (ts : List SourceToken) (e : Ending) (n : ℕ) → reading L ts e ≡ refused (nodes_full n) → LimitPassed L ts
