-- What the nodes of the tables stand for: the nodes from lo to n are those of a piece of syntax, and n is its root.
use Rattle.std.specs.Prelude.{◌≡◌, ℕ, suc, ◌<◌, List, [], ◌∷◌, length}
use Rattle.std.proofs.Math.Option.{some}
use Rattle.tree.specs.Tree.{node}
use Rattle.notation.specs.Tokens.{round, square, curly, Spot, Terminal, SourceToken, Ending}
use Rattle.notation.specs.Syntax.{Item, named, literal, group, Sequence, nothing, item, Branches, last, either, Rule}
use Rattle.notation.specs.Tables.{Tables, find_name, find_kind}
use Rattle.notation.specs.Reading.{Limits, read, reading}
use Rattle.notation.specs.Statements.{TextOf}
use Rattle.notation.specs.Shaped.{Linked, root_at}
use Rattle.tree.specs.declared.class.Class.TheVariants.{Empty, Token, Name, Chain, Alternative, Optional, Repetition}

-- i is the number of the name, or of the kind less one, that is written so
abbrev pub NameNumber : List ℕ → ℕ → Tables → Type 0
NameNumber w i T = (find_name w T.names ≡ i) × (i < length T.names)

abbrev pub KindNumber : List ℕ → ℕ → Tables → Type 0
KindNumber w i T = (find_kind w T.kinds ≡ i) × (i < length T.kinds)

mutual
  pub data ItemAt (T : Tables) : ℕ → ℕ → Item → Type 0 where
    name_at : {n : ℕ} {s : Spot} → (node T.nodes n).class ≡ Name → NameNumber s.bytes (node T.nodes n).value T → ItemAt T n n (named s)
    token_at : {n : ℕ} {k : Terminal} {s : Spot} (i : ℕ) → (node T.nodes n).class ≡ Token → (node T.nodes n).value ≡ suc i → KindNumber s.bytes i T → ItemAt T n n (literal k s)
    round_at : {lo n : ℕ} {s t : Spot} {b : Branches} → BranchesAt T lo n b → ItemAt T lo n (group round s b t)
    square_at : {lo c : ℕ} {s t : Spot} {b : Branches} → (node T.nodes (suc c)).class ≡ Optional → (node T.nodes (suc c)).first ≡ c → (node T.nodes c).next ≡ 1024
        → BranchesAt T lo c b → ItemAt T lo (suc c) (group square s b t)
    curly_at : {lo c : ℕ} {s t : Spot} {b : Branches} → (node T.nodes (suc c)).class ≡ Repetition → (node T.nodes (suc c)).first ≡ c → (node T.nodes c).next ≡ 1024
        → BranchesAt T lo c b → ItemAt T lo (suc c) (group curly s b t)

  -- no item, one item, or a chain of more
  pub data SequenceAt (T : Tables) : ℕ → ℕ → Sequence → Type 0 where
    empty_at : {n : ℕ} → (node T.nodes n).class ≡ Empty → SequenceAt T n n nothing
    single_at : {lo n : ℕ} {x : Item} → ItemAt T lo n x → SequenceAt T lo n (item x nothing)
    chain_at : {lo n c d : ℕ} {cs : List ℕ} {xs : Sequence} → (node T.nodes n).class ≡ Chain → (node T.nodes n).first ≡ c → Linked T.nodes (c ∷ d ∷ cs)
        → ItemsAt T lo n (c ∷ d ∷ cs) xs → SequenceAt T lo n xs

  pub data ItemsAt (T : Tables) : ℕ → ℕ → List ℕ → Sequence → Type 0 where
    no_items : {lo : ℕ} → ItemsAt T lo lo [] nothing
    more_items : {lo c hi : ℕ} {cs : List ℕ} {x : Item} {xs : Sequence} → ItemAt T lo c x → ItemsAt T (suc c) hi cs xs → ItemsAt T lo hi (c ∷ cs) (item x xs)

  -- one sequence, or an alternative of more
  pub data BranchesAt (T : Tables) : ℕ → ℕ → Branches → Type 0 where
    one_at : {lo n : ℕ} {xs : Sequence} → SequenceAt T lo n xs → BranchesAt T lo n (last xs)
    either_at : {lo n c d : ℕ} {cs : List ℕ} {b : Branches} → (node T.nodes n).class ≡ Alternative → (node T.nodes n).first ≡ c → Linked T.nodes (c ∷ d ∷ cs)
        → PartsAt T lo n (c ∷ d ∷ cs) b → BranchesAt T lo n b

  pub data PartsAt (T : Tables) : ℕ → ℕ → List ℕ → Branches → Type 0 where
    last_part : {lo c : ℕ} {xs : Sequence} → SequenceAt T lo c xs → PartsAt T lo (suc c) (c ∷ []) (last xs)
    more_parts : {lo c hi : ℕ} {cs : List ℕ} {xs : Sequence} {s : Spot} {more : Branches} → SequenceAt T lo c xs → PartsAt T (suc c) hi cs more
        → PartsAt T lo hi (c ∷ cs) (either xs s more)

-- the rules one after another, each from the node after the one before it; each name's root is the root of its rule
pub data RulesAt (T : Tables) : ℕ → List Rule → Type 0 where
  no_rules : {lo : ℕ} → lo ≡ length T.nodes → RulesAt T lo []
  more_rules : {lo n : ℕ} {r : Rule} {rs : List Rule} → BranchesAt T lo n r.body → root_at T.names (find_name r.head.bytes T.names) ≡ some n
      → (node T.nodes n).next ≡ 1024 → RulesAt T (suc n) rs → RulesAt T lo (r ∷ rs)

-- The tables stand for the rules of the text.
abbrev pub TablesMean : Type 0
TablesMean = (L : Limits) (ts : List SourceToken) (e : Ending) (T : Tables) (rules : List Rule) → reading L ts e ≡ read T → TextOf ts rules → RulesAt T 0 rules
