-- What is promised of reading, in the words of the notation.
use Rattle.std.specs.Prelude.{◌≡◌, ℕ, zero, suc, ◌<◌, ◌≤◌, false, ◌⊎◌, List, [], ◌∷◌, ◌++◌, map, length}
use Rattle.notation.specs.Tokens.{Spot, Bracket, Terminal, spelling, Token, name, terminal, arrow, bar, semi, opening, closing, is_spelling, SourceToken, sort, Ending, end, fault}
use Rattle.notation.specs.Syntax.{Rule, spell, Text}
use Rattle.notation.specs.Tables.{Entry, Tables, no_tables, with_kind}
use Rattle.notation.specs.Numbering.{numbering}
use Rattle.notation.specs.Standing.{Shape, ready, stand?}
use Rattle.notation.specs.Reading.{State, tables_of, go, Limits, bad_spelling, faulty, misplaced, too_deep, misspelt, names_full, kinds_full, nodes_full, second_rule, no_rule, read, refused, reading}

-- the tokens are a text of these rules
abbrev pub TextOf : List SourceToken → List Rule → Type 0
TextOf ts rules = Text (map sort ts) rules

abbrev pub IsText : List SourceToken → Type 0
IsText ts = (rules : List Rule) × TextOf ts rules

-- some further tokens, or none, make them a text
abbrev pub BeginsText : List SourceToken → Type 0
BeginsText ts = (more : List SourceToken) × IsText (ts ++ more)

-- of each, of some
abbrev pub Each {ℓ} : {A : Type ℓ} → (A → Type 0) → List A → Type 0
Each P [] = Unit {0}
Each P (x ∷ xs) = P x × Each P xs

abbrev pub Has : List ℕ → List (List ℕ) → Type 0
Has w [] = ⊥
Has w (x ∷ xs) = (x ≡ w) ⊎ Has w xs

abbrev pub Distinct : List (List ℕ) → Type 0
Distinct [] = Unit {0}
Distinct (w ∷ ws) = (Has w ws → ⊥) × Distinct ws

-- the names that rules are of
abbrev pub heads_of : List Rule → List (List ℕ)
heads_of [] = []
heads_of (r ∷ rs) = r.head.bytes ∷ heads_of rs

-- the names, and the class words and spellings, each at its first appearance
abbrev pub name_in : Token → List Spot → List Spot
name_in (name s) l = with_kind s l
name_in (terminal k s) l = l
name_in (arrow s) l = l
name_in (bar s) l = l
name_in (semi s) l = l
name_in (opening b s) l = l
name_in (closing b s) l = l

abbrev pub kind_in : Token → List Spot → List Spot
kind_in (name s) l = l
kind_in (terminal k s) l = with_kind s l
kind_in (arrow s) l = l
kind_in (bar s) l = l
kind_in (semi s) l = l
kind_in (opening b s) l = l
kind_in (closing b s) l = l

abbrev pub gather : (Token → List Spot → List Spot) → List Spot → List Token → List Spot
gather f l [] = l
gather f l (t ∷ ts) = gather f (f t l) ts

abbrev pub names_in : List Token → List Spot
names_in ts = gather name_in [] ts

abbrev pub kinds_in : List Token → List Spot
kinds_in ts = gather kind_in [] ts

-- names without their roots
abbrev pub firsts : List Entry → List Spot
firsts [] = []
firsts (e ∷ es) = e.first ∷ firsts es

-- how many brackets are open after these tokens
abbrev pub less : ℕ → ℕ
less zero = zero
less (suc n) = n

abbrev pub open_with : Token → ℕ → ℕ
open_with (name s) n = n
open_with (terminal k s) n = n
open_with (arrow s) n = n
open_with (bar s) n = n
open_with (semi s) n = n
open_with (opening b s) n = suc n
open_with (closing b s) n = less n

abbrev pub open_after : ℕ → List Token → ℕ
open_after n [] = n
open_after n (t ∷ ts) = open_after (open_with t n) ts

-- how many nodes these tokens complete
abbrev pub nodes_from : (sh : Shape) → State sh → List Token → ℕ
nodes_from sh st [] = length (tables_of sh st).nodes
nodes_from sh st (t ∷ ts) = elim (stand? sh t) [ no x ↦ length (tables_of sh st).nodes | yes p ↦ nodes_from p.0 (go p.1 st) ts ]

abbrev pub nodes_made : List Token → ℕ
nodes_made ts = nodes_from ready no_tables ts

-- none of these tokens is refused by refusals 4 to 9
pub record FineSoFar (L : Limits) (ts : List Token) : Type 0 where
  pub shallow : (before after : List Token) → ts ≡ before ++ after → open_after 0 before ≤ 32
  pub spelt : Each (λ t. bad_spelling t ≡ false) ts
  pub names_fit : length (names_in ts) ≤ L.names
  pub kinds_fit : length (kinds_in ts) ≤ L.kinds
  pub nodes_fit : nodes_made ts ≤ L.nodes
  pub once : (rules : List Rule) (s : Spot) (more : List Token) → ts ≡ spell rules ++ (name s ∷ more) → Has s.bytes (heads_of rules) → ⊥

-- Tables that reading gives are those of the one text that the tokens are.
pub record ReadRight (ts : List SourceToken) (e : Ending) (T : Tables) : Type 0 where
  pub rules : List Rule
  pub text : TextOf ts rules
  pub tables : numbering rules ≡ T
  pub only : (others : List Rule) → TextOf ts others → others ≡ rules
  pub ended : (p : ℕ) × (e ≡ end p)

abbrev pub ReadingSound : Type 0
ReadingSound = (L : Limits) (ts : List SourceToken) (e : Ending) (T : Tables) → reading L ts e ≡ read T → ReadRight ts e T

-- The names and kinds are those of the text, each at its first appearance.
abbrev pub TablesListed : Type 0
TablesListed =
    (L : Limits) (ts : List SourceToken) (e : Ending) (T : Tables) → reading L ts e ≡ read T → (firsts T.names ≡ names_in (map sort ts)) × (T.kinds ≡ kinds_in (map sort ts))

-- Refusal 3 is told at the first token with which the tokens read so far no longer begin a text,
-- or at the end if the tokens begin a text and are none.
pub record MisplacedAt (L : Limits) (ts : List SourceToken) (p : ℕ) : Type 0 where
  pub before : List SourceToken
  pub token : SourceToken
  pub after : List SourceToken
  pub parted : ts ≡ before ++ (token ∷ after)
  pub placed : p ≡ token.place
  pub fine_before : FineSoFar L (map sort before)
  pub begun : BeginsText before
  pub not_with_it : BeginsText (before ++ (token ∷ [])) → ⊥

pub record EndsEarly (L : Limits) (ts : List SourceToken) (e : Ending) (p : ℕ) : Type 0 where
  pub ended : e ≡ end p
  pub fine_before : FineSoFar L (map sort ts)
  pub begun : BeginsText ts
  pub no_text : IsText ts → ⊥

abbrev pub MisplacedRight : Type 0
MisplacedRight =
    (L : Limits) (ts : List SourceToken) (e : Ending) (p : ℕ) → reading L ts e ≡ refused (misplaced p)
    → MisplacedAt L ts p ⊎ EndsEarly L ts e p

-- Refusal 2 is told of the fault where the tokens before it begin a text.
abbrev pub FaultRight : Type 0
FaultRight =
    (L : Limits) (ts : List SourceToken) (e : Ending) (p c : ℕ) → reading L ts e ≡ refused (faulty p c)
    → (e ≡ fault p c) × FineSoFar L (map sort ts) × BeginsText ts

-- Every other refusal names the first offending token, with which the tokens still begin a text.
pub record ToldAt (L : Limits) (ts : List SourceToken) (p : ℕ) (P : (before : List Token) → Token → Type 0) : Type 0 where
  pub before : List SourceToken
  pub token : SourceToken
  pub after : List SourceToken
  pub parted : ts ≡ before ++ (token ∷ after)
  pub placed : p ≡ token.place
  pub fine_before : FineSoFar L (map sort before)
  pub begun : BeginsText (before ++ (token ∷ []))
  pub fact : P (map sort before) (sort token)

-- how spots are written
abbrev pub written : List Spot → List (List ℕ)
written [] = []
written (s ∷ ss) = s.bytes ∷ written ss

-- Refusal 4: this bracket is the 33rd open.
abbrev pub DeepAt : Limits → List SourceToken → ℕ → Type 0
DeepAt L ts p = ToldAt L ts p (λ before t. (b : Bracket) × (s : Spot) × (t ≡ opening b s) × (open_after 0 before ≡ 32))

abbrev pub DepthRight : Type 0
DepthRight = (L : Limits) (ts : List SourceToken) (e : Ending) (p : ℕ) → reading L ts e ≡ refused (too_deep p) → DeepAt L ts p

-- Refusal 5: a spelling is no word and no one or two sign bytes.
abbrev pub MisspeltAt : Limits → List SourceToken → ℕ → Type 0
MisspeltAt L ts p = ToldAt L ts p (λ before t. (s : Spot) × (t ≡ terminal spelling s) × (is_spelling s.bytes ≡ false))

abbrev pub SpellingRight : Type 0
SpellingRight = (L : Limits) (ts : List SourceToken) (e : Ending) (p : ℕ) → reading L ts e ≡ refused (misspelt p) → MisspeltAt L ts p

-- Refusal 6: a name is past the limit: it is new, and there are as many before it as the limit allows.
abbrev pub NamesAt : Limits → List SourceToken → ℕ → Type 0
NamesAt L ts p =
    ToldAt L ts p (λ before t. (s : Spot) × (t ≡ name s) × (Has s.bytes (written (names_in before)) → ⊥) × (length (names_in before) ≡ L.names))

abbrev pub NamesRight : Type 0
NamesRight = (L : Limits) (ts : List SourceToken) (e : Ending) (p : ℕ) → reading L ts e ≡ refused (names_full p) → NamesAt L ts p

-- Refusal 7: a kind is past the limit.
abbrev pub KindsAt : Limits → List SourceToken → ℕ → Type 0
KindsAt L ts p =
    ToldAt L ts p (λ before t. (k : Terminal) × (s : Spot) × (t ≡ terminal k s) × (bad_spelling t ≡ false) × (Has s.bytes (written (kinds_in before)) → ⊥) × (length (kinds_in before) ≡ L.kinds))

abbrev pub KindsRight : Type 0
KindsRight = (L : Limits) (ts : List SourceToken) (e : Ending) (p : ℕ) → reading L ts e ≡ refused (kinds_full p) → KindsAt L ts p

-- Refusal 8: a node is past the limit: the token completes it, and is in order otherwise; as many are made as the limit allows.
pub record NodesTold (L : Limits) (ts : List SourceToken) (n : ℕ) : Type 0 where
  pub made : n ≡ L.nodes
  pub place : ℕ
  pub told : ToldAt L ts place (λ before t. (L.nodes < nodes_made (before ++ (t ∷ []))) × (bad_spelling t ≡ false) × (length (names_in (before ++ (t ∷ []))) ≤ L.names) × (length (kinds_in (before ++ (t ∷ []))) ≤ L.kinds))

abbrev pub NodesRight : Type 0
NodesRight = (L : Limits) (ts : List SourceToken) (e : Ending) (n : ℕ) → reading L ts e ≡ refused (nodes_full n) → NodesTold L ts n

-- the nodes that a text's tokens complete are all that its tables have
abbrev pub NodesCounted : Type 0
NodesCounted = (ts : List SourceToken) (rules : List Rule) → TextOf ts rules → nodes_made (map sort ts) ≡ length (numbering rules).nodes

-- Refusal 9: a name has a second rule: rules stand before it, and one of them is its.
abbrev pub SecondAt : Limits → List SourceToken → ℕ → Type 0
SecondAt L ts p =
    ToldAt L ts p (λ before t. (s : Spot) × (t ≡ name s) × (rules : List Rule) × (spell rules ≡ before) × Has s.bytes (heads_of rules))

abbrev pub SecondRight : Type 0
SecondRight = (L : Limits) (ts : List SourceToken) (e : Ending) (p : ℕ) → reading L ts e ≡ refused (second_rule p) → SecondAt L ts p

-- Refusal 10: at the end a name has no rule: the lowest one's first place.
pub record Unruled (L : Limits) (ts : List SourceToken) (e : Ending) (p : ℕ) : Type 0 where
  pub fine_before : FineSoFar L (map sort ts)
  pub rules : List Rule
  pub text : TextOf ts rules
  pub ended : (q : ℕ) × (e ≡ end q)
  pub lower : List Spot
  pub unruled : Spot
  pub higher : List Spot
  pub named : names_in (map sort ts) ≡ lower ++ (unruled ∷ higher)
  pub placed : p ≡ unruled.place
  pub no_rule_for : Has unruled.bytes (heads_of rules) → ⊥
  pub rules_below : Each (λ s. Has s.bytes (heads_of rules)) lower

abbrev pub UnruledRight : Type 0
UnruledRight = (L : Limits) (ts : List SourceToken) (e : Ending) (p : ℕ) → reading L ts e ≡ refused (no_rule p) → Unruled L ts e p

-- A text in order is read, and gives its tables; and no other is read.
pub record InOrder (L : Limits) (ts : List SourceToken) (rules : List Rule) : Type 0 where
  pub shallow : (before after : List Token) → map sort ts ≡ before ++ after → open_after 0 before ≤ 32
  pub spelt : Each (λ t. bad_spelling t ≡ false) (map sort ts)
  pub names_fit : length (names_in (map sort ts)) ≤ L.names
  pub kinds_fit : length (kinds_in (map sort ts)) ≤ L.kinds
  pub nodes_fit : length (numbering rules).nodes ≤ L.nodes
  pub once : Distinct (heads_of rules)
  pub ruled : (w : List ℕ) → Has w (written (names_in (map sort ts))) → Has w (heads_of rules)

abbrev pub ReadingComplete : Type 0
ReadingComplete =
    (L : Limits) (ts : List SourceToken) (rules : List Rule) (p : ℕ) → TextOf ts rules → InOrder L ts rules → reading L ts (end p) ≡ read (numbering rules)

abbrev pub ReadingInOrder : Type 0
ReadingInOrder =
    (L : Limits) (ts : List SourceToken) (e : Ending) (T : Tables) (rules : List Rule) → reading L ts e ≡ read T → TextOf ts rules → InOrder L ts rules

-- Each refusal is told wherever what it says holds. So reading is what these say, and nothing else.
pub record RefusalsTold : Type 0 where
  pub fault_told : (L : Limits) (ts : List SourceToken) (p c : ℕ) → FineSoFar L (map sort ts) → BeginsText ts → reading L ts (fault p c) ≡ refused (faulty p c)
  pub misplaced_told : (L : Limits) (ts : List SourceToken) (e : Ending) (p : ℕ) → MisplacedAt L ts p → reading L ts e ≡ refused (misplaced p)
  pub early_told : (L : Limits) (ts : List SourceToken) (e : Ending) (p : ℕ) → EndsEarly L ts e p → reading L ts e ≡ refused (misplaced p)
  pub depth_told : (L : Limits) (ts : List SourceToken) (e : Ending) (p : ℕ) → DeepAt L ts p → reading L ts e ≡ refused (too_deep p)
  pub spelling_told : (L : Limits) (ts : List SourceToken) (e : Ending) (p : ℕ) → MisspeltAt L ts p → reading L ts e ≡ refused (misspelt p)
  pub names_told : (L : Limits) (ts : List SourceToken) (e : Ending) (p : ℕ) → NamesAt L ts p → reading L ts e ≡ refused (names_full p)
  pub kinds_told : (L : Limits) (ts : List SourceToken) (e : Ending) (p : ℕ) → KindsAt L ts p → reading L ts e ≡ refused (kinds_full p)
  pub nodes_told : (L : Limits) (ts : List SourceToken) (e : Ending) (n : ℕ) → NodesTold L ts n → reading L ts e ≡ refused (nodes_full n)
  pub second_told : (L : Limits) (ts : List SourceToken) (e : Ending) (p : ℕ) → SecondAt L ts p → reading L ts e ≡ refused (second_rule p)
  pub unruled_told : (L : Limits) (ts : List SourceToken) (e : Ending) (p : ℕ) → Unruled L ts e p → reading L ts e ≡ refused (no_rule p)
