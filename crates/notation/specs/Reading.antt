-- What reading a text gives: its tables, or a refusal.
use Rattle.std.specs.Prelude.{ℕ, Bool, true, false, cond, not, List, [], ◌∷◌, map, length, nat_lt}
use Rattle.std.proofs.Math.Option.{Option, none, some}
use Rattle.std.specs.Str.{bytes_eq}
use Rattle.notation.specs.Tokens.{Bracket, class_word, spelling, Token, name, terminal, arrow, bar, semi, opening, closing, spot, is_spelling, Ending, end, fault, SourceToken, sort}
use Rattle.notation.specs.Tables.{Entry, Tables, no_tables, find_name}
use Rattle.notation.specs.Numbering.{Made, name_known, make_name, make_token, end_sequence, end_level, end_group, rule_ended, Level, no_level, one_more, next_branch}
use Rattle.notation.specs.Standing.{Shape, ready, heading, inside, Stands, heads, becomes, names, spells, parts, opens, closes, stops, Stood, stand?, depth}

-- the levels around, one for each open bracket
abbrev pub Levels : List Bracket → Type 0
Levels [] = Unit {0}
Levels (b ∷ bs) = Level × Levels bs

pub record Headed : Type 0 where
  pub tables : Tables
  pub rule : ℕ

pub record Within (bs : List Bracket) : Type 0 where
  pub tables : Tables
  pub rule : ℕ
  pub level : Level
  pub outer : Levels bs

-- what is known between two tokens
abbrev pub State : Shape → Type 0
State ready = Tables
State heading = Headed
State (inside bs) = Within bs

abbrev pub tables_of : (sh : Shape) → State sh → Tables
tables_of ready T = T
tables_of heading H = H.tables
tables_of (inside bs) W = W.tables

-- what a token that can stand adds
abbrev pub go : {sh : Shape} {t : Token} {to : Shape} → Stands sh t to → State sh → State to
go (heads {s}) T = record { tables = name_known s T; rule = find_name s.bytes T.names }
go becomes H = record { tables = H.tables; rule = H.rule; level = no_level; outer = tt }
go (names {s}) W =
    let M : Made = make_name s W.tables in
    record { tables = M.tables; rule = W.rule; level = one_more W.level M.at; outer = W.outer }
go (spells {s = s}) W =
    let M : Made = make_token s W.tables in
    record { tables = M.tables; rule = W.rule; level = one_more W.level M.at; outer = W.outer }
go parts W =
    let M : Made = end_sequence W.level.items W.tables in
    record { tables = M.tables; rule = W.rule; level = next_branch W.level M.at; outer = W.outer }
go opens W = record { tables = W.tables; rule = W.rule; level = no_level; outer = (W.level, W.outer) }
go (closes {b}) W =
    let M : Made = end_group b (end_level W.level W.tables) in
    record { tables = M.tables; rule = W.rule; level = one_more W.outer.0 M.at; outer = W.outer.1 }
go stops W = rule_ended W.rule (end_level W.level W.tables)

pub record Limits : Type 0 where
  pub names : ℕ
  pub kinds : ℕ
  pub nodes : ℕ

pub data Refusal : Type 0 where
  faulty : ℕ → ℕ → Refusal
  misplaced : ℕ → Refusal
  too_deep : ℕ → Refusal
  misspelt : ℕ → Refusal
  names_full : ℕ → Refusal
  kinds_full : ℕ → Refusal
  nodes_full : ℕ → Refusal
  second_rule : ℕ → Refusal
  no_rule : ℕ → Refusal

-- its number, then its values: a place, and a fault's code too; of refusal 8 how many nodes are made
abbrev pub numbered : Refusal → List ℕ
numbered (faulty p c) = 2 ∷ p ∷ c ∷ []
numbered (misplaced p) = 3 ∷ p ∷ []
numbered (too_deep p) = 4 ∷ p ∷ []
numbered (misspelt p) = 5 ∷ p ∷ []
numbered (names_full p) = 6 ∷ p ∷ []
numbered (kinds_full p) = 7 ∷ p ∷ []
numbered (nodes_full n) = 8 ∷ n ∷ []
numbered (second_rule p) = 9 ∷ p ∷ []
numbered (no_rule p) = 10 ∷ p ∷ []

-- a spelling in quotes that is no word and no one or two sign bytes
abbrev pub bad_spelling : Token → Bool
bad_spelling (name s) = false
bad_spelling (terminal class_word s) = false
bad_spelling (terminal spelling s) = not (is_spelling s.bytes)
bad_spelling (arrow s) = false
bad_spelling (bar s) = false
bad_spelling (semi s) = false
bad_spelling (opening b s) = false
bad_spelling (closing b s) = false

-- a name written so has a rule
abbrev pub has_rule : List ℕ → List Entry → Bool
has_rule w [] = false
has_rule w (e ∷ es) = cond (bytes_eq e.first.bytes w) (elim e.root [ none ↦ false | some r ↦ true ]) (has_rule w es)

abbrev pub again : {sh : Shape} {t : Token} {to : Shape} → Stands sh t to → State sh → Bool
again (heads {s}) T = has_rule s.bytes T.names
again becomes H = false
again names W = false
again spells W = false
again parts W = false
again opens W = false
again closes W = false
again stops W = false

-- why a token that can stand is refused, if it is: the lowest number
abbrev pub refuse : Limits → ℕ → (deep : ℕ) → (bad : Bool) → (after : Tables) → (twice : Bool) → Option Refusal
refuse L p deep bad after twice =
    cond (nat_lt 32 deep) (some (too_deep p))
    (cond bad (some (misspelt p))
    (cond (nat_lt L.names (length after.names)) (some (names_full p))
    (cond (nat_lt L.kinds (length after.kinds)) (some (kinds_full p))
    (cond (nat_lt L.nodes (length after.nodes)) (some (nodes_full L.nodes))
    (cond twice (some (second_rule p)) none)))))

abbrev pub refusal : Limits → {sh : Shape} {t : Token} {to : Shape} → Stands sh t to → State sh → Option Refusal
refusal L {t = t} {to = to} v st =
    refuse L (spot t).place (depth to) (bad_spelling t) (tables_of to (go v st)) (again v st)

pub data Outcome : Type 0 where
  read : Tables → Outcome
  refused : Refusal → Outcome

-- the first place of the lowest name without a rule
abbrev pub ruleless : List Entry → Option ℕ
ruleless [] = none
ruleless (e ∷ es) = elim e.root [ none ↦ some e.first.place | some r ↦ ruleless es ]

-- at the end of the text there has to be a rule, and one for each name
abbrev pub at_end : Tables → List Entry → ℕ → Outcome
at_end T [] p = refused (misplaced p)
at_end T (e ∷ es) p = elim (ruleless (e ∷ es)) [ none ↦ read T | some q ↦ refused (no_rule q) ]

abbrev pub finish : (sh : Shape) → State sh → Ending → Outcome
finish ready T (end p) = at_end T T.names p
finish heading H (end p) = refused (misplaced p)
finish (inside bs) W (end p) = refused (misplaced p)
finish ready T (fault p c) = refused (faulty p c)
finish heading H (fault p c) = refused (faulty p c)
finish (inside bs) W (fault p c) = refused (faulty p c)

-- a token that can stand is refused, or reading goes on
abbrev pub or_on : Option Refusal → Outcome → Outcome
or_on none rest = rest
or_on (some r) rest = refused r

abbrev pub step : Limits → {sh : Shape} {t : Token} → Dec (Stood sh t) → State sh → ((to : Shape) → State to → Outcome) → Outcome
step L {t = t} (no x) st rest = refused (misplaced (spot t).place)
step L (yes (to, v)) st rest = or_on (refusal L v st) (rest to (go v st))

abbrev pub run : Limits → (sh : Shape) → State sh → List Token → Ending → Outcome
run L sh st [] e = finish sh st e
run L sh st (t ∷ ts) e = step L (stand? sh t) st (λ to st'. run L to st' ts e)

abbrev pub reading : Limits → List SourceToken → Ending → Outcome
reading L ts e = run L ready no_tables (map sort ts) e
