-- What is left of a text at each shape, and how one token changes it.
use Rattle.std.proofs.Common.{◌≡◌, ℕ, List, [], ◌∷◌, ◌++◌, refl, ap, append_assoc}
use Rattle.notation.specs.Tokens.{Bracket, Spot, Token, arrow, bar, semi, closing}
use Rattle.notation.specs.Syntax.{Item, named, literal, group, Sequence, nothing, item, Branches, last, either, Rule, spell_item, spell_sequence, spell_branches, spell}
use Rattle.notation.specs.Tables.{Tables}
use Rattle.notation.specs.Numbering.{Made, Level, no_level, one_more, end_group, number_item, number_branches, number_rules, rule_ended}
use Rattle.notation.specs.Standing.{Shape, ready, heading, inside, Stands, heads, becomes, names, spells, parts, opens, closes, stops}
use Rattle.notation.specs.Reading.{Levels, State, go}

-- after branches: the closing marks to come, the branches that go on after each, and at last ; and the rules to come
abbrev pub Tail : List Bracket → Type 0
Tail [] = Spot × List Rule
Tail (b ∷ bs) = Spot × Branches × Tail bs

abbrev pub Rest : Shape → Type 0
Rest ready = List Rule
Rest heading = Spot × Branches × Spot × List Rule
Rest (inside bs) = Branches × Tail bs

abbrev pub spell_tail : (bs : List Bracket) → Tail bs → List Token
spell_tail [] k = semi k.0 ∷ spell k.1
spell_tail (b ∷ bs) k = closing b k.0 ∷ (spell_branches k.1 ++ spell_tail bs k.2)

abbrev pub spell_rest : (sh : Shape) → Rest sh → List Token
spell_rest ready rs = spell rs
spell_rest heading k = arrow k.0 ∷ (spell_branches k.1 ++ (semi k.2 ∷ spell k.3))
spell_rest (inside bs) k = spell_branches k.0 ++ spell_tail bs k.1

-- one more item in front of the first sequence
abbrev pub before : Item → Branches → Branches
before x (last xs) = last (item x xs)
before x (either xs s more) = either (item x xs) s more

pub spell_before : (x : Item) (b : Branches) → spell_branches (before x b) ≡ spell_item x ++ spell_branches b
spell_before x (last xs) = refl
spell_before x (either xs s more) = append_assoc (spell_item x) (spell_sequence xs) (bar s ∷ spell_branches more)

abbrev pub build : {sh : Shape} {t : Token} {to : Shape} → Stands sh t to → Rest to → Rest sh
build (heads {s}) k = record { head = s; becomes = k.0; body = k.1; stop = k.2 } ∷ k.3
build (becomes {s}) k = (s, k.0, k.1.0, k.1.1)
build (names {s}) k = (before (named s) k.0, k.1)
build (spells {k = c} {s = s}) k = (before (literal c s) k.0, k.1)
build (parts {s}) k = (either nothing s k.0, k.1)
build (opens {b} {s}) k = (before (group b s k.0 k.1.0) k.1.1, k.1.2)
build (closes {s = s}) k = (last nothing, (s, k.0, k.1))
build (stops {s}) k = (last nothing, (s, k))

pub spell_build : {sh : Shape} {t : Token} {to : Shape} (v : Stands sh t to) (k : Rest to) → spell_rest sh (build v k) ≡ t ∷ spell_rest to k
spell_build heads k = simp append_assoc
spell_build becomes k = refl
spell_build names k = simp (spell_before, append_assoc)
spell_build spells k = simp (spell_before, append_assoc)
spell_build parts k = refl
spell_build opens k = simp (spell_before, append_assoc)
spell_build closes k = refl
spell_build stops k = refl

-- what is left is nothing, or a token and what is left then
pub data First : (sh : Shape) → Rest sh → Type 0 where
  none_left : First ready []
  one_left : {sh : Shape} {k : Rest sh} {t : Token} {to : Shape} (v : Stands sh t to) (rest : Rest to) → build v rest ≡ k → First sh k

first_tail : (bs : List Bracket) (k : Tail bs) → First (inside bs) (last nothing, k)
first_tail [] k = one_left stops k.1 refl
first_tail (b ∷ bs) k = one_left closes (k.1, k.2) refl

first_last : (bs : List Bracket) (x : Item) (xs : Sequence) (k : Tail bs) → First (inside bs) (last (item x xs), k)
first_last bs (named s) xs k = one_left names (last xs, k) refl
first_last bs (literal c s) xs k = one_left spells (last xs, k) refl
first_last bs (group b s B t) xs k = one_left opens (B, (t, last xs, k)) refl

first_either : (bs : List Bracket) (x : Item) (xs : Sequence) (s : Spot) (more : Branches) (k : Tail bs) → First (inside bs) (either (item x xs) s more, k)
first_either bs (named s) xs r more k = one_left names (either xs r more, k) refl
first_either bs (literal c s) xs r more k = one_left spells (either xs r more, k) refl
first_either bs (group b s B t) xs r more k = one_left opens (B, (t, either xs r more, k)) refl

first_inside : (bs : List Bracket) (b : Branches) (k : Tail bs) → First (inside bs) (b, k)
first_inside bs (last nothing) k = first_tail bs k
first_inside bs (last (item x xs)) k = first_last bs x xs k
first_inside bs (either nothing s more) k = one_left parts (more, k) refl
first_inside bs (either (item x xs) s more) k = first_either bs x xs s more k

pub first : (sh : Shape) (k : Rest sh) → First sh k
first ready [] = none_left
first ready (r ∷ rs) = one_left heads (r.becomes, r.body, r.stop, rs) refl
first heading k = one_left becomes (k.1, (k.2, k.3)) refl
first (inside bs) k = first_inside bs k.0 k.1

-- the tables of what is left
abbrev pub number_tail : (bs : List Bracket) → Levels bs → ℕ → Tail bs → Made → Tables
number_tail [] o i k M = number_rules k.1 (rule_ended i M)
number_tail (b ∷ bs) o i k M =
    let G : Made = end_group b M in
    number_tail bs o.1 i k.2 (number_branches k.1 (one_more o.0 G.at) G.tables)

abbrev pub number_rest : (sh : Shape) → State sh → Rest sh → Tables
number_rest ready T k = number_rules k T
number_rest heading H k = number_rules k.3 (rule_ended H.rule (number_branches k.1 no_level H.tables))
number_rest (inside bs) W k = number_tail bs W.outer W.rule k.1 (number_branches k.0 W.level W.tables)

pub number_before : (x : Item) (b : Branches) (l : Level) (T : Tables) → number_branches (before x b) l T ≡ number_branches b (one_more l (number_item x T).at) (number_item x T).tables
number_before x (last xs) l T = refl
number_before x (either xs s more) l T = refl

pub number_build : {sh : Shape} {t : Token} {to : Shape} (v : Stands sh t to) (st : State sh) (k : Rest to) → number_rest sh st (build v k) ≡ number_rest to (go v st) k
number_build heads st k = refl
number_build becomes st k = refl
number_build (names {s} {bs}) st k = ap (number_tail bs st.outer st.rule k.1) (number_before (named s) k.0 st.level st.tables)
number_build (spells {k = c} {s = s} {bs = bs}) st k = ap (number_tail bs st.outer st.rule k.1) (number_before (literal c s) k.0 st.level st.tables)
number_build parts st k = refl
number_build (opens {b} {s} {bs}) st k = ap (number_tail bs st.outer st.rule k.1.2) (number_before (group b s k.0 k.1.0) k.1.1 st.level st.tables)
number_build closes st k = refl
number_build stops st k = refl
