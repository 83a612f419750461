-- What the tables of names and kinds hold.
use Rattle.std.proofs.Common.{◌≡◌, ℕ, zero, suc, true, false, cond, List, [], ◌∷◌, ◌++◌, length, refl, ap, ◌∙◌, arith}
use Rattle.std.specs.Str.{bytes_eq}
use Rattle.std.proofs.lemmas.Slice.Eq.{bytes_eq-Decides}
use Rattle.notation.specs.Tokens.{Bracket, round, square, curly, Spot, Token}
use Rattle.notation.specs.Tables.{Entry, Tables, with_name, with_kind, with_root}
use Rattle.notation.specs.Numbering.{Made, end_sequence, end_branches, end_level, end_group, Level}
use Rattle.notation.specs.Standing.{Shape, Stands, heads, becomes, names, spells, parts, opens, closes, stops, depth}
use Rattle.notation.specs.Reading.{State, tables_of, go, Limits}
pub use Rattle.notation.specs.Statements.{firsts}
use Rattle.notation.specs.Statements.{name_in, kind_in, gather, open_with, open_after}
use Rattle.notation.proofs.Way.{Way, here, on}

pub same_true : (a b : List ℕ) → bytes_eq a b ≡ true → a ≡ b
same_true a b = (bytes_eq-Decides a b).0

pub same_of : (a b : List ℕ) → a ≡ b → bytes_eq a b ≡ true
same_of a b = (bytes_eq-Decides a b).1

pub same_refl : (a : List ℕ) → bytes_eq a a ≡ true
same_refl a = same_of a a refl

pub same_false : (a b : List ℕ) → bytes_eq a b ≡ false → a ≡ b → ⊥
same_false a b h e = let g = same_of a b e in let z : ◌≡◌ {A = ℕ} 0 1 = cc in omega arith

pub length_firsts : (es : List Entry) → length (firsts es) ≡ length es
length_firsts [] = refl
length_firsts (e ∷ es) = ap suc (length_firsts es)

pub firsts_name : (s : Spot) (es : List Entry) → firsts (with_name s es) ≡ with_kind s (firsts es)
firsts_name s [] = refl
firsts_name s (e ∷ es) =
    let h = firsts_name s es in
    elim (bytes_eq e.first.bytes s.bytes) as (λ b. firsts (cond b (e ∷ es) (e ∷ with_name s es)) ≡ cond b (firsts (e ∷ es)) (e.first ∷ with_kind s (firsts es)))
    [ true ↦ refl | false ↦ ap (λ xs. e.first ∷ xs) h ]

pub firsts_root : (i n : ℕ) (es : List Entry) → firsts (with_root i n es) ≡ firsts es
firsts_root i n [] = refl
firsts_root zero n (e ∷ es) = refl
firsts_root (suc i) n (e ∷ es) = ap (λ xs. e.first ∷ xs) (firsts_root i n es)

-- ends of sequences, branches and groups change no name and no kind
pub record SameWords (T U : Tables) : Type 0 where
  pub names : U.names ≡ T.names
  pub kinds : U.kinds ≡ T.kinds

pub same_words : (T : Tables) → SameWords T T
same_words T = record { names = refl; kinds = refl }

pub words_sequence : (ns : List ℕ) (T : Tables) → SameWords T (end_sequence ns T).tables
words_sequence [] T = record { names = refl; kinds = refl }
words_sequence (n ∷ []) T = same_words T
words_sequence (n ∷ m ∷ rest) T = record { names = refl; kinds = refl }

pub words_branches : (ns : List ℕ) (T : Tables) → SameWords T (end_branches ns T).tables
words_branches [] T = same_words T
words_branches (n ∷ []) T = same_words T
words_branches (n ∷ m ∷ rest) T = record { names = refl; kinds = refl }

pub words_level : (l : Level) (T : Tables) → SameWords T (end_level l T).tables
words_level l T =
    let M = end_sequence l.items T in
    let a = words_sequence l.items T in
    let b = words_branches (l.ended ++ (M.at ∷ [])) M.tables in
    record { names = b.names ∙ a.names; kinds = b.kinds ∙ a.kinds }

pub words_group : (b : Bracket) (M : Made) → SameWords M.tables (end_group b M).tables
words_group round M = same_words M.tables
words_group square M = record { names = refl; kinds = refl }
words_group curly M = record { names = refl; kinds = refl }

pub words_closed : (b : Bracket) (l : Level) (T : Tables) → SameWords T (end_group b (end_level l T)).tables
words_closed b l T =
    let p = words_level l T in
    let q = words_group b (end_level l T) in
    record { names = q.names ∙ p.names; kinds = q.kinds ∙ p.kinds }

pub names_step : {sh : Shape} {t : Token} {to : Shape} (v : Stands sh t to) (st : State sh) → firsts (tables_of to (go v st)).names ≡ name_in t (firsts (tables_of sh st).names)
names_step (heads {s}) T = firsts_name s T.names
names_step becomes H = refl
names_step (names {s}) W = firsts_name s W.tables.names
names_step spells W = refl
names_step parts W = ap firsts (words_sequence W.level.items W.tables).names
names_step opens W = refl
names_step (closes {b}) W = ap firsts (words_closed b W.level W.tables).names
names_step stops W = firsts_root W.rule (end_level W.level W.tables).at (end_level W.level W.tables).tables.names ∙ ap firsts (words_level W.level W.tables).names

pub kinds_step : {sh : Shape} {t : Token} {to : Shape} (v : Stands sh t to) (st : State sh) → (tables_of to (go v st)).kinds ≡ kind_in t (tables_of sh st).kinds
kinds_step (heads {s}) T = refl
kinds_step becomes H = refl
kinds_step (names {s}) W = refl
kinds_step spells W = refl
kinds_step parts W = (words_sequence W.level.items W.tables).kinds
kinds_step opens W = refl
kinds_step (closes {b}) W = (words_closed b W.level W.tables).kinds
kinds_step stops W = (words_level W.level W.tables).kinds

pub way_names : {L : Limits} {sh : Shape} {st : State sh} {ts : List Token} {to : Shape} {st' : State to} → Way L sh st ts to st'
    → firsts (tables_of to st').names ≡ gather name_in (firsts (tables_of sh st).names) ts
way_names here = refl
way_names {st = st} (on {ts = us} v n w) = way_names w ∙ ap (λ l. gather name_in l us) (names_step v st)

pub way_kinds : {L : Limits} {sh : Shape} {st : State sh} {ts : List Token} {to : Shape} {st' : State to} → Way L sh st ts to st'
    → (tables_of to st').kinds ≡ gather kind_in (tables_of sh st).kinds ts
way_kinds here = refl
way_kinds {st = st} (on {ts = us} v n w) = way_kinds w ∙ ap (λ l. gather kind_in l us) (kinds_step v st)

pub depth_step : {sh : Shape} {t : Token} {to : Shape} → Stands sh t to → depth to ≡ open_with t (depth sh)
depth_step heads = refl
depth_step becomes = refl
depth_step names = refl
depth_step spells = refl
depth_step parts = refl
depth_step opens = refl
depth_step closes = refl
depth_step stops = refl

pub way_depth : {L : Limits} {sh : Shape} {st : State sh} {ts : List Token} {to : Shape} {st' : State to} → Way L sh st ts to st' → depth to ≡ open_after (depth sh) ts
way_depth here = refl
way_depth (on {ts = us} v n w) = way_depth w ∙ ap (λ k. open_after k us) (depth_step v)
