-- Tables only grow.
use Rattle.std.proofs.Common.{◌≡◌, ℕ, zero, suc, ◌≤◌, true, false, cond, List, [], ◌∷◌, ◌++◌, length, sym, refl, ap, ◌∙◌, subst, arith, length-append, length-set}
use Rattle.std.specs.Str.{bytes_eq}
use Rattle.notation.specs.Tokens.{Bracket, round, square, curly, Spot, Token}
use Rattle.notation.specs.Tables.{Entry, Tables, with_name, with_kind, with_root, add, link}
use Rattle.notation.specs.Numbering.{Made, end_sequence, end_branches, end_level, end_group, Level}
use Rattle.notation.specs.Standing.{Shape, Stands, heads, becomes, names, spells, parts, opens, closes, stops}
use Rattle.notation.specs.Reading.{State, tables_of, go, Limits}
use Rattle.tree.specs.declared.class.Class.{Class}
use Rattle.tree.specs.declared.node.Node.{Node}
use Rattle.notation.proofs.Way.{Way, here, on}
use Rattle.notation.proofs.Rest.{Rest, spell_rest, spell_build, number_rest, number_build, First, none_left, one_left, first}

pub record Bigger (T U : Tables) : Type 0 where
  pub names : length T.names ≤ length U.names
  pub kinds : length T.kinds ≤ length U.kinds
  pub nodes : length T.nodes ≤ length U.nodes

pub bigger_refl : (T : Tables) → Bigger T T
bigger_refl T = record { names = omega arith; kinds = omega arith; nodes = omega arith }

pub bigger_trans : {T U V : Tables} → Bigger T U → Bigger U V → Bigger T V
bigger_trans a b = record { names = omega arith; kinds = omega arith; nodes = omega arith }

pub length_name : (s : Spot) (es : List Entry) → (length es ≤ length (with_name s es)) × (1 ≤ length (with_name s es))
length_name s [] = (omega arith, omega arith)
length_name s (e ∷ es) =
    let h = length_name s es in
    elim (bytes_eq e.first.bytes s.bytes) as (λ b. (length (e ∷ es) ≤ length (cond b (e ∷ es) (e ∷ with_name s es))) × (1 ≤ length (cond b (e ∷ es) (e ∷ with_name s es))))
    [ true ↦ (omega arith, omega arith) | false ↦ (omega arith, omega arith) ]

pub length_kind : (s : Spot) (es : List Spot) → length es ≤ length (with_kind s es)
length_kind s [] = omega arith
length_kind s (e ∷ es) =
    let h = length_kind s es in
    elim (bytes_eq e.bytes s.bytes) as (λ b. length (e ∷ es) ≤ length (cond b (e ∷ es) (e ∷ with_kind s es)))
    [ true ↦ omega arith | false ↦ omega arith ]

pub length_root : (i n : ℕ) (es : List Entry) → length (with_root i n es) ≡ length es
length_root i n [] = refl
length_root zero n (e ∷ es) = refl
length_root (suc i) n (e ∷ es) = ap suc (length_root i n es)

pub length_link : (cs : List ℕ) (ns : List Node) → length (link cs ns) ≡ length ns
length_link [] ns = refl
length_link (n ∷ []) ns = refl
length_link (n ∷ m ∷ rest) ns = length-set (link (m ∷ rest) ns) n _ ∙ length_link (m ∷ rest) ns

pub length_add : (c : Class) (v f : ℕ) (ns : List Node) → length (add c v f ns) ≡ suc (length ns)
length_add c v f ns = length-append ns _ ∙ omega arith

pub bigger_sequence : (ns : List ℕ) (T : Tables) → Bigger T (end_sequence ns T).tables
bigger_sequence [] T = record { names = omega arith; kinds = omega arith; nodes = simp length-append (omega arith) }
bigger_sequence (n ∷ []) T = bigger_refl T
bigger_sequence (n ∷ m ∷ rest) T = record { names = omega arith; kinds = omega arith; nodes = simp (length-append, length_link (n ∷ m ∷ rest) T.nodes) (omega arith) }

pub bigger_branches : (ns : List ℕ) (T : Tables) → Bigger T (end_branches ns T).tables
bigger_branches [] T = bigger_refl T
bigger_branches (n ∷ []) T = bigger_refl T
bigger_branches (n ∷ m ∷ rest) T = record { names = omega arith; kinds = omega arith; nodes = simp (length-append, length_link (n ∷ m ∷ rest) T.nodes) (omega arith) }

pub bigger_level : (l : Level) (T : Tables) → Bigger T (end_level l T).tables
bigger_level l T =
    let M = end_sequence l.items T in
    bigger_trans (bigger_sequence l.items T) (bigger_branches (l.ended ++ (M.at ∷ [])) M.tables)

pub bigger_group : (b : Bracket) (M : Made) → Bigger M.tables (end_group b M).tables
bigger_group round M = bigger_refl M.tables
bigger_group square M = record { names = omega arith; kinds = omega arith; nodes = simp length-append (omega arith) }
bigger_group curly M = record { names = omega arith; kinds = omega arith; nodes = simp length-append (omega arith) }

pub grows : {sh : Shape} {t : Token} {to : Shape} (v : Stands sh t to) (st : State sh) → Bigger (tables_of sh st) (tables_of to (go v st))
grows (heads {s}) T = record { names = (length_name s T.names).0; kinds = omega arith; nodes = omega arith }
grows becomes H = bigger_refl H.tables
grows (names {s}) W = record { names = (length_name s W.tables.names).0; kinds = omega arith; nodes = simp length-append (omega arith) }
grows (spells {s = s}) W = record { names = omega arith; kinds = length_kind s W.tables.kinds; nodes = simp length-append (omega arith) }
grows parts W = bigger_sequence W.level.items W.tables
grows opens W = bigger_refl W.tables
grows (closes {b}) W = bigger_trans (bigger_level W.level W.tables) (bigger_group b (end_level W.level W.tables))
grows stops W =
    let b = bigger_level W.level W.tables in
    let e = length_root W.rule (end_level W.level W.tables).at (end_level W.level W.tables).tables.names in
    record { names = omega arith; kinds = omega arith; nodes = omega arith }

pub way_grows : {L : Limits} {sh : Shape} {st : State sh} {ts : List Token} {to : Shape} {st' : State to} → Way L sh st ts to st' → Bigger (tables_of sh st) (tables_of to st')
way_grows {sh = sh} {st = st} here = bigger_refl (tables_of sh st)
way_grows {st = st} (on v n w) = bigger_trans (grows v st) (way_grows w)

-- what a text makes is no less than what was there
rest_first : {sh : Shape} (k : Rest sh) (st : State sh) (ts : List Token) → First sh k → spell_rest sh k ≡ ts
    → ((to : Shape) (a : Rest to) (st' : State to) (us : List Token) (t : Token) → ts ≡ t ∷ us → spell_rest to a ≡ us → Bigger (tables_of to st') (number_rest to st' a))
    → Bigger (tables_of sh st) (number_rest sh st k)
rest_first k st ts none_left h ih = bigger_refl st
rest_first {sh} k st ts (one_left {t = t} {to = to} v a p) h ih =
    let g : t ∷ spell_rest to a ≡ ts = sym (spell_build v a) ∙ ap (spell_rest sh) p ∙ h in
    let b = bigger_trans (grows v st) (ih to a (go v st) (spell_rest to a) t (sym g) refl) in
    subst (λ x. Bigger (tables_of sh st) (number_rest sh st x)) p (subst (λ X. Bigger (tables_of sh st) X) (sym (number_build v st a)) b)

pub rest_grows : (ts : List Token) (sh : Shape) (k : Rest sh) (st : State sh) → spell_rest sh k ≡ ts → Bigger (tables_of sh st) (number_rest sh st k)
rest_grows [] sh k st h = rest_first k st [] (first sh k) h (λ to a st' us t e g. let z : ◌≡◌ {A = ℕ} 0 1 = cc in absurd (omega arith))
rest_grows (u ∷ us) sh k st h = rest_first k st (u ∷ us) (first sh k) h (λ to a st' vs t e g. rest_grows us to a st' (let e' : us ≡ vs = cc in g ∙ sym e'))
