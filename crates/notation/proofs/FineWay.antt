-- No token on a way is refused.
use Rattle.std.proofs.Common.{◌≡◌, ℕ, ◌≤◌, true, false, List, [], ◌∷◌, ◌++◌, length, sym, refl, ap, ◌∙◌, subst, append-nil, arith}
use Rattle.notation.specs.Tokens.{Spot, Token, name}
use Rattle.notation.specs.Syntax.{Rule, spell}
use Rattle.notation.specs.Tables.{Tables, no_tables}
use Rattle.notation.specs.Numbering.{numbering}
use Rattle.notation.specs.Standing.{Shape, ready, Stands, heads, Stood, depth}
use Rattle.notation.specs.Reading.{State, tables_of, go, Limits, bad_spelling, has_rule}
use Rattle.notation.specs.Statements.{Each, Has, heads_of, names_in, kinds_in, open_after, nodes_from, nodes_made, FineSoFar}
use Rattle.notation.proofs.Rest.{Rest, spell_rest, spell_build, number_rest, number_build, First, none_left, one_left, first}
use Rattle.notation.proofs.Unique.{stand_yes}
use Rattle.notation.proofs.Why.{fine}
use Rattle.notation.proofs.Names.{length_firsts, way_names, way_kinds, way_depth}
use Rattle.notation.proofs.Roots.{ruled_complete}
use Rattle.notation.proofs.Way.{Way, here, on, Left, left}

-- what holds on a way
pub record Fits (L : Limits) (sh : Shape) (st : State sh) : Type 0 where
  pub depth_fits : depth sh ≤ 32
  pub names_fit : length (tables_of sh st).names ≤ L.names
  pub kinds_fit : length (tables_of sh st).kinds ≤ L.kinds
  pub nodes_fit : length (tables_of sh st).nodes ≤ L.nodes

pub way_fits : {L : Limits} {sh : Shape} {st : State sh} {ts : List Token} {to : Shape} {st' : State to} → Way L sh st ts to st' → Fits L sh st → Fits L to st'
way_fits here f = f
way_fits {L} {st = st} (on v n w) f =
    let g = fine L v st n in
    way_fits w (record { depth_fits = g.depth_fits; names_fit = g.names_fit; kinds_fit = g.kinds_fit; nodes_fit = g.nodes_fit })

pub start_fits : (L : Limits) → Fits L ready no_tables
start_fits L = record { depth_fits = omega arith; names_fit = omega arith; kinds_fit = omega arith; nodes_fit = omega arith }

-- a way in two parts
pub record Parts (L : Limits) (sh : Shape) (st : State sh) (a b : List Token) (to : Shape) (st' : State to) : Type 0 where
  pub mid : Shape
  pub state : State mid
  pub one : Way L sh st a mid state
  pub two : Way L mid state b to st'

pub way_parts : {L : Limits} (a b : List Token) (sh : Shape) (st : State sh) (to : Shape) (st' : State to) → Way L sh st (a ++ b) to st' → Parts L sh st a b to st'
way_parts [] b sh st to st' w = record { mid = sh; state = st; one = here; two = w }
way_parts (t ∷ a) b sh st to st' (on {mid = m} v n w) =
    let p = way_parts a b m (go v st) to st' w in
    record { mid = p.mid; state = p.state; one = on v n p.one; two = p.two }

pub way_spelt : {L : Limits} {sh : Shape} {st : State sh} {ts : List Token} {to : Shape} {st' : State to} → Way L sh st ts to st' → Each (λ t. bad_spelling t ≡ false) ts
way_spelt here = tt
way_spelt {L} {st = st} (on v n w) = ((fine L v st n).spelling_fits, way_spelt w)

pub nodes_on : {sh : Shape} {t : Token} {to : Shape} (v : Stands sh t to) (st : State sh) (ts : List Token) → nodes_from sh st (t ∷ ts) ≡ nodes_from to (go v st) ts
nodes_on {sh} {t} v st ts = ap (λ (d : Dec (Stood sh t)). elim d [ no x ↦ length (tables_of sh st).nodes | yes p ↦ nodes_from p.0 (go p.1 st) ts ]) (stand_yes v)

pub way_nodes : {L : Limits} {sh : Shape} {st : State sh} {ts : List Token} {to : Shape} {st' : State to} → Way L sh st ts to st' → (more : List Token) → nodes_from sh st (ts ++ more) ≡ nodes_from to st' more
way_nodes here more = refl
way_nodes {st = st} (on {ts = us} v n w) more = nodes_on v st (us ++ more) ∙ way_nodes w more

nodes_first : {sh : Shape} (k : Rest sh) (st : State sh) (ts : List Token) → First sh k → spell_rest sh k ≡ ts
    → ((to : Shape) (a : Rest to) (st' : State to) (us : List Token) (t : Token) → ts ≡ t ∷ us → spell_rest to a ≡ us → nodes_from to st' us ≡ length (number_rest to st' a).nodes)
    → nodes_from sh st ts ≡ length (number_rest sh st k).nodes
nodes_first k st ts none_left h ih = ap (nodes_from ready st) (sym h)
nodes_first {sh} k st ts (one_left {t = t} {to = to} v a p) h ih =
    let g : ts ≡ t ∷ spell_rest to a = sym h ∙ ap (spell_rest sh) (sym p) ∙ spell_build v a in
    ap (nodes_from sh st) g ∙ nodes_on v st (spell_rest to a) ∙ ih to a (go v st) (spell_rest to a) t g refl
    ∙ ap (λ X. length X.nodes) (sym (number_build v st a)) ∙ ap (λ x. length (number_rest sh st x).nodes) p

pub rest_nodes : (ts : List Token) (sh : Shape) (k : Rest sh) (st : State sh) → spell_rest sh k ≡ ts → nodes_from sh st ts ≡ length (number_rest sh st k).nodes
rest_nodes [] sh k st h = nodes_first k st [] (first sh k) h (λ to a st' us t e g. let z : ◌≡◌ {A = ℕ} 0 1 = cc in absurd (omega arith))
rest_nodes (u ∷ us) sh k st h =
    nodes_first k st (u ∷ us) (first sh k) h
    (λ to a st' vs t e g. let e' : us ≡ vs = cc in subst (λ xs. nodes_from to st' xs ≡ length (number_rest to st' a).nodes) e' (rest_nodes us to a st' (g ∙ sym e')))

once_heads : {L : Limits} {T : Tables} {s : Spot} {more : List Token} {to : Shape} {st : State to} → Way L ready T (name s ∷ more) to st → has_rule s.bytes T.names ≡ false
once_heads {L} {T} (on heads n w) = (fine L heads T n).once

once_first : (L : Limits) (rules : List Rule) (s : Spot) (more : List Token) {mid : Shape} {rest : Rest mid} (state : State mid) (to : Shape) (st : State to)
    → First mid rest → spell_rest mid rest ≡ [] → numbering rules ≡ number_rest mid state rest → Way L mid state (name s ∷ more) to st → Has s.bytes (heads_of rules) → ⊥
once_first L rules s more T to st none_left g e w h =
    let a : has_rule s.bytes T.names ≡ false = once_heads w in
    let b : has_rule s.bytes T.names ≡ true = ap (λ X. has_rule s.bytes X.names) (sym e) ∙ ruled_complete s.bytes rules no_tables h in
    let z : ◌≡◌ {A = ℕ} 0 1 = cc in omega arith
once_first L rules s more {mid} state to st (one_left v a p) g e w h =
    let q = sym (spell_build v a) ∙ ap (spell_rest mid) p ∙ g in
    let z : ◌≡◌ {A = ℕ} 0 1 = cc in omega arith

pub fine_way : (L : Limits) (ts : List Token) (to : Shape) (st : State to) → Way L ready no_tables ts to st → FineSoFar L ts
fine_way L ts to st w =
    let f : Fits L to st = way_fits w (start_fits L) in
    let T : Tables = tables_of to st in
    let a : length (names_in ts) ≡ length T.names = ap length (sym (way_names w)) ∙ length_firsts T.names in
    let b : length (kinds_in ts) ≡ length T.kinds = ap length (sym (way_kinds w)) in
    let c : nodes_made ts ≡ length T.nodes = ap nodes_made (sym (append-nil ts)) ∙ way_nodes w [] in
    let f₁ : length T.names ≤ L.names = f.names_fit in
    let f₂ : length T.kinds ≤ L.kinds = f.kinds_fit in
    let f₃ : length T.nodes ≤ L.nodes = f.nodes_fit in
    record {
      shallow = λ before after e. (
          let p = way_parts before after ready no_tables to st (subst (λ xs. Way L ready no_tables xs to st) e w) in
          let d : depth p.mid ≤ 32 = (way_fits p.one (start_fits L)).depth_fits in
          let g : depth p.mid ≡ open_after 0 before = way_depth p.one in
          omega arith);
      spelt = way_spelt w;
      names_fit = omega arith;
      kinds_fit = omega arith;
      nodes_fit = omega arith;
      once = λ rules s more e h. (
          let p = way_parts (spell rules) (name s ∷ more) ready no_tables to st (subst (λ xs. Way L ready no_tables xs to st) e w) in
          let l : Left ready no_tables rules p.mid p.state [] = left p.one rules [] (sym (append-nil (spell rules))) in
          once_first L rules s more p.state to st (first p.mid l.rest) l.spelled l.numbered p.two h);
    }
