-- The nodes that reading has made after some tokens of a text are those that the syntax says they complete.
use Rattle.std.proofs.Common.{◌≡◌, ℕ, zero, suc, ◌+◌, ◌<◌, ◌≤◌, List, [], ◌∷◌, ◌++◌, map, length, take, sum, sym, refl, ap, ◌∙◌, subst, append_assoc, append-nil, add-zero, arith, length-append}
use mathlib.Core.List.{map-append}
use lib.ListN.{length-map}
use Rattle.std.proofs.lemmas.List.Sums.{sum_by-cons}
use Rattle.notation.specs.Tokens.{Bracket, round, square, curly, Spot, Token, closing, SourceToken, sort}
use Rattle.notation.specs.Syntax.{Item, named, literal, group, Sequence, nothing, item, Branches, last, either, Rule, spell_item, spell_sequence, spell_branches, spell}
use Rattle.notation.specs.Tables.{Tables, no_tables}
use Rattle.notation.specs.Numbering.{Made, Level, end_sequence, end_branches, end_level, end_group}
use Rattle.notation.specs.Standing.{Shape, ready, heading, inside, Stands, heads, becomes, names, spells, parts, opens, closes, stops, Stood}
use Rattle.notation.specs.Reading.{Levels, State, tables_of, go}
use Rattle.notation.specs.Statements.{TextOf, nodes_from, nodes_made}
use Rattle.notation.specs.Completed.{own_sequence, own_branches, own_group, completes_item, completes_items, completes_branches, completes, completed, NodesCompleted, EachCompletes, AllCompleted, NodesPassed}
use Rattle.notation.proofs.Rest.{Tail, Rest, spell_rest, before, build}
use Rattle.notation.proofs.Way.{Peeled, peel, next_stands}
use Rattle.notation.proofs.Grows.{length_link}
use Rattle.notation.proofs.FineWay.{nodes_on, rest_nodes}
use Rattle.notation.proofs.Told.{nodes_right}
use Rattle.notation.proofs.Listed.{nodes_sized}

-- the node of a sequence of this many items, and of this many branches
abbrev sequence_node : ℕ → ℕ
sequence_node zero = 1
sequence_node (suc zero) = 0
sequence_node (suc (suc n)) = 1

abbrev branches_node : ℕ → ℕ
branches_node zero = 0
branches_node (suc zero) = 0
branches_node (suc (suc n)) = 1

-- so many stand before
abbrev sequence_from : ℕ → Sequence → ℕ
sequence_from i nothing = sequence_node i
sequence_from i (item x xs) = sequence_from (suc i) xs

abbrev branches_from : ℕ → Branches → ℕ
branches_from e (last xs) = branches_node (suc e)
branches_from e (either xs s more) = branches_from (suc e) more

many_items : (i : ℕ) (xs : Sequence) → sequence_from (suc (suc i)) xs ≡ 1
many_items i nothing = refl
many_items i (item x xs) = many_items (suc i) xs

many_branches : (e : ℕ) (b : Branches) → branches_from (suc e) b ≡ 1
many_branches e (last xs) = refl
many_branches e (either xs s more) = many_branches (suc e) more

from_sequence : (xs : Sequence) → own_sequence xs ≡ sequence_from 0 xs
from_sequence nothing = refl
from_sequence (item x nothing) = refl
from_sequence (item x (item y more)) = sym (many_items 0 more)

from_branches : (b : Branches) → own_branches b ≡ branches_from 0 b
from_branches (last xs) = refl
from_branches (either xs s more) = sym (many_branches 0 more)

-- what is left of branches, after i items of the sequence begun and e ended sequences
abbrev completes_from : Branches → ℕ → ℕ → List ℕ
completes_from (last xs) i m = completes_items xs ++ ((sequence_from i xs + m) ∷ [])
completes_from (either xs s more) i m = completes_items xs ++ (sequence_from i xs ∷ completes_branches more m)

abbrev completes_level : Branches → (e i : ℕ) → ℕ → List ℕ
completes_level b e i m = completes_from b i (branches_from e b + m)

from_start : (b : Branches) (m : ℕ) → completes_branches b m ≡ completes_from b 0 m
from_start (last xs) m = ap (λ n. completes_items xs ++ ((n + m) ∷ [])) (from_sequence xs)
from_start (either xs s more) m = ap (λ n. completes_items xs ++ (n ∷ completes_branches more m)) (from_sequence xs)

level_start : (b : Branches) (m : ℕ) → completes_branches b (own_branches b + m) ≡ completes_level b 0 0 m
level_start b m = ap (λ n. completes_branches b (n + m)) (from_branches b) ∙ from_start b (branches_from 0 b + m)

level_before : (x : Item) (b : Branches) (e i m : ℕ) → completes_level (before x b) e i m ≡ completes_item x ++ completes_level b e (suc i) m
level_before x (last xs) e i m = append_assoc (completes_item x) (completes_items xs) _
level_before x (either xs s more) e i m = append_assoc (completes_item x) (completes_items xs) _

-- the mark after branches within these brackets
abbrev mark : List Bracket → ℕ
mark [] = 0
mark (b ∷ bs) = own_group b

abbrev completes_tail : (bs : List Bracket) → Levels bs → Tail bs → List ℕ
completes_tail [] o k = completes k.1
completes_tail (b ∷ bs) o k = completes_level k.1 (length o.0.ended) (suc (length o.0.items)) (mark bs) ++ completes_tail bs o.1 k.2

abbrev completes_rest : (sh : Shape) → State sh → Rest sh → List ℕ
completes_rest ready T k = completes k
completes_rest heading H k = 0 ∷ (completes_branches k.1 (own_branches k.1) ++ completes k.3)
completes_rest (inside bs) W k = completes_level k.0 (length W.level.ended) (length W.level.items) (mark bs) ++ completes_tail bs W.outer k.1

-- how many nodes are made
one_longer : (ns : List ℕ) (n : ℕ) → length (ns ++ (n ∷ [])) ≡ suc (length ns)
one_longer ns n = length-append ns (n ∷ []) ∙ omega arith

made_sequence : (ns : List ℕ) (T : Tables) → length (end_sequence ns T).tables.nodes ≡ length T.nodes + sequence_node (length ns)
made_sequence [] T = simp length-append (omega arith)
made_sequence (n ∷ []) T = omega arith
made_sequence (n ∷ m ∷ rest) T = simp (length-append, length_link (n ∷ m ∷ rest) T.nodes) (omega arith)

made_branches : (ns : List ℕ) (T : Tables) → length (end_branches ns T).tables.nodes ≡ length T.nodes + branches_node (length ns)
made_branches [] T = omega arith
made_branches (n ∷ []) T = omega arith
made_branches (n ∷ m ∷ rest) T = simp (length-append, length_link (n ∷ m ∷ rest) T.nodes) (omega arith)

made_level : (l : Level) (T : Tables) → length (end_level l T).tables.nodes ≡ length T.nodes + (sequence_node (length l.items) + branches_node (suc (length l.ended)))
made_level l T =
    let M : Made = end_sequence l.items T in
    let a : length M.tables.nodes ≡ length T.nodes + sequence_node (length l.items) = made_sequence l.items T in
    let b : length (end_level l T).tables.nodes ≡ length M.tables.nodes + branches_node (length (l.ended ++ (M.at ∷ []))) = made_branches (l.ended ++ (M.at ∷ [])) M.tables in
    let c : branches_node (length (l.ended ++ (M.at ∷ []))) ≡ branches_node (suc (length l.ended)) = ap branches_node (one_longer l.ended M.at) in
    omega arith

made_group : (b : Bracket) (M : Made) → length (end_group b M).tables.nodes ≡ length M.tables.nodes + own_group b
made_group round M = omega arith
made_group square M = simp length-append (omega arith)
made_group curly M = simp length-append (omega arith)

-- a token, and what is left then
record Step {sh : Shape} {t : Token} {to : Shape} (v : Stands sh t to) (st : State sh) (k : Rest to) : Type 0 where
  weight : ℕ
  listed : completes_rest sh st (build v k) ≡ weight ∷ completes_rest to (go v st) k
  made : length (tables_of to (go v st)).nodes ≡ length (tables_of sh st).nodes + weight

leaf : (bs : List Bracket) (x : Item) (ns : List ℕ) (n : ℕ) (b : Branches) (e : ℕ) (k : List ℕ) → completes_item x ≡ 1 ∷ []
    → completes_level (before x b) e (length ns) (mark bs) ++ k ≡ 1 ∷ (completes_level b e (length (ns ++ (n ∷ []))) (mark bs) ++ k)
leaf bs x ns n b e k h =
    ap (λ l. l ++ k) (level_before x b e (length ns) (mark bs) ∙ ap (λ l. l ++ completes_level b e (suc (length ns)) (mark bs)) h)
    ∙ ap (λ i. 1 ∷ (completes_level b e i (mark bs) ++ k)) (sym (one_longer ns n))

steps : {sh : Shape} {t : Token} {to : Shape} (v : Stands sh t to) (st : State sh) (k : Rest to) → Step v st k
steps heads T k = record { weight = 0; listed = refl; made = omega arith }
steps becomes H k =
    record { weight = 0; listed = ap (λ l. 0 ∷ (l ++ completes k.1.1)) (ap (completes_branches k.0) (sym (add-zero (own_branches k.0))) ∙ level_start k.0 0); made = omega arith }
steps (names {s} {bs}) W k =
    record { weight = 1; listed = leaf bs (named s) W.level.items _ k.0 _ _ refl; made = simp length-append (omega arith) }
steps (spells {k = c} {s = s} {bs = bs}) W k =
    record { weight = 1; listed = leaf bs (literal c s) W.level.items _ k.0 _ _ refl; made = simp length-append (omega arith) }
steps (parts {s} {bs}) W k =
    let M : Made = end_sequence W.level.items W.tables in
    let e : ℕ = length W.level.ended in
    let i : ℕ = length W.level.items in
    let K : List ℕ = completes_tail bs W.outer k.1 in
    record {
      weight = sequence_node i;
      listed =
          ap (λ l. sequence_node i ∷ (l ++ K)) (from_start k.0 (branches_from (suc e) k.0 + mark bs))
          ∙ ap (λ n. sequence_node i ∷ (completes_level k.0 n 0 (mark bs) ++ K)) (sym (one_longer W.level.ended M.at));
      made = made_sequence W.level.items W.tables;
    }
steps (opens {b} {s} {bs}) W k =
    let e : ℕ = length W.level.ended in
    let i : ℕ = length W.level.items in
    let K : List ℕ = completes_tail bs W.outer k.1.2 in
    let r : List ℕ = completes_level k.1.1 e (suc i) (mark bs) in
    record {
      weight = 0;
      listed =
          ap (λ l. l ++ K) (level_before (group b s k.0 k.1.0) k.1.1 e i (mark bs))
          ∙ ap (λ l. 0 ∷ ((l ++ r) ++ K)) (level_start k.0 (own_group b))
          ∙ ap (λ l. 0 ∷ l) (append_assoc (completes_level k.0 0 0 (own_group b)) r K);
      made = omega arith;
    }
steps (closes {b} {s} {bs}) W k =
    let L : Made = end_level W.level W.tables in
    let M : Made = end_group b L in
    let p : length L.tables.nodes ≡ length W.tables.nodes + (sequence_node (length W.level.items) + branches_node (suc (length W.level.ended))) = made_level W.level W.tables in
    let q : length M.tables.nodes ≡ length L.tables.nodes + own_group b = made_group b L in
    record {
      weight = sequence_node (length W.level.items) + (branches_node (suc (length W.level.ended)) + own_group b);
      listed =
          ap (λ n. (sequence_node (length W.level.items) + (branches_node (suc (length W.level.ended)) + own_group b)) ∷ (completes_level k.0 (length W.outer.0.ended) n (mark bs) ++ completes_tail bs W.outer.1 k.1))
          (sym (one_longer W.outer.0.items M.at));
      made = omega arith;
    }
steps stops W k =
    record {
      weight = sequence_node (length W.level.items) + (branches_node (suc (length W.level.ended)) + 0);
      listed = refl;
      made = omega (arith, made_level W.level W.tables);
    }

-- along the tokens
along : (ts : List Token) (sh : Shape) (st : State sh) (k : Rest sh) (after : List Token) → spell_rest sh k ≡ ts ++ after
    → nodes_from sh st ts ≡ length (tables_of sh st).nodes + sum (take (length ts) (completes_rest sh st k))
along [] sh st k after h = omega arith
along (t ∷ ts) sh st k after h =
    let s : Stood sh t = next_stands sh k t (ts ++ after) h in
    let p : Peeled s.1 k (ts ++ after) = peel s.1 k (ts ++ after) h in
    let q : Step s.1 st p.rest = steps s.1 st p.rest in
    let l : List ℕ = take (length ts) (completes_rest s.0 (go s.1 st) p.rest) in
    let a : nodes_from sh st (t ∷ ts) ≡ nodes_from s.0 (go s.1 st) ts = nodes_on s.1 st ts in
    let b : nodes_from s.0 (go s.1 st) ts ≡ length (tables_of s.0 (go s.1 st)).nodes + sum l = along ts s.0 (go s.1 st) p.rest after p.spelled in
    let c : completes_rest sh st k ≡ q.weight ∷ completes_rest s.0 (go s.1 st) p.rest = ap (completes_rest sh st) (sym p.built) ∙ q.listed in
    let d : sum (take (suc (length ts)) (completes_rest sh st k)) ≡ q.weight + sum l = ap (λ xs. sum (take (suc (length ts)) xs)) c ∙ sum_by-cons (λ x. x) q.weight l in
    let f : length (tables_of s.0 (go s.1 st)).nodes ≡ length (tables_of sh st).nodes + q.weight = q.made in
    omega arith

pub nodes_completed : NodesCompleted
nodes_completed rules ts after h = along ts ready no_tables rules after h ∙ omega arith

-- one number for each token; the mark after branches is counted with them
mutual
  each_item : (x : Item) → length (completes_item x) ≡ length (spell_item x)
  each_item (named s) = refl
  each_item (literal k s) = refl
  each_item (group b s bs t) = ap suc (each_branches bs (own_branches bs + own_group b) ∙ sym (length-append (spell_branches bs) (closing b t ∷ []) ∙ omega arith))

  each_items : (xs : Sequence) → length (completes_items xs) ≡ length (spell_sequence xs)
  each_items nothing = refl
  each_items (item x xs) = let a = each_item x in let b = each_items xs in simp length-append (omega arith)

  each_branches : (b : Branches) (m : ℕ) → length (completes_branches b m) ≡ suc (length (spell_branches b))
  each_branches (last xs) m = let a = each_items xs in simp length-append (omega arith)
  each_branches (either xs s more) m = let a = each_items xs in let b = each_branches more m in simp length-append (omega arith)

pub each_completes : EachCompletes
each_completes [] = refl
each_completes (r ∷ rs) =
    let a = each_branches r.body (own_branches r.body) in
    let b = each_completes rs in
    simp length-append (omega arith)

pub all_completed : AllCompleted
all_completed rules =
    sym (nodes_completed rules (spell rules) [] (sym (append-nil (spell rules)))) ∙ rest_nodes (spell rules) ready rules no_tables refl ∙ nodes_sized rules

-- refusal 8
pub nodes_passed : NodesPassed
nodes_passed L ts e n h =
    let x = (nodes_right L ts e n h).told in
    let b : List Token = map sort x.before in
    let t : Token = sort x.token in
    let more : List SourceToken = x.begun.0 in
    let rules : List Rule = x.begun.1.0 in
    let p : (x.before ++ (x.token ∷ [])) ++ more ≡ x.before ++ (x.token ∷ more) = append_assoc x.before (x.token ∷ []) more in
    let text : TextOf (x.before ++ (x.token ∷ more)) rules = subst (λ l. TextOf l rules) p x.begun.1.1 in
    let q : spell rules ≡ b ++ (t ∷ map sort more) = text.spelled ∙ map-append sort x.before (x.token ∷ more) in
    let i : length b ≡ length x.before = length-map x.before sort in
    let j : length (b ++ (t ∷ [])) ≡ suc (length x.before) = length-append b (t ∷ []) ∙ omega arith in
    let c : nodes_made b ≡ completed rules (length x.before) = nodes_completed rules b (t ∷ map sort more) q ∙ ap (completed rules) i in
    let d : nodes_made (b ++ (t ∷ [])) ≡ completed rules (suc (length x.before)) =
    nodes_completed rules (b ++ (t ∷ [])) (map sort more) (q ∙ sym (append_assoc b (t ∷ []) (map sort more))) ∙ ap (completed rules) j in
    let f : nodes_made b ≤ L.nodes = x.fine_before.nodes_fit in
    let g : L.nodes < nodes_made (b ++ (t ∷ [])) = x.fact.0 in
    record { before = x.before; token = x.token; after = x.after; parted = x.parted; more = more; rules = rules; text = text; within = omega arith; past = omega arith }

-- a -> b [ c ] | ;
shown : (s : Spot) → completes (record { head = s; becomes = s; body = either (item (named s) (item (group square s (last (item (named s) nothing)) s) nothing)) s (last nothing); stop = s } ∷ []) ≡ 0 ∷ 0 ∷ 1 ∷ 0 ∷ 1 ∷ 1 ∷ 1 ∷ 2 ∷ []
shown s = refl
