-- Branches that end at a mark.
use Rattle.std.proofs.Common.{◌≡◌, ℕ, ◌≤◌, List, [], ◌∷◌, ◌++◌, length, take, drop, IsErrAnd, Some, None, Ok, Err, Option, Result, sym, subst, arith, MatchResult}
use Rattle.notation.specs.Tables.{link}
use Rattle.notation.proofs.Grows.{length_link, length_add}
use Rattle.tables.specs.Nodes.{Made, over_row}
use Rattle.tables.specs.declared.full.Full.{Full}
use Rattle.tree.specs.declared.class.Class.{Class}
use Rattle.tree.specs.declared.class.Class.TheVariants as class_is
use Rattle.tree.specs.declared.node.Node.{Node}
use Rattle.grammar.specs.Forest.{nodes_of, roots_of, over_group, over_branches, grouped, BranchFull, Unfinished}
use Rattle.grammar.specs.Trees.{Forest}
use Rattle.grammar.specs.declared.opened.Opened.{Opened}
use Rattle.grammar.specs.declared.piece.Bracket.{Bracket}
use Rattle.grammar.specs.declared.piece.Bracket.TheVariants as bracket_is

-- a refusal that was handed on as it is
pub passed_on : {T E : Type 0} (r : Result T E) (x : E) (P : T → Type 0) (Q : E → Type 0) → IsErrAnd r (λ y. y ≡ x) → Q x → MatchResult r P Q
passed_on (Ok v) x P Q h q = absurd h
passed_on (Err y) x P Q h q = subst Q (sym h) q

-- nodes over others are more
row_grows : (c : Class) (row : List ℕ) (ns : List Node) → length ns ≤ length (over_row c row ns).nodes
row_grows c [] ns = omega (arith, length_add class_is.Empty 0 1024 ns)
row_grows c (n ∷ []) ns = omega arith
row_grows c (n ∷ m ∷ rest) ns = omega (arith, length_link (n ∷ m ∷ rest) ns, length_add c 0 n (link (n ∷ m ∷ rest) ns))

group_grows : (c : Option Bracket) (M : Made) → length M.nodes ≤ length (over_group c M).nodes
group_grows None M = omega arith
group_grows (Some bracket_is.Round) M = omega arith
group_grows (Some bracket_is.Square) M = omega (arith, length_add class_is.Optional 0 M.at M.nodes)
group_grows (Some bracket_is.Curly) M = omega (arith, length_add class_is.Repetition 0 M.at M.nodes)

module _ (o : Opened) (before : Forest) where
  -- the last branch, and all of them
  abbrev last : Made
  last = over_row class_is.Chain (drop o.begin (roots_of before)) (nodes_of before)

  abbrev branches : Made
  branches = over_branches (drop o.from (take o.begin (roots_of before))) (drop o.begin (roots_of before)) (nodes_of before)

  branches_grow : length (over_row class_is.Chain (drop o.begin (roots_of before)) (nodes_of before)).nodes ≤ length (grouped o before).nodes
  branches_grow =
      let a = row_grows class_is.Alternative (drop o.from (take o.begin (roots_of before)) ++ last.at ∷ []) last.nodes in
      let b = group_grows o.closing branches in
      omega arith

  pub chain_over : (after : Forest) (e : Full) → BranchFull o.begin before after e → Unfinished o before after e
  chain_over after e h = record { full = omega (arith, branches_grow, h.full); told = h.told; place = h.place }
