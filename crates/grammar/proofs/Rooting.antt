-- Trees that grow from their roots.
use Rattle.std.proofs.Common.{◌≡◌, ℕ, zero, suc, ◌+◌, ◌-◌, ◌<◌, ◌≤◌, List, [], ◌∷◌, length, take, drop, replicate, sym, ap, ◌∙◌, subst, arith, length-drop, length-take, Ok, Err, Result, MatchResult}
use Rattle.std.proofs.lemmas.List.{drop-drop, drop-replicate}
use Rattle.notation.specs.Statements.{Each}
use Rattle.notation.specs.Tables.{link}
use Rattle.notation.proofs.Grows.{length_link, length_add}
use Rattle.tables.specs.Filling.{entries, room, RestKept, IsFull}
use Rattle.tables.specs.Nodes.{Nodes, zero_node, NodeMade, RowEnded, RowRefused}
use Rattle.tables.specs.declared.filling.Filling.{Filling}
use Rattle.tables.specs.declared.full.Full.{Full}
use Rattle.tree.specs.declared.class.Class.{Class}
use Rattle.tree.specs.declared.class.Class.TheVariants.{Empty}
use Rattle.grammar.proofs.Soundness.{Healthy}
use Rattle.grammar.specs.Forest.{MadeOne, MadeNone, nodes_of, roots_of, Place, place, Clean, Reduced}
use Rattle.grammar.specs.Trees.{Forest}

pub each_take : {X : Type 0} (P : X → Type 0) (n : ℕ) (xs : List X) → Each P xs → Each P (take n xs)
each_take P zero xs h = tt
each_take P (suc n) [] h = tt
each_take P (suc n) (x ∷ xs) h = (h.0, each_take P n xs h.1)

pub each_drop : {X : Type 0} (P : X → Type 0) (n : ℕ) (xs : List X) → Each P xs → Each P (drop n xs)
each_drop P zero xs h = h
each_drop P (suc n) [] h = tt
each_drop P (suc n) (x ∷ xs) h = each_drop P n xs h.1

abbrev Small : List ℕ → Type 0
Small ns = Each (λ n. n < 1024) ns

-- unused places stay as they were
pub still_clean : {E : Type 0} {L : ℕ} (before after : Filling E L) (blank : E) → RestKept before after → Clean before blank → Clean after blank
still_clean before after blank kept clean =
    let k = after.count - before.count in
    let left = length before.table.now - before.count in
    let over : after.count ≡ before.count + k = omega (arith, kept.grows) in
    let fewer : left - k ≡ length after.table.now - after.count = omega (arith, kept.grows, kept.long) in
    kept.rest ∙ ap (λ n. drop n before.table.now) over ∙ sym (drop-drop k before.count before.table.now) ∙ ap (drop k) clean ∙ drop-replicate k left blank ∙ ap (λ n. replicate n blank) fewer

pub same_place : (m n a b : ℕ) → m ≡ n → a ≡ b → ◌≡◌ {A = Place} (record { long = m; whose = a }) (record { long = n; whose = b })
same_place m n a b e f = ap (λ x. record { long = x; whose = a }) e ∙ ap (λ x. record { long = n; whose = x }) f

pub kept_place : {E : Type 0} {L : ℕ} (before after : Filling E L) → RestKept before after → after.table.ghost_name ≡ before.table.ghost_name → place after ≡ place before
kept_place before after k loan = same_place (length after.table.now) (length before.table.now) after.table.ghost_name before.table.ghost_name k.long loan

pub made_one : (c : Class) (v f : ℕ) (before after : Forest) (n : ℕ) → Healthy before → roots_of after ≡ roots_of before → NodeMade c v f before.nodes after.nodes n → after.nodes.table.ghost_name ≡ before.nodes.table.ghost_name → MadeOne c v f before after n
made_one c v f before after n well same m loan =
    let grown = ap length m.nodes ∙ length_add c v f (nodes_of before) in
    let long = m.kept.long in
    let fits = m.fits in
    record {
      number = m.number;
      nodes = m.nodes;
      same_roots = same;
      room = omega arith;
      place = kept_place before.nodes after.nodes m.kept loan;
    }

pub made_none : (before after : Forest) (e : Full) → IsFull before.nodes after.nodes e → MadeNone before after e
made_none before after e m = record { full = m.full; told = m.told; place = ap place m.same }

-- nodes are no fewer after a call, whether it is refused or not
module _ (c : Class) (v f : ℕ) (before after : Nodes) where
  pub made_grows : (r : Result ℕ Full) → MatchResult r (NodeMade c v f before after) (IsFull before after) → length (entries before) ≤ length (entries after)
  made_grows (Ok n) m = omega (arith, ap length m.nodes, length_add c v f (entries before))
  made_grows (Err e) m = let same : length (entries after) ≡ length (entries before) = ap (λ (t : Nodes). length (entries t)) m.same in omega arith

  pub made_clean : (r : Result ℕ Full) → MatchResult r (NodeMade c v f before after) (IsFull before after) → Clean before zero_node → Clean after zero_node
  made_clean (Ok n) m clean = still_clean before after zero_node m.kept clean
  made_clean (Err e) m clean = subst (λ (t : Nodes). Clean t zero_node) (sym m.same) clean

pub refused_grows : (c : Class) (row : List ℕ) (before after : Nodes) (e : Full) → RowRefused c row before after e → length (entries before) ≤ length (entries after)
refused_grows c row before after e m = omega (arith, ap length m.nodes, length_link row (entries before))

-- there is room for a node over the row, which is more than those that wait before it
record Fitting (from : ℕ) (before after : Nodes) (n : ℕ) : Type 0 where
  pub fits : length (entries after) ≤ room before
  pub own : from < length (entries after)
  pub small : n < 1024

fitting : (c : Class) (from : ℕ) (row : List ℕ) (before after : Nodes) (n : ℕ) → from + length row ≤ length (entries before) → length (entries before) ≤ room before → Small row → RowEnded c row before after n → Fitting from before after n
fitting c from [] before after n few fit small m =
    let fits = m.fits (λ e. absurd (omega arith)) in
    let number = m.number in
    let grown = ap length m.nodes ∙ length_add Empty 0 1024 (entries before) in
    record { fits = fits; own = omega arith; small = omega arith }
fitting c from (x ∷ []) before after n few fit small m =
    let same = ap length m.nodes in
    let number = m.number in
    let below = small.0 in
    record { fits = omega arith; own = omega arith; small = omega arith }
fitting c from (x ∷ y ∷ rest) before after n few fit small m =
    let fits = m.fits (λ e. absurd (omega arith)) in
    let number = m.number in
    let linked = length_link (x ∷ y ∷ rest) (entries before) in
    let grown = ap length m.nodes ∙ length_add c 0 x (link (x ∷ y ∷ rest) (entries before)) in
    record { fits = fits; own = omega arith; small = omega arith }

pub fewer_small : (from : ℕ) (before after : List ℕ) → after ≡ take from before → Small before → Small after
fewer_small from before after fewer small = subst Small (sym fewer) (each_take (λ k. k < 1024) from before small)

-- the row as it is lent
pub reduced : (c : Class) (from : ℕ) (row : List ℕ) (before after : Forest) (n : ℕ) → Healthy before → from ≤ length (roots_of before) → row ≡ drop from (roots_of before) → roots_of after ≡ take from (roots_of before) → RowEnded c row before.nodes after.nodes n → after.nodes.table.ghost_name ≡ before.nodes.table.ghost_name → Reduced c from before after n
reduced c from row before after n well within is fewer ended loan =
    let rest = drop from (roots_of before) in
    let m : RowEnded c rest before.nodes after.nodes n = subst (λ r. RowEnded c r before.nodes after.nodes n) is ended in
    let few = well.few in
    let left = length-drop from (roots_of before) in
    let kept = ap length fewer ∙ length-take from (roots_of before) in
    let f = fitting c from rest before.nodes after.nodes n (omega arith) well.fit (each_drop (λ k. k < 1024) from (roots_of before) well.small) m in
    let fits = f.fits in
    let own = f.own in
    let long = m.kept.long in
    record {
      number = m.number;
      nodes = m.nodes;
      fewer = fewer;
      fits = fits;
      own = omega arith;
      small = f.small;
      place = kept_place before.nodes after.nodes m.kept loan;
    }
