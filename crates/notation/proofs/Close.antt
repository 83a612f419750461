-- One more node over the last trees.
use Rattle.std.proofs.Common.{◌≡◌, ℕ, ◌+◌, ◌<◌, ◌≤◌, ◌⊎◌, List, [], ◌∷◌, ◌++◌, length, sym, refl, ap, ◌∙◌, subst, inl, inr, append_assoc, append-nil, arith}
use lib.Seq.{get_or-append_seam}
use Rattle.std.proofs.lemmas.List.{get_or_append_left}
use Rattle.notation.specs.Tokens.{Bracket, round, square, curly}
use Rattle.tree.specs.Tree.{no_node, node}
use Rattle.notation.specs.Tables.{Tables, add, link}
use Rattle.notation.specs.Numbering.{Made, Level, end_sequence, end_branches, end_level, end_group}
use Rattle.notation.specs.Statements.{Each}
use Rattle.notation.specs.Shaped.{In, Linked, Arity}
use Rattle.tree.specs.declared.class.Class.{Class}
use Rattle.tree.specs.declared.class.Class.TheVariants.{Empty, Chain, Alternative, Optional, Repetition}
use Rattle.tree.specs.declared.node.Node.{Node}
use Rattle.notation.proofs.Grows.{length_link, length_add}
use Rattle.notation.proofs.Forest.{Over, Tree, tree, Forest, no_trees, plant, forest_le, forest_in, Split, split, side_by_side, Skeleton, frame_forest, frame_roots, linked_frame, forest_rising, link_skeleton, link_other, link_linked}

pub in_append : (c : ℕ) (a b : List ℕ) → In c (a ++ b) → In c a ⊎ In c b
in_append c [] b i = inr i
in_append c (x ∷ a) b (inl e) = inl (inl e)
in_append c (x ∷ a) b (inr i) = elim (in_append c a b i) [ inl y ↦ inl (inr y) | inr y ↦ inr y ]

pub in_left : (c : ℕ) (a b : List ℕ) → In c a → In c (a ++ b)
in_left c [] b i = elim i [ ]
in_left c (x ∷ a) b (inl e) = inl e
in_left c (x ∷ a) b (inr i) = inr (in_left c a b i)

pub in_right : (c : ℕ) (a b : List ℕ) → In c b → In c (a ++ b)
in_right c [] b i = i
in_right c (x ∷ a) b i = inr (in_right c a b i)

pub each_of : (P : ℕ → Type 0) (cs : List ℕ) → ((c : ℕ) → In c cs → P c) → Each P cs
each_of P [] h = tt
each_of P (c ∷ cs) h = (h c (inl refl), each_of P cs (λ d i. h d (inr i)))

-- all nodes are trees with these roots, which have no siblings
pub record Good (ns : List Node) (l : List ℕ) : Type 0 where
  pub forest : Forest ns 0 (length ns) l
  pub free : (c : ℕ) → In c l → (node ns c).next ≡ 1024

pub close : (k : Class) (v f : ℕ) (pre cs : List ℕ) (ns : List Node) → Over (record { class = k; value = v; first = f; next = 1024 }) cs → Good ns (pre ++ cs)
    → Good (add k v f (link cs ns)) (pre ++ (length (link cs ns) ∷ []))
close k v f pre cs ns o g =
    let n : ℕ = length ns in
    let M : List Node = link cs ns in
    let R : List Node = add k v f M in
    let x : Node = record { class = k; value = v; first = f; next = 1024 } in
    let e : length M ≡ n = length_link cs ns in
    let s : Split ns 0 n pre cs = split pre cs 0 n g.forest in
    let b : length cs + s.mid ≤ n = forest_le s.right in
    let old : (i : ℕ) → i < n → node R i ≡ node M i = λ i h. get_or_append_left M (x ∷ []) no_node i (omega arith) in
    let within : Each (λ c. c < n) cs = each_of (λ c. c < n) cs (λ c i. (forest_in s.right c i).1) in
    let frees : Each (λ c. (node ns c).next ≡ 1024) cs = each_of (λ c. (node ns c).next ≡ 1024) cs (λ c i. g.free c (in_right c pre cs i)) in
    let low : (i : ℕ) → i < s.mid → node R i ≡ node ns i =
    λ i h. old i (omega arith) ∙ link_other cs ns i (λ y. let q = (forest_in s.right i y).0 in omega arith) in
    let new : node R (length M) ≡ x = get_or-append_seam M x [] no_node in
    let lefts : Forest R 0 s.mid pre = frame_forest s.left R (λ i p q. low i q) in
    let rights : Forest R s.mid n cs =
    frame_roots s.right R (λ i p q d. old i q ∙ link_other cs ns i d)
    (λ i q. subst (λ y. Skeleton y (node ns i)) (sym (old i q)) (link_skeleton cs ns i within)) in
    let links : Linked R cs =
    linked_frame M R cs (λ c i. ap (λ y. y.next) (old c (forest_in s.right c i).1)) (link_linked cs ns (forest_rising s.right) within frees) in
    let root : Tree R s.mid (length M) = tree (subst (λ h. Forest R s.mid h cs) (sym e) rights) (subst (λ y. Over y cs) (sym new) o) links in
    record {
      forest = subst (λ h. Forest R 0 h (pre ++ (length M ∷ []))) (sym (length_add k v f M)) (side_by_side lefts (plant root no_trees));
      free = λ c i. elim (in_append c pre (length M ∷ []) i) [
        | inl y ↦ ap (λ z. z.next) (low c (forest_in s.left c y).1) ∙ g.free c (in_left c pre cs y)
        | inr y ↦ elim y [ inl q ↦ subst (λ j. (node R j).next ≡ 1024) q (ap (λ z. z.next) new) | inr q ↦ elim q [ ] ]
      ];
    }

pub good_leaf : (k : Class) (v : ℕ) (pre : List ℕ) (ns : List Node) → Arity k 0 → Good ns pre → Good (add k v 1024 ns) (pre ++ (length ns ∷ []))
good_leaf k v pre ns a g = close k v 1024 pre [] ns (record { first_is = refl; counted = a }) (subst (Good ns) (sym (append-nil pre)) g)

pub good_sequence : (pre items : List ℕ) (T : Tables) → Good T.nodes (pre ++ items) → Good (end_sequence items T).tables.nodes (pre ++ ((end_sequence items T).at ∷ []))
good_sequence pre [] T g = good_leaf Empty 0 pre T.nodes refl (subst (Good T.nodes) (append-nil pre) g)
good_sequence pre (n ∷ []) T g = g
good_sequence pre (n ∷ m ∷ rest) T g = close Chain 0 n pre (n ∷ m ∷ rest) T.nodes (record { first_is = refl; counted = omega arith }) g

-- branches are one at least
pub good_branches : (pre ended : List ℕ) (x : ℕ) (T : Tables) → Good T.nodes (pre ++ (ended ++ (x ∷ []))) → Good (end_branches (ended ++ (x ∷ [])) T).tables.nodes (pre ++ ((end_branches (ended ++ (x ∷ [])) T).at ∷ []))
good_branches pre [] x T g = g
good_branches pre (n ∷ []) x T g = close Alternative 0 n pre (n ∷ x ∷ []) T.nodes (record { first_is = refl; counted = omega arith }) g
good_branches pre (n ∷ m ∷ rest) x T g = close Alternative 0 n pre (n ∷ m ∷ (rest ++ (x ∷ []))) T.nodes (record { first_is = refl; counted = omega arith }) g

pub good_level : (pre : List ℕ) (l : Level) (T : Tables) → Good T.nodes (pre ++ (l.ended ++ l.items)) → Good (end_level l T).tables.nodes (pre ++ ((end_level l T).at ∷ []))
good_level pre l T g =
    let M : Made = end_sequence l.items T in
    let a : Good M.tables.nodes ((pre ++ l.ended) ++ (M.at ∷ [])) = good_sequence (pre ++ l.ended) l.items T (subst (Good T.nodes) (sym (append_assoc pre l.ended l.items)) g) in
    good_branches pre l.ended M.at M.tables (subst (Good M.tables.nodes) (append_assoc pre l.ended (M.at ∷ [])) a)

pub good_group : (b : Bracket) (pre : List ℕ) (M : Made) → Good M.tables.nodes (pre ++ (M.at ∷ [])) → Good (end_group b M).tables.nodes (pre ++ ((end_group b M).at ∷ []))
good_group round pre M g = g
good_group square pre M g = close Optional 0 M.at pre (M.at ∷ []) M.tables.nodes (record { first_is = refl; counted = refl }) g
good_group curly pre M g = close Repetition 0 M.at pre (M.at ∷ []) M.tables.nodes (record { first_is = refl; counted = refl }) g
