-- Nodes as trees that stand one after another, each numbered after all that is below it.
use Rattle.std.proofs.Common.{◌≡◌, ℕ, suc, ◌+◌, ◌<◌, ◌≤◌, ◌≢◌, List, [], ◌∷◌, ◌++◌, length, sym, refl, ap, ◌∙◌, subst, inl, inr, arith, get_or-set_other, get_or-set_same}
use native.Mathlib.Decide.{ℕ_discrete}
use Rattle.tree.specs.Tree.{no_node, node}
use Rattle.notation.specs.Tables.{join, link}
use Rattle.notation.specs.Statements.{Each}
use Rattle.notation.specs.Shaped.{In, Rising, first_of, Linked, Arity}
use Rattle.tree.specs.declared.node.Node.{Node}
use Rattle.notation.proofs.Grows.{length_link}

-- a node over these children
pub record Over (x : Node) (cs : List ℕ) : Type 0 where
  pub first_is : x.first ≡ first_of cs
  pub counted : Arity x.class (length cs)

mutual
  -- the nodes from lo to the root hi
  pub data Tree (ns : List Node) : ℕ → ℕ → Type 0 where
    tree : {lo hi : ℕ} {cs : List ℕ} → Forest ns lo hi cs → Over (node ns hi) cs → Linked ns cs → Tree ns lo hi

  -- the nodes from lo up to hi, with these roots
  pub data Forest (ns : List Node) : ℕ → ℕ → List ℕ → Type 0 where
    no_trees : {lo : ℕ} → Forest ns lo lo []
    plant : {lo c hi : ℕ} {cs : List ℕ} → Tree ns lo c → Forest ns (suc c) hi cs → Forest ns lo hi (c ∷ cs)

mutual
  pub tree_le : {ns : List Node} {lo hi : ℕ} → Tree ns lo hi → lo ≤ hi
  tree_le (tree f o l) = let h = forest_le f in omega arith

  pub forest_le : {ns : List Node} {lo hi : ℕ} {cs : List ℕ} → Forest ns lo hi cs → length cs + lo ≤ hi
  forest_le no_trees = omega arith
  forest_le (plant t f) = let g = tree_le t in let h = forest_le f in omega arith

pub forest_in : {ns : List Node} {lo hi : ℕ} {cs : List ℕ} → Forest ns lo hi cs → (c : ℕ) → In c cs → (lo ≤ c) × (c < hi)
forest_in no_trees c i = elim i [ ]
forest_in (plant t f) c (inl e) = let g = tree_le t in let h = forest_le f in (omega arith, omega arith)
forest_in (plant t f) c (inr i) = let g = tree_le t in let h = forest_in f c i in (omega arith, omega arith)

-- forests stand side by side
pub record Split (ns : List Node) (lo hi : ℕ) (a b : List ℕ) : Type 0 where
  pub mid : ℕ
  pub left : Forest ns lo mid a
  pub right : Forest ns mid hi b

pub split : {ns : List Node} (a b : List ℕ) (lo hi : ℕ) → Forest ns lo hi (a ++ b) → Split ns lo hi a b
split [] b lo hi f = record { mid = lo; left = no_trees; right = f }
split (c ∷ a) b lo hi (plant t f) = let s = split a b (suc c) hi f in record { mid = s.mid; left = plant t s.left; right = s.right }

pub side_by_side : {ns : List Node} {lo mid hi : ℕ} {a b : List ℕ} → Forest ns lo mid a → Forest ns mid hi b → Forest ns lo hi (a ++ b)
side_by_side no_trees g = g
side_by_side (plant t f) g = plant t (side_by_side f g)

-- what a tree needs of its nodes
pub record Skeleton (x y : Node) : Type 0 where
  pub class_is : x.class ≡ y.class
  pub value_is : x.value ≡ y.value
  pub first_is : x.first ≡ y.first

pub skeleton : (x y : Node) → x ≡ y → Skeleton x y
skeleton x y e = record { class_is = ap (λ z. z.class) e; value_is = ap (λ z. z.value) e; first_is = ap (λ z. z.first) e }

over_frame : (x y : Node) (cs : List ℕ) → Skeleton x y → Over y cs → Over x cs
over_frame x y cs s o = record { first_is = s.first_is ∙ o.first_is; counted = subst (λ c. Arity c (length cs)) (sym s.class_is) o.counted }

pub linked_frame : (ns ms : List Node) (cs : List ℕ) → ((c : ℕ) → In c cs → (node ms c).next ≡ (node ns c).next) → Linked ns cs → Linked ms cs
linked_frame ns ms [] h l = tt
linked_frame ns ms (c ∷ cs) h l = (h c (inl refl) ∙ l.0, linked_frame ns ms cs (λ d i. h d (inr i)) l.1)

mutual
  pub frame_tree : {ns : List Node} {lo hi : ℕ} → Tree ns lo hi → (ms : List Node) → ((i : ℕ) → lo ≤ i → i < hi → node ms i ≡ node ns i) → Skeleton (node ms hi) (node ns hi) → Tree ms lo hi
  frame_tree {ns} {lo} {hi} (tree {cs = cs} f o l) ms h s =
      tree (frame_forest f ms h) (over_frame (node ms hi) (node ns hi) cs s o)
      (linked_frame ns ms cs (λ c i. let b = forest_in f c i in ap (λ x. x.next) (h c b.0 b.1)) l)

  pub frame_forest : {ns : List Node} {lo hi : ℕ} {cs : List ℕ} → Forest ns lo hi cs → (ms : List Node) → ((i : ℕ) → lo ≤ i → i < hi → node ms i ≡ node ns i) → Forest ms lo hi cs
  frame_forest no_trees ms h = no_trees
  frame_forest {ns} (plant {c = c} t f) ms h =
      let a = tree_le t in
      let b = forest_le f in
      plant (frame_tree t ms (λ i p q. h i p (omega arith)) (skeleton (node ms c) (node ns c) (h c a (omega arith)))) (frame_forest f ms (λ i p q. h i (omega arith) q))

-- roots may have other siblings
pub frame_roots : {ns : List Node} {lo hi : ℕ} {cs : List ℕ} → Forest ns lo hi cs → (ms : List Node) → ((i : ℕ) → lo ≤ i → i < hi → (In i cs → ⊥) → node ms i ≡ node ns i)
    → ((i : ℕ) → i < hi → Skeleton (node ms i) (node ns i)) → Forest ms lo hi cs
frame_roots no_trees ms h s = no_trees
frame_roots {ns} {lo} {hi} (plant {c = c} {cs = cs} t f) ms h s =
    let a = tree_le t in
    let b = forest_le f in
    plant
    (frame_tree t ms (λ i p q. h i p (omega arith) (λ x. elim x [ inl e ↦ omega arith | inr y ↦ let g = forest_in f i y in omega arith ])) (s c (omega arith)))
    (frame_roots f ms (λ i p q n. h i (omega arith) q (λ x. elim x [ inl e ↦ omega arith | inr y ↦ n y ])) s)

pub forest_rising : {ns : List Node} {lo hi : ℕ} {cs : List ℕ} → Forest ns lo hi cs → Rising cs
forest_rising no_trees = tt
forest_rising (plant t no_trees) = tt
forest_rising (plant t (plant u f)) = let a = tree_le u in (omega arith, forest_rising (plant u f))

-- what joining changes
pub join_same : (n m : ℕ) (ns : List Node) → n < length ns → (node (join n m ns) n).next ≡ m
join_same n m ns h = ap (λ x. x.next) (get_or-set_same ns n _ no_node h)

pub join_other : (n m : ℕ) (ns : List Node) (i : ℕ) → i ≢ n → node (join n m ns) i ≡ node ns i
join_other n m ns i h = get_or-set_other ns n i _ no_node h

pub join_skeleton : (n m : ℕ) (ns : List Node) (i : ℕ) → n < length ns → Skeleton (node (join n m ns) i) (node ns i)
join_skeleton n m ns i h = go (ℕ_discrete i n)
  where
    go : Dec (i ≡ n) → Skeleton (node (join n m ns) i) (node ns i)
    go (yes e) =
        let k = get_or-set_same ns n (record { class = (node ns n).class; value = (node ns n).value; first = (node ns n).first; next = m }) no_node h in
        subst (λ j. Skeleton (node (join n m ns) j) (node ns j)) (sym e)
        (record { class_is = ap (λ x. x.class) k; value_is = ap (λ x. x.value) k; first_is = ap (λ x. x.first) k })
    go (no d) = skeleton (node (join n m ns) i) (node ns i) (join_other n m ns i d)

skeleton_trans : {x y z : Node} → Skeleton x y → Skeleton y z → Skeleton x z
skeleton_trans a b = record { class_is = a.class_is ∙ b.class_is; value_is = a.value_is ∙ b.value_is; first_is = a.first_is ∙ b.first_is }

pub link_skeleton : (cs : List ℕ) (ns : List Node) (i : ℕ) → Each (λ c. c < length ns) cs → Skeleton (node (link cs ns) i) (node ns i)
link_skeleton [] ns i e = skeleton (node ns i) (node ns i) refl
link_skeleton (c ∷ []) ns i e = skeleton (node ns i) (node ns i) refl
link_skeleton (c ∷ d ∷ cs) ns i e =
    skeleton_trans (join_skeleton c d (link (d ∷ cs) ns) i (rw (length_link (d ∷ cs) ns) e.0)) (link_skeleton (d ∷ cs) ns i e.1)

pub link_other : (cs : List ℕ) (ns : List Node) (i : ℕ) → (In i cs → ⊥) → node (link cs ns) i ≡ node ns i
link_other [] ns i n = refl
link_other (c ∷ []) ns i n = refl
link_other (c ∷ d ∷ cs) ns i n = join_other c d (link (d ∷ cs) ns) i (λ e. n (inl (sym e))) ∙ link_other (d ∷ cs) ns i (λ x. n (inr x))

-- the first of rising numbers is not among the others
pub rising_apart : (c : ℕ) (cs : List ℕ) → Rising (c ∷ cs) → (d : ℕ) → In d cs → c < d
rising_apart c [] r d i = elim i [ ]
rising_apart c (x ∷ cs) r d (inl e) = let h = r.0 in omega arith
rising_apart c (x ∷ cs) r d (inr i) = let h = r.0 in let g = rising_apart x cs r.1 d i in omega arith

pub link_linked : (cs : List ℕ) (ns : List Node) → Rising cs → Each (λ c. c < length ns) cs → Each (λ c. (node ns c).next ≡ 1024) cs → Linked (link cs ns) cs
link_linked [] ns r e f = tt
link_linked (c ∷ []) ns r e f = (f.0, tt)
link_linked (c ∷ d ∷ cs) ns r e f =
    let m = link (d ∷ cs) ns in
    let h : c < length m = rw (length_link (d ∷ cs) ns) e.0 in (
      join_same c d m h,
      linked_frame m (join c d m) (d ∷ cs) (λ x i. ap (λ y. y.next) (join_other c d m x (λ q. let g = rising_apart c (d ∷ cs) r x i in omega arith))) (link_linked (d ∷ cs) ns r.1 e.1 f.1),
    )
