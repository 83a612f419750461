-- The tables that reading gives are well formed.
use Rattle.std.proofs.Common.{◌≡◌, ℕ, zero, suc, ◌<◌, ◌≤◌, ◌≢◌, ◌⊎◌, List, [], ◌∷◌, ◌++◌, map, length, sym, refl, ap, ◌∙◌, subst, inl, inr, append-nil, arith, le-ltb, lt-ltb}
use mathlib.Core.Option.{Option, none, some}
use native.Mathlib.Decide.{ℕ_discrete, dec_lt}
use Rattle.notation.specs.Tokens.{Token as Tok, Ending, end, fault, sort}
use Rattle.tree.specs.Tree.{node, siblings, children}
use Rattle.notation.specs.Tables.{Entry, Tables, no_tables}
use Rattle.notation.specs.Standing.{Shape, ready, heading, inside, Stood, stand?}
use Rattle.notation.specs.Reading.{State, go, Limits, refusal, read, ruleless, at_end, finish, step, run}
use Rattle.notation.specs.Statements.{Each}
use Rattle.notation.specs.Shaped.{In, Rising, first_of, Linked, Arity, root_at, NodeRight, IsWellFormed, TablesWellFormed}
use Rattle.tree.specs.declared.node.Node.{Node}
use Rattle.notation.proofs.Sound.{read≢refused, ruleless_read, or_on_read}
use Rattle.notation.proofs.Way.{Way, here, on}
use Rattle.notation.proofs.FineWay.{Fits, way_fits, start_fits}
use Rattle.notation.proofs.Forest.{Over, Tree, tree, Forest, no_trees, plant, tree_le, forest_le, forest_in, forest_rising, Split, split}
use Rattle.notation.proofs.Close.{each_of}
use Rattle.notation.proofs.Kept.{Vals, Sound, Kept, kept_way, kept_start}

-- tables come by a way over all tokens
pub record Passed (L : Limits) (sh : Shape) (st : State sh) (ts : List Tok) (e : Ending) (X : Tables) : Type 0 where
  pub way : Way L sh st ts ready X
  pub ended : (p : ℕ) × (e ≡ end p)
  pub ruled : ruleless X.names ≡ none
  pub named : X.names ≢ []

at_end_passed : (T : Tables) (es : List Entry) (p : ℕ) (X : Tables) → at_end T es p ≡ read X → (T ≡ X) × (ruleless es ≡ none) × (es ≢ [])
at_end_passed T [] p X h = absurd (read≢refused h)
at_end_passed T (e ∷ es) p X h = let r = ruleless_read (ruleless (e ∷ es)) T X h in (r.0, r.1, λ q. (let z : ◌≡◌ {A = ℕ} 0 1 = cc in omega arith))

passed_finish : (L : Limits) (sh : Shape) (st : State sh) (e : Ending) (X : Tables) → finish sh st e ≡ read X → Passed L sh st [] e X
passed_finish L ready T (end p) X h =
    let r = at_end_passed T T.names p X h in
    record {
      way = subst (λ Y. Way L ready T [] ready Y) r.0 here;
      ended = (p, refl);
      ruled = subst (λ Y. ruleless Y.names ≡ none) r.0 r.1;
      named = subst (λ Y. Y.names ≢ []) r.0 r.2;
    }
passed_finish L heading H (end p) X h = absurd (read≢refused h)
passed_finish L (inside bs) W (end p) X h = absurd (read≢refused h)
passed_finish L ready T (fault p c) X h = absurd (read≢refused h)
passed_finish L heading H (fault p c) X h = absurd (read≢refused h)
passed_finish L (inside bs) W (fault p c) X h = absurd (read≢refused h)

passed_step : (L : Limits) (sh : Shape) (t : Tok) (d : Dec (Stood sh t)) (st : State sh) (ts : List Tok) (e : Ending) (X : Tables)
    → ((to : Shape) (st' : State to) → run L to st' ts e ≡ read X → Passed L to st' ts e X)
    → step L d st (λ to st'. run L to st' ts e) ≡ read X → Passed L sh st (t ∷ ts) e X
passed_step L sh t (no x) st ts e X ih h = absurd (read≢refused h)
passed_step L sh t (yes (to, v)) st ts e X ih h =
    let g = or_on_read (refusal L v st) (run L to (go v st) ts e) X h in
    let p = ih to (go v st) g.1 in
    record { way = on v g.0 p.way; ended = p.ended; ruled = p.ruled; named = p.named }

pub passed : (L : Limits) (sh : Shape) (st : State sh) (ts : List Tok) (e : Ending) (X : Tables) → run L sh st ts e ≡ read X → Passed L sh st ts e X
passed L sh st [] e X h = passed_finish L sh st e X h
passed L sh st (t ∷ ts) e X h = passed_step L sh t (stand? sh t) st ts e X (λ to st' g. passed L to st' ts e X g) h

-- the children of a tree's root
siblings_in : (ns : List Node) (f i : ℕ) → i < length ns → siblings ns (suc f) i ≡ i ∷ siblings ns f (node ns i).next
siblings_in ns f i h = rw (lt-ltb i (length ns) h, siblings)

siblings_out : (ns : List Node) (f i : ℕ) → length ns ≤ i → siblings ns f i ≡ []
siblings_out ns zero i h = refl
siblings_out ns (suc f) i h = rw (le-ltb i (length ns) h, siblings)

siblings_linked : (ns : List Node) (f : ℕ) (cs : List ℕ) → length ns ≤ 1024 → Linked ns cs → Each (λ c. c < length ns) cs → length cs ≤ f → siblings ns f (first_of cs) ≡ cs
siblings_linked ns f [] m l e h = siblings_out ns f 1024 m
siblings_linked ns zero (c ∷ cs) m l e h = absurd (omega arith)
siblings_linked ns (suc f) (c ∷ cs) m l e h =
    siblings_in ns f c e.0 ∙ ap (λ xs. c ∷ xs) (ap (siblings ns f) l.0 ∙ siblings_linked ns f cs m l.1 e.1 (omega arith))

-- a tree's root, with its children
pub record RootOf (ns : List Node) (lo hi : ℕ) : Type 0 where
  pub cs : List ℕ
  pub inner : Forest ns lo hi cs
  pub over : Over (node ns hi) cs
  pub linked : Linked ns cs
  pub are : children ns hi ≡ cs

module _ (ns : List Node) (small : length ns ≤ 1024) where
  children_are : {lo hi : ℕ} {cs : List ℕ} → Forest ns lo hi cs → Over (node ns hi) cs → Linked ns cs → hi < length ns → children ns hi ≡ cs
  children_are {lo} {hi} {cs} f o l h =
      let a = forest_le f in
      ap (siblings ns (length ns)) o.first_is ∙ siblings_linked ns (length ns) cs small l (each_of (λ c. c < length ns) cs (λ c i. let b = forest_in f c i in omega arith)) (omega arith)

  root_of : {lo hi : ℕ} → Tree ns lo hi → hi < length ns → RootOf ns lo hi
  root_of {lo} {hi} (tree {cs = cs} f o l) h = record { cs = cs; inner = f; over = o; linked = l; are = children_are f o l h }

  -- the tree of each node
  mutual
    tree_at_tree : {lo hi : ℕ} → Tree ns lo hi → (i : ℕ) → lo ≤ i → i ≤ hi → (l : ℕ) × (lo ≤ l) × Tree ns l i
    tree_at_tree {lo} {hi} (tree f o l) i p q =
        elim (ℕ_discrete i hi) [
          | yes e ↦ (lo, (let z : lo ≤ lo = omega arith in z), subst (Tree ns lo) (sym e) (tree f o l))
          | no d ↦ tree_at f i p (let z : i < hi = omega arith in z)
        ]

    tree_at : {lo hi : ℕ} {cs : List ℕ} → Forest ns lo hi cs → (i : ℕ) → lo ≤ i → i < hi → (l : ℕ) × (lo ≤ l) × Tree ns l i
    tree_at no_trees i p q = absurd (omega arith)
    tree_at {lo} {hi} (plant {c = c} t f) i p q =
        elim (dec_lt c i) [
          | yes e ↦ (let r = tree_at f i e q in let z = tree_le t in (r.0, (let y = r.1 in let x : lo ≤ r.0 = omega arith in x), r.2))
          | no d ↦ tree_at_tree t i p (let z : i ≤ c = omega arith in z)
        ]

  -- children stand below, in the tree of their parent
  child_in : {lo hi : ℕ} {cs : List ℕ} → Forest ns lo hi cs → hi ≤ length ns → (p c : ℕ) → lo ≤ p → p < hi → In c (children ns p) → (lo ≤ c) × (c < p)
  child_in f h p c a b i =
      let r = tree_at f p a b in
      let s : RootOf ns r.0 p = root_of r.2 (omega arith) in
      let g = forest_in s.inner c (subst (In c) s.are i) in
      let k = r.1 in
      let g₀ = g.0 in
      let g₁ = g.1 in
      (omega arith, omega arith)

  child_in_tree : {lo hi : ℕ} → Tree ns lo hi → hi < length ns → (p c : ℕ) → lo ≤ p → p ≤ hi → In c (children ns p) → (lo ≤ c) × (c < p)
  child_in_tree {lo} {hi} t h p c a b i = child_in (plant t no_trees) h p c a (let z : p < suc hi = omega arith in z) i

  -- roots are no children
  no_child : {lo hi : ℕ} {cs : List ℕ} → Forest ns lo hi cs → hi ≤ length ns → (p c : ℕ) → lo ≤ p → p < hi → In c cs → In c (children ns p) → ⊥
  no_child no_trees h p c a b r i = r
  no_child {lo} {hi} (plant {c = d} {cs = cs} t f) h p c a b r i =
      let m = forest_le f in
      elim (dec_lt d p) [
        | yes e ↦ (let g = child_in f h p c e b i in elim r [ inl q ↦ (let g₀ = g.0 in omega arith) | inr q ↦ no_child f h p c e b q i ])
        | no e ↦ (let g = child_in_tree t (let z : d < length ns = omega arith in z) p c a (let z : p ≤ d = omega arith in z) i in
            let g₁ = g.1 in elim r [ inl q ↦ omega arith | inr q ↦ (let k = (forest_in f c q).0 in omega arith) ])
      ]

  -- a child has one parent
  mutual
    one_tree : {lo hi : ℕ} → Tree ns lo hi → hi < length ns → (p q c : ℕ) → lo ≤ p → p ≤ hi → lo ≤ q → q ≤ hi → In c (children ns p) → In c (children ns q) → p ≡ q
    one_tree {lo} {hi} (tree {cs = cs} f o l) h p q c a b a' b' i j =
        let s : RootOf ns lo hi = root_of (tree f o l) h in
        let k : children ns hi ≡ s.cs = s.are in
        elim (ℕ_discrete p hi) [
          | yes e ↦ elim (ℕ_discrete q hi) [
            | yes e' ↦ e ∙ sym e'
            | no d' ↦ absurd (no_child s.inner (let z : hi ≤ length ns = omega arith in z) q c a' (let z : q < hi = omega arith in z) (subst (In c) k (subst (λ x. In c (children ns x)) e i)) j)
          ]
          | no d ↦ elim (ℕ_discrete q hi) [
            | yes e' ↦ absurd (no_child s.inner (let z : hi ≤ length ns = omega arith in z) p c a (let z : p < hi = omega arith in z) (subst (In c) k (subst (λ x. In c (children ns x)) e' j)) i)
            | no d' ↦ one_forest f (let z : hi ≤ length ns = omega arith in z) p q c a (let z : p < hi = omega arith in z) a' (let z : q < hi = omega arith in z) i j
          ]
        ]

    one_forest : {lo hi : ℕ} {cs : List ℕ} → Forest ns lo hi cs → hi ≤ length ns → (p q c : ℕ) → lo ≤ p → p < hi → lo ≤ q → q < hi → In c (children ns p) → In c (children ns q) → p ≡ q
    one_forest no_trees h p q c a b a' b' i j = absurd (omega arith)
    one_forest {lo} {hi} (plant {c = d} t f) h p q c a b a' b' i j =
        let m = forest_le f in
        let w : d < length ns = omega arith in
        elim (dec_lt d p) [
          | yes e ↦ elim (dec_lt d q) [
            | yes e' ↦ one_forest f h p q c e b e' b' i j
            | no x' ↦ (let g = (child_in f h p c e b i).0 in let k = (child_in_tree t w q c a' (let z : q ≤ d = omega arith in z) j).1 in absurd (omega arith))
          ]
          | no x ↦ elim (dec_lt d q) [
            | yes e' ↦ (let g = (child_in f h q c e' b' j).0 in let k = (child_in_tree t w p c a (let z : p ≤ d = omega arith in z) i).1 in absurd (omega arith))
            | no x' ↦ one_tree t w p q c a (let z : p ≤ d = omega arith in z) a' (let z : q ≤ d = omega arith in z) i j
          ]
        ]

  -- a node is a root or a child
  mutual
    owner_tree : {lo hi : ℕ} → Tree ns lo hi → hi < length ns → (j : ℕ) → lo ≤ j → j < hi → (p : ℕ) × (p ≤ hi) × In j (children ns p)
    owner_tree {lo} {hi} (tree {cs = cs} f o l) h j a b =
        elim (owner_forest f (let z : hi ≤ length ns = omega arith in z) j a b) [
          | inl i ↦ (hi, (let z : hi ≤ hi = omega arith in z), subst (In j) (sym (children_are f o l h)) i)
          | inr r ↦ (r.0, (let y = r.1 in let z : r.0 ≤ hi = omega arith in z), r.2)
        ]

    owner_forest : {lo hi : ℕ} {cs : List ℕ} → Forest ns lo hi cs → hi ≤ length ns → (j : ℕ) → lo ≤ j → j < hi → In j cs ⊎ ((p : ℕ) × (p < hi) × In j (children ns p))
    owner_forest no_trees h j a b = absurd (omega arith)
    owner_forest {lo} {hi} (plant {c = d} t f) h j a b =
        let m = forest_le f in
        let w : d < length ns = omega arith in
        elim (dec_lt d j) [
          | yes e ↦ elim (owner_forest f h j e b) [ inl i ↦ inl (inr i) | inr r ↦ inr r ]
          | no x ↦ elim (ℕ_discrete d j) [
            | yes q ↦ inl (inl q)
            | no q ↦ (let r = owner_tree t w j a (let z : j < d = omega arith in z) in inr (r.0, (let y = r.1 in let z : r.0 < hi = omega arith in z), r.2))
          ]
        ]

pub node_right : (T : Tables) → length T.nodes ≤ 1024 → Vals T → {l : List ℕ} → Forest T.nodes 0 (length T.nodes) l → (i : ℕ) → i < length T.nodes → NodeRight T i
node_right T small v f i h =
    let ns : List Node = T.nodes in
    let r = tree_at ns small f i (omega arith) h in
    let s : RootOf ns r.0 i = root_of ns small r.2 h in
    record {
      below = subst (Each (λ c. c < i)) (sym s.are) (each_of (λ c. c < i) s.cs (λ c k. (forest_in s.inner c k).1));
      rising = subst Rising (sym s.are) (forest_rising s.inner);
      first_is = s.over.first_is ∙ ap first_of (sym s.are);
      linked = subst (Linked ns) (sym s.are) s.linked;
      counted = subst (λ cs. Arity (node ns i).class (length cs)) (sym s.are) s.over.counted;
      valued = v i h;
    }

ruled_at : (o : Option ℕ) (e : Entry) (es : List Entry) → e.root ≡ o → ((k : ℕ) → ruleless es ≡ none → k < length es → (r : ℕ) × (root_at es k ≡ some r))
    → (k : ℕ) → ◌≡◌ {A = Option ℕ} (elim o [ none ↦ some e.first.place | some r ↦ ruleless es ]) none → k < suc (length es) → (r : ℕ) × (root_at (e ∷ es) k ≡ some r)
ruled_at none e es g ih k h m = let z : ◌≡◌ {A = ℕ} 0 1 = cc in absurd (omega arith)
ruled_at (some r) e es g ih zero h m = (r, g)
ruled_at (some r) e es g ih (suc k) h m = ih k h (omega arith)

pub ruled_root : (es : List Entry) (k : ℕ) → ruleless es ≡ none → k < length es → (r : ℕ) × (root_at es k ≡ some r)
ruled_root [] k h m = absurd (omega arith)
ruled_root (e ∷ es) k h m = ruled_at e.root e es refl (ruled_root es) k h m

list_last : (l : List ℕ) → l ≢ [] → (front : List ℕ) × (m : ℕ) × (l ≡ front ++ (m ∷ []))
list_last [] n = absurd (n refl)
list_last (x ∷ []) n = ([], x, refl)
list_last (x ∷ y ∷ l) n = let r = list_last (y ∷ l) (λ q. (let z : ◌≡◌ {A = ℕ} 0 1 = cc in omega arith)) in (x ∷ r.0, r.1, ap (λ xs. x ∷ xs) r.2)

pub single_end : {ns : List Node} {lo hi m : ℕ} → Forest ns lo hi (m ∷ []) → hi ≡ suc m
single_end (plant t no_trees) = refl

not_nil : (r : ℕ) (l : List ℕ) → In r l → l ≢ []
not_nil r [] i e = i
not_nil r (x ∷ l) i e = let z : ◌≡◌ {A = ℕ} 0 1 = cc in omega arith

some_length : (es : List Entry) → es ≢ [] → 0 < length es
some_length [] n = absurd (n refl)
some_length (e ∷ es) n = omega arith

pub well_formed_kept : (T : Tables) → length T.nodes ≤ 1024 → Kept ready T → ruleless T.names ≡ none → T.names ≢ [] → IsWellFormed T
well_formed_kept T small k ruled named =
    let ns : List Node = T.nodes in
    let s : Sound T k.roots = subst (Sound T) (append-nil k.roots) k.sound in
    let f : Forest ns 0 (length ns) k.roots = s.good.forest in
    let whole : length ns ≤ length ns = omega arith in
    let r₀ = ruled_root T.names 0 ruled (some_length T.names named) in
    let l = list_last k.roots (not_nil r₀.0 k.roots (k.rooted.named 0 r₀.0 r₀.1)) in
    let sp : Split ns 0 (length ns) l.0 (l.1 ∷ []) = split l.0 (l.1 ∷ []) 0 (length ns) (subst (Forest ns 0 (length ns)) l.2 f) in
    let n = k.rooted.has_name l.1 (subst (In l.1) (sym l.2) (end_in l.0 l.1)) in
    record {
      fits = small;
      nodes_right = λ i h. node_right T small s.vals f i h;
      owned = λ j h. elim (owner_forest ns small f whole j (omega arith) h) [ inl i ↦ inl (k.rooted.has_name j i) | inr r ↦ inr r ];
      one_parent = λ i j c h h' p q. one_forest ns small f whole i j c (omega arith) h (omega arith) h' p q;
      no_parent = λ m r i h h' p. no_child ns small f whole i r (omega arith) h' (k.rooted.named m r h) p;
      one_name = k.rooted.one;
      rooted = λ m h. (let r = ruled_root T.names m ruled h in let i = k.rooted.named m r.0 r.1 in (r.0, r.1, (forest_in f r.0 i).1, s.good.free r.0 i));
      last_root = (n.0, l.1, n.1, single_end sp.right);
    }
  where
    end_in : (a : List ℕ) (m : ℕ) → In m (a ++ (m ∷ []))
    end_in [] m = inl refl
    end_in (x ∷ a) m = inr (end_in a m)

pub tables_well_formed : TablesWellFormed
tables_well_formed L ts e T m h =
    let p : Passed L ready no_tables (map sort ts) e T = passed L ready no_tables (map sort ts) e T h in
    let f : Fits L ready T = way_fits p.way (start_fits L) in
    let g : length T.nodes ≤ L.nodes = f.nodes_fit in
    well_formed_kept T (omega arith) (kept_way p.way kept_start) p.ruled p.named
