-- What every state of reading keeps.
use Rattle.std.proofs.Common.{◌≡◌, ℕ, zero, suc, ◌<◌, ◌≤◌, Bool, true, false, cond, List, [], ◌∷◌, ◌++◌, length, sym, refl, ap, ◌∙◌, subst, inl, inr, append_assoc, append-nil, arith}
use mathlib.Core.Option.{Option, none, some}
use native.Mathlib.Decide.{ℕ_discrete}
use lib.Seq.{get_or-append_seam}
use Rattle.std.proofs.lemmas.List.{get_or_append_left}
use Rattle.std.specs.Str.{bytes_eq}
use Rattle.notation.specs.Tokens.{Bracket, round, square, curly, Spot, Token as Tok}
use Rattle.tree.specs.Tree.{no_node, node}
use Rattle.notation.specs.Tables.{Entry, Tables, no_tables, find_name, find_kind, with_name, with_kind, with_root, add, link}
use Rattle.notation.specs.Numbering.{Made, Level, make, make_name, make_token, name_known, end_sequence, end_branches, end_level, end_group, rule_ended}
use Rattle.notation.specs.Standing.{Shape, ready, heading, inside, Stands, heads, becomes, names, spells, parts, opens, closes, stops}
use Rattle.notation.specs.Reading.{Levels, State, tables_of, go, Limits, has_rule, again}
use Rattle.notation.specs.Statements.{Each}
use Rattle.notation.specs.Shaped.{In, Valued, root_at}
use Rattle.tree.specs.declared.class.Class.{Class}
use Rattle.tree.specs.declared.class.Class.TheVariants.{Empty, Token, Name, Chain, Alternative, Optional, Repetition}
use Rattle.tree.specs.declared.node.Node.{Node}
use Rattle.notation.proofs.Grows.{length_link, length_add, length_name, length_root}
use Rattle.notation.proofs.Names.{words_sequence, words_level, words_closed}
use Rattle.notation.proofs.Roots.{known_with}
use Rattle.notation.proofs.Why.{fine}
use Rattle.notation.proofs.Way.{Way, here, on}
use Rattle.notation.proofs.Forest.{Over, no_trees, forest_in, Split, split, Skeleton, link_skeleton}
use Rattle.notation.proofs.Close.{in_append, in_left, in_right, each_of, Good, close}

abbrev pub Vals : Tables → Type 0
Vals T = (i : ℕ) → i < length T.nodes → Valued (length T.names) (length T.kinds) (node T.nodes i).class (node T.nodes i).value

pub valued_more : (n n' k k' : ℕ) (c : Class) (v : ℕ) → n ≤ n' → k ≤ k' → Valued n k c v → Valued n' k' c v
valued_more n n' k k' Empty v p q h = h
valued_more n n' k k' Token v p q h = (h.0, (let g = h.1 in omega arith))
valued_more n n' k k' Name v p q h = omega arith
valued_more n n' k k' Chain v p q h = h
valued_more n n' k k' Alternative v p q h = h
valued_more n n' k k' Optional v p q h = h
valued_more n n' k k' Repetition v p q h = h

-- all nodes are trees with these roots, and their values are in range
pub record Sound (T : Tables) (l : List ℕ) : Type 0 where
  pub good : Good T.nodes l
  pub vals : Vals T

pub sound_list : (T : Tables) (a b : List ℕ) → a ≡ b → Sound T a → Sound T b
sound_list T a b e s = subst (Sound T) e s

pub sound_make : (k : Class) (v f : ℕ) (pre cs : List ℕ) (T U : Tables) → Over (record { class = k; value = v; first = f; next = 1024 }) cs
    → length T.names ≤ length U.names → length T.kinds ≤ length U.kinds → Valued (length U.names) (length U.kinds) k v
    → Sound T (pre ++ cs) → Sound (make k v f (link cs T.nodes) U).tables (pre ++ (length (link cs T.nodes) ∷ []))
sound_make k v f pre cs T U o p q h s =
    let ns : List Node = T.nodes in
    let M : List Node = link cs ns in
    let R : List Node = add k v f M in
    let x : Node = record { class = k; value = v; first = f; next = 1024 } in
    let e : length M ≡ length ns = length_link cs ns in
    let e' : length R ≡ suc (length M) = length_add k v f M in
    let sp : Split ns 0 (length ns) pre cs = split pre cs 0 (length ns) s.good.forest in
    let within : Each (λ c. c < length ns) cs = each_of (λ c. c < length ns) cs (λ c i. (forest_in sp.right c i).1) in
    let old : (i : ℕ) → i < length ns → Valued (length U.names) (length U.kinds) (node R i).class (node R i).value =
    λ i g.
    let a : node R i ≡ node M i = get_or_append_left M (x ∷ []) no_node i (omega arith) in
    let b : Skeleton (node M i) (node ns i) = link_skeleton cs ns i within in
    let c : (node R i).class ≡ (node ns i).class = ap (λ y. y.class) a ∙ b.class_is in
    let d : (node R i).value ≡ (node ns i).value = ap (λ y. y.value) a ∙ b.value_is in
    subst (λ y. Valued (length U.names) (length U.kinds) y (node R i).value) (sym c)
    (subst (λ y. Valued (length U.names) (length U.kinds) (node ns i).class y) (sym d)
    (valued_more (length T.names) (length U.names) (length T.kinds) (length U.kinds) (node ns i).class (node ns i).value p q (s.vals i g))) in
    let new : node R (length M) ≡ x = get_or-append_seam M x [] no_node in
    record {
      good = close k v f pre cs ns o s.good;
      vals = λ i g. at i g old new e e' (ℕ_discrete i (length M));
    }
  where
    at : (i : ℕ) → i < length (add k v f (link cs T.nodes))
        → ((i : ℕ) → i < length T.nodes → Valued (length U.names) (length U.kinds) (node (add k v f (link cs T.nodes)) i).class (node (add k v f (link cs T.nodes)) i).value)
        → node (add k v f (link cs T.nodes)) (length (link cs T.nodes)) ≡ record { class = k; value = v; first = f; next = 1024 }
        → length (link cs T.nodes) ≡ length T.nodes → length (add k v f (link cs T.nodes)) ≡ suc (length (link cs T.nodes))
        → Dec (i ≡ length (link cs T.nodes))
        → Valued (length U.names) (length U.kinds) (node (add k v f (link cs T.nodes)) i).class (node (add k v f (link cs T.nodes)) i).value
    at i g old new e e' (yes d) =
        subst (λ j. Valued (length U.names) (length U.kinds) (node (add k v f (link cs T.nodes)) j).class (node (add k v f (link cs T.nodes)) j).value) (sym d)
        (subst (λ (y : Node). Valued (length U.names) (length U.kinds) y.class y.value) (sym new) h)
    at i g old new e e' (no d) = old i (omega arith)

abbrev pub MadeSo : List ℕ → Made → Type 0
MadeSo pre M = Sound M.tables (pre ++ (M.at ∷ []))

pub sound_sequence : (pre items : List ℕ) (T : Tables) → Sound T (pre ++ items) → MadeSo pre (end_sequence items T)
sound_sequence pre [] T s = sound_make Empty 0 1024 pre [] T T (record { first_is = refl; counted = refl }) (omega arith) (omega arith) refl s
sound_sequence pre (n ∷ []) T s = s
sound_sequence pre (n ∷ m ∷ rest) T s = sound_make Chain 0 n pre (n ∷ m ∷ rest) T T (record { first_is = refl; counted = omega arith }) (omega arith) (omega arith) refl s

pub sound_branches : (pre ended : List ℕ) (x : ℕ) (T : Tables) → Sound T (pre ++ (ended ++ (x ∷ []))) → MadeSo pre (end_branches (ended ++ (x ∷ [])) T)
sound_branches pre [] x T s = s
sound_branches pre (n ∷ []) x T s = sound_make Alternative 0 n pre (n ∷ x ∷ []) T T (record { first_is = refl; counted = omega arith }) (omega arith) (omega arith) refl s
sound_branches pre (n ∷ m ∷ rest) x T s = sound_make Alternative 0 n pre (n ∷ m ∷ (rest ++ (x ∷ []))) T T (record { first_is = refl; counted = omega arith }) (omega arith) (omega arith) refl s

pub sound_level : (pre : List ℕ) (l : Level) (T : Tables) → Sound T (pre ++ (l.ended ++ l.items)) → MadeSo pre (end_level l T)
sound_level pre l T s =
    let M : Made = end_sequence l.items T in
    let a : Sound M.tables ((pre ++ l.ended) ++ (M.at ∷ [])) = sound_sequence (pre ++ l.ended) l.items T (sound_list T _ _ (sym (append_assoc pre l.ended l.items)) s) in
    sound_branches pre l.ended M.at M.tables (sound_list M.tables _ _ (append_assoc pre l.ended (M.at ∷ [])) a)

pub sound_group : (b : Bracket) (pre : List ℕ) (M : Made) → MadeSo pre M → MadeSo pre (end_group b M)
sound_group round pre M s = s
sound_group square pre M s = sound_make Optional 0 M.at pre (M.at ∷ []) M.tables M.tables (record { first_is = refl; counted = refl }) (omega arith) (omega arith) refl s
sound_group curly pre M s = sound_make Repetition 0 M.at pre (M.at ∷ []) M.tables M.tables (record { first_is = refl; counted = refl }) (omega arith) (omega arith) refl s

pub sound_name : (pre : List ℕ) (s : Spot) (T : Tables) → Sound T pre → MadeSo pre (make_name s T)
sound_name pre s T p =
    sound_make Name (find_name s.bytes T.names) 1024 pre [] T (name_known s T) (record { first_is = refl; counted = refl }) (length_name s T.names).0 (omega arith) (known_with s T.names).1
    (sound_list T _ _ (sym (append-nil pre)) p)

find_kind_at : (b : Bool) (s e : Spot) (es : List Spot) → find_kind s.bytes es < length (with_kind s es) → length es ≤ length (with_kind s es)
    → (cond b 0 (suc (find_kind s.bytes es)) < length (cond b (e ∷ es) (e ∷ with_kind s es))) × (suc (length es) ≤ length (cond b (e ∷ es) (e ∷ with_kind s es)))
find_kind_at true s e es h g = (omega arith, omega arith)
find_kind_at false s e es h g = (omega arith, omega arith)

find_kind_with : (s : Spot) (es : List Spot) → (find_kind s.bytes es < length (with_kind s es)) × (length es ≤ length (with_kind s es))
find_kind_with s [] = (omega arith, omega arith)
find_kind_with s (e ∷ es) = let r = find_kind_with s es in find_kind_at (bytes_eq e.bytes s.bytes) s e es r.0 r.1

pub sound_token : (pre : List ℕ) (s : Spot) (T : Tables) → Sound T pre → MadeSo pre (make_token s T)
sound_token pre s T p =
    let h = find_kind_with s T.kinds in
    sound_make Token (suc (find_kind s.bytes T.kinds)) 1024 pre [] T (record { names = T.names; kinds = with_kind s T.kinds; nodes = T.nodes }) (record { first_is = refl; counted = refl })
    (omega arith) h.1 (omega arith, h.0) (sound_list T _ _ (sym (append-nil pre)) p)

-- names with their roots
pub record Rooted (roots : List ℕ) (es : List Entry) : Type 0 where
  pub named : (k r : ℕ) → root_at es k ≡ some r → In r roots
  pub has_name : (r : ℕ) → In r roots → (k : ℕ) × (root_at es k ≡ some r)
  pub one : (j k r : ℕ) → root_at es j ≡ some r → root_at es k ≡ some r → j ≡ k

pub rooted_same : (roots : List ℕ) (es fs : List Entry) → ((k : ℕ) → root_at fs k ≡ root_at es k) → Rooted roots es → Rooted roots fs
rooted_same roots es fs h r =
    record {
      named = λ k x g. r.named k x (sym (h k) ∙ g);
      has_name = λ x i. let n = r.has_name x i in (n.0, h n.0 ∙ n.1);
      one = λ j k x g g'. r.one j k x (sym (h j) ∙ g) (sym (h k) ∙ g');
    }

root_with_at : (b : Bool) (s : Spot) (e : Entry) (es : List Entry) → ((k : ℕ) → root_at (with_name s es) k ≡ root_at es k) → (k : ℕ) → root_at (cond b (e ∷ es) (e ∷ with_name s es)) k ≡ root_at (e ∷ es) k
root_with_at true s e es h k = refl
root_with_at false s e es h zero = refl
root_with_at false s e es h (suc k) = h k

pub root_with : (s : Spot) (es : List Entry) (k : ℕ) → root_at (with_name s es) k ≡ root_at es k
root_with s [] zero = refl
root_with s [] (suc k) = refl
root_with s (e ∷ es) k = root_with_at (bytes_eq e.first.bytes s.bytes) s e es (root_with s es) k

pub root_set : (i r : ℕ) (es : List Entry) → i < length es → root_at (with_root i r es) i ≡ some r
root_set i r [] h = absurd (omega arith)
root_set zero r (e ∷ es) h = refl
root_set (suc i) r (e ∷ es) h = root_set i r es (omega arith)

pub root_keep : (i r : ℕ) (es : List Entry) (k : ℕ) → (k ≡ i → ⊥) → root_at (with_root i r es) k ≡ root_at es k
root_keep i r [] k d = refl
root_keep zero r (e ∷ es) zero d = absurd (d refl)
root_keep zero r (e ∷ es) (suc k) d = refl
root_keep (suc i) r (e ∷ es) zero d = refl
root_keep (suc i) r (e ∷ es) (suc k) d = root_keep i r es k (λ e. d (ap suc e))

abbrev pub Unset : ℕ → List Entry → Type 0
Unset i es = (i < length es) × (root_at es i ≡ none)

pub rooted_more : (roots : List ℕ) (es : List Entry) (i r : ℕ) → Unset i es → (In r roots → ⊥) → Rooted roots es → Rooted (roots ++ (r ∷ [])) (with_root i r es)
rooted_more roots es i r u fresh R =
    record {
      named = λ k x g. named_at k x g (ℕ_discrete k i);
      has_name = λ x m. elim (in_append x roots (r ∷ []) m) [
        | inl y ↦ (let n = R.has_name x y in (n.0, root_keep i r es n.0 (λ e. clash n.0 x n.1 e) ∙ n.1))
        | inr y ↦ elim y [ inl e ↦ (i, root_set i r es u.0 ∙ ap some e) | inr z ↦ elim z [ ] ]
      ];
      one = λ j k x g h. one_at j k x g h (ℕ_discrete j i) (ℕ_discrete k i);
    }
  where
    clash : (k x : ℕ) → root_at es k ≡ some x → k ≡ i → ⊥
    clash k x g e = let h : root_at es k ≡ none = ap (root_at es) e ∙ u.1 in let z : ◌≡◌ {A = ℕ} 0 1 = cc in omega arith

    own : (k x : ℕ) → root_at (with_root i r es) k ≡ some x → k ≡ i → r ≡ x
    own k x g e = let h : root_at (with_root i r es) k ≡ some r = ap (root_at (with_root i r es)) e ∙ root_set i r es u.0 in cc

    named_at : (k x : ℕ) → root_at (with_root i r es) k ≡ some x → Dec (k ≡ i) → In x (roots ++ (r ∷ []))
    named_at k x g (yes e) = in_right x roots (r ∷ []) (inl (own k x g e))
    named_at k x g (no d) = in_left x roots (r ∷ []) (R.named k x (sym (root_keep i r es k d) ∙ g))

    one_at : (j k x : ℕ) → root_at (with_root i r es) j ≡ some x → root_at (with_root i r es) k ≡ some x → Dec (j ≡ i) → Dec (k ≡ i) → j ≡ k
    one_at j k x g h (yes e) (yes f) = e ∙ sym f
    one_at j k x g h (yes e) (no d) =
        let a = own j x g e in let b : In x roots = R.named k x (sym (root_keep i r es k d) ∙ h) in absurd (fresh (subst (λ y. In y roots) (sym a) b))
    one_at j k x g h (no d) (yes f) =
        let a = own k x h f in let b : In x roots = R.named j x (sym (root_keep i r es j d) ∙ g) in absurd (fresh (subst (λ y. In y roots) (sym a) b))
    one_at j k x g h (no d) (no d') = R.one j k x (sym (root_keep i r es j d) ∙ g) (sym (root_keep i r es k d') ∙ h)

-- the nodes of the levels around, the outermost first
abbrev pub flat : (bs : List Bracket) → Levels bs → List ℕ
flat [] o = []
flat (b ∷ bs) o = flat bs o.1 ++ (o.0.ended ++ o.0.items)

abbrev pub open_nodes : (sh : Shape) → State sh → List ℕ
open_nodes ready T = []
open_nodes heading H = []
open_nodes (inside bs) W = flat bs W.outer ++ (W.level.ended ++ W.level.items)

-- the rule that is read has no root yet
abbrev pub Current : (sh : Shape) → State sh → Type 0
Current ready T = Unit {0}
Current heading H = Unset H.rule H.tables.names
Current (inside bs) W = Unset W.rule W.tables.names

pub record Kept (sh : Shape) (st : State sh) : Type 0 where
  pub roots : List ℕ
  pub sound : Sound (tables_of sh st) (roots ++ open_nodes sh st)
  pub rooted : Rooted roots (tables_of sh st).names
  pub current : Current sh st

unruled_at : (b : Bool) (w : List ℕ) (e : Entry) (es : List Entry) → (has_rule w es ≡ false → root_at es (find_name w es) ≡ none)
    → cond b (elim e.root [ none ↦ false | some r ↦ true ]) (has_rule w es) ≡ false → root_at (e ∷ es) (cond b 0 (suc (find_name w es))) ≡ none
unruled_at true w e es ih h = bare e.root h
  where
    bare : (o : Option ℕ) → elim o [ none ↦ false | some r ↦ true ] ≡ false → o ≡ none
    bare none h = refl
    bare (some r) h = let z : ◌≡◌ {A = ℕ} 0 1 = cc in absurd (omega arith)
unruled_at false w e es ih h = ih h

pub unruled_root : (w : List ℕ) (es : List Entry) → has_rule w es ≡ false → root_at es (find_name w es) ≡ none
unruled_root w [] h = refl
unruled_root w (e ∷ es) h = unruled_at (bytes_eq e.first.bytes w) w e es (unruled_root w es) h

unset_with : (i : ℕ) (s : Spot) (es : List Entry) → Unset i es → Unset i (with_name s es)
unset_with i s es u = let h = (length_name s es).0 in let g = u.0 in (omega arith, root_with s es i ∙ u.1)

-- a new name alone changes no node
pub sound_known : (s : Spot) (T : Tables) (l : List ℕ) → Sound T l → Sound (name_known s T) l
sound_known s T l p =
    record {
      good = p.good;
      vals = λ i g. valued_more (length T.names) (length (with_name s T.names)) (length T.kinds) (length T.kinds) (node T.nodes i).class (node T.nodes i).value (length_name s T.names).0 (omega arith) (p.vals i g);
    }

-- a root given changes no node
sound_ended : (i : ℕ) (M : Made) (l : List ℕ) → Sound M.tables l → Sound (rule_ended i M) l
sound_ended i M l p =
    record { good = p.good; vals = λ k g. subst (λ n. Valued n (length M.tables.kinds) (node M.tables.nodes k).class (node M.tables.nodes k).value) (sym (length_root i M.at M.tables.names)) (p.vals k g) }

-- the last root is new
pub fresh_root : (ns : List Node) (pre : List ℕ) (r : ℕ) → Good ns (pre ++ (r ∷ [])) → In r pre → ⊥
fresh_root ns pre r g i =
    let s : Split ns 0 (length ns) pre (r ∷ []) = split pre (r ∷ []) 0 (length ns) g.forest in
    let a = forest_in s.left r i in
    let b = forest_in s.right r (inl refl) in
    omega arith

regroup₁ : (roots fl ended items : List ℕ) (n : ℕ) → (roots ++ (fl ++ (ended ++ items))) ++ (n ∷ []) ≡ roots ++ (fl ++ (ended ++ (items ++ (n ∷ []))))
regroup₁ roots fl ended items n = simp append_assoc

regroup₂ : (roots fl ended items : List ℕ) → roots ++ (fl ++ (ended ++ items)) ≡ (roots ++ (fl ++ ended)) ++ items
regroup₂ roots fl ended items = simp append_assoc

regroup₃ : (roots fl ended : List ℕ) (n : ℕ) → (roots ++ (fl ++ ended)) ++ (n ∷ []) ≡ roots ++ (fl ++ ((ended ++ (n ∷ [])) ++ []))
regroup₃ roots fl ended n = simp (append_assoc, append-nil)

regroup₄ : (roots fl a : List ℕ) → roots ++ (fl ++ a) ≡ roots ++ ((fl ++ a) ++ [])
regroup₄ roots fl a = simp append-nil

regroup₅ : (roots fl a l : List ℕ) → roots ++ ((fl ++ a) ++ l) ≡ (roots ++ (fl ++ a)) ++ l
regroup₅ roots fl a l = simp append_assoc

pub kept_step : {sh : Shape} {t : Tok} {to : Shape} (v : Stands sh t to) (st : State sh) → again v st ≡ false → Kept sh st → Kept to (go v st)
kept_step (heads {s}) T a k =
    record {
      roots = k.roots;
      sound = sound_known s T (k.roots ++ []) k.sound;
      rooted = rooted_same k.roots T.names (with_name s T.names) (root_with s T.names) k.rooted;
      current = ((known_with s T.names).1, root_with s T.names (find_name s.bytes T.names) ∙ unruled_root s.bytes T.names a);
    }
kept_step becomes H a k = record { roots = k.roots; sound = k.sound; rooted = k.rooted; current = k.current }
kept_step (names {s} {bs}) W a k =
    record {
      roots = k.roots;
      sound = sound_list _ _ _ (regroup₁ k.roots (flat bs W.outer) W.level.ended W.level.items (make_name s W.tables).at) (sound_name (k.roots ++ open_nodes (inside bs) W) s W.tables k.sound);
      rooted = rooted_same k.roots W.tables.names (with_name s W.tables.names) (root_with s W.tables.names) k.rooted;
      current = unset_with W.rule s W.tables.names k.current;
    }
kept_step (spells {s = s} {bs = bs}) W a k =
    record {
      roots = k.roots;
      sound = sound_list _ _ _ (regroup₁ k.roots (flat bs W.outer) W.level.ended W.level.items (make_token s W.tables).at) (sound_token (k.roots ++ open_nodes (inside bs) W) s W.tables k.sound);
      rooted = k.rooted;
      current = k.current;
    }
kept_step (parts {bs = bs}) W a k =
    let M : Made = end_sequence W.level.items W.tables in
    let e : M.tables.names ≡ W.tables.names = (words_sequence W.level.items W.tables).names in
    let p : MadeSo (k.roots ++ (flat bs W.outer ++ W.level.ended)) M =
    sound_sequence (k.roots ++ (flat bs W.outer ++ W.level.ended)) W.level.items W.tables (sound_list W.tables _ _ (regroup₂ k.roots (flat bs W.outer) W.level.ended W.level.items) k.sound) in
    record {
      roots = k.roots;
      sound = sound_list M.tables _ _ (regroup₃ k.roots (flat bs W.outer) W.level.ended M.at) p;
      rooted = subst (Rooted k.roots) (sym e) k.rooted;
      current = subst (Unset W.rule) (sym e) k.current;
    }
kept_step (opens {bs = bs}) W a k =
    record {
      roots = k.roots;
      sound = sound_list W.tables _ _ (regroup₄ k.roots (flat bs W.outer) (W.level.ended ++ W.level.items)) k.sound;
      rooted = k.rooted;
      current = k.current;
    }
kept_step (closes {b = b} {bs = bs}) W a k =
    let M : Made = end_group b (end_level W.level W.tables) in
    let e : M.tables.names ≡ W.tables.names = (words_closed b W.level W.tables).names in
    let o : List ℕ = W.outer.0.ended ++ W.outer.0.items in
    let fl : List ℕ = flat bs W.outer.1 in
    let p : MadeSo (k.roots ++ (fl ++ o)) (end_level W.level W.tables) =
    sound_level (k.roots ++ (fl ++ o)) W.level W.tables (sound_list W.tables _ _ (regroup₅ k.roots fl o (W.level.ended ++ W.level.items)) k.sound) in
    let q : MadeSo (k.roots ++ (fl ++ o)) M = sound_group b (k.roots ++ (fl ++ o)) (end_level W.level W.tables) p in
    record {
      roots = k.roots;
      sound = sound_list M.tables _ _ (regroup₁ k.roots fl W.outer.0.ended W.outer.0.items M.at) q;
      rooted = subst (Rooted k.roots) (sym e) k.rooted;
      current = subst (Unset W.rule) (sym e) k.current;
    }
kept_step stops W a k =
    let M : Made = end_level W.level W.tables in
    let e : M.tables.names ≡ W.tables.names = (words_level W.level W.tables).names in
    let p : MadeSo k.roots M = sound_level k.roots W.level W.tables k.sound in
    record {
      roots = k.roots ++ (M.at ∷ []);
      sound = sound_list _ _ _ (sym (append-nil (k.roots ++ (M.at ∷ [])))) (sound_ended W.rule M (k.roots ++ (M.at ∷ [])) p);
      rooted = rooted_more k.roots M.tables.names W.rule M.at (subst (Unset W.rule) (sym e) k.current) (fresh_root M.tables.nodes k.roots M.at p.good) (subst (Rooted k.roots) (sym e) k.rooted);
      current = tt;
    }

pub kept_way : {L : Limits} {sh : Shape} {st : State sh} {ts : List Tok} {to : Shape} {st' : State to} → Way L sh st ts to st' → Kept sh st → Kept to st'
kept_way here k = k
kept_way {L} {st = st} (on v n w) k = kept_way w (kept_step v st (fine L v st n).once k)

pub kept_start : Kept ready no_tables
kept_start =
    record {
      roots = [];
      sound = record { good = record { forest = no_trees; free = λ c i. elim i [ ] }; vals = λ i h. absurd (omega arith) };
      rooted = record { named = λ k r h. (let z : ◌≡◌ {A = ℕ} 0 1 = cc in absurd (omega arith)); has_name = λ r i. elim i [ ]; one = λ j k r g h. (let z : ◌≡◌ {A = ℕ} 0 1 = cc in absurd (omega arith)) };
      current = tt;
    }
