-- The tables stand for the rules.
use Rattle.std.proofs.Common.{◌≡◌, ℕ, suc, ◌<◌, ◌≤◌, Bool, true, false, cond, List, [], ◌∷◌, ◌++◌, length, sym, refl, ap, ◌∙◌, subst, inl, inr, append_assoc, append-nil, arith}
use lib.Seq.{get_or-append_seam}
use Rattle.std.proofs.lemmas.List.{get_or_append_left}
use Rattle.std.specs.Str.{bytes_eq}
use Rattle.notation.specs.Tokens.{Bracket, round, square, curly, Spot, Terminal}
use Rattle.notation.specs.Syntax.{Item, named, literal, group, Sequence, nothing, item, Branches, last, either}
use Rattle.tree.specs.Tree.{no_node, node}
use Rattle.notation.specs.Tables.{Tables, find_name, find_kind, with_kind, add, link}
use Rattle.notation.specs.Numbering.{Made, Listed, Level, no_level, make, name_known, make_name, make_token, end_sequence, end_branches, end_group, number_item, number_sequence, number_branches}
use Rattle.notation.specs.Statements.{Each}
use Rattle.notation.specs.Shaped.{In, Rising, Linked}
use Rattle.notation.specs.Meaning.{NameNumber, KindNumber, ItemAt, name_at, token_at, round_at, square_at, curly_at, SequenceAt, empty_at, single_at, chain_at, ItemsAt, no_items, more_items, BranchesAt, one_at, either_at, PartsAt, last_part, more_parts}
use Rattle.tree.specs.declared.class.Class.{Class}
use Rattle.tree.specs.declared.class.Class.TheVariants.{Empty, Token, Name, Chain, Alternative, Optional, Repetition}
use Rattle.tree.specs.declared.node.Node.{Node}
use Rattle.notation.proofs.Grows.{length_link, length_add}
use Rattle.notation.proofs.Names.{same_refl}
use Rattle.notation.proofs.Roots.{known_keep, known_with}
use Rattle.notation.proofs.Forest.{Skeleton, skeleton, linked_frame, link_skeleton, link_other, link_linked}
use Rattle.notation.proofs.Close.{each_of}

mutual
  item_le : {T : Tables} {lo n : ℕ} {x : Item} → ItemAt T lo n x → lo ≤ n
  item_le (name_at c k) = omega arith
  item_le (token_at i c v k) = omega arith
  item_le (round_at b) = branches_le b
  item_le (square_at c f e b) = let h = branches_le b in omega arith
  item_le (curly_at c f e b) = let h = branches_le b in omega arith

  sequence_le : {T : Tables} {lo n : ℕ} {xs : Sequence} → SequenceAt T lo n xs → lo ≤ n
  sequence_le (empty_at c) = omega arith
  sequence_le (single_at i) = item_le i
  sequence_le (chain_at c f l i) = items_le i

  items_le : {T : Tables} {lo hi : ℕ} {cs : List ℕ} {xs : Sequence} → ItemsAt T lo hi cs xs → lo ≤ hi
  items_le no_items = omega arith
  items_le (more_items i is) = let g = item_le i in let h = items_le is in omega arith

  branches_le : {T : Tables} {lo n : ℕ} {b : Branches} → BranchesAt T lo n b → lo ≤ n
  branches_le (one_at s) = sequence_le s
  branches_le (either_at c f l p) = parts_le p

  parts_le : {T : Tables} {lo hi : ℕ} {cs : List ℕ} {b : Branches} → PartsAt T lo hi cs b → lo ≤ hi
  parts_le (last_part s) = let h = sequence_le s in omega arith
  parts_le (more_parts s p) = let g = sequence_le s in let h = parts_le p in omega arith

items_in : {T : Tables} {lo hi : ℕ} {cs : List ℕ} {xs : Sequence} → ItemsAt T lo hi cs xs → (c : ℕ) → In c cs → (lo ≤ c) × (c < hi)
items_in no_items c i = elim i [ ]
items_in (more_items x is) c (inl e) = let g = item_le x in let h = items_le is in (omega arith, omega arith)
items_in (more_items x is) c (inr i) = let g = item_le x in let h = items_in is c i in (omega arith, omega arith)

parts_in : {T : Tables} {lo hi : ℕ} {cs : List ℕ} {b : Branches} → PartsAt T lo hi cs b → (c : ℕ) → In c cs → (lo ≤ c) × (c < hi)
parts_in (last_part s) c (inl e) = let g = sequence_le s in (omega arith, omega arith)
parts_in (last_part s) c (inr i) = elim i [ ]
parts_in (more_parts s p) c (inl e) = let g = sequence_le s in let h = parts_le p in (omega arith, omega arith)
parts_in (more_parts s p) c (inr i) = let g = sequence_le s in let h = parts_in p c i in (omega arith, omega arith)

items_rising : {T : Tables} {lo hi : ℕ} {cs : List ℕ} {xs : Sequence} → ItemsAt T lo hi cs xs → Rising cs
items_rising no_items = tt
items_rising (more_items x no_items) = tt
items_rising (more_items x (more_items y is)) = let a = item_le y in (omega arith, items_rising (more_items y is))

parts_rising : {T : Tables} {lo hi : ℕ} {cs : List ℕ} {b : Branches} → PartsAt T lo hi cs b → Rising cs
parts_rising (last_part s) = tt
parts_rising (more_parts s (last_part u)) = let a = sequence_le u in (omega arith, tt)
parts_rising (more_parts s (more_parts {s = t} u p)) = let a = sequence_le u in (omega arith, parts_rising (more_parts {s = t} u p))

-- names and kinds keep their numbers
pub record Words (T U : Tables) : Type 0 where
  pub names_kept : (w : List ℕ) (i : ℕ) → NameNumber w i T → NameNumber w i U
  pub kinds_kept : (w : List ℕ) (i : ℕ) → KindNumber w i T → KindNumber w i U

words_refl : (T : Tables) → Words T T
words_refl T = record { names_kept = λ w i h. h; kinds_kept = λ w i h. h }

pub words_trans : {T U V : Tables} → Words T U → Words U V → Words T V
words_trans a b = record { names_kept = λ w i h. b.names_kept w i (a.names_kept w i h); kinds_kept = λ w i h. b.kinds_kept w i (a.kinds_kept w i h) }

abbrev pub Same : Tables → Tables → ℕ → ℕ → Type 0
Same T U lo hi = (i : ℕ) → lo ≤ i → i < hi → node U.nodes i ≡ node T.nodes i

mutual
  frame_item : {T : Tables} {lo n : ℕ} {x : Item} → ItemAt T lo n x → (U : Tables) → Words T U → Same T U lo n → Skeleton (node U.nodes n) (node T.nodes n) → ItemAt U lo n x
  frame_item (name_at {n = n} {s = s} c k) U w h x = name_at (x.class_is ∙ c) (subst (λ v. NameNumber s.bytes v U) (sym x.value_is) (w.names_kept _ _ k))
  frame_item (token_at i c v k) U w h x = token_at i (x.class_is ∙ c) (x.value_is ∙ v) (w.kinds_kept _ _ k)
  frame_item (round_at b) U w h x = round_at (frame_branches b U w h x)
  frame_item {T} (square_at {c = c} k f e b) U w h x =
      let a = branches_le b in
      let q = h c a (omega arith) in
      square_at (x.class_is ∙ k) (x.first_is ∙ f) (ap (λ y. y.next) q ∙ e) (frame_branches b U w (λ i p r. h i p (omega arith)) (skeleton (node U.nodes c) (node T.nodes c) q))
  frame_item {T} (curly_at {c = c} k f e b) U w h x =
      let a = branches_le b in
      let q = h c a (omega arith) in
      curly_at (x.class_is ∙ k) (x.first_is ∙ f) (ap (λ y. y.next) q ∙ e) (frame_branches b U w (λ i p r. h i p (omega arith)) (skeleton (node U.nodes c) (node T.nodes c) q))

  frame_sequence : {T : Tables} {lo n : ℕ} {xs : Sequence} → SequenceAt T lo n xs → (U : Tables) → Words T U → Same T U lo n → Skeleton (node U.nodes n) (node T.nodes n) → SequenceAt U lo n xs
  frame_sequence (empty_at c) U w h x = empty_at (x.class_is ∙ c)
  frame_sequence (single_at i) U w h x = single_at (frame_item i U w h x)
  frame_sequence {T} (chain_at {c = c} {d = d} {cs = cs} k f l is) U w h x =
      chain_at (x.class_is ∙ k) (x.first_is ∙ f) (linked_frame T.nodes U.nodes (c ∷ d ∷ cs) (λ y i. let b = items_in is y i in ap (λ z. z.next) (h y b.0 b.1)) l) (frame_items is U w h)

  frame_items : {T : Tables} {lo hi : ℕ} {cs : List ℕ} {xs : Sequence} → ItemsAt T lo hi cs xs → (U : Tables) → Words T U → Same T U lo hi → ItemsAt U lo hi cs xs
  frame_items no_items U w h = no_items
  frame_items {T} (more_items {c = c} i is) U w h =
      let a = item_le i in
      let b = items_le is in
      more_items (frame_item i U w (λ j p q. h j p (omega arith)) (skeleton (node U.nodes c) (node T.nodes c) (h c a (omega arith)))) (frame_items is U w (λ j p q. h j (omega arith) q))

  pub frame_branches : {T : Tables} {lo n : ℕ} {b : Branches} → BranchesAt T lo n b → (U : Tables) → Words T U → Same T U lo n → Skeleton (node U.nodes n) (node T.nodes n) → BranchesAt U lo n b
  frame_branches (one_at s) U w h x = one_at (frame_sequence s U w h x)
  frame_branches {T} (either_at {c = c} {d = d} {cs = cs} k f l ps) U w h x =
      either_at (x.class_is ∙ k) (x.first_is ∙ f) (linked_frame T.nodes U.nodes (c ∷ d ∷ cs) (λ y i. let b = parts_in ps y i in ap (λ z. z.next) (h y b.0 b.1)) l) (frame_parts ps U w h)

  frame_parts : {T : Tables} {lo hi : ℕ} {cs : List ℕ} {b : Branches} → PartsAt T lo hi cs b → (U : Tables) → Words T U → Same T U lo hi → PartsAt U lo hi cs b
  frame_parts {T} (last_part {c = c} s) U w h = let a = sequence_le s in last_part (frame_sequence s U w (λ j p q. h j p (omega arith)) (skeleton (node U.nodes c) (node T.nodes c) (h c a (omega arith))))
  frame_parts {T} (more_parts {c = c} s ps) U w h =
      let a = sequence_le s in
      let b = parts_le ps in
      more_parts (frame_sequence s U w (λ j p q. h j p (omega arith)) (skeleton (node U.nodes c) (node T.nodes c) (h c a (omega arith)))) (frame_parts ps U w (λ j p q. h j (omega arith) q))

-- roots may have other siblings
frame_item_roots : {T : Tables} {lo hi : ℕ} {cs : List ℕ} {xs : Sequence} → ItemsAt T lo hi cs xs → (U : Tables) → Words T U
    → ((i : ℕ) → lo ≤ i → i < hi → (In i cs → ⊥) → node U.nodes i ≡ node T.nodes i) → ((i : ℕ) → i < hi → Skeleton (node U.nodes i) (node T.nodes i)) → ItemsAt U lo hi cs xs
frame_item_roots no_items U w h s = no_items
frame_item_roots {T} (more_items {c = c} x is) U w h s =
    let a = item_le x in
    let b = items_le is in
    more_items
    (frame_item x U w (λ i p q. h i p (omega arith) (λ y. elim y [ inl e ↦ omega arith | inr z ↦ let g = items_in is i z in omega arith ])) (s c (omega arith)))
    (frame_item_roots is U w (λ i p q n. h i (omega arith) q (λ y. elim y [ inl e ↦ omega arith | inr z ↦ n z ])) s)

frame_part_roots : {T : Tables} {lo hi : ℕ} {cs : List ℕ} {b : Branches} → PartsAt T lo hi cs b → (U : Tables) → Words T U
    → ((i : ℕ) → lo ≤ i → i < hi → (In i cs → ⊥) → node U.nodes i ≡ node T.nodes i) → ((i : ℕ) → i < hi → Skeleton (node U.nodes i) (node T.nodes i)) → PartsAt U lo hi cs b
frame_part_roots {T} (last_part {c = c} x) U w h s =
    last_part (frame_sequence x U w (λ i p q. h i p (omega arith) (λ y. elim y [ inl e ↦ omega arith | inr z ↦ elim z [ ] ])) (s c (omega arith)))
frame_part_roots {T} (more_parts {c = c} x is) U w h s =
    let a = sequence_le x in
    let b = parts_le is in
    more_parts
    (frame_sequence x U w (λ i p q. h i p (omega arith) (λ y. elim y [ inl e ↦ omega arith | inr z ↦ let g = parts_in is i z in omega arith ])) (s c (omega arith)))
    (frame_part_roots is U w (λ i p q n. h i (omega arith) q (λ y. elim y [ inl e ↦ omega arith | inr z ↦ n z ])) s)

-- later tables: nothing that was there is changed
pub record Later (T U : Tables) : Type 0 where
  pub same : (i : ℕ) → i < length T.nodes → node U.nodes i ≡ node T.nodes i
  pub longer : length T.nodes ≤ length U.nodes
  pub words : Words T U

pub later_refl : (T : Tables) → Later T T
later_refl T = record { same = λ i h. refl; longer = omega arith; words = words_refl T }

pub later_trans : {T U V : Tables} → Later T U → Later U V → Later T V
later_trans a b =
    let p = a.longer in
    let q = b.longer in
    record { same = λ i h. b.same i (omega arith) ∙ a.same i h; longer = omega arith; words = words_trans a.words b.words }

-- one node more over these
pub record Closing (k : Class) (v f : ℕ) (cs : List ℕ) (ns : List Node) : Type 0 where
  pub size : length (add k v f (link cs ns)) ≡ suc (length (link cs ns))
  pub at_is : length (link cs ns) ≡ length ns
  pub old : (i : ℕ) → i < length ns → (In i cs → ⊥) → node (add k v f (link cs ns)) i ≡ node ns i
  pub skel : (i : ℕ) → i < length ns → Skeleton (node (add k v f (link cs ns)) i) (node ns i)
  pub links : Linked (add k v f (link cs ns)) cs
  pub new : node (add k v f (link cs ns)) (length (link cs ns)) ≡ record { class = k; value = v; first = f; next = 1024 }

closing : (k : Class) (v f : ℕ) (cs : List ℕ) (ns : List Node) → Rising cs → ((c : ℕ) → In c cs → c < length ns) → ((c : ℕ) → In c cs → (node ns c).next ≡ 1024) → Closing k v f cs ns
closing k v f cs ns r within free =
    let M : List Node = link cs ns in
    let x : Node = record { class = k; value = v; first = f; next = 1024 } in
    let e : length M ≡ length ns = length_link cs ns in
    let below : Each (λ c. c < length ns) cs = each_of (λ c. c < length ns) cs within in
    let stay : (i : ℕ) → i < length ns → node (add k v f M) i ≡ node M i = λ i h. get_or_append_left M (x ∷ []) no_node i (omega arith) in
    record {
      size = length_add k v f M;
      at_is = e;
      old = λ i h n. stay i h ∙ link_other cs ns i n;
      skel = λ i h. subst (λ y. Skeleton y (node ns i)) (sym (stay i h)) (link_skeleton cs ns i below);
      links = linked_frame M (add k v f M) cs (λ c i. ap (λ y. y.next) (stay c (within c i))) (link_linked cs ns r below (each_of (λ c. (node ns c).next ≡ 1024) cs free));
      new = get_or-append_seam M x [] no_node;
    }

-- a piece made from tables T on
pub record Ended (T : Tables) (M : Made) (At : Tables → ℕ → ℕ → Type 0) : Type 0 where
  pub at_end : At M.tables (length T.nodes) M.at
  pub size : length M.tables.nodes ≡ suc M.at
  pub free : (node M.tables.nodes M.at).next ≡ 1024
  pub later : Later T M.tables

-- a leaf
leaf_closing : (k : Class) (v : ℕ) (ns : List Node) → Closing k v 1024 [] ns
leaf_closing k v ns = closing k v 1024 [] ns tt (λ c i. elim i [ ]) (λ c i. elim i [ ])

kind_keep_at : (c b : Bool) (w : List ℕ) (s e : Spot) (es : List Spot) → bytes_eq e.bytes w ≡ c
    → (find_kind w es < length es → (find_kind w (with_kind s es) ≡ find_kind w es) × (find_kind w es < length (with_kind s es)))
    → cond c 0 (suc (find_kind w es)) < suc (length es)
    → (find_kind w (cond b (e ∷ es) (e ∷ with_kind s es)) ≡ cond c 0 (suc (find_kind w es))) × (cond c 0 (suc (find_kind w es)) < length (cond b (e ∷ es) (e ∷ with_kind s es)))
kind_keep_at c true w s e es g ih h = (rw g, h)
kind_keep_at true false w s e es g ih h = (rw g, omega arith)
kind_keep_at false false w s e es g ih h = let r = ih (omega arith) in (rw (g, r.0), omega arith)

pub kind_keep : (w : List ℕ) (s : Spot) (es : List Spot) → find_kind w es < length es → (find_kind w (with_kind s es) ≡ find_kind w es) × (find_kind w es < length (with_kind s es))
kind_keep w s [] h = absurd (omega arith)
kind_keep w s (e ∷ es) h = kind_keep_at (bytes_eq e.bytes w) (bytes_eq e.bytes s.bytes) w s e es refl (kind_keep w s es) h

kind_with_at : (b : Bool) (s e : Spot) (es : List Spot) → bytes_eq e.bytes s.bytes ≡ b
    → (find_kind s.bytes (with_kind s es) ≡ find_kind s.bytes es) × (find_kind s.bytes es < length (with_kind s es))
    → (find_kind s.bytes (cond b (e ∷ es) (e ∷ with_kind s es)) ≡ find_kind s.bytes (e ∷ es)) × (find_kind s.bytes (e ∷ es) < length (cond b (e ∷ es) (e ∷ with_kind s es)))
kind_with_at true s e es h r = (refl, rw h (omega arith))
kind_with_at false s e es h r = (rw (h, r.0), rw h (omega arith))

pub kind_with : (s : Spot) (es : List Spot) → (find_kind s.bytes (with_kind s es) ≡ find_kind s.bytes es) × (find_kind s.bytes es < length (with_kind s es))
kind_with s [] = (rw (same_refl s.bytes), omega arith)
kind_with s (e ∷ es) = kind_with_at (bytes_eq e.bytes s.bytes) s e es refl (kind_with s es)

later_leaf : (k : Class) (v : ℕ) (T U : Tables) → Words T U → Later T (make k v 1024 T.nodes U).tables
later_leaf k v T U w =
    let c = leaf_closing k v T.nodes in
    let e = c.size in
    record { same = λ i h. c.old i h (λ x. x); longer = omega arith; words = record { names_kept = w.names_kept; kinds_kept = w.kinds_kept } }

meant_name : (s : Spot) (T : Tables) → Ended T (make_name s T) (λ U lo n. ItemAt U lo n (named s))
meant_name s T =
    let c = leaf_closing Name (find_name s.bytes T.names) T.nodes in
    record {
      at_end = name_at (ap (λ y. y.class) c.new) (subst (λ v. NameNumber s.bytes v (make_name s T).tables) (sym (ap (λ y. y.value) c.new)) (known_with s T.names));
      size = c.size;
      free = ap (λ y. y.next) c.new;
      later = later_leaf Name (find_name s.bytes T.names) T (name_known s T) (record { names_kept = λ w i h. known_keep w i s T.names h; kinds_kept = λ w i h. h });
    }

meant_token : (k : Terminal) (s : Spot) (T : Tables) → Ended T (make_token s T) (λ U lo n. ItemAt U lo n (literal k s))
meant_token k s T =
    let i = find_kind s.bytes T.kinds in
    let c = leaf_closing Token (suc i) T.nodes in
    record {
      at_end = token_at i (ap (λ y. y.class) c.new) (ap (λ y. y.value) c.new) (kind_with s T.kinds);
      size = c.size;
      free = ap (λ y. y.next) c.new;
      later = later_leaf Token (suc i) T (record { names = T.names; kinds = with_kind s T.kinds; nodes = T.nodes })
          (record { names_kept = λ w j h. h; kinds_kept = λ w j h. (let r = kind_keep w s T.kinds (rw h.0 h.1) in (r.0 ∙ h.0, subst (λ n. n < length (with_kind s T.kinds)) h.0 r.1)) });
    }

-- a sequence before its end
pub record ListedSo (T : Tables) (ns : List ℕ) (S : Listed) (xs : Sequence) : Type 0 where
  pub new : List ℕ
  pub items_are : S.items ≡ ns ++ new
  pub at_end : ItemsAt S.tables (length T.nodes) (length S.tables.nodes) new xs
  pub free : (c : ℕ) → In c new → (node S.tables.nodes c).next ≡ 1024
  pub later : Later T S.tables

-- the end of a sequence
close_later : (k : Class) (f : ℕ) (cs : List ℕ) (T S : Tables) → Later T S → ((c : ℕ) → In c cs → length T.nodes ≤ c) → Closing k 0 f cs S.nodes → Later T (make k 0 f (link cs S.nodes) S).tables
close_later k f cs T S l low c =
    let p = l.longer in
    let q = c.size in
    let r = c.at_is in
    record { same = λ i h. c.old i (omega arith) (λ x. let g = low i x in omega arith) ∙ l.same i h; longer = omega arith; words = words_trans l.words (record { names_kept = λ w i h. h; kinds_kept = λ w i h. h }) }

end_sequence_meant : (T S : Tables) (lo hi : ℕ) (new : List ℕ) (xs : Sequence) → lo ≡ length T.nodes → hi ≡ length S.nodes → ItemsAt S lo hi new xs
    → ((c : ℕ) → In c new → (node S.nodes c).next ≡ 1024) → Later T S → Ended T (end_sequence new S) (λ U lo n. SequenceAt U lo n xs)
end_sequence_meant T S lo hi [] xs e g no_items f l =
    let c = leaf_closing Empty 0 S.nodes in
    record {
      at_end = subst (λ z. SequenceAt (end_sequence [] S).tables z (length S.nodes) nothing) (sym g ∙ e) (empty_at (ap (λ y. y.class) c.new));
      size = c.size;
      free = ap (λ y. y.next) c.new;
      later = close_later Empty 1024 [] T S l (λ c i. elim i [ ]) c;
    }
end_sequence_meant T S lo hi (c ∷ []) xs e g (more_items {x = x} i no_items) f l =
    record { at_end = subst (λ z. SequenceAt S z c (item x nothing)) e (single_at i); size = sym g; free = f c (inl refl); later = l }
end_sequence_meant T S lo hi (c ∷ d ∷ cs) xs e g is f l =
    let within : (x : ℕ) → In x (c ∷ d ∷ cs) → x < length S.nodes = λ x i. (let b = (items_in is x i).1 in omega arith) in
    let low : (x : ℕ) → In x (c ∷ d ∷ cs) → length T.nodes ≤ x = λ x i. (let b = (items_in is x i).0 in omega arith) in
    let k : Closing Chain 0 c (c ∷ d ∷ cs) S.nodes = closing Chain 0 c (c ∷ d ∷ cs) S.nodes (items_rising is) within f in
    let U : Tables = (end_sequence (c ∷ d ∷ cs) S).tables in
    let js : ItemsAt U lo hi (c ∷ d ∷ cs) xs = frame_item_roots is U (record { names_kept = λ w i h. h; kinds_kept = λ w i h. h }) (λ i p q n. k.old i (omega arith) n) (λ i q. k.skel i (omega arith)) in
    let js' : ItemsAt U (length T.nodes) (length (link (c ∷ d ∷ cs) S.nodes)) (c ∷ d ∷ cs) xs =
    subst (λ z. ItemsAt U z (length (link (c ∷ d ∷ cs) S.nodes)) (c ∷ d ∷ cs) xs) e (subst (λ z. ItemsAt U lo z (c ∷ d ∷ cs) xs) (g ∙ sym k.at_is) js) in
    record {
      at_end = chain_at (ap (λ y. y.class) k.new) (ap (λ y. y.first) k.new) k.links js';
      size = k.size;
      free = ap (λ y. y.next) k.new;
      later = close_later Chain c (c ∷ d ∷ cs) T S l low k;
    }

-- branches before their end
pub record PartedSo (T : Tables) (l : Level) (M : Made) (b : Branches) : Type 0 where
  pub tables : Tables
  pub new : List ℕ
  pub made_is : M ≡ end_branches (l.ended ++ new) tables
  pub at_end : PartsAt tables (length T.nodes) (length tables.nodes) new b
  pub free : (c : ℕ) → In c new → (node tables.nodes c).next ≡ 1024
  pub later : Later T tables

end_branches_meant : (T S : Tables) (lo hi : ℕ) (new : List ℕ) (b : Branches) → lo ≡ length T.nodes → hi ≡ length S.nodes → PartsAt S lo hi new b
    → ((c : ℕ) → In c new → (node S.nodes c).next ≡ 1024) → Later T S → Ended T (end_branches new S) (λ U lo n. BranchesAt U lo n b)
end_branches_meant T S lo hi [] b e g is f l = elim is [ ]
end_branches_meant T S lo hi (c ∷ []) b e g (last_part {xs = xs} s) f l =
    record { at_end = subst (λ z. BranchesAt S z c (last xs)) e (one_at s); size = sym g; free = f c (inl refl); later = l }
end_branches_meant T S lo hi (c ∷ []) b e g (more_parts s p) f l = absurd (no_parts p)
  where
    no_parts : {S : Tables} {lo hi : ℕ} {b : Branches} → PartsAt S lo hi [] b → ⊥
    no_parts p = elim p [ ]
end_branches_meant T S lo hi (c ∷ d ∷ cs) b e g is f l =
    let within : (x : ℕ) → In x (c ∷ d ∷ cs) → x < length S.nodes = λ x i. (let q = (parts_in is x i).1 in omega arith) in
    let low : (x : ℕ) → In x (c ∷ d ∷ cs) → length T.nodes ≤ x = λ x i. (let q = (parts_in is x i).0 in omega arith) in
    let k : Closing Alternative 0 c (c ∷ d ∷ cs) S.nodes = closing Alternative 0 c (c ∷ d ∷ cs) S.nodes (parts_rising is) within f in
    let U : Tables = (end_branches (c ∷ d ∷ cs) S).tables in
    let js : PartsAt U lo hi (c ∷ d ∷ cs) b = frame_part_roots is U (record { names_kept = λ w i h. h; kinds_kept = λ w i h. h }) (λ i p q n. k.old i (omega arith) n) (λ i q. k.skel i (omega arith)) in
    let js' : PartsAt U (length T.nodes) (length (link (c ∷ d ∷ cs) S.nodes)) (c ∷ d ∷ cs) b =
    subst (λ z. PartsAt U z (length (link (c ∷ d ∷ cs) S.nodes)) (c ∷ d ∷ cs) b) e (subst (λ z. PartsAt U lo z (c ∷ d ∷ cs) b) (g ∙ sym k.at_is) js) in
    record {
      at_end = either_at (ap (λ y. y.class) k.new) (ap (λ y. y.first) k.new) k.links js';
      size = k.size;
      free = ap (λ y. y.next) k.new;
      later = close_later Alternative c (c ∷ d ∷ cs) T S l low k;
    }

-- a group around branches
module _ (k : Class) (T : Tables) (B : Branches) (M : Made) (m : Ended T M (λ U lo n. BranchesAt U lo n B)) where
  group_closing : Closing k 0 M.at (M.at ∷ []) M.tables.nodes
  group_closing =
      let z = m.size in
      closing k 0 M.at (M.at ∷ []) M.tables.nodes tt (λ c i. elim i [ inl e ↦ omega arith | inr x ↦ elim x [ ] ])
      (λ c i. elim i [ inl e ↦ subst (λ y. (node M.tables.nodes y).next ≡ 1024) e m.free | inr x ↦ elim x [ ] ])

  group_inside : Closing k 0 M.at (M.at ∷ []) M.tables.nodes → BranchesAt (make k 0 M.at M.tables.nodes M.tables).tables (length T.nodes) M.at B
  group_inside c =
      let z = m.size in
      frame_branches m.at_end (make k 0 M.at M.tables.nodes M.tables).tables (record { names_kept = λ w i h. h; kinds_kept = λ w i h. h })
      (λ i p q. c.old i (omega arith) (λ y. elim y [ inl e ↦ omega arith | inr x ↦ elim x [ ] ])) (c.skel M.at (omega arith))

  group_later : Closing k 0 M.at (M.at ∷ []) M.tables.nodes → Later T (make k 0 M.at M.tables.nodes M.tables).tables
  group_later c =
      let a = branches_le m.at_end in
      close_later k M.at (M.at ∷ []) T M.tables m.later (λ x i. elim i [ inl e ↦ omega arith | inr y ↦ elim y [ ] ]) c

group_meant : (b : Bracket) (s t : Spot) (T : Tables) (B : Branches) (M : Made) → Ended T M (λ U lo n. BranchesAt U lo n B) → Ended T (end_group b M) (λ U lo n. ItemAt U lo n (group b s B t))
group_meant round s t T B M m = record { at_end = round_at m.at_end; size = m.size; free = m.free; later = m.later }
group_meant square s t T B M m =
    let c = group_closing Optional T B M m in
    let U : Tables = (end_group square M).tables in
    record {
      at_end = subst (λ z. ItemAt U (length T.nodes) z (group square s B t)) (sym m.size)
          (square_at (subst (λ z. (node U.nodes z).class ≡ Optional) m.size (ap (λ y. y.class) c.new)) (subst (λ z. (node U.nodes z).first ≡ M.at) m.size (ap (λ y. y.first) c.new)) c.links.0
          (group_inside Optional T B M m c));
      size = c.size;
      free = ap (λ y. y.next) c.new;
      later = group_later Optional T B M m c;
    }
group_meant curly s t T B M m =
    let c = group_closing Repetition T B M m in
    let U : Tables = (end_group curly M).tables in
    record {
      at_end = subst (λ z. ItemAt U (length T.nodes) z (group curly s B t)) (sym m.size)
          (curly_at (subst (λ z. (node U.nodes z).class ≡ Repetition) m.size (ap (λ y. y.class) c.new)) (subst (λ z. (node U.nodes z).first ≡ M.at) m.size (ap (λ y. y.first) c.new)) c.links.0
          (group_inside Repetition T B M m c));
      size = c.size;
      free = ap (λ y. y.next) c.new;
      later = group_later Repetition T B M m c;
    }

whole_meant : (b : Branches) (T : Tables) (M : Made) → PartedSo T no_level M b → Ended T M (λ U lo n. BranchesAt U lo n b)
whole_meant b T M p =
    subst (λ X. Ended T X (λ U lo n. BranchesAt U lo n b)) (sym p.made_is) (end_branches_meant T p.tables (length T.nodes) (length p.tables.nodes) p.new b refl refl p.at_end p.free p.later)

ended_sequence : (xs : Sequence) (T : Tables) → ListedSo T [] (number_sequence xs [] T) xs → Ended T (end_sequence (number_sequence xs [] T).items (number_sequence xs [] T).tables) (λ U lo n. SequenceAt U lo n xs)
ended_sequence xs T r =
    let S : Listed = number_sequence xs [] T in
    subst (λ ns. Ended T (end_sequence ns S.tables) (λ U lo n. SequenceAt U lo n xs)) (sym r.items_are)
    (end_sequence_meant T S.tables (length T.nodes) (length S.tables.nodes) r.new xs refl refl r.at_end r.free r.later)

mutual
  item_meant : (x : Item) (T : Tables) → Ended T (number_item x T) (λ U lo n. ItemAt U lo n x)
  item_meant (named s) T = meant_name s T
  item_meant (literal k s) T = meant_token k s T
  item_meant (group b s inside t) T = group_meant b s t T inside (number_branches inside no_level T) (whole_meant inside T (number_branches inside no_level T) (branches_meant inside [] T))

  sequence_meant : (xs : Sequence) (ns : List ℕ) (T : Tables) → ListedSo T ns (number_sequence xs ns T) xs
  sequence_meant nothing ns T = record { new = []; items_are = sym (append-nil ns); at_end = no_items; free = λ c i. elim i [ ]; later = later_refl T }
  sequence_meant (item x xs) ns T =
      let M : Made = number_item x T in
      let m : Ended T M (λ U lo n. ItemAt U lo n x) = item_meant x T in
      let r : ListedSo M.tables (ns ++ (M.at ∷ [])) (number_sequence xs (ns ++ (M.at ∷ [])) M.tables) xs = sequence_meant xs (ns ++ (M.at ∷ [])) M.tables in
      let S : Tables = (number_sequence xs (ns ++ (M.at ∷ [])) M.tables).tables in
      let z = m.size in
      let i : ItemAt S (length T.nodes) M.at x =
      frame_item m.at_end S r.later.words (λ j p q. r.later.same j (omega arith)) (skeleton (node S.nodes M.at) (node M.tables.nodes M.at) (r.later.same M.at (omega arith))) in
      record {
        new = M.at ∷ r.new;
        items_are = r.items_are ∙ append_assoc ns (M.at ∷ []) r.new;
        at_end = more_items i (subst (λ h. ItemsAt S h (length S.nodes) r.new xs) z r.at_end);
        free = λ c j. elim j [ inl e ↦ subst (λ y. (node S.nodes y).next ≡ 1024) e (ap (λ y. y.next) (r.later.same M.at (omega arith)) ∙ m.free) | inr k ↦ r.free c k ];
        later = later_trans m.later r.later;
      }

  branches_meant : (b : Branches) (ended : List ℕ) (T : Tables) → PartedSo T (record { ended = ended; items = [] }) (number_branches b (record { ended = ended; items = [] }) T) b
  branches_meant (last xs) ended T =
      let S : Listed = number_sequence xs [] T in
      let M : Made = end_sequence S.items S.tables in
      let m : Ended T M (λ U lo n. SequenceAt U lo n xs) = ended_sequence xs T (sequence_meant xs [] T) in
      record {
        tables = M.tables;
        new = M.at ∷ [];
        made_is = refl;
        at_end = subst (λ h. PartsAt M.tables (length T.nodes) h (M.at ∷ []) (last xs)) (sym m.size) (last_part m.at_end);
        free = λ c i. elim i [ inl e ↦ subst (λ y. (node M.tables.nodes y).next ≡ 1024) e m.free | inr x ↦ elim x [ ] ];
        later = m.later;
      }
  branches_meant (either xs s more) ended T =
      let S : Listed = number_sequence xs [] T in
      let M : Made = end_sequence S.items S.tables in
      let m : Ended T M (λ U lo n. SequenceAt U lo n xs) = ended_sequence xs T (sequence_meant xs [] T) in
      let r : PartedSo M.tables (record { ended = ended ++ (M.at ∷ []); items = [] }) (number_branches more (record { ended = ended ++ (M.at ∷ []); items = [] }) M.tables) more = branches_meant more (ended ++ (M.at ∷ [])) M.tables in
      let V : Tables = r.tables in
      let z = m.size in
      let i : SequenceAt V (length T.nodes) M.at xs =
      frame_sequence m.at_end V r.later.words (λ j p q. r.later.same j (omega arith)) (skeleton (node V.nodes M.at) (node M.tables.nodes M.at) (r.later.same M.at (omega arith))) in
      record {
        tables = V;
        new = M.at ∷ r.new;
        made_is = r.made_is ∙ ap (λ ns. end_branches ns V) (append_assoc ended (M.at ∷ []) r.new);
        at_end = more_parts i (subst (λ h. PartsAt V h (length V.nodes) r.new more) z r.at_end);
        free = λ c j. elim j [ inl e ↦ subst (λ y. (node V.nodes y).next ≡ 1024) e (ap (λ y. y.next) (r.later.same M.at (omega arith)) ∙ m.free) | inr k ↦ r.free c k ];
        later = later_trans m.later r.later;
      }

pub body_meant : (b : Branches) (T : Tables) → Ended T (number_branches b no_level T) (λ U lo n. BranchesAt U lo n b)
body_meant b T = whole_meant b T (number_branches b no_level T) (branches_meant b [] T)
