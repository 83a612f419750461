-- The tables that numbering gives are those listed from the syntax.
use Rattle.std.proofs.Common.{◌≡◌, ℕ, zero, suc, ◌+◌, ◌<◌, Bool, true, false, cond, List, [], ◌∷◌, ◌++◌, length, get_or, sym, refl, ap, ◌∙◌, subst, inl, inr, append_assoc, append-nil, arith, length-append}
use mathlib.Core.Option.{Option, none, some}
use Rattle.std.proofs.lemmas.List.{set_at, get_or_at}
use Rattle.std.specs.Str.{bytes_eq}
use Rattle.notation.specs.Tokens.{Bracket, round, square, curly, Spot, Token as Tok, name, terminal, arrow, bar, semi, opening, closing}
use Rattle.notation.specs.Syntax.{Item, named, literal, group, Sequence, nothing, item, Branches, last, either, Rule, spell_item, spell_sequence, spell_branches, spell_rule, spell}
use Rattle.tree.specs.Tree.{no_node}
use Rattle.notation.specs.Tables.{Entry, Tables, no_tables, find_name, find_kind, with_name, with_kind, with_root, join, link}
use Rattle.notation.specs.Numbering.{Made, Listed, Level, no_level, next_branch, make, name_known, end_sequence, end_branches, end_group, number_item, number_sequence, number_branches, number_rule, number_rules, numbering}
use Rattle.notation.specs.Statements.{ReadRight, Has, Distinct, written, firsts, name_in, kind_in, gather, names_in, kinds_in}
use Rattle.notation.specs.Shaped.{root_at}
use Rattle.notation.specs.Listing.{size_item, size_items, size_sequence, size_parts, size_branches, size_rules, root_node, first_item, first_part, node_of, nodes_item, nodes_items, nodes_sequence, nodes_parts, nodes_branches, nodes_rules, root_of, entries, listing, NumberingListed, NodesSized, ReadingLists}
use Rattle.tree.specs.declared.class.Class.{Class}
use Rattle.tree.specs.declared.class.Class.TheVariants.{Empty, Token, Name, Chain, Alternative, Optional, Repetition}
use Rattle.tree.specs.declared.node.Node.{Node}
use Rattle.notation.proofs.Names.{same_true, same_false, same_refl, SameWords, words_sequence, words_level, words_group, firsts_name, firsts_root, length_firsts}
use Rattle.notation.proofs.Roots.{Known, known_keep, known_with, keep_branches}
use Rattle.notation.proofs.Begins.{reading_sound}
use Rattle.notation.proofs.Told.{names_distinct}
use Rattle.notation.proofs.Kept.{root_with, root_set, root_keep}
use Rattle.notation.proofs.Meant.{kind_keep, kind_with}

-- a part's nodes: only the last of them, its root, depends on the sibling after it
pub record Whole (f : ℕ → List Node) (size : ℕ) : Type 0 where
  pub init : List Node
  pub class : Class
  pub value : ℕ
  pub first : ℕ
  pub is : (n : ℕ) → f n ≡ init ++ (node_of class value first n ∷ [])
  pub at : length init + 1 ≡ size

pub whole_length : {f : ℕ → List Node} {size : ℕ} → Whole f size → (n : ℕ) → length (f n) ≡ size
whole_length w n =
    let a = w.at in
    rw (w.is n) (simp length-append (omega arith))

-- joining at the root
join_at : (p : List Node) (y : Node) (ys : List Node) (n m : ℕ) → length p ≡ n → join n m (p ++ (y ∷ ys)) ≡ p ++ (node_of y.class y.value y.first m ∷ ys)
join_at p y ys n m e =
    set_at p y ys _ n e ∙ ap (λ z. p ++ (node_of z.class z.value z.first m ∷ ys)) (get_or_at p y ys no_node n e)

pub join_whole : {f : ℕ → List Node} {size : ℕ} → Whole f size → (base : ℕ) (pre post : List Node) (n m : ℕ) → length pre ≡ base
    → join (root_node base size) m ((pre ++ f n) ++ post) ≡ (pre ++ f m) ++ post
join_whole {f} {size} w base pre post n m e =
    let y : ℕ → Node = λ k. node_of w.class w.value w.first k in
    let a : (k : ℕ) → (pre ++ f k) ++ post ≡ (pre ++ w.init) ++ (y k ∷ post) = λ k. rw (w.is k) (simp append_assoc) in
    let q = w.at in
    let l : length (pre ++ w.init) ≡ root_node base size = simp length-append (omega arith) in
    ap (join (root_node base size) m) (a n) ∙ join_at (pre ++ w.init) (y n) post (root_node base size) m l ∙ sym (a m)

both : (a b : List Node) (m n : ℕ) → length a ≡ m → length b ≡ n → length (a ++ b) ≡ m + n
both a b m n p q = simp length-append (omega arith)

-- the roots of items and of sequences
abbrev roots_items : Sequence → ℕ → List ℕ
roots_items nothing base = []
roots_items (item x xs) base = root_node base (size_item x) ∷ roots_items xs (base + size_item x)

abbrev roots_parts : Branches → ℕ → List ℕ
roots_parts (last xs) base = root_node base (size_sequence xs) ∷ []
roots_parts (either xs s more) base = root_node base (size_sequence xs) ∷ roots_parts more (base + size_sequence xs)

-- one more part in front of a row that is linked
link_more : {f : ℕ → List Node} {size : ℕ} → Whole f size → (base : ℕ) (pre row free : List Node) (m : ℕ) (rest : List ℕ) → length pre ≡ base
    → ((p : List Node) → length p ≡ base + size → link (m ∷ rest) (p ++ free) ≡ p ++ row)
    → link (root_node base size ∷ m ∷ rest) (pre ++ (f 1024 ++ free)) ≡ pre ++ (f m ++ row)
link_more {f} {size} w base pre row free m rest e ih =
    let n : ℕ = root_node base size in
    ap (λ ns. join n m (link (m ∷ rest) ns)) (sym (append_assoc pre (f 1024) free)) ∙ ap (join n m) (ih (pre ++ f 1024) (both pre (f 1024) base size e (whole_length w 1024)))
    ∙ join_whole w base pre row 1024 m e ∙ append_assoc pre (f m) row

-- names and kinds are gathered from the tokens
gather_append : (f : Tok → List Spot → List Spot) (l : List Spot) (a b : List Tok) → gather f l (a ++ b) ≡ gather f (gather f l a) b
gather_append f l [] b = refl
gather_append f l (t ∷ a) b = gather_append f (f t l) a b

pub record Worded (T U : Tables) (ts : List Tok) : Type 0 where
  pub names : firsts U.names ≡ gather name_in (firsts T.names) ts
  pub kinds : U.kinds ≡ gather kind_in T.kinds ts

worded_trans : {T U V : Tables} (a b : List Tok) → Worded T U a → Worded U V b → Worded T V (a ++ b)
worded_trans {T} a b p q =
    record {
      names = q.names ∙ ap (λ l. gather name_in l b) p.names ∙ sym (gather_append name_in (firsts T.names) a b);
      kinds = q.kinds ∙ ap (λ l. gather kind_in l b) p.kinds ∙ sym (gather_append kind_in T.kinds a b);
    }

worded_same : {T U V : Tables} {ts : List Tok} → Worded T U ts → SameWords U V → Worded T V ts
worded_same w s = record { names = ap firsts s.names ∙ w.names; kinds = s.kinds ∙ w.kinds }

mutual
  pub worded_item : (x : Item) (T : Tables) → Worded T (number_item x T).tables (spell_item x)
  worded_item (named s) T = record { names = firsts_name s T.names; kinds = refl }
  worded_item (literal k s) T = record { names = refl; kinds = refl }
  worded_item (group b s inside t) T =
      let M : Made = number_branches inside no_level T in
      let w : Worded T (end_group b M).tables (spell_branches inside) = worded_same (worded_branches inside no_level T) (words_group b M) in
      let v : Worded T (end_group b M).tables (spell_branches inside ++ (closing b t ∷ [])) = worded_trans (spell_branches inside) (closing b t ∷ []) w (record { names = refl; kinds = refl }) in
      record { names = v.names; kinds = v.kinds }

  pub worded_sequence : (xs : Sequence) (ns : List ℕ) (T : Tables) → Worded T (number_sequence xs ns T).tables (spell_sequence xs)
  worded_sequence nothing ns T = record { names = refl; kinds = refl }
  worded_sequence (item x xs) ns T =
      let M : Made = number_item x T in
      worded_trans (spell_item x) (spell_sequence xs) (worded_item x T) (worded_sequence xs (ns ++ (M.at ∷ [])) M.tables)

  pub worded_branches : (b : Branches) (l : Level) (T : Tables) → Worded T (number_branches b l T).tables (spell_branches b)
  worded_branches (last xs) l T =
      let S : Listed = number_sequence xs l.items T in
      worded_same (worded_sequence xs l.items T) (words_level (record { ended = l.ended; items = S.items }) S.tables)
  worded_branches (either xs s more) l T =
      let S : Listed = number_sequence xs l.items T in
      let M : Made = end_sequence S.items S.tables in
      let w = worded_branches more (next_branch l M.at) M.tables in
      worded_trans (spell_sequence xs) (bar s ∷ spell_branches more) (worded_same (worded_sequence xs l.items T) (words_sequence S.items S.tables)) (record { names = w.names; kinds = w.kinds })

-- a word keeps its number as more are gathered
abbrev pub SpotKnown : List ℕ → ℕ → List Spot → Type 0
SpotKnown w i l = (find_kind w l ≡ i) × (i < length l)

keep_spot : (w : List ℕ) (i : ℕ) (s : Spot) (l : List Spot) → SpotKnown w i l → SpotKnown w i (with_kind s l)
keep_spot w i s l h = let r = kind_keep w s l (rw h.0 h.1) in (r.0 ∙ h.0, subst (λ n. n < length (with_kind s l)) h.0 r.1)

keep_name : (w : List ℕ) (i : ℕ) (t : Tok) (l : List Spot) → SpotKnown w i l → SpotKnown w i (name_in t l)
keep_name w i (name s) l h = keep_spot w i s l h
keep_name w i (terminal k s) l h = h
keep_name w i (arrow s) l h = h
keep_name w i (bar s) l h = h
keep_name w i (semi s) l h = h
keep_name w i (opening b s) l h = h
keep_name w i (closing b s) l h = h

keep_kind : (w : List ℕ) (i : ℕ) (t : Tok) (l : List Spot) → SpotKnown w i l → SpotKnown w i (kind_in t l)
keep_kind w i (name s) l h = h
keep_kind w i (terminal k s) l h = keep_spot w i s l h
keep_kind w i (arrow s) l h = h
keep_kind w i (bar s) l h = h
keep_kind w i (semi s) l h = h
keep_kind w i (opening b s) l h = h
keep_kind w i (closing b s) l h = h

keep_gathered : (f : Tok → List Spot → List Spot) (w : List ℕ) (i : ℕ) → ((t : Tok) (l : List Spot) → SpotKnown w i l → SpotKnown w i (f t l))
    → (ts : List Tok) (l : List Spot) → SpotKnown w i l → SpotKnown w i (gather f l ts)
keep_gathered f w i k [] l h = h
keep_gathered f w i k (t ∷ ts) l h = keep_gathered f w i k ts (f t l) (k t l h)

find_firsts : (w : List ℕ) (es : List Entry) → find_name w es ≡ find_kind w (firsts es)
find_firsts w [] = refl
find_firsts w (e ∷ es) = ap (λ k. cond (bytes_eq e.first.bytes w) 0 (suc k)) (find_firsts w es)

worded_body : (r : Rule) (T : Tables) → Worded (name_known r.head T) (number_rule r T) (spell_branches r.body ++ (semi r.stop ∷ []))
worded_body r T =
    let M : Made = number_branches r.body no_level (name_known r.head T) in
    worded_trans (spell_branches r.body) (semi r.stop ∷ []) (worded_branches r.body no_level (name_known r.head T))
    (record { names = firsts_root (find_name r.head.bytes T.names) M.at M.tables.names; kinds = refl })

pub worded_rules : (rs : List Rule) (T : Tables) → Worded T (number_rules rs T) (spell rs)
worded_rules [] T = record { names = refl; kinds = refl }
worded_rules (r ∷ rs) T =
    worded_trans (spell_rule r) (spell rs)
    (worded_trans (name r.head ∷ arrow r.becomes ∷ []) (spell_branches r.body ++ (semi r.stop ∷ [])) (record { names = firsts_name r.head T.names; kinds = refl }) (worded_body r T))
    (worded_rules rs (number_rule r T))

-- what numbering a part gives from tables T on: these nodes, and the last as root
pub record Part (T : Tables) (M : Made) (ns : List Node) (size : ℕ) : Type 0 where
  pub nodes_are : M.tables.nodes ≡ T.nodes ++ ns
  pub at_is : M.at ≡ root_node (length T.nodes) size

-- .. of items before they are linked
pub record Items (T : Tables) (ns : List ℕ) (S : Listed) (free : List Node) (roots : List ℕ) : Type 0 where
  pub nodes_are : S.tables.nodes ≡ T.nodes ++ free
  pub items_are : S.items ≡ ns ++ roots

-- .. of sequences before they are linked
pub record Parts (T : Tables) (ended : List ℕ) (M : Made) (free : List Node) (roots : List ℕ) : Type 0 where
  pub tables : Tables
  pub made_is : M ≡ end_branches (ended ++ roots) tables
  pub nodes_are : tables.nodes ≡ T.nodes ++ free

abbrev or_else : Option ℕ → Option ℕ → Option ℕ
or_else (some n) p = some n
or_else none p = p

or_nothing : (o : Option ℕ) → or_else o none ≡ o
or_nothing (some n) = refl
or_nothing none = refl

abbrev own_root : Bool → ℕ → Option ℕ → Option ℕ
own_root true n o = some n
own_root false n o = o

or_own : (o : Option ℕ) (b : Bool) (n : ℕ) (p : Option ℕ)
    → or_else o (own_root b n p) ≡ or_else (elim o [ some m ↦ some m | none ↦ elim b [ true ↦ some n | false ↦ none ] ]) p
or_own (some m) b n p = refl
or_own none true n p = refl
or_own none false n p = refl

module _ (nm km : List ℕ → ℕ) where
  mutual
    whole_item : (x : Item) (base : ℕ) → Whole (nodes_item nm km x base) (size_item x)
    whole_item (named s) base = record { init = []; class = Name; value = nm s.bytes; first = 1024; is = λ n. refl; at = refl }
    whole_item (literal k s) base = record { init = []; class = Token; value = km s.bytes; first = 1024; is = λ n. refl; at = refl }
    whole_item (group round s inside t) base = whole_branches inside base
    whole_item (group square s inside t) base =
        record { init = nodes_branches nm km inside base 1024; class = Optional; value = 0; first = root_node base (size_branches inside); is = λ n. refl; at = ap (λ n. n + 1) (whole_length (whole_branches inside base) 1024) }
    whole_item (group curly s inside t) base =
        record { init = nodes_branches nm km inside base 1024; class = Repetition; value = 0; first = root_node base (size_branches inside); is = λ n. refl; at = ap (λ n. n + 1) (whole_length (whole_branches inside base) 1024) }

    items_length : (xs : Sequence) (base : ℕ) → length (nodes_items nm km xs base) ≡ size_items xs
    items_length nothing base = refl
    items_length (item x xs) base = both _ _ (size_item x) (size_items xs) (whole_length (whole_item x base) (first_item xs (base + size_item x))) (items_length xs (base + size_item x))

    whole_sequence : (xs : Sequence) (base : ℕ) → Whole (nodes_sequence nm km xs base) (size_sequence xs)
    whole_sequence nothing base = record { init = []; class = Empty; value = 0; first = 1024; is = λ n. refl; at = refl }
    whole_sequence (item x nothing) base = whole_item x base
    whole_sequence (item x (item y more)) base =
        let l = both _ _ (size_item x) (size_items (item y more)) (whole_length (whole_item x base) (first_item (item y more) (base + size_item x))) (items_length (item y more) (base + size_item x)) in
        record { init = nodes_items nm km (item x (item y more)) base; class = Chain; value = 0; first = root_node base (size_item x); is = λ n. refl; at = ap (λ n. n + 1) l }

    parts_length : (b : Branches) (base : ℕ) → length (nodes_parts nm km b base) ≡ size_parts b
    parts_length (last xs) base = whole_length (whole_sequence xs base) 1024
    parts_length (either xs s more) base = both _ _ (size_sequence xs) (size_parts more) (whole_length (whole_sequence xs base) (first_part more (base + size_sequence xs))) (parts_length more (base + size_sequence xs))

    whole_branches : (b : Branches) (base : ℕ) → Whole (nodes_branches nm km b base) (size_branches b)
    whole_branches (last xs) base = whole_sequence xs base
    whole_branches (either xs s more) base =
        let l = both _ _ (size_sequence xs) (size_parts more) (whole_length (whole_sequence xs base) (first_part more (base + size_sequence xs))) (parts_length more (base + size_sequence xs)) in
        record { init = nodes_parts nm km (either xs s more) base; class = Alternative; value = 0; first = root_node base (size_sequence xs); is = λ n. refl; at = ap (λ n. n + 1) l }

  -- items and sequences before they are linked
  abbrev free_items : Sequence → ℕ → List Node
  free_items nothing base = []
  free_items (item x xs) base = nodes_item nm km x base 1024 ++ free_items xs (base + size_item x)

  abbrev free_parts : Branches → ℕ → List Node
  free_parts (last xs) base = nodes_sequence nm km xs base 1024
  free_parts (either xs s more) base = nodes_sequence nm km xs base 1024 ++ free_parts more (base + size_sequence xs)

  link_items : (xs : Sequence) (base : ℕ) (pre : List Node) → length pre ≡ base → link (roots_items xs base) (pre ++ free_items xs base) ≡ pre ++ nodes_items nm km xs base
  link_items nothing base pre e = refl
  link_items (item x nothing) base pre e = refl
  link_items (item x (item y more)) base pre e =
      let b : ℕ = base + size_item x in
      link_more (whole_item x base) base pre (nodes_items nm km (item y more) b) (free_items (item y more) b) (root_node b (size_item y)) (roots_items more (b + size_item y)) e (link_items (item y more) b)

  link_parts : (bs : Branches) (base : ℕ) (pre : List Node) → length pre ≡ base → link (roots_parts bs base) (pre ++ free_parts bs base) ≡ pre ++ nodes_parts nm km bs base
  link_parts (last xs) base pre e = refl
  link_parts (either xs s (last ys)) base pre e =
      let b : ℕ = base + size_sequence xs in
      link_more (whole_sequence xs base) base pre (nodes_parts nm km (last ys) b) (free_parts (last ys) b) (root_node b (size_sequence ys)) [] e (link_parts (last ys) b)
  link_parts (either xs s (either ys t more)) base pre e =
      let b : ℕ = base + size_sequence xs in
      link_more (whole_sequence xs base) base pre (nodes_parts nm km (either ys t more) b) (free_parts (either ys t more) b) (root_node b (size_sequence ys)) (roots_parts more (b + size_sequence ys)) e (link_parts (either ys t more) b)

  -- the words of these tables have these numbers
  pub record Agree (U : Tables) : Type 0 where
    pub names : (w : List ℕ) (i : ℕ) → SpotKnown w i (firsts U.names) → nm w ≡ i
    pub kinds : (w : List ℕ) (i : ℕ) → SpotKnown w i U.kinds → km w ≡ suc i

  agree_back : {T U : Tables} (ts : List Tok) → Worded T U ts → Agree U → Agree T
  agree_back {T} ts v a =
      record {
        names = λ w i k. a.names w i (subst (SpotKnown w i) (sym v.names) (keep_gathered name_in w i (keep_name w i) ts (firsts T.names) k));
        kinds = λ w i k. a.kinds w i (subst (SpotKnown w i) (sym v.kinds) (keep_gathered kind_in w i (keep_kind w i) ts T.kinds k));
      }

  agree_same : {T U : Tables} → SameWords T U → Agree U → Agree T
  agree_same v a =
      record {
        names = λ w i k. a.names w i (subst (λ l. SpotKnown w i (firsts l)) (sym v.names) k);
        kinds = λ w i k. a.kinds w i (subst (SpotKnown w i) (sym v.kinds) k);
      }

  after_part : (T : Tables) (M : Made) (f : ℕ → List Node) (size : ℕ) → Whole f size → Part T M (f 1024) size → length M.tables.nodes ≡ length T.nodes + size
  after_part T M f size w p = ap length p.nodes_are ∙ both T.nodes (f 1024) (length T.nodes) size refl (whole_length w 1024)

  -- one node more over a row that is linked
  closed : (k : Class) (f : ℕ) (roots : List ℕ) (row : List Node) (n : ℕ) (T S : Tables) → link roots S.nodes ≡ T.nodes ++ row → length row ≡ n
      → Part T (make k 0 f (link roots S.nodes) S) (row ++ (node_of k 0 f 1024 ∷ [])) (n + 1)
  closed k f roots row n T S g l =
      record {
        nodes_are = ap (λ ns. ns ++ (node_of k 0 f 1024 ∷ [])) g ∙ append_assoc T.nodes row (node_of k 0 f 1024 ∷ []);
        at_is = ap length g ∙ both T.nodes row (length T.nodes) n refl l ∙ omega arith;
      }

  ended_sequence : (xs : Sequence) (T S : Tables) → S.nodes ≡ T.nodes ++ free_items xs (length T.nodes)
      → Part T (end_sequence (roots_items xs (length T.nodes)) S) (nodes_sequence nm km xs (length T.nodes) 1024) (size_sequence xs)
  ended_sequence nothing T S e = closed Empty 1024 [] [] 0 T S e refl
  ended_sequence (item x nothing) T S e = record { nodes_are = e ∙ ap (λ ns. T.nodes ++ ns) (append-nil (nodes_item nm km x (length T.nodes) 1024)); at_is = refl }
  ended_sequence (item x (item y more)) T S e =
      let base : ℕ = length T.nodes in
      let xs : Sequence = item x (item y more) in
      closed Chain (root_node base (size_item x)) (roots_items xs base) (nodes_items nm km xs base) (size_items xs) T S (ap (link (roots_items xs base)) e ∙ link_items xs base T.nodes refl) (items_length xs base)

  ended_parts : (b : Branches) (first : ℕ) (T S : Tables) → S.nodes ≡ T.nodes ++ free_parts b (length T.nodes)
      → Part T (make Alternative 0 first (link (roots_parts b (length T.nodes)) S.nodes) S) (nodes_parts nm km b (length T.nodes) ++ (node_of Alternative 0 first 1024 ∷ [])) (size_parts b + 1)
  ended_parts b first T S e =
      let base : ℕ = length T.nodes in
      closed Alternative first (roots_parts b base) (nodes_parts nm km b base) (size_parts b) T S (ap (link (roots_parts b base)) e ∙ link_parts b base T.nodes refl) (parts_length b base)

  ended_branches : (b : Branches) (T S : Tables) → S.nodes ≡ T.nodes ++ free_parts b (length T.nodes)
      → Part T (end_branches (roots_parts b (length T.nodes)) S) (nodes_branches nm km b (length T.nodes) 1024) (size_branches b)
  ended_branches (last xs) T S e = record { nodes_are = e; at_is = refl }
  ended_branches (either xs s (last ys)) T S e = ended_parts (either xs s (last ys)) (root_node (length T.nodes) (size_sequence xs)) T S e
  ended_branches (either xs s (either ys t more)) T S e = ended_parts (either xs s (either ys t more)) (root_node (length T.nodes) (size_sequence xs)) T S e

  over : (k : Class) (inside : Branches) (T : Tables) (M : Made) → Part T M (nodes_branches nm km inside (length T.nodes) 1024) (size_branches inside)
      → Part T (make k 0 M.at M.tables.nodes M.tables) (nodes_branches nm km inside (length T.nodes) 1024 ++ (node_of k 0 (root_node (length T.nodes) (size_branches inside)) 1024 ∷ [])) (size_branches inside + 1)
  over k inside T M p =
      let base : ℕ = length T.nodes in
      let row : List Node = nodes_branches nm km inside base 1024 in
      subst (λ n. Part T (make k 0 M.at M.tables.nodes M.tables) (row ++ (node_of k 0 n 1024 ∷ [])) (size_branches inside + 1)) p.at_is
      (closed k M.at [] row (size_branches inside) T M.tables p.nodes_are (whole_length (whole_branches inside base) 1024))

  parted : (b : Branches) (T : Tables) (M : Made) → Parts T [] M (free_parts b (length T.nodes)) (roots_parts b (length T.nodes))
      → Part T M (nodes_branches nm km b (length T.nodes) 1024) (size_branches b)
  parted b T M p =
      subst (λ X. Part T X (nodes_branches nm km b (length T.nodes) 1024) (size_branches b)) (sym p.made_is) (ended_branches b T p.tables p.nodes_are)

  sequenced : (xs : Sequence) (T : Tables) (S : Listed) → Items T [] S (free_items xs (length T.nodes)) (roots_items xs (length T.nodes))
      → Part T (end_sequence S.items S.tables) (nodes_sequence nm km xs (length T.nodes) 1024) (size_sequence xs)
  sequenced xs T S r =
      subst (λ l. Part T (end_sequence l S.tables) (nodes_sequence nm km xs (length T.nodes) 1024) (size_sequence xs)) (sym r.items_are) (ended_sequence xs T S.tables r.nodes_are)

  -- the end of a group
  ended_group : (b : Bracket) (s t : Spot) (inside : Branches) (T : Tables) (M : Made) → Part T M (nodes_branches nm km inside (length T.nodes) 1024) (size_branches inside)
      → Part T (end_group b M) (nodes_item nm km (group b s inside t) (length T.nodes) 1024) (size_item (group b s inside t))
  ended_group round s t inside T M p = p
  ended_group square s t inside T M p = over Optional inside T M p
  ended_group curly s t inside T M p = over Repetition inside T M p

  mutual
    pub listed_item : (x : Item) (T : Tables) → Agree (number_item x T).tables → Part T (number_item x T) (nodes_item nm km x (length T.nodes) 1024) (size_item x)
    listed_item (named s) T a =
        let l : List Spot = firsts T.names in
        let k : SpotKnown s.bytes (find_kind s.bytes l) (firsts (with_name s T.names)) = subst (SpotKnown s.bytes (find_kind s.bytes l)) (sym (firsts_name s T.names)) (kind_with s l) in
        record {
          nodes_are = ap (λ v. T.nodes ++ (node_of Name v 1024 1024 ∷ [])) (find_firsts s.bytes T.names ∙ sym (a.names s.bytes (find_kind s.bytes l) k));
          at_is = omega arith;
        }
    listed_item (literal k s) T a =
        record { nodes_are = ap (λ v. T.nodes ++ (node_of Token v 1024 1024 ∷ [])) (sym (a.kinds s.bytes (find_kind s.bytes T.kinds) (kind_with s T.kinds))); at_is = omega arith }
    listed_item (group b s inside t) T a =
        let M : Made = number_branches inside no_level T in
        ended_group b s t inside T M (parted inside T M (listed_branches inside [] T (agree_same (words_group b M) a)))

    pub listed_sequence : (xs : Sequence) (ns : List ℕ) (T : Tables) → Agree (number_sequence xs ns T).tables
        → Items T ns (number_sequence xs ns T) (free_items xs (length T.nodes)) (roots_items xs (length T.nodes))
    listed_sequence nothing ns T a = record { nodes_are = sym (append-nil T.nodes); items_are = sym (append-nil ns) }
    listed_sequence (item x xs) ns T a =
        let base : ℕ = length T.nodes in
        let M : Made = number_item x T in
        let more : List ℕ = ns ++ (M.at ∷ []) in
        let m : Part T M (nodes_item nm km x base 1024) (size_item x) = listed_item x T (agree_back (spell_sequence xs) (worded_sequence xs more M.tables) a) in
        let e : length M.tables.nodes ≡ base + size_item x = after_part T M (nodes_item nm km x base) (size_item x) (whole_item x base) m in
        let r : Items M.tables more (number_sequence xs more M.tables) (free_items xs (base + size_item x)) (roots_items xs (base + size_item x)) =
        subst (λ b. Items M.tables more (number_sequence xs more M.tables) (free_items xs b) (roots_items xs b)) e (listed_sequence xs more M.tables a) in
        record {
          nodes_are = r.nodes_are ∙ ap (λ l. l ++ free_items xs (base + size_item x)) m.nodes_are ∙ append_assoc T.nodes (nodes_item nm km x base 1024) (free_items xs (base + size_item x));
          items_are = r.items_are ∙ append_assoc ns (M.at ∷ []) (roots_items xs (base + size_item x)) ∙ ap (λ n. ns ++ (n ∷ roots_items xs (base + size_item x))) m.at_is;
        }

    pub listed_branches : (b : Branches) (ended : List ℕ) (T : Tables) → Agree (number_branches b (record { ended = ended; items = [] }) T).tables
        → Parts T ended (number_branches b (record { ended = ended; items = [] }) T) (free_parts b (length T.nodes)) (roots_parts b (length T.nodes))
    listed_branches (last xs) ended T a =
        let base : ℕ = length T.nodes in
        let S : Listed = number_sequence xs [] T in
        let M : Made = end_sequence S.items S.tables in
        let m : Part T M (nodes_sequence nm km xs base 1024) (size_sequence xs) =
        sequenced xs T S (listed_sequence xs [] T (agree_same (words_level (record { ended = ended; items = S.items }) S.tables) a)) in
        record { tables = M.tables; made_is = ap (λ n. end_branches (ended ++ (n ∷ [])) M.tables) m.at_is; nodes_are = m.nodes_are }
    listed_branches (either xs s more) ended T a =
        let base : ℕ = length T.nodes in
        let S : Listed = number_sequence xs [] T in
        let M : Made = end_sequence S.items S.tables in
        let es : List ℕ = ended ++ (M.at ∷ []) in
        let N : Made = number_branches more (record { ended = es; items = [] }) M.tables in
        let b : ℕ = base + size_sequence xs in
        let a' : Agree M.tables = agree_back (spell_branches more) (worded_branches more (record { ended = es; items = [] }) M.tables) a in
        let m : Part T M (nodes_sequence nm km xs base 1024) (size_sequence xs) = sequenced xs T S (listed_sequence xs [] T (agree_same (words_sequence S.items S.tables) a')) in
        let e : length M.tables.nodes ≡ b = after_part T M (nodes_sequence nm km xs base) (size_sequence xs) (whole_sequence xs base) m in
        let r : Parts M.tables es N (free_parts more b) (roots_parts more b) =
        subst (λ c. Parts M.tables es N (free_parts more c) (roots_parts more c)) e (listed_branches more es M.tables a) in
        record {
          tables = r.tables;
          made_is = r.made_is ∙ ap (λ l. end_branches l r.tables) (append_assoc ended (M.at ∷ []) (roots_parts more b) ∙ ap (λ n. ended ++ (n ∷ roots_parts more b)) m.at_is);
          nodes_are = r.nodes_are ∙ ap (λ l. l ++ free_parts more b) m.nodes_are ∙ append_assoc T.nodes (nodes_sequence nm km xs base 1024) (free_parts more b);
        }

  -- branches in whole
  pub listed_body : (b : Branches) (T : Tables) → Agree (number_branches b no_level T).tables
      → Part T (number_branches b no_level T) (nodes_branches nm km b (length T.nodes) 1024) (size_branches b)
  listed_body b T a = parted b T (number_branches b no_level T) (listed_branches b [] T a)

  agree_body : (r : Rule) (T : Tables) → Agree (number_rule r T) → Agree (number_branches r.body no_level (name_known r.head T)).tables
  agree_body r T a =
      let M : Made = number_branches r.body no_level (name_known r.head T) in
      agree_back (semi r.stop ∷ []) (record { names = firsts_root (find_name r.head.bytes T.names) M.at M.tables.names; kinds = refl }) a

  listed_rule : (r : Rule) (T : Tables) → Agree (number_rule r T)
      → Part T (number_branches r.body no_level (name_known r.head T)) (nodes_branches nm km r.body (length T.nodes) 1024) (size_branches r.body)
  listed_rule r T a =
      let p = listed_body r.body (name_known r.head T) (agree_body r T a) in
      record { nodes_are = p.nodes_are; at_is = p.at_is }

  after_rule : (r : Rule) (T : Tables) → Agree (number_rule r T) → length (number_rule r T).nodes ≡ length T.nodes + size_branches r.body
  after_rule r T a =
      after_part T (number_branches r.body no_level (name_known r.head T)) (nodes_branches nm km r.body (length T.nodes)) (size_branches r.body)
      (whole_branches r.body (length T.nodes)) (listed_rule r T a)

  pub listed_rules : (rs : List Rule) (T : Tables) → Agree (number_rules rs T) → (number_rules rs T).nodes ≡ T.nodes ++ nodes_rules nm km rs (length T.nodes)
  listed_rules [] T a = sym (append-nil T.nodes)
  listed_rules (r ∷ rs) T a =
      let V : Tables = number_rule r T in
      let a' : Agree V = agree_back (spell rs) (worded_rules rs V) a in
      let base : ℕ = length T.nodes in
      let rest : List Node = nodes_rules nm km rs (base + size_branches r.body) in
      let e : (number_rules rs V).nodes ≡ V.nodes ++ rest = subst (λ b. (number_rules rs V).nodes ≡ V.nodes ++ nodes_rules nm km rs b) (after_rule r T a') (listed_rules rs V a) in
      e ∙ ap (λ l. l ++ rest) (listed_rule r T a').nodes_are ∙ append_assoc T.nodes (nodes_branches nm km r.body base 1024) rest

  -- the root of one name after a rule
  root_rule : (r : Rule) (T : Tables) → Agree (number_rule r T) → (w : List ℕ) → ((v : List ℕ) → nm v ≡ nm w → v ≡ w)
      → root_at (number_rule r T).names (nm w) ≡ own_root (bytes_eq r.head.bytes w) (root_node (length T.nodes) (size_branches r.body)) (root_at T.names (nm w))
  root_rule r T a w one =
      let U : Tables = name_known r.head T in
      let M : Made = number_branches r.body no_level U in
      let i : ℕ = find_name r.head.bytes T.names in
      let l : List Spot = firsts T.names in
      let k : Known r.head.bytes i M.tables.names =
      keep_branches (Known r.head.bytes i) (known_keep r.head.bytes i) r.body no_level U (known_with r.head T.names) in
      let s : SpotKnown r.head.bytes (find_kind r.head.bytes l) (firsts U.names) =
      subst (SpotKnown r.head.bytes (find_kind r.head.bytes l)) (sym (firsts_name r.head T.names)) (kind_with r.head l) in
      let h : nm r.head.bytes ≡ i =
      (agree_back (spell_branches r.body ++ (semi r.stop ∷ [])) (worded_body r T) a).names r.head.bytes (find_kind r.head.bytes l) s ∙ sym (find_firsts r.head.bytes T.names) in
      let old : root_at M.tables.names (nm w) ≡ root_at T.names (nm w) =
      keep_branches (λ es. root_at es (nm w) ≡ root_at T.names (nm w)) (λ t es p. root_with t es (nm w) ∙ p) r.body no_level U (root_with r.head T.names (nm w)) in
      at_same (bytes_eq r.head.bytes w) refl i M.at M.tables.names h k.1 (listed_rule r T a).at_is old
    where
      at_same : (b : Bool) → bytes_eq r.head.bytes w ≡ b → (i n : ℕ) (es : List Entry) → nm r.head.bytes ≡ i → i < length es → n ≡ root_node (length T.nodes) (size_branches r.body) → root_at es (nm w) ≡ root_at T.names (nm w)
          → root_at (with_root i n es) (nm w) ≡ own_root b (root_node (length T.nodes) (size_branches r.body)) (root_at T.names (nm w))
      at_same true g i n es h k q old =
          let e : nm w ≡ i = ap nm (sym (same_true r.head.bytes w g)) ∙ h in
          ap (root_at (with_root i n es)) e ∙ root_set i n es k ∙ ap some q
      at_same false g i n es h k q old = root_keep i n es (nm w) (λ e. same_false r.head.bytes w g (one r.head.bytes (h ∙ sym e))) ∙ old

  pub listed_roots : (rs : List Rule) (T : Tables) → Agree (number_rules rs T) → (w : List ℕ) → ((v : List ℕ) → nm v ≡ nm w → v ≡ w)
      → root_at (number_rules rs T).names (nm w) ≡ or_else (root_of w rs (length T.nodes)) (root_at T.names (nm w))
  listed_roots [] T a w one = refl
  listed_roots (r ∷ rs) T a w one =
      let V : Tables = number_rule r T in
      let a' : Agree V = agree_back (spell rs) (worded_rules rs V) a in
      let n : ℕ = root_node (length T.nodes) (size_branches r.body) in
      let b : ℕ = length T.nodes + size_branches r.body in
      listed_roots rs V a w one ∙ ap (λ b. or_else (root_of w rs b) (root_at V.names (nm w))) (after_rule r T a') ∙ ap (or_else (root_of w rs b)) (root_rule r T a' w one)
      ∙ or_own (root_of w rs b) (bytes_eq r.head.bytes w) n (root_at T.names (nm w))

-- a name at its place has its place's number
no_spot : Spot
no_spot = record { bytes = []; place = 0 }

has_spot : (l : List Spot) (k : ℕ) → k < length l → Has (get_or l k no_spot).bytes (written l)
has_spot [] k h = absurd (omega arith)
has_spot (s ∷ l) zero h = inl refl
has_spot (s ∷ l) (suc k) h = inr (has_spot l k (omega arith))

find_own : (l : List Spot) → Distinct (written l) → (k : ℕ) → k < length l → find_kind (get_or l k no_spot).bytes l ≡ k
find_own [] d k h = absurd (omega arith)
find_own (s ∷ l) d zero h = rw (same_refl s.bytes)
find_own (s ∷ l) d (suc k) h = at_same (bytes_eq s.bytes (get_or l k no_spot).bytes) refl (find_own l d.1 k (omega arith))
  where
    at_same : (b : Bool) → bytes_eq s.bytes (get_or l k no_spot).bytes ≡ b → find_kind (get_or l k no_spot).bytes l ≡ k → cond b 0 (suc (find_kind (get_or l k no_spot).bytes l)) ≡ suc k
    at_same true g ih = absurd (d.0 (subst (λ w. Has w (written l)) (sym (same_true s.bytes (get_or l k no_spot).bytes g)) (has_spot l k (omega arith))))
    at_same false g ih = ap suc ih

-- two words with one number are one
find_one_at : (b c : Bool) (v w : List ℕ) (s : Spot) (l : List Spot) → bytes_eq s.bytes v ≡ b → bytes_eq s.bytes w ≡ c → (find_kind v l ≡ find_kind w l → find_kind w l < length l → v ≡ w)
    → cond b 0 (suc (find_kind v l)) ≡ cond c 0 (suc (find_kind w l)) → cond c 0 (suc (find_kind w l)) < suc (length l) → v ≡ w
find_one_at true true v w s l g h ih e m = sym (same_true s.bytes v g) ∙ same_true s.bytes w h
find_one_at true false v w s l g h ih e m = absurd (omega arith)
find_one_at false true v w s l g h ih e m = absurd (omega arith)
find_one_at false false v w s l g h ih e m = ih (omega arith) (omega arith)

find_one : (v w : List ℕ) (l : List Spot) → find_kind v l ≡ find_kind w l → find_kind w l < length l → v ≡ w
find_one v w [] e h = absurd (omega arith)
find_one v w (s ∷ l) e h = find_one_at (bytes_eq s.bytes v) (bytes_eq s.bytes w) v w s l refl refl (find_one v w l) e h

-- entries by their roots
entries_are : (rules : List Rule) (es : List Entry) → ((k : ℕ) → k < length es → root_at es k ≡ root_of (get_or (firsts es) k no_spot).bytes rules 0) → es ≡ entries rules (firsts es)
entries_are rules [] h = refl
entries_are rules (e ∷ es) h =
    ap (λ o. record { first = e.first; root = o } ∷ es) (h 0 (omega arith)) ∙ ap (λ l. record { first = e.first; root = root_of e.first.bytes rules 0 } ∷ l) (entries_are rules es (λ k g. h (suc k) (omega arith)))

module _ (rules : List Rule) where
  abbrev N : List Spot
  N = names_in (spell rules)

  abbrev K : List Spot
  K = kinds_in (spell rules)

  abbrev F : Tables
  F = numbering rules

  abbrev nm : List ℕ → ℕ
  nm w = find_kind w N

  abbrev km : List ℕ → ℕ
  km w = suc (find_kind w K)

  words : Worded no_tables F (spell rules)
  words = worded_rules rules no_tables

  agree : Agree nm km F
  agree = record { names = λ w i k. (subst (SpotKnown w i) words.names k).0; kinds = λ w i k. ap suc (subst (SpotKnown w i) words.kinds k).0 }

  root_listed : (k : ℕ) → k < length N → root_at F.names k ≡ root_of (get_or N k no_spot).bytes rules 0
  root_listed k h =
      let w : List ℕ = (get_or N k no_spot).bytes in
      let e : find_kind w N ≡ k = find_own N (names_distinct (spell rules) [] tt) k h in
      sym (ap (root_at F.names) e) ∙ listed_roots nm km rules no_tables agree w (λ v g. find_one v w N g (rw e h)) ∙ or_nothing (root_of w rules 0)

  names_listed : F.names ≡ entries rules N
  names_listed =
      entries_are rules F.names
      (λ k h. subst (λ l. root_at F.names k ≡ root_of (get_or l k no_spot).bytes rules 0) (sym words.names) (root_listed k (subst (λ n. k < n) (sym (length_firsts F.names) ∙ ap length words.names) h)))
      ∙ ap (entries rules) words.names

  nodes_listed : F.nodes ≡ nodes_rules nm km rules 0
  nodes_listed = listed_rules nm km rules no_tables agree

tables_same : (T U : Tables) → T.names ≡ U.names → T.kinds ≡ U.kinds → T.nodes ≡ U.nodes → T ≡ U
tables_same T U p q r =
    ap (λ l. record { names = l; kinds = T.kinds; nodes = T.nodes }) p ∙ ap (λ l. record { names = U.names; kinds = l; nodes = T.nodes }) q ∙ ap (λ l. record { names = U.names; kinds = U.kinds; nodes = l }) r

pub numbering_listed : NumberingListed
numbering_listed rules = tables_same (numbering rules) (listing rules) (names_listed rules) (words rules).kinds (nodes_listed rules)

pub rules_size : (nm km : List ℕ → ℕ) (rs : List Rule) (base : ℕ) → length (nodes_rules nm km rs base) ≡ size_rules rs
rules_size nm km [] base = refl
rules_size nm km (r ∷ rs) base = both _ _ (size_branches r.body) (size_rules rs) (whole_length (whole_branches nm km r.body base) 1024) (rules_size nm km rs (base + size_branches r.body))

pub nodes_sized : NodesSized
nodes_sized rules = ap length (nodes_listed rules) ∙ rules_size (nm rules) (km rules) rules 0

pub reading_lists : ReadingLists
reading_lists L ts e T h =
    let r : ReadRight ts e T = reading_sound L ts e T h in
    (r.rules, r.text, sym r.tables ∙ numbering_listed r.rules, r.only)
