-- What is read is in order, and its last node is the root of its last rule.
use Rattle.std.proofs.Common.{◌≡◌, ℕ, zero, suc, ◌≤◌, Bool, true, false, cond, List, [], ◌∷◌, ◌++◌, map, length, sym, refl, ap, ◌∙◌, subst, inl, inr, append_assoc, append-nil, arith}
use mathlib.Core.Option.{Option, none, some}
use Rattle.std.specs.Str.{bytes_eq}
use Rattle.notation.specs.Tokens.{Token, arrow, semi, SourceToken, sort, Ending}
use Rattle.notation.specs.Syntax.{Item, named, literal, group, Sequence, nothing, item, Branches, last, either, Rule, spell_branches, spell}
use Rattle.notation.specs.Tables.{Tables, no_tables, Entry, find_name, with_root}
use Rattle.notation.specs.Numbering.{Made, Listed, Level, no_level, next_branch, end_sequence, name_known, number_item, number_sequence, number_branches, number_rule, number_rules, numbering}
use Rattle.notation.specs.Standing.{Shape, ready}
use Rattle.notation.specs.Reading.{State, Limits, has_rule, ruleless, read, reading}
use Rattle.notation.specs.Statements.{TextOf, Has, Distinct, heads_of, written, FineSoFar, ReadRight, ReadingInOrder, TablesListed}
use Rattle.notation.specs.Shaped.{root_at, LastRuleLast}
use Rattle.notation.proofs.Rest.{Rest, spell_rest, spell_build, number_rest, First, none_left, one_left, first}
use Rattle.notation.proofs.Names.{same_of, firsts, way_names, way_kinds}
use Rattle.notation.proofs.Roots.{Known, known_keep, known_with, keep_branches, ruled_sound}
use Rattle.notation.proofs.Way.{Way, Left, left}
use Rattle.notation.proofs.FineWay.{way_fits, start_fits, fine_way, way_parts}
use Rattle.notation.proofs.Begins.{reading_sound}
use Rattle.notation.proofs.Complete.{spell_append}
use Rattle.notation.proofs.Forest.{Split, split}
use Rattle.notation.proofs.Kept.{Sound, sound_list, MadeSo, sound_known, sound_name, sound_token, sound_sequence, sound_level, sound_group, Kept, kept_way, kept_start, root_set}
use Rattle.notation.proofs.Shaping.{Passed, passed, single_end}

-- names that do not come twice
has_split : (w : List ℕ) (ws : List (List ℕ)) → Has w ws → (a : List (List ℕ)) × (b : List (List ℕ)) × (ws ≡ a ++ (w ∷ b))
has_split w [] h = elim h [ ]
has_split w (x ∷ ws) (inl e) = ([], ws, ap (λ y. y ∷ ws) e)
has_split w (x ∷ ws) (inr h) = let r = has_split w ws h in (x ∷ r.0, r.1, ap (λ ys. x ∷ ys) r.2)

distinct_of : (ws : List (List ℕ)) → ((a : List (List ℕ)) (w : List ℕ) (b : List (List ℕ)) → ws ≡ a ++ (w ∷ b) → Has w a → ⊥) → Distinct ws
distinct_of [] f = tt
distinct_of (x ∷ ws) f = (
  λ h. (let r = has_split x ws h in f (x ∷ r.0) x r.1 (ap (λ ys. x ∷ ys) r.2) (inl refl)),
  distinct_of ws (λ a w b e h. f (x ∷ a) w b (ap (λ ys. x ∷ ys) e) (inr h)),
)

pub record HeadsParted (rules : List Rule) (a : List (List ℕ)) (w : List ℕ) : Type 0 where
  pub front : List Rule
  pub rule : Rule
  pub back : List Rule
  pub is : rules ≡ front ++ (rule ∷ back)
  pub front_is : heads_of front ≡ a
  pub head_is : rule.head.bytes ≡ w

heads_parted : (rules : List Rule) (a : List (List ℕ)) (w : List ℕ) (b : List (List ℕ)) → heads_of rules ≡ a ++ (w ∷ b) → HeadsParted rules a w
heads_parted [] [] w b h = let z : ◌≡◌ {A = ℕ} 0 1 = cc in absurd (omega arith)
heads_parted [] (x ∷ a) w b h = let z : ◌≡◌ {A = ℕ} 0 1 = cc in absurd (omega arith)
heads_parted (r ∷ rs) [] w b h = record { front = []; rule = r; back = rs; is = refl; front_is = refl; head_is = cc }
heads_parted (r ∷ rs) (x ∷ a) w b h =
    let e : heads_of rs ≡ a ++ (w ∷ b) = cc in
    let g : r.head.bytes ≡ x = cc in
    let p = heads_parted rs a w b e in
    let f = p.front_is in
    record { front = r ∷ p.front; rule = p.rule; back = p.back; is = ap (λ ys. r ∷ ys) p.is; front_is = cc; head_is = p.head_is }

-- with a root for each, each name has a rule
has_at : (o : Option ℕ) (b : Bool) (w : List ℕ) (e : Entry) (es : List Entry) → bytes_eq e.first.bytes w ≡ b → (ruleless es ≡ none → Has w (written (firsts es)) → has_rule w es ≡ true)
    → ◌≡◌ {A = Option ℕ} (elim o [ none ↦ some e.first.place | some r ↦ ruleless es ]) none → Has w (written (firsts (e ∷ es))) → cond b (elim o [ none ↦ false | some r ↦ true ]) (has_rule w es) ≡ true
has_at none b w e es g ih h x = let z : ◌≡◌ {A = ℕ} 0 1 = cc in absurd (omega arith)
has_at (some r) true w e es g ih h x = refl
has_at (some r) false w e es g ih h (inl y) = let q = same_of e.first.bytes w y in let z : ◌≡◌ {A = ℕ} 0 1 = cc in absurd (omega arith)
has_at (some r) false w e es g ih h (inr y) = ih h y

pub has_all : (w : List ℕ) (es : List Entry) → ruleless es ≡ none → Has w (written (firsts es)) → has_rule w es ≡ true
has_all w [] h x = elim x [ ]
has_all w (e ∷ es) h x = has_at e.root (bytes_eq e.first.bytes w) w e es refl (has_all w es) h x

pub numbered_so : (L : Limits) (ts : List SourceToken) (e : Ending) (T : Tables) (rules : List Rule) → reading L ts e ≡ read T → TextOf ts rules → numbering rules ≡ T
numbered_so L ts e T rules h text = let r : ReadRight ts e T = reading_sound L ts e T h in ap numbering (r.only rules text) ∙ r.tables

pub reading_in_order : ReadingInOrder
reading_in_order L ts e T rules h text =
    let p : Passed L ready no_tables (map sort ts) e T = passed L ready no_tables (map sort ts) e T h in
    let F : FineSoFar L (map sort ts) = fine_way L (map sort ts) ready T p.way in
    let n : numbering rules ≡ T = numbered_so L ts e T rules h text in
    let g : length T.nodes ≤ L.nodes = (way_fits p.way (start_fits L)).nodes_fit in
    let g' : length (numbering rules).nodes ≡ length T.nodes = ap (λ X. length X.nodes) n in
    record {
      shallow = F.shallow;
      spelt = F.spelt;
      names_fit = F.names_fit;
      kinds_fit = F.kinds_fit;
      nodes_fit = omega arith;
      once = distinct_of (heads_of rules) (λ a w b q x. (
          let y : HeadsParted rules a w = heads_parted rules a w b q in
          let more : List Token = (arrow y.rule.becomes ∷ (spell_branches y.rule.body ++ (semi y.rule.stop ∷ []))) ++ spell y.back in
          F.once y.front y.rule.head more
          (sym text.spelled ∙ ap spell y.is ∙ spell_append y.front (y.rule ∷ y.back))
          (subst (λ u. Has u (heads_of y.front)) (sym y.head_is) (subst (Has w) (sym y.front_is) x))));
      ruled = λ w x. (
          let a : Has w (written (firsts T.names)) = subst (λ l. Has w (written l)) (sym (way_names p.way)) x in
          let b : has_rule w (numbering rules).names ≡ true = ap (λ X. has_rule w X.names) n ∙ has_all w T.names p.ruled a in
          elim (ruled_sound w rules no_tables b) [ inl y ↦ y | inr y ↦ (let z : ◌≡◌ {A = ℕ} 0 1 = cc in absurd (omega arith)) ]);
    }

-- the nodes of a syntax are trees
mutual
  tree_item : (x : Item) (T : Tables) (pre : List ℕ) → Sound T pre → MadeSo pre (number_item x T)
  tree_item (named s) T pre p = sound_name pre s T p
  tree_item (literal k s) T pre p = sound_token pre s T p
  tree_item (group b s inside t) T pre p = sound_group b pre (number_branches inside no_level T) (tree_branches inside no_level T pre (sound_list T _ _ (sym (append-nil pre)) p))

  tree_sequence : (xs : Sequence) (ns : List ℕ) (T : Tables) (pre : List ℕ) → Sound T (pre ++ ns) → Sound (number_sequence xs ns T).tables (pre ++ (number_sequence xs ns T).items)
  tree_sequence nothing ns T pre p = p
  tree_sequence (item x xs) ns T pre p =
      let M : Made = number_item x T in
      tree_sequence xs (ns ++ (M.at ∷ [])) M.tables pre (sound_list M.tables _ _ (append_assoc pre ns (M.at ∷ [])) (tree_item x T (pre ++ ns) p))

  tree_branches : (b : Branches) (l : Level) (T : Tables) (pre : List ℕ) → Sound T (pre ++ (l.ended ++ l.items)) → MadeSo pre (number_branches b l T)
  tree_branches (last xs) l T pre p =
      let S : Listed = number_sequence xs l.items T in
      sound_level pre (record { ended = l.ended; items = S.items }) S.tables
      (sound_list S.tables _ _ (append_assoc pre l.ended S.items) (tree_sequence xs l.items T (pre ++ l.ended) (sound_list T _ _ (sym (append_assoc pre l.ended l.items)) p)))
  tree_branches (either xs s more) l T pre p =
      let S : Listed = number_sequence xs l.items T in
      let M : Made = end_sequence S.items S.tables in
      let q : Sound S.tables ((pre ++ l.ended) ++ S.items) = tree_sequence xs l.items T (pre ++ l.ended) (sound_list T _ _ (sym (append_assoc pre l.ended l.items)) p) in
      let r : MadeSo (pre ++ l.ended) M = sound_sequence (pre ++ l.ended) S.items S.tables q in
      tree_branches more (next_branch l M.at) M.tables pre
      (sound_list M.tables _ _ (append_assoc pre l.ended (M.at ∷ []) ∙ ap (λ xs. pre ++ xs) (sym (append-nil (l.ended ++ (M.at ∷ []))))) r)

pub find_root : (w : List ℕ) (i n : ℕ) (es : List Entry) → find_name w (with_root i n es) ≡ find_name w es
find_root w i n [] = refl
find_root w zero n (e ∷ es) = refl
find_root w (suc i) n (e ∷ es) = ap (λ k. cond (bytes_eq e.first.bytes w) 0 (suc k)) (find_root w i n es)

last_made : (r : Rule) (T : Tables) → Kept ready T → (m : ℕ) × (root_at (number_rule r T).names (find_name r.head.bytes (number_rule r T).names) ≡ some m) × (length (number_rule r T).nodes ≡ suc m)
last_made r T k =
    let U : Tables = name_known r.head T in
    let M : Made = number_branches r.body no_level U in
    let i : ℕ = find_name r.head.bytes T.names in
    let K : Known r.head.bytes i M.tables.names =
    keep_branches (Known r.head.bytes i) (known_keep r.head.bytes i) r.body no_level U (known_with r.head T.names) in
    let s : MadeSo k.roots M = tree_branches r.body no_level U k.roots (sound_known r.head T (k.roots ++ []) k.sound) in
    let sp : Split M.tables.nodes 0 (length M.tables.nodes) k.roots (M.at ∷ []) = split k.roots (M.at ∷ []) 0 (length M.tables.nodes) s.good.forest in
    let f : find_name r.head.bytes (number_rule r T).names ≡ i = find_root r.head.bytes i M.at M.tables.names ∙ K.0 in
    (M.at, ap (root_at (number_rule r T).names) f ∙ root_set i M.at M.tables.names K.1, single_end sp.right)

rules_append : (a b : List Rule) (T : Tables) → number_rules (a ++ b) T ≡ number_rules b (number_rules a T)
rules_append [] b T = refl
rules_append (r ∷ a) b T = rules_append a b (number_rule r T)

kept_first : (L : Limits) (rules : List Rule) {mid : Shape} {rest : Rest mid} (state : State mid) → First mid rest → spell_rest mid rest ≡ [] → numbering rules ≡ number_rest mid state rest → Kept mid state → Kept ready (numbering rules)
kept_first L rules T none_left g e k = subst (Kept ready) (sym e) k
kept_first L rules {mid} state (one_left v a p) g e k =
    let q = sym (spell_build v a) ∙ ap (spell_rest mid) p ∙ g in
    let z : ◌≡◌ {A = ℕ} 0 1 = cc in absurd (omega arith)

pub last_rule_last : LastRuleLast
last_rule_last L ts e T front r h text =
    let p : Passed L ready no_tables (map sort ts) e T = passed L ready no_tables (map sort ts) e T h in
    let n : numbering (front ++ (r ∷ [])) ≡ T = numbered_so L ts e T (front ++ (r ∷ [])) h text in
    let n' : number_rule r (numbering front) ≡ T = sym (rules_append front (r ∷ []) no_tables) ∙ n in
    let q : map sort ts ≡ spell front ++ spell (r ∷ []) = sym text.spelled ∙ spell_append front (r ∷ []) in
    let w = way_parts (spell front) (spell (r ∷ [])) ready no_tables ready T (subst (λ xs. Way L ready no_tables xs ready T) q p.way) in
    let l : Left ready no_tables front w.mid w.state [] = left w.one front [] (sym (append-nil (spell front))) in
    let k : Kept ready (numbering front) = kept_first L front w.state (first w.mid l.rest) l.spelled l.numbered (kept_way w.one kept_start) in
    subst (λ X. (m : ℕ) × (root_at X.names (find_name r.head.bytes X.names) ≡ some m) × (length X.nodes ≡ suc m)) n' (last_made r (numbering front) k)

pub tables_listed : TablesListed
tables_listed L ts e T h =
    let p : Passed L ready no_tables (map sort ts) e T = passed L ready no_tables (map sort ts) e T h in
    (way_names p.way, way_kinds p.way)
