-- A text in order is read.
use Rattle.std.proofs.Common.{◌≡◌, ℕ, suc, ◌<◌, ◌≤◌, Bool, true, false, not, ◌⊎◌, List, [], ◌∷◌, ◌++◌, map, length, sym, refl, ap, ◌∙◌, subst, inl, inr, append_assoc, append-nil, arith}
use mathlib.Core.List.{map-append}
use mathlib.Core.Option.{Option, none, some}
use Rattle.notation.specs.Tokens.{Spot, Token, name, terminal, arrow, bar, semi, opening, closing, is_spelling, SourceToken, sort, Ending, end, fault}
use Rattle.notation.specs.Syntax.{Rule, spell_rule, spell}
use Rattle.notation.specs.Tables.{Tables, no_tables, Entry}
use Rattle.notation.specs.Numbering.{numbering}
use Rattle.notation.specs.Standing.{Shape, ready, heading, inside, Stands, heads, becomes, names, spells, parts, opens, closes, stops}
use Rattle.notation.specs.Reading.{State, tables_of, go, Limits, Refusal, misplaced, faulty, too_deep, misspelt, names_full, kinds_full, nodes_full, second_rule, no_rule, bad_spelling, has_rule, ruleless, again, Outcome, read, refused, finish, reading}
use Rattle.notation.specs.Statements.{TextOf, Each, Has, Distinct, heads_of, written, name_in, kind_in, gather, names_in, kinds_in, open_with, open_after, ReadRight, MisplacedAt, EndsEarly, ToldAt, Unruled, UnruledRight, InOrder, ReadingComplete}
use Rattle.notation.proofs.Rest.{number_rest, number_build}
use Rattle.notation.proofs.Unique.{unique}
use Rattle.notation.proofs.Grows.{Bigger, rest_grows, length_kind}
use Rattle.notation.proofs.Why.{WhyNot, by_nodes, why}
use Rattle.notation.proofs.Names.{firsts, length_firsts, names_step, kinds_step, way_names, way_kinds}
use Rattle.notation.proofs.Roots.{ruled_sound, ruled_complete}
use Rattle.notation.proofs.Begins.{AtEnd, unruled, at_end_view, reading_sound, misplaced_right, fault_right}
use Rattle.notation.proofs.FineWay.{fine_way}
use Rattle.notation.proofs.Way.{Way, Stopped, strayed, hindered, ended, stopped, Left, left, Whole, whole, Peeled, peel}
use Rattle.notation.proofs.Told.{hindrance, Rootless, rootless_of, has_entry, firsts_append, names_distinct, names_why, kinds_why, rule_why, depth_right, spelling_right}

each_ruled : (hs : List (List ℕ)) (es pre lower rest : List Entry) → es ≡ pre ++ (lower ++ rest) → Distinct (written (firsts es)) → ((w : List ℕ) → has_rule w es ≡ true → Has w hs)
    → Each (λ e. (r : ℕ) × (e.root ≡ some r)) lower → Each (λ s. Has s.bytes hs) (firsts lower)
each_ruled hs es pre [] rest g d f r = tt
each_ruled hs es pre (e ∷ lower) rest g d f ((x, q), r) =
    let d' : Distinct (written (firsts (pre ++ (e ∷ (lower ++ rest))))) = subst (λ l. Distinct (written (firsts l))) g d in
    let h : has_rule e.first.bytes (pre ++ (e ∷ (lower ++ rest))) ≡ true = has_entry pre e (lower ++ rest) d' ∙ ap (λ (o : Option ℕ). elim o [ none ↦ false | some r ↦ true ]) q in (
      f e.first.bytes (subst (λ l. has_rule e.first.bytes l ≡ true) (sym g) h),
      each_ruled hs es (pre ++ (e ∷ [])) lower rest (g ∙ sym (append_assoc pre (e ∷ []) (lower ++ rest))) d f r,
    )

unruled_ready : (L : Limits) (ts : List SourceToken) (T : Tables) (q p : ℕ) → Way L ready no_tables (map sort ts) ready T → ruleless T.names ≡ some p → Unruled L ts (end q) p
unruled_ready L ts T q p w h =
    let W : Whole ready no_tables (map sort ts) ready T [] = whole w [] in
    let n : numbering W.all ≡ T = W.numbered in
    let s : spell W.all ≡ map sort ts = W.spelled ∙ append-nil (map sort ts) in
    let R : Rootless T.names p = rootless_of T.names p h in
    let a : firsts T.names ≡ names_in (map sort ts) = way_names w in
    let d : Distinct (written (firsts T.names)) = subst (λ l. Distinct (written l)) (sym a) (names_distinct (map sort ts) [] tt) in
    let d' : Distinct (written (firsts (R.lower ++ (R.entry ∷ R.higher)))) = subst (λ l. Distinct (written (firsts l))) R.is d in
    let u : has_rule R.entry.first.bytes T.names ≡ false =
    subst (λ l. has_rule R.entry.first.bytes l ≡ false) (sym R.is)
    (has_entry R.lower R.entry R.higher d' ∙ ap (λ (o : Option ℕ). elim o [ none ↦ false | some r ↦ true ]) R.rootless) in
    record {
      fine_before = fine_way L (map sort ts) ready T w;
      rules = W.all;
      text = record { some_rule = λ e. nothing_ruled e n h; spelled = s };
      ended = (q, refl);
      lower = firsts R.lower;
      unruled = R.entry.first;
      higher = firsts R.higher;
      named = sym a ∙ ap firsts R.is ∙ firsts_append R.lower (R.entry ∷ R.higher);
      placed = R.placed;
      no_rule_for = λ x.
          let t : has_rule R.entry.first.bytes T.names ≡ true = ap (λ X. has_rule R.entry.first.bytes X.names) (sym n) ∙ ruled_complete R.entry.first.bytes W.all no_tables x in
          let z : ◌≡◌ {A = ℕ} 0 1 = cc in omega arith;
      rules_below = each_ruled (heads_of W.all) T.names [] R.lower (R.entry ∷ R.higher) R.is d
          (λ x g. elim (ruled_sound x W.all no_tables (ap (λ X. has_rule x X.names) n ∙ g)) [ inl y ↦ y | inr y ↦ let z : ◌≡◌ {A = ℕ} 0 1 = cc in absurd (omega arith) ])
          R.rooted;
    }
  where
    nothing_ruled : {rs : List Rule} → rs ≡ [] → numbering rs ≡ T → ruleless T.names ≡ some p → ⊥
    nothing_ruled e n h =
        let k : ruleless T.names ≡ none = ap (λ X. ruleless X.names) (sym n ∙ ap numbering e) in
        let z : ◌≡◌ {A = ℕ} 0 1 = cc in omega arith

at_end_ruled : {es : List Entry} {q p : ℕ} → AtEnd es q (no_rule p) → ruleless es ≡ some p
at_end_ruled (unruled x h) = h

unruled_finish : (L : Limits) (ts : List SourceToken) (to : Shape) (st : State to) (e : Ending) (p : ℕ) → Way L ready no_tables (map sort ts) to st → finish to st e ≡ refused (no_rule p) → Unruled L ts e p
unruled_finish L ts ready st (end q) p w h = unruled_ready L ts st q p w (at_end_ruled (at_end_view st st.names q (no_rule p) h))
unruled_finish L ts heading st (end q) p w h = let z : ◌≡◌ {A = ℕ} 0 1 = cc in absurd (omega arith)
unruled_finish L ts (inside bs) st (end q) p w h = let z : ◌≡◌ {A = ℕ} 0 1 = cc in absurd (omega arith)
unruled_finish L ts ready st (fault q c) p w h = let z : ◌≡◌ {A = ℕ} 0 1 = cc in absurd (omega arith)
unruled_finish L ts heading st (fault q c) p w h = let z : ◌≡◌ {A = ℕ} 0 1 = cc in absurd (omega arith)
unruled_finish L ts (inside bs) st (fault q c) p w h = let z : ◌≡◌ {A = ℕ} 0 1 = cc in absurd (omega arith)

unruled_stopped : (L : Limits) (ts : List SourceToken) (e : Ending) (p : ℕ) → Stopped L ready no_tables (map sort ts) e (no_rule p) → Unruled L ts e p
unruled_stopped L ts e p (strayed before t after to st h w x q) = let z : ◌≡◌ {A = ℕ} 0 1 = cc in absurd (omega arith)
unruled_stopped L ts e p (hindered before t after mid st to v h w q) = elim (why L v st (no_rule p) q) [ ]
unruled_stopped L ts e p (ended to st w q) = unruled_finish L ts to st e p w q

pub unruled_right : UnruledRight
unruled_right L ts e p h = unruled_stopped L ts e p (stopped L ready no_tables (map sort ts) e (no_rule p) h)

-- what holds of each token in a list, and what grows with the list
pub each_at : (P : Token → Type 0) (a : List Token) (t : Token) (b : List Token) → Each P (a ++ (t ∷ b)) → P t
each_at P [] t b h = h.0
each_at P (x ∷ a) t b h = each_at P a t b h.1

pub open_append : (n : ℕ) (a b : List Token) → open_after n (a ++ b) ≡ open_after (open_after n a) b
open_append n [] b = refl
open_append n (t ∷ a) b = open_append (open_with t n) a b

pub gather_append : (f : Token → List Spot → List Spot) (l : List Spot) (a b : List Token) → gather f l (a ++ b) ≡ gather f (gather f l a) b
gather_append f l [] b = refl
gather_append f l (t ∷ a) b = gather_append f (f t l) a b

pub name_more : (t : Token) (l : List Spot) → length l ≤ length (name_in t l)
name_more (name s) l = length_kind s l
name_more (terminal k s) l = omega arith
name_more (arrow s) l = omega arith
name_more (bar s) l = omega arith
name_more (semi s) l = omega arith
name_more (opening b s) l = omega arith
name_more (closing b s) l = omega arith

pub kind_more : (t : Token) (l : List Spot) → length l ≤ length (kind_in t l)
kind_more (name s) l = omega arith
kind_more (terminal k s) l = length_kind s l
kind_more (arrow s) l = omega arith
kind_more (bar s) l = omega arith
kind_more (semi s) l = omega arith
kind_more (opening b s) l = omega arith
kind_more (closing b s) l = omega arith

pub gather_more : (f : Token → List Spot → List Spot) → ((t : Token) (l : List Spot) → length l ≤ length (f t l)) → (l : List Spot) (ts : List Token) → length l ≤ length (gather f l ts)
gather_more f m l [] = omega arith
gather_more f m l (t ∷ ts) = let a = m t l in let b = gather_more f m (f t l) ts in omega arith

-- what a text makes is no less than what a token in it makes
made_by : (L : Limits) (rules : List Rule) {mid : Shape} {t : Token} {to : Shape} (v : Stands mid t to) (st : State mid) (before after : List Token)
    → Way L ready no_tables before mid st → spell rules ≡ before ++ (t ∷ after) → Bigger (tables_of to (go v st)) (numbering rules)
made_by L rules {mid} {t} {to} v st before after w h =
    let l : Left ready no_tables rules mid st (t ∷ after) = left w rules (t ∷ after) h in
    let p : Peeled v l.rest after = peel v l.rest after l.spelled in
    let e : numbering rules ≡ number_rest to (go v st) p.rest =
    l.numbered ∙ ap (number_rest mid st) (sym p.built) ∙ number_build v st p.rest in
    subst (Bigger (tables_of to (go v st))) (sym e) (rest_grows after to p.rest (go v st) p.spelled)

heads_append : (a b : List Rule) → heads_of (a ++ b) ≡ heads_of a ++ heads_of b
heads_append [] b = refl
heads_append (r ∷ a) b = ap (λ xs. r.head.bytes ∷ xs) (heads_append a b)

pub spell_append : (a b : List Rule) → spell (a ++ b) ≡ spell a ++ spell b
spell_append [] b = refl
spell_append (r ∷ a) b = ap (λ xs. spell_rule r ++ xs) (spell_append a b) ∙ sym (append_assoc (spell_rule r) (spell a) (spell b))

has_append : (w : List ℕ) (a b : List (List ℕ)) → Has w (w ∷ b) → Has w (a ++ (w ∷ b))
has_append w [] b h = h
has_append w (x ∷ a) b h = inr (has_append w a b h)

clash : (w : List ℕ) (a b : List (List ℕ)) → Distinct (a ++ (w ∷ b)) → Has w a → ⊥
clash w [] b d h = h
clash w (x ∷ a) b d (inl e) = d.0 (subst (λ y. Has y (a ++ (w ∷ b))) (sym e) (has_append w a b (inl refl)))
clash w (x ∷ a) b d (inr h) = clash w a b d.1 h

head_is : (rest : List Rule) (s : Spot) (after : List Token) → spell rest ≡ name s ∷ after → (more : List (List ℕ)) × (heads_of rest ≡ s.bytes ∷ more)
head_is [] s after h = let z : ◌≡◌ {A = ℕ} 0 1 = cc in absurd (omega arith)
head_is (r ∷ rs) s after h = let e : r.head ≡ s = cc in (heads_of rs, ap (λ x. x.bytes ∷ heads_of rs) e)

second_clash : (L : Limits) (rules : List Rule) {mid : Shape} {t : Token} {to : Shape} (v : Stands mid t to) (st : State mid) (before after : List Token)
    → Way L ready no_tables before mid st → spell rules ≡ before ++ (t ∷ after) → Distinct (heads_of rules) → again v st ≡ true → ⊥
second_clash L rules (heads {s}) T before after w h d g =
    let W : Whole ready no_tables before ready T [] = whole w [] in
    let l : Left ready no_tables rules ready T (name s ∷ after) = left w rules (name s ∷ after) h in
    let n : has_rule s.bytes (numbering W.all).names ≡ true = ap (λ X. has_rule s.bytes X.names) W.numbered ∙ g in
    let x : Has s.bytes (heads_of W.all) = elim (ruled_sound s.bytes W.all no_tables n) [ inl y ↦ y | inr y ↦ let z : ◌≡◌ {A = ℕ} 0 1 = cc in absurd (omega arith) ] in
    let u : spell (W.all ++ l.rest) ≡ before ++ (name s ∷ after) = spell_append W.all l.rest ∙ ap (λ xs. xs ++ spell l.rest) (W.spelled ∙ append-nil before) ∙ ap (λ xs. before ++ xs) l.spelled in
    let e : rules ≡ W.all ++ l.rest = unique (before ++ (name s ∷ after)) ready rules (W.all ++ l.rest) h u in
    let k = head_is l.rest s after l.spelled in
    let m : heads_of rules ≡ heads_of W.all ++ (s.bytes ∷ k.0) = ap heads_of e ∙ heads_append W.all l.rest ∙ ap (λ xs. heads_of W.all ++ xs) k.1 in
    clash s.bytes (heads_of W.all) k.0 (subst Distinct m d) x
second_clash L rules becomes st before after w h d g = let z : ◌≡◌ {A = ℕ} 0 1 = cc in omega arith
second_clash L rules names st before after w h d g = let z : ◌≡◌ {A = ℕ} 0 1 = cc in omega arith
second_clash L rules spells st before after w h d g = let z : ◌≡◌ {A = ℕ} 0 1 = cc in omega arith
second_clash L rules parts st before after w h d g = let z : ◌≡◌ {A = ℕ} 0 1 = cc in omega arith
second_clash L rules opens st before after w h d g = let z : ◌≡◌ {A = ℕ} 0 1 = cc in omega arith
second_clash L rules closes st before after w h d g = let z : ◌≡◌ {A = ℕ} 0 1 = cc in omega arith
second_clash L rules stops st before after w h d g = let z : ◌≡◌ {A = ℕ} 0 1 = cc in omega arith

nodes_why : {L : Limits} {p deep : ℕ} {bad : Bool} {T : Tables} {twice : Bool} {n : ℕ} → WhyNot L p deep bad T twice (nodes_full n) → L.nodes < length T.nodes
nodes_why (by_nodes a b c d h) = h

module _ (L : Limits) (ts : List SourceToken) (rules : List Rule) (p : ℕ) (text : TextOf ts rules) (ord : InOrder L ts rules) where
  not_stray : {q : ℕ} → MisplacedAt L ts q ⊎ EndsEarly L ts (end p) q → ⊥
  not_stray (inl m) =
      m.not_with_it (m.after, (rules, record { some_rule = text.some_rule; spelled = text.spelled ∙ ap (map sort) (m.parted ∙ sym (append_assoc m.before (m.token ∷ []) m.after)) }))
  not_stray (inr x) = x.no_text (rules, text)

  parted_sorted : {q : ℕ} (P : List Token → Token → Type 0) (x : ToldAt L ts q P) → map sort ts ≡ map sort x.before ++ (sort x.token ∷ map sort x.after)
  parted_sorted P x = ap (map sort) x.parted ∙ map-append sort x.before (x.token ∷ x.after)

  no_refusal : (r : Refusal) → reading L ts (end p) ≡ refused r → ⊥
  no_refusal (faulty q c) h = let e = (fault_right L ts (end p) q c h).0 in let z : ◌≡◌ {A = ℕ} 0 1 = cc in omega arith
  no_refusal (misplaced q) h = not_stray (misplaced_right L ts (end p) q h)
  no_refusal (too_deep q) h =
      let x = depth_right L ts (end p) q h in
      let b = map sort x.before in
      let t = sort x.token in
      let e : map sort ts ≡ (b ++ (t ∷ [])) ++ map sort x.after = parted_sorted _ x ∙ sym (append_assoc b (t ∷ []) (map sort x.after)) in
      let f : open_after 0 (b ++ (t ∷ [])) ≤ 32 = ord.shallow (b ++ (t ∷ [])) (map sort x.after) e in
      let g : open_after 0 (b ++ (t ∷ [])) ≡ open_with t (open_after 0 b) = open_append 0 b (t ∷ []) in
      let i : open_with t (open_after 0 b) ≡ suc (open_after 0 b) = ap (λ u. open_with u (open_after 0 b)) x.fact.2 in
      let j : open_after 0 b ≡ 32 = x.fact.3 in
      omega arith
  no_refusal (misspelt q) h =
      let x = spelling_right L ts (end p) q h in
      let a : bad_spelling (sort x.token) ≡ false = each_at (λ t. bad_spelling t ≡ false) (map sort x.before) (sort x.token) (map sort x.after) (subst (Each (λ t. bad_spelling t ≡ false)) (parted_sorted _ x) ord.spelt) in
      let b : bad_spelling (sort x.token) ≡ not (is_spelling x.fact.0.bytes) = ap bad_spelling x.fact.1 in
      let c : not (is_spelling x.fact.0.bytes) ≡ true = ap not x.fact.2 in
      let z : ◌≡◌ {A = ℕ} 0 1 = cc in omega arith
  no_refusal (names_full q) h =
      let x = hindrance L ts (end p) (names_full q) tt h in
      let y = (names_why x.because).0 in
      let U = tables_of x.to (go x.stands x.state) in
      let b : firsts U.names ≡ name_in x.token (names_in x.before) = names_step x.stands x.state ∙ ap (name_in x.token) (way_names x.way) in
      let c : length (name_in x.token (names_in x.before)) ≡ length U.names = ap length (sym b) ∙ length_firsts U.names in
      let d : names_in (map sort ts) ≡ gather name_in (name_in x.token (names_in x.before)) x.after = ap names_in x.parted_so ∙ gather_append name_in [] x.before (x.token ∷ x.after) in
      let e : length (names_in (map sort ts)) ≡ length (gather name_in (name_in x.token (names_in x.before)) x.after) = ap length d in
      let f = gather_more name_in name_more (name_in x.token (names_in x.before)) x.after in
      let g : length (names_in (map sort ts)) ≤ L.names = ord.names_fit in
      omega arith
  no_refusal (kinds_full q) h =
      let x = hindrance L ts (end p) (kinds_full q) tt h in
      let y = (kinds_why x.because).0 in
      let U = tables_of x.to (go x.stands x.state) in
      let b : U.kinds ≡ kind_in x.token (kinds_in x.before) = kinds_step x.stands x.state ∙ ap (kind_in x.token) (way_kinds x.way) in
      let c : length (kind_in x.token (kinds_in x.before)) ≡ length U.kinds = ap length (sym b) in
      let d : kinds_in (map sort ts) ≡ gather kind_in (kind_in x.token (kinds_in x.before)) x.after = ap kinds_in x.parted_so ∙ gather_append kind_in [] x.before (x.token ∷ x.after) in
      let e : length (kinds_in (map sort ts)) ≡ length (gather kind_in (kind_in x.token (kinds_in x.before)) x.after) = ap length d in
      let f = gather_more kind_in kind_more (kind_in x.token (kinds_in x.before)) x.after in
      let g : length (kinds_in (map sort ts)) ≤ L.kinds = ord.kinds_fit in
      omega arith
  no_refusal (nodes_full n) h =
      let x = hindrance L ts (end p) (nodes_full n) tt h in
      let y = nodes_why x.because in
      let b = made_by L rules x.stands x.state x.before x.after x.way (text.spelled ∙ x.parted_so) in
      let c : length (numbering rules).nodes ≤ L.nodes = ord.nodes_fit in
      let d = b.nodes in
      omega arith
  no_refusal (second_rule q) h =
      let x = hindrance L ts (end p) (second_rule q) tt h in
      second_clash L rules x.stands x.state x.before x.after x.way (text.spelled ∙ x.parted_so) ord.once (rule_why x.because).0
  no_refusal (no_rule q) h =
      let x = unruled_right L ts (end p) q h in
      let e : x.rules ≡ rules = unique (map sort ts) ready x.rules rules x.text.spelled text.spelled in
      x.no_rule_for (subst (λ rs. Has x.unruled.bytes (heads_of rs)) (sym e)
      (ord.ruled x.unruled.bytes (subst (λ l. Has x.unruled.bytes (written l)) (sym x.named) (has_spot x.lower x.unruled x.higher))))
    where
      has_spot : (a : List Spot) (s : Spot) (b : List Spot) → Has s.bytes (written (a ++ (s ∷ b)))
      has_spot [] s b = inl refl
      has_spot (x ∷ a) s b = inr (has_spot a s b)

  read_so : (o : Outcome) → reading L ts (end p) ≡ o → reading L ts (end p) ≡ read (numbering rules)
  read_so (read X) h =
      let r : ReadRight ts (end p) X = reading_sound L ts (end p) X h in
      h ∙ ap read (sym r.tables ∙ ap numbering (sym (r.only rules text)))
  read_so (refused r) h = absurd (no_refusal r h)

pub reading_complete : ReadingComplete
reading_complete L ts rules p text ord = read_so L ts rules p text ord (reading L ts (end p)) refl
