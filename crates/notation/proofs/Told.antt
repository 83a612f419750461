-- Every refusal names the first offending token.
use Rattle.std.proofs.Common.{◌≡◌, ℕ, suc, ◌<◌, ◌≤◌, Bool, true, false, cond, ◌⊎◌, List, [], ◌∷◌, ◌++◌, map, length, sym, refl, ap, ◌∙◌, subst, inl, inr, append_assoc, append-nil, arith}
use mathlib.Core.List.{map-append}
use mathlib.Core.Option.{Option, none, some}
use borrow.Author.Tests.{not-true}
use Rattle.std.specs.Str.{bytes_eq}
use Rattle.notation.specs.Tokens.{Bracket, Spot, Terminal, class_word, spelling, Token, name, terminal, arrow, bar, semi, opening, closing, is_spelling, spot, SourceToken, sort, Ending, end, fault}
use Rattle.notation.specs.Syntax.{Rule, spell}
use Rattle.notation.specs.Tables.{Tables, no_tables, Entry, with_kind}
use Rattle.notation.specs.Numbering.{numbering}
use Rattle.notation.specs.Standing.{Shape, ready, heading, inside, Stands, heads, becomes, names, spells, parts, opens, closes, stops, depth}
use Rattle.notation.specs.Reading.{State, tables_of, go, Limits, Refusal, misplaced, faulty, too_deep, misspelt, names_full, kinds_full, nodes_full, second_rule, no_rule, bad_spelling, has_rule, ruleless, again, refused, finish, reading}
use Rattle.notation.specs.Statements.{BeginsText, Each, Has, Distinct, heads_of, written, name_in, kind_in, gather, names_in, kinds_in, ToldAt, nodes_made, NodesRight, NodesCounted, DepthRight, SpellingRight, NamesRight, KindsRight, SecondRight}
use Rattle.notation.proofs.Rest.{Rest, build, spell_build}
use Rattle.notation.proofs.Why.{WhyNot, by_depth, by_spelling, by_names, by_kinds, by_nodes, by_rule, Why, why}
use Rattle.notation.proofs.Names.{same_true, same_refl, same_false, firsts, length_firsts, names_step, kinds_step, way_names, way_kinds, way_depth}
use Rattle.notation.proofs.Roots.{ruled_sound}
use Rattle.notation.proofs.Begins.{some_rest, some_tokens, spelled_rest, Parted, parted, sort_place, AtEnd, no_names, unruled, at_end_view}
use Rattle.notation.proofs.FineWay.{way_fits, start_fits, nodes_on, way_nodes, rest_nodes, fine_way}
use Rattle.notation.proofs.Way.{Way, Stopped, strayed, hindered, ended, stopped, Whole, whole}

-- with a token that can stand the tokens begin a text
pub begins_with : (L : Limits) (ts : List SourceToken) (t : SourceToken) (mid to : Shape) (st : State mid) → Way L ready no_tables (map sort ts) mid st → Stands mid (sort t) to → BeginsText (ts ++ (t ∷ []))
begins_with L ts t mid to st w v =
    let k : Rest mid = build v (some_rest to) in
    let r : Whole ready no_tables (map sort ts) mid st k = whole w k in
    let e : spell r.all ≡ map sort ts ++ (sort t ∷ map sort (some_tokens to)) =
    r.spelled ∙ ap (λ xs. map sort ts ++ xs) (spell_build v (some_rest to) ∙ ap (λ xs. sort t ∷ xs) (spelled_rest to)) in
    let f : map sort ((ts ++ (t ∷ [])) ++ some_tokens to) ≡ map sort ts ++ (sort t ∷ map sort (some_tokens to)) =
    ap (map sort) (append_assoc ts (t ∷ []) (some_tokens to)) ∙ map-append sort ts (t ∷ some_tokens to) in
    (some_tokens to, (r.all, record { some_rule = λ p. full (map sort ts) (sort t) (map sort (some_tokens to)) (sym e ∙ ap spell p); spelled = e ∙ sym f }))
  where
    full : (xs : List Token) (y : Token) (ys : List Token) → xs ++ (y ∷ ys) ≡ [] → ⊥
    full [] y ys h = let z : ◌≡◌ {A = ℕ} 0 1 = cc in omega arith
    full (x ∷ xs) y ys h = let z : ◌≡◌ {A = ℕ} 0 1 = cc in omega arith

-- the way to a token that is refused
pub record Hindered (L : Limits) (ts : List Token) (r : Refusal) : Type 0 where
  pub before : List Token
  pub token : Token
  pub after : List Token
  pub mid : Shape
  pub state : State mid
  pub to : Shape
  pub stands : Stands mid token to
  pub parted_so : ts ≡ before ++ (token ∷ after)
  pub way : Way L ready no_tables before mid state
  pub because : Why L stands state r

pub tell : (L : Limits) (ts : List SourceToken) (p : ℕ) (r : Refusal) (P : (before : List Token) → Token → Type 0) (h : Hindered L (map sort ts) r) → p ≡ (spot h.token).place → P h.before h.token → ToldAt L ts p P
tell L ts p r P h q f =
    let x : Parted ts h.before h.token h.after = parted ts h.before h.token h.after h.parted_so in
    let w : Way L ready no_tables (map sort x.front) h.mid h.state = subst (λ xs. Way L ready no_tables xs h.mid h.state) (sym x.front_is) h.way in
    let v : Stands h.mid (sort x.token) h.to = subst (λ u. Stands h.mid u h.to) (sym x.token_is) h.stands in
    record {
      before = x.front;
      token = x.token;
      after = x.back;
      parted = x.whole_is;
      placed = q ∙ ap (λ u. (spot u).place) (sym x.token_is) ∙ sort_place x.token;
      fine_before = fine_way L (map sort x.front) h.mid h.state w;
      begun = begins_with L x.front x.token h.mid h.to h.state w v;
      fact = subst (P (map sort x.front)) (sym x.token_is) (subst (λ xs. P xs h.token) (sym x.front_is) f);
    }

-- refusals 4 to 9 come so
abbrev pub ByToken : Refusal → Type 0
ByToken (faulty p c) = ⊥
ByToken (misplaced p) = ⊥
ByToken (too_deep p) = Unit {0}
ByToken (misspelt p) = Unit {0}
ByToken (names_full p) = Unit {0}
ByToken (kinds_full p) = Unit {0}
ByToken (nodes_full n) = Unit {0}
ByToken (second_rule p) = Unit {0}
ByToken (no_rule p) = ⊥

finish_token : (to : Shape) (st : State to) (e : Ending) (r : Refusal) → ByToken r → finish to st e ≡ refused r → ⊥
finish_token ready st (end q) r b h = at_end_token (at_end_view st st.names q r h) b
  where
    at_end_token : {es : List Entry} {q : ℕ} {r : Refusal} → AtEnd es q r → ByToken r → ⊥
    at_end_token (no_names x) b = b
    at_end_token (unruled x y) b = b
finish_token heading st (end q) r b h = let e : misplaced q ≡ r = cc in subst ByToken (sym e) b
finish_token (inside bs) st (end q) r b h = let e : misplaced q ≡ r = cc in subst ByToken (sym e) b
finish_token ready st (fault q c) r b h = let e : faulty q c ≡ r = cc in subst ByToken (sym e) b
finish_token heading st (fault q c) r b h = let e : faulty q c ≡ r = cc in subst ByToken (sym e) b
finish_token (inside bs) st (fault q c) r b h = let e : faulty q c ≡ r = cc in subst ByToken (sym e) b

pub hindered_stopped : (L : Limits) (ts : List Token) (e : Ending) (r : Refusal) → ByToken r → Stopped L ready no_tables ts e r → Hindered L ts r
hindered_stopped L ts e r b (strayed before t after to st h w x q) = absurd (subst ByToken q b)
hindered_stopped L ts e r b (hindered before t after mid st to v h w q) =
    record { before = before; token = t; after = after; mid = mid; state = st; to = to; stands = v; parted_so = h; way = w; because = why L v st r q }
hindered_stopped L ts e r b (ended to st w q) = absurd (finish_token to st e r b q)

pub hindrance : (L : Limits) (ts : List SourceToken) (e : Ending) (r : Refusal) → ByToken r → reading L ts e ≡ refused r → Hindered L (map sort ts) r
hindrance L ts e r b h = hindered_stopped L (map sort ts) e r b (stopped L ready no_tables (map sort ts) e r h)

-- refusal 4: brackets
depth_why : {L : Limits} {p deep : ℕ} {bad : Bool} {T : Tables} {twice : Bool} {q : ℕ} → WhyNot L p deep bad T twice (too_deep q) → (32 < deep) × (q ≡ p)
depth_why (by_depth h) = (h, refl)

opened_deeper : {sh : Shape} {t : Token} {to : Shape} → Stands sh t to → depth sh ≤ 32 → 32 < depth to → (b : Bracket) × (s : Spot) × (t ≡ opening b s) × (depth sh ≡ 32)
opened_deeper heads f h = absurd (omega arith)
opened_deeper becomes f h = absurd (omega arith)
opened_deeper names f h = absurd (omega arith)
opened_deeper spells f h = absurd (omega arith)
opened_deeper parts f h = absurd (omega arith)
opened_deeper (opens {b} {s}) f h = (b, s, refl, omega arith)
opened_deeper closes f h = absurd (omega arith)
opened_deeper stops f h = absurd (omega arith)

pub depth_right : DepthRight
depth_right L ts e p h =
    let x = hindrance L ts e (too_deep p) tt h in
    let y = depth_why x.because in
    let f = way_fits x.way (start_fits L) in
    let g = opened_deeper x.stands f.depth_fits y.0 in
    tell L ts p (too_deep p) _ x y.1 (g.0, g.1, g.2, sym (way_depth x.way) ∙ g.3)

-- refusal 5: spellings
spelling_why : {L : Limits} {p deep : ℕ} {bad : Bool} {T : Tables} {twice : Bool} {q : ℕ} → WhyNot L p deep bad T twice (misspelt q) → (bad ≡ true) × (q ≡ p)
spelling_why (by_spelling h g) = (g, refl)

bad_token : (t : Token) → bad_spelling t ≡ true → (s : Spot) × (t ≡ terminal spelling s) × (is_spelling s.bytes ≡ false)
bad_token (name s) h = let z : ◌≡◌ {A = ℕ} 0 1 = cc in absurd (omega arith)
bad_token (terminal class_word s) h = let z : ◌≡◌ {A = ℕ} 0 1 = cc in absurd (omega arith)
bad_token (terminal spelling s) h = (s, refl, not-true (is_spelling s.bytes) h)
bad_token (arrow s) h = let z : ◌≡◌ {A = ℕ} 0 1 = cc in absurd (omega arith)
bad_token (bar s) h = let z : ◌≡◌ {A = ℕ} 0 1 = cc in absurd (omega arith)
bad_token (semi s) h = let z : ◌≡◌ {A = ℕ} 0 1 = cc in absurd (omega arith)
bad_token (opening b s) h = let z : ◌≡◌ {A = ℕ} 0 1 = cc in absurd (omega arith)
bad_token (closing b s) h = let z : ◌≡◌ {A = ℕ} 0 1 = cc in absurd (omega arith)

pub spelling_right : SpellingRight
spelling_right L ts e p h =
    let x = hindrance L ts e (misspelt p) tt h in
    let y = spelling_why x.because in
    tell L ts p (misspelt p) _ x y.1 (bad_token x.token y.0)

-- refusals 6 and 7: names and kinds
pub names_why : {L : Limits} {p deep : ℕ} {bad : Bool} {T : Tables} {twice : Bool} {q : ℕ} → WhyNot L p deep bad T twice (names_full q) → (L.names < length T.names) × (q ≡ p)
names_why (by_names a b h) = (h, refl)

pub kinds_why : {L : Limits} {p deep : ℕ} {bad : Bool} {T : Tables} {twice : Bool} {q : ℕ} → WhyNot L p deep bad T twice (kinds_full q) → (L.kinds < length T.kinds) × (q ≡ p) × (bad ≡ false)
kinds_why (by_kinds a b c h) = (h, refl, b)

-- a list that grows has one more, and it was not there
longer_at : (b : Bool) (s e : Spot) (es : List Spot) → bytes_eq e.bytes s.bytes ≡ b
    → (length es < length (with_kind s es) → (Has s.bytes (written es) → ⊥) × (length (with_kind s es) ≡ suc (length es)))
    → suc (length es) < length (cond b (e ∷ es) (e ∷ with_kind s es)) → (Has s.bytes (written (e ∷ es)) → ⊥) × (length (cond b (e ∷ es) (e ∷ with_kind s es)) ≡ suc (suc (length es)))
longer_at true s e es g ih h = absurd (omega arith)
longer_at false s e es g ih h =
    let r = ih (omega arith) in
    (λ x. elim x [ inl y ↦ same_false e.bytes s.bytes g y | inr y ↦ r.0 y ], ap suc r.1)

pub longer : (s : Spot) (es : List Spot) → length es < length (with_kind s es) → (Has s.bytes (written es) → ⊥) × (length (with_kind s es) ≡ suc (length es))
longer s [] h = (λ x. x, refl)
longer s (e ∷ es) h = longer_at (bytes_eq e.bytes s.bytes) s e es refl (longer s es) h

new_longer_at : (b : Bool) (s e : Spot) (es : List Spot) → bytes_eq e.bytes s.bytes ≡ b → ((Has s.bytes (written es) → ⊥) → length (with_kind s es) ≡ suc (length es))
    → (Has s.bytes (written (e ∷ es)) → ⊥) → length (cond b (e ∷ es) (e ∷ with_kind s es)) ≡ suc (suc (length es))
new_longer_at true s e es g ih h = absurd (h (inl (same_true e.bytes s.bytes g)))
new_longer_at false s e es g ih h = ap suc (ih (λ x. h (inr x)))

pub new_longer : (s : Spot) (es : List Spot) → (Has s.bytes (written es) → ⊥) → length (with_kind s es) ≡ suc (length es)
new_longer s [] h = refl
new_longer s (e ∷ es) h = new_longer_at (bytes_eq e.bytes s.bytes) s e es refl (new_longer s es) h

name_longer : (t : Token) (l : List Spot) → length l < length (name_in t l) → (s : Spot) × (t ≡ name s) × (Has s.bytes (written l) → ⊥) × (length (name_in t l) ≡ suc (length l))
name_longer (name s) l h = let r = longer s l h in (s, refl, r.0, r.1)
name_longer (terminal k s) l h = absurd (omega arith)
name_longer (arrow s) l h = absurd (omega arith)
name_longer (bar s) l h = absurd (omega arith)
name_longer (semi s) l h = absurd (omega arith)
name_longer (opening b s) l h = absurd (omega arith)
name_longer (closing b s) l h = absurd (omega arith)

kind_longer : (t : Token) (l : List Spot) → length l < length (kind_in t l) → (k : Terminal) × (s : Spot) × (t ≡ terminal k s) × (Has s.bytes (written l) → ⊥) × (length (kind_in t l) ≡ suc (length l))
kind_longer (name s) l h = absurd (omega arith)
kind_longer (terminal k s) l h = let r = longer s l h in (k, s, refl, r.0, r.1)
kind_longer (arrow s) l h = absurd (omega arith)
kind_longer (bar s) l h = absurd (omega arith)
kind_longer (semi s) l h = absurd (omega arith)
kind_longer (opening b s) l h = absurd (omega arith)
kind_longer (closing b s) l h = absurd (omega arith)

pub names_right : NamesRight
names_right L ts e p h =
    let x = hindrance L ts e (names_full p) tt h in
    let y = names_why x.because in
    let f = way_fits x.way (start_fits L) in
    let T = tables_of x.mid x.state in
    let U = tables_of x.to (go x.stands x.state) in
    let a : firsts T.names ≡ names_in x.before = way_names x.way in
    let b : firsts U.names ≡ name_in x.token (names_in x.before) = names_step x.stands x.state ∙ ap (name_in x.token) a in
    let c : length (names_in x.before) ≡ length T.names = ap length (sym a) ∙ length_firsts T.names in
    let d : length (name_in x.token (names_in x.before)) ≡ length U.names = ap length (sym b) ∙ length_firsts U.names in
    let m : length T.names ≤ L.names = f.names_fit in
    let n : L.names < length U.names = y.0 in
    let g = name_longer x.token (names_in x.before) (omega arith) in
    let o : length (name_in x.token (names_in x.before)) ≡ suc (length (names_in x.before)) = g.3 in
    tell L ts p (names_full p) _ x y.1 (g.0, g.1, g.2, omega arith)

pub kinds_right : KindsRight
kinds_right L ts e p h =
    let x = hindrance L ts e (kinds_full p) tt h in
    let y = kinds_why x.because in
    let f = way_fits x.way (start_fits L) in
    let T = tables_of x.mid x.state in
    let U = tables_of x.to (go x.stands x.state) in
    let a : T.kinds ≡ kinds_in x.before = way_kinds x.way in
    let b : U.kinds ≡ kind_in x.token (kinds_in x.before) = kinds_step x.stands x.state ∙ ap (kind_in x.token) a in
    let c : length (kinds_in x.before) ≡ length T.kinds = ap length (sym a) in
    let d : length (kind_in x.token (kinds_in x.before)) ≡ length U.kinds = ap length (sym b) in
    let m : length T.kinds ≤ L.kinds = f.kinds_fit in
    let n : L.kinds < length U.kinds = y.0 in
    let g = kind_longer x.token (kinds_in x.before) (omega arith) in
    let o : length (kind_in x.token (kinds_in x.before)) ≡ suc (length (kinds_in x.before)) = g.4 in
    tell L ts p (kinds_full p) _ x y.1 (g.0, g.1, g.2, y.2, g.3, omega arith)

-- refusal 8: nodes
nodes_why : {L : Limits} {p deep : ℕ} {bad : Bool} {T : Tables} {twice : Bool} {n : ℕ} → WhyNot L p deep bad T twice (nodes_full n)
    → (n ≡ L.nodes) × (L.nodes < length T.nodes) × (bad ≡ false) × (length T.names ≤ L.names) × (length T.kinds ≤ L.kinds)
nodes_why (by_nodes a b c d h) = (refl, h, b, c, d)

pub gather_last : (f : Token → List Spot → List Spot) (l : List Spot) (a : List Token) (t : Token) → gather f l (a ++ (t ∷ [])) ≡ f t (gather f l a)
gather_last f l [] t = refl
gather_last f l (x ∷ a) t = gather_last f (f x l) a t

pub nodes_right : NodesRight
nodes_right L ts e n h =
    let x = hindrance L ts e (nodes_full n) tt h in
    let y = nodes_why x.because in
    let U = tables_of x.to (go x.stands x.state) in
    let a : names_in (x.before ++ (x.token ∷ [])) ≡ firsts U.names =
    gather_last name_in [] x.before x.token ∙ ap (name_in x.token) (sym (way_names x.way)) ∙ sym (names_step x.stands x.state) in
    let b : kinds_in (x.before ++ (x.token ∷ [])) ≡ U.kinds =
    gather_last kind_in [] x.before x.token ∙ ap (kind_in x.token) (sym (way_kinds x.way)) ∙ sym (kinds_step x.stands x.state) in
    let c : nodes_made (x.before ++ (x.token ∷ [])) ≡ length U.nodes = way_nodes x.way (x.token ∷ []) ∙ nodes_on x.stands x.state [] in
    let a' : length (names_in (x.before ++ (x.token ∷ []))) ≡ length U.names = ap length a ∙ length_firsts U.names in
    let b' : length (kinds_in (x.before ++ (x.token ∷ []))) ≡ length U.kinds = ap length b in
    let y₁ : L.nodes < length U.nodes = y.1 in
    let y₃ : length U.names ≤ L.names = y.3 in
    let y₄ : length U.kinds ≤ L.kinds = y.4 in
    record { made = y.0; place = (spot x.token).place; told = tell L ts (spot x.token).place (nodes_full n) _ x refl (omega arith, y.2, omega arith, omega arith) }

pub nodes_counted : NodesCounted
nodes_counted ts rules text = rest_nodes (map sort ts) ready rules no_tables text.spelled

-- refusal 9: second rules
pub rule_why : {L : Limits} {p deep : ℕ} {bad : Bool} {T : Tables} {twice : Bool} {q : ℕ} → WhyNot L p deep bad T twice (second_rule q) → (twice ≡ true) × (q ≡ p)
rule_why (by_rule a b c d e h) = (h, refl)

second_head : (L : Limits) {mid : Shape} {t : Token} {to : Shape} (v : Stands mid t to) (st : State mid) (before : List Token) → Way L ready no_tables before mid st → again v st ≡ true
    → (s : Spot) × (t ≡ name s) × (rules : List Rule) × (spell rules ≡ before) × Has s.bytes (heads_of rules)
second_head L (heads {s}) T before w h =
    let r : Whole ready no_tables before ready T [] = whole w [] in
    let n : numbering r.all ≡ T = r.numbered in
    let g : has_rule s.bytes (numbering r.all).names ≡ true = ap (λ X. has_rule s.bytes X.names) n ∙ h in
    (s, refl, r.all, r.spelled ∙ append-nil before, elim (ruled_sound s.bytes r.all no_tables g) [ inl x ↦ x | inr y ↦ let z : ◌≡◌ {A = ℕ} 0 1 = cc in absurd (omega arith) ])
second_head L becomes st before w h = let z : ◌≡◌ {A = ℕ} 0 1 = cc in absurd (omega arith)
second_head L names st before w h = let z : ◌≡◌ {A = ℕ} 0 1 = cc in absurd (omega arith)
second_head L spells st before w h = let z : ◌≡◌ {A = ℕ} 0 1 = cc in absurd (omega arith)
second_head L parts st before w h = let z : ◌≡◌ {A = ℕ} 0 1 = cc in absurd (omega arith)
second_head L opens st before w h = let z : ◌≡◌ {A = ℕ} 0 1 = cc in absurd (omega arith)
second_head L closes st before w h = let z : ◌≡◌ {A = ℕ} 0 1 = cc in absurd (omega arith)
second_head L stops st before w h = let z : ◌≡◌ {A = ℕ} 0 1 = cc in absurd (omega arith)

pub second_right : SecondRight
second_right L ts e p h =
    let x = hindrance L ts e (second_rule p) tt h in
    let y = rule_why x.because in
    tell L ts p (second_rule p) _ x y.1 (second_head L x.stands x.state x.before x.way y.0)

-- refusal 10: which names are listed
has_with_at : (b : Bool) (w : List ℕ) (s e : Spot) (es : List Spot) → (Has w (written (with_kind s es)) → Has w (written es) ⊎ (s.bytes ≡ w))
    → Has w (written (cond b (e ∷ es) (e ∷ with_kind s es))) → Has w (written (e ∷ es)) ⊎ (s.bytes ≡ w)
has_with_at true w s e es ih h = inl h
has_with_at false w s e es ih (inl p) = inl (inl p)
has_with_at false w s e es ih (inr q) = elim (ih q) [ inl x ↦ inl (inr x) | inr y ↦ inr y ]

has_with : (w : List ℕ) (s : Spot) (es : List Spot) → Has w (written (with_kind s es)) → Has w (written es) ⊎ (s.bytes ≡ w)
has_with w s [] (inl p) = inr p
has_with w s [] (inr q) = elim q [ ]
has_with w s (e ∷ es) h = has_with_at (bytes_eq e.bytes s.bytes) w s e es (has_with w s es) h

distinct_at : (b : Bool) (s e : Spot) (es : List Spot) → bytes_eq e.bytes s.bytes ≡ b → Distinct (written (with_kind s es)) → Distinct (written (e ∷ es)) → Distinct (written (cond b (e ∷ es) (e ∷ with_kind s es)))
distinct_at true s e es g ih d = d
distinct_at false s e es g ih d = (λ x. elim (has_with e.bytes s es x) [ inl y ↦ d.0 y | inr y ↦ same_false e.bytes s.bytes g (sym y) ], ih)

pub distinct_with : (s : Spot) (es : List Spot) → Distinct (written es) → Distinct (written (with_kind s es))
distinct_with s [] d = (λ x. x, tt)
distinct_with s (e ∷ es) d = distinct_at (bytes_eq e.bytes s.bytes) s e es refl (distinct_with s es d.1) d

name_distinct : (t : Token) (l : List Spot) → Distinct (written l) → Distinct (written (name_in t l))
name_distinct (name s) l d = distinct_with s l d
name_distinct (terminal k s) l d = d
name_distinct (arrow s) l d = d
name_distinct (bar s) l d = d
name_distinct (semi s) l d = d
name_distinct (opening b s) l d = d
name_distinct (closing b s) l d = d

pub names_distinct : (ts : List Token) (l : List Spot) → Distinct (written l) → Distinct (written (gather name_in l ts))
names_distinct [] l d = d
names_distinct (t ∷ ts) l d = names_distinct ts (name_in t l) (name_distinct t l d)

-- the lowest entry without a root
pub record Rootless (es : List Entry) (x : ℕ) : Type 0 where
  pub lower : List Entry
  pub entry : Entry
  pub higher : List Entry
  pub is : es ≡ lower ++ (entry ∷ higher)
  pub rootless : entry.root ≡ none
  pub placed : x ≡ entry.first.place
  pub rooted : Each (λ e. (r : ℕ) × (e.root ≡ some r)) lower

rootless_at : (o : Option ℕ) (e : Entry) (es : List Entry) (x : ℕ) → e.root ≡ o → (ruleless es ≡ some x → Rootless es x) → elim o [ none ↦ some e.first.place | some r ↦ ruleless es ] ≡ some x → Rootless (e ∷ es) x
rootless_at none e es x g ih h = record { lower = []; entry = e; higher = es; is = refl; rootless = g; placed = cc; rooted = tt }
rootless_at (some r) e es x g ih h =
    let l = ih h in
    record { lower = e ∷ l.lower; entry = l.entry; higher = l.higher; is = ap (λ xs. e ∷ xs) l.is; rootless = l.rootless; placed = l.placed; rooted = ((r, g), l.rooted) }

pub rootless_of : (es : List Entry) (x : ℕ) → ruleless es ≡ some x → Rootless es x
rootless_of [] x h = let z : ◌≡◌ {A = ℕ} 0 1 = cc in absurd (omega arith)
rootless_of (e ∷ es) x h = rootless_at e.root e es x refl (rootless_of es x) h

-- where names differ, an entry has a rule if it has a root
pub firsts_append : (a b : List Entry) → firsts (a ++ b) ≡ firsts a ++ firsts b
firsts_append [] b = refl
firsts_append (e ∷ a) b = ap (λ xs. e.first ∷ xs) (firsts_append a b)

has_later : (w : List ℕ) (a b : List Spot) → Has w (written b) → Has w (written (a ++ b))
has_later w [] b h = h
has_later w (x ∷ a) b h = inr (has_later w a b h)

pub has_entry : (lower : List Entry) (e : Entry) (higher : List Entry) → Distinct (written (firsts (lower ++ (e ∷ higher))))
    → has_rule e.first.bytes (lower ++ (e ∷ higher)) ≡ elim e.root [ none ↦ false | some r ↦ true ]
has_entry [] e higher d = rw (same_refl e.first.bytes)
has_entry (x ∷ lower) e higher d =
    let k : bytes_eq x.first.bytes e.first.bytes ≡ false = apart (bytes_eq x.first.bytes e.first.bytes) refl in
    rw k (has_entry lower e higher d.1)
  where
    apart : (c : Bool) → bytes_eq x.first.bytes e.first.bytes ≡ c → c ≡ false
    apart true f =
        absurd (d.0 (subst (λ l. Has x.first.bytes (written l)) (sym (firsts_append lower (e ∷ higher)))
        (has_later x.first.bytes (firsts lower) (firsts (e ∷ higher)) (inl (sym (same_true x.first.bytes e.first.bytes f))))))
    apart false f = refl
