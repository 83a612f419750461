-- Each refusal is told wherever what it says holds.
use Rattle.std.proofs.Common.{◌≡◌, ℕ, suc, ◌<◌, ◌≤◌, Bool, true, false, cond, not, ◌⊎◌, List, [], ◌∷◌, ◌++◌, map, length, sym, refl, ap, ◌∙◌, subst, inl, inr, append_assoc, append-nil, arith, le-ltb, lt-ltb}
use mathlib.Core.List.{map-append}
use mathlib.Core.Option.{Option, none, some}
use Rattle.std.specs.Str.{bytes_eq}
use Rattle.notation.specs.Tokens.{Spot, spelling, Token, name, terminal, opening, is_spelling, spot, SourceToken, sort, Ending, end, fault}
use Rattle.notation.specs.Syntax.{Rule, spell}
use Rattle.notation.specs.Tables.{Tables, no_tables, Entry, with_name, with_kind}
use Rattle.notation.specs.Numbering.{numbering}
use Rattle.notation.specs.Standing.{Shape, ready, heading, inside, Stands, heads, becomes, names, spells, parts, opens, closes, stops, Stood, stand?, depth}
use Rattle.notation.specs.Reading.{State, tables_of, go, Limits, Refusal, misplaced, faulty, too_deep, misspelt, names_full, kinds_full, nodes_full, second_rule, no_rule, bad_spelling, has_rule, ruleless, again, refuse, refusal, Outcome, read, refused, at_end, finish, or_on, step, run, reading}
use Rattle.notation.specs.Statements.{TextOf, IsText, BeginsText, Each, Has, heads_of, written, name_in, kind_in, gather, names_in, kinds_in, open_with, open_after, nodes_from, nodes_made, FineSoFar, ReadRight, MisplacedAt, EndsEarly, ToldAt, DeepAt, MisspeltAt, NamesAt, KindsAt, NodesTold, SecondAt, Unruled, RefusalsTold}
use Rattle.notation.proofs.Rest.{Rest, spell_rest, spell_build, number_rest, First, none_left, one_left, first}
use Rattle.notation.proofs.Unique.{stand_yes, unique}
use Rattle.notation.proofs.Grows.{grows}
use Rattle.notation.proofs.Why.{WhyNot, by_depth, by_spelling, by_names, by_kinds, by_nodes, by_rule, Why, why}
use Rattle.notation.proofs.Names.{firsts, length_firsts, names_step, kinds_step, way_names, way_kinds, depth_step, way_depth}
use Rattle.notation.proofs.Roots.{ruled_sound, ruled_complete}
use Rattle.notation.proofs.FineWay.{Fits, way_fits, start_fits, nodes_on, way_nodes}
use Rattle.notation.proofs.Begins.{sort_place, reading_sound, misplaced_right}
use Rattle.notation.proofs.Way.{Way, here, on, Stopped, strayed, hindered, ended, stopped, Left, left, Whole, whole, next_stands}
use Rattle.notation.proofs.Told.{depth_right, spelling_right, names_right, kinds_right, nodes_right, second_right, new_longer, gather_last, begins_with}
use Rattle.notation.proofs.Complete.{unruled_right, each_at, open_append, gather_append, gather_more, name_more, kind_more}
use Rattle.notation.proofs.Needed.{has_all}

-- reading along a way
pub run_on : (L : Limits) {sh : Shape} {t : Token} {to : Shape} (v : Stands sh t to) (st : State sh) (ts : List Token) (e : Ending) → run L sh st (t ∷ ts) e ≡ or_on (refusal L v st) (run L to (go v st) ts e)
run_on L {sh} {t} v st ts e = ap (λ (d : Dec (Stood sh t)). step L d st (λ to st'. run L to st' ts e)) (stand_yes v)

pub run_way : {L : Limits} {sh : Shape} {st : State sh} {ts : List Token} {to : Shape} {st' : State to} → Way L sh st ts to st' → (more : List Token) (e : Ending) → run L sh st (ts ++ more) e ≡ run L to st' more e
run_way here more e = refl
run_way {L} {st = st} (on {mid = m} {ts = us} v n w) more e = run_on L v st (us ++ more) e ∙ ap (λ o. or_on o (run L m (go v st) (us ++ more) e)) n ∙ run_way w more e

stray_at : (L : Limits) (sh : Shape) (t : Token) (d : Dec (Stood sh t)) (st : State sh) (f : (to : Shape) → State to → Outcome) → (Stood sh t → ⊥) → step L d st f ≡ refused (misplaced (spot t).place)
stray_at L sh t (no x) st f n = refl
stray_at L sh t (yes p) st f n = absurd (n p)

-- what is refused, and with which number
pub because_so : (L : Limits) (p deep : ℕ) (bad : Bool) (T : Tables) (twice : Bool) (r : Refusal) → WhyNot L p deep bad T twice r → refuse L p deep bad T twice ≡ some r
because_so L p deep bad T twice _ (by_depth h) = rw (lt-ltb 32 deep h)
because_so L p deep bad T twice _ (by_spelling a h) = rw (le-ltb 32 deep a, h)
because_so L p deep bad T twice _ (by_names a b h) = rw (le-ltb 32 deep a, b, lt-ltb L.names (length T.names) h)
because_so L p deep bad T twice _ (by_kinds a b c h) = rw (le-ltb 32 deep a, b, le-ltb L.names (length T.names) c, lt-ltb L.kinds (length T.kinds) h)
because_so L p deep bad T twice _ (by_nodes a b c d h) =
    rw (le-ltb 32 deep a, b, le-ltb L.names (length T.names) c, le-ltb L.kinds (length T.kinds) d, lt-ltb L.nodes (length T.nodes) h)
because_so L p deep bad T twice _ (by_rule a b c d e h) =
    rw (le-ltb 32 deep a, b, le-ltb L.names (length T.names) c, le-ltb L.kinds (length T.kinds) d, le-ltb L.nodes (length T.nodes) e, h)

-- the beginning of a text is the beginning of a text
pub begins_front : (a b : List SourceToken) → BeginsText (a ++ b) → BeginsText a
begins_front a b (more, (rules, text)) = (b ++ more, (rules, subst (λ ts. TextOf ts rules) (append_assoc a b more) text))

nodes_less : (sh : Shape) (st : State sh) (ts : List Token) → length (tables_of sh st).nodes ≤ nodes_from sh st ts
nodes_less sh st [] = omega arith
nodes_less sh st (t ∷ ts) = at (stand? sh t) (λ to st'. nodes_less to st' ts)
  where
    at : (d : Dec (Stood sh t)) → ((to : Shape) (st' : State to) → length (tables_of to st').nodes ≤ nodes_from to st' ts)
        → length (tables_of sh st).nodes ≤ elim d [ no x ↦ length (tables_of sh st).nodes | yes p ↦ nodes_from p.0 (go p.1 st) ts ]
    at (no x) ih = omega arith
    at (yes (to, v)) ih = let a = (grows v st).nodes in let b = ih to (go v st) in omega arith

nodes_front : (sh : Shape) (st : State sh) (a b : List Token) → nodes_from sh st a ≤ nodes_from sh st (a ++ b)
nodes_front sh st [] b = nodes_less sh st b
nodes_front sh st (t ∷ a) b = at (stand? sh t) (λ to st'. nodes_front to st' a b)
  where
    at : (d : Dec (Stood sh t)) → ((to : Shape) (st' : State to) → nodes_from to st' a ≤ nodes_from to st' (a ++ b))
        → (elim d [ no x ↦ length (tables_of sh st).nodes | yes p ↦ nodes_from p.0 (go p.1 st) a ]) ≤ (elim d [ no x ↦ length (tables_of sh st).nodes | yes p ↦ nodes_from p.0 (go p.1 st) (a ++ b) ])
    at (no x) ih = omega arith
    at (yes (to, v)) ih = ih to (go v st)

-- where tokens that begin a text and are in order lead
pub record Reached (L : Limits) (ts : List Token) : Type 0 where
  pub to : Shape
  pub state : State to
  pub way : Way L ready no_tables ts to state

module _ (L : Limits) (ts : List SourceToken) (b : BeginsText ts) (F : FineSoFar L (map sort ts)) where
  abbrev broken : Ending
  broken = fault 0 0

  begun_not : {q : ℕ} → MisplacedAt L ts q ⊎ EndsEarly L ts broken q → ⊥
  begun_not (inl m) = m.not_with_it (begins_front (m.before ++ (m.token ∷ [])) m.after (subst BeginsText (m.parted ∙ sym (append_assoc m.before (m.token ∷ []) m.after)) b))
  begun_not (inr x) = let e = x.ended in let z : ◌≡◌ {A = ℕ} 0 1 = cc in omega arith

  told_parted : {q : ℕ} (P : List Token → Token → Type 0) (x : ToldAt L ts q P) → map sort ts ≡ map sort x.before ++ (sort x.token ∷ map sort x.after)
  told_parted P x = ap (map sort) x.parted ∙ map-append sort x.before (x.token ∷ x.after)

  stopped_faulty : (q c : ℕ) → Stopped L ready no_tables (map sort ts) broken (faulty q c) → Reached L (map sort ts)
  stopped_faulty q c (strayed before t after to st h w x y) = let z : ◌≡◌ {A = ℕ} 0 1 = cc in absurd (omega arith)
  stopped_faulty q c (hindered before t after mid st to v h w y) = elim (why L v st (faulty q c) y) [ ]
  stopped_faulty q c (ended to st w y) = record { to = to; state = st; way = w }

  reached_refused : (r : Refusal) → reading L ts broken ≡ refused r → Reached L (map sort ts)
  reached_refused (faulty q c) h = stopped_faulty q c (stopped L ready no_tables (map sort ts) broken (faulty q c) h)
  reached_refused (misplaced q) h = absurd (begun_not (misplaced_right L ts broken q h))
  reached_refused (too_deep q) h =
      let x = depth_right L ts broken q h in
      let b = map sort x.before in
      let t = sort x.token in
      let e : map sort ts ≡ (b ++ (t ∷ [])) ++ map sort x.after = told_parted _ x ∙ sym (append_assoc b (t ∷ []) (map sort x.after)) in
      let f : open_after 0 (b ++ (t ∷ [])) ≤ 32 = F.shallow (b ++ (t ∷ [])) (map sort x.after) e in
      let g : open_after 0 (b ++ (t ∷ [])) ≡ open_with t (open_after 0 b) = open_append 0 b (t ∷ []) in
      let i : open_with t (open_after 0 b) ≡ suc (open_after 0 b) = ap (λ u. open_with u (open_after 0 b)) x.fact.2 in
      let j : open_after 0 b ≡ 32 = x.fact.3 in
      absurd (omega arith)
  reached_refused (misspelt q) h =
      let x = spelling_right L ts broken q h in
      let a : bad_spelling (sort x.token) ≡ false = each_at (λ t. bad_spelling t ≡ false) (map sort x.before) (sort x.token) (map sort x.after) (subst (Each (λ t. bad_spelling t ≡ false)) (told_parted _ x) F.spelt) in
      let c : bad_spelling (sort x.token) ≡ not (is_spelling x.fact.0.bytes) = ap bad_spelling x.fact.1 in
      let d : not (is_spelling x.fact.0.bytes) ≡ true = ap not x.fact.2 in
      let z : ◌≡◌ {A = ℕ} 0 1 = cc in absurd (omega arith)
  reached_refused (names_full q) h =
      let x = names_right L ts broken q h in
      let b = map sort x.before in
      let l : List Spot = names_in b in
      let s : Spot = x.fact.0 in
      let e : names_in (map sort ts) ≡ gather name_in (name_in (sort x.token) l) (map sort x.after) = ap names_in (told_parted _ x) ∙ gather_append name_in [] b (sort x.token ∷ map sort x.after) in
      let e' : length (names_in (map sort ts)) ≡ length (gather name_in (name_in (sort x.token) l) (map sort x.after)) = ap length e in
      let f : length (name_in (sort x.token) l) ≤ length (gather name_in (name_in (sort x.token) l) (map sort x.after)) = gather_more name_in name_more (name_in (sort x.token) l) (map sort x.after) in
      let g : length (name_in (sort x.token) l) ≡ length (with_kind s l) = ap (λ u. length (name_in u l)) x.fact.1 in
      let i : length (with_kind s l) ≡ suc (length l) = new_longer s l x.fact.2 in
      let j : length l ≡ L.names = x.fact.3 in
      let k : length (names_in (map sort ts)) ≤ L.names = F.names_fit in
      absurd (omega arith)
  reached_refused (kinds_full q) h =
      let x = kinds_right L ts broken q h in
      let b = map sort x.before in
      let l : List Spot = kinds_in b in
      let s : Spot = x.fact.1 in
      let e : kinds_in (map sort ts) ≡ gather kind_in (kind_in (sort x.token) l) (map sort x.after) = ap kinds_in (told_parted _ x) ∙ gather_append kind_in [] b (sort x.token ∷ map sort x.after) in
      let e' : length (kinds_in (map sort ts)) ≡ length (gather kind_in (kind_in (sort x.token) l) (map sort x.after)) = ap length e in
      let f : length (kind_in (sort x.token) l) ≤ length (gather kind_in (kind_in (sort x.token) l) (map sort x.after)) = gather_more kind_in kind_more (kind_in (sort x.token) l) (map sort x.after) in
      let g : length (kind_in (sort x.token) l) ≡ length (with_kind s l) = ap (λ u. length (kind_in u l)) x.fact.2 in
      let i : length (with_kind s l) ≡ suc (length l) = new_longer s l x.fact.4 in
      let j : length l ≡ L.kinds = x.fact.5 in
      let k : length (kinds_in (map sort ts)) ≤ L.kinds = F.kinds_fit in
      absurd (omega arith)
  reached_refused (nodes_full n) h =
      let y = nodes_right L ts broken n h in
      let x = y.told in
      let b = map sort x.before in
      let t = sort x.token in
      let e : map sort ts ≡ (b ++ (t ∷ [])) ++ map sort x.after = told_parted _ x ∙ sym (append_assoc b (t ∷ []) (map sort x.after)) in
      let f : nodes_made (b ++ (t ∷ [])) ≤ nodes_made ((b ++ (t ∷ [])) ++ map sort x.after) = nodes_front ready no_tables (b ++ (t ∷ [])) (map sort x.after) in
      let g : nodes_made (map sort ts) ≡ nodes_made ((b ++ (t ∷ [])) ++ map sort x.after) = ap nodes_made e in
      let i : nodes_made (map sort ts) ≤ L.nodes = F.nodes_fit in
      let j : L.nodes < nodes_made (b ++ (t ∷ [])) = x.fact.0 in
      absurd (omega arith)
  reached_refused (second_rule q) h =
      let x = second_right L ts broken q h in
      let e : map sort ts ≡ spell x.fact.2 ++ (name x.fact.0 ∷ map sort x.after) =
      told_parted _ x ∙ ap (λ xs. xs ++ (sort x.token ∷ map sort x.after)) (sym x.fact.3) ∙ ap (λ u. spell x.fact.2 ++ (u ∷ map sort x.after)) x.fact.1 in
      absurd (F.once x.fact.2 x.fact.0 (map sort x.after) e x.fact.4)
  reached_refused (no_rule q) h = let x = unruled_right L ts broken q h in let e = x.ended.1 in let z : ◌≡◌ {A = ℕ} 0 1 = cc in absurd (omega arith)

  reached_so : (o : Outcome) → reading L ts broken ≡ o → Reached L (map sort ts)
  reached_so (read X) h = let r : ReadRight ts broken X = reading_sound L ts broken X h in let e = r.ended.1 in let z : ◌≡◌ {A = ℕ} 0 1 = cc in absurd (omega arith)
  reached_so (refused r) h = reached_refused r h

  pub reached : Reached L (map sort ts)
  reached = reached_so (reading L ts broken) refl

-- a token with which the tokens begin a text can stand
pub can_stand : (L : Limits) (before : List SourceToken) (t : SourceToken) (to : Shape) (st : State to) → Way L ready no_tables (map sort before) to st → BeginsText (before ++ (t ∷ [])) → Stood to (sort t)
can_stand L before t to st w (more, (rules, text)) =
    let e : spell rules ≡ map sort before ++ (sort t ∷ map sort more) =
    text.spelled ∙ ap (map sort) (append_assoc before (t ∷ []) more) ∙ map-append sort before (t ∷ more) in
    let l : Left ready no_tables rules to st (sort t ∷ map sort more) = left w rules (sort t ∷ map sort more) e in
    next_stands to l.rest (sort t) (map sort more) l.spelled

-- where a token stands that is told
pub record StandingAt (L : Limits) (before : List Token) (t : Token) : Type 0 where
  pub mid : Shape
  pub state : State mid
  pub way : Way L ready no_tables before mid state
  pub to : Shape
  pub stands : Stands mid t to

module _ {L : Limits} {ts : List SourceToken} {p : ℕ} (P : List Token → Token → Type 0) (x : ToldAt L ts p P) where
  pub standing : StandingAt L (map sort x.before) (sort x.token)
  standing =
      let R : Reached L (map sort x.before) = reached L x.before (begins_front x.before (x.token ∷ []) x.begun) x.fine_before in
      let v : Stood R.to (sort x.token) = can_stand L x.before x.token R.to R.state R.way x.begun in
      record { mid = R.to; state = R.state; way = R.way; to = v.0; stands = v.1 }

  pub told_so : (e : Ending) (r : Refusal) (s : StandingAt L (map sort x.before) (sort x.token)) → Why L s.stands s.state r → reading L ts e ≡ refused r
  told_so e r s y =
      let t = sort x.token in
      let b = map sort x.before in
      let a = map sort x.after in
      let q : map sort ts ≡ b ++ (t ∷ a) = ap (map sort) x.parted ∙ map-append sort x.before (x.token ∷ x.after) in
      let z : refusal L s.stands s.state ≡ some r =
      because_so L (spot t).place (depth s.to) (bad_spelling t) (tables_of s.to (go s.stands s.state)) (again s.stands s.state) r y in
      ap (λ us. run L ready no_tables us e) q ∙ run_way s.way (t ∷ a) e ∙ run_on L s.stands s.state a e ∙ ap (λ o. or_on o (run L s.to (go s.stands s.state) a e)) z

  pub here_is : (spot (sort x.token)).place ≡ p
  here_is = sort_place x.token ∙ sym x.placed

depth_of : {sh : Shape} {t : Token} {to : Shape} (v : Stands sh t to) (u : Token) → t ≡ u → depth to ≡ open_with u (depth sh)
depth_of {sh} v u e = depth_step v ∙ ap (λ t. open_with t (depth sh)) e

depth_back : (L : Limits) (ts : List SourceToken) (e : Ending) (p : ℕ) → DeepAt L ts p → reading L ts e ≡ refused (too_deep p)
depth_back L ts e p x =
    let s = standing _ x in
    let (b, t, i, j) = x.fact in
    let a : depth s.to ≡ suc (depth s.mid) = depth_of s.stands (opening b t) i in
    let c : depth s.mid ≡ open_after 0 (map sort x.before) = way_depth s.way in
    let d : 32 < depth s.to = omega arith in
    told_so _ x e (too_deep (spot (sort x.token)).place) s (by_depth d) ∙ ap (λ q. refused (too_deep q)) (here_is _ x)

spelling_back : (L : Limits) (ts : List SourceToken) (e : Ending) (p : ℕ) → MisspeltAt L ts p → reading L ts e ≡ refused (misspelt p)
spelling_back L ts e p x =
    let s = standing _ x in
    let (t, i, j) = x.fact in
    let f : depth s.mid ≤ 32 = (way_fits s.way (start_fits L)).depth_fits in
    let a : depth s.to ≡ depth s.mid = depth_of s.stands (terminal spelling t) i in
    let c : bad_spelling (sort x.token) ≡ true = ap bad_spelling i ∙ ap not j in
    let d : depth s.to ≤ 32 = omega arith in
    told_so _ x e (misspelt (spot (sort x.token)).place) s (by_spelling d c) ∙ ap (λ q. refused (misspelt q)) (here_is _ x)

-- the names and kinds that a token leaves
names_left : (L : Limits) {before : List Token} {mid : Shape} {st : State mid} {t : Token} {to : Shape} (v : Stands mid t to) → Way L ready no_tables before mid st
    → length (tables_of to (go v st)).names ≡ length (name_in t (names_in before))
names_left L {before} {mid} {st} {t} {to} v w = sym (length_firsts (tables_of to (go v st)).names) ∙ ap length (names_step v st ∙ ap (name_in t) (way_names w))

kinds_left : (L : Limits) {before : List Token} {mid : Shape} {st : State mid} {t : Token} {to : Shape} (v : Stands mid t to) → Way L ready no_tables before mid st
    → length (tables_of to (go v st)).kinds ≡ length (kind_in t (kinds_in before))
kinds_left L {before} {mid} {st} {t} {to} v w = ap length (kinds_step v st ∙ ap (kind_in t) (way_kinds w))

names_back : (L : Limits) (ts : List SourceToken) (e : Ending) (p : ℕ) → NamesAt L ts p → reading L ts e ≡ refused (names_full p)
names_back L ts e p x =
    let s = standing _ x in
    let (t, i, n, j) = x.fact in
    let l : List Spot = names_in (map sort x.before) in
    let f : depth s.mid ≤ 32 = (way_fits s.way (start_fits L)).depth_fits in
    let a : depth s.to ≡ depth s.mid = depth_of s.stands (name t) i in
    let c : bad_spelling (sort x.token) ≡ false = ap bad_spelling i in
    let g : length (tables_of s.to (go s.stands s.state)).names ≡ length (with_kind t l) = names_left L s.stands s.way ∙ ap (λ u. length (name_in u l)) i in
    let k : length (with_kind t l) ≡ suc (length l) = new_longer t l n in
    let d : depth s.to ≤ 32 = omega arith in
    let m : L.names < length (tables_of s.to (go s.stands s.state)).names = omega arith in
    told_so _ x e (names_full (spot (sort x.token)).place) s (by_names d c m) ∙ ap (λ q. refused (names_full q)) (here_is _ x)

kinds_back : (L : Limits) (ts : List SourceToken) (e : Ending) (p : ℕ) → KindsAt L ts p → reading L ts e ≡ refused (kinds_full p)
kinds_back L ts e p x =
    let s = standing _ x in
    let (y, t, i, c, n, j) = x.fact in
    let l : List Spot = kinds_in (map sort x.before) in
    let F : Fits L s.mid s.state = way_fits s.way (start_fits L) in
    let f : depth s.mid ≤ 32 = F.depth_fits in
    let f' : length (tables_of s.mid s.state).names ≤ L.names = F.names_fit in
    let a : depth s.to ≡ depth s.mid = depth_of s.stands (terminal y t) i in
    let g : length (tables_of s.to (go s.stands s.state)).kinds ≡ length (with_kind t l) = kinds_left L s.stands s.way ∙ ap (λ u. length (kind_in u l)) i in
    let k : length (with_kind t l) ≡ suc (length l) = new_longer t l n in
    let o : length (tables_of s.to (go s.stands s.state)).names ≡ length (names_in (map sort x.before)) = names_left L s.stands s.way ∙ ap (λ u. length (name_in u (names_in (map sort x.before)))) i in
    let o' : length (names_in (map sort x.before)) ≡ length (tables_of s.mid s.state).names = ap length (sym (way_names s.way)) ∙ length_firsts (tables_of s.mid s.state).names in
    let d : depth s.to ≤ 32 = omega arith in
    let m : L.kinds < length (tables_of s.to (go s.stands s.state)).kinds = omega arith in
    let m' : length (tables_of s.to (go s.stands s.state)).names ≤ L.names = omega arith in
    told_so _ x e (kinds_full (spot (sort x.token)).place) s (by_kinds d c m' m) ∙ ap (λ q. refused (kinds_full q)) (here_is _ x)

-- an opening bracket makes no node
nodes_depth : {sh : Shape} {t : Token} {to : Shape} (v : Stands sh t to) (st : State sh) → depth sh ≤ 32 → length (tables_of sh st).nodes < length (tables_of to (go v st)).nodes → depth to ≤ 32
nodes_depth heads st f h = f
nodes_depth becomes st f h = f
nodes_depth names st f h = f
nodes_depth spells st f h = f
nodes_depth parts st f h = f
nodes_depth opens st f h = absurd (omega arith)
nodes_depth closes st f h = omega arith
nodes_depth stops st f h = f

nodes_back : (L : Limits) (ts : List SourceToken) (e : Ending) (n : ℕ) → NodesTold L ts n → reading L ts e ≡ refused (nodes_full n)
nodes_back L ts e n y =
    let x = y.told in
    let s = standing _ x in
    let (i, c, j, k) = x.fact in
    let b = map sort x.before in
    let t = sort x.token in
    let U = tables_of s.to (go s.stands s.state) in
    let F : Fits L s.mid s.state = way_fits s.way (start_fits L) in
    let f : length (tables_of s.mid s.state).nodes ≤ L.nodes = F.nodes_fit in
    let g : nodes_made (b ++ (t ∷ [])) ≡ length U.nodes = way_nodes s.way (t ∷ []) ∙ nodes_on s.stands s.state [] in
    let o : length U.names ≡ length (names_in (b ++ (t ∷ []))) = names_left L s.stands s.way ∙ ap length (sym (gather_last name_in [] b t)) in
    let q : length U.kinds ≡ length (kinds_in (b ++ (t ∷ []))) = kinds_left L s.stands s.way ∙ ap length (sym (gather_last kind_in [] b t)) in
    let m : L.nodes < length U.nodes = omega arith in
    let d : depth s.to ≤ 32 = nodes_depth s.stands s.state F.depth_fits (omega arith) in
    let o' : length U.names ≤ L.names = omega arith in
    let q' : length U.kinds ≤ L.kinds = omega arith in
    told_so _ x e (nodes_full L.nodes) s (by_nodes d c o' q' m) ∙ ap (λ u. refused (nodes_full u)) (sym y.made)

-- refusals 2 and 3
finish_fault : (to : Shape) (st : State to) (p c : ℕ) → finish to st (fault p c) ≡ refused (faulty p c)
finish_fault ready st p c = refl
finish_fault heading st p c = refl
finish_fault (inside bs) st p c = refl

run_all : {L : Limits} {ts : List Token} {to : Shape} {st : State to} → Way L ready no_tables ts to st → (e : Ending) → run L ready no_tables ts e ≡ finish to st e
run_all {L} {ts} w e = ap (λ us. run L ready no_tables us e) (sym (append-nil ts)) ∙ run_way w [] e

fault_back : (L : Limits) (ts : List SourceToken) (p c : ℕ) → FineSoFar L (map sort ts) → BeginsText ts → reading L ts (fault p c) ≡ refused (faulty p c)
fault_back L ts p c F b =
    let R : Reached L (map sort ts) = reached L ts b F in
    run_all R.way (fault p c) ∙ finish_fault R.to R.state p c

misplaced_back : (L : Limits) (ts : List SourceToken) (e : Ending) (p : ℕ) → MisplacedAt L ts p → reading L ts e ≡ refused (misplaced p)
misplaced_back L ts e p x =
    let R : Reached L (map sort x.before) = reached L x.before x.begun x.fine_before in
    let t = sort x.token in
    let b = map sort x.before in
    let a = map sort x.after in
    let q : map sort ts ≡ b ++ (t ∷ a) = ap (map sort) x.parted ∙ map-append sort x.before (x.token ∷ x.after) in
    let n : Stood R.to t → ⊥ = λ (to, v). x.not_with_it (begins_with L x.before x.token R.to to R.state R.way v) in
    ap (λ us. run L ready no_tables us e) q ∙ run_way R.way (t ∷ a) e
    ∙ stray_at L R.to t (stand? R.to t) R.state (λ to st'. run L to st' a e) n ∙ ap (λ y. refused (misplaced y)) (sort_place x.token ∙ sym x.placed)

-- where a rule may begin the tokens are a text, unless there is no name
early_ready : (L : Limits) (ts : List SourceToken) (T : Tables) (es : List Entry) (p : ℕ) → Way L ready no_tables (map sort ts) ready T → T.names ≡ es → (IsText ts → ⊥) → at_end T es p ≡ refused (misplaced p)
early_ready L ts T [] p w g n = refl
early_ready L ts T (e ∷ es) p w g n =
    let W : Whole ready no_tables (map sort ts) ready T [] = whole w [] in
    let h : numbering W.all ≡ T = W.numbered in
    absurd (n (W.all, record { some_rule = λ q. (let k : T.names ≡ [] = ap (λ X. X.names) (sym h ∙ ap numbering q) in let z : ◌≡◌ {A = ℕ} 0 1 = cc in omega arith); spelled = W.spelled ∙ append-nil (map sort ts) }))

early_finish : (L : Limits) (ts : List SourceToken) (to : Shape) (st : State to) (p : ℕ) → Way L ready no_tables (map sort ts) to st → (IsText ts → ⊥) → finish to st (end p) ≡ refused (misplaced p)
early_finish L ts ready T p w n = early_ready L ts T T.names p w refl n
early_finish L ts heading H p w n = refl
early_finish L ts (inside bs) W p w n = refl

early_back : (L : Limits) (ts : List SourceToken) (e : Ending) (p : ℕ) → EndsEarly L ts e p → reading L ts e ≡ refused (misplaced p)
early_back L ts e p x =
    let R : Reached L (map sort ts) = reached L ts x.begun x.fine_before in
    ap (λ f. reading L ts f) x.ended ∙ run_all R.way (end p) ∙ early_finish L ts R.to R.state p R.way x.no_text

-- refusal 9
known_short_at : (b : Bool) (s : Spot) (e : Entry) (es : List Entry) → (has_rule s.bytes es ≡ true → length (with_name s es) ≡ length es)
    → cond b (elim e.root [ none ↦ false | some r ↦ true ]) (has_rule s.bytes es) ≡ true → length (cond b (e ∷ es) (e ∷ with_name s es)) ≡ suc (length es)
known_short_at true s e es ih h = refl
known_short_at false s e es ih h = ap suc (ih h)

known_short : (s : Spot) (es : List Entry) → has_rule s.bytes es ≡ true → length (with_name s es) ≡ length es
known_short s [] h = let z : ◌≡◌ {A = ℕ} 0 1 = cc in absurd (omega arith)
known_short s (e ∷ es) h = known_short_at (bytes_eq e.first.bytes s.bytes) s e es (known_short s es) h

second_heads : (L : Limits) {t : Token} {to : Shape} (v : Stands ready t to) (T : Tables) (s : Spot) → Fits L ready T → t ≡ name s → has_rule s.bytes T.names ≡ true → Why L v T (second_rule (spot t).place)
second_heads L (heads {s = u}) T s F e h =
    let q : u ≡ s = cc in
    let h' : has_rule u.bytes T.names ≡ true = ap (λ y. has_rule y.bytes T.names) q ∙ h in
    let n = known_short u T.names h' in
    let f = F.names_fit in
    by_rule (omega arith) refl (omega arith) F.kinds_fit F.nodes_fit h'

second_first : (L : Limits) (rules : List Rule) {mid : Shape} {rest : Rest mid} (st : State mid) {t : Token} {to : Shape} (v : Stands mid t to) (s : Spot)
    → First mid rest → spell_rest mid rest ≡ [] → numbering rules ≡ number_rest mid st rest → Fits L mid st → t ≡ name s → Has s.bytes (heads_of rules) → Why L v st (second_rule (spot t).place)
second_first L rules T v s none_left g e F i h = second_heads L v T s F i (ap (λ X. has_rule s.bytes X.names) (sym e) ∙ ruled_complete s.bytes rules no_tables h)
second_first L rules {mid} st v s (one_left u a p) g e F i h =
    let q = sym (spell_build u a) ∙ ap (spell_rest mid) p ∙ g in
    let z : ◌≡◌ {A = ℕ} 0 1 = cc in absurd (omega arith)

second_back : (L : Limits) (ts : List SourceToken) (e : Ending) (p : ℕ) → SecondAt L ts p → reading L ts e ≡ refused (second_rule p)
second_back L ts e p x =
    let s = standing _ x in
    let (t, i, rules, j, h) = x.fact in
    let l : Left ready no_tables rules s.mid s.state [] = left s.way rules [] (j ∙ sym (append-nil (map sort x.before))) in
    let y = second_first L rules s.state s.stands t (first s.mid l.rest) l.spelled l.numbered (way_fits s.way (start_fits L)) i h in
    told_so _ x e (second_rule (spot (sort x.token)).place) s y ∙ ap (λ q. refused (second_rule q)) (here_is _ x)

-- refusal 10
first_one : (P : Spot → Type 0) (a : List Spot) (x : Spot) (b c : List Spot) (y : Spot) (d : List Spot) → a ++ (x ∷ b) ≡ c ++ (y ∷ d) → Each P a → (P x → ⊥) → Each P c → (P y → ⊥) → x ≡ y
first_one P [] x b [] y d e p n q m = cc
first_one P [] x b (z ∷ c) y d e p n q m = let g : z ≡ x = cc in absurd (n (subst P g q.0))
first_one P (z ∷ a) x b [] y d e p n q m = let g : z ≡ y = cc in absurd (m (subst P g p.0))
first_one P (z ∷ a) x b (z' ∷ c) y d e p n q m = first_one P a x b c y d (let g : a ++ (x ∷ b) ≡ c ++ (y ∷ d) = cc in g) p.1 n q.1 m

has_there : (a : List Spot) (s : Spot) (b : List Spot) → Has s.bytes (written (a ++ (s ∷ b)))
has_there [] s b = inl refl
has_there (x ∷ a) s b = inr (has_there a s b)

unruled_told : (L : Limits) (ts : List SourceToken) (q p : ℕ) → (x : Unruled L ts (end q) p) (r : ℕ) → reading L ts (end q) ≡ refused (no_rule r) → r ≡ p
unruled_told L ts q p x r h =
    let y : Unruled L ts (end q) r = unruled_right L ts (end q) r h in
    let e : y.rules ≡ x.rules = unique (map sort ts) ready y.rules x.rules y.text.spelled x.text.spelled in
    let i : y.unruled ≡ x.unruled =
    first_one (λ s. Has s.bytes (heads_of x.rules)) y.lower y.unruled y.higher x.lower x.unruled x.higher (sym y.named ∙ x.named)
    (subst (λ rs. Each (λ s. Has s.bytes (heads_of rs)) y.lower) e y.rules_below)
    (λ z. y.no_rule_for (subst (λ rs. Has y.unruled.bytes (heads_of rs)) (sym e) z))
    x.rules_below x.no_rule_for in
    y.placed ∙ ap (λ s. s.place) i ∙ sym x.placed

unruled_option : (L : Limits) (ts : List SourceToken) (q p : ℕ) (x : Unruled L ts (end q) p) (T : Tables) (es : List Entry) → T.names ≡ es → numbering x.rules ≡ T → firsts T.names ≡ names_in (map sort ts)
    → (o : Option ℕ) → ruleless es ≡ o → reading L ts (end q) ≡ at_end T es q → reading L ts (end q) ≡ refused (no_rule p)
unruled_option L ts q p x T [] g n f o r h =
    let k : Has x.unruled.bytes (written (firsts T.names)) = subst (λ l. Has x.unruled.bytes (written l)) (sym x.named ∙ sym f) (has_there x.lower x.unruled x.higher) in
    absurd (subst (λ l. Has x.unruled.bytes (written (firsts l))) g k)
unruled_option L ts q p x T (e ∷ es) g n f none r h =
    let k : Has x.unruled.bytes (written (firsts T.names)) = subst (λ l. Has x.unruled.bytes (written l)) (sym x.named ∙ sym f) (has_there x.lower x.unruled x.higher) in
    let a : has_rule x.unruled.bytes T.names ≡ true = has_all x.unruled.bytes T.names (ap ruleless g ∙ r) k in
    let b : has_rule x.unruled.bytes (numbering x.rules).names ≡ true = ap (λ X. has_rule x.unruled.bytes X.names) n ∙ a in
    absurd (x.no_rule_for (elim (ruled_sound x.unruled.bytes x.rules no_tables b) [ inl y ↦ y | inr y ↦ (let z : ◌≡◌ {A = ℕ} 0 1 = cc in absurd (omega arith)) ]))
unruled_option L ts q p x T (e ∷ es) g n f (some r) i h =
    let j : reading L ts (end q) ≡ refused (no_rule r) = h ∙ ap (λ (o : Option ℕ). elim o [ none ↦ read T | some q ↦ refused (no_rule q) ]) i in
    j ∙ ap (λ y. refused (no_rule y)) (unruled_told L ts q p x r j)

unruled_first : (L : Limits) (ts : List SourceToken) (q p : ℕ) (x : Unruled L ts (end q) p) {mid : Shape} {rest : Rest mid} (st : State mid)
    → First mid rest → spell_rest mid rest ≡ [] → numbering x.rules ≡ number_rest mid st rest → Way L ready no_tables (map sort ts) mid st → reading L ts (end q) ≡ refused (no_rule p)
unruled_first L ts q p x T none_left g e w = unruled_option L ts q p x T T.names refl e (way_names w) (ruleless T.names) refl (run_all w (end q))
unruled_first L ts q p x {mid} st (one_left u a i) g e w =
    let k = sym (spell_build u a) ∙ ap (spell_rest mid) i ∙ g in
    let z : ◌≡◌ {A = ℕ} 0 1 = cc in absurd (omega arith)

unruled_end : (L : Limits) (ts : List SourceToken) (q p : ℕ) → Unruled L ts (end q) p → reading L ts (end q) ≡ refused (no_rule p)
unruled_end L ts q p x =
    let b : BeginsText ts = ([], (x.rules, subst (λ us. TextOf us x.rules) (sym (append-nil ts)) x.text)) in
    let R : Reached L (map sort ts) = reached L ts b x.fine_before in
    let l : Left ready no_tables x.rules R.to R.state [] = left R.way x.rules [] (x.text.spelled ∙ sym (append-nil (map sort ts))) in
    unruled_first L ts q p x R.state (first R.to l.rest) l.spelled l.numbered R.way

unruled_back : (L : Limits) (ts : List SourceToken) (e : Ending) (p : ℕ) → Unruled L ts e p → reading L ts e ≡ refused (no_rule p)
unruled_back L ts e p x =
    let (q, i) = x.ended in
    subst (λ f. reading L ts f ≡ refused (no_rule p)) (sym i) (unruled_end L ts q p (subst (λ f. Unruled L ts f p) i x))

pub refusals_told : RefusalsTold
refusals_told =
    record {
      fault_told = fault_back;
      misplaced_told = misplaced_back;
      early_told = early_back;
      depth_told = depth_back;
      spelling_told = spelling_back;
      names_told = names_back;
      kinds_told = kinds_back;
      nodes_told = nodes_back;
      second_told = second_back;
      unruled_told = unruled_back;
    }
