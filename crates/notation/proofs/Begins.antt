-- Tokens on a way begin a text, and refusal 3 is told of the first that ends that.
use Rattle.std.proofs.Common.{◌≡◌, ℕ, ◌≤◌, Bool, true, false, cond, ◌≢◌, ◌⊎◌, List, [], ◌∷◌, ◌++◌, map, length, codes, sym, refl, ap, ◌∙◌, subst, inl, inr, append_assoc, append-nil, arith}
use mathlib.Core.List.{map-append}
use mathlib.Core.Option.{Option, none, some}
use Rattle.notation.proofs.Grows.{way_grows, length_name}
use Rattle.notation.proofs.Why.{why}
use Rattle.notation.proofs.FineWay.{fine_way}
use Rattle.notation.specs.Tokens.{is_class_word, terminal, class_word, name, Bracket, round, square, curly, Mark, word, string, arrow_mark, bar_mark, semi_mark, opening_mark, closing_mark, SourceToken, sort, Spot, Token, spot, Ending, end, fault}
use Rattle.notation.specs.Syntax.{Rule, last, nothing, spell}
use Rattle.notation.specs.Tables.{Tables, no_tables, Entry}
use Rattle.notation.specs.Standing.{Shape, ready, heading, inside, heads, Stood}
use Rattle.notation.specs.Reading.{State, tables_of, Limits, Refusal, misplaced, faulty, no_rule, ruleless, at_end, read, refused, finish, reading}
use Rattle.notation.specs.Statements.{FineSoFar, IsText, BeginsText, ReadingSound, MisplacedAt, EndsEarly, MisplacedRight, FaultRight}
use Rattle.notation.proofs.Rest.{Tail, Rest, spell_tail, spell_rest}
use Rattle.notation.proofs.Unique.{unique}
use Rattle.notation.proofs.Sound.{Came, came, read≢refused}
use Rattle.notation.proofs.Way.{Way, here, on, Stopped, strayed, hindered, ended, stopped, Left, left, Whole, whole, next_stands, none_left_ready}

-- A way to end a text from each shape.
abbrev pub mark : Mark → List ℕ → SourceToken
mark m b = record { mark = m; bytes = b; place = 0 }

abbrev pub closing_bytes : Bracket → List ℕ
closing_bytes round = codes ")"
closing_bytes square = codes "]"
closing_bytes curly = codes "}"

abbrev pub at : List ℕ → Spot
at b = record { bytes = b; place = 0 }

abbrev pub ending_tail : (bs : List Bracket) → Tail bs
ending_tail [] = (at (codes ";"), [])
ending_tail (b ∷ bs) = (at (closing_bytes b), last nothing, ending_tail bs)

abbrev pub a_rule : Rule
a_rule = record { head = at (codes "s"); becomes = at (codes "->"); body = last nothing; stop = at (codes ";") }

abbrev pub some_rest : (sh : Shape) → Rest sh
some_rest ready = a_rule ∷ []
some_rest heading = (at (codes "->"), last nothing, at (codes ";"), [])
some_rest (inside bs) = (last nothing, ending_tail bs)

abbrev pub closers : List Bracket → List SourceToken
closers [] = mark semi_mark (codes ";") ∷ []
closers (b ∷ bs) = mark (closing_mark b) (closing_bytes b) ∷ closers bs

abbrev pub some_tokens : Shape → List SourceToken
some_tokens ready = mark word (codes "s") ∷ mark arrow_mark (codes "->") ∷ mark semi_mark (codes ";") ∷ []
some_tokens heading = mark arrow_mark (codes "->") ∷ mark semi_mark (codes ";") ∷ []
some_tokens (inside bs) = closers bs

spelled_tail : (bs : List Bracket) → spell_tail bs (ending_tail bs) ≡ map sort (closers bs)
spelled_tail [] = refl
spelled_tail (b ∷ bs) = ap (λ xs. sort (mark (closing_mark b) (closing_bytes b)) ∷ xs) (spelled_tail bs)

pub spelled_rest : (sh : Shape) → spell_rest sh (some_rest sh) ≡ map sort (some_tokens sh)
spelled_rest ready = refl
spelled_rest heading = refl
spelled_rest (inside bs) = spelled_tail bs

not_empty_tail : (bs : List Bracket) (xs : List Token) → xs ++ map sort (closers bs) ≡ [] → ⊥
not_empty_tail [] [] h = let z : ◌≡◌ {A = ℕ} 0 1 = cc in omega arith
not_empty_tail (b ∷ bs) [] h = let z : ◌≡◌ {A = ℕ} 0 1 = cc in omega arith
not_empty_tail bs (x ∷ xs) h = let z : ◌≡◌ {A = ℕ} 0 1 = cc in omega arith

pub not_empty : (sh : Shape) (xs : List Token) → xs ++ map sort (some_tokens sh) ≡ [] → ⊥
not_empty ready [] h = let z : ◌≡◌ {A = ℕ} 0 1 = cc in omega arith
not_empty ready (x ∷ xs) h = let z : ◌≡◌ {A = ℕ} 0 1 = cc in omega arith
not_empty heading [] h = let z : ◌≡◌ {A = ℕ} 0 1 = cc in omega arith
not_empty heading (x ∷ xs) h = let z : ◌≡◌ {A = ℕ} 0 1 = cc in omega arith
not_empty (inside bs) xs h = not_empty_tail bs xs h

pub begins : (L : Limits) (ts : List SourceToken) (to : Shape) (st : State to) → Way L ready no_tables (map sort ts) to st → BeginsText ts
begins L ts to st w =
    let r : Whole ready no_tables (map sort ts) to st (some_rest to) = whole w (some_rest to) in
    let e : spell r.all ≡ map sort ts ++ map sort (some_tokens to) = r.spelled ∙ ap (λ xs. map sort ts ++ xs) (spelled_rest to) in
    (some_tokens to, (r.all, record { some_rule = λ p. not_empty to (map sort ts) (sym e ∙ ap spell p); spelled = e ∙ sym (map-append sort ts (some_tokens to)) }))

-- a place among sorted tokens is one among the tokens
pub record Parted (ts : List SourceToken) (before : List Token) (t : Token) (after : List Token) : Type 0 where
  pub front : List SourceToken
  pub token : SourceToken
  pub back : List SourceToken
  pub whole_is : ts ≡ front ++ (token ∷ back)
  pub front_is : map sort front ≡ before
  pub token_is : sort token ≡ t
  pub back_is : map sort back ≡ after

pub parted : (ts : List SourceToken) (before : List Token) (t : Token) (after : List Token) → map sort ts ≡ before ++ (t ∷ after) → Parted ts before t after
parted [] [] t after h = let z : ◌≡◌ {A = ℕ} 0 1 = cc in absurd (omega arith)
parted [] (x ∷ before) t after h = let z : ◌≡◌ {A = ℕ} 0 1 = cc in absurd (omega arith)
parted (u ∷ us) [] t after h = record { front = []; token = u; back = us; whole_is = refl; front_is = refl; token_is = cc; back_is = cc }
parted (u ∷ us) (x ∷ before) t after h =
    let e : map sort us ≡ before ++ (t ∷ after) = cc in
    let g : sort u ≡ x = cc in
    let r = parted us before t after e in
    let f = r.front_is in
    record { front = u ∷ r.front; token = r.token; back = r.back; whole_is = ap (λ xs. u ∷ xs) r.whole_is; front_is = cc; token_is = r.token_is; back_is = r.back_is }

place_word : (b : Bool) (x y : Token) (p : ℕ) → (spot x).place ≡ p → (spot y).place ≡ p → (spot (cond b x y)).place ≡ p
place_word true x y p g h = g
place_word false x y p g h = h

place_mark : (m : Mark) (b : List ℕ) (p : ℕ) → (spot (sort (record { mark = m; bytes = b; place = p }))).place ≡ p
place_mark word b p = place_word (is_class_word b) (terminal class_word (record { bytes = b; place = p })) (name (record { bytes = b; place = p })) p refl refl
place_mark string b p = refl
place_mark arrow_mark b p = refl
place_mark bar_mark b p = refl
place_mark semi_mark b p = refl
place_mark (opening_mark c) b p = refl
place_mark (closing_mark c) b p = refl

pub sort_place : (t : SourceToken) → (spot (sort t)).place ≡ t.place
sort_place t = place_mark t.mark t.bytes t.place

-- what is read is the one text that the tokens are
no_rules_read : (L : Limits) (ts : List SourceToken) (e : Ending) (T : Tables) → reading L ts e ≡ read T → map sort ts ≡ [] → ⊥
no_rules_read L [] (end p) T h g = read≢refused h
no_rules_read L [] (fault p c) T h g = read≢refused h
no_rules_read L (t ∷ ts) e T h g = let z : ◌≡◌ {A = ℕ} 0 1 = cc in omega arith

pub reading_sound : ReadingSound
reading_sound L ts e T h =
    let c : Came ready no_tables (map sort ts) e T = came L ready no_tables (map sort ts) e T h in
    record {
      rules = c.rest;
      text = record { some_rule = λ p. no_rules_read L ts e T h (sym c.spelled ∙ ap spell p); spelled = c.spelled };
      tables = c.numbered;
      only = λ others x. unique (map sort ts) ready others c.rest x.spelled c.spelled;
      ended = c.ended;
    }

-- tokens that lead to where the next cannot stand do not begin a text with it
pub cannot_begin : (L : Limits) (before : List SourceToken) (t : SourceToken) (to : Shape) (st : State to) → Way L ready no_tables (map sort before) to st → (Stood to (sort t) → ⊥)
    → BeginsText (before ++ (t ∷ [])) → ⊥
cannot_begin L before t to st w x (more, (rules, text)) =
    let e : spell rules ≡ map sort before ++ (sort t ∷ map sort more) =
    text.spelled ∙ ap (map sort) (append_assoc before (t ∷ []) more) ∙ map-append sort before (t ∷ more) in
    let l : Left ready no_tables rules to st (sort t ∷ map sort more) = left w rules (sort t ∷ map sort more) e in
    x (next_stands to l.rest (sort t) (map sort more) l.spelled)

-- a way over some token leaves a name
pub some_name : {L : Limits} {ts : List Token} {to : Shape} {st : State to} → Way L ready no_tables ts to st → ts ≢ [] → 1 ≤ length (tables_of to st).names
some_name here n = absurd (n refl)
some_name (on (heads {s}) r w) n = let g = way_grows w in let h = length_name s [] in omega arith

pub text_not_empty : (rules : List Rule) → rules ≢ [] → spell rules ≡ [] → ⊥
text_not_empty [] n h = n refl
text_not_empty (r ∷ rs) n h = let z : ◌≡◌ {A = ℕ} 0 1 = cc in omega arith

-- a text leaves off where a rule may begin
pub text_ready : (L : Limits) (ts : List SourceToken) (to : Shape) (st : State to) → Way L ready no_tables (map sort ts) to st → IsText ts → to ≡ ready
text_ready L ts to st w (rules, text) =
    let l : Left ready no_tables rules to st [] = left w rules [] (text.spelled ∙ sym (append-nil (map sort ts))) in
    none_left_ready to l.rest l.spelled

nameless : (L : Limits) (ts : List SourceToken) (T : Tables) → Way L ready no_tables (map sort ts) ready T → T.names ≡ [] → IsText ts → ⊥
nameless L ts T w h (rules, text) =
    let g : 1 ≤ length T.names = some_name w (λ e. text_not_empty rules text.some_rule (text.spelled ∙ e)) in
    let k : length T.names ≡ 0 = ap length h in
    omega arith

-- what is refused at the end of a text
pub data AtEnd (es : List Entry) (q : ℕ) : Refusal → Type 0 where
  no_names : es ≡ [] → AtEnd es q (misplaced q)
  unruled : (x : ℕ) → ruleless es ≡ some x → AtEnd es q (no_rule x)

ruleless_view : (T : Tables) (es : List Entry) (q : ℕ) (r : Refusal) (o : Option ℕ) → ruleless es ≡ o → elim o [ none ↦ read T | some x ↦ refused (no_rule x) ] ≡ refused r → AtEnd es q r
ruleless_view T es q r none g h = let z : ◌≡◌ {A = ℕ} 0 1 = cc in absurd (omega arith)
ruleless_view T es q r (some x) g h = let e : no_rule x ≡ r = cc in subst (AtEnd es q) e (unruled x g)

pub at_end_view : (T : Tables) (es : List Entry) (q : ℕ) (r : Refusal) → at_end T es q ≡ refused r → AtEnd es q r
at_end_view T [] q r h = let e : misplaced q ≡ r = cc in subst (AtEnd [] q) e (no_names refl)
at_end_view T (e ∷ es) q r h = ruleless_view T (e ∷ es) q r (ruleless (e ∷ es)) refl h

at_end_place : {es : List Entry} {q p : ℕ} → AtEnd es q (misplaced p) → (es ≡ []) × (q ≡ p)
at_end_place (no_names h) = (h, refl)

not_ready : Shape → Type 0
not_ready ready = ⊥
not_ready heading = Unit {0}
not_ready (inside bs) = Unit {0}

heading≢ready : heading ≡ ready → ⊥
unfolding not_ready
heading≢ready e = subst not_ready e tt

inside≢ready : (bs : List Bracket) → inside bs ≡ ready → ⊥
unfolding not_ready
inside≢ready bs e = subst not_ready e tt

finish_misplaced : (L : Limits) (ts : List SourceToken) (to : Shape) (st : State to) (e : Ending) (p : ℕ) → Way L ready no_tables (map sort ts) to st → finish to st e ≡ refused (misplaced p) → EndsEarly L ts e p
finish_misplaced L ts ready st (end q) p w h =
    let g = at_end_place (at_end_view st st.names q (misplaced p) h) in
    record { ended = ap end g.1; fine_before = fine_way L (map sort ts) ready st w; begun = begins L ts ready st w; no_text = nameless L ts st w g.0 }
finish_misplaced L ts heading st (end q) p w h =
    record { ended = cc; fine_before = fine_way L (map sort ts) heading st w; begun = begins L ts heading st w; no_text = λ x. heading≢ready (text_ready L ts heading st w x) }
finish_misplaced L ts (inside bs) st (end q) p w h =
    record { ended = cc; fine_before = fine_way L (map sort ts) (inside bs) st w; begun = begins L ts (inside bs) st w; no_text = λ x. inside≢ready bs (text_ready L ts (inside bs) st w x) }
finish_misplaced L ts ready st (fault q c) p w h = let z : ◌≡◌ {A = ℕ} 0 1 = cc in absurd (omega arith)
finish_misplaced L ts heading st (fault q c) p w h = let z : ◌≡◌ {A = ℕ} 0 1 = cc in absurd (omega arith)
finish_misplaced L ts (inside bs) st (fault q c) p w h = let z : ◌≡◌ {A = ℕ} 0 1 = cc in absurd (omega arith)

misplaced_stopped : (L : Limits) (ts : List SourceToken) (e : Ending) (p : ℕ) → Stopped L ready no_tables (map sort ts) e (misplaced p) → MisplacedAt L ts p ⊎ EndsEarly L ts e p
misplaced_stopped L ts e p (strayed before t after to st h w x q) =
    let r : Parted ts before t after = parted ts before t after h in
    let w' : Way L ready no_tables (map sort r.front) to st = subst (λ xs. Way L ready no_tables xs to st) (sym r.front_is) w in
    let x' : Stood to (sort r.token) → ⊥ = subst (λ u. Stood to u → ⊥) (sym r.token_is) x in
    let q' : p ≡ r.token.place = (let g : p ≡ (spot t).place = cc in g ∙ ap (λ u. (spot u).place) (sym r.token_is) ∙ sort_place r.token) in
    inl (record {
      before = r.front;
      token = r.token;
      after = r.back;
      parted = r.whole_is;
      placed = q';
      fine_before = fine_way L (map sort r.front) to st w';
      begun = begins L r.front to st w';
      not_with_it = cannot_begin L r.front r.token to st w' x';
    })
misplaced_stopped L ts e p (hindered before t after mid st to v h w q) = elim (why L v st (misplaced p) q) [ ]
misplaced_stopped L ts e p (ended to st w q) = inr (finish_misplaced L ts to st e p w q)

pub misplaced_right : MisplacedRight
misplaced_right L ts e p h = misplaced_stopped L ts e p (stopped L ready no_tables (map sort ts) e (misplaced p) h)

pub fault_finish : (to : Shape) (st : State to) (e : Ending) (p c : ℕ) → finish to st e ≡ refused (faulty p c) → e ≡ fault p c
fault_finish ready st (end q) p c h = elim (at_end_view st st.names q (faulty p c) h) [ ]
fault_finish heading st (end q) p c h = let z : ◌≡◌ {A = ℕ} 0 1 = cc in absurd (omega arith)
fault_finish (inside bs) st (end q) p c h = let z : ◌≡◌ {A = ℕ} 0 1 = cc in absurd (omega arith)
fault_finish ready st (fault q d) p c h = cc
fault_finish heading st (fault q d) p c h = cc
fault_finish (inside bs) st (fault q d) p c h = cc

fault_stopped : (L : Limits) (ts : List SourceToken) (e : Ending) (p c : ℕ) → Stopped L ready no_tables (map sort ts) e (faulty p c) → (e ≡ fault p c) × FineSoFar L (map sort ts) × BeginsText ts
fault_stopped L ts e p c (strayed before t after to st h w x q) = let z : ◌≡◌ {A = ℕ} 0 1 = cc in absurd (omega arith)
fault_stopped L ts e p c (hindered before t after mid st to v h w q) = elim (why L v st (faulty p c) q) [ ]
fault_stopped L ts e p c (ended to st w q) = (fault_finish to st e p c q, fine_way L (map sort ts) to st w, begins L ts to st w)

pub fault_right : FaultRight
fault_right L ts e p c h = fault_stopped L ts e p c (stopped L ready no_tables (map sort ts) e (faulty p c) h)
