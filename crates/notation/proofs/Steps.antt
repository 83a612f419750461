-- What one token does to a reading.
use Rattle.std.proofs.Common.{◌≡◌, ℕ, ◌<◌, ◌≤◌, Bool, true, false, ◌≢◌, List, [], ◌∷◌, ◌++◌, length, refl, ap, ◌∙◌, arith, le-ltb}
use mathlib.Core.Option.{none, some}
use Rattle.notation.specs.Tokens.{Bracket, round, square, curly, Spot, Terminal, Token, name, terminal, arrow, bar, semi, opening, closing, spot, Ending, end, fault}
use Rattle.notation.specs.Tables.{Entry, Tables, no_tables, with_name, with_kind}
use Rattle.notation.specs.Numbering.{Made, end_sequence, end_branches, end_level, end_group, Level}
use Rattle.notation.specs.Standing.{Shape, ready, heading, inside, Stands, heads, becomes, names, spells, parts, opens, closes, stops, Stood, stand?, depth}
use Rattle.notation.specs.Reading.{Headed, Within, State, tables_of, go, Limits, Refusal, misplaced, faulty, too_deep, misspelt, names_full, kinds_full, nodes_full, second_rule, no_rule, bad_spelling, has_rule, ruleless, again, refuse, read, refused, at_end, finish, or_on, step, run}
use Rattle.notation.proofs.Grows.{length_root, length_add}
use Rattle.notation.proofs.Why.{by_depth, by_spelling, by_names, by_kinds, by_nodes, by_rule, Why}
use Rattle.notation.proofs.Exact.{run_on, because_so}

-- what holds between two tokens: the tables are within the limits
pub record Fits (L : Limits) (T : Tables) : Type 0 where
  pub names : length T.names ≤ L.names
  pub kinds : length T.kinds ≤ L.kinds
  pub nodes : length T.nodes ≤ L.nodes

pub nothing_fits : (L : Limits) → Fits L no_tables
nothing_fits L = record { names = omega arith; kinds = omega arith; nodes = omega arith }

-- what ends a sequence, branches or a group makes nodes, and leaves the names and the kinds
pub record SameWords (T U : Tables) : Type 0 where
  pub names : U.names ≡ T.names
  pub kinds : U.kinds ≡ T.kinds

same_words_trans : {T U V : Tables} → SameWords T U → SameWords U V → SameWords T V
same_words_trans a b = record { names = b.names ∙ a.names; kinds = b.kinds ∙ a.kinds }

pub words_sequence : (ns : List ℕ) (T : Tables) → SameWords T (end_sequence ns T).tables
words_sequence [] T = record { names = refl; kinds = refl }
words_sequence (n ∷ []) T = record { names = refl; kinds = refl }
words_sequence (n ∷ m ∷ rest) T = record { names = refl; kinds = refl }

pub words_branches : (ns : List ℕ) (T : Tables) → SameWords T (end_branches ns T).tables
words_branches [] T = record { names = refl; kinds = refl }
words_branches (n ∷ []) T = record { names = refl; kinds = refl }
words_branches (n ∷ m ∷ rest) T = record { names = refl; kinds = refl }

pub words_level : (l : Level) (T : Tables) → SameWords T (end_level l T).tables
words_level l T =
    let M : Made = end_sequence l.items T in
    same_words_trans (words_sequence l.items T) (words_branches (l.ended ++ (M.at ∷ [])) M.tables)

pub words_group : (b : Bracket) (M : Made) → SameWords M.tables (end_group b M).tables
words_group round M = record { names = refl; kinds = refl }
words_group square M = record { names = refl; kinds = refl }
words_group curly M = record { names = refl; kinds = refl }

pub words_closed : (b : Bracket) (l : Level) (T : Tables) → SameWords T (end_group b (end_level l T)).tables
words_closed b l T = same_words_trans (words_level l T) (words_group b (end_level l T))

-- tables of as many names and kinds
record AsMany (T U : Tables) : Type 0 where
  names : length U.names ≡ length T.names
  kinds : length U.kinds ≡ length T.kinds

as_many : {T U : Tables} → SameWords T U → AsMany T U
as_many w = record { names = ap length w.names; kinds = ap length w.kinds }

fits_more : {L : Limits} {T U : Tables} → AsMany T U → Fits L T → length U.nodes ≤ L.nodes → Fits L U
fits_more w f h = record { names = omega arith; kinds = omega arith; nodes = h }

-- a rule that is ended gives its name a root
many_stops : (W : Within []) (s : Spot) → AsMany W.tables (go (stops {s = s}) W)
many_stops W s =
    let M : Made = end_level W.level W.tables in
    let w = as_many (words_level W.level W.tables) in
    record { names = length_root W.rule M.at M.tables.names ∙ w.names; kinds = w.kinds }

-- nothing speaks against a token
pub stays : (L : Limits) (p deep : ℕ) (bad : Bool) (T : Tables) (twice : Bool) → deep ≤ 32 → bad ≡ false → Fits L T → twice ≡ false → refuse L p deep bad T twice ≡ none
stays L p deep bad T twice d b f t =
    rw (le-ltb 32 deep d, b, le-ltb L.names (length T.names) f.names, le-ltb L.kinds (length T.kinds) f.kinds, le-ltb L.nodes (length T.nodes) f.nodes, t)

-- the tables that a token leaves, where they fit
module _ (L : Limits) where
  pub head_fits : (T : Tables) (s : Spot) → Fits L T → length (with_name s T.names) ≤ L.names → Fits L (go (heads {s = s}) T).tables
  head_fits T s f h = record { names = h; kinds = f.kinds; nodes = f.nodes }

  pub arrow_fits : (H : Headed) (s : Spot) → Fits L H.tables → Fits L (go (becomes {s = s}) H).tables
  arrow_fits H s f = f

  pub name_fits : (bs : List Bracket) (W : Within bs) (s : Spot) → Fits L W.tables → length (with_name s W.tables.names) ≤ L.names → length W.tables.nodes < L.nodes
      → Fits L (go (names {s = s} {bs = bs}) W).tables
  name_fits bs W s f h n = record { names = h; kinds = f.kinds; nodes = rw length_add n }

  pub terminal_fits : (bs : List Bracket) (W : Within bs) (k : Terminal) (s : Spot) → Fits L W.tables → length (with_kind s W.tables.kinds) ≤ L.kinds → length W.tables.nodes < L.nodes
      → Fits L (go (spells {k = k} {s = s} {bs = bs}) W).tables
  terminal_fits bs W k s f h n = record { names = f.names; kinds = h; nodes = rw length_add n }

  pub bar_fits : (bs : List Bracket) (W : Within bs) (s : Spot) → Fits L W.tables → length (end_sequence W.level.items W.tables).tables.nodes ≤ L.nodes
      → Fits L (go (parts {s = s} {bs = bs}) W).tables
  bar_fits bs W s f n = fits_more (as_many (words_sequence W.level.items W.tables)) f n

  pub opening_fits : (bs : List Bracket) (W : Within bs) (b : Bracket) (s : Spot) → Fits L W.tables → Fits L (go (opens {b = b} {s = s} {bs = bs}) W).tables
  opening_fits bs W b s f = f

  pub closing_fits : (b : Bracket) (bs : List Bracket) (W : Within (b ∷ bs)) (s : Spot) → Fits L W.tables → length (end_group b (end_level W.level W.tables)).tables.nodes ≤ L.nodes
      → Fits L (go (closes {b = b} {s = s} {bs = bs}) W).tables
  closing_fits b bs W s f n = fits_more (as_many (words_closed b W.level W.tables)) f n

  pub semi_fits : (W : Within []) (s : Spot) → Fits L W.tables → length (end_level W.level W.tables).tables.nodes ≤ L.nodes → Fits L (go (stops {s = s}) W)
  semi_fits W s f n = fits_more (many_stops W s) f n

-- what comes after the last token
module _ (L : Limits) where
  pub end_all : (sh : Shape) (st : State sh) (e : Ending) → run L sh st [] e ≡ finish sh st e
  end_all sh st e = refl

  pub end_fault : (sh : Shape) (st : State sh) (p c : ℕ) → run L sh st [] (fault p c) ≡ refused (faulty p c)
  end_fault ready st p c = refl
  end_fault heading st p c = refl
  end_fault (inside bs) st p c = refl

  pub end_heading : (H : Headed) (p : ℕ) → run L heading H [] (end p) ≡ refused (misplaced p)
  end_heading H p = refl

  pub end_inside : (bs : List Bracket) (W : Within bs) (p : ℕ) → run L (inside bs) W [] (end p) ≡ refused (misplaced p)
  end_inside bs W p = refl

  -- at the end of a text there has to be a name
  pub end_empty : (T : Tables) (p : ℕ) → T.names ≡ [] → run L ready T [] (end p) ≡ refused (misplaced p)
  end_empty T p h = ap (λ es. at_end T es p) h

  -- and no name without a rule
  pub end_no_rule : (T : Tables) (p q : ℕ) → ruleless T.names ≡ some q → run L ready T [] (end p) ≡ refused (no_rule q)
  end_no_rule T p q h = at T.names h
    where
      at : (es : List Entry) → ruleless es ≡ some q → at_end T es p ≡ refused (no_rule q)
      at [] g = let z : ◌≡◌ {A = ℕ} 0 1 = cc in absurd (omega arith)
      at (x ∷ es) g = rw (g, at_end)

  pub end_read : (T : Tables) (p : ℕ) → 0 < length T.names → ruleless T.names ≡ none → run L ready T [] (end p) ≡ read T
  end_read T p n h = at T.names n h
    where
      at : (es : List Entry) → 0 < length es → ruleless es ≡ none → at_end T es p ≡ read T
      at [] m g = absurd (omega arith)
      at (x ∷ es) m g = rw (g, at_end)

-- a token before the tokens ts
module _ (L : Limits) (ts : List Token) (e : Ending) where
  -- that can stand, and is not refused
  pub token_on : {sh : Shape} {t : Token} {to : Shape} (v : Stands sh t to) (st : State sh) → depth to ≤ 32 → bad_spelling t ≡ false → Fits L (tables_of to (go v st)) → again v st ≡ false
      → run L sh st (t ∷ ts) e ≡ run L to (go v st) ts e
  token_on {sh} {t} {to} v st d b f a =
      run_on L v st ts e ∙ ap (λ o. or_on o (run L to (go v st) ts e)) (stays L (spot t).place (depth to) (bad_spelling t) (tables_of to (go v st)) (again v st) d b f a)

  -- that can stand, and is refused for the lowest number that holds
  pub token_refused : {sh : Shape} {t : Token} {to : Shape} (v : Stands sh t to) (st : State sh) (r : Refusal) → Why L v st r → run L sh st (t ∷ ts) e ≡ refused r
  token_refused {sh} {t} {to} v st r w =
      run_on L v st ts e ∙ ap (λ o. or_on o (run L to (go v st) ts e)) (because_so L (spot t).place (depth to) (bad_spelling t) (tables_of to (go v st)) (again v st) r w)

  -- that makes nodes only, and too many
  token_nodes_full : {sh : Shape} {t : Token} {to : Shape} (v : Stands sh t to) (st : State sh) → depth to ≤ 32 → bad_spelling t ≡ false → AsMany (tables_of sh st) (tables_of to (go v st))
      → Fits L (tables_of sh st) → L.nodes < length (tables_of to (go v st)).nodes → run L sh st (t ∷ ts) e ≡ refused (nodes_full L.nodes)
  token_nodes_full {sh} {t} {to} v st d b w f n =
      let i : length (tables_of to (go v st)).names ≤ L.names = rw w.names f.names in
      let j : length (tables_of to (go v st)).kinds ≤ L.kinds = rw w.kinds f.kinds in
      token_refused v st (nodes_full L.nodes) (by_nodes d b i j n)

  -- that cannot stand
  pub token_misplaced : (sh : Shape) (st : State sh) (t : Token) → (Stood sh t → ⊥) → run L sh st (t ∷ ts) e ≡ refused (misplaced (spot t).place)
  token_misplaced sh st t n = at (stand? sh t)
    where
      at : (d : Dec (Stood sh t)) → step L d st (λ to st'. run L to st' ts e) ≡ refused (misplaced (spot t).place)
      at (no x) = refl
      at (yes p) = absurd (n p)

  -- where a rule may begin
  pub head_on : (T : Tables) (s : Spot) → Fits L T → length (with_name s T.names) ≤ L.names → has_rule s.bytes T.names ≡ false
      → run L ready T (name s ∷ ts) e ≡ run L heading (go (heads {s = s}) T) ts e
  head_on T s f h a = token_on (heads {s = s}) T (omega arith) refl (head_fits L T s f h) a

  pub head_names_full : (T : Tables) (s : Spot) → L.names < length (with_name s T.names) → run L ready T (name s ∷ ts) e ≡ refused (names_full s.place)
  head_names_full T s h = token_refused (heads {s = s}) T (names_full s.place) (by_names (omega arith) refl h)

  pub head_second_rule : (T : Tables) (s : Spot) → Fits L T → length (with_name s T.names) ≤ L.names → has_rule s.bytes T.names ≡ true
      → run L ready T (name s ∷ ts) e ≡ refused (second_rule s.place)
  head_second_rule T s f h a = token_refused (heads {s = s}) T (second_rule s.place) (by_rule (omega arith) refl h f.kinds f.nodes a)

  -- and anything but a name is misplaced
  pub ready_misplaced : (T : Tables) (t : Token) → ((s : Spot) → t ≢ name s) → run L ready T (t ∷ ts) e ≡ refused (misplaced (spot t).place)
  ready_misplaced T (name s) n = absurd (n s refl)
  ready_misplaced T (terminal k s) n = refl
  ready_misplaced T (arrow s) n = refl
  ready_misplaced T (bar s) n = refl
  ready_misplaced T (semi s) n = refl
  ready_misplaced T (opening b s) n = refl
  ready_misplaced T (closing b s) n = refl

  pub ready_terminal_misplaced : (T : Tables) (k : Terminal) (s : Spot) → run L ready T (terminal k s ∷ ts) e ≡ refused (misplaced s.place)
  ready_terminal_misplaced T k s = refl

  pub ready_arrow_misplaced : (T : Tables) (s : Spot) → run L ready T (arrow s ∷ ts) e ≡ refused (misplaced s.place)
  ready_arrow_misplaced T s = refl

  pub ready_bar_misplaced : (T : Tables) (s : Spot) → run L ready T (bar s ∷ ts) e ≡ refused (misplaced s.place)
  ready_bar_misplaced T s = refl

  pub ready_semi_misplaced : (T : Tables) (s : Spot) → run L ready T (semi s ∷ ts) e ≡ refused (misplaced s.place)
  ready_semi_misplaced T s = refl

  pub ready_opening_misplaced : (T : Tables) (b : Bracket) (s : Spot) → run L ready T (opening b s ∷ ts) e ≡ refused (misplaced s.place)
  ready_opening_misplaced T b s = refl

  pub ready_closing_misplaced : (T : Tables) (b : Bracket) (s : Spot) → run L ready T (closing b s ∷ ts) e ≡ refused (misplaced s.place)
  ready_closing_misplaced T b s = refl

  -- after a rule's name
  pub arrow_on : (H : Headed) (s : Spot) → Fits L H.tables → run L heading H (arrow s ∷ ts) e ≡ run L (inside []) (go (becomes {s = s}) H) ts e
  arrow_on H s f = token_on (becomes {s = s}) H (omega arith) refl f refl

  -- anything but an arrow is misplaced
  pub heading_misplaced : (H : Headed) (t : Token) → ((s : Spot) → t ≢ arrow s) → run L heading H (t ∷ ts) e ≡ refused (misplaced (spot t).place)
  heading_misplaced H (name s) n = refl
  heading_misplaced H (terminal k s) n = refl
  heading_misplaced H (arrow s) n = absurd (n s refl)
  heading_misplaced H (bar s) n = refl
  heading_misplaced H (semi s) n = refl
  heading_misplaced H (opening b s) n = refl
  heading_misplaced H (closing b s) n = refl

  pub heading_name_misplaced : (H : Headed) (s : Spot) → run L heading H (name s ∷ ts) e ≡ refused (misplaced s.place)
  heading_name_misplaced H s = refl

  pub heading_terminal_misplaced : (H : Headed) (k : Terminal) (s : Spot) → run L heading H (terminal k s ∷ ts) e ≡ refused (misplaced s.place)
  heading_terminal_misplaced H k s = refl

  pub heading_bar_misplaced : (H : Headed) (s : Spot) → run L heading H (bar s ∷ ts) e ≡ refused (misplaced s.place)
  heading_bar_misplaced H s = refl

  pub heading_semi_misplaced : (H : Headed) (s : Spot) → run L heading H (semi s ∷ ts) e ≡ refused (misplaced s.place)
  heading_semi_misplaced H s = refl

  pub heading_opening_misplaced : (H : Headed) (b : Bracket) (s : Spot) → run L heading H (opening b s ∷ ts) e ≡ refused (misplaced s.place)
  heading_opening_misplaced H b s = refl

  pub heading_closing_misplaced : (H : Headed) (b : Bracket) (s : Spot) → run L heading H (closing b s ∷ ts) e ≡ refused (misplaced s.place)
  heading_closing_misplaced H b s = refl

  -- a name in a body
  pub name_on : (bs : List Bracket) (W : Within bs) (s : Spot) → length bs ≤ 32 → Fits L W.tables → length (with_name s W.tables.names) ≤ L.names → length W.tables.nodes < L.nodes
      → run L (inside bs) W (name s ∷ ts) e ≡ run L (inside bs) (go (names {s = s} {bs = bs}) W) ts e
  name_on bs W s d f h n = token_on (names {s = s} {bs = bs}) W d refl (name_fits L bs W s f h n) refl

  pub name_names_full : (bs : List Bracket) (W : Within bs) (s : Spot) → length bs ≤ 32 → L.names < length (with_name s W.tables.names)
      → run L (inside bs) W (name s ∷ ts) e ≡ refused (names_full s.place)
  name_names_full bs W s d h = token_refused (names {s = s} {bs = bs}) W (names_full s.place) (by_names d refl h)

  pub name_nodes_full : (bs : List Bracket) (W : Within bs) (s : Spot) → length bs ≤ 32 → Fits L W.tables → length (with_name s W.tables.names) ≤ L.names → L.nodes ≤ length W.tables.nodes
      → run L (inside bs) W (name s ∷ ts) e ≡ refused (nodes_full L.nodes)
  name_nodes_full bs W s d f h n = token_refused (names {s = s} {bs = bs}) W (nodes_full L.nodes) (by_nodes d refl h f.kinds (rw length_add (omega arith)))

  -- a class word or a quoted spelling; of a class word bad-spelling is false by refl
  pub terminal_on : (bs : List Bracket) (W : Within bs) (k : Terminal) (s : Spot) → length bs ≤ 32 → Fits L W.tables → bad_spelling (terminal k s) ≡ false
      → length (with_kind s W.tables.kinds) ≤ L.kinds → length W.tables.nodes < L.nodes
      → run L (inside bs) W (terminal k s ∷ ts) e ≡ run L (inside bs) (go (spells {k = k} {s = s} {bs = bs}) W) ts e
  terminal_on bs W k s d f b h n = token_on (spells {k = k} {s = s} {bs = bs}) W d b (terminal_fits L bs W k s f h n) refl

  pub terminal_misspelt : (bs : List Bracket) (W : Within bs) (k : Terminal) (s : Spot) → length bs ≤ 32 → bad_spelling (terminal k s) ≡ true
      → run L (inside bs) W (terminal k s ∷ ts) e ≡ refused (misspelt s.place)
  terminal_misspelt bs W k s d b = token_refused (spells {k = k} {s = s} {bs = bs}) W (misspelt s.place) (by_spelling d b)

  pub terminal_kinds_full : (bs : List Bracket) (W : Within bs) (k : Terminal) (s : Spot) → length bs ≤ 32 → Fits L W.tables → bad_spelling (terminal k s) ≡ false
      → L.kinds < length (with_kind s W.tables.kinds) → run L (inside bs) W (terminal k s ∷ ts) e ≡ refused (kinds_full s.place)
  terminal_kinds_full bs W k s d f b h = token_refused (spells {k = k} {s = s} {bs = bs}) W (kinds_full s.place) (by_kinds d b f.names h)

  pub terminal_nodes_full : (bs : List Bracket) (W : Within bs) (k : Terminal) (s : Spot) → length bs ≤ 32 → Fits L W.tables → bad_spelling (terminal k s) ≡ false
      → length (with_kind s W.tables.kinds) ≤ L.kinds → L.nodes ≤ length W.tables.nodes
      → run L (inside bs) W (terminal k s ∷ ts) e ≡ refused (nodes_full L.nodes)
  terminal_nodes_full bs W k s d f b h n = token_refused (spells {k = k} {s = s} {bs = bs}) W (nodes_full L.nodes) (by_nodes d b f.names h (rw length_add (omega arith)))

  -- a bar
  pub bar_on : (bs : List Bracket) (W : Within bs) (s : Spot) → length bs ≤ 32 → Fits L W.tables → length (end_sequence W.level.items W.tables).tables.nodes ≤ L.nodes
      → run L (inside bs) W (bar s ∷ ts) e ≡ run L (inside bs) (go (parts {s = s} {bs = bs}) W) ts e
  bar_on bs W s d f n = token_on (parts {s = s} {bs = bs}) W d refl (bar_fits L bs W s f n) refl

  pub bar_nodes_full : (bs : List Bracket) (W : Within bs) (s : Spot) → length bs ≤ 32 → Fits L W.tables → L.nodes < length (end_sequence W.level.items W.tables).tables.nodes
      → run L (inside bs) W (bar s ∷ ts) e ≡ refused (nodes_full L.nodes)
  bar_nodes_full bs W s d f n = token_nodes_full (parts {s = s} {bs = bs}) W d refl (as_many (words_sequence W.level.items W.tables)) f n

  -- an opening bracket
  pub opening_on : (bs : List Bracket) (W : Within bs) (b : Bracket) (s : Spot) → length bs < 32 → Fits L W.tables
      → run L (inside bs) W (opening b s ∷ ts) e ≡ run L (inside (b ∷ bs)) (go (opens {b = b} {s = s} {bs = bs}) W) ts e
  opening_on bs W b s d f = token_on (opens {b = b} {s = s} {bs = bs}) W (omega arith) refl f refl

  pub opening_too_deep : (bs : List Bracket) (W : Within bs) (b : Bracket) (s : Spot) → length bs ≡ 32 → run L (inside bs) W (opening b s ∷ ts) e ≡ refused (too_deep s.place)
  opening_too_deep bs W b s d = token_refused (opens {b = b} {s = s} {bs = bs}) W (too_deep s.place) (by_depth (omega arith))

  -- the closing bracket of the innermost that is open
  pub closing_on : (b : Bracket) (bs : List Bracket) (W : Within (b ∷ bs)) (s : Spot) → length bs ≤ 32 → Fits L W.tables → length (end_group b (end_level W.level W.tables)).tables.nodes ≤ L.nodes
      → run L (inside (b ∷ bs)) W (closing b s ∷ ts) e ≡ run L (inside bs) (go (closes {b = b} {s = s} {bs = bs}) W) ts e
  closing_on b bs W s d f n = token_on (closes {b = b} {s = s} {bs = bs}) W d refl (closing_fits L b bs W s f n) refl

  pub closing_nodes_full : (b : Bracket) (bs : List Bracket) (W : Within (b ∷ bs)) (s : Spot) → length bs ≤ 32 → Fits L W.tables → L.nodes < length (end_group b (end_level W.level W.tables)).tables.nodes
      → run L (inside (b ∷ bs)) W (closing b s ∷ ts) e ≡ refused (nodes_full L.nodes)
  closing_nodes_full b bs W s d f n = token_nodes_full (closes {b = b} {s = s} {bs = bs}) W d refl (as_many (words_closed b W.level W.tables)) f n

  -- another closing bracket
  pub closing_other_misplaced : (b : Bracket) (bs : List Bracket) (W : Within (b ∷ bs)) (c : Bracket) (s : Spot) → c ≢ b → run L (inside (b ∷ bs)) W (closing c s ∷ ts) e ≡ refused (misplaced s.place)
  closing_other_misplaced round bs W round s n = absurd (n refl)
  closing_other_misplaced round bs W square s n = refl
  closing_other_misplaced round bs W curly s n = refl
  closing_other_misplaced square bs W round s n = refl
  closing_other_misplaced square bs W square s n = absurd (n refl)
  closing_other_misplaced square bs W curly s n = refl
  closing_other_misplaced curly bs W round s n = refl
  closing_other_misplaced curly bs W square s n = refl
  closing_other_misplaced curly bs W curly s n = absurd (n refl)

  -- a closing bracket where none is open
  pub closing_none_misplaced : (W : Within []) (c : Bracket) (s : Spot) → run L (inside []) W (closing c s ∷ ts) e ≡ refused (misplaced s.place)
  closing_none_misplaced W c s = refl

  -- the end of a rule
  pub semi_on : (W : Within []) (s : Spot) → Fits L W.tables → length (end_level W.level W.tables).tables.nodes ≤ L.nodes
      → run L (inside []) W (semi s ∷ ts) e ≡ run L ready (go (stops {s = s}) W) ts e
  semi_on W s f n = token_on (stops {s = s}) W (omega arith) refl (semi_fits L W s f n) refl

  pub semi_nodes_full : (W : Within []) (s : Spot) → Fits L W.tables → L.nodes < length (end_level W.level W.tables).tables.nodes
      → run L (inside []) W (semi s ∷ ts) e ≡ refused (nodes_full L.nodes)
  semi_nodes_full W s f n = token_nodes_full (stops {s = s}) W (omega arith) refl (many_stops W s) f n

  -- not within brackets
  pub semi_misplaced : (b : Bracket) (bs : List Bracket) (W : Within (b ∷ bs)) (s : Spot) → run L (inside (b ∷ bs)) W (semi s ∷ ts) e ≡ refused (misplaced s.place)
  semi_misplaced b bs W s = refl

  -- an arrow in a body
  pub arrow_misplaced : (bs : List Bracket) (W : Within bs) (s : Spot) → run L (inside bs) W (arrow s ∷ ts) e ≡ refused (misplaced s.place)
  arrow_misplaced [] W s = refl
  arrow_misplaced (b ∷ bs) W s = refl
