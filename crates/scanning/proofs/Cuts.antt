-- A scanned text is well cut, and its tokens come one after the other.
use Rattle.std.proofs.Common.{◌≡◌, ℕ, zero, suc, ◌+◌, ◌-◌, ◌<◌, ◌≤◌, List, [], ◌∷◌, length, get_or, take, drop, Ok, Err, Result, sym, refl, ap, ◌∙◌, subst, add-zero, arith, length-drop}
use Rattle.std.specs.List.{AllByRecursion}
use Rattle.std.proofs.lemmas.List.{drop-drop, drop_more, take_rest}
use Rattle.scanning.specs.Laws.{Stands, Faulty, Tiles, Ends, WellCut}
use Rattle.lexer.specs.Lexeme.{front}
use Rattle.scanning.specs.Ranges.{LexemeFits, front_fits}
use Rattle.scanning.specs.Scan.{ending_place, Scan, token_at, after_lexeme, scan_bytes, scan_from, scan}
use Rattle.lexer.specs.Vocabulary.{Lexicon}
use Rattle.lexer.specs.declared.lexeme.Lexeme.{Lexeme}
use Rattle.token.specs.declared.token.Ending.{Ending}
use Rattle.token.specs.declared.token.Ending.TheVariants.{End, Fault}
use Rattle.token.specs.declared.token.FaultCode.{FaultCode}
use Rattle.token.specs.declared.token.Token.{Token}
use Rattle.scanning.proofs.Stood.{Found, front_found}

-- the bytes of the token before are stepped over
scan_skip : (x : Lexicon) (bs : List ℕ) (inside p : ℕ) → inside ≤ length bs → scan_bytes x bs inside p ≡ scan_from x (drop inside bs) (p + inside)
scan_skip x [] zero p h = ap (scan_bytes x [] 0) (sym (add-zero p))
scan_skip x [] (suc k) p h = absurd (omega arith)
scan_skip x (b ∷ bs) zero p h = ap (scan_bytes x (b ∷ bs) 0) (sym (add-zero p))
scan_skip x (b ∷ bs) (suc k) p h =
    let e : p + 1 + k ≡ p + suc k = omega arith in
    scan_skip x bs k (p + 1) (omega arith) ∙ ap (scan_bytes x (drop k bs) 0) e

-- a scan that has cut the text from a place on
pub record CutFrom (x : Lexicon) (whole : List ℕ) (p : ℕ) (s : Scan) : Type 0 where
  pub tiles : Tiles p s.tokens (ending_place s.ending)
  pub each : AllByRecursion (λ t. Stands x (drop t.place whole) t.kind t.length) s.tokens
  pub ends : Ends x whole s.ending

module _ (x : Lexicon) (whole : List ℕ) where
  cut_from : (bs : List ℕ) (inside p : ℕ) → bs ≡ drop p whole → p + length bs ≡ length whole → inside ≤ length bs → CutFrom x whole (p + inside) (scan_bytes x bs inside p)
  cut_from [] inside p e n h = record { tiles = omega arith; each = tt; ends = omega arith }
  cut_from (b ∷ bs) (suc k) p e n h =
      let same : p + 1 + k ≡ p + suc k = omega arith in
      subst (λ q. CutFrom x whole q (scan_bytes x bs k (p + 1))) same (cut_from bs k (p + 1) (ap (drop 1) e ∙ drop-drop 1 p whole) (omega arith) (omega arith))
  cut_from (b ∷ bs) zero p e n h = go (front x (b ∷ bs)) (front_found x b bs) (λ k. cut_from bs k (p + 1) (ap (drop 1) e ∙ drop-drop 1 p whole) (omega arith))
    where
      go : (r : Result Lexeme FaultCode) → Found x (b ∷ bs) r → ((k : ℕ) → k ≤ length bs → CutFrom x whole (p + 1 + k) (scan_bytes x bs k (p + 1))) → CutFrom x whole (p + 0) (after_lexeme p r (λ k. scan_bytes x bs k (p + 1)))
      go (Ok l) f more =
          let some = f.some in
          let inside = f.within in
          let rest = more (l.length - 1) (omega arith) in
          let same : p + 1 + (l.length - 1) ≡ p + 0 + l.length = omega arith in
          record {
            tiles = (omega arith, some, rw same at rest.tiles);
            each = (subst (λ xs. Stands x xs l.kind l.length) e f.stands, rest.each);
            ends = rest.ends;
          }
      go (Err c) f more = record { tiles = omega arith; each = tt; ends = (omega arith, subst (λ xs. Faulty x xs c) e f) }

pub well_cut : (x : Lexicon) (bs : List ℕ) → WellCut x bs (scan x bs).tokens (scan x bs).ending
well_cut x bs =
    let cut = cut_from x bs bs 0 0 refl (omega arith) (omega arith) in
    record { tiles = cut.tiles; each = cut.each; ends = cut.ends }

-- whatever equals the scan is well cut
pub cut_as_scanned : (x : Lexicon) (bs : List ℕ) (ts : List Token) (e : Ending) → ts ≡ (scan x bs).tokens → e ≡ (scan x bs).ending → WellCut x bs ts e
cut_as_scanned x bs ts e p q = subst (λ us. WellCut x bs us e) (sym p) (subst (λ f. WellCut x bs (scan x bs).tokens f) (sym q) (well_cut x bs))

-- one token of a text, and what comes after it
module _ (x : Lexicon) (text : List ℕ) (p : ℕ) (more : p < length text) where
  pub record Steps (l : Lexeme) : Type 0 where
    pub fits : (1 ≤ l.kind) × (l.kind ≤ 122)
    pub within : p + l.length ≤ length text
    pub tokens : (t : Token) → t ≡ token_at p l → t ∷ (scan_from x (drop (p + l.length) text) (p + l.length)).tokens ≡ (scan_from x (drop p text) p).tokens
    pub ending : (scan_from x (drop (p + l.length) text) (p + l.length)).ending ≡ (scan_from x (drop p text) p).ending

  stepped : (b : ℕ) (bs : List ℕ) (l : Lexeme) → drop p text ≡ b ∷ bs → front x (b ∷ bs) ≡ Ok l → Found x (b ∷ bs) (Ok l) → Steps l
  stepped b bs l e is f =
      let some = f.some in
      let inside = f.within in
      let n = ap length e in
      let there : p + 1 + (l.length - 1) ≡ p + l.length = omega arith in
      let back : suc (l.length - 1) ≡ l.length = omega arith in
      let left : drop (l.length - 1) bs ≡ drop (p + l.length) text =
      ap (λ k. drop k (b ∷ bs)) back ∙ ap (drop l.length) (sym e) ∙ drop-drop l.length p text in
      let rest = scan_from x (drop (p + l.length) text) (p + l.length) in
      let skip : scan_bytes x bs (l.length - 1) (p + 1) ≡ rest =
      scan_skip x bs (l.length - 1) (p + 1) (omega arith) ∙ ap (scan_from x (drop (l.length - 1) bs)) there ∙ ap (λ xs. scan_from x xs (p + l.length)) left in
      let scanned : scan_from x (drop p text) p ≡ record { tokens = token_at p l ∷ rest.tokens; ending = rest.ending } =
      ap (λ xs. scan_from x xs p) e ∙ ap (λ r. after_lexeme p r (λ k. scan_bytes x bs k (p + 1))) is ∙ ap (λ s. record { tokens = token_at p l ∷ s.tokens; ending = s.ending }) skip in
      record {
        fits = subst LexemeFits is (front_fits x (b ∷ bs));
        within = omega (arith, length-drop p text);
        tokens = λ t same. ap (λ u. u ∷ rest.tokens) same ∙ sym (ap (λ s. s.tokens) scanned);
        ending = sym (ap (λ s. s.ending) scanned);
      }

  pub scan_token_at : (l : Lexeme) → front x (drop p text) ≡ Ok l → Steps l
  scan_token_at l is =
      let b = get_or text p 0 in
      let bs = drop (p + 1) text in
      let e = drop_more text p 0 more in
      let found : front x (b ∷ bs) ≡ Ok l = sym (ap (front x) e) ∙ is in
      stepped b bs l e found (subst (Found x (b ∷ bs)) found (front_found x b bs))

  pub scan_fault_at : (c : FaultCode) → front x (drop p text) ≡ Err c → scan_from x (drop p text) p ≡ record { tokens = []; ending = Fault (record { code = c; place = p }) }
  scan_fault_at c is =
      let bs = drop (p + 1) text in
      let e = drop_more text p 0 more in
      ap (λ xs. scan_from x xs p) e ∙ ap (λ r. after_lexeme p r (λ k. scan_bytes x bs k (p + 1))) (sym (ap (front x) e) ∙ is)

  -- the same by what was found in `&text[place..]`, as the checker reads it
  pub scan_token : (l : Lexeme) → Ok l ≡ front x (take (length text - p) (drop p text)) → Steps l
  scan_token l is = scan_token_at l (sym (is ∙ ap (front x) (take_rest text p)))

  pub scan_fault : (c : FaultCode) → Err c ≡ front x (take (length text - p) (drop p text)) → scan_from x (drop p text) p ≡ record { tokens = []; ending = Fault (record { code = c; place = p }) }
  scan_fault c is = scan_fault_at c (sym (is ∙ ap (front x) (take_rest text p)))

-- tokens that tile a text are no more than its bytes
tiles_few : (ts : List Token) (from to : ℕ) → Tiles from ts to → from + length ts ≤ to
tiles_few [] from to h = omega arith
tiles_few (t ∷ ts) from to h = omega (arith, h.1, tiles_few ts (from + t.length) to h.2)

ends_within : (x : Lexicon) (bs : List ℕ) (e : Ending) → Ends x bs e → ending_place e ≤ length bs
ends_within x bs (End p) h = omega arith
ends_within x bs (Fault f) h = omega (arith, h.0)

pub few_tokens : (x : Lexicon) (bs : List ℕ) (ts : List Token) (e : Ending) → WellCut x bs ts e → length ts ≤ length bs
few_tokens x bs ts e cut = omega (arith, tiles_few ts 0 (ending_place e) cut.tiles, ends_within x bs e cut.ends)
