-- A text that is well cut is cut as the scan cuts it.
use Rattle.std.proofs.Common.{◌≡◌, ℕ, ◌+◌, ◌<◌, List, [], ◌∷◌, length, get_or, drop, Ok, Err, sym, ap, ◌∙◌, subst, ⊎_elim, arith}
use Rattle.std.specs.List.{AllByRecursion}
use Rattle.std.proofs.lemmas.List.{drop_more, drop_all}
use Rattle.std.proofs.lemmas.Bool.{cases_lt}
use Rattle.lexer.specs.Lexeme.{front}
use Rattle.lexer.specs.Vocabulary.{Lexicon}
use Rattle.lexer.specs.declared.lexeme.Lexeme.{Lexeme}
use Rattle.token.specs.declared.token.Ending.{Ending}
use Rattle.token.specs.declared.token.Ending.TheVariants.{End, Fault}
use Rattle.token.specs.declared.token.FaultCode.{FaultCode}
use Rattle.token.specs.declared.token.Token.{Token}
use Rattle.scanning.specs.Laws.{Stands, Faulty, Tiles, Ends, OnlyCut}
use Rattle.scanning.specs.Scan.{ending_place, token_at, scan_from, scan}
use Rattle.scanning.proofs.Cuts.{scan_token_at, scan_fault_at}
use Rattle.scanning.proofs.Decided.{stands_is, faulty_is, stands_some}

module _ (x : Lexicon) (text : List ℕ) where
  -- what stands at a place, or is wrong there, is what the scan finds
  found_at : (p k n : ℕ) → p < length text → Stands x (drop p text) k n → front x (drop p text) ≡ Ok (record { kind = k; length = n })
  found_at p k n more h =
      let e = drop_more text p 0 more in
      ap (front x) e ∙ stands_is x (get_or text p 0) (drop (p + 1) text) k n (subst (λ bs. Stands x bs k n) e h)

  fault_at : (p : ℕ) (c : FaultCode) → p < length text → Faulty x (drop p text) c → front x (drop p text) ≡ Err c
  fault_at p c more h =
      let e = drop_more text p 0 more in
      ap (front x) e ∙ faulty_is x (get_or text p 0) (drop (p + 1) text) c (subst (λ bs. Faulty x bs c) e h)

  stands_within : (p k n : ℕ) → Stands x (drop p text) k n → p < length text
  stands_within p k n h = ⊎_elim (λ l. l) (λ past. absurd (stands_some x k n (subst (λ bs. Stands x bs k n) (drop_all p text past) h))) (cases_lt p (length text))

  ends_so : (p : ℕ) (e : Ending) → p ≡ ending_place e → Ends x text e → ([] ≡ (scan_from x (drop p text) p).tokens) × (e ≡ (scan_from x (drop p text) p).ending)
  ends_so p (End q) same h =
      let s = ap (λ bs. scan_from x bs p) (drop_all p text (omega arith)) in
      (sym (ap (λ r. r.tokens) s), ap End (sym same) ∙ sym (ap (λ r. r.ending) s))
  ends_so p (Fault f) same h =
      let here : p < length text = omega (arith, h.0) in
      let s = scan_fault_at x text p here f.code (fault_at p f.code here (subst (λ q. Faulty x (drop q text) f.code) (sym same) h.1)) in
      (sym (ap (λ r. r.tokens) s), ap (λ q. Fault (record { code = f.code; place = q })) (sym same) ∙ sym (ap (λ r. r.ending) s))

  cut_so : (ts : List Token) (p : ℕ) (e : Ending) → Tiles p ts (ending_place e) → AllByRecursion (λ t. Stands x (drop t.place text) t.kind t.length) ts → Ends x text e → (ts ≡ (scan_from x (drop p text) p).tokens) × (e ≡ (scan_from x (drop p text) p).ending)
  cut_so [] p e tiles each ends = ends_so p e tiles ends
  cut_so (t ∷ ts) p e tiles each ends =
      let stands = subst (λ q. Stands x (drop q text) t.kind t.length) tiles.0 each.0 in
      let here = stands_within p t.kind t.length stands in
      let l : Lexeme = record { kind = t.kind; length = t.length } in
      let step = scan_token_at x text p here l (found_at p t.kind t.length here stands) in
      let rest = cut_so ts (p + t.length) e tiles.2 each.1 ends in
      let same : t ≡ token_at p l = ap (λ q. record { kind = t.kind; place = q; length = t.length }) tiles.0 in
      (ap (λ us. t ∷ us) rest.0 ∙ step.tokens t same, rest.1 ∙ step.ending)

-- whatever equals the scan is the only cut
pub only_scanned : (x : Lexicon) (text : List ℕ) (ts : List Token) (e : Ending) → ts ≡ (scan x text).tokens → e ≡ (scan x text).ending → OnlyCut x text ts e
only_scanned x text ts e p q us f cut =
    let so = cut_so x text us 0 f cut.tiles cut.each cut.ends in
    (so.0 ∙ sym p, so.1 ∙ sym q)
