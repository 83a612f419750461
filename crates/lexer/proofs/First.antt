-- The first kind that is written so.
use Rattle.std.proofs.Common.{◌≡◌, ℕ, zero, suc, ◌+◌, ◌-◌, ◌<◌, ◌≤◌, Bool, true, false, ◌&&◌, leb, List, [], ◌∷◌, map, cond, length, get_or, take, Some, None, Decides, Option, sym, refl, ap, ◌∙◌, subst, ⊎_elim, arith, length-take, get_or-take}
use Rattle.std.proofs.lemmas.Slice.Eq.{bytes_eq-Decides}
use Rattle.std.proofs.lemmas.List.{get_or_past, take-map}
use Rattle.std.proofs.lemmas.Iterator.Adapters.{position_from-zero}
use Rattle.std.specs.List.{position, position_from}
use Rattle.std.specs.Option.{option_map}
use Rattle.std.proofs.lemmas.Bool.{cases_lt, cond_both, cond-true, cond-false, and_from, and_parts, le-leb, leb-true, false≢true, both_ways}
use Rattle.lexer.specs.Vocabulary.{Lexicon, lexicon, spelled, reads, first_from, kind_of, written_as, Names}
use Rattle.lexer.specs.declared.vocabulary.Vocabulary.{Vocabulary}

module _ {X : Type 0} (p : X → Bool) (d : X) where
  -- what a search that counts from j finds
  abbrev Finds : List X → ℕ → Option ℕ → Type 0
  Finds xs j None = (i : ℕ) → i < length xs → p (get_or xs i d) ≡ false
  Finds xs j (Some k) = (j ≤ k) × (k < j + length xs) × (p (get_or xs (k - j) d) ≡ true) × ((i : ℕ) → i < k - j → p (get_or xs i d) ≡ false)

  passed : (x : X) (xs : List X) (j : ℕ) (o : Option ℕ) → p x ≡ false → Finds xs (j + 1) o → Finds (x ∷ xs) j o
  passed x xs j None other h = elim [ zero ↦ λ l. other | suc i ↦ λ l. h i (omega arith) ]
  passed x xs j (Some k) other h =
      let low = h.0 in
      let e : k - j ≡ suc (k - (j + 1)) = omega (arith, low) in
      (omega (arith, low), omega (arith, h.1), ap (λ m. p (get_or (x ∷ xs) m d)) e ∙ h.2, elim [ zero ↦ λ l. other | suc i ↦ λ l. h.3 i (omega (arith, low)) ])

  first_finds : (xs : List X) (j : ℕ) → Finds xs j (first_from p xs j)
  first_finds [] j = λ i l. absurd (omega arith)
  first_finds (x ∷ xs) j =
      let e : j - j ≡ 0 = omega arith in
      cond_both (p x) (Some j) (first_from p xs (j + 1)) (Finds (x ∷ xs) j)
      (λ here. (omega arith, omega arith, ap (λ m. p (get_or (x ∷ xs) m d)) e ∙ here, λ i l. absurd (omega arith)))
      (λ other. passed x xs j (first_from p xs (j + 1)) other (first_finds xs (j + 1)))

some_same : {X : Type 0} (x y : X) → Some x ≡ Some y → x ≡ y
some_same x y e = cc

reads_decides : (o : Option (List ℕ)) (w : List ℕ) → Decides (reads o w) (o ≡ Some w)
reads_decides None w = (λ e. absurd (false≢true e), λ e. let z : ◌≡◌ {A = ℕ} 0 1 = cc in absurd (omega arith))
reads_decides (Some bs) w =
    let h = bytes_eq-Decides bs w in
    (λ e. ap (λ l. Some l) (h.0 e), λ e. h.1 (some_same bs w e))

module _ (x : Lexicon) (w : List ℕ) where
  -- how a kind is written, in and out of range
  written_in : (k : ℕ) → 1 ≤ k → k ≤ 120 → written_as x k ≡ get_or (take 120 x) (k - 1) None
  written_in k low high =
      cond-true (leb 1 k && leb k 120) (get_or x (k - 1) None) None (and_from (leb 1 k) (leb k 120) (le-leb 1 k low) (le-leb k 120 high)) ∙ sym (get_or-take 120 x (k - 1) None (omega arith))

  -- a kind that is written so lies among the kinds
  in_range : (k : ℕ) → written_as x k ≡ Some w → (1 ≤ k) × (k ≤ 120) × (k - 1 < length (take 120 x))
  in_range k e = go (leb 1 k && leb k 120) refl
    where
      go : (b : Bool) → (leb 1 k && leb k 120) ≡ b → (1 ≤ k) × (k ≤ 120) × (k - 1 < length (take 120 x))
      go false out = let none : None ≡ Some w = sym (cond-false (leb 1 k && leb k 120) (get_or x (k - 1) None) None out) ∙ e in let z : ◌≡◌ {A = ℕ} 0 1 = cc in absurd (omega arith)
      go true fits =
          let parts = and_parts (leb 1 k) (leb k 120) fits in
          let low = leb-true 1 k parts.0 in
          let high = leb-true k 120 parts.1 in
          (low, high, ⊎_elim (λ h. h) (λ past. let none : None ≡ Some w = sym (get_or_past (take 120 x) (k - 1) None past) ∙ sym (written_in k low high) ∙ e in let z : ◌≡◌ {A = ℕ} 0 1 = cc in absurd (omega arith)) (cases_lt (k - 1) (length (take 120 x))))

  never : (k : ℕ) → reads (get_or (take 120 x) (k - 1) None) w ≡ false → written_as x k ≡ Some w → ⊥
  never k other e =
      let r = in_range k e in
      both_ways (reads (get_or (take 120 x) (k - 1) None) w) other ((reads_decides (get_or (take 120 x) (k - 1) None) w).1 (sym (written_in k r.0 r.1) ∙ e))

  named_by : (o : Option ℕ) → Finds (λ o. reads o w) None (take 120 x) 1 o → Names x w o
  named_by None h = λ k e. never k (h (k - 1) (in_range k e).2) e
  named_by (Some k) h =
      let low = h.0 in
      let high = h.1 in
      let n = length-take 120 x in
      (written_in k low (omega arith) ∙ (reads_decides (get_or (take 120 x) (k - 1) None) w).0 h.2, λ j l e. let r = (in_range j e).0 in never j (h.3 (j - 1) (omega arith)) e)

  kind_names : Names x w (kind_of x w)
  kind_names = named_by (kind_of x w) (first_finds (λ o. reads o w) None (take 120 x) 1)

-- kinds are counted from the first entry on
module _ {X Y : Type 0} (f : X → Y) (p : Y → Bool) where
  counted_on : (xs : List X) (i k : ℕ) → option_map (λ j. j + k) (position_from (λ x. p (f x)) i xs) ≡ first_from p (map f xs) (i + k)
  counted_on [] i k = refl
  counted_on (x ∷ xs) i k = go (p (f x)) (counted_on xs (i + 1) k)
    where
      go : (b : Bool) → option_map (λ j. j + k) (position_from (λ x. p (f x)) (i + 1) xs) ≡ first_from p (map f xs) (i + 1 + k) → option_map (λ j. j + k) (cond b (Some i) (position_from (λ x. p (f x)) (i + 1) xs)) ≡ cond b (Some (i + k)) (first_from p (map f xs) (i + k + 1))
      go true h = refl
      go false h = let same : i + 1 + k ≡ i + k + 1 = omega arith in h ∙ ap (first_from p (map f xs)) same

module _ (v : Vocabulary) (w : List ℕ) (r : Option ℕ) where
  pub kind_counted : r ≡ position (λ e. reads (spelled v.text.now e) w) (take 120 v.kinds.now) → option_map (λ i. i + 1) r ≡ kind_of (lexicon v) w
  kind_counted e =
      let entries = take 120 v.kinds.now in
      ap (option_map (λ i. i + 1)) (e ∙ position_from-zero (λ e. reads (spelled v.text.now e) w) entries)
      ∙ counted_on (spelled v.text.now) (λ o. reads o w) entries 0 1
      ∙ ap (λ l. first_from (λ o. reads o w) l 1) (sym (take-map (spelled v.text.now) 120 v.kinds.now))

-- both clauses, from the first
pub named : (x : Lexicon) (w : List ℕ) (r : Option ℕ) → r ≡ kind_of x w → record { value : r ≡ kind_of x w; names : Names x w r }
named x w r e = record { value = e; names = subst (Names x w) (sym e) (kind_names x w) }
