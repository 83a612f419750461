-- How a quoted spelling reads, taken apart from both ends. Assumes nothing.
use Rattle.std.proofs.Common.{◌≡◌, ℕ, ◌+◌, ◌-◌, ◌≤◌, Bool, false, List, [], ◌∷◌, ◌++◌, length, get_or, take, drop, Decides, sym, ap, ◌∙◌, arith, length-append, length-drop}
use Rattle.std.specs.Str.{bytes_eq}
use Rattle.std.proofs.lemmas.Slice.Eq.{bytes_eq-Decides}
use Rattle.std.proofs.lemmas.List.{drop_more, take_all, take_at, take_more, get_or-drop, get_or_push}
use Rattle.std.proofs.lemmas.Bool.{false≢true}
use Rattle.std.proofs.lemmas.Bool.Decides.{same_from_decides, Decides-like}
use Rattle.lexer.specs.Bytes.{quote}
use Rattle.lexer.specs.Vocabulary.{quoted}

module _ (bs s : List ℕ) where
  -- all but the first byte and the last
  abbrev inside : List ℕ
  inside = take (length bs - 1 - 1) (drop 1 bs)

  ends_quoted : bs ≡ quoted s → get_or bs (length bs - 1) 0 ≡ quote
  ends_quoted e = ap (λ l. get_or l (length l - 1) 0) e ∙ get_or_push (quote ∷ s) quote 0 _ (omega (arith, length-append s (quote ∷ [])))

  inside_quoted : bs ≡ quoted s → inside ≡ s
  inside_quoted e = ap (λ l. take (length l - 1 - 1) (drop 1 l)) e ∙ take_at s (quote ∷ []) _ (omega (arith, length-append s (quote ∷ [])))

  pub bare_end : (get_or bs (length bs - 1) 0 ≡ quote → ⊥) → false ≡ bytes_eq bs (quoted s)
  bare_end other = same_from_decides false _ (λ e. absurd (false≢true e), λ e. absurd (other (ends_quoted e))) (bytes_eq-Decides bs (quoted s))

  module _ (two : 2 ≤ length bs) (first : get_or bs 0 0 ≡ quote) (last : get_or bs (length bs - 1) 0 ≡ quote) where
    front : bs ≡ quote ∷ drop 1 bs
    front = drop_more bs 0 0 (omega arith) ∙ ap (λ b. b ∷ drop 1 bs) first

    back : drop 1 bs ≡ inside ++ quote ∷ []
    back =
        let m = length bs - 1 - 1 in
        let n = length-drop 1 bs in
        let at : 1 + m ≡ length bs - 1 = omega arith in
        let ends = get_or-drop 1 bs m 0 ∙ ap (λ i. get_or bs i 0) at ∙ last in
        sym (take_all (m + 1) (drop 1 bs) (omega arith)) ∙ take_more (drop 1 bs) m 0 (omega arith) ∙ ap (λ b. inside ++ b ∷ []) ends

    pub inside_is : (r : Bool) → Decides r (inside ≡ s) → r ≡ bytes_eq bs (quoted s)
    inside_is r d = same_from_decides r _ (Decides-like r (λ e. front ∙ ap (λ l. quote ∷ l) (back ∙ ap (λ l. l ++ quote ∷ []) e)) inside_quoted d) (bytes_eq-Decides bs (quoted s))
