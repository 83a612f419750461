-- The tables of records and those of the notation agree, operation by operation.
use Rattle.std.proofs.Common.{◌≡◌, ℕ, zero, suc, ◌+◌, ◌<◌, ◌≤◌, Bool, true, false, cond, not, eqb, ltb, List, [], ◌∷◌, ◌++◌, map, length, Some, None, Option as Found, sym, refl, ap, ◌∙◌, ⊎_elim, one-add, arith, length-append}
use mathlib.Core.List.{map-append}
use mathlib.Core.Option.{Option, none, some}
use lib.ListN.{length-map}
use Rattle.std.specs.List.{prefix_len}
use Rattle.std.specs.Str.{bytes_eq}
use Rattle.std.proofs.lemmas.Bool.{cases_lt, cond-true, cond-false, cond_both, lt-ltb, le-ltb, ne_eqb, eq-eqb}
use Rattle.lexer.specs.declared.vocabulary.Spelling.{Spelling}
use Rattle.notation.specs.Reading.{has_rule, ruleless}
use Rattle.notation.specs.Tables.{find_name, find_kind, with_name, with_kind, with_root}
use Rattle.tables.specs.Meant.{spot_at, kind_meant, root_meant, name_meant}
use Rattle.tables.specs.Names.{rooted, ruled, lowest_unruled}
use Rattle.tables.specs.Numbering.{with_new, place_among}
use Rattle.tables.specs.Spots.{cut}
use Rattle.tables.specs.declared.name.Name.{Name}

-- an entry that is not written as w
abbrev differs : {E : Type 0} → List ℕ → (E → ℕ) → (E → ℕ) → List ℕ → E → Bool
differs text begins spans w e = not (bytes_eq (cut text (begins e) (spans e)) w)

-- a new one makes the list one longer
long_new : {E : Type 0} (i : ℕ) (e : E) (es : List E) → i ≡ length es → length (with_new i e es) ≡ suc (length es)
long_new i e es new = ap length (cond-false _ es (es ++ e ∷ []) (le-ltb i (length es) (omega arith))) ∙ omega (arith, length-append es (e ∷ []))

-- a name without a rule is as one that is not known
unruled_last : (n : Name) → n.root ≡ 1024 → (es : List Name) (i : ℕ) → ruled i (es ++ n ∷ []) ≡ ruled i es
unruled_last n free [] zero = ap not (eq-eqb n.root 1024 free)
unruled_last n free [] (suc i) = refl
unruled_last n free (e ∷ es) zero = refl
unruled_last n free (e ∷ es) (suc i) = unruled_last n free es i

unruled_new : (n : Name) → n.root ≡ 1024 → (es : List Name) (i : ℕ) → ruled i (with_new i n es) ≡ ruled i es
unruled_new n free es i = cond_both (ltb i (length es)) es (es ++ n ∷ []) (λ l. ruled i l ≡ ruled i es) (λ _. refl) (λ _. unruled_last n free es i)

root_told : (free : Bool) (r : ℕ) → not free ≡ elim (cond free none (some r)) [ none ↦ false | some n ↦ true ]
root_told true r = refl
root_told false r = refl

abbrev place_meant : Found ℕ → Option ℕ
place_meant None = none
place_meant (Some p) = some p

-- a list, by what its elements are called in it and by how they are written
module _ {E A : Type 0} (text : List ℕ) (begins spans : E → ℕ) (meant : E → A) (find : List ℕ → List A → ℕ) (join : A → List A → List A) (found_none : (w : List ℕ) → find w [] ≡ 0) (found_more : (w : List ℕ) (e : E) (l : List A) → find w (meant e ∷ l) ≡ cond (bytes_eq (cut text (begins e) (spans e)) w) 0 (suc (find w l))) where
  -- the index that a search gives is the number in the notation
  pub found : (w : List ℕ) (es : List E) → prefix_len (differs text begins spans w) es ≡ find w (map meant es)
  found w [] = sym (found_none w)
  found w (e ∷ es) = go (bytes_eq (cut text (begins e) (spans e)) w) (found w es) ∙ sym (found_more w e (map meant es))
    where
      go : (b : Bool) → prefix_len (differs text begins spans w) es ≡ find w (map meant es) → cond (not b) (1 + prefix_len (differs text begins spans w) es) 0 ≡ cond b 0 (suc (find w (map meant es)))
      go true h = refl
      go false h = one-add (prefix_len (differs text begins spans w) es) ∙ ap suc h

  module _ (new : E) (joined_none : join (meant new) [] ≡ meant new ∷ []) (joined_more : (e : E) (l : List A) → join (meant new) (meant e ∷ l) ≡ cond (bytes_eq (cut text (begins e) (spans e)) (cut text (begins new) (spans new))) (meant e ∷ l) (meant e ∷ join (meant new) l)) where
    abbrev among : List E → ℕ
    among es = place_among begins spans text new es

    known : (es : List E) → among es < length es → join (meant new) (map meant es) ≡ map meant es
    known [] h = absurd (omega arith)
    known (e ∷ es) h = joined_more e (map meant es) ∙ go (bytes_eq (cut text (begins e) (spans e)) (cut text (begins new) (spans new))) h (known es)
      where
        go : (b : Bool) → cond (not b) (1 + among es) 0 < suc (length es) → (among es < length es → join (meant new) (map meant es) ≡ map meant es) → cond b (meant e ∷ map meant es) (meant e ∷ join (meant new) (map meant es)) ≡ meant e ∷ map meant es
        go true h more = refl
        go false h more = ap (λ m. meant e ∷ m) (more (omega arith))

    unknown : (es : List E) → length es ≤ among es → join (meant new) (map meant es) ≡ map meant es ++ meant new ∷ []
    unknown [] h = joined_none
    unknown (e ∷ es) h = joined_more e (map meant es) ∙ go (bytes_eq (cut text (begins e) (spans e)) (cut text (begins new) (spans new))) h (unknown es)
      where
        go : (b : Bool) → suc (length es) ≤ cond (not b) (1 + among es) 0 → (length es ≤ among es → join (meant new) (map meant es) ≡ map meant es ++ meant new ∷ []) → cond b (meant e ∷ map meant es) (meant e ∷ join (meant new) (map meant es)) ≡ meant e ∷ (map meant es ++ meant new ∷ [])
        go true h more = absurd (omega arith)
        go false h more = ap (λ m. meant e ∷ m) (more (omega arith))

    -- one that is known adds nothing, and a new one stands last
    pub joined : (es : List E) → join (meant new) (map meant es) ≡ map meant (with_new (among es) new es)
    joined es =
        ⊎_elim
        (λ h. known es h ∙ ap (map meant) (sym (cond-true _ es (es ++ new ∷ []) (lt-ltb (among es) (length es) h))))
        (λ h. unknown es h ∙ sym (map-append meant es (new ∷ [])) ∙ ap (map meant) (sym (cond-false _ es (es ++ new ∷ []) (le-ltb (among es) (length es) h))))
        (cases_lt (among es) (length es))

module _ (text : List ℕ) where
  pub kind_found : (s : Spelling) (es : List Spelling) → place_among (λ e. e.place) (λ e. e.length) text s es ≡ find_kind (cut text s.place s.length) (map (kind_meant text) es)
  kind_found s es = found text (λ e. e.place) (λ e. e.length) (kind_meant text) find_kind with_kind (λ w. refl) (λ w e l. refl) (cut text s.place s.length) es

  pub kind_joined : (s : Spelling) (es : List Spelling) → with_kind (kind_meant text s) (map (kind_meant text) es) ≡ map (kind_meant text) (with_new (place_among (λ e. e.place) (λ e. e.length) text s es) s es)
  kind_joined s es = joined text (λ e. e.place) (λ e. e.length) (kind_meant text) find_kind with_kind (λ w. refl) (λ w e l. refl) s refl (λ e l. refl) es

  pub name_found : (n : Name) (es : List Name) → place_among (λ e. e.place) (λ e. e.length) text n es ≡ find_name (cut text n.place n.length) (map (name_meant text) es)
  name_found n es = found text (λ e. e.place) (λ e. e.length) (name_meant text) find_name (λ e. with_name e.first) (λ w. refl) (λ w e l. refl) (cut text n.place n.length) es

  -- a name is known without a rule at first
  pub name_joined : (n : Name) (es : List Name) → n.root ≡ 1024 → with_name (spot_at text n.place n.length) (map (name_meant text) es) ≡ map (name_meant text) (with_new (place_among (λ e. e.place) (λ e. e.length) text n es) n es)
  name_joined n es free =
      joined text (λ e. e.place) (λ e. e.length) (name_meant text) find_name (λ e. with_name e.first) (λ w. refl) (λ w e l. refl) n
      (ap (λ r. record { first = spot_at text n.place n.length; root = r } ∷ []) (sym (cond-true (eqb n.root 1024) none (some n.root) (eq-eqb n.root 1024 free))))
      (λ e l. refl) es

  pub name_rooted : (es : List Name) (i r : ℕ) → (r ≡ 1024 → ⊥) → map (name_meant text) (rooted i r es) ≡ with_root i r (map (name_meant text) es)
  name_rooted [] i r h = refl
  name_rooted (e ∷ es) zero r h = ap (λ o. record { first = spot_at text e.place e.length; root = o } ∷ map (name_meant text) es) (cond-false (eqb r 1024) none (some r) (ne_eqb r 1024 h))
  name_rooted (e ∷ es) (suc i) r h = ap (λ l. name_meant text e ∷ l) (name_rooted es i r h)

  ruled_meant : (w : List ℕ) (es : List Name) → ruled (prefix_len (differs text (λ e. e.place) (λ e. e.length) w) es) es ≡ has_rule w (map (name_meant text) es)
  ruled_meant w [] = refl
  ruled_meant w (e ∷ es) = go (bytes_eq (cut text e.place e.length) w) (prefix_len (differs text (λ n. n.place) (λ n. n.length) w) es) (ruled_meant w es)
    where
      go : (b : Bool) (i : ℕ) → ruled i es ≡ has_rule w (map (name_meant text) es) → ruled (cond (not b) (1 + i) 0) (e ∷ es) ≡ cond b (elim (root_meant e.root) [ none ↦ false | some n ↦ true ]) (has_rule w (map (name_meant text) es))
      go true i h = root_told (eqb e.root 1024) e.root
      go false i h = ap (λ k. ruled k (e ∷ es)) (one-add i) ∙ h

  -- a name has a rule in the table just if it has one in the notation
  pub name_ruled : (n : Name) (es : List Name) → n.root ≡ 1024 → ruled (place_among (λ e. e.place) (λ e. e.length) text n es) (with_new (place_among (λ e. e.place) (λ e. e.length) text n es) n es) ≡ has_rule (cut text n.place n.length) (map (name_meant text) es)
  name_ruled n es free = unruled_new n free es (place_among (λ e. e.place) (λ e. e.length) text n es) ∙ ruled_meant (cut text n.place n.length) es

  lowest_meant : (es : List Name) → ruleless (map (name_meant text) es) ≡ place_meant (lowest_unruled es)
  lowest_meant [] = refl
  lowest_meant (e ∷ es) = go (eqb e.root 1024) (lowest_meant es)
    where
      go : (b : Bool) → ruleless (map (name_meant text) es) ≡ place_meant (lowest_unruled es) → elim (cond b none (some e.root)) [ none ↦ some e.place | some n ↦ ruleless (map (name_meant text) es) ] ≡ place_meant (cond b (Some e.place) (lowest_unruled es))
      go true h = refl
      go false h = h

  -- the lowest name without a rule is the same, and stands at the same place
  pub unruled_meant : (es : List Name) (p : ℕ) → lowest_unruled es ≡ Some p → ruleless (map (name_meant text) es) ≡ some p
  unruled_meant es p e = lowest_meant es ∙ ap place_meant e

  pub none_unruled : (es : List Name) → lowest_unruled es ≡ None → ruleless (map (name_meant text) es) ≡ none
  none_unruled es e = lowest_meant es ∙ ap place_meant e

  -- one that is new makes the list one longer
  pub kind_count : (s : Spelling) (es : List Spelling) → place_among (λ e. e.place) (λ e. e.length) text s es ≡ length es → length (with_kind (kind_meant text s) (map (kind_meant text) es)) ≡ suc (length es)
  kind_count s es new = ap length (kind_joined s es) ∙ length-map (with_new _ s es) (kind_meant text) ∙ long_new _ s es new

  pub name_count : (n : Name) (es : List Name) → n.root ≡ 1024 → place_among (λ e. e.place) (λ e. e.length) text n es ≡ length es → length (with_name (spot_at text n.place n.length) (map (name_meant text) es)) ≡ suc (length es)
  name_count n es free new = ap length (name_joined n es free) ∙ length-map (with_new _ n es) (name_meant text) ∙ long_new _ n es new
