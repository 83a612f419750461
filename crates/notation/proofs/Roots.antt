-- Which names have a rule.
use Rattle.std.proofs.Common.{◌≡◌, ℕ, suc, ◌<◌, Bool, true, false, cond, ◌⊎◌, List, [], ◌∷◌, ◌++◌, length, sym, refl, ap, ◌∙◌, subst, inl, inr, arith}
use mathlib.Core.Option.{none, some}
use Rattle.std.specs.Str.{bytes_eq}
use Rattle.notation.specs.Tokens.{Spot}
use Rattle.notation.specs.Syntax.{Item, named, literal, group, Sequence, nothing, item, Branches, last, either, Rule}
use Rattle.notation.specs.Tables.{Entry, Tables, find_name, with_name, with_root}
use Rattle.notation.specs.Numbering.{Made, Listed, no_level, next_branch, name_known, end_sequence, Level, number_item, number_sequence, number_branches, number_rule, number_rules}
use Rattle.notation.specs.Reading.{has_rule}
use Rattle.notation.specs.Statements.{Has, heads_of}
use Rattle.notation.proofs.Names.{same_true, same_refl, same_false, words_sequence, words_level, words_group}

-- what a new name keeps, the numbering of branches keeps
module _ (P : List Entry → Type 0) (keep : (s : Spot) (es : List Entry) → P es → P (with_name s es)) where
  mutual
    keep_item : (x : Item) (T : Tables) → P T.names → P (number_item x T).tables.names
    keep_item (named s) T p = keep s T.names p
    keep_item (literal k s) T p = p
    keep_item (group b s inside t) T p =
        let M : Made = number_branches inside no_level T in
        subst P (sym (words_group b M).names) (keep_branches inside no_level T p)

    keep_sequence : (xs : Sequence) (ns : List ℕ) (T : Tables) → P T.names → P (number_sequence xs ns T).tables.names
    keep_sequence nothing ns T p = p
    keep_sequence (item x xs) ns T p =
        let M : Made = number_item x T in
        keep_sequence xs (ns ++ (M.at ∷ [])) M.tables (keep_item x T p)

    pub keep_branches : (b : Branches) (l : Level) (T : Tables) → P T.names → P (number_branches b l T).tables.names
    keep_branches (last xs) l T p =
        let S : Listed = number_sequence xs l.items T in
        subst P (sym (words_level (record { ended = l.ended; items = S.items }) S.tables).names) (keep_sequence xs l.items T p)
    keep_branches (either xs s more) l T p =
        let S : Listed = number_sequence xs l.items T in
        let M : Made = end_sequence S.items S.tables in
        keep_branches more (next_branch l M.at) M.tables (subst P (sym (words_sequence S.items S.tables).names) (keep_sequence xs l.items T p))

pub rule_with_name : (w : List ℕ) (s : Spot) (es : List Entry) → has_rule w (with_name s es) ≡ has_rule w es
rule_with_name w s [] = elim (bytes_eq s.bytes w) as (λ b. cond b false false ≡ false) [ true ↦ refl | false ↦ refl ]
rule_with_name w s (e ∷ es) =
    let h = rule_with_name w s es in
    elim (bytes_eq e.first.bytes s.bytes) as (λ b. has_rule w (cond b (e ∷ es) (e ∷ with_name s es)) ≡ has_rule w (e ∷ es))
    [ true ↦ refl | false ↦ ap (cond (bytes_eq e.first.bytes w) (elim e.root [ none ↦ false | some r ↦ true ])) h ]

-- a name in the table keeps its number
abbrev pub Known : List ℕ → ℕ → List Entry → Type 0
Known w i es = (find_name w es ≡ i) × (i < length es)

find_with_at : (b : Bool) (s : Spot) (e : Entry) (es : List Entry) → bytes_eq e.first.bytes s.bytes ≡ b
    → (find_name s.bytes (with_name s es) ≡ find_name s.bytes es) × (find_name s.bytes es < length (with_name s es))
    → (find_name s.bytes (cond b (e ∷ es) (e ∷ with_name s es)) ≡ find_name s.bytes (e ∷ es)) × (find_name s.bytes (e ∷ es) < length (cond b (e ∷ es) (e ∷ with_name s es)))
find_with_at true s e es h r = (refl, rw h (omega arith))
find_with_at false s e es h r = (rw (h, r.0), rw h (omega arith))

find_with : (s : Spot) (es : List Entry) → (find_name s.bytes (with_name s es) ≡ find_name s.bytes es) × (find_name s.bytes es < length (with_name s es))
find_with s [] = (rw (same_refl s.bytes), omega arith)
find_with s (e ∷ es) = find_with_at (bytes_eq e.first.bytes s.bytes) s e es refl (find_with s es)

find_keep_at : (c b : Bool) (w : List ℕ) (s : Spot) (e : Entry) (es : List Entry) → bytes_eq e.first.bytes w ≡ c
    → (find_name w es < length es → (find_name w (with_name s es) ≡ find_name w es) × (find_name w es < length (with_name s es)))
    → cond c 0 (suc (find_name w es)) < suc (length es)
    → (find_name w (cond b (e ∷ es) (e ∷ with_name s es)) ≡ cond c 0 (suc (find_name w es))) × (cond c 0 (suc (find_name w es)) < length (cond b (e ∷ es) (e ∷ with_name s es)))
find_keep_at c true w s e es g ih h = (rw g, h)
find_keep_at true false w s e es g ih h = (rw g, omega arith)
find_keep_at false false w s e es g ih h = let r = ih (omega arith) in (rw (g, r.0), omega arith)

find_keep : (w : List ℕ) (s : Spot) (es : List Entry) → find_name w es < length es → (find_name w (with_name s es) ≡ find_name w es) × (find_name w es < length (with_name s es))
find_keep w s [] h = absurd (omega arith)
find_keep w s (e ∷ es) h = find_keep_at (bytes_eq e.first.bytes w) (bytes_eq e.first.bytes s.bytes) w s e es refl (find_keep w s es) h

pub known_keep : (w : List ℕ) (i : ℕ) (s : Spot) (es : List Entry) → Known w i es → Known w i (with_name s es)
known_keep w i s es (p, q) = let r = find_keep w s es (rw p q) in (r.0 ∙ p, subst (λ n. n < length (with_name s es)) p r.1)

pub known_with : (s : Spot) (es : List Entry) → Known s.bytes (find_name s.bytes es) (with_name s es)
known_with s es = find_with s es

-- a root given to one name is no other's
root_own_at : (b : Bool) (w : List ℕ) (n : ℕ) (e : Entry) (es : List Entry) → bytes_eq e.first.bytes w ≡ b
    → (find_name w es < length es → has_rule w (with_root (find_name w es) n es) ≡ true)
    → cond b 0 (suc (find_name w es)) < suc (length es) → has_rule w (with_root (cond b 0 (suc (find_name w es))) n (e ∷ es)) ≡ true
root_own_at true w n e es g ih h = rw g
root_own_at false w n e es g ih h = rw g (ih (omega arith))

root_own : (w : List ℕ) (n : ℕ) (es : List Entry) → find_name w es < length es → has_rule w (with_root (find_name w es) n es) ≡ true
root_own w n [] h = absurd (omega arith)
root_own w n (e ∷ es) h = root_own_at (bytes_eq e.first.bytes w) w n e es refl (root_own w n es) h

root_other_at : (b : Bool) (w x : List ℕ) (n : ℕ) (e : Entry) (es : List Entry) → (x ≡ w → ⊥) → bytes_eq e.first.bytes x ≡ b
    → has_rule w (with_root (find_name x es) n es) ≡ has_rule w es
    → has_rule w (with_root (cond b 0 (suc (find_name x es))) n (e ∷ es)) ≡ has_rule w (e ∷ es)
root_other_at true w x n e es d g ih =
    let k : bytes_eq e.first.bytes w ≡ false = apart (bytes_eq e.first.bytes w) refl in rw k
  where
    apart : (c : Bool) → bytes_eq e.first.bytes w ≡ c → c ≡ false
    apart true f = absurd (d (sym (same_true e.first.bytes x g) ∙ same_true e.first.bytes w f))
    apart false f = refl
root_other_at false w x n e es d g ih = ap (cond (bytes_eq e.first.bytes w) (elim e.root [ none ↦ false | some r ↦ true ])) ih

root_other : (w x : List ℕ) (n : ℕ) (es : List Entry) → (x ≡ w → ⊥) → has_rule w (with_root (find_name x es) n es) ≡ has_rule w es
root_other w x n [] d = refl
root_other w x n (e ∷ es) d = root_other_at (bytes_eq e.first.bytes x) w x n e es d refl (root_other w x n es d)

-- a rule gives its name a root, and no other
module _ (r : Rule) (T : Tables) where
  abbrev head_number : ℕ
  head_number = find_name r.head.bytes T.names

  abbrev body_made : Made
  body_made = number_branches r.body no_level (name_known r.head T)

  head_known : Known r.head.bytes head_number body_made.tables.names
  head_known =
      keep_branches (Known r.head.bytes head_number) (known_keep r.head.bytes head_number) r.body no_level (name_known r.head T) (known_with r.head T.names)

  pub rule_own : has_rule r.head.bytes (number_rule r T).names ≡ true
  rule_own =
      let k = head_known in
      subst (λ i. has_rule r.head.bytes (with_root i body_made.at body_made.tables.names) ≡ true) k.0
      (root_own r.head.bytes body_made.at body_made.tables.names (rw k.0 k.1))

  pub rule_other : (w : List ℕ) → (r.head.bytes ≡ w → ⊥) → has_rule w (number_rule r T).names ≡ has_rule w T.names
  rule_other w d =
      let k = head_known in
      let a : has_rule w (number_rule r T).names ≡ has_rule w body_made.tables.names =
      subst (λ i. has_rule w (with_root i body_made.at body_made.tables.names) ≡ has_rule w body_made.tables.names) k.0
      (root_other w r.head.bytes body_made.at body_made.tables.names d) in
      a ∙ keep_branches (λ es. has_rule w es ≡ has_rule w T.names) (λ s es p. rule_with_name w s es ∙ p) r.body no_level (name_known r.head T) (rule_with_name w r.head T.names)

same_or_not : (a b : List ℕ) → (a ≡ b) ⊎ (a ≡ b → ⊥)
same_or_not a b = go (bytes_eq a b) refl
  where
    go : (c : Bool) → bytes_eq a b ≡ c → (a ≡ b) ⊎ (a ≡ b → ⊥)
    go true h = inl (same_true a b h)
    go false h = inr (same_false a b h)

-- after some rules a name has a rule if one of them is its, or it had one
pub ruled_sound : (w : List ℕ) (rs : List Rule) (T : Tables) → has_rule w (number_rules rs T).names ≡ true → Has w (heads_of rs) ⊎ (has_rule w T.names ≡ true)
ruled_sound w [] T h = inr h
ruled_sound w (r ∷ rs) T h =
    elim (ruled_sound w rs (number_rule r T) h) [
      | inl x ↦ inl (inr x)
      | inr y ↦ elim (same_or_not r.head.bytes w) [ inl e ↦ inl (inl e) | inr d ↦ inr (sym (rule_other r T w d) ∙ y) ]
    ]

pub ruled_kept : (w : List ℕ) (rs : List Rule) (T : Tables) → has_rule w T.names ≡ true → has_rule w (number_rules rs T).names ≡ true
ruled_kept w [] T h = h
ruled_kept w (r ∷ rs) T h =
    ruled_kept w rs (number_rule r T)
    (elim (same_or_not r.head.bytes w) [
      | inl e ↦ subst (λ x. has_rule x (number_rule r T).names ≡ true) e (rule_own r T)
      | inr d ↦ rule_other r T w d ∙ h
    ])

pub ruled_complete : (w : List ℕ) (rs : List Rule) (T : Tables) → Has w (heads_of rs) → has_rule w (number_rules rs T).names ≡ true
ruled_complete w [] T h = elim h [ ]
ruled_complete w (r ∷ rs) T (inl e) = ruled_kept w rs (number_rule r T) (subst (λ x. has_rule x (number_rule r T).names ≡ true) e (rule_own r T))
ruled_complete w (r ∷ rs) T (inr x) = ruled_complete w rs (number_rule r T) x
