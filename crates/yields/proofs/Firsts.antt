-- FIRST is what the yields begin with.
use Rattle.std.proofs.Common.{◌≡◌, ℕ, zero, suc, ◌+◌, ◌^◌, ◌<◌, ◌⊎◌, List, [], ◌∷◌, ◌++◌, length, get_or, sym, refl, subst, inl, inr, arith}
use lib.Bits.{bit_or}
use Rattle.tree.specs.declared.class.Class.{Class}
use Rattle.tree.specs.declared.class.Class.TheVariants.{Empty, Token, Name, Chain, Alternative, Optional, Repetition}
use Rattle.tree.specs.declared.node.Node.{Node}
use Rattle.tree.specs.Tree.{node, children}
use Rattle.yields.specs.Yield.{Yields, YieldsAll, empty, token, name, chain, branch, skip, into, stop, again, done, more}
use Rattle.yields.specs.WellFormed.{WellFormed, root_of}
use Rattle.yields.specs.Equations.{chained, joined, by_class, Solves, Least}
use Rattle.yields.specs.Marks.{Has, first, first_then}
use Rattle.yields.specs.Meaning.{Productive, ProductiveAll, Starts, Nullable, StartsAll, NullableAll}
use Rattle.yields.proofs.Kleene.{least_all, equation_fits}
use Rattle.kindset.proofs.Bits.{bit_pow_same, bit_zero}
use Rattle.yields.proofs.Sets.{has_or, or_left, or_right, has_pow, then_marks, then_left, then_right}
use Rattle.yields.proofs.Laws.{first_laws}
use Rattle.yields.proofs.Ends.{value_at, Within, within_rest, child_within, option_within, repetition_within, root_within, productive_all}

-- the set shows how the list of kinds begins: with a kind, or not at all
abbrev pub Shows : List ℕ → ℕ → Type 0
Shows [] s = Has s 127
Shows (k ∷ ks) s = (k < 127) × Has s k

shows_left : (ks : List ℕ) (a b : ℕ) → Shows ks a → Shows ks (bit_or a b)
shows_left [] a b h = or_left a b 127 h
shows_left (k ∷ ks) a b h = (h.0, or_left a b k h.1)

shows_right : (ks : List ℕ) (a b : ℕ) → Shows ks b → Shows ks (bit_or a b)
shows_right [] a b h = or_right a b 127 h
shows_right (k ∷ ks) a b h = (h.0, or_right a b k h.1)

shows_then : (ks ls : List ℕ) (a b : ℕ) → Shows ks a → Shows ls b → Shows (ks ++ ls) (first_then a b)
shows_then [] [] a b p q = then_right a b 127 p q
shows_then [] (l ∷ ls) a b p q = (q.0, then_right a b l p q.1)
shows_then (k ∷ ks) ls a b p q = (p.0, then_left a b k p.0 p.1)

shows_joined : (f : ℕ → ℕ) (ks xs : List ℕ) (k : ℕ) → k < length xs → Shows ks (f (get_or xs k 0)) → Shows ks (joined first f xs)
shows_joined f ks [] k r h = absurd (omega arith)
shows_joined f ks (x ∷ xs) zero r h = shows_left ks (f x) (joined first f xs) h
shows_joined f ks (x ∷ xs) (suc k) r h = shows_right ks (f x) (joined first f xs) (shows_joined f ks xs k (omega arith) h)

module _ (ns : List Node) (rs : List ℕ) (formed : WellFormed ns rs) (f : ℕ → ℕ) (solves : Solves first ns rs f) where
  by_value : (n : ℕ) → n < length ns → (k : Class) → (node ns n).class ≡ k → (ks : List ℕ) → Shows ks (by_class first ns rs f n k) → Shows ks (f n)
  by_value n r k e ks h = subst (Shows ks) (sym (value_at first ns rs f solves n r k e)) h

  -- of any solution, whether or not the rest of a chain yields something
  mutual
    pub yields_shows : {n v : ℕ} {cs ks : List ℕ} → Yields ns rs n cs ks v → n < length ns → Shows ks (f n)
    yields_shows (empty {n = n} e) r = by_value n r Empty e [] (bit_pow_same 127)
    yields_shows (token {n = n} e) r = by_value n r Token e ((node ns n).value ∷ []) ((formed.kinds n r e).1, bit_pow_same (node ns n).value)
    yields_shows (name {n = n} {ks = ks} e y) r = by_value n r Name e ks (yields_shows y (root_within ns rs formed n r e))
    yields_shows (chain {n = n} {ks = ks} e y) r = by_value n r Chain e ks (yields_all_shows y (child_within ns rs formed n r))
    yields_shows (branch {n = n} {ks = ks} k e q y) r = by_value n r Alternative e ks (shows_joined f ks (children ns n) k q (yields_shows y (child_within ns rs formed n r k q)))
    yields_shows (skip {n = n} e) r = by_value n r Optional e [] (or_left (2 ^ 127) (f (node ns n).first) 127 (bit_pow_same 127))
    yields_shows (into {n = n} {ks = ks} e y) r = by_value n r Optional e ks (shows_right ks (2 ^ 127) (f (node ns n).first) (yields_shows y (option_within ns rs formed n r e)))
    yields_shows (stop {n = n} e) r = by_value n r Repetition e [] (or_left (2 ^ 127) (f (node ns n).first) 127 (bit_pow_same 127))
    yields_shows (again {n = n} {ks = ks} {ls = ls} e y z) r = again_shows n ks ls r e (yields_shows y (repetition_within ns rs formed n r e)) (yields_shows z r)
      where
        again_shows : (n : ℕ) (ks ls : List ℕ) → n < length ns → (node ns n).class ≡ Repetition → Shows ks (f (node ns n).first) → Shows ls (f n) → Shows (ks ++ ls) (f n)
        again_shows n [] ls r e p q = q
        again_shows n (k ∷ ks) ls r e p q = by_value n r Repetition e (k ∷ (ks ++ ls)) (p.0, or_right (2 ^ 127) (f (node ns n).first) k p.1)

    yields_all_shows : {xs : List ℕ} {v : ℕ} {cs ks : List ℕ} → YieldsAll ns rs xs cs ks v → Within ns xs → Shows ks (chained first f xs)
    yields_all_shows done h = bit_pow_same 127
    yields_all_shows (more {c = c} {rest = rest} {ks = ks} {ls = ls} y z) h = shows_then ks ls (f c) (chained first f rest) (yields_shows y (h 0 (omega arith))) (yields_all_shows z (within_rest ns c rest h))

-- which branch has the mark
pub joined_has : (f : ℕ → ℕ) (xs : List ℕ) (m : ℕ) → Has (joined first f xs) m → (k : ℕ) × (k < length xs) × Has (f (get_or xs k 0)) m
joined_has f [] m h = let e = bit_zero m in absurd (omega arith)
joined_has f (x ∷ xs) m h = go (joined_has f xs m) (has_or (f x) (joined first f xs) m h)
  where
    go : (Has (joined first f xs) m → (k : ℕ) × (k < length xs) × Has (f (get_or xs k 0)) m) → Has (f x) m ⊎ Has (joined first f xs) m → (k : ℕ) × (k < suc (length xs)) × Has (f (get_or (x ∷ xs) k 0)) m
    go ih (inl e) = (0, omega arith, e)
    go ih (inr e) = let q = ih e in let s = q.1 in (suc q.0, omega arith, q.2)

-- what a set says of the yields of a node, and of the nodes of a list
pub record Means (ns : List Node) (rs : List ℕ) (n s : ℕ) : Type 0 where
  pub kinds : (k : ℕ) → k < 127 → Has s k → Starts ns rs n k
  pub nulls : Has s 127 → Nullable ns rs n

pub record MeansAll (ns : List Node) (rs : List ℕ) (xs : List ℕ) (s : ℕ) : Type 0 where
  pub kinds : (k : ℕ) → k < 127 → Has s k → StartsAll ns rs xs k
  pub nulls : Has s 127 → NullableAll ns rs xs

module _ (ns : List Node) (rs : List ℕ) where
  means_then : (x : ℕ) (xs : List ℕ) (a b : ℕ) → ProductiveAll ns rs xs → Means ns rs x a → MeansAll ns rs xs b → MeansAll ns rs (x ∷ xs) (first_then a b)
  means_then x xs a b rest p q = record { kinds = λ k r h. kinds k r (then_marks a b k h); nulls = λ h. nulls (then_marks a b 127 h) }
    where
      front : (k : ℕ) → Starts ns rs x k → StartsAll ns rs (x ∷ xs) k
      front k s = record { choices = s.choices ++ rest.choices; after = s.after ++ rest.kinds; visits = s.visits + rest.visits; yields = more s.yields rest.yields }

      behind : (k : ℕ) → Nullable ns rs x → StartsAll ns rs xs k → StartsAll ns rs (x ∷ xs) k
      behind k n s = record { choices = n.choices ++ s.choices; after = s.after; visits = n.visits + s.visits; yields = more n.yields s.yields }

      kinds : (k : ℕ) → k < 127 → ((Has a k × (¬ Has a 127)) ⊎ (Has a 127 × ((Has a k × (k < 127)) ⊎ Has b k))) → StartsAll ns rs (x ∷ xs) k
      kinds k r (inl h) = front k (p.kinds k r h.0)
      kinds k r (inr h) = side h.1
        where
          side : (Has a k × (k < 127)) ⊎ Has b k → StartsAll ns rs (x ∷ xs) k
          side (inl g) = front k (p.kinds k r g.0)
          side (inr g) = behind k (p.nulls h.0) (q.kinds k r g)

      nulls : ((Has a 127 × (¬ Has a 127)) ⊎ (Has a 127 × ((Has a 127 × (127 < 127)) ⊎ Has b 127))) → NullableAll ns rs (x ∷ xs)
      nulls (inl h) = absurd (h.1 h.0)
      nulls (inr h) = side h.1
        where
          side : (Has a 127 × (127 < 127)) ⊎ Has b 127 → NullableAll ns rs (x ∷ xs)
          side (inl g) = let z = g.1 in absurd (omega arith)
          side (inr g) = let n = p.nulls h.0 in let s = q.nulls g in record { choices = n.choices ++ s.choices; visits = n.visits + s.visits; yields = more n.yields s.yields }

  module _ (f : ℕ → ℕ) (known : (i : ℕ) → Means ns rs i (f i)) where
    means_chained : (xs : List ℕ) → ((k : ℕ) → k < length xs → Productive ns rs (get_or xs k 0)) → MeansAll ns rs xs (chained first f xs)
    means_chained [] h = record { kinds = λ k r g. let e = has_pow 127 k g in absurd (omega arith); nulls = λ g. record { choices = []; visits = 0; yields = done } }
    means_chained (x ∷ xs) h = means_then x xs (f x) (chained first f xs) (productive_all ns rs xs (λ k r. h (suc k) (omega arith))) (known x) (means_chained xs (λ k r. h (suc k) (omega arith)))

    empty_or : (x m : ℕ) → Has (bit_or (2 ^ 127) x) m → (m ≡ 127) ⊎ Has x m
    empty_or x m h = go (has_or (2 ^ 127) x m h)
      where
        go : Has (2 ^ 127) m ⊎ Has x m → (m ≡ 127) ⊎ Has x m
        go (inl e) = inl (has_pow 127 m e)
        go (inr e) = inr e

    module _ (n : ℕ) where
      option_starts : (node ns n).class ≡ Optional → (k : ℕ) → k < 127 → (k ≡ 127) ⊎ Has (f (node ns n).first) k → Starts ns rs n k
      option_starts e k r (inl q) = absurd (omega arith)
      option_starts e k r (inr q) = let p = (known (node ns n).first).kinds k r q in record { choices = 1 ∷ p.choices; after = p.after; visits = suc p.visits; yields = into e p.yields }

      repetition_starts : (node ns n).class ≡ Repetition → (k : ℕ) → k < 127 → (k ≡ 127) ⊎ Has (f (node ns n).first) k → Starts ns rs n k
      repetition_starts e k r (inl q) = absurd (omega arith)
      repetition_starts e k r (inr q) = let p = (known (node ns n).first).kinds k r q in record { choices = 1 ∷ (p.choices ++ (0 ∷ [])); after = p.after ++ []; visits = suc (p.visits + 1); yields = again e p.yields (stop e) }

      class_means : ((k : ℕ) → k < length (children ns n) → Productive ns rs (get_or (children ns n) k 0)) → ((node ns n).class ≡ Token → (node ns n).value < 127) → (c : Class) → (node ns n).class ≡ c → Means ns rs n (by_class first ns rs f n c)
      class_means all small Empty e = record { kinds = λ k r h. let q = has_pow 127 k h in absurd (omega arith); nulls = λ h. record { choices = []; visits = 1; yields = empty e } }
      class_means all small Token e = record {
        kinds = λ k r h. subst (Starts ns rs n) (sym (has_pow (node ns n).value k h)) (record { choices = []; after = []; visits = 1; yields = token e });
        nulls = λ h. let q = has_pow (node ns n).value 127 h in let z = small e in absurd (omega arith);
      }
      class_means all small Name e = record {
        kinds = λ k r h. let p = (known (root_of ns rs n)).kinds k r h in record { choices = p.choices; after = p.after; visits = suc p.visits; yields = name e p.yields };
        nulls = λ h. let p = (known (root_of ns rs n)).nulls h in record { choices = p.choices; visits = suc p.visits; yields = name e p.yields };
      }
      class_means all small Chain e =
          let m = means_chained (children ns n) all in
          record {
            kinds = λ k r h. let p = m.kinds k r h in record { choices = p.choices; after = p.after; visits = suc p.visits; yields = chain e p.yields };
            nulls = λ h. let p = m.nulls h in record { choices = p.choices; visits = suc p.visits; yields = chain e p.yields };
          }
      class_means all small Alternative e = record {
        kinds = λ k r h. let q = joined_has f (children ns n) k h in let p = (known (get_or (children ns n) q.0 0)).kinds k r q.2 in record { choices = q.0 ∷ p.choices; after = p.after; visits = suc p.visits; yields = branch q.0 e q.1 p.yields };
        nulls = λ h. let q = joined_has f (children ns n) 127 h in let p = (known (get_or (children ns n) q.0 0)).nulls q.2 in record { choices = q.0 ∷ p.choices; visits = suc p.visits; yields = branch q.0 e q.1 p.yields };
      }
      class_means all small Optional e = record { kinds = λ k r h. option_starts e k r (empty_or (f (node ns n).first) k h); nulls = λ h. record { choices = 0 ∷ []; visits = 1; yields = skip e } }
      class_means all small Repetition e = record { kinds = λ k r h. repetition_starts e k r (empty_or (f (node ns n).first) k h); nulls = λ h. record { choices = 0 ∷ []; visits = 1; yields = stop e } }

module _ (ns : List Node) (rs : List ℕ) (formed : WellFormed ns rs) where
  pub first_means : ((n : ℕ) → n < length ns → Productive ns rs n) → (f : ℕ → ℕ) → Least first ns rs f → (n : ℕ) → n < length ns → Means ns rs n (f n)
  first_means productive f least = least_all first first_laws ns rs formed (Means ns rs) (λ n. record { kinds = λ k r h. let e = bit_zero k in absurd (omega arith); nulls = λ h. let e = bit_zero 127 in absurd (omega arith) }) (λ g fits known n r. class_means ns rs g known n (λ k q. productive (get_or (children ns n) k 0) (child_within ns rs formed n r k q)) (λ e. (formed.kinds n r e).1) (node ns n).class refl) f least

  -- Has (FIRST n) k exactly if a yield of n begins with k, and the empty mark exactly if n can be empty
  pub starts_first : (f : ℕ → ℕ) → Solves first ns rs f → (n k : ℕ) → n < length ns → Starts ns rs n k → (k < 127) × Has (f n) k
  starts_first f solves n k r s = yields_shows ns rs formed f solves s.yields r

  pub nullable_first : (f : ℕ → ℕ) → Solves first ns rs f → (n : ℕ) → n < length ns → Nullable ns rs n → Has (f n) 127
  nullable_first f solves n r s = yields_shows ns rs formed f solves s.yields r

module _ (ns : List Node) (rs : List ℕ) (formed : WellFormed ns rs) where
  pub first_fits : (f : ℕ → ℕ) → Least first ns rs f → (n : ℕ) → n < length ns → f n < 2 ^ 128
  first_fits f least = least_all first first_laws ns rs formed (λ n s. s < 2 ^ 128) (λ n. first_laws.fits_nothing) (λ g fits known n r. equation_fits first first_laws ns rs formed fits n r) f least

-- the empty mark is exact, whatever else yields nothing
module _ (ns : List Node) (rs : List ℕ) where
  module _ (f : ℕ → ℕ) (known : (i : ℕ) → Has (f i) 127 → Nullable ns rs i) where
    nulls_chained : (xs : List ℕ) → Has (chained first f xs) 127 → NullableAll ns rs xs
    nulls_chained [] h = record { choices = []; visits = 0; yields = done }
    nulls_chained (x ∷ xs) h = go (nulls_chained xs) (then_marks (f x) (chained first f xs) 127 h)
      where
        go : (Has (chained first f xs) 127 → NullableAll ns rs xs) → ((Has (f x) 127 × (¬ Has (f x) 127)) ⊎ (Has (f x) 127 × ((Has (f x) 127 × (127 < 127)) ⊎ Has (chained first f xs) 127))) → NullableAll ns rs (x ∷ xs)
        go ih (inl p) = absurd (p.1 p.0)
        go ih (inr p) = side p.1
          where
            side : (Has (f x) 127 × (127 < 127)) ⊎ Has (chained first f xs) 127 → NullableAll ns rs (x ∷ xs)
            side (inl q) = let z = q.1 in absurd (omega arith)
            side (inr q) = let a = known x p.0 in let b = ih q in record { choices = a.choices ++ b.choices; visits = a.visits + b.visits; yields = more a.yields b.yields }

    class_nulls : (n : ℕ) → ((node ns n).class ≡ Token → (node ns n).value < 127) → (c : Class) → (node ns n).class ≡ c → Has (by_class first ns rs f n c) 127 → Nullable ns rs n
    class_nulls n small Empty e h = record { choices = []; visits = 1; yields = empty e }
    class_nulls n small Token e h = let q = has_pow (node ns n).value 127 h in let z = small e in absurd (omega arith)
    class_nulls n small Name e h = let p = known (root_of ns rs n) h in record { choices = p.choices; visits = suc p.visits; yields = name e p.yields }
    class_nulls n small Chain e h = let p = nulls_chained (children ns n) h in record { choices = p.choices; visits = suc p.visits; yields = chain e p.yields }
    class_nulls n small Alternative e h = let q = joined_has f (children ns n) 127 h in let p = known (get_or (children ns n) q.0 0) q.2 in record { choices = q.0 ∷ p.choices; visits = suc p.visits; yields = branch q.0 e q.1 p.yields }
    class_nulls n small Optional e h = record { choices = 0 ∷ []; visits = 1; yields = skip e }
    class_nulls n small Repetition e h = record { choices = 0 ∷ []; visits = 1; yields = stop e }

  pub first_nulls : WellFormed ns rs → (f : ℕ → ℕ) → Least first ns rs f → (n : ℕ) → n < length ns → Has (f n) 127 → Nullable ns rs n
  first_nulls formed f least = least_all first first_laws ns rs formed (λ n s. Has s 127 → Nullable ns rs n) (λ n h. let e = bit_zero 127 in absurd (omega arith)) (λ g fits known n r h. class_nulls g known n (λ e. (formed.kinds n r e).1) (node ns n).class refl h) f least
