-- Replacing entries by their equations' values, from nothing everywhere, rises to the least solution.
use Rattle.std.proofs.Common.{◌≡◌, ℕ, zero, suc, ◌+◌, ◌*◌, ◌<◌, ◌≤◌, ◌≢◌, List, [], ◌∷◌, length, get_or, set, replicate, sym, refl, ap, ◌∙◌, subst, suc-mul, add_comm, zero-mul, arith, length-set, get_or-set_other, get_or-set_same}
use native.Mathlib.Decide.{ℕ_discrete, dec_lt}
use lib.ListN.{length-replicate, get_or-replicate, get_or-eq_default}
use lib.Seq.{set-get_or}
use Rattle.tree.specs.declared.class.Class.{Class}
use Rattle.tree.specs.declared.class.Class.TheVariants.{Empty, Token, Name, Chain, Alternative, Optional, Repetition}
use Rattle.tree.specs.declared.node.Node.{Node}
use Rattle.tree.specs.Tree.{node, children}
use Rattle.yields.specs.WellFormed.{WellFormed}
use Rattle.yields.specs.Weighing.{Weighing, Laws, Below}
use Rattle.yields.specs.Equations.{chained, joined, by_class, equation, Solves, Closed, Least, entry, heights, Rising, Reached, start, replace, sweep, rounds}

module _ {V : Type 0} (w : Weighing V) (laws : Laws w) where
  pub below_refl : (x : V) → Below w x x
  below_refl x = laws.either_self x

  pub below_trans : {x y z : V} → Below w x y → Below w y z → Below w x z
  below_trans {x} {y} {z} p q = ap (w.either x) (sym q) ∙ sym (laws.either_assoc x y z) ∙ ap (λ u. w.either u z) p ∙ q

  pub below_antisym : {x y : V} → Below w x y → Below w y x → x ≡ y
  below_antisym {x} {y} p q = sym q ∙ laws.either_comm y x ∙ p

  pub below_nothing : (x : V) → Below w w.nothing x
  below_nothing x = laws.either_nothing x

  pub below_both : {x y z : V} → Below w x z → Below w y z → Below w (w.either x y) z
  below_both {x} {y} {z} p q = laws.either_assoc x y z ∙ ap (w.either x) q ∙ p

  pub below_left : (x y : V) → Below w x (w.either x y)
  below_left x y = sym (laws.either_assoc x x y) ∙ ap (λ u. w.either u y) (laws.either_self x)

  pub below_right : (x y : V) → Below w y (w.either x y)
  below_right x y = subst (Below w y) (laws.either_comm y x) (below_left y x)

  pub either_rises : {a b c d : V} → Below w a c → Below w b d → Below w (w.either a b) (w.either c d)
  either_rises {a} {b} {c} {d} p q = below_both (below_trans p (below_left c d)) (below_trans q (below_right c d))

  -- the equations rise with the values
  pub record Under (f g : ℕ → V) : Type 0 where
    pub fits : (i : ℕ) → w.Fits (f i)
    pub at : (i : ℕ) → Below w (f i) (g i)

  pub chained_rises : {f g : ℕ → V} → Under f g → (cs : List ℕ) → Below w (chained w f cs) (chained w g cs)
  chained_rises u [] = below_refl w.empty
  chained_rises u (c ∷ cs) = laws.then_rises (u.fits c) (u.at c) (chained_rises u cs)

  pub joined_rises : {f g : ℕ → V} → Under f g → (cs : List ℕ) → Below w (joined w f cs) (joined w g cs)
  joined_rises u [] = below_refl w.nothing
  joined_rises u (c ∷ cs) = either_rises (u.at c) (joined_rises u cs)

  pub chained_fits : {f : ℕ → V} → ((i : ℕ) → w.Fits (f i)) → (cs : List ℕ) → w.Fits (chained w f cs)
  chained_fits h [] = laws.fits_empty
  chained_fits h (c ∷ cs) = laws.fits_then (h c) (chained_fits h cs)

  pub joined_fits : {f : ℕ → V} → ((i : ℕ) → w.Fits (f i)) → (cs : List ℕ) → w.Fits (joined w f cs)
  joined_fits h [] = laws.fits_nothing
  joined_fits h (c ∷ cs) = laws.fits_either (h c) (joined_fits h cs)

  module _ (ns : List Node) (rs : List ℕ) where
    by_class_rises : {f g : ℕ → V} → Under f g → (n : ℕ) (k : Class) → Below w (by_class w ns rs f n k) (by_class w ns rs g n k)
    by_class_rises u n Empty = below_refl w.empty
    by_class_rises u n Token = below_refl (w.kind (node ns n).value)
    by_class_rises u n Name = u.at (get_or rs (node ns n).value 0)
    by_class_rises u n Chain = chained_rises u (children ns n)
    by_class_rises u n Alternative = joined_rises u (children ns n)
    by_class_rises u n Optional = either_rises (below_refl w.empty) (u.at (node ns n).first)
    by_class_rises u n Repetition = either_rises (below_refl w.empty) (u.at (node ns n).first)

    pub equation_rises : {f g : ℕ → V} → Under f g → (n : ℕ) → Below w (equation w ns rs f n) (equation w ns rs g n)
    equation_rises u n = by_class_rises u n (node ns n).class

  module _ (ns : List Node) (rs : List ℕ) (formed : WellFormed ns rs) where
    by_class_fits : {f : ℕ → V} → ((i : ℕ) → w.Fits (f i)) → (n : ℕ) → n < length ns → (k : Class) → (node ns n).class ≡ k → w.Fits (by_class w ns rs f n k)
    by_class_fits h n r Empty e = laws.fits_empty
    by_class_fits h n r Token e = laws.fits_kind (node ns n).value (formed.kinds n r e).0 (formed.kinds n r e).1
    by_class_fits h n r Name e = h (get_or rs (node ns n).value 0)
    by_class_fits h n r Chain e = chained_fits h (children ns n)
    by_class_fits h n r Alternative e = joined_fits h (children ns n)
    by_class_fits h n r Optional e = laws.fits_either laws.fits_empty (h (node ns n).first)
    by_class_fits h n r Repetition e = laws.fits_either laws.fits_empty (h (node ns n).first)

    pub equation_fits : {f : ℕ → V} → ((i : ℕ) → w.Fits (f i)) → (n : ℕ) → n < length ns → w.Fits (equation w ns rs f n)
    equation_fits h n r = by_class_fits h n r (node ns n).class refl

    -- below f at each node is below f everywhere, for a table: past its end it has nothing
    entry_under : (table : List V) (g : ℕ → V) → length table ≡ length ns → ((i : ℕ) → w.Fits (entry w table i)) → ((n : ℕ) → n < length ns → Below w (entry w table n) (g n)) → Under (entry w table) g
    entry_under table g long fits h = record { fits = fits; at = λ i. go i (dec_lt i (length ns)) }
      where
        go : (i : ℕ) → Dec (i < length ns) → Below w (entry w table i) (g i)
        go i (yes r) = h i r
        go i (no r) = subst (λ u. Below w u (g i)) (sym (get_or-eq_default table w.nothing (omega arith))) (below_nothing (g i))

    entry_start : (i : ℕ) → entry w (replicate (length ns) w.nothing) i ≡ w.nothing
    entry_start i = go (dec_lt i (length ns))
      where
        go : Dec (i < length ns) → entry w (replicate (length ns) w.nothing) i ≡ w.nothing
        go (yes r) = get_or-replicate (length ns) i w.nothing w.nothing r
        go (no r) = get_or-eq_default (replicate (length ns) w.nothing) w.nothing (omega (arith, length-replicate (length ns) w.nothing))

    pub rising_start : Rising w ns rs (replicate (length ns) w.nothing)
    rising_start = record {
      long = length-replicate (length ns) w.nothing;
      fits = λ i. subst w.Fits (sym (entry_start i)) laws.fits_nothing;
      rises = λ n r. subst (λ u. Below w u (equation w ns rs (entry w (replicate (length ns) w.nothing)) n)) (sym (entry_start n)) (below_nothing _);
      under = λ g s n r. subst (λ u. Below w u (g n)) (sym (entry_start n)) (below_nothing (g n));
    }

    module _ (table : List V) (rising : Rising w ns rs table) (n : ℕ) (r : n < length ns) where
      replaced : List V
      replaced = set table n (equation w ns rs (entry w table) n)

      -- either it is the place replaced, or the table has it still
      at_place : (P : ℕ → V → Type 0) → P n (equation w ns rs (entry w table) n) → ((i : ℕ) → i ≢ n → P i (entry w table i)) → (i : ℕ) → P i (entry w replaced i)
      unfolding replaced
      at_place P here there i = go (ℕ_discrete i n)
        where
          go : Dec (i ≡ n) → P i (entry w replaced i)
          go (yes e) = subst (λ j. P j (entry w replaced j)) (sym e) (subst (P n) (sym (get_or-set_same table n _ w.nothing (omega (arith, rising.long)))) here)
          go (no d) = subst (P i) (sym (get_or-set_other table n i _ w.nothing d)) (there i d)

      grown : Under (entry w table) (entry w replaced)
      grown = record { fits = rising.fits; at = at_place (λ i x. Below w (entry w table i) x) (rising.rises n r) (λ i d. below_refl _) }

      pub rising_replace : Rising w ns rs (set table n (equation w ns rs (entry w table) n))
      unfolding replaced
      rising_replace = record {
        long = length-set table n _ ∙ rising.long;
        fits = at_place (λ i x. w.Fits x) (equation_fits rising.fits n r) (λ i d. rising.fits i);
        rises = λ i q. at_place (λ j x. j < length ns → Below w x (equation w ns rs (entry w replaced) j)) (λ q. equation_rises ns rs grown n) (λ j d q. below_trans (rising.rises j q) (equation_rises ns rs grown j)) i q;
        under = λ g s i q. at_place (λ j x. j < length ns → Below w x (g j)) (λ q. below_trans (equation_rises ns rs (entry_under table g rising.long rising.fits (rising.under g s)) n) (s.at n r)) (λ j d q. rising.under g s j q) i q;
      }

    -- whatever was replaced, in any order
    pub rising_reached : (table : List V) → Reached w ns rs table → Rising w ns rs table
    rising_reached table start = rising_start
    rising_reached table (replace {table = t} n r h) = rising_replace t (rising_reached t h) n r

    -- where no replacement changes anything, the table is the least solution
    pub stable_least : (table : List V) → Rising w ns rs table → ((n : ℕ) → n < length ns → equation w ns rs (entry w table) n ≡ entry w table n) → Least w ns rs (entry w table)
    stable_least table rising stable = record { solves = record { at = stable }; least = rising.under }

    -- what holds of nothing and goes over to an equation's value holds of each table reached
    pub reached_all : (P : ℕ → V → Type 0) → ((n : ℕ) → P n w.nothing) → ((f : ℕ → V) → ((i : ℕ) → w.Fits (f i)) → ((i : ℕ) → P i (f i)) → (n : ℕ) → n < length ns → P n (equation w ns rs f n)) → (table : List V) → Reached w ns rs table → (i : ℕ) → P i (entry w table i)
    unfolding replaced
    reached_all P none step table start i = subst (P i) (sym (entry_start i)) (none i)
    reached_all P none step table (replace {table = t} n r h) i = at_place t (rising_reached t h) n r P (step (entry w t) (rising_reached t h).fits (reached_all P none step t h) n r) (λ j d. reached_all P none step t h j) i

  -- each change lowers the heights
  pub heights_set : (t : List V) (n : ℕ) (v : V) → n < length t → heights w (set t n v) + w.height (entry w t n) ≡ heights w t + w.height v
  heights_set [] n v r = absurd (omega arith)
  heights_set (x ∷ t) zero v r = omega arith
  heights_set (x ∷ t) (suc n) v r = let ih = heights_set t n v (omega arith) in omega arith

  -- what the rounds can come to
  pub heights_start : (k : ℕ) (v : V) → heights w (replicate k v) ≡ k * w.height v
  heights_start zero v = sym (zero-mul (w.height v))
  heights_start (suc k) v = ap (λ u. w.height v + u) (heights_start k v) ∙ add_comm (w.height v) (k * w.height v) ∙ sym (suc-mul k (w.height v))

  pub heights_falls : (t : List V) (n : ℕ) (v : V) → n < length t → w.Fits v → Below w (entry w t n) v → ¬ (entry w t n ≡ v) → heights w (set t n v) < heights w t
  heights_falls t n v r fits below other = let e = heights_set t n v r in let h = laws.height_falls fits below other in omega arith

  module _ (ns : List Node) (rs : List ℕ) (formed : WellFormed ns rs) where
    pub replace_falls : (t : List V) → Rising w ns rs t → (n : ℕ) → n < length ns → ¬ (equation w ns rs (entry w t) n ≡ entry w t n) → heights w (set t n (equation w ns rs (entry w t) n)) < heights w t
    replace_falls t rising n r other = heights_falls t n _ (omega (arith, rising.long)) (equation_fits ns rs formed rising.fits n r) (rising.rises n r) (λ e. other (sym e))

    replace_same : (t : List V) (n : ℕ) → equation w ns rs (entry w t) n ≡ entry w t n → set t n (equation w ns rs (entry w t) n) ≡ t
    replace_same t n e = ap (set t n) e ∙ set-get_or t n w.nothing

    pub sweep_rising : (t : List V) → Rising w ns rs t → (k : ℕ) → k ≤ length ns → Rising w ns rs (sweep w ns rs t k)
    sweep_rising t rising zero h = rising
    sweep_rising t rising (suc k) h = rising_replace ns rs formed _ (sweep_rising t rising k (omega arith)) k (omega arith)

    pub sweep_reached : (t : List V) → Reached w ns rs t → (k : ℕ) → k ≤ length ns → Reached w ns rs (sweep w ns rs t k)
    sweep_reached t reached zero h = reached
    sweep_reached t reached (suc k) h = replace k (omega arith) (sweep_reached t reached k (omega arith))

    sweep_same : (t : List V) → ((n : ℕ) → n < length ns → equation w ns rs (entry w t) n ≡ entry w t n) → (k : ℕ) → k ≤ length ns → sweep w ns rs t k ≡ t
    sweep_same t stable zero h = refl
    sweep_same t stable (suc k) h = ap (λ u. set u k (equation w ns rs (entry w u) k)) (sweep_same t stable k (omega arith)) ∙ replace_same t k (stable k (omega arith))

    -- a sweep up to k changes nothing, or lowers the heights
    data Swept (t : List V) (k : ℕ) (s : List V) : Type 0 where
      still : s ≡ t → ((n : ℕ) → n < k → equation w ns rs (entry w t) n ≡ entry w t n) → Swept t k s
      fell : heights w s < heights w t → Swept t k s

    sweep_falls : (t : List V) → Rising w ns rs t → (k : ℕ) → k ≤ length ns → Swept t k (sweep w ns rs t k)
    sweep_falls t rising zero h = still refl (λ n r. absurd (omega arith))
    sweep_falls t rising (suc k) h = go (sweep_falls t rising k (omega arith)) (laws.same (equation w ns rs (entry w s) k) (entry w s k))
      where
        s : List V
        s = sweep w ns rs t k

        go : Swept t k s → Dec (equation w ns rs (entry w s) k ≡ entry w s k) → Swept t (suc k) (set s k (equation w ns rs (entry w s) k))
        go (still e all) (yes d) = still (replace_same s k d ∙ e) (more (subst (λ u. equation w ns rs (entry w u) k ≡ entry w u k) e d) all)
          where
            more : equation w ns rs (entry w t) k ≡ entry w t k → ((n : ℕ) → n < k → equation w ns rs (entry w t) n ≡ entry w t n) → (n : ℕ) → n < suc k → equation w ns rs (entry w t) n ≡ entry w t n
            more last all n r = at (ℕ_discrete n k)
              where
                at : Dec (n ≡ k) → equation w ns rs (entry w t) n ≡ entry w t n
                at (yes q) = subst (λ u. equation w ns rs (entry w t) u ≡ entry w t u) (sym q) last
                at (no q) = all n (omega arith)
        go (still e all) (no d) = fell (subst (λ u. heights w (set s k (equation w ns rs (entry w s) k)) < heights w u) e (replace_falls s (sweep_rising t rising k (omega arith)) k (omega arith) d))
        go (fell f) (yes d) = fell (subst (λ u. heights w u < heights w t) (sym (replace_same s k d)) f)
        go (fell f) (no d) = let q = replace_falls s (sweep_rising t rising k (omega arith)) k (omega arith) d in fell (omega arith)

    pub rounds_reached : (k : ℕ) → Reached w ns rs (rounds w ns rs k)
    rounds_reached zero = start
    rounds_reached (suc k) = sweep_reached (rounds w ns rs k) (rounds_reached k) (length ns) (omega arith)

    pub rounds_rising : (k : ℕ) → Rising w ns rs (rounds w ns rs k)
    rounds_rising k = rising_reached ns rs formed (rounds w ns rs k) (rounds_reached k)

    -- after k rounds the table is stable, or its heights have fallen by k
    data Settled (k : ℕ) (t : List V) : Type 0 where
      settled : ((n : ℕ) → n < length ns → equation w ns rs (entry w t) n ≡ entry w t n) → Settled k t
      falling : heights w t + k ≤ heights w (rounds w ns rs 0) → Settled k t

    rounds_settled : (k : ℕ) → Settled k (rounds w ns rs k)
    rounds_settled zero = falling (omega arith)
    rounds_settled (suc k) = go (rounds_settled k) (sweep_falls t (rounds_rising k) (length ns) (omega arith))
      where
        t : List V
        t = rounds w ns rs k

        go : Settled k t → Swept t (length ns) (sweep w ns rs t (length ns)) → Settled (suc k) (sweep w ns rs t (length ns))
        go a (still e all) = settled (subst (λ u. (n : ℕ) → n < length ns → equation w ns rs (entry w u) n ≡ entry w u n) (sym e) all)
        go (settled all) (fell f) = let e = ap (heights w) (sweep_same t all (length ns) (omega arith)) in absurd (omega arith)
        go (falling h) (fell f) = falling (omega arith)

    -- as many rounds as the heights come to are enough
    pub rounds_least : Least w ns rs (entry w (rounds w ns rs (heights w (rounds w ns rs 0))))
    rounds_least = stable_least ns rs formed t (rounds_rising h) (go (rounds_settled h) (sweep_falls t (rounds_rising h) (length ns) (omega arith)))
      where
        h : ℕ
        h = heights w (rounds w ns rs 0)

        t : List V
        t = rounds w ns rs h

        go : Settled h t → Swept t (length ns) (sweep w ns rs t (length ns)) → (n : ℕ) → n < length ns → equation w ns rs (entry w t) n ≡ entry w t n
        go (settled all) s = all
        go (falling f) (still e all) = all
        go (falling f) (fell g) = absurd (omega arith)

    solves_closed : {f : ℕ → V} → Solves w ns rs f → Closed w ns rs f
    solves_closed {f} s = record { at = λ n r. subst (λ u. Below w u (f n)) (sym (s.at n r)) (below_refl (f n)) }

    -- there is one least solution
    pub least_same : {f g : ℕ → V} → Least w ns rs f → Least w ns rs g → (n : ℕ) → n < length ns → f n ≡ g n
    least_same {f} {g} a b n r = below_antisym (a.least g (solves_closed b.solves) n r) (b.least f (solves_closed a.solves) n r)

    -- what holds of nothing and goes over to an equation's value holds of the least solution
    pub least_all : (P : ℕ → V → Type 0) → ((n : ℕ) → P n w.nothing) → ((f : ℕ → V) → ((i : ℕ) → w.Fits (f i)) → ((i : ℕ) → P i (f i)) → (n : ℕ) → n < length ns → P n (equation w ns rs f n)) → (f : ℕ → V) → Least w ns rs f → (n : ℕ) → n < length ns → P n (f n)
    least_all P none step f least n r = subst (P n) (least_same rounds_least least n r) (reached_all ns rs formed P none step (rounds w ns rs (heights w (rounds w ns rs 0))) (rounds_reached (heights w (rounds w ns rs 0))) n)

    -- a table that was reached, in any order, and that no replacement changes
    pub reached_least : (table : List V) → Reached w ns rs table → ((n : ℕ) → n < length ns → equation w ns rs (entry w table) n ≡ entry w table n) → Least w ns rs (entry w table)
    reached_least table reached stable = stable_least ns rs formed table (rising_reached ns rs formed table reached) stable
