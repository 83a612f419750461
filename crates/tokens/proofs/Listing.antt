-- A table of kinds, number by number.
use Rattle.std.proofs.Common.{◌≡◌, ℕ, zero, suc, ◌+◌, ◌<◌, Bool, true, false, cond, List, [], ◌∷◌, length, get_or, drop, Ok, refl, subst, arith, drop-drop}
use Rattle.std.proofs.lemmas.Bool.{cond_both}
use Rattle.tokens.specs.Listed.{is_kind, stored, out_of_range, listed, listed_ending, listed_kinds, ListEnds, WellListed}
use Rattle.tokens.specs.Sources.{looked, left}
use Rattle.token.specs.declared.token.Ending.{Ending}
use Rattle.token.specs.declared.token.Ending.TheVariants as ending_is
use Rattle.token.specs.declared.token.FaultCode.TheVariants.{OutOfRange}
use Rattle.token.specs.declared.token.Next.TheVariants.{Token}
use Rattle.token.specs.declared.token.Token.{Token as TokenOf}

-- after a token the table goes on
module _ (i : ℕ) (t : TokenOf) where
  abbrev GoesOn : List TokenOf → Ending → List ℕ → Type 0
  GoesOn ts e ns = (listed (i + 1) ns ≡ left ts) × (listed_ending (i + 1) ns ≡ e)

  goes_on : (ns : List ℕ) → looked (listed i ns) (listed_ending i ns) ≡ Ok (Token t) → GoesOn (listed i ns) (listed_ending i ns) (drop 1 ns)
  goes_on [] h = absurd cc
  goes_on (k ∷ ns) h = go (is_kind k) h
    where
      go : (b : Bool) → looked (cond b (stored k i ∷ listed (i + 1) ns) []) (cond b (listed_ending (i + 1) ns) (out_of_range i)) ≡ Ok (Token t) → GoesOn (cond b (stored k i ∷ listed (i + 1) ns) []) (cond b (listed_ending (i + 1) ns) (out_of_range i)) ns
      go true h = (refl, refl)
      go false h = absurd cc

  pub steps_on : (ks : List ℕ) → looked (listed i (drop i ks)) (listed_ending i (drop i ks)) ≡ Ok (Token t) → GoesOn (listed i (drop i ks)) (listed_ending i (drop i ks)) (drop (i + 1) ks)
  steps_on ks h = subst (GoesOn (listed i (drop i ks)) (listed_ending i (drop i ks))) (drop-drop 1 i ks) (goes_on (drop i ks) h)

-- the law of the list source, from an index on
abbrev EndsFrom : ℕ → List ℕ → List TokenOf → Ending → Type 0
EndsFrom i ks ts (ending_is.End p) = (p ≡ i + length ks) × (length ts ≡ length ks)
EndsFrom i ks ts (ending_is.Fault f) = (f.code ≡ OutOfRange) × (f.place ≡ i + length ts) × (length ts < length ks) × (is_kind (get_or ks (length ts) 0) ≡ false)

abbrev EachFrom : ℕ → List ℕ → List TokenOf → Type 0
EachFrom i ks ts = (j : ℕ) → j < length ts → get_or ts j (stored 0 0) ≡ stored (get_or ks j 0) (i + j)

each_more : (i k : ℕ) (ks : List ℕ) (ts : List TokenOf) → EachFrom (i + 1) ks ts → EachFrom i (k ∷ ks) (stored k i ∷ ts)
each_more i k ks ts h zero l = grind arith
each_more i k ks ts h (suc j) l = grind (arith, h j)

each_from : (i : ℕ) (ks : List ℕ) → EachFrom i ks (listed i ks)
each_from i [] = λ j h. absurd (omega arith)
each_from i (k ∷ ks) =
    cond_both (is_kind k) (stored k i ∷ listed (i + 1) ks) [] (EachFrom i (k ∷ ks)) (λ e. each_more i k ks (listed (i + 1) ks) (each_from (i + 1) ks)) (λ e j h. absurd (omega arith))

ends_more : (i k : ℕ) (ks : List ℕ) (ts : List TokenOf) (e : Ending) → EndsFrom (i + 1) ks ts e → EndsFrom i (k ∷ ks) (stored k i ∷ ts) e
ends_more i k ks ts (ending_is.End p) h = grind arith
ends_more i k ks ts (ending_is.Fault f) h = grind arith

ends_from : (i : ℕ) (ks : List ℕ) → EndsFrom i ks (listed i ks) (listed_ending i ks)
ends_from i [] = (omega arith, refl)
ends_from i (k ∷ ks) = go (is_kind k) refl (ends_more i k ks (listed (i + 1) ks) (listed_ending (i + 1) ks) (ends_from (i + 1) ks))
  where
    go : (b : Bool) → is_kind k ≡ b → EndsFrom i (k ∷ ks) (stored k i ∷ listed (i + 1) ks) (listed_ending (i + 1) ks) → EndsFrom i (k ∷ ks) (cond b (stored k i ∷ listed (i + 1) ks) []) (cond b (listed_ending (i + 1) ks) (out_of_range i))
    go true e h = h
    go false e h = (refl, omega arith, omega arith, e)

whole : (ks : List ℕ) (ts : List TokenOf) (e : Ending) → EndsFrom 0 ks ts e → ListEnds ks ts e
whole ks ts (ending_is.End p) h = grind arith
whole ks ts (ending_is.Fault f) h = grind arith

pub well_listed : (ks : List ℕ) → WellListed ks (listed 0 ks) (listed_ending 0 ks)
well_listed ks = record {
  each = λ i h. grind (arith, each_from 0 ks i h);
  kinds = listed_kinds 0 ks;
  ends = whole ks (listed 0 ks) (listed_ending 0 ks) (ends_from 0 ks);
}
