-- What a table of stored kinds means: its tokens up to the first number that is no kind.
use Rattle.std.specs.Prelude.{◌≡◌, ℕ, ◌+◌, ◌<◌, Bool, false, cond, ◌&&◌, List, [], ◌∷◌, length, nat_le, slice_index, slice_index_or}
use Rattle.std.specs.List.{AllByRecursion}
use Rattle.std.proofs.lemmas.Bool.{cond_both, and_parts, leb-true}
use Rattle.scanning.specs.Scan.{KindFits}
use Rattle.token.specs.declared.token.Ending.{Ending}
use Rattle.token.specs.declared.token.Ending.TheVariants.{End, Fault}
use Rattle.token.specs.declared.token.FaultCode.TheVariants.{OutOfRange}
use Rattle.token.specs.declared.token.Token.{Token}

abbrev pub is_kind : ℕ → Bool
is_kind k = nat_le 1 k && nat_le k 122

-- a stored kind's place is its index, and its length is 1
abbrev pub stored : ℕ → ℕ → Token
stored k i = record { kind = k; place = i; length = 1 }

abbrev pub out_of_range : ℕ → Ending
out_of_range i = Fault (record { code = OutOfRange; place = i })

-- from index i on, with these numbers left
abbrev pub listed : ℕ → List ℕ → List Token
listed i [] = []
listed i (k ∷ ks) = cond (is_kind k) (stored k i ∷ listed (i + 1) ks) []

abbrev pub listed_ending : ℕ → List ℕ → Ending
listed_ending i [] = End i
listed_ending i (k ∷ ks) = cond (is_kind k) (listed_ending (i + 1) ks) (out_of_range i)

-- the end is told at the table's length with every number read, and else the first number that is no kind
abbrev pub ListEnds : List ℕ → List Token → Ending → Type 0
ListEnds ks ts (End p) = (p ≡ length ks) × (length ts ≡ length ks)
ListEnds ks ts (Fault f) = (f.code ≡ OutOfRange) × (f.place ≡ length ts) × (f.place < length ks) × (is_kind (slice_index ks f.place) ≡ false)

-- the tokens are the table's first numbers one by one, all of them kinds, and the ending fits
pub record WellListed (ks : List ℕ) (ts : List Token) (e : Ending) : Type 0 where
  pub each : (i : ℕ) → i < length ts → slice_index_or ts i (stored 0 0) ≡ stored (slice_index ks i) i
  pub kinds : AllByRecursion KindFits ts
  pub ends : ListEnds ks ts e

-- the law of kinds, for the list source
pub listed_kinds : (i : ℕ) (ks : List ℕ) → AllByRecursion KindFits (listed i ks)
listed_kinds i [] = tt
listed_kinds i (k ∷ ks) =
    cond_both (is_kind k) (stored k i ∷ listed (i + 1) ks) [] (AllByRecursion KindFits)
    (λ e. let h = and_parts (nat_le 1 k) (nat_le k 122) e in ((leb-true 1 k h.0, leb-true k 122 h.1), listed_kinds (i + 1) ks))
    (λ e. tt)
