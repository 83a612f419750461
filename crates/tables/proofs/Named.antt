-- Names and the roots of their rules.
use Rattle.std.proofs.Common.{◌≡◌, ℕ, zero, suc, ◌<◌, ◌≤◌, Bool, true, false, cond, not, eqb, List, [], ◌∷◌, length, get_or, take, set, Some, sym, refl, ap, ◌∙◌, arith, length-take, get_or-take}
use Rattle.std.specs.List.{find}
use Rattle.std.specs.Option.{option_map}
use lib.Seq.{take-set-lt}
use Rattle.tables.specs.Names.{with_root_of, rooted, ruled, lowest_unruled}
use Rattle.tables.specs.Filling.{entries}
use Rattle.tables.specs.declared.filling.Filling.{Filling}
use Rattle.tables.specs.declared.name.Name.{Name}

abbrev pub no_name : Name
no_name = record { place = 0; length = 0; root = 0 }

pub rooted_in : (xs : List Name) (count i r : ℕ) → i < count → i < length xs → take count (set xs i (with_root_of (get_or xs i no_name) r)) ≡ rooted i r (take count xs)
rooted_in xs count i r known within = take-set-lt count xs i _ known ∙ ap (λ x. set (take count xs) i (with_root_of x r)) (sym (get_or-take count xs i no_name known))

-- the lowest name without a rule is the first that a search finds
pub lowest_found : (ns : List Name) → option_map (λ n. n.place) (find (λ n. eqb n.root 1024) ns) ≡ lowest_unruled ns
lowest_found [] = refl
lowest_found (n ∷ ns) = go (eqb n.root 1024) (lowest_found ns)
  where
    go : (b : Bool) → option_map (λ n. n.place) (find (λ n. eqb n.root 1024) ns) ≡ lowest_unruled ns → option_map (λ n. n.place) (cond b (Some n) (find (λ n. eqb n.root 1024) ns)) ≡ cond b (Some n.place) (lowest_unruled ns)
    go true h = refl
    go false h = h

ruled_within : (ns : List Name) (i : ℕ) → i < length ns → ruled i ns ≡ not (eqb (get_or ns i no_name).root 1024)
ruled_within [] i h = absurd (omega arith)
ruled_within (n ∷ ns) zero h = refl
ruled_within (n ∷ ns) (suc i) h = ruled_within ns i (omega arith)

ruled_past : (ns : List Name) (i : ℕ) → length ns ≤ i → ruled i ns ≡ false
ruled_past [] i h = refl
ruled_past (n ∷ ns) zero h = absurd (omega arith)
ruled_past (n ∷ ns) (suc i) h = ruled_past ns i (omega arith)

-- a name that is known has a rule unless its root is 1,024
module _ {L : ℕ} (t : Filling Name L) (i : ℕ) where
  pub ruled_in : i < t.count → ruled i (entries t) ≡ not (eqb (get_or t.table.now i no_name).root 1024)
  ruled_in h = ruled_within (entries t) i (omega (arith, length-take t.count t.table.now, t.within)) ∙ ap (λ n. not (eqb n.root 1024)) (get_or-take t.count t.table.now i no_name h)

  pub ruled_out : t.count ≤ i → ruled i (entries t) ≡ false
  ruled_out h = ruled_past (entries t) i (omega (arith, length-take t.count t.table.now))
