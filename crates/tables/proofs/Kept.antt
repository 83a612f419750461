-- Places past the entries stay as they were.
use Rattle.std.proofs.Common.{◌≡◌, ℕ, ◌-◌, List, drop, sym, refl, ap, ◌∙◌, arith}
use Rattle.std.proofs.lemmas.List.{drop-drop}
use Rattle.tables.specs.Filling.{RestKept}
use Rattle.tables.specs.declared.filling.Filling.{Filling}

module _ {E : Type 0} {L : ℕ} where
  pub kept_none : (t : Filling E L) → RestKept t t
  kept_none t = record { grows = omega arith; rest = refl; long = refl }

  pub kept_more : (a b c : Filling E L) → RestKept a b → RestKept b c → RestKept a c
  kept_more a b c p q =
      let n = c.count in
      let on : (xs : List E) → drop n xs ≡ drop (n - b.count) (drop b.count xs) = λ xs. ap (λ k. drop k xs) (omega (arith, q.grows)) ∙ sym (drop-drop (n - b.count) b.count xs) in
      record { grows = omega (arith, p.grows, q.grows); rest = q.rest ∙ on b.table.now ∙ ap (drop (n - b.count)) p.rest ∙ sym (on a.table.now); long = q.long ∙ p.long }
