-- FOLLOW as sets: what a program that fills them by steps needs.
use Rattle.std.proofs.Common.{ℕ, suc, ◌<◌, List, length, subst, arith}
use Rattle.tree.specs.declared.node.Node.{Node}
use Rattle.yields.specs.Marks.{Has}
use Rattle.yields.specs.WellFormed.{WellFormed}
use Rattle.yields.specs.Follow.{Rests, RestsFar, Direct, Follow, Needed, Fed, HoldsFollow}
use Rattle.tree.specs.Tree.{node}
use Rattle.yields.proofs.Sets.{has_without}
use Rattle.yields.proofs.Ends.{child_within, option_within, repetition_within, root_within}
use Rattle.yields.proofs.Follows.{next_at, last_at}

module _ (ns : List Node) (rs : List ℕ) (f : ℕ → ℕ) where
  -- sets that are fed hold all of FOLLOW
  pub fed_holds : (g : ℕ → ℕ) → Fed ns rs f g → {x m : ℕ} → Needed ns rs f x → Follow ns rs f x m → Has (g x) m
  fed_holds g fed need (Follow.direct d) = fed.has need d
  fed_holds g fed need (Follow.through {m = m} r h) = fed.flows need r m (fed_holds g fed (Needed.through need r) h)

  -- and no more, where nothing else was put in
  pub holds_follow : (g : ℕ → ℕ) → Fed ns rs f g → ((x m : ℕ) → Has (g x) m → Follow ns rs f x m) → HoldsFollow ns rs f g
  holds_follow g fed sound = record { at = λ need m. (sound _ m, fed_holds g fed need) }

  pub far_follow : {x y m : ℕ} → RestsFar ns rs f x y → Follow ns rs f y m → Follow ns rs f x m
  far_follow (RestsFar.near r) h = Follow.through r h
  far_follow (RestsFar.far r q) h = Follow.through r (far_follow q h)

  -- nodes that rest on one another have one FOLLOW
  pub ring_follow : (x y m : ℕ) → RestsFar ns rs f x y → RestsFar ns rs f y x → (Follow ns rs f x m → Follow ns rs f y m) × (Follow ns rs f y m → Follow ns rs f x m)
  ring_follow x y m p q = (far_follow q, far_follow p)

  -- both stand in the table
  pub rests_within : WellFormed ns rs → {x y : ℕ} → Rests ns rs f x y → (x < length ns) × (y < length ns)
  rests_within formed (Rests.root {n = n} r e) = (root_within ns rs formed n r e, r)
  rests_within formed (Rests.last {n = n} r e last) = let q = last_at last in let q₁ = q.1 in (subst (λ u. u < length ns) q.2 (child_within ns rs formed n r q.0 (omega arith)), r)
  rests_within formed (Rests.branch {n = n} k r e q) = (child_within ns rs formed n r k q, r)
  rests_within formed (Rests.option {n = n} r e) = (option_within ns rs formed n r e, r)
  rests_within formed (Rests.round {n = n} r e) = (repetition_within ns rs formed n r e, r)
  rests_within formed (Rests.sibling {n = n} r e next has) =
      let q = next_at next in
      let q₁ = q.1 in
      (subst (λ u. u < length ns) q.2 (child_within ns rs formed n r q.0 (omega arith)), subst (λ u. u < length ns) q.3 (child_within ns rs formed n r (suc q.0) q₁))

  direct_within : WellFormed ns rs → {x m : ℕ} → Direct ns rs f x m → (x < length ns) × (m < 127)
  direct_within formed Direct.end = (formed.roots 0 formed.started, omega arith)
  direct_within formed (Direct.sibling {n = n} {d = d} {m = m} r e next has) =
      let q = next_at next in
      let q₁ = q.1 in
      (subst (λ u. u < length ns) q.2 (child_within ns rs formed n r q.0 (omega arith)), (has_without (f d) m has).0)
  direct_within formed (Direct.round {n = n} {m = m} r e has) = (repetition_within ns rs formed n r e, (has_without (f (node ns n).first) m has).0)

  -- FOLLOW is of nodes of the table, and has the end mark and kinds
  pub follow_within : WellFormed ns rs → {x m : ℕ} → Follow ns rs f x m → (x < length ns) × (m < 127)
  follow_within formed (Follow.direct d) = direct_within formed d
  follow_within formed (Follow.through r h) = ((rests_within formed r).0, (follow_within formed h).1)

  pub needed_within : WellFormed ns rs → {x : ℕ} → Needed ns rs f x → x < length ns
  needed_within formed (Needed.option r e) = r
  needed_within formed (Needed.repetition r e) = r
  needed_within formed (Needed.alternative r e h) = r
  needed_within formed (Needed.through n r) = (rests_within formed r).1
