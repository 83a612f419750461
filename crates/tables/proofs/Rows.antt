-- Nodes that are joined, one after another.
use Rattle.std.proofs.Common.{◌≡◌, ℕ, ◌+◌, ◌-◌, ◌<◌, ◌≤◌, List, [], ◌∷◌, length, get_or, take, drop, set, sym, refl, ap, ◌∙◌, arith, get_or-take, length-take, get_or-drop, take-take}
use lib.Seq.{take-set-lt}
use Rattle.std.proofs.lemmas.List.{get_or_default, drop_more, drop_all}
use Rattle.notation.specs.Tables.{join, link}
use Rattle.tree.specs.Tree.{no_node, node}
use Rattle.tree.specs.declared.node.Node.{Node}

abbrev pub with_next : Node → ℕ → Node
with_next x m = record { class = x.class; value = x.value; first = x.first; next = m }

pub joined : (xs : List Node) (count n m : ℕ) (d : Node) → n < count → n < length xs → take count (set xs n (with_next (get_or xs n d) m)) ≡ join n m (take count xs)
joined xs count n m d made within =
    let same : get_or xs n d ≡ node (take count xs) n = get_or_default xs n d no_node within ∙ sym (get_or-take count xs n no_node made) in
    take-set-lt count xs n (with_next (get_or xs n d) m) made ∙ ap (λ x. set (take count xs) n (with_next x m)) same

-- a row is linked from its last node on
pub linked_last : (row : List ℕ) (ns : List Node) → ns ≡ link (drop (length row - 1) row) ns
linked_last [] ns = refl
linked_last (x ∷ xs) ns =
    let row = x ∷ xs in
    let i = length row - 1 in
    let none = drop_all (i + 1) row (omega arith) in
    ap (λ l. link l ns) (sym (drop_more row i 0 (omega arith) ∙ ap (λ l. get_or row i 0 ∷ l) none))

-- pairs of a front of the row are left, and the last of them is joined
module _ (row left : List ℕ) (front : left ≡ take (length left) row) (two : 2 ≤ length left) where
  abbrev last : List ℕ
  last = drop (length left - 2) left

  abbrev less : List ℕ
  less = take (length left - 1) left

  within : length left ≤ length row
  within = omega (arith, ap length front, length-take (length left) row)

  less_long : length less ≡ length left - 1
  less_long = omega (arith, length-take (length left - 1) left)

  pub front_less : less ≡ take (length less) row
  front_less = ap (take (length left - 1)) front ∙ take-take (length left - 1) (length left) row (omega arith) ∙ ap (λ n. take n row) (sym less_long)

  in_last : (k m : ℕ) → k < 2 → m ≡ length left - 2 + k → drop m row ≡ get_or last k 0 ∷ drop (m + 1) row
  in_last k m one at =
      let i = length left - 2 + k in
      let same : get_or last k 0 ≡ get_or row m 0 = get_or-drop (length left - 2) left k 0 ∙ ap (λ l. get_or l i 0) front ∙ get_or-take (length left) row i 0 (omega arith) ∙ ap (λ j. get_or row j 0) (sym at) in
      drop_more row m 0 (omega (arith, within)) ∙ ap (λ x. x ∷ drop (m + 1) row) (sym same)

  pub linked_more : (ns : List Node) → join (get_or last 0 0) (get_or last 1 0) (link (drop (length left - 1) row) ns) ≡ link (drop (length less - 1) row) ns
  linked_more ns =
      let first = get_or last 0 0 in
      let second = in_last 1 (length left - 1) (omega arith) (omega arith) in
      let both = in_last 0 (length less - 1) (omega arith) (omega (arith, less_long)) ∙ ap (λ k. first ∷ drop k row) (omega (arith, less_long)) ∙ ap (λ l. first ∷ l) second in
      ap (λ l. join first (get_or last 1 0) (link l ns)) second ∙ sym (ap (λ l. link l ns) both)
