-- What a node yields: its choices and its kinds.
use Rattle.std.specs.Prelude.{◌≡◌, ℕ, suc, ◌+◌, ◌<◌, List, [], ◌∷◌, ◌++◌, length, slice_index}
use Rattle.tree.specs.declared.class.Class.TheVariants.{Empty, Token, Name, Chain, Alternative, Optional, Repetition}
use Rattle.tree.specs.declared.node.Node.{Node}
use Rattle.tree.specs.Tree.{node, children}

-- Yields ns rs n cs ks v: node n yields the choices cs and the kinds ks in v visits
mutual
  pub data Yields (ns : List Node) (rs : List ℕ) : ℕ → List ℕ → List ℕ → ℕ → Type 0 where
    empty : {n : ℕ} → (node ns n).class ≡ Empty → Yields ns rs n [] [] 1
    token : {n : ℕ} → (node ns n).class ≡ Token → Yields ns rs n [] ((node ns n).value ∷ []) 1
    name : {n v : ℕ} {cs ks : List ℕ} → (node ns n).class ≡ Name → Yields ns rs (slice_index rs (node ns n).value) cs ks v → Yields ns rs n cs ks (suc v)
    chain : {n v : ℕ} {cs ks : List ℕ} → (node ns n).class ≡ Chain → YieldsAll ns rs (children ns n) cs ks v → Yields ns rs n cs ks (suc v)
    branch : {n v : ℕ} {cs ks : List ℕ} (k : ℕ) → (node ns n).class ≡ Alternative → k < length (children ns n) → Yields ns rs (slice_index (children ns n) k) cs ks v → Yields ns rs n (k ∷ cs) ks (suc v)
    skip : {n : ℕ} → (node ns n).class ≡ Optional → Yields ns rs n (0 ∷ []) [] 1
    into : {n v : ℕ} {cs ks : List ℕ} → (node ns n).class ≡ Optional → Yields ns rs (node ns n).first cs ks v → Yields ns rs n (1 ∷ cs) ks (suc v)
    stop : {n : ℕ} → (node ns n).class ≡ Repetition → Yields ns rs n (0 ∷ []) [] 1
    again : {n v w : ℕ} {cs ks ds ls : List ℕ} → (node ns n).class ≡ Repetition → Yields ns rs (node ns n).first cs ks v → Yields ns rs n ds ls w → Yields ns rs n (1 ∷ cs ++ ds) (ks ++ ls) (suc (v + w))

  pub data YieldsAll (ns : List Node) (rs : List ℕ) : List ℕ → List ℕ → List ℕ → ℕ → Type 0 where
    done : YieldsAll ns rs [] [] [] 0
    more : {c v w : ℕ} {rest cs ks ds ls : List ℕ} → Yields ns rs c cs ks v → YieldsAll ns rs rest ds ls w → YieldsAll ns rs (c ∷ rest) (cs ++ ds) (ks ++ ls) (v + w)
