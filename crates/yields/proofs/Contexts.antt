-- What can come right after a node is in its FOLLOW.
use Rattle.std.proofs.Common.{◌≡◌, ℕ, zero, suc, ◌+◌, ◌^◌, ◌<◌, ◌⊎◌, List, [], ◌∷◌, ◌++◌, length, get_or, sym, refl, ap, ◌∙◌, subst, inl, inr, append_assoc, append-nil, arith}
use Rattle.tree.specs.declared.class.Class.TheVariants.{Chain, Repetition}
use Rattle.tree.specs.declared.node.Node.{Node}
use Rattle.tree.specs.Tree.{node, children}
use Rattle.yields.specs.Yield as Y
use Rattle.yields.specs.Yield.{Yields, YieldsAll, done, more}
use Rattle.yields.specs.WellFormed.{WellFormed, root_of, start_root}
use Rattle.yields.specs.Equations.{Solves}
use Rattle.yields.specs.Marks.{Has, first}
use Rattle.yields.specs.Follow.{Next, Last, Rests, Direct, Follow, here, there, only, further}
use Rattle.yields.specs.Context.{mark_of, Comes, Sentence, Met, After}
use Rattle.yields.proofs.Sets.{has_or, has_pow, without_has}
use Rattle.yields.proofs.Ends.{value_at, Within, within_rest, child_within, option_within, repetition_within, root_within}
use Rattle.yields.proofs.Firsts.{Shows, yields_shows}

pub within_cons : (ns : List Node) (x : ℕ) (xs : List ℕ) → x < length ns → Within ns xs → Within ns (x ∷ xs)
within_cons ns x xs r h zero q = r
within_cons ns x xs r h (suc k) q = h k (omega arith)

pub within_append : (ns : List Node) (xs ys : List ℕ) → Within ns xs → Within ns ys → Within ns (xs ++ ys)
within_append ns [] ys p q = q
within_append ns (x ∷ xs) ys p q = within_cons ns x (xs ++ ys) (p 0 (omega arith)) (within_append ns xs ys (within_rest ns x xs p) q)

none_yields : {ns : List Node} {rs cs ks : List ℕ} {v : ℕ} → YieldsAll ns rs [] cs ks v → ks ≡ []
none_yields done = refl

module _ (ns : List Node) (rs : List ℕ) (formed : WellFormed ns rs) (f : ℕ → ℕ) (solves : Solves first ns rs f) where
  -- whatever the pile yields, its mark is in the FOLLOW of x
  abbrev Hands : ℕ → List ℕ → Type 0
  Hands x pile = (cs ks : List ℕ) (v : ℕ) → YieldsAll ns rs pile cs ks v → Follow ns rs f x (mark_of ks)

  -- and so for each node of a pile and those below it
  abbrev Fine : List ℕ → Type 0
  Fine [] = Unit {0}
  Fine (x ∷ pile) = Hands x pile × Fine pile

  -- a chain's child c, with its next sibling d
  beside_kinds : {n c d : ℕ} → n < length ns → (node ns n).class ≡ Chain → Next (children ns n) c d → (ks ls : List ℕ) → Shows ks (f d) → Follow ns rs f d (mark_of ls) → Follow ns rs f c (mark_of (ks ++ ls))
  beside_kinds r e next [] ls s h = Follow.through (Rests.sibling r e next s) h
  beside_kinds {d = d} r e next (k ∷ ks) ls s h = Follow.direct (Direct.sibling r e next (without_has (f d) k s.0 s.1))

  beside : {n c d : ℕ} → n < length ns → (node ns n).class ≡ Chain → Next (children ns n) c d → d < length ns → (pile : List ℕ) → Hands d pile → Hands c (d ∷ pile)
  beside {n} {c} {d} r e next within pile h cs ks v y = go y h within next
    where
      go : {d v : ℕ} {pile cs ks : List ℕ} → YieldsAll ns rs (d ∷ pile) cs ks v → Hands d pile → d < length ns → Next (children ns n) c d → Follow ns rs f c (mark_of ks)
      go (more {ks = ks} {ls = ls} y z) h within next = beside_kinds r e next ks ls (yields_shows ns rs formed f solves y within) (h _ _ _ z)

  -- xs is an end of the children of n
  record End (n : ℕ) (xs : List ℕ) : Type 0 where
    next : (c d : ℕ) → Next xs c d → Next (children ns n) c d
    last : (c : ℕ) → Last xs c → Last (children ns n) c

  chain_fine : (n : ℕ) → n < length ns → (node ns n).class ≡ Chain → (xs : List ℕ) → End n xs → (pile : List ℕ) → Hands n pile → Fine pile → Within ns xs → Fine (xs ++ pile)
  chain_fine n r e [] end pile h fine within = fine
  chain_fine n r e (x ∷ []) end pile h fine within = (λ cs ks v y. Follow.through (Rests.last r e (end.last x only)) (h cs ks v y), fine)
  chain_fine n r e (x ∷ d ∷ xs) end pile h fine within =
      let ih = chain_fine n r e (d ∷ xs) (record { next = λ a b q. end.next a b (there q); last = λ a q. end.last a (further q) }) pile h fine (within_rest ns x (d ∷ xs) within) in
      (beside r e (end.next x d here) (within 1 (omega arith)) (xs ++ pile) ih.0, ih)

  -- the inside of a repetition n, with n below it
  inside_kinds : (n : ℕ) → n < length ns → (node ns n).class ≡ Repetition → (ks ls : List ℕ) → Shows ks (f n) → Follow ns rs f n (mark_of ls) → Follow ns rs f (node ns n).first (mark_of (ks ++ ls))
  inside_kinds n r e [] ls s h = Follow.through (Rests.round r e) h
  inside_kinds n r e (k ∷ ks) ls s h = Follow.direct (Direct.round r e (without_has (f (node ns n).first) k s.0 (go (has_or (2 ^ 127) (f (node ns n).first) k (subst (λ u. Has u k) (value_at first ns rs f solves n r Repetition e) s.1)))))
    where
      go : Has (2 ^ 127) k ⊎ Has (f (node ns n).first) k → Has (f (node ns n).first) k
      go (inl q) = let z = has_pow 127 k q in let y = s.0 in absurd (omega arith)
      go (inr q) = q

  inside_hands : (n : ℕ) → n < length ns → (node ns n).class ≡ Repetition → (pile : List ℕ) → Hands n pile → Hands (node ns n).first (n ∷ pile)
  inside_hands n r e pile h cs ks v y = go y r e h
    where
      go : {n v : ℕ} {pile cs ks : List ℕ} → YieldsAll ns rs (n ∷ pile) cs ks v → n < length ns → (node ns n).class ≡ Repetition → Hands n pile → Follow ns rs f (node ns n).first (mark_of ks)
      go (more {c = n} {ks = ks} {ls = ls} y z) r e h = inside_kinds n r e ks ls (yields_shows ns rs formed f solves y r) (h _ _ _ z)

  comes_fine : {ks pile : List ℕ} → Comes ns rs ks pile → Within ns pile × Fine pile
  comes_fine Comes.start = (within_cons ns (start_root rs) [] (formed.roots 0 formed.started) (λ k q. absurd (omega arith)), (λ cs ks v y. subst (λ u. Follow ns rs f (start_root rs) (mark_of u)) (sym (none_yields y)) (Follow.direct Direct.end), tt))
  comes_fine (Comes.name {n = n} {pile = pile} e c) =
      let h = comes_fine c in
      let r = h.0 0 (omega arith) in
      (within_cons ns (root_of ns rs n) pile (root_within ns rs formed n r e) (within_rest ns n pile h.0), (λ cs ks v y. Follow.through (Rests.root r e) (h.1.0 cs ks v y), h.1.1))
  comes_fine (Comes.chain {n = n} {pile = pile} e c) =
      let h = comes_fine c in
      let r = h.0 0 (omega arith) in
      (within_append ns (children ns n) pile (child_within ns rs formed n r) (within_rest ns n pile h.0), chain_fine n r e (children ns n) (record { next = λ a b q. q; last = λ a q. q }) pile h.1.0 h.1.1 (child_within ns rs formed n r))
  comes_fine (Comes.branch {n = n} {pile = pile} k e q c) =
      let h = comes_fine c in
      let r = h.0 0 (omega arith) in
      (within_cons ns (get_or (children ns n) k 0) pile (child_within ns rs formed n r k q) (within_rest ns n pile h.0), (λ cs ks v y. Follow.through (Rests.branch k r e q) (h.1.0 cs ks v y), h.1.1))
  comes_fine (Comes.option {n = n} {pile = pile} e c) =
      let h = comes_fine c in
      let r = h.0 0 (omega arith) in
      (within_cons ns (node ns n).first pile (option_within ns rs formed n r e) (within_rest ns n pile h.0), (λ cs ks v y. Follow.through (Rests.option r e) (h.1.0 cs ks v y), h.1.1))
  comes_fine (Comes.round {n = n} {pile = pile} e c) =
      let h = comes_fine c in
      let r = h.0 0 (omega arith) in
      (within_cons ns (node ns n).first (n ∷ pile) (repetition_within ns rs formed n r e) h.0, (inside_hands n r e pile h.1.0, h.1))
  comes_fine (Comes.past {n = n} {pile = pile} y c) =
      let h = comes_fine c in
      (within_rest ns n pile h.0, h.1.1)

  pub comes_within : {ks pile : List ℕ} → Comes ns rs ks pile → Within ns pile
  comes_within c = (comes_fine c).0

  -- what can come right after n is in its FOLLOW
  pub after_follow : (n m : ℕ) → After ns rs n m → Follow ns rs f n m
  after_follow n m a = subst (Follow ns rs f n) a.mark ((comes_fine a.met.comes).1.0 _ _ _ a.met.rest)

-- what the nodes of xs and then those of ys yield, in two parts
record Parts (ns : List Node) (rs xs ys ks : List ℕ) : Type 0 where
  cs₁ : List ℕ
  ks₁ : List ℕ
  v₁ : ℕ
  front : YieldsAll ns rs xs cs₁ ks₁ v₁
  cs₂ : List ℕ
  ks₂ : List ℕ
  v₂ : ℕ
  back : YieldsAll ns rs ys cs₂ ks₂ v₂
  is : ks₁ ++ ks₂ ≡ ks

module _ (ns : List Node) (rs : List ℕ) where
  parts : (xs : List ℕ) {ys cs ks : List ℕ} {v : ℕ} → YieldsAll ns rs (xs ++ ys) cs ks v → Parts ns rs xs ys ks
  parts [] {cs = cs} {ks} {v} y = record { cs₁ = []; ks₁ = []; v₁ = 0; front = done; cs₂ = cs; ks₂ = ks; v₂ = v; back = y; is = refl }
  parts (x ∷ xs) (more {v = v} {cs = cs} {ks = ks} y z) =
      let p = parts xs z in
      record { cs₁ = cs ++ p.cs₁; ks₁ = ks ++ p.ks₁; v₁ = v + p.v₁; front = more y p.front; cs₂ = p.cs₂; ks₂ = p.ks₂; v₂ = p.v₂; back = p.back; is = append_assoc ks p.ks₁ p.ks₂ ∙ ap (λ u. ks ++ u) p.is }

  -- n, and the nodes of a pile, yield the kinds ks
  record Makes (n : ℕ) (ks : List ℕ) : Type 0 where
    choices : List ℕ
    visits : ℕ
    yields : Yields ns rs n choices ks visits

  record MakesAll (pile ks : List ℕ) : Type 0 where
    choices : List ℕ
    visits : ℕ
    yields : YieldsAll ns rs pile choices ks visits

  -- the top m of a pile put for n, which yields what m does
  top : {n m v : ℕ} {pile cs ks : List ℕ} → ((cs ks : List ℕ) (v : ℕ) → Yields ns rs m cs ks v → Makes n ks) → YieldsAll ns rs (m ∷ pile) cs ks v → MakesAll (n ∷ pile) ks
  top h (more {v = v} {w = w} {cs = cs} {ks = ks} {ds = ds} y z) = let p = h cs ks v y in record { choices = p.choices ++ ds; visits = p.visits + w; yields = more p.yields z }

  put : {n v : ℕ} {pile cs ks ls : List ℕ} → Makes n ks → YieldsAll ns rs pile cs ls v → MakesAll (n ∷ pile) (ks ++ ls)
  put {v = v} {cs = cs} p z = record { choices = p.choices ++ cs; visits = p.visits + v; yields = more p.yields z }

  round_top : {n m v : ℕ} {pile cs ks : List ℕ} → (node ns n).class ≡ Repetition → m ≡ (node ns n).first → YieldsAll ns rs (m ∷ n ∷ pile) cs ks v → MakesAll (n ∷ pile) ks
  round_top {n} e is (more {v = v₁} {cs = cs₁} {ks = ks₁} y (more {v = v₂} {cs = cs₂} {ks = ks₂} {ls = ls} x z)) =
      subst (MakesAll _) (append_assoc ks₁ ks₂ ls) (put (record { choices = 1 ∷ (cs₁ ++ cs₂); visits = suc (v₁ + v₂); yields = Y.again e (subst (λ u. Yields ns rs u cs₁ ks₁ v₁) is y) x }) z)

  start_makes : {m v : ℕ} {cs ks : List ℕ} → YieldsAll ns rs (m ∷ []) cs ks v → Makes m ks
  start_makes (more {c = c} {v = v} {cs = cs} {ks = ks} y done) = record { choices = cs; visits = v; yields = subst (λ u. Yields ns rs c cs u v) (sym (append-nil ks)) y }

  pub comes_sentence : {ks pile : List ℕ} → Comes ns rs ks pile → (cs ls : List ℕ) (v : ℕ) → YieldsAll ns rs pile cs ls v → Sentence ns rs (ks ++ ls)
  comes_sentence Comes.start cs ls v y = let p = start_makes y in record { choices = p.choices; visits = p.visits; yields = p.yields }
  comes_sentence (Comes.name {n = n} {pile = pile} e c) cs ls v y =
      let p = top {n = n} (λ cs ks v x. record { choices = cs; visits = suc v; yields = Y.name e x }) y in comes_sentence c p.choices ls p.visits p.yields
  comes_sentence (Comes.chain {n = n} {ks = ks} {pile = pile} e c) cs ls v y =
      let p = parts (children ns n) y in
      let q = put {n = n} (record { choices = p.cs₁; visits = suc p.v₁; yields = Y.chain e p.front }) p.back in
      subst (λ u. Sentence ns rs (ks ++ u)) p.is (comes_sentence c q.choices (p.ks₁ ++ p.ks₂) q.visits q.yields)
  comes_sentence (Comes.branch {n = n} {pile = pile} k e q c) cs ls v y =
      let p = top {n = n} (λ cs ks v x. record { choices = k ∷ cs; visits = suc v; yields = Y.branch k e q x }) y in comes_sentence c p.choices ls p.visits p.yields
  comes_sentence (Comes.option {n = n} {pile = pile} e c) cs ls v y =
      let p = top {n = n} (λ cs ks v x. record { choices = 1 ∷ cs; visits = suc v; yields = Y.into e x }) y in comes_sentence c p.choices ls p.visits p.yields
  comes_sentence (Comes.round {n = n} {pile = pile} e c) cs ls v y =
      let p = round_top {n = n} e refl y in comes_sentence c p.choices ls p.visits p.yields
  comes_sentence (Comes.past {n = n} {v = v₁} {ks = ks} {pile = pile} {cs = cs₁} {ls = ms} x c) cs ls v y =
      let q = put {n = n} (record { choices = cs₁; visits = v₁; yields = x }) y in
      subst (Sentence ns rs) (sym (append_assoc ks ms ls)) (comes_sentence c q.choices (ms ++ ls) q.visits q.yields)

  -- what is met stands in a sentence
  pub met_sentence : {n v : ℕ} {before after cs ks : List ℕ} → Met ns rs n before after → Yields ns rs n cs ks v → Sentence ns rs (before ++ (ks ++ after))
  met_sentence {n} {v} {cs = cs} {ks = ks} m y =
      let q = put {n = n} (record { choices = cs; visits = v; yields = y }) m.rest in
      comes_sentence m.comes q.choices _ q.visits q.yields
