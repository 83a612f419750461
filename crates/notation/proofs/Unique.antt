-- A token list is spelled by one syntax at most.
use Rattle.std.proofs.Common.{◌≡◌, ℕ, List, [], ◌∷◌, sym, refl, ap, ◌∙◌, subst, arith}
use Rattle.notation.specs.Tokens.{round, square, curly, Token}
use Rattle.notation.specs.Standing.{Shape, ready, Stands, heads, becomes, names, spells, parts, opens, closes, stops, Stood, stand?}
use Rattle.notation.proofs.Rest.{Rest, spell_rest, build, spell_build, First, none_left, one_left, first}

pub stand_yes : {sh : Shape} {t : Token} {to : Shape} (v : Stands sh t to) → stand? sh t ≡ yes (to, v)
stand_yes heads = refl
stand_yes becomes = refl
stand_yes names = refl
stand_yes spells = refl
stand_yes parts = refl
stand_yes opens = refl
stand_yes (closes {b = round}) = refl
stand_yes (closes {b = square}) = refl
stand_yes (closes {b = curly}) = refl
stand_yes stops = refl

pub one_way : {sh : Shape} {t : Token} {to to' : Shape} (v : Stands sh t to) (v' : Stands sh t to') → ◌≡◌ {A = Stood sh t} (to, v) (to', v')
one_way {sh} {t} {to} {to'} v v' =
    let p : ◌≡◌ {A = Dec (Stood sh t)} (yes (to, v)) (yes (to', v')) = sym (stand_yes v) ∙ stand_yes v' in cc

module _ (xs : List Token) (ih : (sh : Shape) (k k' : Rest sh) → spell_rest sh k ≡ xs → spell_rest sh k' ≡ xs → k ≡ k') where
  same_way : {sh : Shape} {t : Token} (p q : Stood sh t) → p ≡ q → (a : Rest p.0) (b : Rest q.0) → spell_rest p.0 a ≡ xs → spell_rest q.0 b ≡ xs → build p.1 a ≡ build q.1 b
  same_way {sh} {t} p q e a =
      subst (λ (w : Stood sh t). (b : Rest w.0) → spell_rest p.0 a ≡ xs → spell_rest w.0 b ≡ xs → build p.1 a ≡ build w.1 b) e
      (λ b g h. ap (build p.1) (ih p.0 a b g h))

  same_token : {sh : Shape} {t t' : Token} → t ≡ t' → {to to' : Shape} (v : Stands sh t to) (v' : Stands sh t' to') (a : Rest to) (b : Rest to') → spell_rest to a ≡ xs → spell_rest to' b ≡ xs → build v a ≡ build v' b
  same_token {sh} {t} e {to} {to'} v v' a b g h =
      subst (λ (u : Token). (w : Stands sh u to') → build v a ≡ build w b) e (λ w. same_way (to, v) (to', w) (one_way v w) a b g h) v'

  both : {sh : Shape} {k k' : Rest sh} (x : Token) → First sh k → First sh k' → spell_rest sh k ≡ x ∷ xs → spell_rest sh k' ≡ x ∷ xs → k ≡ k'
  both x none_left f g h = let z : ◌≡◌ {A = ℕ} 0 1 = cc in absurd (omega arith)
  both x (one_left {t = t} {to = to} v a p) none_left g h = let z : ◌≡◌ {A = ℕ} 0 1 = cc in absurd (omega arith)
  both {sh} {k} {k'} x (one_left {t = t} {to = to} v a p) (one_left {t = t'} {to = to'} v' b q) g h =
      let g' : t ∷ spell_rest to a ≡ x ∷ xs = sym (spell_build v a) ∙ ap (spell_rest sh) p ∙ g in
      let h' : t' ∷ spell_rest to' b ≡ x ∷ xs = sym (spell_build v' b) ∙ ap (spell_rest sh) q ∙ h in
      sym p ∙ same_token (cc) v v' a b (cc) (cc) ∙ q

empty_rest : {sh : Shape} {k k' : Rest sh} → First sh k → First sh k' → spell_rest sh k ≡ [] → spell_rest sh k' ≡ [] → k ≡ k'
empty_rest none_left none_left g h = refl
empty_rest none_left (one_left v b q) g h = let e = sym (spell_build v b) ∙ ap (spell_rest ready) q ∙ h in let z : ◌≡◌ {A = ℕ} 0 1 = cc in absurd (omega arith)
empty_rest {sh} (one_left v a p) f g h = let e = sym (spell_build v a) ∙ ap (spell_rest sh) p ∙ g in let z : ◌≡◌ {A = ℕ} 0 1 = cc in absurd (omega arith)

pub unique : (ts : List Token) (sh : Shape) (k k' : Rest sh) → spell_rest sh k ≡ ts → spell_rest sh k' ≡ ts → k ≡ k'
unique [] sh k k' g h = empty_rest (first sh k) (first sh k') g h
unique (x ∷ xs) sh k k' g h = both xs (λ sh' a b. unique xs sh' a b) x (first sh k) (first sh k') g h
