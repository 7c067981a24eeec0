-- Lists in which no name stands twice: that of functions, and those of the roles of a level.
use Rattle.std.proofs.Common.{◌≡◌, inl, inr, ℕ, ◌||◌, not, List, [], ◌∷◌, map, Bool, true, false, cond, refl, sym, ap, ◌∙◌}
use Rattle.std.specs.Prelude.{filter}
use Rattle.cocoon_num.specs.Names.{same_name}
use Rattle.cocoon_num.specs.Tree.{Name}
use Rattle.cocoon_types.specs.NameRules.{roles_again}
use Rattle.cocoon_types.specs.RuleParts.{unless_named, has_name, repeated}
use Rattle.sound_types.proofs.Members.{In}
use Rattle.sound_types.proofs.Options.{nil_left, nil_right, passes, text_self}

-- no two of these have one name
abbrev pub Differ : {A : Type 0} → (A → Name) → List A → Type 0
Differ {A} name_of xs = (a b : A) → In a xs → In b xs → (name_of a).text ≡ (name_of b).text → a ≡ b

-- none of these has the name
abbrev Lacks : {A : Type 0} → (A → Name) → List ℕ → List A → Type 0
Lacks {A} name_of x xs = (a : A) → In a xs → x ≡ (name_of a).text → ⊥

-- one more, whose name none of the others has
differ_more : {A : Type 0} (name_of : A → Name) (y : A) (xs : List A) → Lacks name_of (name_of y).text xs → Differ name_of xs → Differ name_of (y ∷ xs)
differ_more name_of y xs lacks differ a b i j e = elim i [
  | inl p ↦ elim j [
    | inl q ↦ p ∙ sym q
    | inr q ↦ absurd (lacks b q (sym (ap (λ z. (name_of z).text) p) ∙ e))
  ]
  | inr p ↦ elim j [
    | inl q ↦ absurd (lacks a p (sym (ap (λ z. (name_of z).text) q) ∙ sym e))
    | inr q ↦ differ a b p q e
  ]
]

either_true : (a b : Bool) → b ≡ true → (a || b) ≡ true
either_true true b h = refl
either_true false b h = h

first_true : (a b : Bool) → a ≡ true → (a || b) ≡ true
first_true true b h = refl
first_true false b h = absurd (cc)

has_first : (x : List ℕ) (n : Name) (ns : List Name) → x ≡ n.text → has_name x (n ∷ ns) ≡ true
has_first x n ns e = first_true (same_name x n.text) (has_name x ns) (ap (λ y. same_name y n.text) e ∙ text_self n.text)

clash : (b : Bool) → b ≡ true → not b ≡ true → ⊥
clash true e h = absurd (cc)
clash false e h = absurd (cc)

-- ---- names that stand once

repeated_lacks : {A : Type 0} (name_of : A → Name) (seen : List Name) (xs : List A) → repeated seen (map name_of xs) ≡ [] → (x : List ℕ) → has_name x seen ≡ true → Lacks name_of x xs
repeated_lacks name_of seen [] h x s a i e = absurd i
repeated_lacks name_of seen (y ∷ xs) h x s a i e = elim i [
  | inl p ↦
      clash (has_name (name_of y).text seen) (ap (λ z. has_name z seen) (sym (ap (λ z. (name_of z).text) p) ∙ sym e) ∙ s)
      (passes (not (has_name (name_of y).text seen)) (name_of y).at (nil_left (unless_named (not (has_name (name_of y).text seen)) (name_of y)) (repeated (name_of y ∷ seen) (map name_of xs)) h))
  | inr p ↦
      repeated_lacks name_of (name_of y ∷ seen) xs (nil_right (unless_named (not (has_name (name_of y).text seen)) (name_of y)) (repeated (name_of y ∷ seen) (map name_of xs)) h)
      x (either_true (same_name x (name_of y).text) (has_name x seen) s) a p e
]

pub repeated_differ : {A : Type 0} (name_of : A → Name) (seen : List Name) (xs : List A) → repeated seen (map name_of xs) ≡ [] → Differ name_of xs
repeated_differ name_of seen [] h = λ a b i j e. absurd i
repeated_differ name_of seen (y ∷ xs) h =
    let rest = nil_right (unless_named (not (has_name (name_of y).text seen)) (name_of y)) (repeated (name_of y ∷ seen) (map name_of xs)) h in
    differ_more name_of y xs (repeated_lacks name_of (name_of y ∷ seen) xs rest (name_of y).text (has_first (name_of y).text (name_of y) seen refl))
    (repeated_differ name_of (name_of y ∷ seen) xs rest)

-- ---- roles of one level

-- a list without a name
abbrev without : List ℕ → List Name → List Name
without x ns = filter (λ (n : Name). not (same_name x n.text)) ns

either_false : (a b : Bool) → (a || b) ≡ false → (a ≡ false) × (b ≡ false)
either_false true b h = absurd (cc)
either_false false b h = (refl, h)

kept_lacks : (x y : List ℕ) (n : Name) (ns : List Name) (b : Bool) → (same_name x n.text || has_name x ns) ≡ false → (has_name x ns ≡ false → has_name x (without y ns) ≡ false)
    → has_name x (cond b (n ∷ without y ns) (without y ns)) ≡ false
kept_lacks x y n ns true h f = let e = either_false (same_name x n.text) (has_name x ns) h in (λ i. e.0 i || f e.1 i)
kept_lacks x y n ns false h f = f (either_false (same_name x n.text) (has_name x ns) h).1

without_lacks : (x y : List ℕ) (ns : List Name) → has_name x ns ≡ false → has_name x (without y ns) ≡ false
without_lacks x y [] h = refl
without_lacks x y (n ∷ ns) h = kept_lacks x y n ns (not (same_name y n.text)) h (without_lacks x y ns)

kept_self : (x : List ℕ) (n : Name) (ns : List Name) (same : Bool) → same_name x n.text ≡ same → has_name x ns ≡ false → has_name x (cond (not same) (n ∷ ns) ns) ≡ false
kept_self x n ns true e h = h
kept_self x n ns false e h = (λ i. e i || h i)

without_self : (x : List ℕ) (ns : List Name) → has_name x (without x ns) ≡ false
without_self x [] = refl
without_self x (n ∷ ns) = kept_self x n (without x ns) (same_name x n.text) refl (without_self x ns)

either_clash : (a b : Bool) → a ≡ false → b ≡ true → (a || not b) ≡ true → ⊥
either_clash true b p q h = absurd (cc)
either_clash false true p q h = absurd (cc)
either_clash false false p q h = absurd (cc)

again_lacks : {A : Type 0} (name_of : A → Name) (listed before : List Name) (xs : List A) → roles_again listed before (map name_of xs) ≡ [] → (x : List ℕ) → has_name x listed ≡ false → has_name x before ≡ true
    → Lacks name_of x xs
again_lacks name_of listed before [] h x l s a i e = absurd i
again_lacks name_of listed before (y ∷ xs) h x l s a i e =
    let y' = name_of y in
    let more = roles_again (without y'.text listed) (y' ∷ before) (map name_of xs) in
    let first = unless_named (has_name y'.text listed || not (has_name y'.text before)) y' in
    elim i [
      | inl p ↦
          let same : x ≡ y'.text = e ∙ ap (λ z. (name_of z).text) p in
          either_clash (has_name y'.text listed) (has_name y'.text before) (ap (λ z. has_name z listed) (sym same) ∙ l) (ap (λ z. has_name z before) (sym same) ∙ s)
          (passes (has_name y'.text listed || not (has_name y'.text before)) y'.at (nil_left first more h))
      | inr p ↦
          again_lacks name_of (without y'.text listed) (y' ∷ before) xs (nil_right first more h) x (without_lacks x y'.text listed l) (either_true (same_name x y'.text) (has_name x before) s) a p e
    ]

pub again_differ : {A : Type 0} (name_of : A → Name) (listed before : List Name) (xs : List A) → roles_again listed before (map name_of xs) ≡ [] → Differ name_of xs
again_differ name_of listed before [] h = λ a b i j e. absurd i
again_differ name_of listed before (y ∷ xs) h =
    let y' = name_of y in
    let rest = nil_right (unless_named (has_name y'.text listed || not (has_name y'.text before)) y') (roles_again (without y'.text listed) (y' ∷ before) (map name_of xs)) h in
    differ_more name_of y xs (again_lacks name_of (without y'.text listed) (y' ∷ before) xs rest y'.text (without_self y'.text listed) (has_first y'.text y' before refl))
    (again_differ name_of (without y'.text listed) (y' ∷ before) xs rest)
