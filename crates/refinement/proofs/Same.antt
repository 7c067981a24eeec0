-- What an expression gives beside another run: the same where no choice that differs occurs in its value.
use Rattle.std.proofs.Common.{◌≡◌, ℕ, List, [], ◌∷◌, ◌++◌, ◌||◌, Bool, true, false, Option, Some, None, option_map, option_and_then, refl, sym, ap, subst, ◌∙◌}
use Rattle.std.specs.List.{list_any}
use Rattle.std.proofs.lemmas.List.Folds.{list_any-append}
use Rattle.cocoon_num.specs.Packets.{Packet}
use Rattle.cocoon_num.specs.Tree.{Expr, name, field, lit, true_or_false, call, unary, binary, slice, pick, Exprs, no_exprs, expr}
use Rattle.cocoon_num.specs.Values.{apply_binary, apply_pick, apply_slice, apply_unary, as_number, number, truth, Value, with_all, with_both}
use Rattle.cocoon_types.specs.Parts.{list_of, parts, parts_of}
use Rattle.cocoon_types.specs.ReadBack.{all_replaced, field_value, is_choice_at, occurs, Path, replaced, var_value}
use Rattle.cocoon_types.specs.Val.{Context, Env, numbers, value, variable}
use Rattle.refinement.proofs.Beside.{Both, field_by, PacketBy, Pairs, var_by, VarsBy}

-- no choice that passes a test occurs in the value
abbrev pub IsClear : (ℕ → Bool) → Expr → Type 0
IsClear f e = (c : ℕ) → f c ≡ true → occurs c e ≡ false

-- nor in one of some expressions'
abbrev pub AllClear : (ℕ → Bool) → List Expr → Type 0
AllClear f [] = Unit {0}
AllClear f (e ∷ es) = IsClear f e × AllClear f es

-- the two are the same where the value is clear, and where it is a choice, the first is the number of that
abbrev pub Held : (ℕ → Bool) → (ℕ → ℕ) → Pairs
Held f s e v u = (IsClear f e → v ≡ u) × ((c : ℕ) → is_choice_at c e ≡ true → as_number v ≡ Some (s c))

-- ---- occurrences in parts

none_left : (a b : Bool) → (a || b) ≡ false → a ≡ false
none_left true b h = h
none_left false b h = refl

none_right : (a b : Bool) → (a || b) ≡ false → b ≡ false
none_right true b h = absurd (cc)
none_right false b h = h

front : (g : Expr → Bool) (xs ys : List Expr) → list_any g (xs ++ ys) ≡ false → list_any g xs ≡ false
front g xs ys h = none_left (list_any g xs) (list_any g ys) (sym (list_any-append g xs ys) ∙ h)

back : (g : Expr → Bool) (xs ys : List Expr) → list_any g (xs ++ ys) ≡ false → list_any g ys ≡ false
back g xs ys h = none_right (list_any g xs) (list_any g ys) (sym (list_any-append g xs ys) ∙ h)

-- none of some parts is such a choice
abbrev pub NoneOf : (ℕ → Bool) → List Expr → Type 0
NoneOf f es = (c : ℕ) → f c ≡ true → list_any (is_choice_at c) es ≡ false

both_same : (P : Value → Value → Type 0) (x y : Option Value) → ((v u : Value) → P v u → v ≡ u) → Both P x y → x ≡ y
both_same P None None f h = refl
both_same P None (Some u) f h = absurd h
both_same P (Some v) None f h = absurd h
both_same P (Some v) (Some u) f h = ap Some (f v u h)

module _ (f : ℕ → Bool) (s : ℕ → ℕ) (c : Context) (p : Path) (env es : Env) (packet other : Packet) (vars : VarsBy (Held f s) p.vars env es) (fields : PacketBy (Held f s) c.headers p.fields packet other) where
  mutual
    pub same_value : (e : Expr) → NoneOf f (parts (replaced p e)) → value c env packet e ≡ value c es other e
    same_value (name at x) h =
        both_same (Held f s (var_value p.vars at x)) (variable env x) (variable es x) (λ v u r. r.0 h) (var_by (Held f s) p.vars env es at x vars)
    same_value (field at h g) k =
        both_same (Held f s (field_value p.fields h g)) (value c env packet (field at h g)) (value c es other (field at h g)) (λ v u r. r.0 k) (field_by (Held f s) c.headers p.fields packet other h g fields)
    same_value (lit at w n) h = refl
    same_value (true_or_false at b) h = refl
    same_value (call at g es) h = ap (option_and_then (c.apply g.text)) (same_numbers es (λ k q. h k q))
    same_value (unary at op a) h = ap (option_and_then (apply_unary op)) (same_value a (λ k q. h k q))
    same_value (binary at op a b) h =
        let l = same_value a (λ k q. front (is_choice_at k) (parts (replaced p a)) (parts (replaced p b)) (h k q)) in
        let r = same_value b (λ k q. back (is_choice_at k) (parts (replaced p a)) (parts (replaced p b)) (h k q)) in
        (λ i. with_both (apply_binary op) (l i) (r i))
    same_value (slice at a high low) h = ap (option_and_then (λ v. apply_slice v high low)) (same_value a (λ k q. h k q))
    same_value (pick at x a b) h =
        let first : NoneOf f (parts (replaced p x) ++ parts (replaced p a)) = λ k q. front (is_choice_at k) (parts (replaced p x) ++ parts (replaced p a)) (parts (replaced p b)) (h k q) in
        let t = same_value x (λ k q. front (is_choice_at k) (parts (replaced p x)) (parts (replaced p a)) (first k q)) in
        let l = same_value a (λ k q. back (is_choice_at k) (parts (replaced p x)) (parts (replaced p a)) (first k q)) in
        let r = same_value b (λ k q. back (is_choice_at k) (parts (replaced p x) ++ parts (replaced p a)) (parts (replaced p b)) (h k q)) in
        (λ i. with_all apply_pick (t i) (l i) (r i))

    pub same_numbers : (xs : Exprs) → NoneOf f (parts_of (all_replaced p xs)) → numbers c env packet xs ≡ numbers c es other xs
    same_numbers no_exprs h = refl
    same_numbers (expr e xs) h =
        let l = same_value e (λ k q. front (is_choice_at k) (parts (replaced p e)) (parts_of (all_replaced p xs)) (h k q)) in
        let r = same_numbers xs (λ k q. back (is_choice_at k) (parts (replaced p e)) (parts_of (all_replaced p xs)) (h k q)) in
        (λ i. with_both (λ n ns. Some (n ∷ ns)) (option_and_then as_number (l i)) (r i))

  held_left : (P : Value → Value → Type 0) (x y : Option Value) (v : Value) → x ≡ Some v → Both P x y → (u : Value) × P v u
  held_left P None y v h k = absurd (cc)
  held_left P (Some w) None v h k = absurd k
  held_left P (Some w) (Some u) v h k = let e : w ≡ v = cc in (u, subst (λ z. P z u) e k)

  -- a value that is a choice is the number of that choice
  pub choice_value : (e : Expr) (v : Value) → value c env packet e ≡ Some v → (k : ℕ) → is_choice_at k (replaced p e) ≡ true → as_number v ≡ Some (s k)
  choice_value (name at x) v h k q =
      let t = held_left (Held f s (var_value p.vars at x)) (variable env x) (variable es x) v h (var_by (Held f s) p.vars env es at x vars) in t.1.1 k q
  choice_value (field at a g) v h k q =
      let t = held_left (Held f s (field_value p.fields a g)) (value c env packet (field at a g)) (value c es other (field at a g)) v h (field_by (Held f s) c.headers p.fields packet other a g fields) in t.1.1 k q
  choice_value (lit at w n) v h k q = absurd (cc)
  choice_value (true_or_false at b) v h k q = absurd (cc)
  choice_value (call at g es) v h k q = absurd (cc)
  choice_value (unary at op a) v h k q = absurd (cc)
  choice_value (binary at op a b) v h k q = absurd (cc)
  choice_value (slice at a high low) v h k q = absurd (cc)
  choice_value (pick at x a b) v h k q = absurd (cc)

  -- what is said of two values of an expression that are there
  pub held_value : (e : Expr) (v u : Value) → value c env packet e ≡ Some v → value c es other e ≡ Some u → Held f s (replaced p e) v u
  held_value e v u h k = (
    λ clear. let both : Some v ≡ Some u = sym h ∙ same_value e clear ∙ k in cc,
    choice_value e v h,
  )
