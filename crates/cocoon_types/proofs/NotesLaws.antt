-- What is held after faults were noted, one by one and list after list.
use Rattle.std.proofs.Common.{◌≡◌, ◌||◌, Bool, true, false, Option, Some, None, refl, sym, ap, subst, ◌∙◌, inl, inr}
use Rattle.std.specs.Prelude.{IsFalse}
use Rattle.std.proofs.lemmas.Bool.{or_cases, or_left, or_right, both_ways, false_from_ne_true}
use Rattle.cocoon_types.specs.FirstFault.{Fault, comes_before}
use Rattle.cocoon_types.specs.Noting.{same_fault, is_held, Covers, Notes, FirstOf, NotingLaws}
use Rattle.cocoon_types.proofs.FaultOrder.{not_before_itself, not_before_trans, not_before_back, same_is, is_same}

-- ---- what is held

held_one : (f g : Fault) → ◌≡◌ {A = Option Fault} (Some f) (Some g) → f ≡ g
held_one f g h = cc

nothing : {A : Type 0} (f : Fault) → ◌≡◌ {A = Option Fault} None (Some f) → A
nothing f h = absurd (cc)

covers_itself : (a : Option Fault) (f : Fault) → a ≡ Some f → Covers a f
covers_itself a f h = subst (λ b. Covers b f) (sym h) (not_before_itself f)

covers_more : (a : Option Fault) (f g : Fault) → comes_before f g ≡ false → Covers a g → Covers a f
covers_more None f g h c = c
covers_more (Some a) f g h c = not_before_trans f g a h c

-- what is held in the end covers all that what was held between covers
covers_on : (b c : Option Fault) (f : Fault) → ((g : Fault) → b ≡ Some g → Covers c g) → Covers b f → Covers c f
covers_on None c f h k = absurd k
covers_on (Some g) c f h k = covers_more c f g k (h g refl)

-- ---- one fault

pub note_first : (f : Fault) → Notes (same_fault f) None (Some f)
note_first f = record {
  held = λ g h. inr (subst (λ x. same_fault f x ≡ true) (held_one f g h) (is_same f));
  covers = λ g h. elim h [ inl n ↦ nothing g n | inr s ↦ subst (λ x. comes_before x f ≡ false) (same_is f g s) (not_before_itself f) ];
}

pub note_earlier : (f g : Fault) → comes_before f g ≡ true → Notes (same_fault f) (Some g) (Some f)
note_earlier f g b = record {
  held = λ x h. inr (subst (λ y. same_fault f y ≡ true) (held_one f x h) (is_same f));
  covers = λ x h. elim h [
    | inl n ↦ subst (λ y. comes_before y f ≡ false) (held_one g x n) (not_before_back f g b)
    | inr s ↦ subst (λ y. comes_before y f ≡ false) (same_is f x s) (not_before_itself f)
  ];
}

pub note_later : (f g : Fault) → comes_before f g ≡ false → Notes (same_fault f) (Some g) (Some g)
note_later f g b = record {
  held = λ x h. inl h;
  covers = λ x h. elim h [
    | inl n ↦ subst (λ y. comes_before y g ≡ false) (held_one g x n) (not_before_itself g)
    | inr s ↦ subst (λ y. comes_before y g ≡ false) (same_is f x s) b
  ];
}

-- ---- the laws

pub notes_then : (p q : Fault → Bool) (a b c : Option Fault) → Notes p a b → Notes q b c → Notes (λ f. p f || q f) a c
notes_then p q a b c m n = record {
  held = λ f h. elim (n.held f h) [
    | inl k ↦ elim (m.held f k) [ inl j ↦ inl j | inr j ↦ inr (or_left (p f) (q f) j) ]
    | inr k ↦ inr (or_right (p f) (q f) k)
  ];
  covers = λ f h. elim h [
    | inl k ↦ covers_on b c f (λ g e. n.covers g (inl e)) (m.covers f (inl k))
    | inr k ↦ elim (or_cases (p f) (q f) k) [
      | inl j ↦ covers_on b c f (λ g e. n.covers g (inl e)) (m.covers f (inr j))
      | inr j ↦ n.covers f (inr j)
    ]
  ];
}

pub notes_none : (p : Fault → Bool) (a : Option Fault) → ((f : Fault) → IsFalse (p f)) → Notes p a a
notes_none p a none = record {
  held = λ f h. inl h;
  covers = λ f h. elim h [ inl k ↦ covers_itself a f k | inr k ↦ absurd (both_ways (p f) (none f) k) ];
}

pub notes_alike : (p q : Fault → Bool) (a b : Option Fault) → ((f : Fault) → p f ≡ q f) → Notes p a b → Notes q a b
notes_alike p q a b same m = record {
  held = λ f h. elim (m.held f h) [ inl k ↦ inl k | inr k ↦ inr (sym (same f) ∙ k) ];
  covers = λ f h. m.covers f (elim h [ inl k ↦ inl k | inr k ↦ inr (same f ∙ k) ]);
}

pub notes_apart : (p : Fault → Bool) (a b c : Option Fault) → Notes p None b → Notes (is_held b) a c → Notes p a c
notes_apart p a b c m n = record {
  held = λ f h. elim (n.held f h) [ inl k ↦ inl k | inr k ↦ elim (m.held f (held_is b f k)) [ inl j ↦ nothing f j | inr j ↦ inr j ] ];
  covers = λ f h. elim h [
    | inl k ↦ n.covers f (inl k)
    | inr k ↦ covers_on b c f (λ g e. n.covers g (inr (is_it b g e))) (m.covers f (inr k))
  ];
}
  where
    held_is : (o : Option Fault) (f : Fault) → is_held o f ≡ true → o ≡ Some f
    held_is None f k = absurd (both_ways false refl k)
    held_is (Some g) f k = ap Some (same_is g f k)

    is_it : (o : Option Fault) (g : Fault) → o ≡ Some g → is_held o g ≡ true
    is_it o g e = subst (λ x. is_held x g ≡ true) (sym e) (is_same g)

pub notes_first : (p : Fault → Bool) (b : Option Fault) → Notes p None b → FirstOf p b
notes_first p None m = λ f. false_from_ne_true (p f) (λ k. m.covers f (inr k))
notes_first p (Some f) m = record {
  picked = elim (m.held f refl) [ inl k ↦ nothing f k | inr k ↦ k ];
  none_before = λ g k. m.covers g (inr k);
}

pub noting_laws : NotingLaws
noting_laws = record { in_turn = notes_then; nothing = notes_none; alike = notes_alike; apart = notes_apart; first = notes_first }
