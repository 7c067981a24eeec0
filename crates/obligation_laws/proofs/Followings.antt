-- Which states come of others.
use Rattle.std.proofs.Common.{◌≡◌, ◌⊎◌, inl, inr, ℕ, List, [], ◌∷◌, Bool, true, false, cond, Option, Some, None, is_some, refl, ap, ◌∙◌}
use Rattle.std.specs.Prelude.{filter}
use Rattle.sound_types.proofs.Members.{In, in_either}
use Rattle.obligation_laws.specs.States.{Place, State}
use Rattle.obligation_laws.specs.Following.{Followed, each, one, unless_sent}

-- a state that comes of some comes of one of them
pub each_in : (f : State → ℕ → Followed) (ss : List State) (n : ℕ) (t : State) → In t (each f ss n).0 → (s : State) × In s ss × (k : ℕ) × In t (f s k).0
each_in f [] n t h = absurd h
each_in f (s ∷ ss) n t h = elim (in_either t (f s n).0 (each f ss (f s n).1).0 h) [
  | inl k ↦ (s, inl refl, n, k)
  | inr k ↦ let r = each_in f ss (f s n).1 t k in (r.0, inr r.1, r.2, r.3)
]

-- a member that passes a test
pub passed : {A : Type 0} (p : A → Bool) (xs : List A) (x : A) → In x (filter p xs) → In x xs × (p x ≡ true)
passed p [] x h = absurd h
passed p (y ∷ xs) x h = by (passed p xs x) (p y) refl h
  where
    by : (In x (filter p xs) → In x xs × (p x ≡ true)) → (b : Bool) → p y ≡ b → In x (cond b (y ∷ filter p xs) (filter p xs)) → In x (y ∷ xs) × (p x ≡ true)
    by later true e k = elim k [
      | inl same ↦ (inl same, ap p same ∙ e)
      | inr l ↦ (inr (later l).0, (later l).1)
    ]
    by later false e k = (inr (later k).0, (later k).1)

pub some_place : (o : Option Place) → is_some o ≡ true → (at : Place) × (o ≡ Some at)
some_place None h = absurd (cc)
some_place (Some at) h = (at, refl)

-- a way that has sent stays as it is
pub unless_in : (f : State → ℕ → Followed) (s : State) (n : ℕ) (t : State) → In t (unless_sent f s n).0
    → ((s.sent ≡ None) × In t (f s n).0) ⊎ ((at : Place) × (s.sent ≡ Some at) × (t ≡ s))
unless_in f s n t h = by s.sent refl h
  where
    by : (o : Option Place) → s.sent ≡ o → In t (elim o as (λ x. Followed) [ None ↦ f s n | Some at ↦ one s n ]).0 → ((s.sent ≡ None) × In t (f s n).0) ⊎ ((at : Place) × (s.sent ≡ Some at) × (t ≡ s))
    by None e k = inl (e, k)
    by (Some at) e k = elim k [ inl same ↦ inr (at, e, same) | inr l ↦ absurd l ]
