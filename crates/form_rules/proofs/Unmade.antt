-- A hidden choice is one that a statement makes.
use Rattle.std.specs.Prelude.{◌≡◌, ℕ, ◌==◌, ◌&&◌, Bool, false, not, List, ◌++◌, refl}
use Rattle.std.proofs.Common.{sym, ◌∙◌, ap}
use Rattle.std.proofs.lemmas.Bool.{or_parts, or_from, and_left}
use Rattle.cocoon_num.specs.Tree.{Stmt, let_, set_field, if_, filter, havoc_var, havoc_field, assume, fork, send, Block, no_stmts, stmt}
use Rattle.cocoon_num.specs.Lists.{has_number}
use Rattle.form_rules.specs.Following.{Names, Holding, meets, leaves, moved, bound, after, occurs, stands, finds, finds_in, at_first, is_hidden, choices_of, choices_in}
use Rattle.form_rules.proofs.Lists.{number_append}

-- neither of two lists has it
neither : (c : ℕ) (ms ns : List ℕ) → has_number c (ms ++ ns) ≡ false → (has_number c ms ≡ false) × (has_number c ns ≡ false)
neither c ms ns h = or_parts (has_number c ms) (has_number c ns) (sym (number_append c ms ns) ∙ h)

same_choice_after : (s : Stmt) (n : Names) → (after s n).choice ≡ n.choice
same_choice_after (let_ at x w e) n = refl
same_choice_after (havoc_var at x w) n = refl
same_choice_after s n = refl

-- a test that fails on all that have not made the choice
abbrev Fails : (Holding → Bool) → Type 0
Fails t = (s : Holding) → s.made ≡ false → t s ≡ false

mutual
  none_found : (s : Stmt) (n : Names) (t : Holding → Bool) (h : Holding) → has_number n.choice (choices_of s) ≡ false → h.made ≡ false → Fails t → finds n s t h ≡ false
  none_found (let_ at x w e) n t h none made fails = fails (moved n (let_ at x w e) h) made
  none_found (set_field at g f e) n t h none made fails = fails (moved n (set_field at g f e) h) made
  none_found (if_ at e a b) n t h none made fails =
      let apart = neither n.choice (choices_in a) (choices_in b) none in
      let out : Fails (λ q. t (leaves n q)) = λ s m. fails (leaves n s) m in
      or_from (finds_in n a (λ q. t (leaves n q)) (meets n e h)) (finds_in n b (λ q. t (leaves n q)) (meets n e h))
      (none_found_in a n (λ q. t (leaves n q)) (meets n e h) apart.0 made out) (none_found_in b n (λ q. t (leaves n q)) (meets n e h) apart.1 made out)
  none_found (filter at e) n t h none made fails = fails (moved n (filter at e) h) made
  none_found (havoc_var at x w) n t h none made fails =
      let other = or_parts (n.choice == at) false none in
      fails (moved n (havoc_var at x w) h) (or_from (n.choice == at) h.made other.0 made)
  none_found (havoc_field at g f) n t h none made fails =
      let other = or_parts (n.choice == at) false none in
      fails (moved n (havoc_field at g f) h) (or_from (n.choice == at) h.made other.0 made)
  none_found (assume at e) n t h none made fails = fails (moved n (assume at e) h) made
  none_found (fork at x w e b) n t h none made fails =
      let other = or_parts (n.choice == at) (has_number n.choice (choices_in b)) none in
      none_found_in b (bound x n) (λ q. false) (moved (bound x n) (fork at x w e b) h) other.1 (or_from (n.choice == at) h.made other.0 made) (λ s m. refl)
  none_found (send at r es) n t h none made fails = and_left (h.made && occurs n es h) (not (stands n es h)) (and_left h.made (occurs n es h) made)

  none_found_in : (b : Block) (n : Names) (t : Holding → Bool) (h : Holding) → has_number n.choice (choices_in b) ≡ false → h.made ≡ false → Fails t → finds_in n b t h ≡ false
  none_found_in no_stmts n t h none made fails = fails h made
  none_found_in (stmt s rest) n t h none made fails =
      let apart = neither n.choice (choices_of s) (choices_in rest) none in
      none_found s n (finds_in (after s n) rest t) h apart.0 made (λ q m. none_found_in rest (after s n) t q (ap (λ c. has_number c (choices_in rest)) (same_choice_after s n) ∙ apart.1) m fails)

-- a choice that no statement makes is not hidden
pub none_hidden : (n : Names) (b : Block) → has_number n.choice (choices_in b) ≡ false → is_hidden n b ≡ false
none_hidden n b none = none_found_in b n (λ q. false) (at_first n) none refl (λ s m. refl)
