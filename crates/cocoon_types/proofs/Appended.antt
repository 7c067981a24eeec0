-- Token indices of two lists, one after the other.
use Rattle.std.proofs.Common.{◌≡◌, ℕ, ◌==◌, ◌&&◌, ◌||◌, Bool, true, false, List, [], ◌∷◌, ◌++◌, Option, refl, sym, ap, ◌∙◌}
use Rattle.cocoon_num.specs.Lists.{has_number}
use Rattle.cocoon_types.specs.Rules.{Rule}
use Rattle.cocoon_types.specs.RuleParts.{unless}
use Rattle.cocoon_types.specs.FirstFault.{Fault, rank}
use Rattle.cocoon_types.specs.Noting.{Notes, NotingLaws, same_fault}
use Rattle.cocoon_types.specs.Among.{among, AmongLaws}

has-append : (n : ℕ) (xs ys : List ℕ) → has_number n (xs ++ ys) ≡ has_number n xs || has_number n ys
has-append n [] ys = refl
has-append n (x ∷ xs) ys = by (n == x) (has_number n xs) (has_number n ys) (has_number n (xs ++ ys)) (has-append n xs ys)
  where
    by : (a b c r : Bool) → r ≡ b || c → a || r ≡ (a || b) || c
    by true b c r e = refl
    by false b c r e = e

among-append : (rule : Rule) (xs ys : List ℕ) (f : Fault) → among rule xs f || among rule ys f ≡ among rule (xs ++ ys) f
among-append rule xs ys f = by (rank f.rule == rank rule) (has_number f.at xs) (has_number f.at ys) ∙ ap (λ b. (rank f.rule == rank rule) && b) (sym (has-append f.at xs ys))
  where
    by : (a b c : Bool) → (a && b) || (a && c) ≡ a && (b || c)
    by true b c = refl
    by false b c = refl

notes-none : NotingLaws → (rule : Rule) (a : Option Fault) → Notes (among rule []) a a
notes-none laws rule a = laws.nothing (among rule []) a (λ f. by (rank f.rule == rank rule))
  where
    by : (b : Bool) → b && false ≡ false
    by true = refl
    by false = refl

notes-append : NotingLaws → (rule : Rule) (xs ys : List ℕ) (a b c : Option Fault) → Notes (among rule xs) a b → Notes (among rule ys) b c → Notes (among rule (xs ++ ys)) a c
notes-append laws rule xs ys a b c h k = laws.alike (λ f. among rule xs f || among rule ys f) (among rule (xs ++ ys)) a c (among-append rule xs ys) (laws.in_turn (among rule xs) (among rule ys) a b c h k)

pub holds : NotingLaws → (rule : Rule) (at : ℕ) (a : Option Fault) → Notes (among rule (unless true at)) a a
holds laws rule at a = notes-none laws rule a

pub failed : NotingLaws → (rule : Rule) (at : ℕ) (a b : Option Fault) → Notes (same_fault (record { rule = rule; at = at })) a b → Notes (among rule (unless false at)) a b
failed laws rule at a b h = laws.alike (same_fault (record { rule = rule; at = at })) (among rule (at ∷ [])) a b (λ f. ap (λ t. (rank f.rule == rank rule) && t) (by (f.at == at))) h
  where
    by : (b : Bool) → b ≡ b || false
    by true = refl
    by false = refl

pub among_laws : NotingLaws → AmongLaws
among_laws laws = record { none = notes-none laws; append = notes-append laws }
