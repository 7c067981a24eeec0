-- Obligations of roles and of levels, one after another.
use Rattle.std.proofs.Common.{◌≡◌, ℕ, zero, suc, ◌+◌, ◌<◌, ◌≤◌, List, [], ◌∷◌, ◌++◌, drop, map, length, get_or, Option, Some, None, refl, sym, ap, subst, ◌∙◌, arith}
use Rattle.std.specs.Prelude.{slice_get}
use Rattle.std.proofs.Math.ListN.{drop_of_length-le}
use Rattle.std.proofs.Math.Seq.{drop-cons}
use Rattle.std.proofs.lemmas.List.{append_assoc, append-nil}
use Rattle.cocoon_num.specs.Tree.{Name, Refine, Design}
use Rattle.bv_terms.specs.declared.node.Node.{Node}
use Rattle.bv_terms.specs.Arenas.{KeepsTerms, inputs_in}
use Rattle.bv_terms.proofs.ReplaceFacts.{keeps-both}
use Rattle.obligation_laws.specs.Obligations as owed
use Rattle.obligation_laws.specs.Obligations.{Owed, of_block, of_blocks, of_role, of_roles, obligations_behind}
use Rattle.obligation_gen.specs.Shown.{ShowsObligation, ShowsObligations}
use Rattle.obligation_gen.specs.declared.obligation.Obligation.{Obligation}
use Rattle.obligation_gen.proofs.Leaves.{shown_both}

-- some obligations were made, and these are still to come
pub record Owing (d : Design) (start now : List Node) (all : List Obligation) (left whole : Owed) : Type 0 where
  pub kept : KeepsTerms start now
  pub done : List owed.Obligation
  pub shows : ShowsObligations d now all done
  pub rest : done ++ left.0 ≡ whole.0
  pub next : left.1 ≡ whole.1

pub none_owing : (d : Design) (start : List Node) (whole : Owed) → KeepsTerms start start → Owing d start start [] whole whole
none_owing d start whole k = record { kept = k; done = []; shows = tt; rest = refl; next = refl }

one_owing : (d : Design) (start now new : List Node) (all more : List Obligation) (one : Owed) (left : ℕ → Owed) (whole : Owed) → Owing d start now all (owed.then_owed one left) whole → KeepsTerms now new
    → ShowsObligations d new more one.0 → inputs_in new ≡ one.1 → Owing d start new (all ++ more) (left (inputs_in new)) whole
one_owing d start now new all more one left whole g step made at = record {
  kept = keeps-both start now new g.kept step;
  done = g.done ++ one.0;
  shows = shown_both d now new all more g.done one.0 step g.shows made;
  rest = append_assoc g.done one.0 (left (inputs_in new)).0 ∙ (λ j. g.done ++ (one.0 ++ (left (at j)).0)) ∙ g.rest;
  next = (λ j. (left (at j)).1) ∙ g.next;
}

pub all_shown : (d : Design) (start now : List Node) (all : List Obligation) (left whole : Owed) → Owing d start now all left whole → left.0 ≡ [] → ShowsObligations d now all whole.0
all_shown d start now all left whole g e = subst (ShowsObligations d now all) (sym (append-nil g.done) ∙ ap (λ os. g.done ++ os) (sym e) ∙ g.rest) g.shows

-- ---- roles

module _ (d : Design) (above : ℕ) (block : Refine) {A : Type 0} (name : A → Name) where
  -- those of the roles from this one on
  abbrev pub left_of : List A → (k n : ℕ) → Owed
  left_of names k n = of_roles above d block (map name (drop k names)) n

  pub one_role : (start now new : List Node) (names : List A) (all more : List Obligation) (k : ℕ) (x : A) → k < length names → x ≡ get_or names k x
      → Owing d start now all (left_of names k (inputs_in now)) (left_of names 0 (inputs_in start)) → KeepsTerms now new
      → ShowsObligations d new more (of_role above d block (name x).text (inputs_in now)).0 → inputs_in new ≡ (of_role above d block (name x).text (inputs_in now)).1
      → Owing d start new (all ++ more) (left_of names (k + 1) (inputs_in new)) (left_of names 0 (inputs_in start))
  one_role start now new names all more k x l e g step made at =
      let next : suc k ≡ k + 1 = omega arith in
      let here : drop k names ≡ x ∷ drop (k + 1) names = drop-cons names k x l ∙ (λ j. sym e j ∷ drop (next j) names) in
      one_owing d start now new all more (of_role above d block (name x).text (inputs_in now)) (left_of names (k + 1)) (left_of names 0 (inputs_in start))
      (subst (λ xs. Owing d start now all (of_roles above d block (map name xs) (inputs_in now)) (left_of names 0 (inputs_in start))) here g) step made at

  pub no_role : (names : List A) (k n : ℕ) → length names ≤ k → left_of names k n ≡ ([], n)
  no_role names k n e = ap (λ xs. of_roles above d block (map name xs) n) (drop_of_length-le names e)

-- ---- levels

abbrev pub left_behind : Design → (k n : ℕ) → Owed
left_behind d k n = of_blocks k d (drop k d.refines) n

behind_is : (d : Design) (k n : ℕ) → k < length d.refines → left_behind d k n ≡ owed.then_owed (obligations_behind k d n) (left_behind d (suc k))
behind_is d k n l = by d.refines k l
  where
    by : (bs : List Refine) (i : ℕ) → i < length bs
        → of_blocks k d (drop i bs) n ≡ owed.then_owed (elim (slice_get bs i) as (λ x. Owed) [ None ↦ ([], n) | Some b ↦ of_block k d b n ]) (of_blocks (suc k) d (drop (suc i) bs))
    by [] i m = absurd (omega (arith, m))
    by (b ∷ bs) zero m = refl
    by (b ∷ bs) (suc i) m = by bs i (omega (arith, m))

pub one_level : (d : Design) (start now new : List Node) (all more : List Obligation) (k : ℕ) (whole : Owed) → k < length d.refines → Owing d start now all (left_behind d k (inputs_in now)) whole → KeepsTerms now new
    → ShowsObligations d new more (obligations_behind k d (inputs_in now)).0 → inputs_in new ≡ (obligations_behind k d (inputs_in now)).1
    → Owing d start new (all ++ more) (left_behind d (suc k) (inputs_in new)) whole
one_level d start now new all more k whole l g step made at =
    one_owing d start now new all more (obligations_behind k d (inputs_in now)) (left_behind d (suc k)) whole
    (subst (λ (z : Owed). Owing d start now all z whole) (behind_is d k (inputs_in now) l) g) step made at

pub no_level : (d : Design) (k n : ℕ) → length d.refines ≤ k → left_behind d k n ≡ ([], n)
no_level d k n e = ap (λ bs. of_blocks k d bs n) (drop_of_length-le d.refines e)

-- ---- the block of a level

pub block_is : (d : Design) (above n : ℕ) (block : Refine) → slice_get d.refines above ≡ Some block → obligations_behind above d n ≡ of_block above d block n
block_is d above n block at = ap (λ (o : Option Refine). elim o as (λ x. Owed) [ None ↦ ([], n) | Some b ↦ of_block above d b n ]) at
